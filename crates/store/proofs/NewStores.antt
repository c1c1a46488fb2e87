-- A new store, and every list of calls on it: the claim on the store, and the store in bytes.
use mathlib.Core.Path.{refl}
use mathlib.Core.List.{List}
use Prim.Native.Nat.{ℕ, ◌^◌, ◌≤◌, ◌<◌}
use native.Mathlib.Omega.{arith}
use lib.ListN.{length}
use Rattle.base.specs.Sums.{sum_below}
use Rattle.store.specs.Store.{Sound, charged, clients, new_store, none_filed, overflow, reserve}
use Rattle.store.specs.Calls.{Call, changes, store_after}
use Rattle.store.specs.Bytes.{bytes_after, new_bytes}
use Rattle.store.specs.Theorems.{InBytes, StoreClaim}
use Rattle.store.proofs.Represented.{answer-same, new_represented, output_same, represents_after, used-same}
use Rattle.store.proofs.Runs.{charges, charges_in_all, same_capacity, same_reserves, sound_after, within_capacity}
use Rattle.store.proofs.Small.{small_use}
use Rattle.store.proofs.Steps.{call_claim, file_claim, gives_back, takes}
use Rattle.store.proofs.Sums.{sum_zero}

module _ (C : ℕ) (rs : List ℕ) (f : length rs ≤ clients) (r : sum_below clients (reserve (new_store C rs)) ≤ C) where
  sound_new : Sound (new_store C rs)
  unfolding charged
  sound_new = record {
    few = f;
    reserved = r;
    holds = omega (arith, sum_zero clients (overflow (new_store C rs)) (λ d. omega arith));
    placed = none_filed;
  }

  pub every_store : (xs : List Call) → StoreClaim C rs (changes (new_store C rs) xs) (store_after (new_store C rs) xs)
  every_store xs =
      let n = new_store C rs in
      let s = store_after n xs in
      let h = sound_after n sound_new xs in
      record {
        same_capacity = same_capacity n xs;
        same_reserves = same_reserves n xs;
        sound = h;
        charges = charges n xs refl;
        in_all = charges_in_all n xs refl;
        within_capacity = omega (arith, within_capacity s h, same_capacity n xs);
        small_use = small_use n refl xs h;
        calls = call_claim s;
        files = file_claim s;
        takes = λ t p c m o e. takes s t p c m o h e;
        releases = λ c m k e. gives_back s c m h k e;
      }

  pub in_bytes : C < 2 ^ 64 → (xs : List Call) → InBytes (bytes_after (new_bytes C rs) xs) (store_after (new_store C rs) xs)
  in_bytes w xs =
      let b = bytes_after (new_bytes C rs) xs in
      let s = store_after (new_store C rs) xs in
      let R = represents_after (new_bytes C rs) (new_store C rs) sound_new (new_represented C rs w f r) xs in
      record { represents = R; answers = answer-same b s R; outputs = output_same b s R; uses = used-same b s R }
