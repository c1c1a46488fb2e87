-- A store that was begun: its reserves, the length of its bytes, and the bytes at the front of the buffer.
use Rattle.base.specs.declared.Refusal.{Refusal}
use Rattle.std.specs.Prelude.{Ok, Err, Result}
use mathlib.Core.Path.{◌≡◌, refl, ap, ◌∙◌}
use mathlib.Core.Bool.{Bool, true, false, cond, not, ◌&&◌}
use mathlib.Core.List.{List}
use Prim.Native.Nat.{ℕ, ◌-◌, ◌/◌, ◌%◌, ◌≤◌}
use native.Mathlib.Omega.{arith}
use lib.Dec.{eqb, leb}
use lib.ListN.{drop, get_or, length, length-append, length-replicate, replicate, take}
use lib.Seq.{take_at}
use borrow.Author.Tests.{leb-true}
use Rattle.base.specs.Sums.{sum_below}
use Rattle.base.proofs.Numbers.{length_bytes_of_lem}
use Rattle.base.proofs.Tests.{both_true}
use Rattle.base.specs.Refusals.{After, unwritten, written}
use Rattle.base.specs.declared.Refusal.TheVariants.{BadClientOrNumber, DoesNotFit, OutputTooShort}
use Rattle.policy.specs.PolicyBytes.{numbers_of}
use Rattle.policy.proofs.Bytes.{length_words_from}
use Rattle.store.specs.Store.{clients, new_store, reserve}
use Rattle.store.specs.Bytes.{begin_call, new_bytes, new_words, store_bytes}

pub few_reserves : (rb : List ℕ) → length rb ≤ 128 → length (numbers_of rb) ≤ 16
few_reserves rb h = omega (arith, length_words_from (length rb / 8) 0 rb)

pub new_length : (C : ℕ) (rs : List ℕ) → length rs ≤ 16 → length (new_words C rs) ≡ 4129
new_length C rs h = omega (arith, length-append rs (replicate (4128 - length rs) 0), length-replicate {A = ℕ} (4128 - length rs) 0)

pub new_bytes_length : (C : ℕ) (rs : List ℕ) → length rs ≤ 16 → length (new_bytes C rs) ≡ 33032
unfolding new_bytes
new_bytes_length C rs h = omega (arith, length_bytes_of_lem (new_words C rs), new_length C rs h)

-- ---- beginning, by the answers of its tests

module _ (C : ℕ) (rb st : List ℕ) where
  abbrev rs : List ℕ
  rs = numbers_of rb

  abbrev pub by_tests_lem : (long whole fit : Bool) → After (Result ℕ Refusal) ℕ
  by_tests_lem long whole fit =
      cond (not long) (unwritten (Err (OutputTooShort store_bytes)) st)
      (cond (not whole) (unwritten (Err BadClientOrNumber) st)
      (cond (not fit) (unwritten (Err (DoesNotFit C)) st) (written (Ok store_bytes) (new_bytes C rs) st)))

  -- The reserves are whole numbers, of at most 16 clients.
  abbrev pub Whole : Bool
  Whole = eqb (length rb % 8) 0 && leb (length rb) 128

  -- The reserves sum to at most the capacity.
  abbrev pub Fit : Bool
  Fit = leb (sum_below clients (λ (c : ℕ). get_or rs c 0)) C

  pub begin_is : begin_call C rb st ≡ by_tests_lem (leb store_bytes (length st)) Whole Fit
  unfolding begin_call
  begin_is = refl

  -- What is known of a store that was begun.
  pub record Begun : Type 0 where
    pub few : length rs ≤ clients
    pub fit : sum_below clients (reserve (new_store C rs)) ≤ C
    pub bytes : take store_bytes (begin_call C rb st).buffer ≡ new_bytes C rs

  pub begun : (begin_call C rb st).answer ≡ Ok store_bytes → Begun
  unfolding begin_call
  begun e = go (leb store_bytes (length st)) Whole refl Fit refl e refl
    where
      go : (a w : Bool) → Whole ≡ w → (f : Bool) → Fit ≡ f → (by_tests_lem a w f).answer ≡ Ok store_bytes
          → begin_call C rb st ≡ by_tests_lem a w f → Begun
      go false w p f q e g = let z : ◌≡◌ {A = ℕ} 0 1 = cc in absurd (omega arith)
      go true false p f q e g = let z : ◌≡◌ {A = ℕ} 0 1 = cc in absurd (omega arith)
      go true true p false q e g = let z : ◌≡◌ {A = ℕ} 0 1 = cc in absurd (omega arith)
      go true true p true q e z =
          let b = both_true (eqb (length rb % 8) 0) (leb (length rb) 128) p in
          let m = few_reserves rb (leb-true (length rb) 128 b.1) in
          record {
            few = m;
            fit = leb-true (sum_below clients (λ (c : ℕ). get_or rs c 0)) C q;
            bytes =
                ap (λ (x : After (Result ℕ Refusal) ℕ). take store_bytes x.buffer) z
                ∙ take_at (new_bytes C rs) (drop (length (new_bytes C rs)) st) store_bytes (new_bytes_length C rs m);
          }
