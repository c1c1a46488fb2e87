-- The proof of each statement of specs/Theorems.antt.
use Rattle.std.specs.Prelude.{Err}
use mathlib.Core.Path.{◌≡◌, refl, ap, sym, subst}
use mathlib.Core.Bool.{Bool, true, false}
use mathlib.Core.List.{List}
use Prim.Native.Nat.{ℕ}
use native.Mathlib.Omega.{arith}
use lib.Dec.{leb}
use lib.ListN.{length}
use Rattle.base.specs.declared.Refusal.{Refusal}
use Rattle.policy.specs.PolicyBytes.{numbers_of}
use Rattle.formatter.specs.Format.{format}
use Rattle.store.specs.Store.{new_store}
use Rattle.store.specs.Calls.{charge_of, output_by, store_after}
use Rattle.store.specs.Bytes.{begin_call, bytes_after, file_bytes, file_call, release_bytes, release_call, store_bytes}
use Rattle.store.specs.Theorems.{EveryStoreInBytes, InBytes, RefusalsWriteNothing}
use Rattle.store.proofs.NewStores.{every_store, in_bytes}
use Rattle.store.proofs.Beginning.{Fit, Whole, begun, by_tests_lem}

pub every_store_in_bytes : EveryStoreInBytes
unfolding EveryStoreInBytes
every_store_in_bytes C rb st w e xs =
    let b = begun C rb st e in
    let s = store_after (new_store C (numbers_of rb)) xs in (
      subst (λ (bs : List ℕ). InBytes (bytes_after bs xs) s) (sym b.bytes) (in_bytes C (numbers_of rb) b.few b.fit w xs),
      every_store C (numbers_of rb) b.few b.fit xs,
    )

-- ---- refusals

file_refused : (bs text policy : List ℕ) (c n : ℕ) (out : List ℕ) (r : Refusal) → (file_call bs text policy c n out).answer ≡ Err r
    → ((file_call bs text policy c n out).store ≡ bs) × ((file_call bs text policy c n out).out ≡ out)
unfolding file_call
file_refused bs text policy c n out r e = (
  ap (file_bytes c n (charge_of text policy) bs) e,
  ap (output_by (format text policy out).buffer out) e,
)

release_refused : (bs : List ℕ) (c n : ℕ) (r : Refusal) → (release_call bs c n).answer ≡ Err r
    → (release_call bs c n).buffer ≡ bs
unfolding release_call
release_refused bs c n r e = ap (release_bytes c n bs) e

begin_refused : (bs : List ℕ) (C : ℕ) (rb : List ℕ) (r : Refusal) → (begin_call C rb bs).answer ≡ Err r
    → (begin_call C rb bs).buffer ≡ bs
unfolding begin_call
begin_refused bs C rb r e = go (leb store_bytes (length bs)) (Whole C rb bs) (Fit C rb bs) e
  where
    go : (a w f : Bool) → (by_tests_lem C rb bs a w f).answer ≡ Err r → (by_tests_lem C rb bs a w f).buffer ≡ bs
    go false w f e = refl
    go true false f e = refl
    go true true false e = refl
    go true true true e = let z : ◌≡◌ {A = ℕ} 0 1 = cc in absurd (omega arith)

pub refusals_write_nothing : RefusalsWriteNothing
unfolding RefusalsWriteNothing
refusals_write_nothing bs = (file_refused bs, release_refused bs, begin_refused bs)
