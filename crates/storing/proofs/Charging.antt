-- Charging: the outcome by the tests.
use Rattle.std.specs.Prelude.{Ok, Err, Result, Option, ⊤, Some, None}
use mathlib.Core.Path.{◌≡◌, refl, ap, ap₂, sym, ◌∙◌}
use mathlib.Core.Bool.{Bool, true, false, cond, not, ◌&&◌, ◌||◌}
use mathlib.Core.List.{List}
use Prim.Native.Nat.{ℕ, ◌≤◌, ◌<◌}
use native.Mathlib.Omega.{arith}
use lib.Dec.{leb, ltb}
use borrow.Author.Tests.{le-ltb, le-leb, lt-leb, lt-ltb}
use Rattle.base.proofs.Answering.{ends_as}
use Rattle.base.specs.Answers.{EndsAs, check_row}
use Rattle.base.specs.Refusals.{After, checked, or_else}
use Rattle.base.specs.Sums.{most}
use Rattle.base.specs.declared.Refusal.{Refusal}
use Rattle.base.specs.declared.Refusal.TheVariants.{BadClientOrNumber, DoesNotFit}
use Rattle.store.specs.Bytes.{charge, charge_call, charge_refusal, has_place, is_bad, is_taken, left_of}

module _ (bs : List ℕ) (c n k : ℕ) where
  abbrev L : ℕ
  L = left_of bs c

  abbrev outcome : Option Refusal → After (Result ⊤ Refusal) ℕ
  outcome o = record { answer = checked o; buffer = or_else o (λ (r : Refusal). bs) (charge c n k bs) }

  -- The refusal by tests 13 and 14.
  abbrev by_tests_lem : (bad fits : Bool) → Option Refusal
  by_tests_lem bad fits = cond bad (Some BadClientOrNumber) (cond fits None (Some (DoesNotFit L)))

  charge_is : {bad fits : Bool} → is_bad bs c n ≡ bad → (leb k L && ltb k most) ≡ fits
      → charge_call bs c n k ≡ outcome (by_tests_lem bad fits)
  unfolding charge_call charge_refusal
  charge_is p q = ap₂ (λ (x y : Bool). outcome (by_tests_lem x y)) p q

  bad : is_bad bs c n ≡ true → EndsAs check_row (charge_call bs c n k) (Err BadClientOrNumber) bs
  bad p = ends_as (sym (charge_is p refl))

  pub no_place-charged : has_place bs c n ≡ false → EndsAs check_row (charge_call bs c n k) (Err BadClientOrNumber) bs
  no_place-charged e = bad (ap (λ (t : Bool). not t || is_taken bs c n) e)

  pub taken-charged : is_taken bs c n ≡ true → EndsAs check_row (charge_call bs c n k) (Err BadClientOrNumber) bs
  taken-charged e = bad (ap (λ (t : Bool). not (has_place bs c n) || t) e ∙ either (has_place bs c n))
    where
      either : (t : Bool) → (not t || true) ≡ true
      either true = refl
      either false = refl

  module _ (p : has_place bs c n ≡ true) (q : is_taken bs c n ≡ false) (l : ℕ) (e : l ≡ L) where
    free : is_bad bs c n ≡ false
    free = ap₂ (λ (x y : Bool). not x || y) p q

    refused : (leb k L && ltb k most) ≡ false → EndsAs check_row (charge_call bs c n k) (Err (DoesNotFit l)) bs
    refused f = ends_as (ap (λ (m : ℕ). outcome (Some (DoesNotFit m))) e ∙ sym (charge_is free f))

    pub short-charged : l < k → EndsAs check_row (charge_call bs c n k) (Err (DoesNotFit l)) bs
    short-charged h = refused (ap (λ (t : Bool). t && ltb k most) (lt-leb k L (omega arith)))

    pub most-charged : k ≤ l → k ≡ most → EndsAs check_row (charge_call bs c n k) (Err (DoesNotFit l)) bs
    most-charged h m = refused (ap₂ (λ (t u : Bool). t && u) (le-leb k L (omega arith)) (le-ltb k most (omega arith)))

    pub is-charged : k ≤ l → k < most → (bs' : List ℕ) → bs' ≡ charge c n k bs → EndsAs check_row (charge_call bs c n k) (Ok tt) bs'
    is-charged h m bs' f =
        ends_as (ap (λ (b : List ℕ). made b) f
        ∙ sym (charge_is free (ap₂ (λ (t u : Bool). t && u) (le-leb k L (omega arith)) (lt-ltb k most m))))
      where
        made : List ℕ → After (Result ⊤ Refusal) ℕ
        made b = record { answer = Ok tt; buffer = b }
