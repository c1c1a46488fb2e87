-- The tests of bytes as a feed whose policy may change.
use mathlib.Core.Path.{◌≡◌, ap, sym, ◌∙◌}
use mathlib.Core.Bool.{Bool, true, false}
use mathlib.Core.List.{List}
use Prim.Native.Nat.{ℕ, ◌-◌}
use lib.ListN.{drop, length, length-drop, take}
use lib.Seq.{take-length}
use borrow.Author.Tests.{eq-eqb, ne_eqb}
use Rattle.base.specs.Words.{number}
use Rattle.policy.specs.PolicyBytes.{is_policy}
use Rattle.feed.specs.Bytes.{is_feed}
use Rattle.policy_change.specs.Bytes.{is_changing}

module _ (bs : List ℕ) where
  pub test_1 : (length bs ≡ 528 → ⊥) → false ≡ is_changing bs
  unfolding is_changing
  test_1 h = sym (simp (ne_eqb (length bs) 528 h))

  module _ (h : length bs ≡ 528) where
    pub test-2 : is_feed (take 320 bs) ≡ false → false ≡ is_changing bs
    unfolding is_changing
    test-2 e = sym (simp (eq-eqb (length bs) 528 h, e))

    pub test-3 : is_feed (take 320 bs) ≡ true → number (take 8 (drop 320 bs)) ≡ 0 → true ≡ is_changing bs
    unfolding is_changing
    test-3 e z = sym (simp (eq-eqb (length bs) 528 h, e, eq-eqb (number (take 8 (drop 320 bs))) 0 z))

    pub test-4 : is_feed (take 320 bs) ≡ true → (number (take 8 (drop 320 bs)) ≡ 0 → ⊥) → {r : Bool} → r ≡ is_policy (drop 328 bs)
        → r ≡ is_changing bs
    unfolding is_changing
    test-4 e z p = p ∙ sym (simp (eq-eqb (length bs) 528 h, e, ne_eqb (number (take 8 (drop 320 bs))) 0 z))

-- The last part, as it is lent to a function.
pub policy-lent : (bs : List ℕ) → take (length bs - 328) (drop 328 bs) ≡ drop 328 bs
policy-lent bs = ap (λ (n : ℕ). take n (drop 328 bs)) (sym (length-drop 328 bs)) ∙ take-length (drop 328 bs)
