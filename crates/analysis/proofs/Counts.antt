-- The sum of records of counts: it is associative, an equal summand cancels, `empty` is its zero, and only `empty` has the total 0.
use mathlib.Core.Path.{◌≡◌, ap}
use native.Mathlib.Omega.{arith}
use Rattle.analysis.specs.Counts.{◌⊕◌, empty, total}
use Rattle.analysis.specs.declared.types.NonCanonicality.{NonCanonicality}

pub counts_path : (m n : NonCanonicality)
    → m.unsanctioned_selectors ≡ n.unsanctioned_selectors
    → m.modifier_defective_selectors ≡ n.modifier_defective_selectors
    → m.additional_defective_selectors ≡ n.additional_defective_selectors
    → m.tag_conflicting_selectors ≡ n.tag_conflicting_selectors
    → m.tag_forced_presentations ≡ n.tag_forced_presentations
    → m.tag_redundant_selectors ≡ n.tag_redundant_selectors
    → m.policy_redundant_selectors ≡ n.policy_redundant_selectors
    → m.presentation_decisions ≡ n.presentation_decisions → m ≡ n
counts_path m n a b c d e f g h = λ i. record {
  unsanctioned_selectors = a i;
  modifier_defective_selectors = b i;
  additional_defective_selectors = c i;
  tag_conflicting_selectors = d i;
  tag_forced_presentations = e i;
  tag_redundant_selectors = f i;
  policy_redundant_selectors = g i;
  presentation_decisions = h i;
}

pub plus_assoc : (l m n : NonCanonicality) → l ⊕ m ⊕ n ≡ l ⊕ (m ⊕ n)
plus_assoc l m n = counts_path _ _ (omega arith) (omega arith) (omega arith) (omega arith) (omega arith) (omega arith) (omega arith)
    (omega arith)

pub plus-swap : (l m n : NonCanonicality) → l ⊕ (m ⊕ n) ≡ m ⊕ (l ⊕ n)
plus-swap l m n = counts_path _ _ (omega arith) (omega arith) (omega arith) (omega arith) (omega arith) (omega arith) (omega arith)
    (omega arith)

pub empty-plus : (n : NonCanonicality) → empty ⊕ n ≡ n
empty-plus n = counts_path _ _ (omega arith) (omega arith) (omega arith) (omega arith) (omega arith) (omega arith) (omega arith)
    (omega arith)

pub plus-empty : (n : NonCanonicality) → n ⊕ empty ≡ n
plus-empty n = counts_path _ _ (omega arith) (omega arith) (omega arith) (omega arith) (omega arith) (omega arith) (omega arith)
    (omega arith)

pub plus_cancel : (l m n : NonCanonicality) → l ⊕ n ≡ m ⊕ n → l ≡ m
plus_cancel l m n e =
    counts_path _ _
    (omega (arith, ap (λ (x : NonCanonicality). x.unsanctioned_selectors) e))
    (omega (arith, ap (λ (x : NonCanonicality). x.modifier_defective_selectors) e))
    (omega (arith, ap (λ (x : NonCanonicality). x.additional_defective_selectors) e))
    (omega (arith, ap (λ (x : NonCanonicality). x.tag_conflicting_selectors) e))
    (omega (arith, ap (λ (x : NonCanonicality). x.tag_forced_presentations) e))
    (omega (arith, ap (λ (x : NonCanonicality). x.tag_redundant_selectors) e))
    (omega (arith, ap (λ (x : NonCanonicality). x.policy_redundant_selectors) e))
    (omega (arith, ap (λ (x : NonCanonicality). x.presentation_decisions) e))

pub total-empty : (n : NonCanonicality) → total n ≡ 0 → n ≡ empty
total-empty n e = counts_path _ _ (omega arith) (omega arith) (omega arith) (omega arith) (omega arith) (omega arith) (omega arith)
    (omega arith)
