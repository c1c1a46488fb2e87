-- The eight counts: all 0, one of each kind, the sum of two, and totals (document 01, "Counts and finding").
use Rattle.std.specs.Prelude.{ℕ, ◌+◌}
use Rattle.base.specs.Sums.{capped}
use Rattle.analysis.specs.declared.types.NonCanonicality.{NonCanonicality}

-- "Counts, in order: unsanctioned, modifier-defective, additional-defective, tag-conflicting, tag-forced, tag-redundant,
-- policy-redundant, decisions."
abbrev pub eight : ℕ → ℕ → ℕ → ℕ → ℕ → ℕ → ℕ → ℕ → NonCanonicality
eight a b c d e f g h = record {
  unsanctioned_selectors = a;
  modifier_defective_selectors = b;
  additional_defective_selectors = c;
  tag_conflicting_selectors = d;
  tag_forced_presentations = e;
  tag_redundant_selectors = f;
  policy_redundant_selectors = g;
  presentation_decisions = h;
}

-- All eight counts are 0.
abbrev pub empty : NonCanonicality
empty = eight 0 0 0 0 0 0 0 0

-- n unsanctioned selectors.
abbrev pub unsanctioned : ℕ → NonCanonicality
unsanctioned n = eight n 0 0 0 0 0 0 0

-- One modifier-defective selector (rule 3).
abbrev pub modifier_defective : NonCanonicality
modifier_defective = eight 0 1 0 0 0 0 0 0

-- One additional-defective selector (rule 3).
abbrev pub additional_defective : NonCanonicality
additional_defective = eight 0 0 1 0 0 0 0 0

-- One tag-conflicting selector (rules 4 and 5).
abbrev pub tag_conflicting : NonCanonicality
tag_conflicting = eight 0 0 0 1 0 0 0 0

-- One tag-forced presentation (rule 5).
abbrev pub tag_forced : NonCanonicality
tag_forced = eight 0 0 0 0 1 0 0 0

-- One tag-redundant selector (rule 4).
abbrev pub tag_redundant : NonCanonicality
tag_redundant = eight 0 0 0 0 0 1 0 0

-- One policy-redundant selector (rule 6).
abbrev pub policy_redundant : NonCanonicality
policy_redundant = eight 0 0 0 0 0 0 1 0

-- One decision (rule 6).
abbrev pub decision : NonCanonicality
decision = eight 0 0 0 0 0 0 0 1

infixl 65 ◌⊕◌
-- The sum of two records of counts, count by count.
abbrev pub ◌⊕◌ : NonCanonicality → NonCanonicality → NonCanonicality
m ⊕ n =
    eight
    (m.unsanctioned_selectors + n.unsanctioned_selectors)
    (m.modifier_defective_selectors + n.modifier_defective_selectors)
    (m.additional_defective_selectors + n.additional_defective_selectors)
    (m.tag_conflicting_selectors + n.tag_conflicting_selectors)
    (m.tag_forced_presentations + n.tag_forced_presentations)
    (m.tag_redundant_selectors + n.tag_redundant_selectors)
    (m.policy_redundant_selectors + n.policy_redundant_selectors)
    (m.presentation_decisions + n.presentation_decisions)

-- ".. the other six remove one each"
abbrev pub removing : NonCanonicality → ℕ
removing n =
    n.unsanctioned_selectors + n.modifier_defective_selectors + n.additional_defective_selectors
    + n.tag_conflicting_selectors + n.tag_redundant_selectors + n.policy_redundant_selectors

-- "The fifth and eighth add a selector each"
abbrev pub adding : NonCanonicality → ℕ
adding n = n.tag_forced_presentations + n.presentation_decisions

-- The sum of all eight counts.
abbrev pub total : NonCanonicality → ℕ
total n = removing n + adding n

-- The sum of two records of counts as the code holds it. For the counts of a text it is the true sum: specs/Theorems.antt,
-- SumsAreWhole.
unfoldable pub capped_sum : NonCanonicality → NonCanonicality → NonCanonicality
capped_sum m n =
    eight
    (capped (m.unsanctioned_selectors + n.unsanctioned_selectors))
    (capped (m.modifier_defective_selectors + n.modifier_defective_selectors))
    (capped (m.additional_defective_selectors + n.additional_defective_selectors))
    (capped (m.tag_conflicting_selectors + n.tag_conflicting_selectors))
    (capped (m.tag_forced_presentations + n.tag_forced_presentations))
    (capped (m.tag_redundant_selectors + n.tag_redundant_selectors))
    (capped (m.policy_redundant_selectors + n.policy_redundant_selectors))
    (capped (m.presentation_decisions + n.presentation_decisions))
