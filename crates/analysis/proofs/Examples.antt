-- The examples, computed from the tables.
use mathlib.Core.Path.{refl}
use Rattle.emoji.specs.Presentation.{as_selector, from_selector, is_selector}
use Rattle.emoji.specs.Tables.{index_of, in_ranges, member, next}
use Rattle.emoji.specs.Unicode.{
  has_variation_sequence,
  is_emoji,
  is_emoji_default,
  is_emoji_modifier,
  is_emoji_modifier_base,
  is_emoji_presentation,
  is_ri,
  is_tag,
  variation_sequence_index,
}
use Rattle.emoji.specs.UnicodeData.{
  emoji_modifier_bases,
  emoji_modifiers,
  emoji_presentation_ranges,
  emoji_ranges,
  ri_ranges,
  variation_entries,
}
use Rattle.base.specs.Bits.{one}
use Rattle.policy_key_set.specs.Sets as Sets
use Rattle.policy.specs.Policy.{holds_base, rule_of, singleton_rule}
use Rattle.policy.specs.DefaultPolicy.{
  bare_as_text_words,
  bare_as_text_keycap_words,
  default_policy,
  prefer_bare_words,
  prefer_bare_keycap_words,
}
use Rattle.scanner.specs.Classes.{class_of}
use Rattle.scanner.specs.Items.{start_state, split_from, items, kind_of, transition}
use Rattle.analysis.specs.Analysis.{
  choices,
  choices_of,
  choices_of_cells,
  count_cells,
  counts_of,
  following,
  non_canonicality,
  render,
  renew,
  replacement,
  replacement_of,
  up_to_link,
}
use Rattle.analysis.specs.Cells.{add_char, split}
use Rattle.analysis.specs.Rules.{
  by_first,
  by_keycap,
  by_modifier,
  by_tags,
  is_bare_side,
  outcome,
  rule1,
  rule2,
  rule3,
  rule4,
  rule5,
  rule6,
  text_first,
  without_selector,
}
use Rattle.analysis.specs.Theorems.{ChoiceExamples, DecisionExamples, RuleExamples}

pub computed : RuleExamples × ChoiceExamples × DecisionExamples
unfolding RuleExamples ChoiceExamples DecisionExamples class_of is_selector is_tag is_ri is_emoji_modifier is_emoji in_ranges member
    emoji_modifiers
    emoji_ranges ri_ranges transition start_state kind_of split_from items as_selector from_selector add_char split following
    has_variation_sequence
    is_emoji_default is_emoji_modifier_base is_emoji_presentation emoji_modifier_bases emoji_presentation_ranges variation_entries
    variation_sequence_index index_of next Sets.contains Sets.member_at Sets.member one holds_base rule_of singleton_rule prefer_bare_words
    prefer_bare_keycap_words bare_as_text_words bare_as_text_keycap_words default_policy by_first by_keycap by_modifier by_tags is_bare_side
    outcome rule1
    rule2 rule3 rule4
    rule5 rule6 text_first without_selector count_cells counts_of non_canonicality render renew replacement replacement_of up_to_link
    choices_of_cells
    choices_of choices
computed = (
  (refl, refl, refl, refl, refl, refl),
  (refl, refl),
  (refl, refl, refl),
)
