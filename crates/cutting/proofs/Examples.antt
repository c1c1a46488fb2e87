-- The proofs of the examples: the checker computes them.
use mathlib.Core.Path.{refl}
use Rattle.base.specs.Bits.{one}
use Rattle.base.specs.Words.{bytes_of, little_endian, number, word_bytes}
use Rattle.utf8.specs.Rfc3629.{chars, encode, encode_all, fold_chars, fold_step, read_char, read_four, utf8_1, utf8_2, utf8_3, utf8_4}
use Rattle.emoji.specs.Presentation.{as_selector, from_selector, is_selector}
use Rattle.emoji.specs.Tables.{in_ranges, index_of, member, next}
use Rattle.emoji.specs.Unicode.{
  has_variation_sequence,
  is_emoji,
  is_emoji_default,
  is_emoji_modifier,
  is_emoji_modifier_base,
  is_emoji_presentation,
  is_ri,
  is_tag,
  variation_sequence_index,
}
use Rattle.emoji.specs.UnicodeData.{
  emoji_modifier_bases,
  emoji_modifiers,
  emoji_presentation_ranges,
  emoji_ranges,
  ri_ranges,
  variation_entries,
}
use Rattle.policy_key_set.specs.Sets.{all_below, contains, entry_count, member as Sets·member, member_at, word_count}
use Rattle.policy.specs.DefaultPolicy.{
  bare_as_text_words,
  bare_as_text_keycap_words,
  default_policy,
  prefer_bare_words,
  prefer_bare_keycap_words,
}
use Rattle.policy.specs.Policy.{holds_base, rule_of, singleton_rule}
use Rattle.policy.specs.PolicyBytes.{key_words, policy_bytes, policy_of, policy_words, words_from}
use Rattle.scanner.specs.Classes.{class_of}
use Rattle.scanner.specs.Items.{items, kind_of, split_from, start_state, transition}
use Rattle.scanner.specs.Spans.{found, width}
use Rattle.analysis.specs.Analysis.{count_cells, counts_of, following, non_canonicality, render, renew, replacement, replacement_of}
use Rattle.analysis.specs.Cells.{add_char, split}
use Rattle.analysis.specs.Findings.{totals}
use Rattle.analysis.specs.Rules.{by_first, by_keycap, by_modifier, by_tags, is_bare_side, outcome, rule1, rule2, rule3, rule4, rule5, rule6}
use Rattle.analysis.specs.Rules.{text_first, without_selector}
use Rattle.formatter.specs.Findings.{findings, text_totals}
use Rattle.formatter.specs.Format.{format_items, formatted}
use Rattle.formatter.specs.Worked.{the_default}
use Rattle.cutting.specs.Cut.{cut_before, cut_below, first_may_begin, is_cut, may_begin}
use Rattle.cutting.specs.Examples.{CoveredExamples, CutExamples, UncoveredExamples, of_parts, result_of}

pub covered : CoveredExamples
unfolding CoveredExamples result_of of_parts the_default format_items formatted text_totals findings totals found width little_endian number
    word_bytes chars encode encode_all fold_chars fold_step read_char read_four utf8_1 utf8_2 utf8_3 utf8_4 as_selector from_selector
    is_selector
    in_ranges index_of member next has_variation_sequence is_emoji is_emoji_default is_emoji_modifier is_emoji_modifier_base
    is_emoji_presentation is_ri
    is_tag variation_sequence_index emoji_modifier_bases emoji_modifiers emoji_presentation_ranges emoji_ranges ri_ranges variation_entries
    all_below
    contains entry_count Sets·member member_at one bare_as_text_words bare_as_text_keycap_words default_policy prefer_bare_words
    prefer_bare_keycap_words
    holds_base rule_of
    singleton_rule bytes_of key_words policy_bytes policy_of policy_words word_count words_from class_of start_state split_from items
    kind_of
    transition add_char split count_cells counts_of following non_canonicality render renew replacement replacement_of by_first by_keycap
    by_modifier by_tags is_bare_side outcome rule1 rule2 rule3 rule4 rule5 rule6 text_first without_selector
covered = ((refl, refl), (refl, refl))

pub uncovered : UncoveredExamples
unfolding UncoveredExamples result_of of_parts the_default format_items formatted text_totals findings totals found width little_endian
    number
    word_bytes chars encode encode_all fold_chars fold_step read_char read_four utf8_1 utf8_2 utf8_3 utf8_4 as_selector from_selector
    is_selector
    in_ranges index_of member next has_variation_sequence is_emoji is_emoji_default is_emoji_modifier is_emoji_modifier_base
    is_emoji_presentation is_ri
    is_tag variation_sequence_index emoji_modifier_bases emoji_modifiers emoji_presentation_ranges emoji_ranges ri_ranges variation_entries
    all_below
    contains entry_count Sets·member member_at one bare_as_text_words bare_as_text_keycap_words default_policy prefer_bare_words
    prefer_bare_keycap_words
    holds_base rule_of
    singleton_rule bytes_of key_words policy_bytes policy_of policy_words word_count words_from class_of start_state split_from items
    kind_of
    transition add_char split count_cells counts_of following non_canonicality render renew replacement replacement_of by_first by_keycap
    by_modifier by_tags is_bare_side outcome rule1 rule2 rule3 rule4 rule5 rule6 text_first without_selector
uncovered = ((refl, refl), (refl, refl), (refl, refl), (refl, refl), (refl, refl))

pub cuts : CutExamples
unfolding CutExamples cut_before cut_below is_cut first_may_begin may_begin chars encode encode_all fold_chars fold_step read_char read_four
    utf8_1
    utf8_2 utf8_3 utf8_4 is_selector is_emoji_modifier member emoji_modifiers is_tag
cuts = (refl, refl, refl)
