-- The proofs of the worked texts and lists: the checker computes them.
use mathlib.Core.Path.{refl}
use native.Mathlib.Omega.{arith}
use Rattle.base.specs.Words.{bytes_of, little_endian, number, word_bytes}
use Rattle.utf8.specs.Rfc3629.{
  chars,
  encode,
  encode_all,
  fold_chars,
  fold_step,
  read_char,
  read_four,
  utf8_1,
  utf8_2,
  utf8_3,
  utf8_4,
  valid_up_to_of,
}
use Rattle.utf8.proofs.Grammar.{whole_well_formed}
use Rattle.emoji.specs.Presentation.{as_selector, from_selector, is_selector}
use Rattle.emoji.specs.Tables.{in_ranges, index_of, member, next}
use Rattle.emoji.specs.Unicode.{
  has_variation_sequence,
  is_emoji,
  is_emoji_default,
  is_emoji_modifier,
  is_emoji_modifier_base,
  is_emoji_presentation,
  is_ri,
  is_tag,
  variation_sequence_index,
}
use Rattle.emoji.specs.UnicodeData.{
  emoji_modifier_bases,
  emoji_modifiers,
  emoji_presentation_ranges,
  emoji_ranges,
  ri_ranges,
  unicode_version,
  variation_entries,
}
use Rattle.base.specs.Bits.{one}
use Rattle.policy_key_set.specs.Sets.{all_below, contains, entry_count, member as Sets·member, member_at, word_count}
use Rattle.policy.specs.DefaultPolicy.{
  bare_as_text_words,
  bare_as_text_keycap_words,
  default_policy,
  prefer_bare_words,
  prefer_bare_keycap_words,
}
use Rattle.policy.specs.Policy.{holds_base, rule_of, singleton_rule}
use Rattle.policy.specs.PolicyBytes.{
  is_policy,
  key_words,
  no_unused_bit,
  no_unused_bits,
  policy_bytes,
  policy_of,
  policy_refusal,
  policy_words,
  words_from,
}
use Rattle.positions.specs.Positions.{position_at, text_count, units, utf16_units}
use Rattle.scanner.specs.Classes.{class_of}
use Rattle.scanner.specs.Items.{start_state, split_from, items, kind_of, transition}
use Rattle.scanner.specs.Spans.{found, scan, scan_from, spans, width}
use Rattle.scanner.specs.TextCheck.{text_refusal}
use Rattle.scanner.specs.Tags.{all_complete, tag_modifications, tag_runs, tags_complete_of, with_tags}
use Rattle.analysis.specs.Cells.{add_char, split}
use Rattle.analysis.specs.Analysis.{count_cells, counts_of, following, non_canonicality, render, renew, replacement, replacement_of}
use Rattle.analysis.specs.Rules.{
  by_first,
  by_keycap,
  by_modifier,
  by_tags,
  is_bare_side,
  outcome,
  rule1,
  rule2,
  rule3,
  rule4,
  rule5,
  rule6,
  text_first,
  without_selector,
}
use Rattle.formatter.specs.Book.{all_binary, book_after, book_chars, mark_from, mends_finding, open_finding_at, open_findings_from}
use Rattle.formatter.specs.Demand3.{Accepted}
use Rattle.analysis.specs.Findings.{finding_at, totals}
use Rattle.analysis.specs.ItemAt.{replace_at, replace_by_default, replacement_bytes, write_found}
use Rattle.formatter.specs.Findings.{finding_row, findings, text_totals}
use Rattle.formatter.specs.Format.{format, format_items, formatted, same_bytes}
use Rattle.formatter.specs.List.{list}
use Rattle.analysis.specs.Decisions.{bad_decision, decisions_refusal, judge}
use Rattle.formatter.specs.Mend.{mend, outcomes, text_after}
use Rattle.formatter.specs.Intake.{first_tests, intake_refusal}
use Rattle.formatter.specs.Worked.{
  ExampleCalls,
  WorkedList,
  WorkedListClaimed,
  WorkedTexts,
  the_default,
  two_findings,
  worked_calls,
  worked_table,
  worked_text,
}
use Rattle.formatter.proofs.ListClaim.{list-claim}

pub texts : WorkedTexts × ExampleCalls
unfolding WorkedTexts ExampleCalls worked_table worked_text position_at text_count units utf16_units scan scan_from spans tags_complete_of
    tag_modifications tag_runs with_tags all_complete
    bad_decision decisions_refusal finding_at judge mend the_default format format_items formatted same_bytes list first_tests
    intake_refusal
    policy_refusal
    finding_row findings text_totals totals little_endian number word_bytes chars encode encode_all fold_chars fold_step read_char read_four
    utf8_1
    utf8_2 utf8_3 utf8_4 valid_up_to_of as_selector from_selector is_selector in_ranges index_of member next has_variation_sequence is_emoji
    is_emoji_default is_emoji_modifier is_emoji_modifier_base is_emoji_presentation is_ri is_tag variation_sequence_index
    emoji_modifier_bases
    emoji_modifiers emoji_presentation_ranges emoji_ranges ri_ranges unicode_version variation_entries all_below contains entry_count
    Sets·member
    member_at one
    bare_as_text_words bare_as_text_keycap_words default_policy prefer_bare_words prefer_bare_keycap_words holds_base rule_of singleton_rule
    bytes_of
    is_policy key_words
    no_unused_bit no_unused_bits policy_bytes policy_of policy_words word_count words_from class_of start_state split_from items kind_of
    transition
    found width add_char split count_cells counts_of following non_canonicality render renew replacement replacement_of by_first by_keycap
    by_modifier by_tags is_bare_side outcome rule1 rule2 rule3 rule4 rule5 rule6 text_first without_selector replace_at replace_by_default
    replacement_bytes write_found text_refusal
texts = (refl, (refl, refl, refl, refl, refl, refl, refl, refl, refl, refl, refl, refl))

pub calls : WorkedList
unfolding WorkedList worked_calls bad_decision decisions_refusal finding_at judge mend outcomes text_after all_binary book_after book_chars
    mark_from mends_finding open_finding_at open_findings_from the_default format format_items formatted same_bytes list first_tests
    intake_refusal
    policy_refusal finding_row findings text_totals totals little_endian number word_bytes chars encode encode_all fold_chars fold_step
    read_char
    read_four utf8_1 utf8_2 utf8_3 utf8_4 valid_up_to_of as_selector from_selector is_selector in_ranges index_of member next
    has_variation_sequence
    is_emoji is_emoji_default is_emoji_modifier is_emoji_modifier_base is_emoji_presentation is_ri is_tag variation_sequence_index
    emoji_modifier_bases
    emoji_modifiers emoji_presentation_ranges emoji_ranges ri_ranges unicode_version variation_entries all_below contains entry_count
    Sets·member
    member_at one
    bare_as_text_words bare_as_text_keycap_words default_policy prefer_bare_words prefer_bare_keycap_words holds_base rule_of singleton_rule
    bytes_of
    is_policy key_words
    no_unused_bit no_unused_bits policy_bytes policy_of policy_words word_count words_from class_of start_state split_from items kind_of
    transition
    found width add_char split count_cells counts_of following non_canonicality render renew replacement replacement_of by_first by_keycap
    by_modifier by_tags is_bare_side outcome rule1 rule2 rule3 rule4 rule5 rule6 text_first without_selector
calls = (refl, refl, refl, refl, refl)

accepted : Accepted the_default two_findings
unfolding the_default little_endian number word_bytes all_below one entry_count fold_chars fold_step read_char read_four utf8_1 utf8_2
    utf8_3
    utf8_4
    valid_up_to_of unicode_version variation_entries bare_as_text_words bare_as_text_keycap_words default_policy prefer_bare_words
    prefer_bare_keycap_words
    bytes_of is_policy
    key_words no_unused_bit
    no_unused_bits policy_bytes policy_words word_count words_from policy_of Sets·member
accepted = record { short = omega arith; is_policy_lem = refl; well_formed = whole_well_formed two_findings refl }

pub claimed : WorkedListClaimed
unfolding WorkedListClaimed
claimed = (accepted, omega arith, list-claim the_default two_findings accepted (omega arith) worked_calls)
