-- The proof of each statement of specs/Theorems.antt.
use mathlib.Core.Path.{refl}
use Rattle.base.specs.Texts.{parted}
use Rattle.base.specs.Words.{bytes_of, little_endian, number, word_bytes}
use Rattle.base.specs.Bits.{one}
use Rattle.utf8.specs.Rfc3629.{
  chars,
  encode,
  encode_all,
  fold_chars,
  fold_step,
  read_char,
  read_four,
  utf8_1,
  utf8_2,
  utf8_3,
  utf8_4,
  valid_up_to_of,
}
use Rattle.emoji.specs.Presentation.{as_selector, from_selector, is_selector}
use Rattle.emoji.specs.Tables.{in_ranges, index_of, member, next}
use Rattle.emoji.specs.Unicode.{
  has_variation_sequence,
  is_emoji,
  is_emoji_default,
  is_emoji_modifier,
  is_emoji_modifier_base,
  is_emoji_presentation,
  is_ri,
  is_tag,
  variation_sequence_index,
}
use Rattle.emoji.specs.UnicodeData.{
  emoji_modifier_bases,
  emoji_modifiers,
  emoji_presentation_ranges,
  emoji_ranges,
  ri_ranges,
  unicode_version,
  variation_entries,
}
use Rattle.policy_key_set.specs.Sets.{all_below, contains, entry_count, member as Sets·member, member_at, word_count}
use Rattle.policy.specs.DefaultPolicy.{
  bare_as_text_words,
  bare_as_text_keycap_words,
  default_policy,
  prefer_bare_words,
  prefer_bare_keycap_words,
}
use Rattle.policy.specs.Policy.{holds_base, rule_of, singleton_rule}
use Rattle.policy.specs.PolicyBytes.{
  is_policy,
  key_words,
  no_unused_bit,
  no_unused_bits,
  policy_bytes,
  policy_of,
  policy_refusal,
  policy_words,
  words_from,
}
use Rattle.scanner.specs.Classes.{class_of}
use Rattle.scanner.specs.Items.{start_state, split_from, items, kind_of, transition}
use Rattle.scanner.specs.Spans.{found, width}
use Rattle.scanner.specs.Tags.{all_complete, tag_modifications, tag_runs, tags_complete_of, with_tags}
use Rattle.message_io.specs.Lines.{decimal, decimal_by, finding_line, line, program_output, total_line}
use Rattle.analysis.specs.Cells.{add_char, split}
use Rattle.analysis.specs.Analysis.{count_cells, counts_of, following, non_canonicality, render, renew, replacement, replacement_of}
use Rattle.analysis.specs.Rules.{
  by_first,
  by_keycap,
  by_modifier,
  by_tags,
  is_bare_side,
  outcome,
  rule1,
  rule2,
  rule3,
  rule4,
  rule5,
  rule6,
  text_first,
  without_selector,
}
use Rattle.analysis.specs.Findings.{totals}
use Rattle.formatter.specs.Findings.{finding_row, findings}
use Rattle.formatter.specs.Intake.{first_tests, intake_refusal}
use Rattle.report.specs.Report.{lines_from, report_lines, report_numbers, reported, finding_lines, totals_at}
use Rattle.report.specs.Theorems.{ExampleReported, ReportFits}
use Rattle.report.proofs.Rooms.{report_fits}

pub report_has_room : ReportFits
unfolding ReportFits
report_has_room = report_fits

pub example_reported : ExampleReported
unfolding ExampleReported finding_line total_line line parted decimal decimal_by tags_complete_of tag_modifications tag_runs with_tags
    all_complete first_tests intake_refusal policy_refusal finding_row findings totals little_endian number word_bytes chars encode
    encode_all fold_chars fold_step read_char read_four utf8_1 utf8_2 utf8_3 utf8_4 valid_up_to_of as_selector from_selector is_selector
    in_ranges index_of member next has_variation_sequence is_emoji is_emoji_default is_emoji_modifier is_emoji_modifier_base
    is_emoji_presentation is_ri is_tag variation_sequence_index emoji_modifier_bases emoji_modifiers emoji_presentation_ranges
    emoji_ranges ri_ranges unicode_version variation_entries all_below contains entry_count Sets·member member_at one bare_as_text_words
    bare_as_text_keycap_words default_policy prefer_bare_words prefer_bare_keycap_words holds_base rule_of singleton_rule bytes_of is_policy
    key_words
    no_unused_bit no_unused_bits policy_bytes policy_of policy_words word_count words_from class_of start_state split_from items kind_of
    transition found width add_char split count_cells counts_of following non_canonicality render renew replacement replacement_of by_first
    by_keycap by_modifier by_tags is_bare_side outcome rule1 rule2 rule3 rule4 rule5 rule6 text_first without_selector program_output
    reported report_lines lines_from finding_lines totals_at report_numbers
example_reported = refl
