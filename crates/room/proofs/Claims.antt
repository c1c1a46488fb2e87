-- The statements of specs/Theorems, each proved under its own name.
use mathlib.Core.Path.{◌≡◌, refl, ap, ◌∙◌}
use mathlib.Core.Bool.{Bool, true, not, ◌||◌}
use Prim.Native.Nat.{ℕ, ◌≤◌}
use native.Mathlib.Omega.{arith}
use lib.ListN.{get_or, length}
use borrow.Author.Tests.{le-leb}
use Rattle.base.specs.Bits.{one}
use Rattle.base.specs.Words.{bytes_of, little_endian, number, word_bytes}
use Rattle.utf8.specs.Rfc3629.{
  chars,
  encode,
  encode_all,
  fold_chars,
  fold_step,
  read_char,
  read_four,
  utf8_1,
  utf8_2,
  utf8_3,
  utf8_4,
  valid_up_to_of,
}
use Rattle.emoji.specs.Presentation.{as_selector, from_selector, is_selector}
use Rattle.emoji.specs.Tables.{in_ranges, index_of, member, next}
use Rattle.emoji.specs.Unicode.{
  has_variation_sequence,
  is_emoji,
  is_emoji_default,
  is_emoji_modifier,
  is_emoji_modifier_base,
  is_emoji_presentation,
  is_ri,
  is_tag,
  variation_sequence_index,
}
use Rattle.emoji.specs.UnicodeData.{
  emoji_modifier_bases,
  emoji_modifiers,
  emoji_presentation_ranges,
  emoji_ranges,
  ri_ranges,
  unicode_version,
  variation_entries,
}
use Rattle.policy_key_set.specs.KeySets.{is_ascii, ordinary}
use Rattle.policy_key_set.specs.Sets.{all_below, contains, entry_count, member as Sets·member, member_at, word_count}
use Rattle.policy.specs.DefaultPolicy.{
  bare_as_text_words,
  bare_as_text_keycap_words,
  default_policy,
  prefer_bare_words,
  prefer_bare_keycap_words,
}
use Rattle.policy.specs.Policy.{holds_base, rule_of, singleton_rule}
use Rattle.policy.specs.PolicyBytes.{
  ascii_keys_bare,
  is_policy,
  key_words,
  no_unused_bit,
  no_unused_bits,
  policy_bytes,
  policy_of,
  policy_refusal,
  policy_words,
  words_from,
}
use Rattle.policy.specs.declared.Policy.{Policy}
use Rattle.scanner.specs.Classes.{class_of}
use Rattle.scanner.specs.Items.{items, kind_of, split_from, start_state, transition}
use Rattle.analysis.specs.Analysis.{count_cells, counts_of, following, non_canonicality, render, renew, replacement, replacement_of}
use Rattle.analysis.specs.Cells.{add_char, split}
use Rattle.analysis.specs.Rules.{
  by_first,
  by_keycap,
  by_modifier,
  by_tags,
  is_bare_side,
  outcome,
  rule1,
  rule2,
  rule3,
  rule4,
  rule5,
  rule6,
  text_first,
  without_selector,
}
use Rattle.formatter.specs.Format.{format, format_items, formatted, same_bytes}
use Rattle.formatter.specs.Intake.{first_tests, intake_refusal}
use Rattle.formatter.proofs.Formatting.{format_is, format_tests}
use Rattle.room.specs.Room.{default_room}
use Rattle.room.specs.Theorems.{
  CopyrightSignReaches,
  CopyrightSignsReach,
  DefaultKeepsAscii,
  DigitReachesFour,
  FiveHalves,
  FiveHalvesBare,
  RoomIsEnough,
}
use Rattle.room.proofs.Bound.{formatted_bound}
use Rattle.room.proofs.Reached.{signs-formatted, signs_length}

pub five_halves_bare : FiveHalvesBare
unfolding FiveHalvesBare
five_halves_bare text policy e = formatted_bound policy e text

-- Whether all ASCII keys prefer bare depends on the policy that the bytes encode.
keeps_ascii : Policy → Bool
keeps_ascii p = all_below entry_count (λ (i : ℕ). not (is_ascii (get_or variation_entries i 0)) || ordinary p.prefer_bare i)

computed : keeps_ascii default_policy ≡ true
unfolding keeps_ascii all_below entry_count variation_entries Sets·member one default_policy prefer_bare_words
computed = refl

pub default_keeps_ascii : DefaultKeepsAscii
unfolding DefaultKeepsAscii ascii_keys_bare keeps_ascii
default_keeps_ascii policy e = ap keeps_ascii e ∙ computed

pub five_halves : FiveHalves
unfolding FiveHalves DefaultKeepsAscii
five_halves text policy e = formatted_bound policy (default_keeps_ascii policy e) text

pub room_is_enough : RoomIsEnough
unfolding RoomIsEnough default_room FiveHalves
room_is_enough text policy out a e h =
    let F = formatted text policy in
    let f : length F ≤ length out = omega (arith, h, five_halves text policy e) in
    format_is policy text out a ∙ ap (λ (fits : Bool). format_tests (same_bytes F text) fits F out) (le-leb (length F) (length out) f)

pub copyright_sign_reaches : CopyrightSignReaches
unfolding CopyrightSignReaches format format_items formatted same_bytes first_tests intake_refusal policy_refusal little_endian number
    word_bytes chars encode encode_all fold_chars fold_step read_char read_four utf8_1 utf8_2 utf8_3 utf8_4 valid_up_to_of as_selector
    from_selector
    is_selector in_ranges index_of member next has_variation_sequence is_emoji is_emoji_default is_emoji_modifier is_emoji_modifier_base
    is_emoji_presentation is_ri is_tag variation_sequence_index emoji_modifier_bases emoji_modifiers emoji_presentation_ranges emoji_ranges
    ri_ranges
    variation_entries all_below contains entry_count Sets·member member_at one bare_as_text_words bare_as_text_keycap_words default_policy
    prefer_bare_words
    prefer_bare_keycap_words holds_base rule_of singleton_rule bytes_of is_policy key_words no_unused_bit no_unused_bits policy_bytes
    policy_of
    policy_words
    word_count words_from class_of start_state split_from items kind_of transition add_char split count_cells counts_of following
    non_canonicality
    render renew replacement replacement_of by_first by_keycap by_modifier by_tags is_bare_side outcome rule1 rule2 rule3 rule4 rule5 rule6
    text_first without_selector unicode_version
copyright_sign_reaches = (refl, refl)

pub digit_reaches_four : DigitReachesFour
unfolding DigitReachesFour format format_items formatted same_bytes first_tests intake_refusal policy_refusal little_endian number
    word_bytes chars encode encode_all fold_chars fold_step read_char read_four utf8_1 utf8_2 utf8_3 utf8_4 valid_up_to_of as_selector
    from_selector
    is_selector in_ranges index_of member next has_variation_sequence is_emoji is_emoji_default is_emoji_modifier is_emoji_modifier_base
    is_emoji_presentation is_ri is_tag variation_sequence_index emoji_modifier_bases emoji_modifiers emoji_presentation_ranges emoji_ranges
    ri_ranges
    variation_entries all_below contains entry_count Sets·member member_at one holds_base rule_of singleton_rule bytes_of is_policy
    key_words
    no_unused_bit no_unused_bits policy_bytes policy_of policy_words word_count words_from class_of start_state split_from items kind_of
    transition
    add_char split count_cells counts_of following non_canonicality render renew replacement replacement_of by_first by_keycap by_modifier
    by_tags
    is_bare_side outcome rule1 rule2 rule3 rule4 rule5 rule6 text_first without_selector unicode_version
digit_reaches_four = (refl, refl)

pub copyright_signs_reach : CopyrightSignsReach
unfolding CopyrightSignsReach
copyright_signs_reach n = (signs_length n, signs-formatted n)
