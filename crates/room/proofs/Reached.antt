-- Texts of copyright signs alone take all of the room.
use Rattle.std.specs.Prelude.{None}
use mathlib.Core.Path.{◌≡◌, refl, ap, sym, ◌∙◌}
use mathlib.Core.Bool.{true}
use mathlib.Core.List.{List, []}
use Prim.Native.Nat.{ℕ, zero, suc, ◌*◌}
use native.Mathlib.Omega.{arith}
use lib.ListN.{length, replicate}
use Rattle.base.specs.Bits.{one}
use Rattle.base.specs.Words.{bytes_of, little_endian, number, word_bytes}
use Rattle.utf8.specs.Rfc3629.{all_scalar, chars, encode, encode_all, is_scalar}
use Rattle.utf8.proofs.Texts.{chars-encode_all-alone}
use Rattle.emoji.specs.Presentation.{from_selector, is_selector}
use Rattle.emoji.specs.declared.presentation.Presentation.{Presentation}
use Rattle.emoji.specs.Tables.{in_ranges, index_of, member, next}
use Rattle.emoji.specs.Unicode.{
  has_variation_sequence,
  is_emoji,
  is_emoji_default,
  is_emoji_modifier,
  is_emoji_modifier_base,
  is_emoji_presentation,
  is_ri,
  is_tag,
  variation_sequence_index,
}
use Rattle.emoji.specs.UnicodeData.{
  emoji_modifier_bases,
  emoji_modifiers,
  emoji_presentation_ranges,
  emoji_ranges,
  ri_ranges,
  variation_entries,
}
use Rattle.policy_key_set.specs.Sets.{contains, entry_count, member as Sets·member, member_at, word_count}
use Rattle.policy.specs.DefaultPolicy.{
  bare_as_text_words,
  bare_as_text_keycap_words,
  default_policy,
  prefer_bare_words,
  prefer_bare_keycap_words,
}
use Rattle.policy.specs.Policy.{holds_base, rule_of, singleton_rule}
use Rattle.policy.specs.PolicyBytes.{key_words, policy_bytes, policy_of, policy_words, words_from}
use Rattle.policy.specs.declared.Policy.{Policy}
use Rattle.scanner.specs.Classes.{class_of}
use Rattle.scanner.specs.Spans.{width}
use Rattle.scanner.proofs.Bytes.{size-width}
use Rattle.analysis.specs.Analysis.{following}
use Rattle.analysis.specs.CellView.{format_cells}
use Rattle.analysis.specs.Cells.{Cell, add_char, split}
use Rattle.analysis.specs.Rules.{
  by_first,
  by_keycap,
  by_modifier,
  by_tags,
  is_bare_side,
  outcome,
  rule1,
  rule2,
  rule3,
  rule4,
  rule5,
  rule6,
  text_first,
  without_selector,
}
use Rattle.formatter.specs.Format.{formatted}
use Rattle.formatter.proofs.CellView.{cell_view}
use Rattle.room.specs.Room.{the_default}
use Rattle.room.proofs.Lengths.{length_out, length_out_lem, slot_at}

-- The bytes of the default policy encode it.
pub default_read : policy_of the_default ≡ default_policy
unfolding policy_of policy_bytes policy_words key_words bytes_of word_bytes little_endian number words_from word_count entry_count
    variation_entries default_policy prefer_bare_words prefer_bare_keycap_words bare_as_text_words bare_as_text_keycap_words
default_read = refl

abbrev sign : Cell
sign = record { char = 0xA9; after = [] }

abbrev signs : ℕ → List ℕ
signs n = replicate n 0xA9

split-signs : (n : ℕ) → split (signs n) ≡ ([], replicate n sign)
unfolding split add_char from_selector
split-signs zero = refl
split-signs (suc n) = ap (add_char 0xA9 None) (split-signs n)

-- Each sign gets a selector, whether another sign follows or nothing.
slot-sign : (n : ℕ) → slot_at default_policy sign (replicate n sign) ≡ 3
unfolding following class_of from_selector is_selector in_ranges index_of member next has_variation_sequence is_emoji is_emoji_default
    is_emoji_modifier is_emoji_modifier_base is_emoji_presentation is_ri is_tag variation_sequence_index emoji_modifier_bases
    emoji_modifiers
    emoji_presentation_ranges emoji_ranges ri_ranges variation_entries contains entry_count Sets·member member_at one bare_as_text_words
    bare_as_text_keycap_words default_policy prefer_bare_words prefer_bare_keycap_words holds_base rule_of singleton_rule word_count
    by_first by_keycap
    by_modifier
    by_tags is_bare_side outcome rule1 rule2 rule3 rule4 rule5 rule6 text_first without_selector
slot-sign zero = refl
slot-sign (suc n) = refl

out_signs : (n : ℕ) → length_out_lem default_policy (replicate n sign) ≡ 5 * n
unfolding width encode
out_signs zero = refl
out_signs (suc n) = omega (arith, slot-sign n, out_signs n)

scalar-signs : (n : ℕ) → all_scalar (signs n) ≡ true
unfolding all_scalar is_scalar
scalar-signs zero = refl
scalar-signs (suc n) = scalar-signs n

pub signs_length : (n : ℕ) → length (encode_all (signs n)) ≡ 2 * n
unfolding encode_all encode
signs_length zero = refl
signs_length (suc n) = omega (arith, signs_length n)

pub signs-formatted : (n : ℕ) → length (formatted (encode_all (signs n)) the_default) ≡ 5 * n
signs-formatted n =
    let text = encode_all (signs n) in
    let e = chars-encode_all-alone (signs n) (scalar-signs n) in
    let f : formatted text the_default ≡ encode_all (format_cells default_policy (signs n)) =
    (cell_view text the_default).0 ∙ ap (λ (q : Policy). encode_all (format_cells q (chars text))) default_read
    ∙ ap (λ (t : List ℕ). encode_all (format_cells default_policy t)) e in
    ap length f ∙ sym (size-width (format_cells default_policy (signs n))) ∙ length_out default_policy (signs n)
    ∙ ap (λ (r : List Presentation × List Cell). length_out_lem default_policy r.1) (split-signs n) ∙ out_signs n
