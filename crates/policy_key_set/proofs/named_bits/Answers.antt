-- `policy_key_set::named_bits` meets its contract: one computed test compares the words of each named set with its rule.
use mathlib.Core.Path.{◌≡◌, refl, sym, subst}
use Rattle.emoji.specs.Tables as Tables
use Rattle.emoji.specs.Unicode.{has_variation_sequence, is_emoji_default, is_emoji_presentation, is_text_default}
use Rattle.emoji.specs.UnicodeData.{emoji_presentation_ranges, variation_entries}
use Rattle.base.specs.Bits.{one}
use Rattle.policy_key_set.specs.Sets.{HoldsChars, all_below, entry_count, member}
use Rattle.policy_key_set.specs.KeySets.{named_entry_matches, words_match_rule}
use Rattle.policy_key_set.specs.declared.NamedSet.{NamedSet}
use Rattle.policy_key_set.specs.declared.char_set.CharSet.{CharSet}
use Rattle.policy_key_set.proofs.named_bits.Goals as goal

same_rule_lem : (r : CharSet) {id o : NamedSet} → id ≡ o → HoldsChars (named_entry_matches o) r.bits
    → HoldsChars (named_entry_matches id) r.bits
same_rule_lem r e h = subst (λ (o : NamedSet). HoldsChars (named_entry_matches o) r.bits) (sym e) h

pub tested-requires : goal.tested-requires
unfolding words_match_rule all_below member one entry_count variation_entries
tested-requires c = refl

pub tested-requires-in-TextDefaults : goal.tested-requires-in-TextDefaults
unfolding words_match_rule all_below member one entry_count variation_entries is_text_default has_variation_sequence is_emoji_presentation
    Tables.member Tables.in_ranges emoji_presentation_ranges
tested-requires-in-TextDefaults c = refl

pub tested-requires-in-EmojiDefaults : goal.tested-requires-in-EmojiDefaults
unfolding words_match_rule all_below member one entry_count variation_entries is_emoji_default has_variation_sequence is_emoji_presentation
    Tables.member Tables.in_ranges emoji_presentation_ranges
tested-requires-in-EmojiDefaults c = refl

pub tested-requires-in-KeycapRgi : goal.tested-requires-in-KeycapRgi
unfolding words_match_rule all_below member one entry_count variation_entries
tested-requires-in-KeycapRgi c = refl

pub returns-in-Ascii : goal.returns-in-Ascii
returns-in-Ascii c = same_rule_lem c.tested.result c.in-Ascii.is c.tested.ensures

pub returns-in-TextDefaults : goal.returns-in-TextDefaults
returns-in-TextDefaults c = same_rule_lem c.tested-in-TextDefaults.result c.in-TextDefaults.is c.tested-in-TextDefaults.ensures

pub returns-in-EmojiDefaults : goal.returns-in-EmojiDefaults
returns-in-EmojiDefaults c = same_rule_lem c.tested-in-EmojiDefaults.result c.in-EmojiDefaults.is c.tested-in-EmojiDefaults.ensures

pub returns-in-KeycapRgi : goal.returns-in-KeycapRgi
returns-in-KeycapRgi c = same_rule_lem c.tested-in-KeycapRgi.result c.in-KeycapRgi.is c.tested-in-KeycapRgi.ensures
