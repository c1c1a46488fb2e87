-- The proof of each statement of specs/Theorems.antt.
use Rattle.std.specs.Prelude.{Option}
use mathlib.Core.Path.{◌≡◌, refl, sym, ap, ap₂, ◌∙◌}
use mathlib.Core.Bool.{Bool, true, false, cond, ◌&&◌, ◌||◌, not}
use mathlib.Core.List.{List, ◌∷◌, ◌++◌}
use Prim.Native.Nat.{ℕ, zero, suc, ◌^◌, ◌<◌}
use native.Mathlib.Omega.{arith}
use lib.ListN.{drop, get_or, length}
use borrow.Author.Tests.{eq-eqb, ltb-true}
use Rattle.base.proofs.Numbers.{length_bytes_of_lem}
use Rattle.base.specs.Words.{bytes_of}
use Rattle.emoji.specs.Tables.{in_ranges, member as Tables·member}
use Rattle.emoji.specs.Unicode.{has_variation_sequence, is_emoji_default, is_emoji_presentation, is_text_default}
use Rattle.emoji.specs.UnicodeData.{emoji_presentation_ranges, unicode_version, variation_entries}
use Rattle.emoji.specs.Theorems.{NoIndexNoEntry}
use Rattle.emoji.proofs.Claims.{no_index_no_entry}
use Rattle.base.specs.Bits.{one}
use Rattle.policy_key_set.specs.Sets.{all_below, contains, entry_count, member, member_at, word_count}
use Rattle.policy_key_set.specs.KeySets.{is_ascii, words_match_rule}
use Rattle.policy_key_set.proofs.Contains.{contains-chars}
use Rattle.policy_key_set.proofs.Entries.{matching_words_hold}
use Rattle.policy.specs.Policy.{holds_base, rule_of, singleton_rule}
use Rattle.policy.specs.DefaultPolicy.{
  bare_as_text_words,
  bare_as_text_keycap_words,
  default_policy,
  prefer_bare_words,
  prefer_bare_keycap_words,
}
use Rattle.policy.specs.PolicyBytes.{
  PolicyValue,
  is_policy,
  key_words,
  no_unused_bits,
  policy_bytes,
  policy_of,
  policy_words,
  version_of,
  words_from,
}
use Rattle.policy.specs.declared.Policy.{Policy}
use Rattle.policy.specs.declared.SingletonRule.TheVariants.{BareToText, EmojiToBare, TextToBare}
use Rattle.policy.specs.Theorems.{
  AsciiBasesBare,
  DefaultPolicyHolds,
  DefaultRules,
  NoPolicyMeans,
  PolicyTests,
  ReadWritten,
  RuleByEntry,
  RuleWithoutEntry,
  SamePolicyMeans,
  SameRuleMeans,
  SameWordsSamePolicy,
  WriteRead,
}
use Rattle.policy.proofs.ByEntry.{ascii_rule_bare, rule_by_entry}
use Rattle.policy.proofs.Equal.{equal-policy-same, equal_rule_same, same-policy-equal, same_rule-equal}
use Rattle.policy.proofs.RoundTrips.{
  SixWordSets,
  append_below,
  many_words,
  read_words,
  same_words,
  six_words_of,
  words_of,
  write_words,
}
use Rattle.policy.proofs.Refusals.{all_pass, bits-third, length_first, passed-policy, policy-passes, version-second}
use Rattle.policy.proofs.Unused.{refused-by, refused_for}

-- The entries of each set of the default policy, by one computed test for each.
holds_prefer_bare : words_match_rule (λ (c : ℕ). is_ascii c || is_emoji_default c) prefer_bare_words ≡ true
unfolding words_match_rule all_below member one entry_count is_emoji_default is_emoji_presentation has_variation_sequence in_ranges
    Tables·member
    emoji_presentation_ranges variation_entries prefer_bare_words
holds_prefer_bare = refl

holds_prefer_bare_keycap : words_match_rule (λ (c : ℕ). false) prefer_bare_keycap_words ≡ true
unfolding words_match_rule all_below member one entry_count variation_entries prefer_bare_keycap_words
holds_prefer_bare_keycap = refl

holds_bare_as_text : words_match_rule is_text_default bare_as_text_words ≡ true
unfolding words_match_rule all_below member one entry_count is_text_default is_emoji_presentation has_variation_sequence in_ranges
    Tables·member
    emoji_presentation_ranges variation_entries bare_as_text_words
holds_bare_as_text = refl

holds_bare_as_text_keycap : words_match_rule (λ (c : ℕ). true) bare_as_text_keycap_words ≡ true
unfolding words_match_rule all_below member one entry_count variation_entries bare_as_text_keycap_words
holds_bare_as_text_keycap = refl

pub default_policy_holds : DefaultPolicyHolds
unfolding DefaultPolicyHolds default_policy
default_policy_holds = (
  record {
    ordinary_keys = matching_words_hold (λ (c : ℕ). is_ascii c || is_emoji_default c) prefer_bare_words holds_prefer_bare;
    keycap_keys = matching_words_hold (λ (c : ℕ). false) prefer_bare_keycap_words holds_prefer_bare_keycap;
  },
  record {
    ordinary_keys = matching_words_hold is_text_default bare_as_text_words holds_bare_as_text;
    keycap_keys = matching_words_hold (λ (c : ℕ). true) bare_as_text_keycap_words holds_bare_as_text_keycap;
  },
)

-- The rule for the default policy's sets.
default_rule : (e a : Bool) → rule_of (a || e) (not e) ≡ cond e EmojiToBare (cond a TextToBare BareToText)
unfolding rule_of
default_rule true true = refl
default_rule true false = refl
default_rule false true = refl
default_rule false false = refl

pub default_rules : DefaultRules
unfolding DefaultRules DefaultPolicyHolds singleton_rule holds_base rule_of default_policy is_text_default is_emoji_default
default_rules c h =
    let in_both : (p : ℕ → Bool) (ws : List ℕ) → words_match_rule p ws ≡ true → contains c ws ≡ p c =
    (λ p ws t. contains-chars p ws (matching_words_hold p ws t) c ∙ ap (λ (b : Bool). b && p c) h) in
    let text : is_text_default c ≡ not (is_emoji_default c) =
    ap (λ (b : Bool). b && not (is_emoji_presentation c)) h ∙ ap (λ (b : Bool). not (b && is_emoji_presentation c)) (sym h) in (
      ap₂ rule_of (in_both (λ (x : ℕ). is_ascii x || is_emoji_default x) prefer_bare_words holds_prefer_bare)
          (in_both is_text_default bare_as_text_words holds_bare_as_text ∙ text)
          ∙ default_rule (is_emoji_default c) (is_ascii c),
      ap₂ rule_of (in_both (λ (x : ℕ). false) prefer_bare_keycap_words holds_prefer_bare_keycap)
          (in_both (λ (x : ℕ). true) bare_as_text_keycap_words holds_bare_as_text_keycap),
    )

-- A character that is no variation entry is in no set.
in_none : (c : ℕ) (ws : List ℕ) → has_variation_sequence c ≡ false → contains c ws ≡ false
unfolding contains member_at NoIndexNoEntry
in_none c ws h = ap (λ (r : Option ℕ). member_at r ws) ((no_index_no_entry c).1 h)

pub rule_without_entry : RuleWithoutEntry
unfolding RuleWithoutEntry singleton_rule holds_base rule_of
rule_without_entry p c false h = ap₂ rule_of (in_none c p.prefer_bare.chars.bits h) (in_none c p.bare_as_text.chars.bits h)
rule_without_entry p c true h =
    ap₂ rule_of (in_none c p.prefer_bare.keycap_chars.bits h) (in_none c p.bare_as_text.keycap_chars.bits h)

pub rule_by_entries : RuleByEntry
unfolding RuleByEntry
rule_by_entries p c i keycap e = rule_by_entry p c i keycap e

pub ascii_bases_bare : AsciiBasesBare
unfolding AsciiBasesBare
ascii_bases_bare bs t c a h = ascii_rule_bare bs t c (omega (arith, ltb-true c 0x80 a)) h

six-word_sets : (p : Policy) → PolicyValue p → SixWordSets p
unfolding word_count entry_count variation_entries
six-word_sets p v = record {
  first = v.prefer_bare_set.has_word_count;
  second = v.prefer_bare_keycap_set.has_word_count;
  third = v.bare_as_text_set.has_word_count;
  fourth = v.bare_as_text_keycap_set.has_word_count;
}

pub same_words_same_policy : SameWordsSamePolicy
unfolding SameWordsSamePolicy
same_words_same_policy p q v w e = same_words p q (six-word_sets p v) (six-word_sets q w) e

pub same_policy_means : SamePolicyMeans
unfolding SamePolicyMeans
same_policy_means p q v w e f = (same-policy-equal p q v w e f, equal-policy-same p q)

pub same_rule_means : SameRuleMeans
unfolding SameRuleMeans
same_rule_means a b = (same_rule-equal a b, equal_rule_same a b)

words_below : (p : Policy) → PolicyValue p → (k : ℕ) → get_or (policy_words p) k 0 < 2 ^ 64
unfolding policy_words key_words
words_below p v =
    let a = p.prefer_bare.chars.bits in
    let b = p.prefer_bare.keycap_chars.bits in
    let c = p.bare_as_text.chars.bits in
    let d = p.bare_as_text.keycap_chars.bits in
    append_below (2 ^ 64) (a ++ b) (c ++ d) (append_below (2 ^ 64) a b v.prefer_bare_set.words v.prefer_bare_keycap_set.words)
    (append_below (2 ^ 64) c d v.bare_as_text_set.words v.bare_as_text_keycap_set.words)

-- The words of a stored policy: the version, then the words of the sets.
stored-below : (p : Policy) → PolicyValue p → (k : ℕ) → get_or (unicode_version ∷ policy_words p) k 0 < 2 ^ 64
unfolding unicode_version
stored-below p v zero = omega arith
stored-below p v (suc k) = words_below p v k

pub read_written : ReadWritten
unfolding ReadWritten is_policy policy_bytes words_from word_count entry_count variation_entries
read_written p v =
    let ws = unicode_version ∷ policy_words p in
    let bs = bytes_of ws in
    let many = many_words p (six-word_sets p v) in
    let read : words_from 25 0 bs ≡ ws =
    ap (λ (n : ℕ). words_from n 0 bs) (sym (ap suc many)) ∙ read_words ws (stored-below p v) in
    let back : policy_of bs ≡ p = same_words (policy_of bs) p (six_words_of bs) (six-word_sets p v) (words_of bs ∙ ap (drop 1) read) in
    let ours : version_of bs ≡ unicode_version = ap (λ (l : List ℕ). get_or l 0 0) read in
    let long : length bs ≡ 200 = omega (arith, length_bytes_of_lem ws) in (
      back,
      ap₂ ◌&&◌ (eq-eqb (length bs) 200 long) (ap₂ ◌&&◌ (eq-eqb (version_of bs) unicode_version ours) (ap no_unused_bits back)),
    )

pub write_read : WriteRead
unfolding WriteRead policy_bytes words_from word_count entry_count variation_entries
write_read bs t l v = ap₂ (λ (w : ℕ) (ws : List ℕ). bytes_of (w ∷ ws)) (sym v) (words_of bs) ∙ write_words 25 bs l t

pub no_policy_means : NoPolicyMeans
unfolding NoPolicyMeans
no_policy_means bs = ((refused_for bs, refused-by bs), (passed-policy bs, policy-passes bs))

pub policy_tests : PolicyTests
unfolding PolicyTests
policy_tests bs = (length_first bs, version-second bs, bits-third bs, all_pass bs)
