-- Statements about policies. The proofs are in proofs/Claims.antt.
use Rattle.std.specs.Prelude.{◌≡◌, ◌↔◌, ◌⊎◌, Bool, true, false, cond, ◌||◌, List, ℕ, get_or, length, Some, None}
use Rattle.base.specs.Words.{all_bytes}
use Rattle.base.specs.declared.Refusal.TheVariants.{NotAPolicy, OtherVersion}
use Rattle.emoji.specs.Unicode.{has_variation_sequence, is_emoji_default, is_text_default, variation_sequence_index}
use Rattle.emoji.specs.UnicodeData.{unicode_version, variation_entries}
use Rattle.policy_key_set.specs.KeySets.{HoldsKeys, is_ascii}
use Rattle.policy.specs.Policy.{entry_rule, same_policy, same_rule, singleton_rule}
use Rattle.policy.specs.DefaultPolicy.{default_policy}
use Rattle.policy.specs.PolicyBytes.{
  NoPolicy,
  PolicyValue,
  ascii_keys_bare,
  is_policy,
  no_unused_bits,
  policy_bytes,
  policy_length,
  policy_of,
  policy_refusal,
  policy_words,
  version_of,
}
use Rattle.policy.specs.declared.Policy.{Policy}
use Rattle.policy.specs.declared.SingletonRule.{SingletonRule}
use Rattle.policy.specs.declared.SingletonRule.TheVariants.{BareToEmoji, BareToText, EmojiToBare, TextToBare}

-- The default policy. Among the ordinary keys, the ASCII entries and the emoji defaults prefer bare, and the text defaults are text
-- when bare. No keycap key prefers bare, and every keycap key is text when bare.
unfoldable pub DefaultPolicyHolds : Type 0
DefaultPolicyHolds =
    HoldsKeys (λ (i : ℕ). is_ascii (get_or variation_entries i 0) || is_emoji_default (get_or variation_entries i 0)) (λ (i : ℕ). false)
    default_policy.prefer_bare
    × HoldsKeys (λ (i : ℕ). is_text_default (get_or variation_entries i 0)) (λ (i : ℕ). true) default_policy.bare_as_text

-- The default policy's rules for a variation entry. As an ordinary base, an emoji default loses FE0F, an ASCII base loses FE0E, and any
-- other base gets FE0E when bare. As a keycap base, every entry gets FE0E when bare.
unfoldable pub DefaultRules : Type 0
DefaultRules =
    (c : ℕ) → has_variation_sequence c ≡ true
    → (singleton_rule default_policy c false ≡ cond (is_emoji_default c) EmojiToBare (cond (is_ascii c) TextToBare BareToText))
    × (singleton_rule default_policy c true ≡ BareToText)

-- A base that is no variation entry is in no set, so its rule is BareToEmoji.
unfoldable pub RuleWithoutEntry : Type 0
RuleWithoutEntry =
    (p : Policy) (c : ℕ) (keycap : Bool) → has_variation_sequence c ≡ false → singleton_rule p c keycap ≡ BareToEmoji

-- The rule for a base is the rule for its entry.
unfoldable pub RuleByEntry : Type 0
RuleByEntry =
    (p : Policy) (c i : ℕ) (keycap : Bool) → variation_sequence_index c ≡ Some i
    → singleton_rule p c keycap ≡ entry_rule p i keycap

-- If all ASCII keys prefer bare, the rule for each ASCII base is one of the two rules whose result is bare.
unfoldable pub AsciiBasesBare : Type 0
AsciiBasesBare =
    (bs : List ℕ) → ascii_keys_bare bs ≡ true → (c : ℕ) → is_ascii c ≡ true → has_variation_sequence c ≡ true
    → (singleton_rule (policy_of bs) c false ≡ TextToBare) ⊎ (singleton_rule (policy_of bs) c false ≡ EmojiToBare)

-- Two policies with the same words are equal.
unfoldable pub SameWordsSamePolicy : Type 0
SameWordsSamePolicy = (p q : Policy) → PolicyValue p → PolicyValue q → policy_words p ≡ policy_words q → p ≡ q

-- `eq` tests equality: of policies without unused bits, and of rules.
unfoldable pub SamePolicyMeans : Type 0
SamePolicyMeans =
    (p q : Policy) → PolicyValue p → PolicyValue q → no_unused_bits p ≡ true → no_unused_bits q ≡ true
    → (same_policy p q ≡ true) ↔ (p ≡ q)

unfoldable pub SameRuleMeans : Type 0
SameRuleMeans = (a b : SingletonRule) → (same_rule a b ≡ true) ↔ (a ≡ b)

-- Reading the bytes of a policy gives the policy. The bytes are accepted exactly when it has no unused bit.
unfoldable pub ReadWritten : Type 0
ReadWritten =
    (p : Policy) → PolicyValue p → (policy_of (policy_bytes p) ≡ p) × (is_policy (policy_bytes p) ≡ no_unused_bits p)

-- Writing the policy that was read gives the bytes, if they name the version of the tables.
unfoldable pub WriteRead : Type 0
WriteRead =
    (bs : List ℕ) → all_bytes bs ≡ true → length bs ≡ policy_length → version_of bs ≡ unicode_version
    → policy_bytes (policy_of bs) ≡ bs

-- Bytes are refused exactly when they are not 4W + 1 words, or name another version, or have an unused bit set. Exactly then they are
-- not a policy. They get no refusal exactly when they are a policy.
unfoldable pub NoPolicyMeans : Type 0
NoPolicyMeans =
    (bs : List ℕ)
    → ((is_policy bs ≡ false) ↔ NoPolicy bs)
    × ((policy_refusal bs ≡ None) ↔ (is_policy bs ≡ true))

-- "15, another version, tested after the word count of 2 and before its unused bits": the first of the three tests that fails gives the
-- refusal.
unfoldable pub PolicyTests : Type 0
PolicyTests =
    (bs : List ℕ)
    → ((length bs ≡ policy_length → ⊥) → policy_refusal bs ≡ Some NotAPolicy)
    × (length bs ≡ policy_length → (version_of bs ≡ unicode_version → ⊥) → policy_refusal bs ≡ Some OtherVersion)
    × (length bs ≡ policy_length → version_of bs ≡ unicode_version → no_unused_bits (policy_of bs) ≡ false
    → policy_refusal bs ≡ Some NotAPolicy)
    × (length bs ≡ policy_length → version_of bs ≡ unicode_version → no_unused_bits (policy_of bs) ≡ true
    → policy_refusal bs ≡ None)
