-- The rule of a policy for a base: document 01, "Key set and policy".
use Rattle.std.specs.Prelude.{Bool, true, false, ◌&&◌, ℕ, eqb}
use Rattle.policy_key_set.specs.Sets.{contains}
use Rattle.policy_key_set.specs.KeySets.{HoldsKeys, keycap, ordinary, same_keys}
use Rattle.policy_key_set.specs.declared.PolicyKeySet.{PolicyKeySet}
use Rattle.policy.specs.declared.Policy.{Policy}
use Rattle.policy.specs.declared.SingletonRule.{SingletonRule}
use Rattle.policy.specs.declared.SingletonRule.TheVariants.{BareToEmoji, BareToText, EmojiToBare, TextToBare}

-- The set r holds the same keys as s and has no unused bit: "In a set handed in, a one among the unused bits is cleared first".
abbrev pub Cleared : PolicyKeySet → PolicyKeySet → Type 0
Cleared s r = HoldsKeys (ordinary s) (keycap s) r

-- The key set holds the base c, in its keycap set if the last argument is true, or else in its ordinary set. A base that is no
-- variation entry is in neither.
unfoldable pub holds_base : PolicyKeySet → ℕ → Bool → Bool
holds_base s c false = contains c s.chars.bits
holds_base s c true = contains c s.keycap_chars.bits

-- "neither set holds the base, BareToEmoji; only bare_as_text, BareToText; only prefer_bare, EmojiToBare; both, TextToBare". The
-- arguments say whether prefer_bare and whether bare_as_text hold the base.
unfoldable pub rule_of : Bool → Bool → SingletonRule
rule_of false false = BareToEmoji
rule_of false true = BareToText
rule_of true false = EmojiToBare
rule_of true true = TextToBare

-- The rule for the base c, as an ordinary or a keycap base.
unfoldable pub singleton_rule : Policy → ℕ → Bool → SingletonRule
singleton_rule p c keycap = rule_of (holds_base p.prefer_bare c keycap) (holds_base p.bare_as_text c keycap)

-- The key set holds entry i, in its keycap set if the last argument is true, or else in its ordinary set.
unfoldable pub holds_entry : PolicyKeySet → ℕ → Bool → Bool
holds_entry s i false = ordinary s i
holds_entry s i true = keycap s i

-- The rule for entry i, as an ordinary or a keycap base. `RuleByEntry` says that it is the rule for the character of that entry.
unfoldable pub entry_rule : Policy → ℕ → Bool → SingletonRule
entry_rule p i keycap = rule_of (holds_entry p.prefer_bare i keycap) (holds_entry p.bare_as_text i keycap)

-- The two policies hold the same keys. `SamePolicyMeans` says that they are then equal, if no unused bit is 1.
abbrev pub same_policy : Policy → Policy → Bool
same_policy p q = same_keys p.prefer_bare q.prefer_bare && same_keys p.bare_as_text q.bare_as_text

-- The rules' numbers, in the order of their declaration.
abbrev pub rule_number : SingletonRule → ℕ
rule_number BareToEmoji = 0
rule_number BareToText = 1
rule_number TextToBare = 2
rule_number EmojiToBare = 3

-- The two rules are the same (`SameRuleMeans`).
abbrev pub same_rule : SingletonRule → SingletonRule → Bool
same_rule a b = eqb (rule_number a) (rule_number b)
