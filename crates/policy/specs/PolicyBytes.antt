-- A policy as bytes. Document 02, change (xi): "A stored policy now begins with one more word, the version as major times 256 plus
-- minor". Document 01 has the other 4W words: "prefer_bare ordinary, prefer_bare keycap, then bare_as_text likewise". A word is 8 bytes,
-- lowest byte first. The test of such bytes is `is_policy` (refusals 2 and 15).
use Rattle.std.specs.Prelude.{
  ◌≡◌,
  Bool,
  true,
  cond,
  ◌&&◌,
  ◌||◌,
  not,
  List,
  [],
  ◌∷◌,
  ◌++◌,
  ℕ,
  zero,
  suc,
  ◌+◌,
  ◌*◌,
  ◌/◌,
  ◌^◌,
  ◌≤◌,
  ◌<◌,
  eqb,
  ltb,
  drop,
  get_or,
  length,
  take,
  Some,
  None,
  Option,
  Ok,
  Err,
  Result,
}
use Rattle.base.specs.Words.{bytes_of, number}
use Rattle.base.specs.declared.Refusal.{Refusal}
use Rattle.base.specs.declared.Refusal.TheVariants.{NotAPolicy, OtherVersion}
use Rattle.emoji.specs.UnicodeData.{unicode_version, variation_entries}
use Rattle.policy_key_set.specs.Sets.{all_below, entry_count, member, word_count}
use Rattle.policy_key_set.specs.KeySets.{is_ascii, ordinary}
use Rattle.policy_key_set.specs.declared.char_set.CharSet.{CharSet}
use Rattle.policy_key_set.specs.declared.PolicyKeySet.{PolicyKeySet}
use Rattle.policy.specs.declared.Policy.{Policy}
use Rattle.policy.specs.declared.ReadPolicy.{ReadPolicy}

-- The words of a key set, its ordinary set first; the words of a policy's sets, `prefer_bare` first; and the bytes of a stored policy,
-- with the version of the tables before these words.
unfoldable pub key_words : PolicyKeySet → List ℕ
key_words s = s.chars.bits ++ s.keycap_chars.bits

unfoldable pub policy_words : Policy → List ℕ
policy_words p = key_words p.prefer_bare ++ key_words p.bare_as_text

unfoldable pub policy_bytes : Policy → List ℕ
policy_bytes p = bytes_of (unicode_version ∷ policy_words p)

-- "So a policy is 4W + 1 words": its number of bytes.
abbrev pub policy_length : ℕ
policy_length = (4 * word_count + 1) * 8

-- The version that bytes name: their first word.
abbrev pub version_of : List ℕ → ℕ
version_of bs = number (take 8 bs)

-- The words that bytes encode from an offset on. The first argument is the number of words.
unfoldable pub words_from : ℕ → ℕ → List ℕ → List ℕ
words_from zero at bs = []
words_from (suc n) at bs = number (take 8 (drop at bs)) ∷ words_from n (at + 8) bs

-- The numbers that bytes encode, eight bytes for each.
abbrev pub numbers_of : List ℕ → List ℕ
numbers_of bs = words_from (length bs / 8) 0 bs

-- Set k of the policy that bytes encode, and the policy that they encode. The sets follow the version.
abbrev pub set_of : ℕ → List ℕ → CharSet
set_of k bs = record { bits = words_from word_count (8 + k * (word_count * 8)) bs }

unfoldable pub policy_of : List ℕ → Policy
policy_of bs = record {
  prefer_bare = record { chars = set_of 0 bs; keycap_chars = set_of 1 bs };
  bare_as_text = record { chars = set_of 2 bs; keycap_chars = set_of 3 bs };
}

-- Every bit of the words after the last entry is 0; and this for the four sets of a policy.
unfoldable pub no_unused_bit : List ℕ → Bool
no_unused_bit ws = all_below (word_count * 64) (λ (i : ℕ). ltb i entry_count || not (member i ws))

unfoldable pub no_unused_bits : Policy → Bool
no_unused_bits p =
    (no_unused_bit p.prefer_bare.chars.bits && no_unused_bit p.prefer_bare.keycap_chars.bits)
    && (no_unused_bit p.bare_as_text.chars.bits && no_unused_bit p.bare_as_text.keycap_chars.bits)

-- The bytes are a policy: 4W + 1 words, the version of the tables, and no unused bit set.
unfoldable pub is_policy : List ℕ → Bool
is_policy bs = eqb (length bs) policy_length && (eqb (version_of bs) unicode_version && no_unused_bits (policy_of bs))

-- The refusal of bytes that are not a policy. "15, another version, tested after the word count of 2 and before its unused bits":
-- number 15 if the word count is right and the version is another, or else number 2.
unfoldable pub policy_fault : List ℕ → Refusal
policy_fault bs = cond (eqb (length bs) policy_length && not (eqb (version_of bs) unicode_version)) OtherVersion NotAPolicy

-- The refusal of bytes that are given as a policy, or `None` if they are one.
unfoldable pub policy_refusal : List ℕ → Option Refusal
policy_refusal bs = cond (is_policy bs) None (Some (policy_fault bs))

-- The result of reading a policy.
unfoldable pub read_policy : List ℕ → ReadPolicy
read_policy bs = record { accepted = is_policy bs; policy = policy_of bs }

-- The policy that bytes encode, or the refusal of bytes that are none.
unfoldable pub policy_or_fault : List ℕ → Result Policy Refusal
policy_or_fault bs = cond (is_policy bs) (Ok (policy_of bs)) (Err (policy_fault bs))

-- The set has a 1 among its unused bits: a bit of its W words that belongs to no entry.
pub record UnusedOne (ws : List ℕ) : Type 0 where
  pub bit : ℕ
  pub no_entry : entry_count ≤ bit
  pub in_words : bit < word_count * 64
  pub is_one : member bit ws ≡ true

-- The bytes are not a policy: they are not 4W + 1 words, or they name "another version", or an unused bit is set in one of the four
-- sets.
pub data NoPolicy (bs : List ℕ) : Type 0 where
  other_length : (length bs ≡ policy_length → ⊥) → NoPolicy bs
  other_version : (version_of bs ≡ unicode_version → ⊥) → NoPolicy bs
  unused_bit : (k : ℕ) → k < 4 → UnusedOne (set_of k bs).bits → NoPolicy bs

-- The ordinary keys of `prefer_bare` contain every ASCII entry, in the policy that the bytes encode. Then an ASCII base without a
-- selector, to which rule 6 applies, does not change: `AsciiBasesBare`.
unfoldable pub ascii_keys_bare : List ℕ → Bool
ascii_keys_bare bs =
    all_below entry_count
    (λ (i : ℕ). not (is_ascii (get_or variation_entries i 0)) || ordinary (policy_of bs).prefer_bare i)

-- The property that every value of the type `Policy` has: each of its four sets has W words of 64 bits.
pub record SetValue (ws : List ℕ) : Type 0 where
  pub has_word_count : length ws ≡ word_count
  pub words : (k : ℕ) → get_or ws k 0 < 2 ^ 64

pub record PolicyValue (p : Policy) : Type 0 where
  pub prefer_bare_set : SetValue p.prefer_bare.chars.bits
  pub prefer_bare_keycap_set : SetValue p.prefer_bare.keycap_chars.bits
  pub bare_as_text_set : SetValue p.bare_as_text.chars.bits
  pub bare_as_text_keycap_set : SetValue p.bare_as_text.keycap_chars.bits
