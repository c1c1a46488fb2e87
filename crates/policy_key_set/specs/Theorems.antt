-- Statements about sets, key sets and their display. They hold for any number of entries and words, unless they name the tables. The
-- proofs are in proofs/Claims.antt.
use Rattle.std.specs.Prelude.{◌≡◌, ◌↔◌, Bool, true, false, not, ◌&&◌, ◌||◌, List, [], ◌∷◌, ℕ, ◌+◌, ◌*◌, ◌^◌, ◌<◌, ◌≤◌, get_or, length}
use Rattle.std.specs.Int.Count.{ones}
use Rattle.base.specs.Sums.{sum_below}
use Rattle.emoji.specs.Unicode.{has_variation_sequence, is_emoji_default, is_text_default}
use Rattle.policy_key_set.specs.Sets.{
  Holds,
  HoldsBelow,
  HoldsChars,
  contains,
  count_below,
  entry_count,
  member,
  same_entries,
  size_of,
  word_count,
}
use Rattle.policy_key_set.specs.KeySets.{is_ascii, is_keycap_rgi, keycap, keys_size, ordinary, words_match_rule}
use Rattle.policy_key_set.specs.Display.{display}
use Rattle.policy_key_set.specs.declared.PolicyKeySet.{PolicyKeySet}

-- "With V variation entries, W = V/64 rounded up": 354 and 6.
unfoldable pub EntriesAndWords : Type 0
EntriesAndWords = (entry_count ≡ 354) × (word_count ≡ 6)

-- Two lists of 64-bit words with the same members are equal.
unfoldable pub MembersDetermineWords : Type 0
MembersDetermineWords =
    (ws vs : List ℕ) → length ws ≡ length vs → ((k : ℕ) → get_or ws k 0 < 2 ^ 64) → ((k : ℕ) → get_or vs k 0 < 2 ^ 64)
    → ((i : ℕ) → member i ws ≡ member i vs) → ws ≡ vs

-- Two results of operations with the same test are the same words. So every law of Booleans is a law of sets.
unfoldable pub SameTestSameWords : Type 0
SameTestSameWords =
    (n : ℕ) (p q : ℕ → Bool) (ws vs : List ℕ) → length ws ≡ length vs → ((k : ℕ) → get_or ws k 0 < 2 ^ 64)
    → ((k : ℕ) → get_or vs k 0 < 2 ^ 64) → HoldsBelow n p ws → HoldsBelow n q vs → ((i : ℕ) → i < n → p i ≡ q i) → ws ≡ vs

-- "The size of a set is the number of its one bits": the number of ones of m words that hold entries below n is the number of these
-- entries.
unfoldable pub OnesAreMembers : Type 0
OnesAreMembers =
    (n m : ℕ) (p : ℕ → Bool) (ws : List ℕ) → n ≤ m * 64 → ((k : ℕ) → get_or ws k 0 < 2 ^ 64) → HoldsBelow n p ws
    → sum_below m (λ (k : ℕ). ones (get_or ws k 0)) ≡ count_below n p

-- Words that pass the computed test of a rule hold exactly the entries whose character matches the rule.
unfoldable pub TestedWordsHold : Type 0
TestedWordsHold = (p : ℕ → Bool) (ws : List ℕ) → words_match_rule p ws ≡ true → HoldsChars p ws

-- A set that holds the entries whose character passes a test contains exactly these characters.
unfoldable pub NamedSetsContain : Type 0
NamedSetsContain =
    (p : ℕ → Bool) (ws : List ℕ) → HoldsChars p ws → (ch : ℕ) → contains ch ws ≡ (has_variation_sequence ch && p ch)

-- A variation entry is text-default exactly if it is not emoji-default, and ASCII exactly if it is one of #, * and the digits.
unfoldable pub NamedSetsCompare : Type 0
NamedSetsCompare =
    (c : ℕ) → has_variation_sequence c ≡ true → (is_text_default c ≡ not (is_emoji_default c)) × (is_ascii c ≡ is_keycap_rgi c)

-- The characters that the result of an operation contains: for union, intersection, difference and symmetric difference.
unfoldable pub ContainsByOperation : Type 0
ContainsByOperation =
    (f : Bool → Bool → Bool) → f false false ≡ false → (x y z : List ℕ) → Holds (λ (i : ℕ). f (member i x) (member i y)) z
    → (ch : ℕ) → contains ch z ≡ f (contains ch x) (contains ch y)

-- The characters that the complement contains.
unfoldable pub ContainsByComplement : Type 0
ContainsByComplement =
    (x z : List ℕ) → Holds (λ (i : ℕ). not (member i x)) z → (ch : ℕ)
    → contains ch z ≡ (has_variation_sequence ch && not (contains ch x))

-- The complement of the complement is the set with its unused bits cleared.
unfoldable pub ComplementTwice : Type 0
ComplementTwice =
    (n : ℕ) (x y z : List ℕ) → HoldsBelow n (λ (i : ℕ). not (member i x)) y → HoldsBelow n (λ (i : ℕ). not (member i y)) z
    → HoldsBelow n (λ (i : ℕ). member i x) z

-- The complement of a union is the intersection of the complements.
unfoldable pub ComplementOfUnion : Type 0
ComplementOfUnion =
    (n : ℕ) (x y u v : List ℕ) → HoldsBelow n (λ (i : ℕ). member i x || member i y) u
    → HoldsBelow n (λ (i : ℕ). not (member i u)) v → HoldsBelow n (λ (i : ℕ). not (member i x) && not (member i y)) v

-- The size of a union plus the size of the intersection is the sum of the sizes of the two sets.
unfoldable pub SizeOfUnion : Type 0
SizeOfUnion =
    (x y u v : List ℕ) → Holds (λ (i : ℕ). member i x || member i y) u → Holds (λ (i : ℕ). member i x && member i y) v
    → size_of u + size_of v ≡ size_of x + size_of y

-- Two sets are equal exactly if they hold the same entries.
unfoldable pub SameEntriesMeans : Type 0
SameEntriesMeans =
    (ws vs : List ℕ) → (same_entries ws vs ≡ true) ↔ ((i : ℕ) → i < entry_count → member i ws ≡ member i vs)

-- The conditions for the displays `none` and `all`: a key set has the size 0 exactly if it has no key, and the size 2 V exactly if it
-- has every key.
unfoldable pub SizeOfNone : Type 0
SizeOfNone =
    (s : PolicyKeySet) → (keys_size s ≡ 0) ↔ ((i : ℕ) → i < entry_count → (ordinary s i ≡ false) × (keycap s i ≡ false))

unfoldable pub SizeOfAll : Type 0
SizeOfAll =
    (s : PolicyKeySet)
    → (keys_size s ≡ entry_count + entry_count) ↔ ((i : ℕ) → i < entry_count → (ordinary s i ≡ true) × (keycap s i ≡ true))

-- An example: the display of # and A9 as ordinary keys and 1F6F3 as a keycap key is u(0023),u(00A9),keycap:u(1F6F3).
unfoldable pub DisplayExample : Type 0
DisplayExample =
    display
    (record {
      chars = record { bits = 0x1001 ∷ 0 ∷ 0 ∷ 0 ∷ 0 ∷ 0 ∷ [] };
      keycap_chars = record { bits = 0 ∷ 0 ∷ 0 ∷ 0 ∷ 0 ∷ 0x200000000 ∷ [] };
    })
    ≡ 0x75 ∷ 0x28 ∷ 0x30 ∷ 0x30 ∷ 0x32 ∷ 0x33 ∷ 0x29 ∷ 0x2C ∷ 0x75 ∷ 0x28 ∷ 0x30 ∷ 0x30 ∷ 0x41 ∷ 0x39 ∷ 0x29 ∷ 0x2C ∷ 0x6B ∷ 0x65
    ∷ 0x79 ∷ 0x63 ∷ 0x61 ∷ 0x70 ∷ 0x3A ∷ 0x75 ∷ 0x28 ∷ 0x31 ∷ 0x46 ∷ 0x36 ∷ 0x46 ∷ 0x33 ∷ 0x29 ∷ []
