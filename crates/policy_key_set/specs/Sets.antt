-- Sets of variation entries as words of 64 bits: document 01, "Key set and policy". `Holds` says which entries a set holds, and the
-- contract of every operation cites it.
use Rattle.std.specs.Prelude.{
  ◌≡◌,
  Bool,
  true,
  false,
  ◌&&◌,
  not,
  List,
  [],
  ◌∷◌,
  ℕ,
  zero,
  suc,
  ◌+◌,
  ◌*◌,
  ◌/◌,
  ◌%◌,
  ltb,
  get_or,
  length,
  Some,
  None,
  Option,
}
use Rattle.std.specs.Bool.{beq}
use Rattle.base.specs.Sums.{one_if}
use Rattle.base.specs.Bits.{one}
use Rattle.emoji.specs.Unicode.{variation_sequence_index}
use Rattle.emoji.specs.UnicodeData.{variation_entries}
use Rattle.policy_key_set.specs.declared.char_set.CharSet.{CharSet}

-- Entry i is in the set: "entry i at bit i mod 64 of word i/64". After the last word, no entry is in the set.
unfoldable pub member : ℕ → List ℕ → Bool
member i ws = one (i % 64) (get_or ws (i / 64) 0)

-- The number of variation entries: "V variation entries".
unfoldable pub entry_count : ℕ
entry_count = length variation_entries

-- The number of words of a set: "W = V/64 rounded up".
unfoldable pub word_count : ℕ
word_count = (entry_count + 63) / 64

-- The words hold exactly the entries below n that pass a test, and every other bit is 0.
abbrev pub HoldsBelow : ℕ → (ℕ → Bool) → List ℕ → Type 0
HoldsBelow n p ws = (i : ℕ) → member i ws ≡ (ltb i n && p i)

-- The words hold exactly the variation entries that pass a test, and "unused bits" are 0.
abbrev pub Holds : (ℕ → Bool) → List ℕ → Type 0
Holds p ws = HoldsBelow entry_count p ws

-- The words hold exactly the variation entries whose character passes a test.
abbrev pub HoldsChars : (ℕ → Bool) → List ℕ → Type 0
HoldsChars p ws = Holds (λ (i : ℕ). p (get_or variation_entries i 0)) ws

-- In the first set and not in the second.
abbrev pub but_not : Bool → Bool → Bool
but_not x y = x && not y

-- In exactly one of the two sets.
abbrev pub differ : Bool → Bool → Bool
differ x y = not (beq x y)

-- The result of an operation, entry by entry: "Union, intersection, difference and complement take whole sets and give a new one".
abbrev pub MadeBy : (Bool → Bool → Bool) → CharSet → CharSet → CharSet → Type 0
MadeBy f a b r = Holds (λ (i : ℕ). f (member i a.bits) (member i b.bits)) r.bits

-- The number of the numbers below n that pass a test.
unfoldable pub count_below : ℕ → (ℕ → Bool) → ℕ
count_below zero p = 0
count_below (suc n) p = count_below n p + one_if (p n)

-- The size of a set after the unused bits are cleared: "The size of a set is the number of its one bits after that".
unfoldable pub size_of : List ℕ → ℕ
size_of ws = count_below entry_count (λ (i : ℕ). member i ws)

-- Each number below n passes a test.
unfoldable pub all_below : ℕ → (ℕ → Bool) → Bool
all_below zero p = true
all_below (suc n) p = p n && all_below n p

-- The two sets hold the same entries.
unfoldable pub same_entries : List ℕ → List ℕ → Bool
same_entries ws vs = all_below entry_count (λ (i : ℕ). beq (member i ws) (member i vs))

-- The set holds the entry at an index.
unfoldable pub member_at : Option ℕ → List ℕ → Bool
member_at (Some i) ws = member i ws
member_at None ws = false

-- The set holds a character: `CharSet::contains` of policy_key_set.rs.
unfoldable pub contains : ℕ → List ℕ → Bool
contains ch ws = member_at (variation_sequence_index ch) ws

-- The word of n bits, and the n words of 64 bits, whose bits are 1 exactly where a test passes.
unfoldable pub word_of : ℕ → (ℕ → Bool) → ℕ
word_of zero p = 0
word_of (suc n) p = one_if (p 0) + 2 * word_of n (λ (i : ℕ). p (suc i))

unfoldable pub words_of : ℕ → (ℕ → Bool) → List ℕ
words_of zero p = []
words_of (suc n) p = word_of 64 p ∷ words_of n (λ (i : ℕ). p (64 + i))
