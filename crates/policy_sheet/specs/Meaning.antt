-- The meaning of the pieces of a sheet: the policy's four sets, in order. And what refusals 11 and 12 say of pieces.
use Rattle.std.specs.Prelude.{◌≡◌, Bool, true, false, ◌&&◌, ◌||◌, List, [], ◌∷◌, ◌++◌, ℕ, ◌≤◌, eqb, ltb, get_or}
use Rattle.base.specs.Ranges.{within}
use Rattle.emoji.specs.Unicode.{has_variation_sequence}
use Rattle.emoji.specs.UnicodeData.{variation_entries}
use Rattle.policy_key_set.specs.Sets.{Holds, entry_count, word_count, words_of}
use Rattle.policy_key_set.specs.declared.char_set.CharSet.{CharSet}
use Rattle.policy.specs.PolicyBytes.{PolicyValue}
use Rattle.policy.specs.declared.Policy.{Policy}
use Rattle.policy_sheet.specs.Grammar.{Piece, Point}

-- The piece is in line k, and the code point c is in the piece.
abbrev pub has : ℕ → ℕ → Piece → Bool
has k c x = eqb x.line k && within x.first.value x.last.value c

-- The code point c is in a piece of line k. "The reader takes pieces in any sequence and overlapping."
unfoldable pub covered : List Piece → ℕ → ℕ → Bool
covered [] k c = false
covered (x ∷ xs) k c = has k c x || covered xs k c

-- Variation entry i is in set k.
abbrev pub in_set : List Piece → ℕ → ℕ → Bool
in_set xs k i = covered xs k (get_or variation_entries i 0)

-- ".. in the order of the policy's four sets", "A range includes only the variation entries inside it": the policy that pieces mean.
pub record Means (xs : List Piece) (p : Policy) : Type 0 where
  pub value : PolicyValue p
  pub prefer_bare_set : Holds (in_set xs 0) p.prefer_bare.chars.bits
  pub prefer_bare_keycap_set : Holds (in_set xs 1) p.prefer_bare.keycap_chars.bits
  pub bare_as_text_set : Holds (in_set xs 2) p.bare_as_text.chars.bits
  pub bare_as_text_keycap_set : Holds (in_set xs 3) p.bare_as_text.keycap_chars.bits

-- Each element of a list has a property.
pub data Each {A : Type 0} (P : A → Type 0) : List A → Type 0 where
  each_none : Each P []
  each_and : {x : A} {xs : List A} → P x → Each P xs → Each P (x ∷ xs)

-- No range runs down.
abbrev pub Rising : List Piece → Type 0
Rising xs = Each (λ (x : Piece). x.first.value ≤ x.last.value) xs

-- The single code points and the ends of ranges, in the order of the sheet. A single code point is twice in the list.
unfoldable pub points : List Piece → List Point
points [] = []
points (x ∷ xs) = x.first ∷ (x.last ∷ points xs)

-- The code point is a variation entry; and this for all code points of a sheet.
abbrev pub IsEntry : Point → Type 0
IsEntry x = has_variation_sequence x.value ≡ true

abbrev pub AllEntries : List Piece → Type 0
AllEntries xs = Each IsEntry (points xs)

-- "12, the first single code point or either end of a range that is no variation entry, with its offset": all code points before it are
-- entries.
pub record FirstNonEntry (xs : List Piece) (n : ℕ) : Type 0 where
  pub earlier : List Point
  pub later : List Point
  pub other : Point
  pub split : points xs ≡ earlier ++ (other ∷ later)
  pub entries : Each IsEntry earlier
  pub no_entry : has_variation_sequence other.value ≡ false
  pub offset : other.at ≡ n

-- ---- the policy

-- The set of the entries that pass a test.
abbrev pub set_by : (ℕ → Bool) → CharSet
set_by p = record { bits = words_of word_count (λ (i : ℕ). ltb i entry_count && p i) }

-- The policy that pieces mean, computed. `pieces_mean` of proofs/Words.antt says so.
unfoldable pub sheet_policy : List Piece → Policy
sheet_policy xs = record {
  prefer_bare = record { chars = set_by (in_set xs 0); keycap_chars = set_by (in_set xs 1) };
  bare_as_text = record { chars = set_by (in_set xs 2); keycap_chars = set_by (in_set xs 3) };
}
