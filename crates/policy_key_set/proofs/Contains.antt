-- The characters that a set contains: a set contains a character if the entry at its index passes the set's test.
use Rattle.std.specs.Prelude.{Some, None, Option}
use mathlib.Core.Path.{◌≡◌, refl, sym, ap, ◌∙◌}
use mathlib.Core.Bool.{Bool, false, ◌&&◌, not}
use mathlib.Core.List.{List}
use Prim.Native.Nat.{ℕ, ◌<◌}
use native.Mathlib.Omega.{arith}
use lib.ListN.{get_or}
use Rattle.emoji.specs.Unicode.{has_variation_sequence, variation_sequence_index}
use Rattle.emoji.specs.UnicodeData.{variation_entries}
use Rattle.emoji.proofs.Ascent.{is_at, member_index}
use Rattle.policy_key_set.specs.Sets.{Holds, HoldsChars, contains, entry_count, member, member_at}
use Rattle.policy_key_set.proofs.Entries.{entry_count_lem, index_has_place, place-has_index}
use Rattle.policy_key_set.proofs.Members.{held}

-- A set contains the character of an entry exactly when it holds the entry.
pub contains_entry : (ws : List ℕ) (i : ℕ) → i < entry_count → contains (get_or variation_entries i 0) ws ≡ member i ws
unfolding contains member_at
contains_entry ws i h = ap (λ (x : Option ℕ). member_at x ws) (place-has_index i h)

-- So the test for the character of entry i is the test for entry i.
pub contains-place : {b : Bool} {ch : ℕ} (ws : List ℕ) (i : ℕ) → i < 354 → ch ≡ get_or variation_entries i 0 → b ≡ contains ch ws
    → member i ws
    ≡ b
contains-place ws i h e f = sym (f ∙ ap (λ (c : ℕ). contains c ws) e ∙ contains_entry ws i (omega (arith, entry_count_lem)))

-- The test of the entry at an index.
unfoldable pub test_at : Option ℕ → (ℕ → Bool) → Bool
test_at (Some i) p = p i
test_at None p = false

-- A set contains a character if the entry at its index passes the test.
pub contains-held : (p : ℕ → Bool) (ws : List ℕ) → Holds p ws → (ch : ℕ) → contains ch ws ≡ test_at (variation_sequence_index ch) p
unfolding contains member_at test_at
contains-held p ws h ch = go (variation_sequence_index ch) refl
  where
    go : (r : Option ℕ) → variation_sequence_index ch ≡ r → member_at r ws ≡ test_at r p
    go (Some i) e = held entry_count p ws h i (index_has_place ch i e).0
    go None e = refl

-- A character is a variation entry exactly if it has an index.
pub has_index : (ch : ℕ) → has_variation_sequence ch ≡ is_at (variation_sequence_index ch)
unfolding has_variation_sequence variation_sequence_index
has_index ch = member_index ch variation_entries

-- A set of the entries whose character passes a test contains exactly these characters.
pub contains-chars : (p : ℕ → Bool) (ws : List ℕ) → HoldsChars p ws → (ch : ℕ) → contains ch ws ≡ (has_variation_sequence ch && p ch)
unfolding test_at is_at
contains-chars p ws h ch =
    contains-held (λ (i : ℕ). p (get_or variation_entries i 0)) ws h ch ∙ go (variation_sequence_index ch) refl
    ∙ ap (λ (b : Bool). b && p ch) (sym (has_index ch))
  where
    go : (r : Option ℕ) → variation_sequence_index ch ≡ r → test_at r (λ (i : ℕ). p (get_or variation_entries i 0))
        ≡ (is_at r && p ch)
    go (Some i) e = ap p (index_has_place ch i e).1
    go None e = refl

-- The result of an operation contains the characters that the operation keeps.
pub contains-made : (f : Bool → Bool → Bool) → f false false ≡ false → (x y z : List ℕ) → Holds (λ (i : ℕ). f (member i x) (member i y)) z
    → (ch : ℕ) → contains ch z ≡ f (contains ch x) (contains ch y)
unfolding contains member_at test_at
contains-made f e x y z h ch = contains-held (λ (i : ℕ). f (member i x) (member i y)) z h ch ∙ go (variation_sequence_index ch)
  where
    go : (r : Option ℕ) → test_at r (λ (i : ℕ). f (member i x) (member i y)) ≡ f (member_at r x) (member_at r y)
    go (Some i) = refl
    go None = sym e

-- The complement contains the variation entries that are not in the set.
pub contains_complement : (x z : List ℕ) → Holds (λ (i : ℕ). not (member i x)) z → (ch : ℕ)
    → contains ch z ≡ (has_variation_sequence ch && not (contains ch x))
unfolding contains member_at test_at is_at
contains_complement x z h ch =
    contains-held (λ (i : ℕ). not (member i x)) z h ch ∙ go (variation_sequence_index ch)
    ∙ ap (λ (b : Bool). b && not (contains ch x)) (sym (has_index ch))
  where
    go : (r : Option ℕ) → test_at r (λ (i : ℕ). not (member i x)) ≡ (is_at r && not (member_at r x))
    go (Some i) = refl
    go None = refl
