-- The display of a key set: the text that `Display` of policy_key_set.rs writes, byte by byte. `fmt` writes `display` into a lent
-- buffer as `Wrote` of the crate base says.
use Rattle.std.specs.Prelude.{Bool, true, false, cond, List, [], ◌∷◌, ◌++◌, ℕ, zero, suc, ◌+◌, ◌*◌, ◌/◌, ◌%◌, ◌^◌, eqb, ltb, length}
use Rattle.base.specs.Texts.{parted}
use Rattle.emoji.specs.UnicodeData.{variation_entries}
use Rattle.policy_key_set.specs.Sets.{entry_count, member}
use Rattle.policy_key_set.specs.KeySets.{keys_size}
use Rattle.policy_key_set.specs.declared.PolicyKeySet.{PolicyKeySet}

-- An upper-case hexadecimal digit.
unfoldable pub hex_digit : ℕ → ℕ
hex_digit d = cond (ltb d 10) (48 + d) (55 + d)

-- The last k hexadecimal digits of a number, highest digit first.
unfoldable pub hex_digits : ℕ → ℕ → List ℕ
hex_digits zero n = []
hex_digits (suc k) n = hex_digit (n / 2 ^ (4 * k) % 16) ∷ hex_digits k n

-- The number of digits that `{:04X}` writes: at least four, and at most six for a code point.
unfoldable pub hex_width : ℕ → ℕ
hex_width n = cond (ltb n 0x10000) 4 (cond (ltb n 0x100000) 5 6)

-- The part of a key's text before the code point: `u(` for an ordinary key, `keycap:u(` for a keycap key.
unfoldable pub opening : Bool → List ℕ
opening false = 0x75 ∷ 0x28 ∷ []
opening true = 0x6B ∷ 0x65 ∷ 0x79 ∷ 0x63 ∷ 0x61 ∷ 0x70 ∷ 0x3A ∷ 0x75 ∷ 0x28 ∷ []

-- The text of a key: `u(XXXX)` or `keycap:u(XXXX)`.
unfoldable pub key_text : Bool → ℕ → List ℕ
key_text keycap c = opening keycap ++ (hex_digits (hex_width c) c ++ (0x29 ∷ []))

-- The texts of the keys in a set, from entry i on. The last argument is the list of the variation entries from entry i on.
unfoldable pub key_texts : Bool → List ℕ → ℕ → List ℕ → List (List ℕ)
key_texts keycap ws i [] = []
key_texts keycap ws i (c ∷ cs) =
    cond (member i ws) (key_text keycap c ∷ key_texts keycap ws (suc i) cs) (key_texts keycap ws (suc i) cs)

-- The ordinary keys in ascending order, then the keycap keys in ascending order, with a comma between each two.
unfoldable pub key_list : PolicyKeySet → List ℕ
key_list s =
    parted 0x2C (key_texts false s.chars.bits 0 variation_entries ++ key_texts true s.keycap_chars.bits 0 variation_entries)

-- `none` for the empty set, `all` for the set of all keys of both domains, or else the list of the keys.
unfoldable pub display : PolicyKeySet → List ℕ
display s =
    cond (eqb (keys_size s) 0) (0x6E ∷ 0x6F ∷ 0x6E ∷ 0x65 ∷ [])
    (cond (eqb (keys_size s) (entry_count + entry_count)) (0x61 ∷ 0x6C ∷ 0x6C ∷ []) (key_list s))

-- ---- contracts of helper functions

-- The bytes that are written for a text at the offset j of the output: at every offset but 0 a comma comes first.
unfoldable pub with_comma : ℕ → List ℕ → List ℕ
with_comma zero t = t
with_comma (suc j) t = 0x2C ∷ t

-- The bytes that are written for several texts from the offset j on. From the offset 0 on they are the texts with commas between them.
unfoldable pub written_from : ℕ → List (List ℕ) → List ℕ
written_from j [] = []
written_from j (t ∷ ts) = with_comma j t ++ written_from (j + length (with_comma j t)) ts
