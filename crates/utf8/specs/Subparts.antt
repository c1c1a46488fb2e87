-- Bytes that begin a character. `MaximalSubpart` is the maximal subpart of the Unicode Standard, chapter 3 (D93b), by RFC 3629's grammar
-- alone. `unfinished` bytes begin a character and need more bytes. `SubpartIsMaximal` (specs/Theorems.antt) says that the width that
-- `read_char` gives for a bad place is the length of its maximal subpart.
use Rattle.std.specs.Prelude.{◌≡◌, Bool, true, false, List, [], ◌∷◌, ◌++◌, ℕ, ◌≤◌, ◌<◌, length, take}
use Rattle.base.specs.Ranges.{within}
use Rattle.utf8.specs.Rfc3629.{utf8_char, begun_2, begun_3}

-- ---- by the grammar alone

-- The bytes begin a character: with the bytes `after` appended, or with none, they are one character (RFC 3629, section 4).
pub record Begins (u : List ℕ) : Type 0 where
  pub after : List ℕ
  pub makes : utf8_char (u ++ after) ≡ true

-- D93b: n is the length of the maximal subpart at the front of s. No character begins there, and the maximal subpart is the longest
-- beginning of s that begins a character, or one byte.
pub record MaximalSubpart (s : List ℕ) (n : ℕ) : Type 0 where
  pub no_char : (m : ℕ) → utf8_char (take m s) ≡ true → ⊥
  pub some : 1 ≤ n
  pub inside : n ≤ length s
  pub begins : 1 < n → Begins (take n s)
  pub longest : (m : ℕ) → m ≤ length s → Begins (take m s) → m ≤ n

-- The bytes begin a character and need at least one more byte. The empty list is unfinished too.
unfoldable pub unfinished : List ℕ → Bool
unfinished [] = true
unfinished (a ∷ []) = within 0xC2 0xF4 a
unfinished (a ∷ b ∷ []) = begun_2 a b
unfinished (a ∷ b ∷ c ∷ []) = begun_3 a b c
unfinished (a ∷ b ∷ c ∷ d ∷ s) = false
