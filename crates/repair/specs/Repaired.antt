-- The repaired text and the number of replacements (document 02, ii), in two forms: by the stretches of a text (`Repairs`), and computed
-- (`repaired`, `replacements`). `EveryRepairedText` of specs/Theorems.antt says that `Repairs` gives the computed text and number, and no
-- others. A stretch is document 02's word for the bytes of a bad place.
use Rattle.std.specs.Prelude.{◌≡◌, true, List, [], ◌∷◌, ◌++◌, ℕ, zero, suc, ◌-◌, length}
use Rattle.utf8.specs.Rfc3629.{encode_all, read_char, utf8_char}
use Rattle.utf8.specs.Subparts.{MaximalSubpart}
use Rattle.utf8.specs.declared.ReadChar.{ReadChar}
use Rattle.utf8.specs.declared.ReadChar.TheVariants.{Char, IllFormed, End}

-- FFFD, the replacement character: EF BF BD, "three bytes".
abbrev pub replacement_char : ℕ
replacement_char = 0xFFFD

abbrev pub replacement_bytes : List ℕ
replacement_bytes = 0xEF ∷ 0xBF ∷ 0xBD ∷ []

-- ---- by the stretches and RFC 3629's grammar

-- s is a list of characters and stretches. Each stretch is the maximal subpart of the bytes from its start on. t is s "with each such
-- stretch replaced by FFFD", and k is "the number of replacements".
pub data Repairs : List ℕ → List ℕ → ℕ → Type 0 where
  nothing_left : Repairs [] [] 0
  a_char : {s t : List ℕ} {k : ℕ} (bs : List ℕ) → utf8_char bs ≡ true → Repairs s t k → Repairs (bs ++ s) (bs ++ t) k
  a_stretch : {s t : List ℕ} {k : ℕ} (bs : List ℕ) → MaximalSubpart (bs ++ s) (length bs) → Repairs s t k
      → Repairs (bs ++ s) (replacement_bytes ++ t) (suc k)

-- ---- computed

-- A fold over all characters and bad places of a text. `more` takes a character's value, its width and the fold of the bytes after it.
-- `bad` takes the width of a bad place and the fold of the bytes after it. `stop` is the fold of no bytes.
module _ {A : Type 0} (stop : A) (more : ℕ → ℕ → A → A) (bad : ℕ → A → A) where
  -- One step of the fold, from the answer of `read_char`. `rest w` is the fold of the bytes after the first w.
  unfoldable pub place_step : ReadChar → (ℕ → A) → A
  place_step (Char v w) rest = more v w (rest w)
  place_step (IllFormed n) rest = bad n (rest n)
  place_step End rest = stop

  -- The number is the number of bytes at the front that belong to the character or the bad place before them.
  unfoldable pub fold_places : ℕ → List ℕ → A
  fold_places skip [] = stop
  fold_places zero (a ∷ s) = place_step (read_char (a ∷ s)) (λ w. fold_places (w - 1) s)
  fold_places (suc skip) (a ∷ s) = fold_places skip s

-- The characters of the repaired text: those of the text, with FFFD for each stretch.
unfoldable pub repaired_chars : List ℕ → List ℕ
repaired_chars s = fold_places [] (λ v w r. v ∷ r) (λ n r. replacement_char ∷ r) 0 s

-- "the text with each such stretch replaced by FFFD (three bytes)"
unfoldable pub repaired : List ℕ → List ℕ
repaired s = encode_all (repaired_chars s)

-- "and the number of replacements"
unfoldable pub replacements : List ℕ → ℕ
replacements s = fold_places 0 (λ v w r. r) (λ n r. suc r) 0 s
