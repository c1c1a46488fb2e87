-- One step of a fold over all places of a text: at a character, at a bad place, at the end; and the induction over a text, place by
-- place. A place is a character or a bad place.
use mathlib.Core.Path.{◌≡◌, refl, ap, ◌∙◌, subst}
use mathlib.Core.List.{List, [], ◌∷◌, ◌++◌}
use Prim.Native.Nat.{ℕ, zero, suc, ◌-◌, ◌≤◌}
use native.Mathlib.Omega.{arith}
use lib.ListN.{drop}
use Rattle.utf8.specs.Rfc3629.{encode, encode_all, read_char}
use Rattle.utf8.proofs.Encoding.{char_begins}
use Rattle.utf8.proofs.Folds.{drop_past}
use Rattle.utf8.proofs.Fronts.{read_char_nil}
use Rattle.repair.specs.Repaired.{fold_places, place_step, repaired, repaired_chars, replacement_bytes, replacement_char, replacements}
use Rattle.utf8.specs.declared.ReadChar.{ReadChar}
use Rattle.utf8.specs.declared.ReadChar.TheVariants.{Char, IllFormed, End}
use Rattle.utf8.proofs.Subparts.{bad-maximal}

-- A character has at least one byte, and so has a bad place.
pub char-some : (s : List ℕ) (v w : ℕ) → read_char s ≡ Char v w → 1 ≤ w
char-some s v w e = (char_begins s v w e).some

pub bad-some : (s : List ℕ) (n : ℕ) → read_char s ≡ IllFormed n → 1 ≤ n
bad-some s n e = (bad-maximal s n e).some

module _ {A : Type 0} (stop : A) (more : ℕ → ℕ → A → A) (bad : ℕ → A → A) where
  pub fold_skip : (k : ℕ) (s : List ℕ) → fold_places stop more bad k s ≡ fold_places stop more bad 0 (drop k s)
  unfolding fold_places
  fold_skip zero s = refl
  fold_skip (suc k) [] = refl
  fold_skip (suc k) (a ∷ s) = fold_skip k s

  pub fold_end : (s : List ℕ) → read_char s ≡ End → fold_places stop more bad 0 s ≡ stop
  unfolding fold_places place_step
  fold_end [] e = refl
  fold_end (a ∷ s) e = ap (λ (r : ReadChar). place_step stop more bad r (λ w. fold_places stop more bad (w - 1) s)) e

  pub fold-char : (s : List ℕ) (v w : ℕ) → read_char s ≡ Char v w
      → fold_places stop more bad 0 s ≡ more v w (fold_places stop more bad 0 (drop w s))
  unfolding fold_places place_step
  fold-char [] v w e = let z : ◌≡◌ {A = ℕ} 0 1 = cc read_char_nil in absurd (omega arith)
  fold-char (a ∷ s) v w e =
      ap (λ (r : ReadChar). place_step stop more bad r (λ w. fold_places stop more bad (w - 1) s)) e
      ∙ ap (more v w) (fold_skip (w - 1) s ∙ ap (fold_places stop more bad 0) (drop_past w a s (char-some (a ∷ s) v w e)))

  pub fold-bad : (s : List ℕ) (n : ℕ) → read_char s ≡ IllFormed n
      → fold_places stop more bad 0 s ≡ bad n (fold_places stop more bad 0 (drop n s))
  unfolding fold_places place_step
  fold-bad [] n e = let z : ◌≡◌ {A = ℕ} 0 1 = cc read_char_nil in absurd (omega arith)
  fold-bad (a ∷ s) n e =
      ap (λ (r : ReadChar). place_step stop more bad r (λ w. fold_places stop more bad (w - 1) s)) e
      ∙ ap (bad n) (fold_skip (n - 1) s ∙ ap (fold_places stop more bad 0) (drop_past n a s (bad-some (a ∷ s) n e)))

-- ---- the repaired text and the number of replacements

pub repaired_end : (s : List ℕ) → read_char s ≡ End → repaired s ≡ []
unfolding repaired repaired_chars encode_all
repaired_end s e = ap encode_all (fold_end [] (λ v w r. v ∷ r) (λ n r. replacement_char ∷ r) s e)

pub repaired-char : (s : List ℕ) (v w : ℕ) → read_char s ≡ Char v w → repaired s ≡ encode v ++ repaired (drop w s)
unfolding repaired repaired_chars encode_all
repaired-char s v w e = ap encode_all (fold-char [] (λ v w r. v ∷ r) (λ n r. replacement_char ∷ r) s v w e)

pub repaired-bad : (s : List ℕ) (n : ℕ) → read_char s ≡ IllFormed n → repaired s ≡ replacement_bytes ++ repaired (drop n s)
unfolding repaired repaired_chars encode_all encode
repaired-bad s n e = ap encode_all (fold-bad [] (λ v w r. v ∷ r) (λ n r. replacement_char ∷ r) s n e)

pub chars_of_end : (s : List ℕ) → read_char s ≡ End → repaired_chars s ≡ []
unfolding repaired_chars
chars_of_end s e = fold_end [] (λ v w r. v ∷ r) (λ n r. replacement_char ∷ r) s e

pub chars_of-char : (s : List ℕ) (v w : ℕ) → read_char s ≡ Char v w → repaired_chars s ≡ v ∷ repaired_chars (drop w s)
unfolding repaired_chars
chars_of-char s v w e = fold-char [] (λ v w r. v ∷ r) (λ n r. replacement_char ∷ r) s v w e

pub chars_of-bad : (s : List ℕ) (n : ℕ) → read_char s ≡ IllFormed n → repaired_chars s ≡ replacement_char ∷ repaired_chars (drop n s)
unfolding repaired_chars
chars_of-bad s n e = fold-bad [] (λ v w r. v ∷ r) (λ n r. replacement_char ∷ r) s n e

pub replacements_end : (s : List ℕ) → read_char s ≡ End → replacements s ≡ 0
unfolding replacements
replacements_end s e = fold_end 0 (λ v w r. r) (λ n r. suc r) s e

pub replacements-char : (s : List ℕ) (v w : ℕ) → read_char s ≡ Char v w → replacements s ≡ replacements (drop w s)
unfolding replacements
replacements-char s v w e = fold-char 0 (λ v w r. r) (λ n r. suc r) s v w e

pub replacements-bad : (s : List ℕ) (n : ℕ) → read_char s ≡ IllFormed n → replacements s ≡ suc (replacements (drop n s))
unfolding replacements
replacements-bad s n e = fold-bad 0 (λ v w r. r) (λ n r. suc r) s n e

-- ---- induction over a text, place by place

pub data Places : List ℕ → Type 0 where
  at_end : {s : List ℕ} → read_char s ≡ End → Places s
  at_bad : {s : List ℕ} (n : ℕ) → read_char s ≡ IllFormed n → Places (drop n s) → Places s
  at_char : {s : List ℕ} (v w : ℕ) → read_char s ≡ Char v w → Places (drop w s) → Places s

places-from : (k : ℕ) (s : List ℕ) → Places (drop k s)
places-from zero [] = at_end read_char_nil
places-from (suc k) [] = at_end read_char_nil
places-from (suc k) (a ∷ s) = places-from k s
places-from zero (a ∷ s) = go (read_char (a ∷ s)) refl (λ w. places-from (w - 1) s)
  where
    go : (r : ReadChar) → read_char (a ∷ s) ≡ r → ((w : ℕ) → Places (drop (w - 1) s)) → Places (a ∷ s)
    go End e ih = at_end e
    go (IllFormed n) e ih = at_bad n e (subst Places (drop_past n a s (bad-some (a ∷ s) n e)) (ih n))
    go (Char v w) e ih = at_char v w e (subst Places (drop_past w a s (char-some (a ∷ s) v w e)) (ih w))

pub places : (s : List ℕ) → Places s
places s = places-from 0 s
