-- One step of a fold over the characters: at a character, where no character begins, and at the end.
use mathlib.Core.Path.{◌≡◌, refl, ap, ◌∙◌, subst}
use mathlib.Core.List.{List, [], ◌∷◌}
use Prim.Native.Nat.{ℕ, zero, suc, ◌+◌, ◌-◌, ◌≤◌}
use native.Mathlib.Omega.{arith}
use lib.ListN.{drop}
use Rattle.utf8.specs.Rfc3629.{read_char, fold_step, fold_chars, chars, valid_up_to_of}
use Rattle.utf8.specs.declared.ReadChar.{ReadChar}
use Rattle.utf8.specs.declared.ReadChar.TheVariants.{Char, IllFormed, End}
use Rattle.utf8.proofs.Encoding.{char_begins}
use Rattle.utf8.proofs.Fronts.{read_char_nil}

pub drop_past : (w a : ℕ) (s : List ℕ) → 1 ≤ w → drop (w - 1) s ≡ drop w (a ∷ s)
drop_past zero a s h = absurd (omega arith)
drop_past (suc w) a s h = let e : suc w - 1 ≡ w = omega arith in ap (λ (n : ℕ). drop n s) e

module _ {A : Type 0} (stop : A) (more : ℕ → ℕ → A → A) where
  pub fold_chars_skip : (k : ℕ) (s : List ℕ) → fold_chars stop more k s ≡ fold_chars stop more 0 (drop k s)
  unfolding fold_chars
  fold_chars_skip zero s = refl
  fold_chars_skip (suc k) [] = refl
  fold_chars_skip (suc k) (a ∷ s) = fold_chars_skip k s

  pub fold_chars_ill_formed : (s : List ℕ) {n : ℕ} → read_char s ≡ IllFormed n → fold_chars stop more 0 s ≡ stop
  unfolding fold_chars fold_step
  fold_chars_ill_formed [] e = refl
  fold_chars_ill_formed (a ∷ s) e = ap (λ (r : ReadChar). fold_step stop more r (λ w. fold_chars stop more (w - 1) s)) e

  pub fold_chars_end : (s : List ℕ) → read_char s ≡ End → fold_chars stop more 0 s ≡ stop
  unfolding fold_chars fold_step
  fold_chars_end [] e = refl
  fold_chars_end (a ∷ s) e = ap (λ (r : ReadChar). fold_step stop more r (λ w. fold_chars stop more (w - 1) s)) e

  pub fold_chars_char : (s : List ℕ) (v w : ℕ) → read_char s ≡ Char v w → fold_chars stop more 0 s
      ≡ more v w (fold_chars stop more 0 (drop w s))
  unfolding fold_chars fold_step
  fold_chars_char [] v w e = let z : ◌≡◌ {A = ℕ} 0 1 = cc read_char_nil in absurd (omega arith)
  fold_chars_char (a ∷ s) v w e =
      ap (λ (r : ReadChar). fold_step stop more r (λ w. fold_chars stop more (w - 1) s)) e
      ∙ ap (more v w) (fold_chars_skip (w - 1) s ∙ ap (fold_chars stop more 0) (drop_past w a s (char_begins (a ∷ s) v w e).some))

-- ---- the characters, and the longest well-formed prefix

pub chars_ill_formed : (s : List ℕ) {n : ℕ} → read_char s ≡ IllFormed n → chars s ≡ []
unfolding chars
chars_ill_formed s e = fold_chars_ill_formed [] (λ v w r. v ∷ r) s e

pub chars_end : (s : List ℕ) → read_char s ≡ End → chars s ≡ []
unfolding chars
chars_end s e = fold_chars_end [] (λ v w r. v ∷ r) s e

pub chars-char : (s : List ℕ) (v w : ℕ) → read_char s ≡ Char v w → chars s ≡ v ∷ chars (drop w s)
unfolding chars
chars-char s v w e = fold_chars_char [] (λ v w r. v ∷ r) s v w e

pub valid_up_to_ill_formed : (s : List ℕ) {n : ℕ} → read_char s ≡ IllFormed n → valid_up_to_of s ≡ 0
unfolding valid_up_to_of
valid_up_to_ill_formed s e = fold_chars_ill_formed 0 (λ v w r. w + r) s e

pub valid_up_to_end : (s : List ℕ) → read_char s ≡ End → valid_up_to_of s ≡ 0
unfolding valid_up_to_of
valid_up_to_end s e = fold_chars_end 0 (λ v w r. w + r) s e

pub valid_up_to-char : (s : List ℕ) (v w : ℕ) → read_char s ≡ Char v w → valid_up_to_of s ≡ w + valid_up_to_of (drop w s)
unfolding valid_up_to_of
valid_up_to-char s v w e = fold_chars_char 0 (λ v w r. w + r) s v w e

-- ---- a text, character by character: the induction principle

pub data Reading : List ℕ → Type 0 where
  read_end : {s : List ℕ} → read_char s ≡ End → Reading s
  read_ill_formed : {s : List ℕ} {n : ℕ} → read_char s ≡ IllFormed n → Reading s
  read_more : {s : List ℕ} (v w : ℕ) → read_char s ≡ Char v w → Reading (drop w s) → Reading s

reading-from : (k : ℕ) (s : List ℕ) → Reading (drop k s)
reading-from zero [] = read_end read_char_nil
reading-from (suc k) [] = read_end read_char_nil
reading-from (suc k) (a ∷ s) = reading-from k s
reading-from zero (a ∷ s) = go (read_char (a ∷ s)) refl (λ w. reading-from (w - 1) s)
  where
    go : (r : ReadChar) → read_char (a ∷ s) ≡ r → ((w : ℕ) → Reading (drop (w - 1) s)) → Reading (a ∷ s)
    go End e ih = read_end e
    go (IllFormed n) e ih = read_ill_formed e
    go (Char v w) e ih = read_more v w e (subst Reading (drop_past w a s (char_begins (a ∷ s) v w e).some) (ih w))

pub reading : (s : List ℕ) → Reading s
reading s = reading-from 0 s
