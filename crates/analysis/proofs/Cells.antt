-- Characters and their cells: each determines the other, and both have the same characters and the same number of selectors.
use Rattle.std.specs.Prelude.{Option}
use mathlib.Core.Path.{◌≡◌, refl, ap, sym, ◌∙◌, subst}
use mathlib.Core.Bool.{true, false, cond}
use mathlib.Core.List.{List, [], ◌∷◌, ◌++◌, map, append-nil}
use Prim.Native.Nat.{ℕ, suc, ◌+◌}
use native.Mathlib.Omega.{arith}
use lib.ListN.{length}
use Rattle.emoji.specs.Presentation.{as_selector, is_selector}
use Rattle.emoji.specs.declared.presentation.Presentation.{Presentation}
use Rattle.scanner.specs.Classes.{strip}
use Rattle.scanner.specs.Grammar.{S, no_selectors, selector_and}
use Rattle.scanner.proofs.SelectorChars.{CharIs, a_selector, char_is, from-other, from_selector_lem, no_selector, selector_is}
use Rattle.scanner.proofs.Walk.{strip-char, strip_selector}
use Rattle.analysis.specs.Cells.{Cell, add_char, cells, leading, selector_count, split, unsplit}

-- ---- one more character

pub split_selector : (q : Presentation) (t : List ℕ) → split (as_selector q ∷ t) ≡ (q ∷ leading t, cells t)
unfolding split add_char
split_selector q t = ap (λ (f : Option Presentation). add_char (as_selector q) f (split t)) (from_selector_lem q)

pub split-char : (c : ℕ) (t : List ℕ) → is_selector c ≡ false → split (c ∷ t) ≡ ([], record { char = c; after = leading t } ∷ cells t)
unfolding split add_char
split-char c t e = ap (λ (f : Option Presentation). add_char c f (split t)) (from-other c e)

-- If no selector leads, the first character is no selector.
pub front-char : (c : ℕ) (t : List ℕ) → leading (c ∷ t) ≡ [] → is_selector c ≡ false
front-char c t e = go (char_is c)
  where
    go : CharIs c → is_selector c ≡ false
    go (no_selector f) = f
    go (a_selector q f) =
        let l : q ∷ leading t ≡ [] = sym
        (ap (λ (x : ℕ). leading (x ∷ t)) f ∙ ap (λ (a : List Presentation × List Cell). a.0) (split_selector q t)) ∙ e in
        absurd (omega (arith, ap length l))

-- Induction over characters, by whether the first is a selector.
module _ (P : List ℕ → Type 0) (end : P []) (sel : (q : Presentation) (t : List ℕ) → P t → P (as_selector q ∷ t))
    (char : (c : ℕ) (t : List ℕ) → is_selector c ≡ false → P t → P (c ∷ t)) where
  pub by-chars : (t : List ℕ) → P t
  by-chars [] = end
  by-chars (c ∷ t) = go (char_is c) (by-chars t)
    where
      go : CharIs c → P t → P (c ∷ t)
      go (a_selector q e) h = subst (λ (x : ℕ). P (x ∷ t)) (sym e) (sel q t h)
      go (no_selector e) h = char c t e h

-- The leading selectors and the characters of the cells, one after the other, are the text.
pub split-whole : (t : List ℕ) → map as_selector (leading t) ++ unsplit (cells t) ≡ t
unfolding split
split-whole =
    by-chars (λ t. map as_selector (leading t) ++ unsplit (cells t) ≡ t) refl
    (λ q t h. ap (λ (a : List Presentation × List Cell). map as_selector a.0 ++ unsplit a.1) (split_selector q t)
    ∙ ap (λ (l : List ℕ). as_selector q ∷ l) h)
    (λ c t e h. ap (λ (a : List Presentation × List Cell). map as_selector a.0 ++ unsplit a.1) (split-char c t e)
    ∙ ap (λ (l : List ℕ). c ∷ l) h)

-- ---- cells whose characters are no selectors

pub data SelectorFree : List Cell → Type 0 where
  no_cell : SelectorFree []
  cell_and : {x : Cell} {xs : List Cell} → is_selector x.char ≡ false → SelectorFree xs → SelectorFree (x ∷ xs)

pub selector_free_cells : (t : List ℕ) → SelectorFree (cells t)
unfolding split
selector_free_cells =
    by-chars (λ t. SelectorFree (cells t)) no_cell
    (λ q t h. subst (λ (a : List Presentation × List Cell). SelectorFree a.1) (sym (split_selector q t)) h)
    (λ c t e h. subst (λ (a : List Presentation × List Cell). SelectorFree a.1) (sym (split-char c t e)) (cell_and e h))

pub split_selectors : (qs : List Presentation) (t : List ℕ) → split (map as_selector qs ++ t) ≡ (qs ++ leading t, cells t)
split_selectors [] t = refl
split_selectors (q ∷ qs) t =
    split_selector q (map as_selector qs ++ t) ∙ ap (λ (a : List Presentation × List Cell). (q ∷ a.0, a.1)) (split_selectors qs t)

pub split-unsplit : {xs : List Cell} → SelectorFree xs → split (unsplit xs) ≡ ([], xs)
unfolding split
split-unsplit no_cell = refl
split-unsplit (cell_and {x = x} {xs = xs} e h) =
    let i : split (map as_selector x.after ++ unsplit xs) ≡ (x.after ++ [], xs) =
    split_selectors x.after (unsplit xs) ∙ ap (λ (a : List Presentation × List Cell). (x.after ++ a.0, a.1)) (split-unsplit h) in
    split-char x.char (map as_selector x.after ++ unsplit xs) e
    ∙ ap (λ (a : List Presentation × List Cell). ([], record { char = x.char; after = a.0 } ∷ a.1)) i
    ∙ ap (λ (s : List Presentation). ([], record { char = x.char; after = s } ∷ xs)) (append-nil x.after)

-- The cells of a text s ++ t, if t does not begin with a selector.
pub split_append : (s t : List ℕ) → leading t ≡ [] → split (s ++ t) ≡ (leading s, cells s ++ cells t)
unfolding split
split_append s t e =
    by-chars (λ s. split (s ++ t) ≡ (leading s, cells s ++ cells t))
    (ap (λ (l : List Presentation). (l, cells t)) e)
    (λ q s h. split_selector q (s ++ t) ∙ ap (λ (a : List Presentation × List Cell). (q ∷ a.0, a.1)) h
    ∙ sym (ap (λ (a : List Presentation × List Cell). (a.0, a.1 ++ cells t)) (split_selector q s)))
    (λ c s f h. split-char c (s ++ t) f ∙ ap (λ (a : List Presentation × List Cell). ([], record { char = c; after = a.0 } ∷ a.1)) h
    ∙ sym (ap (λ (a : List Presentation × List Cell). (a.0, a.1 ++ cells t)) (split-char c s f)))
    s

-- ---- the characters other than selectors

abbrev pub chars_of : List Cell → List ℕ
chars_of [] = []
chars_of (x ∷ xs) = x.char ∷ chars_of xs

pub strip_selectors : (qs : List Presentation) (t : List ℕ) → strip (map as_selector qs ++ t) ≡ strip t
strip_selectors [] t = refl
strip_selectors (q ∷ qs) t = strip_selector (as_selector q) (map as_selector qs ++ t) (selector_is q) ∙ strip_selectors qs t

pub strip-unsplit : {xs : List Cell} → SelectorFree xs → strip (unsplit xs) ≡ chars_of xs
unfolding strip
strip-unsplit no_cell = refl
strip-unsplit (cell_and {x = x} {xs = xs} e h) =
    strip-char x.char (map as_selector x.after ++ unsplit xs) e
    ∙ ap (λ (l : List ℕ). x.char ∷ l) (strip_selectors x.after (unsplit xs) ∙ strip-unsplit h)

pub strip-split : (t : List ℕ) → strip t ≡ chars_of (cells t)
strip-split t =
    ap strip (sym (split-whole t)) ∙ strip_selectors (leading t) (unsplit (cells t)) ∙ strip-unsplit (selector_free_cells t)

-- ---- the number of selectors

abbrev pub held_in : List Cell → ℕ
held_in [] = 0
held_in (x ∷ xs) = length x.after + held_in xs

pub count-char : (c : ℕ) (t : List ℕ) → is_selector c ≡ false → selector_count (c ∷ t) ≡ selector_count t
unfolding selector_count
count-char c t e = let z : ◌≡◌ {A = ℕ} (cond (is_selector c) 1 0) 0 = simp e in omega arith

pub count_selector : (c : ℕ) (t : List ℕ) → is_selector c ≡ true → selector_count (c ∷ t) ≡ suc (selector_count t)
unfolding selector_count
count_selector c t e = let z : ◌≡◌ {A = ℕ} (cond (is_selector c) 1 0) 1 = simp e in omega arith

pub count_selectors : (qs : List Presentation) (t : List ℕ) → selector_count (map as_selector qs ++ t) ≡ length qs + selector_count t
count_selectors [] t = omega arith
count_selectors (q ∷ qs) t = omega (arith, count_selector (as_selector q) (map as_selector qs ++ t) (selector_is q), count_selectors qs t)

pub count-unsplit : {xs : List Cell} → SelectorFree xs → selector_count (unsplit xs) ≡ held_in xs
unfolding selector_count
count-unsplit no_cell = refl
count-unsplit (cell_and {x = x} {xs = xs} e h) =
    count-char x.char (map as_selector x.after ++ unsplit xs) e ∙ count_selectors x.after (unsplit xs)
    ∙ ap (λ (n : ℕ). length x.after + n) (count-unsplit h)

pub count-split : (t : List ℕ) → selector_count t ≡ length (leading t) + held_in (cells t)
count-split t =
    ap selector_count (sym (split-whole t)) ∙ count_selectors (leading t) (unsplit (cells t))
    ∙ ap (λ (n : ℕ). length (leading t) + n) (count-unsplit (selector_free_cells t))

pub count_S : {s : List ℕ} → S s → selector_count s ≡ length s
unfolding selector_count
count_S no_selectors = refl
count_S (selector_and {c = c} {s = s} e h) = count_selector c s e ∙ ap suc (count_S h)
