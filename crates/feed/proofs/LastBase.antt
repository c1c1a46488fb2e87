-- What is held after characters were taken one after the other: the last base, if it has a variation entry, with its selectors.
use Rattle.std.specs.Prelude.{Option}
use mathlib.Core.Path.{◌≡◌, refl, ap, ap₂, sym, ◌∙◌, subst}
use mathlib.Core.Bool.{Bool, true, false}
use mathlib.Core.List.{List, [], ◌∷◌, ◌++◌, append_assoc, append-nil, map}
use Prim.Native.Nat.{ℕ, suc}
use native.Mathlib.Omega.{arith}
use lib.ListN.{length, length-append}
use Rattle.emoji.specs.Presentation.{as_selector, from_selector, is_selector}
use Rattle.emoji.specs.Unicode.{has_variation_sequence}
use Rattle.emoji.specs.declared.presentation.Presentation.{Presentation}
use Rattle.policy.specs.declared.Policy.{Policy}
use Rattle.scanner.proofs.SelectorChars.{CharIs, a_selector, char_is, from-other, from_selector_lem, no_selector}
use Rattle.analysis.specs.Rules.{first_asked}
use Rattle.feed.specs.Feed.{Pending, base, fed_as, first_of, held_after_of, nothing, take_char, take_chars, take_selector}
use Rattle.feed.specs.Theorems.{HeldLast, last_with_entry, last_without_entry, only_selectors_lem}

-- ---- one more selector

selectors_append : (s : List Presentation) (q : Presentation)
    → map as_selector s ++ (as_selector q ∷ []) ≡ map as_selector (s ++ (q ∷ []))
selectors_append [] q = refl
selectors_append (r ∷ s) q = ap (λ (l : List ℕ). as_selector r ∷ l) (selectors_append s q)

first_append : (s : List Presentation) (q : Presentation) → first_of (first_asked s) q ≡ first_asked (s ++ (q ∷ []))
unfolding first_asked
first_append [] q = refl
first_append (r ∷ s) q = refl

module _ (before : List ℕ) (c : ℕ) (s : List Presentation) (q : Presentation) where
  cell_append : (cs : List ℕ) → cs ≡ before ++ (c ∷ map as_selector s)
      → cs ++ (as_selector q ∷ []) ≡ before ++ (c ∷ map as_selector (s ++ (q ∷ [])))
  cell_append cs e =
      ap (λ (l : List ℕ). l ++ (as_selector q ∷ [])) e ∙ append_assoc before (c ∷ map as_selector s) (as_selector q ∷ [])
      ∙ ap (λ (l : List ℕ). before ++ (c ∷ l)) (selectors_append s q)

  more-held : (p : Policy) → base p c (first_of (first_asked s) q) (suc (length s))
      ≡ base p c (first_asked (s ++ (q ∷ []))) (length (s ++ (q ∷ [])))
  more-held p = ap₂ (λ (f : Option Presentation) (n : ℕ). base p c f n) (first_append s q)
      (omega (arith, length-append s (q ∷ [])))

-- ---- one more character

module _ (p : Policy) where
  selector_last : {cs : List ℕ} {h : Pending} → HeldLast p cs h → (q : Presentation)
      → HeldLast p (cs ++ (as_selector q ∷ [])) (take_selector h q).0
  unfolding take_selector
  selector_last (only_selectors_lem s e) q =
      only_selectors_lem (s ++ (q ∷ [])) (ap (λ (l : List ℕ). l ++ (as_selector q ∷ [])) e ∙ selectors_append s q)
  selector_last {cs = cs} (last_without_entry before c s e i n) q =
      last_without_entry before c (s ++ (q ∷ [])) (cell_append before c s q cs e) i n
  selector_last {cs = cs} (last_with_entry before c s e n) q =
      subst (λ (h : Pending). HeldLast p (cs ++ (as_selector q ∷ [])) h) (sym (more-held before c s q p))
      (last_with_entry before c (s ++ (q ∷ [])) (cell_append before c s q cs e) n)

  other_last : (cs : List ℕ) (c : ℕ) (b : Bool) → is_selector c ≡ false → has_variation_sequence c ≡ b
      → HeldLast p (cs ++ (c ∷ [])) (held_after_of p c b)
  unfolding first_asked
  other_last cs c true i n = last_with_entry cs c [] refl n
  other_last cs c false i n = last_without_entry cs c [] refl i n

  char-last : {cs : List ℕ} {h : Pending} → HeldLast p cs h → (c : ℕ)
      → HeldLast p (cs ++ (c ∷ [])) (take_char p h c (from_selector c)).0
  unfolding take_char
  char-last {cs = cs} {h = h} l c = go (char_is c)
    where
      go : CharIs c → HeldLast p (cs ++ (c ∷ [])) (take_char p h c (from_selector c)).0
      go (a_selector q e) =
          subst (λ (d : ℕ). HeldLast p (cs ++ (d ∷ [])) (take_char p h d (from_selector d)).0) (sym e)
          (subst (λ (y : Option Presentation). HeldLast p (cs ++ (as_selector q ∷ [])) (take_char p h (as_selector q) y).0)
          (sym (from_selector_lem q))
          (selector_last l q))
      go (no_selector i) =
          subst (λ (y : Option Presentation). HeldLast p (cs ++ (c ∷ [])) (take_char p h c y).0) (sym (from-other c i))
          (other_last cs c (has_variation_sequence c) i refl)

  -- ---- any number of characters

  pub chars-last : {cs : List ℕ} {h : Pending} → HeldLast p cs h → (ds : List ℕ)
      → HeldLast p (cs ++ ds) (take_chars h (fed_as p ds)).0
  unfolding take_chars
  chars-last {cs = cs} {h = h} l [] = subst (λ (k : List ℕ). HeldLast p k h) (sym (append-nil cs)) l
  chars-last {cs = cs} {h = h} l (d ∷ ds) =
      subst (λ (k : List ℕ). HeldLast p k (take_chars (take_char p h d (from_selector d)).0 (fed_as p ds)).0) (append_assoc cs (d ∷ []) ds)
      (chars-last {cs = cs ++ (d ∷ [])} (char-last l d) ds)

  -- From the first character on.
  pub all_last : (cs : List ℕ) → HeldLast p cs (take_chars nothing (fed_as p cs)).0
  all_last cs = chars-last (only_selectors_lem [] refl) cs
