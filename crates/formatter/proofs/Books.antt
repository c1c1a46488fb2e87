-- The characters of a book's text: apart from selectors they are those of the first text, the number of selectors follows from the counts,
-- and the text has at most four times as many bytes.
use mathlib.Core.Path.{◌≡◌, refl, ap, sym, ◌∙◌, subst}
use mathlib.Core.Bool.{Bool, true, false, cond, ◌&&◌, ◌||◌, false≢true}
use mathlib.Core.List.{List, [], ◌∷◌, ◌++◌}
use Prim.Native.Nat.{ℕ, ◌+◌, ◌*◌, ◌≤◌}
use native.Mathlib.Omega.{arith}
use lib.Dec.{eqb}
use borrow.Author.Tests.{eqb-true}
use Rattle.utf8.specs.Rfc3629.{all_scalar, is_scalar}
use Rattle.emoji.specs.Presentation.{is_selector}
use Rattle.emoji.specs.declared.presentation.Presentation.{Presentation}
use Rattle.policy.specs.declared.Policy.{Policy}
use Rattle.scanner.specs.Classes.{strip}
use Rattle.scanner.specs.Items.{Item, join}
use Rattle.scanner.specs.Spans.{size, width}
use Rattle.scanner.proofs.Rescan.{size_append}
use Rattle.analysis.specs.Analysis.{non_canonicality, replacement}
use Rattle.analysis.specs.Cells.{selector_count}
use Rattle.analysis.specs.Counts.{adding, removing}
use Rattle.analysis.specs.Findings.{totals}
use Rattle.formatter.specs.Book.{Entry, Mark, book_chars, entry_chars, items_of, mended, untouched}
use Rattle.formatter.specs.Demand3.{Each, and_each, mended_items, no_more, only_mended}
use Rattle.formatter.proofs.Replacements.{balances, four_times, keeps_others}
use Rattle.formatter.proofs.Mending.{Derived}

-- ---- lists of characters

strip_append : (s t : List ℕ) → strip (s ++ t) ≡ strip s ++ strip t
unfolding strip
strip_append [] t = refl
strip_append (c ∷ s) t = go (is_selector c) (strip_append s t)
  where
    go : (b : Bool) → strip (s ++ t) ≡ strip s ++ strip t → cond b (strip (s ++ t)) (c ∷ strip (s ++ t)) ≡ cond b (strip s) (c ∷ strip s)
        ++ strip t
    go true h = h
    go false h = ap (λ (l : List ℕ). c ∷ l) h

selector_scalar : (c : ℕ) → is_selector c ≡ true → is_scalar c ≡ true
unfolding is_selector is_scalar
selector_scalar c e = go (eqb c 0xFE0E) (eqb c 0xFE0F) refl refl e
  where
    go : (a b : Bool) → eqb c 0xFE0E ≡ a → eqb c 0xFE0F ≡ b → a || b ≡ true → is_scalar c ≡ true
    go true b f g e = subst (λ (n : ℕ). is_scalar n ≡ true) (sym (eqb-true c 0xFE0E f)) refl
    go false true f g e = subst (λ (n : ℕ). is_scalar n ≡ true) (sym (eqb-true c 0xFE0F g)) refl
    go false false f g e = absurd (false≢true e)

-- All characters are scalar values exactly if all but the selectors are.
pub scalar-strip : (t : List ℕ) → all_scalar t ≡ all_scalar (strip t)
unfolding all_scalar strip
scalar-strip [] = refl
scalar-strip (c ∷ t) = go (is_selector c) refl (scalar-strip t)
  where
    go : (b : Bool) → is_selector c ≡ b → all_scalar t ≡ all_scalar (strip t) → is_scalar c && all_scalar t
        ≡ all_scalar (cond b (strip t) (c ∷ strip t))
    go true e h = ap (λ (a : Bool). a && all_scalar t) (selector_scalar c e) ∙ h
    go false e h = ap (λ (a : Bool). is_scalar c && a) h

count_append : (s t : List ℕ) → selector_count (s ++ t) ≡ selector_count s + selector_count t
unfolding selector_count
count_append s t = size_append (λ (c : ℕ). cond (is_selector c) 1 0) s t

module _ (p : Policy) where
  strip_entry : (m : Mark) (x : Item) → Derived x → strip (entry_chars p m x) ≡ strip x.chars
  strip_entry untouched x d = refl
  strip_entry (mended ds) x d = keeps_others p x ds d

  pub strip_book : (es : List Entry) → Each Derived (items_of es) → strip (book_chars p es) ≡ strip (join (items_of es))
  unfolding book_chars
  strip_book [] no_more = refl
  strip_book (e ∷ es) (and_each d h) =
      strip_append (entry_chars p e.mark e.item) (book_chars p es)
      ∙ ap (λ (r : List ℕ). r ++ strip (book_chars p es)) (strip_entry e.mark e.item d)
      ∙ ap (λ (r : List ℕ). strip e.item.chars ++ r) (strip_book es h) ∙ sym (strip_append e.item.chars (join (items_of es)))

  pub scalar_book : (es : List Entry) → Each Derived (items_of es) → all_scalar (join (items_of es)) ≡ true
      → all_scalar (book_chars p es) ≡ true
  scalar_book es d h = scalar-strip (book_chars p es) ∙ ap all_scalar (strip_book es d) ∙ sym (scalar-strip (join (items_of es))) ∙ h

  size_entry : (m : Mark) (x : Item) → Derived x → size width (entry_chars p m x) ≤ 4 * size width x.chars
  size_entry untouched x d = omega arith
  size_entry (mended ds) x d = four_times p x ds d

  pub size_book : (es : List Entry) → Each Derived (items_of es) → size width (book_chars p es) ≤ 4 * size width (join (items_of es))
  unfolding book_chars
  size_book [] no_more = omega arith
  size_book (e ∷ es) (and_each d h) =
      omega (
        arith,
        size_append width (entry_chars p e.mark e.item) (book_chars p es),
        size_append width e.item.chars (join (items_of es)),
        size_entry e.mark e.item d,
        size_book es h,
      )

  -- The number of selectors of a book's text.
  pub balance_book : (es : List Entry) → Each Derived (items_of es)
      → selector_count (book_chars p es) + removing (totals p (mended_items es))
      ≡ selector_count (join (items_of es)) + adding (totals p (mended_items es))
  unfolding book_chars totals
  balance_book [] no_more = refl
  balance_book (e ∷ es) (and_each d h) = go e.mark (balance_book es h)
    where
      x : Item
      x = e.item

      go : (m : Mark) → selector_count (book_chars p es) + removing (totals p (mended_items es))
          ≡ selector_count (join (items_of es)) + adding (totals p (mended_items es))
          → selector_count (entry_chars p m x ++ book_chars p es) + removing
          (totals p (only_mended m (λ (ds : List Presentation). x) (mended_items es)))
          ≡ selector_count (x.chars ++ join (items_of es)) + adding
          (totals p (only_mended m (λ (ds : List Presentation). x) (mended_items es)))
      go untouched i = omega (arith, count_append x.chars (book_chars p es), count_append x.chars (join (items_of es)))
      go (mended ds) i =
          let n = non_canonicality p x in
          let m = totals p (mended_items es) in
          omega (arith, count_append (replacement p x ds) (book_chars p es), count_append x.chars (join (items_of es)), balances p x ds d)
