-- If some findings of a text are exchanged for their replacements, the findings of the new text are exactly the others.
use mathlib.Core.Path.{◌≡◌, refl, ap, sym, ◌∙◌, subst}
use mathlib.Core.Logic.{inl, inr}
use mathlib.Core.Bool.{true, false, cond, ◌&&◌}
use mathlib.Core.List.{List, [], ◌∷◌, ◌++◌}
use Prim.Native.Nat.{ℕ, ◌+◌}
use native.Mathlib.Nat.{add-zero}
use Rattle.emoji.specs.declared.presentation.Presentation.{Presentation}
use Rattle.policy.specs.declared.Policy.{Policy}
use Rattle.scanner.specs.Classes.{class_of}
use Rattle.scanner.specs.declared.char_class.Class.{Class}
use Rattle.scanner.specs.declared.char_class.Class.TheVariants.{Selector as selector}
use Rattle.scanner.specs.Grammar.{Derives}
use Rattle.scanner.specs.Items.{Item, start_state, items, join, kind_of}
use Rattle.scanner.specs.declared.state.State.{State}
use Rattle.scanner.specs.declared.state.State.TheVariants.{Plain as plain}
use Rattle.scanner.specs.Spans.{Found, found, size, width}
use Rattle.scanner.specs.Theorems.{Structured}
use Rattle.scanner.specs.declared.ScanKind.{ScanKind}
use Rattle.scanner.specs.declared.ScanKind.TheVariants.{EmojiHeaded, LinksOnly, Passthrough, UnsanctionedPresentationSelectors}
use Rattle.scanner.proofs.States.{inner, kind_emoji, kind-links, kind_selector, selector_ends}
use Rattle.scanner.proofs.Rescan.{found_again, found_none}
use Rattle.scanner.proofs.Walk.{Chain, Ends, Walk, done, merges, stops, then, weaken}
use Rattle.analysis.specs.Analysis.{is_finding, replacement}
use Rattle.analysis.proofs.Items.{empty_no_finding, passthrough_no_finding, replacement_no_count}
use Rattle.analysis.proofs.Replacement.{renewed, renewed_walk}
use Rattle.formatter.specs.Book.{Entry, Mark, book_chars, entry_chars, is_open, items_of, mended, untouched}
use Rattle.formatter.proofs.Replacements.{replacement_cons, replacement_plain, replacement_selectors}

-- The grammar derives an item's characters.
abbrev pub Derived : Item → Type 0
Derived x = Derives x.kind x.chars

module _ (p : Policy) where
  -- The open findings, each at its place in the book's text.
  unfoldable pub open_found : ℕ → List Entry → List Found
  open_found n [] = []
  open_found n (e ∷ es) =
      let later = open_found (n + size width (entry_chars p e.mark e.item)) es in
      cond (is_open e.mark && is_finding p e.item) (record { start = n; item = e.item } ∷ later) later

  -- ---- the items after mending, with passthrough split into characters

  abbrev replaced : Item → List Presentation → Item
  replaced x ds = record { kind = x.kind; chars = replacement p x ds }

  abbrev after_one_lem : Mark → ScanKind → Item → List Item → List Item
  after_one_lem untouched k x xs = x ∷ xs
  after_one_lem (mended ds) Passthrough x xs = replaced x ds ∷ xs
  after_one_lem (mended ds) UnsanctionedPresentationSelectors x xs = xs
  after_one_lem (mended ds) LinksOnly x xs = replaced x ds ∷ xs
  after_one_lem (mended ds) EmojiHeaded x xs = replaced x ds ∷ xs

  after : List Entry → List Item
  after [] = []
  after (e ∷ es) = after_one_lem e.mark e.item.kind e.item (after es)

  join_one : (m : Mark) (k : ScanKind) (x : Item) (xs : List Item) → x.kind ≡ k
      → join (after_one_lem m k x xs) ≡ entry_chars p m x ++ join xs
  join_one untouched k x xs e = refl
  join_one (mended ds) Passthrough x xs e = refl
  join_one (mended ds) UnsanctionedPresentationSelectors x xs e = ap (λ (l : List ℕ). l ++ join xs) (sym (replacement_selectors p x ds e))
  join_one (mended ds) LinksOnly x xs e = refl
  join_one (mended ds) EmojiHeaded x xs e = refl

  join-after : (es : List Entry) → join (after es) ≡ book_chars p es
  unfolding after book_chars
  join-after [] = refl
  join-after (e ∷ es) =
      join_one e.mark e.item.kind e.item (after es) refl ∙ ap (λ (l : List ℕ). entry_chars p e.mark e.item ++ l)
      (join-after es)

  ends_selector : {a : State} → Ends a selector → a ≡ plain
  ends_selector {a} (stops e) = selector_ends a e
  ends_selector (merges e) = e

  chain-inner : {a b : State} {ys : List Item} (x : Item) (ds : List Presentation) (c : ℕ) (s : List ℕ) → Structured x.kind
      → inner (start_state (class_of c)) ≡ true
      → Ends a (class_of c) → x.kind ≡ kind_of (start_state (class_of c)) → x.chars ≡ c ∷ s → Walk (start_state (class_of c)) s b
      → Chain b ys
      → Chain a (replaced x ds ∷ ys)
  chain-inner x ds c s o i en k l w h = then c (renewed p c s ds) en k (replacement_cons p x ds c s o i l) (renewed_walk p c s ds i w) h

  chain-one : {a b : State} {ys : List Item} (x : Item) (m : Mark) (j : ScanKind) (c : ℕ) (s : List ℕ) → x.kind ≡ j → Ends a (class_of c)
      → x.kind ≡ kind_of (start_state (class_of c)) → x.chars ≡ c ∷ s → Walk (start_state (class_of c)) s b → Chain b ys
      → Chain a (after_one_lem m j x ys)
  chain-one x untouched j c s e en k l w h = then c s en k l w h
  chain-one x (mended ds) Passthrough c s e en k l w h = then c s en k (replacement_plain p x ds e ∙ l) w h
  chain-one {a} {b} {ys} x (mended ds) UnsanctionedPresentationSelectors c s e en k l w h =
      let z : class_of c ≡ selector = kind_selector (class_of c) (sym k ∙ e) in
      subst (λ (a : State). Chain a ys) (sym (ends_selector (subst (λ (k : Class). Ends a k) z en))) (weaken h)
  chain-one x (mended ds) LinksOnly c s e en k l w h = chain-inner x ds c s (inl e) (kind-links (class_of c) (sym k ∙ e)) en k l w h
  chain-one x (mended ds) EmojiHeaded c s e en k l w h = chain-inner x ds c s (inr e) (kind_emoji (class_of c) (sym k ∙ e)) en k l w h

  chain-after : {a : State} (es : List Entry) → Chain a (items_of es) → Chain a (after es)
  unfolding after
  chain-after [] h = done
  chain-after (e ∷ es) (then c s en k l w h) = chain-one e.item e.mark e.item.kind c s refl en k l w (chain-after es h)

  replaced-fails : (x : Item) (ds : List Presentation) → is_finding p (replaced x ds) ≡ false
  replaced-fails x ds = empty_no_finding p (replaced x ds) (replacement_no_count p x ds)

  found-one : (m : Mark) (k : ScanKind) (x : Item) (ys : List Item) (es : List Entry) → x.kind ≡ k
      → ((n : ℕ) → found (is_finding p) width n ys ≡ open_found n es) → (n : ℕ)
      → found (is_finding p) width n (after_one_lem m k x ys)
      ≡ cond (is_open m && is_finding p x) (record { start = n; item = x } ∷ open_found (n + size width (entry_chars p m x)) es)
      (open_found (n + size width (entry_chars p m x)) es)
  unfolding found
  found-one untouched k x ys es e h n = ap (λ (l : List Found). cond (is_finding p x) (record { start = n; item = x } ∷ l) l)
      (h (n + size width x.chars))
  found-one (mended ds) Passthrough x ys es e h n = found_none (is_finding p) width n (replaced x ds) ys (replaced-fails x ds) ∙ h _
  found-one (mended ds) UnsanctionedPresentationSelectors x ys es e h n =
      h n ∙ ap (λ (m : ℕ). open_found m es) (sym (ap (λ (l : List ℕ). n + size width l) (replacement_selectors p x ds e) ∙ add-zero n))
  found-one (mended ds) LinksOnly x ys es e h n = found_none (is_finding p) width n (replaced x ds) ys (replaced-fails x ds) ∙ h _
  found-one (mended ds) EmojiHeaded x ys es e h n = found_none (is_finding p) width n (replaced x ds) ys (replaced-fails x ds) ∙ h _

  found_after : (es : List Entry) (n : ℕ) → found (is_finding p) width n (after es) ≡ open_found n es
  unfolding found open_found after
  found_after [] n = refl
  found_after (e ∷ es) n = found-one e.mark e.item.kind e.item (after es) es refl (found_after es) n

  -- The findings of the book's text are the open findings, each at its place.
  pub mending : (es : List Entry) → Chain plain (items_of es) → found (is_finding p) width 0 (items (book_chars p es)) ≡ open_found 0 es
  mending es h =
      ap (λ (t : List ℕ). found (is_finding p) width 0 (items t)) (sym (join-after es))
      ∙ found_again (is_finding p) width (passthrough_no_finding p) (chain-after es h) 0 ∙ found_after es 0
