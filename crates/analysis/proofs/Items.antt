-- The replacement of an item, by its kind: it has no count, the same characters other than selectors, and selectors added and
-- removed as counted. It is the item itself exactly if the item is no finding, and it is again one item of the same kind.
use mathlib.Core.Path.{◌≡◌, refl, ap, sym, ◌∙◌, subst}
use mathlib.Core.Bool.{true, false, not, true≢false}
use mathlib.Core.List.Memᴰ
use mathlib.Core.List.{List, [], ◌∷◌, ◌++◌, map, append-nil, Memᴰ}
use mathlib.Core.Logic.{◌↔◌, ◌≢◌, inl, inr, ⊎_elim}
use Prim.Native.Nat.{ℕ, ◌+◌}
use native.Mathlib.Omega.{arith}
use lib.Dec.{eqb}
use lib.ListN.{length}
use borrow.Author.Tests.{eqb-true, not-false}
use Rattle.emoji.specs.Presentation.{as_selector, is_selector}
use Rattle.emoji.specs.declared.presentation.Presentation.{Presentation}
use Rattle.policy.specs.declared.Policy.{Policy}
use Rattle.scanner.specs.Classes.{class_of, strip}
use Rattle.scanner.specs.Grammar.{
  Derives,
  Longest,
  Reads,
  S,
  at_the_end,
  headed_by_emoji,
  only_links,
  no_selectors,
  passthrough,
  reads_item,
  selector_and,
  run_of_selectors,
}
use Rattle.scanner.specs.Items.{Item, start_state, items, kind_of}
use Rattle.scanner.specs.declared.state.State.{State}
use Rattle.scanner.specs.Theorems.{Structured, item}
use Rattle.scanner.specs.declared.ScanKind.{ScanKind}
use Rattle.scanner.specs.declared.ScanKind.TheVariants.{EmojiHeaded, LinksOnly, Passthrough, UnsanctionedPresentationSelectors}
use Rattle.scanner.proofs.Reading.{derive_head, derive_inner, derives_alike, only-reading}
use Rattle.scanner.proofs.Walk.{Walk, inner_no_selector, strip_selector}
use Rattle.scanner.proofs.WalksDerive.{walk_derive}
use Rattle.analysis.specs.Analysis.{count_cells, counts_of, is_finding, non_canonicality, render, replacement, replacement_of}
use Rattle.analysis.specs.Cells.{Cell, cells, leading, selector_count, unsplit}
use Rattle.analysis.specs.Counts.{adding, empty, removing, total}
use Rattle.analysis.specs.declared.types.NonCanonicality.{NonCanonicality}
use Rattle.analysis.proofs.Counts.{total-empty}
use Rattle.analysis.proofs.Cells.{selector_free_cells, count_S, count-split, count-unsplit, held_in, split-char, split-whole}
use Rattle.analysis.proofs.Replacement.{
  selector_free_renew,
  render_cons,
  render_no_count,
  renew_balances,
  renew_uncounted,
  renewed,
  strip_render,
  strip_renewed,
}

-- The grammar derives an item that is a walk of the scanner's automaton.
pub walked_derives : {q : State} (x : Item) (c : ℕ) (s : List ℕ) → x.kind ≡ kind_of (start_state (class_of c)) → x.chars ≡ c ∷ s
    → Walk (start_state (class_of c)) s q → Derives x.kind x.chars
walked_derives x c s k l w = subst (λ (y : Item). Derives y.kind y.chars) (λ i. item (sym k i) (sym l i)) (walk_derive c w)

-- ---- the first character of links and units

pub record Headed (t : List ℕ) : Type 0 where
  pub char : ℕ
  pub tail : List ℕ
  pub is : t ≡ char ∷ tail
  pub no_selector : is_selector char ≡ false

pub headed : {k : ScanKind} {t : List ℕ} → Structured k → Derives k t → Headed t
headed {k} {t} o d =
    let h = derive_head d in
    record {
      char = h.char;
      tail = h.tail;
      is = h.split;
      no_selector = inner_no_selector h.char (derive_inner h.char h.tail o (subst (Derives k) h.split d));
    }

-- No selector leads, so that the cells are all characters.
pub no_leading : {k : ScanKind} {t : List ℕ} → Structured k → Derives k t → leading t ≡ []
no_leading o d =
    let h = headed o d in
    ap leading h.is ∙ ap (λ (a : List Presentation × List Cell). a.0) (split-char h.char h.tail h.no_selector)

pub whole : {k : ScanKind} {t : List ℕ} → Structured k → Derives k t → unsplit (cells t) ≡ t
whole {k} {t} o d =
    ap (λ (s : List Presentation). map as_selector s ++ unsplit (cells t)) (sym (no_leading o d)) ∙ split-whole t

-- A derived list of characters is one item.
pub alone : {k : ScanKind} {t : List ℕ} → Derives k t → items t ≡ item k t ∷ []
unfolding Longest
alone {k} {t} d =
    sym (only-reading t (item k t ∷ [])
    (subst (λ (l : List ℕ). Reads l (item k t ∷ [])) (append-nil t)
    (reads_item [] d (λ k d f g e w. let z : ◌≡◌ {A = ℕ} 0 1 = cc in omega arith) at_the_end)))

only : {k : ScanKind} {t : List ℕ} → Derives k t → (y : Item) → Memᴰ y (items t) → y ≡ item k t
only {k} {t} d y m = ⊎_elim (λ e. e) (λ n. absurd (Memᴰ.not-nil n))
    (Memᴰ.cases_cons (subst (λ (l : List Item). Memᴰ y l) (alone d) m))

strip_S : {s : List ℕ} → S s → strip s ≡ []
unfolding strip
strip_S no_selectors = refl
strip_S (selector_and {c = c} {s = s} e h) = strip_selector c s e ∙ strip_S h

-- The number of selectors of s is that of t, less the counts that remove, plus the counts that add.
abbrev pub Balanced : List ℕ → List ℕ → NonCanonicality → Type 0
Balanced s t n = selector_count s + removing n ≡ selector_count t + adding n

module _ (p : Policy) where
  -- ---- by the kind and the characters

  pub no_count_of : (k : ScanKind) (t : List ℕ) (ds : List Presentation) → counts_of p k (replacement_of p k t ds) ≡ empty
  unfolding counts_of replacement_of
  no_count_of Passthrough t ds = refl
  no_count_of UnsanctionedPresentationSelectors t ds = refl
  no_count_of LinksOnly t ds = render_no_count p t ds
  no_count_of EmojiHeaded t ds = render_no_count p t ds

  pub strip_of : {k : ScanKind} {t : List ℕ} → Derives k t → (ds : List Presentation) → strip (replacement_of p k t ds) ≡ strip t
  unfolding replacement_of strip
  strip_of {k} {t} (only_links a l) ds = strip_render p t ds
  strip_of {k} {t} (run_of_selectors e s) ds = sym (strip_S (selector_and e s))
  strip_of {k} {t} (headed_by_emoji v j l) ds = strip_render p t ds
  strip_of {k} {t} (passthrough h s) ds = refl

  uncounted_cells : {k : ScanKind} {t : List ℕ} → Structured k → Derives k t → total (count_cells p (cells t)) ≡ 0
      → render p (cells t) [] ≡ t
  unfolding render
  uncounted_cells {k} {t} o d e = ap unsplit (renew_uncounted p (cells t) e) ∙ whole o d

  pub uncounted_of : {k : ScanKind} {t : List ℕ} → Derives k t → total (counts_of p k t) ≡ 0 → replacement_of p k t [] ≡ t
  unfolding counts_of replacement_of
  uncounted_of {k} {t} (only_links a l) e = uncounted_cells (inl refl) (only_links a l) e
  uncounted_of {k} {t} (run_of_selectors f s) e = absurd (omega arith)
  uncounted_of {k} {t} (headed_by_emoji v j l) e = uncounted_cells (inr refl) (headed_by_emoji v j l) e
  uncounted_of {k} {t} (passthrough h s) e = refl

  balance_cells : {k : ScanKind} {t : List ℕ} → Structured k → Derives k t → (ds : List Presentation)
      → Balanced (render p (cells t) ds) t (count_cells p (cells t))
  unfolding render
  balance_cells {k} {t} o d ds =
      let n = count_cells p (cells t) in
      let a : selector_count t ≡ held_in (cells t) = count-split t ∙ ap (λ (s : List Presentation). length s + held_in (cells t))
      (no_leading o d) ∙ omega arith in
      let b = count-unsplit (selector_free_renew p (selector_free_cells t) ds) in
      let c = renew_balances p (cells t) ds in
      omega arith

  pub balance_of : {k : ScanKind} {t : List ℕ} → Derives k t → (ds : List Presentation)
      → Balanced (replacement_of p k t ds) t (counts_of p k t)
  unfolding counts_of replacement_of
  balance_of {k} {t} (only_links a l) ds = balance_cells (inl refl) (only_links a l) ds
  balance_of {k} {t} (run_of_selectors e s) ds = let h = count_S (selector_and e s) in let z : selector_count []
      ≡ 0 = count_S no_selectors in omega arith
  balance_of {k} {t} (headed_by_emoji v j l) ds = balance_cells (inr refl) (headed_by_emoji v j l) ds
  balance_of {k} {t} (passthrough h s) ds = refl

  -- The replacement of a links-only or emoji-headed item is derived as an item of the same kind.
  pub derives_of : {k : ScanKind} {t : List ℕ} → Structured k → Derives k t → (ds : List Presentation) → Derives k (render p (cells t) ds)
  derives_of {k} {t} o d ds =
      let h = headed o d in
      let e : Derives k (h.char ∷ h.tail) = subst (Derives k) h.is d in
      subst (Derives k) (sym (ap (λ (l : List ℕ). render p (cells l) ds) h.is ∙ render_cons p h.char h.tail ds h.no_selector))
      (derives_alike h.char h.tail (renewed p h.char h.tail ds) (derive_inner h.char h.tail o e)
      (sym (strip_renewed p h.char h.tail ds)) e)

  -- ---- for an item

  pub counts_at : (x : Item) (k : ScanKind) → x.kind ≡ k → non_canonicality p x ≡ counts_of p k x.chars
  unfolding non_canonicality
  counts_at x k e = ap (λ (k : ScanKind). counts_of p k x.chars) e

  pub replacement_at : (x : Item) (ds : List Presentation) (k : ScanKind) → x.kind ≡ k → replacement p x ds
      ≡ replacement_of p k x.chars ds
  unfolding replacement
  replacement_at x ds k e = ap (λ (k : ScanKind). replacement_of p k x.chars ds) e

  pub finding_false : (x : Item) → is_finding p x ≡ false → non_canonicality p x ≡ empty
  finding_false x e = total-empty (non_canonicality p x)
      (eqb-true (total (non_canonicality p x)) 0 (not-false (eqb (total (non_canonicality p x)) 0) e))

  pub empty_no_finding : (x : Item) → non_canonicality p x ≡ empty → is_finding p x ≡ false
  empty_no_finding x e = ap (λ (n : NonCanonicality). not (eqb (total n) 0)) e

  -- Passthrough is never a finding.
  pub passthrough_no_finding : (x : Item) → x.kind ≡ Passthrough → is_finding p x ≡ false
  unfolding counts_of
  passthrough_no_finding x e = empty_no_finding x (counts_at x Passthrough e)

  -- A finding is not passthrough.
  pub finding_no_passthrough : (x : Item) → is_finding p x ≡ true → x.kind ≢ Passthrough
  finding_no_passthrough x f e = true≢false (sym f ∙ passthrough_no_finding x e)

  pub replacement_no_count : (x : Item) (ds : List Presentation) → non_canonicality p (item x.kind (replacement p x ds)) ≡ empty
  unfolding non_canonicality replacement
  replacement_no_count x ds = no_count_of x.kind x.chars ds

  -- An item is no finding exactly if its default replacement is the item itself.
  pub unchanged : (x : Item) → Derives x.kind x.chars → (is_finding p x ≡ false) ↔ (replacement p x [] ≡ x.chars)
  unfolding non_canonicality replacement
  unchanged x d = (
    λ e. uncounted_of d (ap total (finding_false x e)),
    λ e. empty_no_finding x (ap (counts_of p x.kind) (sym e) ∙ no_count_of x.kind x.chars []),
  )

  pub replacement_derives : (x : Item) → Structured x.kind → Derives x.kind x.chars → (ds : List Presentation)
      → Derives x.kind (replacement p x ds)
  unfolding replacement replacement_of
  replacement_derives x o d ds =
      ⊎_elim (λ e. subst (λ (k : ScanKind). Derives x.kind (replacement_of p k x.chars ds)) (sym e) (derives_of o d ds))
      (λ e. subst (λ (k : ScanKind). Derives x.kind (replacement_of p k x.chars ds)) (sym e) (derives_of o d ds)) o

  -- The items of the replacement: none, or one of the same kind.
  pub items_of : {k : ScanKind} {t : List ℕ} → Derives k t → (ds : List Presentation) → (y : Item)
      → Memᴰ y (items (replacement_of p k t ds)) → y ≡ item k (replacement_of p k t ds)
  unfolding replacement_of items
  items_of {k} {t} (only_links a l) ds y m = only (derives_of (inl refl) (only_links a l) ds) y m
  items_of {k} {t} (run_of_selectors e s) ds y m = absurd (Memᴰ.not-nil m)
  items_of {k} {t} (headed_by_emoji v j l) ds y m = only (derives_of (inr refl) (headed_by_emoji v j l) ds) y m
  items_of {k} {t} (passthrough h s) ds y m = only (passthrough h s) y m

  pub replaced_no_count : (x : Item) → Derives x.kind x.chars → (ds : List Presentation) (y : Item)
      → Memᴰ y (items (replacement p x ds)) → non_canonicality p y ≡ empty
  unfolding replacement
  replaced_no_count x d ds y m = ap (non_canonicality p) (items_of d ds y m) ∙ replacement_no_count x ds
