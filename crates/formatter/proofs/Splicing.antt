-- The places of open findings as offsets in the book's text, and the bytes that a call exchanges there.
use Rattle.std.specs.Prelude.{Some}
use mathlib.Core.Path.{◌≡◌, refl, ap, sym, ◌∙◌, subst}
use mathlib.Core.Bool.{Bool, true, false, cond, ◌&&◌}
use mathlib.Core.List.{List, [], ◌∷◌, ◌++◌, append_assoc, map}
use Prim.Native.Nat.{ℕ, ◌+◌, ◌≤◌}
use native.Mathlib.Omega.{arith}
use native.Mathlib.Nat.{add_assoc, zero-add}
use lib.Dec.{eqb}
use lib.ListN.{drop, length, take}
use lib.Seq.{drop-append-add, drop-append_seam, take-append-add}
use borrow.Author.Tests.{eqb-true}
use Rattle.utf8.specs.Rfc3629.{encode_all}
use Rattle.utf8.proofs.Texts.{encode_all_append}
use Rattle.emoji.specs.declared.presentation.Presentation.{Presentation}
use Rattle.policy.specs.declared.Policy.{Policy}
use Rattle.scanner.specs.Items.{Item, join}
use Rattle.scanner.specs.Spans.{Found, size, width}
use Rattle.scanner.proofs.Bytes.{size-width}
use Rattle.analysis.specs.Analysis.{is_finding, replacement}
use Rattle.analysis.specs.Findings.{finding_at}
use Rattle.formatter.specs.Book.{
  Entry,
  Mark,
  at_place,
  book_chars,
  entry_chars,
  fresh,
  if_mended,
  is_open,
  items_of,
  mark_from,
  mended,
  open_findings_from,
  placed,
  untouched,
}
use Rattle.formatter.proofs.Mending.{open_found}

pub fresh-items : (xs : List Item) → items_of (fresh xs) ≡ xs
fresh-items [] = refl
fresh-items (x ∷ xs) = ap (λ (l : List Item). x ∷ l) (fresh-items xs)

module _ (p : Policy) where
  pub fresh-chars : (xs : List Item) → book_chars p (fresh xs) ≡ join xs
  unfolding book_chars
  fresh-chars [] = refl
  fresh-chars (x ∷ xs) = ap (λ (l : List ℕ). x.chars ++ l) (fresh-chars xs)

  -- The entries, with the open finding at the offset o of the book's text marked as mended. The first entry starts at the offset n there.
  unfoldable pub mark_at : ℕ → ℕ → List Presentation → List Entry → List Entry
  mark_at n o ds [] = []
  mark_at n o ds (e ∷ es) =
      cond (is_open e.mark && is_finding p e.item && eqb n o) (record { item = e.item; mark = mended ds } ∷ es)
      (e ∷ mark_at (n + size width (entry_chars p e.mark e.item)) o ds es)

  pub mark_items : (n o : ℕ) (ds : List Presentation) (es : List Entry) → items_of (mark_at n o ds es) ≡ items_of es
  unfolding mark_at
  mark_items n o ds [] = refl
  mark_items n o ds (e ∷ es) =
      go (is_open e.mark && is_finding p e.item && eqb n o) (mark_at (n + size width (entry_chars p e.mark e.item)) o ds es)
      (mark_items (n + size width (entry_chars p e.mark e.item)) o ds es)
    where
      go : (b : Bool) (fs : List Entry) → items_of fs ≡ items_of es
          → items_of (cond b (record { item = e.item; mark = mended ds } ∷ es) (e ∷ fs)) ≡ e.item ∷ items_of es
      go true fs h = refl
      go false fs h = ap (λ (l : List Item). e.item ∷ l) h

  -- ---- the bytes exchanged

  pub record Spliced (b : List ℕ) (n o : ℕ) (ds : List Presentation) (x : Item) (r : List ℕ) : Type 0 where
    pub offset : ℕ
    pub there : o ≡ n + offset
    pub same : take offset b ++ encode_all (replacement p x ds) ++ drop (offset + length (encode_all x.chars)) b ≡ r

  splice-later : (A t r : List ℕ) (n o : ℕ) (ds : List Presentation) (x : Item)
      → Spliced (encode_all t) (n + size width A) o ds x (encode_all r)
      → Spliced (encode_all (A ++ t)) n o ds x (encode_all (A ++ r))
  splice-later A t r n o ds x h = record {
    offset = length (encode_all A) + h.offset;
    there = omega (arith, h.there, size-width A);
    same =
        let y = encode_all (replacement p x ds) in
        let k = length (encode_all x.chars) in
        rw (
          encode_all_append A t,
          encode_all_append A r,
          take-append-add (encode_all A) (encode_all t) h.offset,
          add_assoc
              (length (encode_all A)) h.offset k,
          drop-append-add (encode_all A) (encode_all t) (h.offset + k),
        )
        (ap (λ (l : List ℕ). l ++ drop (h.offset + k) (encode_all t)) (append_assoc (encode_all A) (take h.offset (encode_all t)) y)
        ∙ append_assoc (encode_all A) (take h.offset (encode_all t) ++ y) (drop (h.offset + k) (encode_all t))
        ∙ ap (λ (l : List ℕ). encode_all A ++ l) h.same);
  }

  splice-here : (t : List ℕ) (n : ℕ) (ds : List Presentation) (x : Item)
      → Spliced (encode_all (x.chars ++ t)) n n ds x (encode_all (replacement p x ds ++ t))
  splice-here t n ds x = record {
    offset = 0;
    there = omega arith;
    same = rw (
      encode_all_append x.chars t,
      encode_all_append (replacement p x ds) t,
      zero-add,
      drop-append_seam (encode_all x.chars)
          (encode_all t),
    );
  }

  pub spliced : (n o : ℕ) (ds : List Presentation) (es : List Entry) (x : Item) → finding_at o (open_found p n es) ≡ Some x
      → Spliced (encode_all (book_chars p es)) n o ds x (encode_all (book_chars p (mark_at n o ds es)))
  unfolding open_found mark_at book_chars finding_at
  spliced n o ds [] x e = let z : ◌≡◌ {A = ℕ} 0 1 = cc in absurd (omega arith)
  spliced n o ds (e ∷ es) x h = go e.mark refl (is_finding p e.item) (eqb n o) refl (λ k. spliced k o ds es x) h
    where
      after : Mark → ℕ
      after m = n + size width (entry_chars p m e.item)

      tail : Mark → List Found
      tail m = open_found p (after m) es

      Ih : Type 0
      Ih = (k : ℕ) → finding_at o (open_found p k es) ≡ Some x
          → Spliced (encode_all (book_chars p es)) k o ds x (encode_all (book_chars p (mark_at k o ds es)))

      later : (m : Mark) → Ih → finding_at o (tail m) ≡ Some x
          → Spliced (encode_all (entry_chars p m e.item ++ book_chars p es)) n o ds x
          (encode_all (entry_chars p m e.item ++ book_chars p (mark_at (after m) o ds es)))
      later m ih h = splice-later (entry_chars p m e.item) (book_chars p es) (book_chars p (mark_at (after m) o ds es)) n o ds x
          (ih (after m) h)

      unmarked : (m : Mark) → e.mark ≡ m → Spliced (encode_all (entry_chars p m e.item ++ book_chars p es)) n o ds x
          (encode_all (entry_chars p m e.item ++ book_chars p (mark_at (after m) o ds es)))
          → Spliced (encode_all (entry_chars p m e.item ++ book_chars p es)) n o ds x
          (encode_all (book_chars p (e ∷ mark_at (after m) o ds es)))
      unmarked m q s = subst (λ (k : Mark). Spliced (encode_all (entry_chars p m e.item ++ book_chars p es)) n o ds x
          (encode_all (entry_chars p k e.item ++ book_chars p (mark_at (after m) o ds es)))) (sym q) s

      go : (m : Mark) → e.mark ≡ m → (f q : Bool) → eqb n o ≡ q → Ih
          → finding_at o (cond (is_open m && f) (record { start = n; item = e.item } ∷ tail m) (tail m)) ≡ Some x
          → Spliced (encode_all (entry_chars p m e.item ++ book_chars p es)) n o ds x
          (encode_all (book_chars p (cond (is_open m && f && q) (record { item = e.item; mark = mended ds } ∷ es)
          (e ∷ mark_at (after m) o ds es))))
      go untouched w true true j ih h =
          let s : Some e.item ≡ Some x = sym (ap (λ (b : Bool). cond b (Some e.item) (finding_at o (tail untouched))) j) ∙ h in
          let y : e.item ≡ x = cc in
          let k : n ≡ o = eqb-true n o j in
          subst (λ (x : Item). Spliced (encode_all (e.item.chars ++ book_chars p es)) n o ds x
          (encode_all (replacement p e.item ds ++ book_chars p es))) y
          (subst (λ (o : ℕ). Spliced (encode_all (e.item.chars ++ book_chars p es)) n o ds e.item
          (encode_all (replacement p e.item ds ++ book_chars p es))) k (splice-here (book_chars p es) n ds e.item))
      go untouched w true false j ih h = unmarked untouched w
          (later untouched ih (sym (ap (λ (b : Bool). cond b (Some e.item) (finding_at o (tail untouched))) j) ∙ h))
      go untouched w false q j ih h = unmarked untouched w (later untouched ih h)
      go (mended d) w f q j ih h = unmarked (mended d) w (later (mended d) ih h)

  -- ---- these offsets are the places as document 01 defines them

  pub openings_are : (n t k : ℕ) (es : List Entry) → k ≤ n + t
      → map at_place (open_findings_from p n t k es) ≡ open_found p (placed n t k) es
  unfolding open_findings_from open_found
  openings_are n t k [] h = refl
  openings_are n t k (e ∷ es) h = go e.mark (is_finding p e.item) (λ a b c i. openings_are a b c es i)
    where
      x : Item
      x = e.item

      Ih : Type 0
      Ih = (n t k : ℕ) → k ≤ n + t → map at_place (open_findings_from p n t k es) ≡ open_found p (placed n t k) es

      step : (m : Mark) → Ih → map at_place
          (open_findings_from p (n + size width x.chars) (t + if_mended m (size width (entry_chars p m x)))
          (k + if_mended m (size width x.chars)) es)
          ≡ open_found p (placed n t k + size width (entry_chars p m x)) es
      step untouched ih = ih (n + size width x.chars) (t + 0) (k + 0) (omega arith) ∙ ap (λ (m : ℕ). open_found p m es) (omega arith)
      step (mended ds) ih = ih _ _ _ (omega arith) ∙ ap (λ (m : ℕ). open_found p m es) (omega arith)

      go : (m : Mark) (f : Bool) → Ih →
          let later = open_findings_from p (n + size width x.chars) (t + if_mended m (size width (entry_chars p m x)))
          (k + if_mended m (size width x.chars)) es in
          let found-later = open_found p (placed n t k + size width (entry_chars p m x)) es in
          map at_place (cond (is_open m && f) (record { was = n; put = t; taken = k; item = x } ∷ later) later)
          ≡ cond (is_open m && f) (record { start = placed n t k; item = x } ∷ found-later) found-later
      go untouched true ih = ap (λ (l : List Found). record { start = placed n t k; item = x } ∷ l) (step untouched ih)
      go untouched false ih = step untouched ih
      go (mended ds) f ih = step (mended ds) ih

  pub marks_are : (n t k o : ℕ) (ds : List Presentation) (es : List Entry) → k ≤ n + t → mark_from p n t k o ds es
      ≡ mark_at (placed n t k) o ds es
  unfolding mark_from mark_at
  marks_are n t k o ds [] h = refl
  marks_are n t k o ds (e ∷ es) h =
      ap (λ (l : List Entry). cond (is_open e.mark && is_finding p e.item && eqb (placed n t k) o)
      (record { item = e.item; mark = mended ds } ∷ es) (e ∷ l)) (go e.mark (λ a b c i. marks_are a b c o ds es i))
    where
      x : Item
      x = e.item

      Ih : Type 0
      Ih = (n t k : ℕ) → k ≤ n + t → mark_from p n t k o ds es ≡ mark_at (placed n t k) o ds es

      go : (m : Mark) → Ih → mark_from p (n + size width x.chars) (t + if_mended m (size width (entry_chars p m x)))
          (k + if_mended m (size width x.chars)) o ds es
          ≡ mark_at (placed n t k + size width (entry_chars p m x)) o ds es
      go untouched ih = ih (n + size width x.chars) (t + 0) (k + 0) (omega arith) ∙ ap (λ (m : ℕ). mark_at m o ds es) (omega arith)
      go (mended d) ih = ih _ _ _ (omega arith) ∙ ap (λ (m : ℕ). mark_at m o ds es) (omega arith)
