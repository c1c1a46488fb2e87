-- What an accepted call does to the book: one finding fewer is open, the totals of open and mended findings together stay, and the mended
-- item is a finding with valid decisions.
use Rattle.std.specs.Prelude.{Some}
use mathlib.Core.Path.{◌≡◌, refl, ap, sym, ◌∙◌}
use mathlib.Core.Bool.{Bool, true, false, cond, ◌&&◌, false≢true}
use mathlib.Core.List.{List, [], ◌∷◌, map}
use Prim.Native.Nat.{ℕ, suc, ◌+◌}
use native.Mathlib.Omega.{arith}
use lib.Dec.{eqb}
use lib.ListN.{length}
use Rattle.emoji.specs.declared.presentation.Presentation.{Presentation}
use Rattle.policy.specs.declared.Policy.{Policy}
use Rattle.scanner.specs.Items.{Item}
use Rattle.scanner.specs.Spans.{Found, found, size, width}
use Rattle.analysis.specs.Analysis.{is_finding, non_canonicality}
use Rattle.analysis.specs.Counts.{◌⊕◌}
use Rattle.analysis.specs.declared.types.NonCanonicality.{NonCanonicality}
use Rattle.analysis.proofs.Counts.{empty-plus, plus_assoc, plus-swap}
use Rattle.formatter.specs.Book.{Entry, Mark, entry_chars, is_open, items_of, mended, untouched}
use Rattle.formatter.specs.Demand3.{Each, ValidMending, ValidMark, and_each, mended_items, no_more, only_mended}
use Rattle.analysis.specs.Findings.{finding_at, totals}
use Rattle.analysis.specs.Decisions.{wanted}
use Rattle.formatter.proofs.Mending.{open_found}
use Rattle.formatter.proofs.Splicing.{mark_at}

abbrev pub Rights : Policy → List Entry → Type 0
Rights p es = Each (λ (e : Entry). ValidMark p e.mark e.item) es

-- The totals of a list of findings.
abbrev pub found_totals : Policy → List Found → NonCanonicality
found_totals p fs = totals p (map (λ (f : Found). f.item) fs)

module _ (p : Policy) where
  -- The number of open findings.
  abbrev pub opens : List Entry → ℕ
  opens [] = 0
  opens (e ∷ es) = cond (is_open e.mark && is_finding p e.item) (suc (opens es)) (opens es)

  pub cond_length : {A : Type 0} (b : Bool) (x : A) (l : List A) (m : ℕ) → length l ≡ m → length (cond b (x ∷ l) l) ≡ cond b (suc m) m
  cond_length true x l m h = ap suc h
  cond_length false x l m h = h

  pub open_number : (n : ℕ) (es : List Entry) → length (open_found p n es) ≡ opens es
  unfolding open_found
  open_number n [] = refl
  open_number n (e ∷ es) =
      let N = n + size width (entry_chars p e.mark e.item) in
      cond_length (is_open e.mark && is_finding p e.item) (record { start = n; item = e.item }) (open_found p N es) (opens es)
      (open_number N es)

  pub split-totals : (n k : ℕ) {es : List Entry} → Rights p es
      → found_totals p (open_found p n es) ⊕ totals p (mended_items es) ≡ found_totals p (found (is_finding p) width k (items_of es))
  unfolding open_found found totals
  split-totals n k no_more = empty-plus _
  split-totals n k (and_each {x = e} {xs = es} h hs) =
      go e.mark (is_finding p e.item) refl h
      (split-totals (n + size width (entry_chars p e.mark e.item)) (k + size width e.item.chars) hs)
    where
      x : Item
      x = e.item

      O : List Found
      O = open_found p (n + size width (entry_chars p e.mark e.item)) es

      F : List Found
      F = found (is_finding p) width (k + size width x.chars) (items_of es)

      go : (m : Mark) (f : Bool) → is_finding p x ≡ f → ValidMark p m x → found_totals p O ⊕ totals p (mended_items es) ≡ found_totals p F
          → found_totals p (cond (is_open m && f) (record { start = n; item = x } ∷ O) O) ⊕ totals p
          (only_mended m (λ (ds : List Presentation). x) (mended_items es))
          ≡ found_totals p (cond f (record { start = k; item = x } ∷ F) F)
      go untouched true f r i = plus_assoc (non_canonicality p x) _ _ ∙ ap (λ (c : NonCanonicality). non_canonicality p x ⊕ c) i
      go untouched false f r i = i
      go (mended ds) true f r i =
          plus-swap (found_totals p O) (non_canonicality p x) (totals p (mended_items es))
          ∙ ap (λ (c : NonCanonicality). non_canonicality p x ⊕ c) i
      go (mended ds) false f r i = absurd (false≢true (sym f ∙ r.is-finding))

  -- After an accepted call, one finding fewer is open.
  pub opens_mark : (n o : ℕ) (ds : List Presentation) (es : List Entry) (x : Item) → finding_at o (open_found p n es) ≡ Some x → opens es
      ≡ suc (opens (mark_at p n o ds es))
  unfolding open_found mark_at finding_at
  opens_mark n o ds [] x h = let z : ◌≡◌ {A = ℕ} 0 1 = cc in absurd (omega arith)
  opens_mark n o ds (e ∷ es) x h =
      go e.mark (is_finding p e.item) (eqb n o) refl refl refl
      (opens_mark (n + size width (entry_chars p e.mark e.item)) o ds es x) h
    where
      N : ℕ
      N = n + size width (entry_chars p e.mark e.item)

      O : List Found
      O = open_found p N es

      M : List Entry
      M = mark_at p N o ds es

      unwritten : (m : Mark) (f : Bool) → e.mark ≡ m → is_finding p e.item ≡ f → opens (e ∷ M)
          ≡ cond (is_open m && f) (suc (opens M)) (opens M)
      unwritten m f k g = ap (λ (m : Mark). cond (is_open m && is_finding p e.item) (suc (opens M)) (opens M)) k
          ∙ ap (λ (f : Bool). cond (is_open m && f) (suc (opens M)) (opens M)) g

      go : (m : Mark) (f q : Bool) → e.mark ≡ m → is_finding p e.item ≡ f → eqb n o ≡ q
          → (finding_at o O ≡ Some x → opens es ≡ suc (opens M))
          → finding_at o (cond (is_open m && f) (record { start = n; item = e.item } ∷ O) O) ≡ Some x
          → cond (is_open m && f) (suc (opens es)) (opens es)
          ≡ suc (opens (cond (is_open m && f && q) (record { item = e.item; mark = mended ds } ∷ es) (e ∷ M)))
      go untouched true true k f j ih h = refl
      go untouched true false k f j ih h =
          ap suc (ih (sym (ap (λ (b : Bool). cond b (Some e.item) (finding_at o O)) j) ∙ h)) ∙ ap suc (sym (unwritten untouched true k f))
      go untouched false q k f j ih h = ih h ∙ ap suc (sym (unwritten untouched false k f))
      go (mended d) f q k g j ih h = ih h ∙ ap suc (sym (unwritten (mended d) f k g))

  -- An accepted call keeps the property that only findings are mended, each under as many decisions as it wants.
  pub right_mark : (n o : ℕ) (ds : List Presentation) {es : List Entry} (x : Item) → finding_at o (open_found p n es) ≡ Some x → length ds
      ≡ wanted p x
      → Rights p es → Rights p (mark_at p n o ds es)
  unfolding open_found mark_at finding_at
  right_mark n o ds x h l no_more = no_more
  right_mark n o ds x h l (and_each {x = e} {xs = es} r rs) =
      go e.mark (is_finding p e.item) (eqb n o) refl refl
      (λ i. right_mark (n + size width (entry_chars p e.mark e.item)) o ds x i l rs) h
    where
      N : ℕ
      N = n + size width (entry_chars p e.mark e.item)

      O : List Found
      O = open_found p N es

      M : List Entry
      M = mark_at p N o ds es

      go : (m : Mark) (f q : Bool) → is_finding p e.item ≡ f → eqb n o ≡ q → (finding_at o O ≡ Some x → Rights p M)
          → finding_at o (cond (is_open m && f) (record { start = n; item = e.item } ∷ O) O) ≡ Some x
          → Rights p (cond (is_open m && f && q) (record { item = e.item; mark = mended ds } ∷ es) (e ∷ M))
      go untouched true true f j ih h =
          let s : Some e.item ≡ Some x = sym (ap (λ (b : Bool). cond b (Some e.item) (finding_at o O)) j) ∙ h in
          let y : e.item ≡ x = cc in
          let z : ValidMending p e.item ds = record { is-finding = f; as_many = l ∙ ap (λ (x : Item). wanted p x) (sym y) } in
          and_each {x = record { item = e.item; mark = mended ds }} z rs
      go untouched true false f j ih h = and_each {x = e} r (ih (sym (ap (λ (b : Bool). cond b (Some e.item) (finding_at o O)) j) ∙ h))
      go untouched false q f j ih h = and_each {x = e} r (ih h)
      go (mended d) f q g j ih h = and_each {x = e} r (ih h)
