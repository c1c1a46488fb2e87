-- The order of calls does not matter, since the mendings determine the book's text. No two open findings have the same place.
use Rattle.std.specs.Prelude.{Some}
use mathlib.Core.Path.{◌≡◌, refl, ap, sym, ◌∙◌, subst}
use mathlib.Core.Logic.{◌⊎◌, inl, inr}
use mathlib.Core.Bool.{Bool, true, false, cond, ◌&&◌}
use mathlib.Core.List.Memᴰ
use mathlib.Core.List.{List, [], ◌∷◌, ◌++◌, Memᴰ}
use Prim.Native.Nat.{ℕ, ◌+◌, ◌≤◌, ◌<◌}
use native.Mathlib.Omega.{arith}
use lib.Dec.{eqb}
use borrow.Author.Tests.{eq-eqb, eqb-true, ne_eqb}
use Rattle.emoji.specs.declared.presentation.Presentation.{Presentation}
use Rattle.policy.specs.declared.Policy.{Policy}
use Rattle.scanner.specs.Items.{Item}
use Rattle.scanner.specs.Spans.{size, width}
use Rattle.scanner.proofs.Bytes.{width_some}
use Rattle.scanner.proofs.Tiling.{Filled, and_item, no_item}
use Rattle.analysis.specs.Analysis.{is_finding, replacement}
use Rattle.formatter.specs.Book.{
  Entry,
  Mark,
  Mending,
  OpenFinding,
  book_chars,
  entry_chars,
  if_mended,
  is_open,
  items_of,
  mark_from,
  mended,
  mending_of,
  open_finding_at,
  open_findings_from,
  place,
  placed,
  put_by,
  taken_by,
  untouched,
}
use Rattle.formatter.specs.Demand3.{Alike, Each, and_each, mended_from, no_more, only_mended}
use Rattle.formatter.proofs.Alike.{alike-join, alike_move, alike_of, alike_refl, alike_trans}

module _ (p : Policy) where
  -- A call adds the mending of the open finding at its offset to the mendings of the book.
  pub log_mark : (n t k o : ℕ) (ds : List Presentation) (es : List Entry)
      → Alike (mended_from n (mark_from p n t k o ds es))
      (mending_of ds (open_finding_at o (open_findings_from p n t k es)) ++ mended_from n es)
  unfolding mended_from mark_from open_finding_at open_findings_from
  log_mark n t k o ds [] = alike_refl []
  log_mark n t k o ds (e ∷ es) =
      go e.mark refl (is_finding p e.item) (eqb (placed n t k) o) refl
      (log_mark (n + size width e.item.chars) (put_by p t e) (taken_by p k e) o ds es)
    where
      N : ℕ
      N = n + size width e.item.chars

      M : List Entry
      M = mark_from p N (put_by p t e) (taken_by p k e) o ds es

      O : List OpenFinding
      O = open_findings_from p N (put_by p t e) (taken_by p k e) es

      here : OpenFinding
      here = record { was = n; put = t; taken = k; item = e.item }

      say : List Presentation → Mending
      say d = record { start = n; decisions = d }

      unwritten : (m : Mark) → e.mark ≡ m → mended_from n (e ∷ M) ≡ only_mended m say (mended_from N M)
      unwritten m q = ap (λ (m : Mark). only_mended m say (mended_from N M)) q

      found_here : (b : Bool) → eqb (placed n t k) o ≡ b → mending_of ds (cond b (Some here) (open_finding_at o O)) ++ mended_from N es
          ≡ mending_of ds (open_finding_at o (here ∷ O)) ++ mended_from N es
      found_here b j = ap (λ (b : Bool). mending_of ds (cond b (Some here) (open_finding_at o O)) ++ mended_from N es) (sym j)

      go : (m : Mark) → e.mark ≡ m → (f q : Bool) → eqb (placed n t k) o ≡ q
          → Alike (mended_from N M) (mending_of ds (open_finding_at o O) ++ mended_from N es)
          → Alike (mended_from n (cond (is_open m && f && q) (record { item = e.item; mark = mended ds } ∷ es) (e ∷ M)))
          (mending_of ds (open_finding_at o (cond (is_open m && f) (here ∷ O) O)) ++ only_mended m say (mended_from N es))
      go untouched v true true j h = alike_of (found_here true j)
      go untouched v true false j h = alike_trans (alike_of (unwritten untouched v)) (alike_trans h (alike_of (found_here false j)))
      go untouched v false q j h = alike_trans (alike_of (unwritten untouched v)) h
      go (mended d) v f q j h =
          alike_trans (alike_of (unwritten (mended d) v))
          (alike_trans (alike-join (say d ∷ []) (say d ∷ []) (mended_from N M) (mending_of ds (open_finding_at o O) ++ mended_from N es)
          (alike_refl _) h) (alike_move (say d) (mending_of ds (open_finding_at o O)) (mended_from N es)))

  -- ---- starts and places ascend

  from_start : (n : ℕ) (es : List Entry) (m : Mending) → Memᴰ m (mended_from n es) → n ≤ m.start
  unfolding mended_from
  from_start n [] m h = absurd (Memᴰ.not-nil h)
  from_start n (e ∷ es) m h = go e.mark h (from_start (n + size width e.item.chars) es m)
    where
      N : ℕ
      N = n + size width e.item.chars

      past : (Memᴰ m (mended_from N es) → N ≤ m.start) → (d : List Presentation) → (m ≡ record { start = n; decisions = d })
          ⊎ Memᴰ m (mended_from N es) → n ≤ m.start
      past ih d (inl e) = omega (arith, ap (λ (m : Mending). m.start) e)
      past ih d (inr h) = let i = ih h in omega arith

      go : (k : Mark) → Memᴰ m (only_mended k (λ (ds : List Presentation). record { start = n; decisions = ds }) (mended_from N es))
          → (Memᴰ m (mended_from N es) → N ≤ m.start) → n ≤ m.start
      go untouched h ih = let i = ih h in omega arith
      go (mended d) h ih = past ih d (Memᴰ.cases_cons h)

  from_place : (n t k : ℕ) (es : List Entry) (x : OpenFinding) → k ≤ n + t → Memᴰ x (open_findings_from p n t k es)
      → placed n t k ≤ place x
  unfolding open_findings_from
  from_place n t k [] x l h = absurd (Memᴰ.not-nil h)
  from_place n t k (e ∷ es) x l h = go e.mark (is_finding p e.item) (λ a b c i. from_place a b c es x i) h
    where
      S : ℕ
      S = size width e.item.chars

      here : OpenFinding
      here = record { was = n; put = t; taken = k; item = e.item }

      O : Mark → List OpenFinding
      O m = open_findings_from p (n + S) (t + if_mended m (size width (entry_chars p m e.item))) (k + if_mended m S) es

      Ih : Type 0
      Ih = (n t k : ℕ) → k ≤ n + t → Memᴰ x (open_findings_from p n t k es) → placed n t k ≤ place x

      past : Ih → (x ≡ here) ⊎ Memᴰ x (O untouched) → placed n t k ≤ place x
      past ih (inl q) = omega (arith, ap place q)
      past ih (inr h) = let i = ih (n + S) (t + 0) (k + 0) (omega arith) h in omega arith

      go : (m : Mark) (f : Bool) → Ih → Memᴰ x (cond (is_open m && f) (here ∷ O m) (O m)) → placed n t k ≤ place x
      go untouched true ih h = past ih (Memᴰ.cases_cons h)
      go untouched false ih h = let i = ih (n + S) (t + 0) (k + 0) (omega arith) h in omega arith
      go (mended d) f ih h = let i = ih (n + S) (t + size width (replacement p e.item d)) (k + S) (omega arith) h in omega arith

  -- No other open finding has the same place, so that a search by the place finds it.
  pub opening-place : (n t k : ℕ) (es : List Entry) (x : OpenFinding) → k ≤ n + t → Filled (items_of es)
      → Memᴰ x (open_findings_from p n t k es) → open_finding_at (place x) (open_findings_from p n t k es) ≡ Some x
  unfolding open_findings_from open_finding_at
  opening-place n t k [] x l fl h = absurd (Memᴰ.not-nil h)
  opening-place n t k (e ∷ es) x l (and_item c s q fl) h = go e.mark (is_finding p e.item) (λ a b c i. opening-place a b c es x i fl) h
    where
      S : ℕ
      S = size width e.item.chars

      here : OpenFinding
      here = record { was = n; put = t; taken = k; item = e.item }

      O : Mark → List OpenFinding
      O m = open_findings_from p (n + S) (t + if_mended m (size width (entry_chars p m e.item))) (k + if_mended m S) es

      Ih : Type 0
      Ih = (n t k : ℕ) → k ≤ n + t → Memᴰ x (open_findings_from p n t k es) → open_finding_at (place x) (open_findings_from p n t k es)
          ≡ Some x

      past : Ih → (x ≡ here) ⊎ Memᴰ x (O untouched)
          → cond (eqb (placed n t k) (place x)) (Some here) (open_finding_at (place x) (O untouched)) ≡ Some x
      past ih (inl j) =
          ap (λ (b : Bool). cond b (Some here) (open_finding_at (place x) (O untouched)))
          (eq-eqb (placed n t k) (place x) (sym (ap place j)))
          ∙ ap Some (sym j)
      past ih (inr h) =
          let i = from_place (n + S) (t + 0) (k + 0) es x (omega arith) h in
          let z : placed n t k < place x = omega (arith, ap (size width) q, width_some c) in
          ap (λ (b : Bool). cond b (Some here) (open_finding_at (place x) (O untouched)))
          (ne_eqb (placed n t k) (place x) (λ y. omega (arith, y, z)))
          ∙ ih (n + S) (t + 0) (k + 0) (omega arith) h

      go : (m : Mark) (f : Bool) → Ih → Memᴰ x (cond (is_open m && f) (here ∷ O m) (O m))
          → open_finding_at (place x) (cond (is_open m && f) (here ∷ O m) (O m)) ≡ Some x
      go untouched true ih h = past ih (Memᴰ.cases_cons h)
      go untouched false ih h = ih (n + S) (t + 0) (k + 0) (omega arith) h
      go (mended d) f ih h = ih (n + S) (t + size width (replacement p e.item d)) (k + S) (omega arith) h

  -- The place of an open finding plus the bytes taken before it is its start in the first text plus the replacements put before it.
  pub places_add : (n t k : ℕ) (es : List Entry) → k ≤ n → Each (λ (o : OpenFinding). place o + o.taken ≡ o.was + o.put)
      (open_findings_from p n t k es)
  unfolding open_findings_from
  places_add n t k [] h = no_more
  places_add n t k (e ∷ es) h = go e.mark (is_finding p e.item) (λ a b c i. places_add a b c es i)
    where
      S : ℕ
      S = size width e.item.chars

      here : OpenFinding
      here = record { was = n; put = t; taken = k; item = e.item }

      O : Mark → List OpenFinding
      O m = open_findings_from p (n + S) (t + if_mended m (size width (entry_chars p m e.item))) (k + if_mended m S) es

      Adds : List OpenFinding → Type 0
      Adds = Each (λ (o : OpenFinding). place o + o.taken ≡ o.was + o.put)

      go : (m : Mark) (f : Bool) → ((n t k : ℕ) → k ≤ n → Adds (open_findings_from p n t k es))
          → Adds (cond (is_open m && f) (here ∷ O m) (O m))
      go untouched true ih = and_each {x = here} (omega arith) (ih (n + S) (t + 0) (k + 0) (omega arith))
      go untouched false ih = ih (n + S) (t + 0) (k + 0) (omega arith)
      go (mended d) f ih = ih _ _ _ (omega arith)

  -- ---- two books with the same items

  data SameItems : List Entry → List Entry → Type 0 where
    both_end : SameItems [] []
    both : {e f : Entry} {es fs : List Entry} → e.item ≡ f.item → (c : ℕ) (s : List ℕ) → e.item.chars ≡ c ∷ s → SameItems es fs
        → SameItems (e ∷ es) (f ∷ fs)

  same-items : (es fs : List Entry) → items_of es ≡ items_of fs → Filled (items_of es) → SameItems es fs
  same-items [] [] e no_item = both_end
  same-items [] (f ∷ fs) e no_item = let z : ◌≡◌ {A = ℕ} 0 1 = cc in absurd (omega arith)
  same-items (e ∷ es) [] q (and_item c s l h) = let z : ◌≡◌ {A = ℕ} 0 1 = cc in absurd (omega arith)
  same-items (e ∷ es) (f ∷ fs) q (and_item c s l h) =
      let a : e.item ≡ f.item = cc in
      let b : items_of es ≡ items_of fs = cc in
      both a c s l (same-items es fs b h)

  same-items-chars : (n : ℕ) {es fs : List Entry} → SameItems es fs → Alike (mended_from n es) (mended_from n fs)
      → book_chars p es ≡ book_chars p fs
  unfolding book_chars mended_from
  same-items-chars n both_end h = refl
  same-items-chars n (both {e = e} {f = f} {es = es} {fs = fs} q c s l t) h =
      go e.mark f.mark
      (subst (λ (x : Item). Alike (mended_from n (e ∷ es))
      (only_mended f.mark (λ (ds : List Presentation). record { start = n; decisions = ds })
      (mended_from (n + size width x.chars) fs))) (sym q) h)
      (same-items-chars (n + size width e.item.chars) t)
    where
      x : Item
      x = e.item

      N : ℕ
      N = n + size width x.chars

      pair : List Presentation → Mending
      pair d = record { start = n; decisions = d }

      -- No finding of a later entry starts at n.
      later : {A : Type 0} (gs : List Entry) (m : Mending) → m.start ≡ n → Memᴰ m (mended_from N gs) → A
      later gs m i h = let z = from_start N gs m h in absurd (omega (arith, ap (size width) l, width_some c))

      in_tail : (gs : List Entry) (d : List Presentation) (m : Mending) → N ≤ m.start → (m ≡ pair d) ⊎ Memᴰ m (mended_from N gs)
          → Memᴰ m (mended_from N gs)
      in_tail gs d m i (inl j) = absurd (omega (arith, ap (size width) l, width_some c, ap (λ (m : Mending). m.start) j))
      in_tail gs d m i (inr h) = h

      tails : (d g : List Presentation) → Alike (pair d ∷ mended_from N es) (pair g ∷ mended_from N fs)
          → Alike (mended_from N es) (mended_from N fs)
      tails d g h m = (
        (λ i. in_tail fs g m (from_start N es m i) (Memᴰ.cases_cons ((h m).0 (Memᴰ.tail i)))),
        (λ i. in_tail es d m (from_start N fs m i) (Memᴰ.cases_cons ((h m).1 (Memᴰ.tail i)))),
      )

      heads : (d g : List Presentation) → (pair d ≡ pair g) ⊎ Memᴰ (pair d) (mended_from N fs) → d ≡ g
      heads d g (inl j) = ap (λ (m : Mending). m.decisions) j
      heads d g (inr h) = later fs (pair d) refl h

      go : (m k : Mark) → Alike (only_mended m pair (mended_from N es)) (only_mended k pair (mended_from N fs))
          → (Alike (mended_from N es) (mended_from N fs) → book_chars p es ≡ book_chars p fs)
          → entry_chars p m x ++ book_chars p es ≡ entry_chars p k f.item ++ book_chars p fs
      go untouched untouched h ih = ap (λ (y : Item). y.chars ++ book_chars p es) q ∙ ap (λ (r : List ℕ). f.item.chars ++ r) (ih h)
      go untouched (mended g) h ih = later es (pair g) refl ((h (pair g)).1 (Memᴰ.head refl))
      go (mended d) untouched h ih = later fs (pair d) refl ((h (pair d)).0 (Memᴰ.head refl))
      go (mended d) (mended g) h ih =
          let j = heads d g (Memᴰ.cases_cons ((h (pair d)).0 (Memᴰ.head refl))) in
          ap (λ (y : Item). replacement p y d ++ book_chars p es) q
          ∙ ap (λ (d : List Presentation). replacement p f.item d ++ book_chars p es) j
          ∙ ap (λ (r : List ℕ). replacement p f.item g ++ r) (ih (tails d g h))

  -- Two books with the same items and the same mendings have the same text.
  pub same_chars : (es fs : List Entry) → items_of es ≡ items_of fs → Filled (items_of es) → Alike (mended_from 0 es) (mended_from 0 fs)
      → book_chars p es ≡ book_chars p fs
  same_chars es fs e h a = same-items-chars 0 (same-items es fs e h) a

-- `x` is one of the open findings, and its place is the offset.
pub record Hit (o : ℕ) (os : List OpenFinding) (x : OpenFinding) : Type 0 where
  pub among : Memᴰ x os
  pub there : place x ≡ o

pub opening_hit : (o : ℕ) (os : List OpenFinding) (x : OpenFinding) → open_finding_at o os ≡ Some x → Hit o os x
unfolding open_finding_at
opening_hit o [] x h = let z : ◌≡◌ {A = ℕ} 0 1 = cc in absurd (omega arith)
opening_hit o (y ∷ os) x h = go (eqb (place y) o) refl h (opening_hit o os x)
  where
    go : (b : Bool) → eqb (place y) o ≡ b → cond b (Some y) (open_finding_at o os) ≡ Some x → (open_finding_at o os ≡ Some x → Hit o os x)
        → Hit o (y ∷ os) x
    go true j h ih =
        let s : y ≡ x = cc in
        record { among = Memᴰ.head (sym s); there = ap place (sym s) ∙ eqb-true (place y) o j }
    go false j h ih = let i = ih h in record { among = Memᴰ.tail i.among; there = i.there }
