-- Listing a book's text gives the open findings, and each has the same bytes, counts and choices as in the first text.
use Rattle.std.specs.Prelude.{Ok, Err, Result, Option}
use mathlib.Core.Path.{◌≡◌, refl, ap, sym, ◌∙◌, subst}
use mathlib.Core.Logic.{◌⊎◌, inl, inr}
use mathlib.Core.Bool.{Bool, true, false, cond, ◌&&◌}
use mathlib.Core.List.Memᴰ
use mathlib.Core.List.{
  List,
  [],
  ◌∷◌,
  ◌++◌,
  append_assoc,
  map,
  Memᴰ,
}
use Prim.Native.Nat.{ℕ, ◌+◌, ◌≤◌, ◌<◌}
use native.Mathlib.Omega.{arith}
use lib.Dec.{leb}
use lib.ListN.{drop, length, length-append, take}
use lib.Seq.{drop-append_seam, take-append_seam}
use borrow.Author.Tests.{le-leb, lt-leb}
use Rattle.base.specs.Tables.{fill_table}
use Rattle.utf8.specs.Rfc3629.{encode_all}
use Rattle.utf8.proofs.Texts.{encode_all_append}
use Rattle.policy.specs.declared.Policy.{Policy}
use Rattle.policy.specs.PolicyBytes.{is_policy, policy_of}
use Rattle.scanner.specs.Items.{Item, join}
use Rattle.scanner.specs.Spans.{Found, found, size, width}
use Rattle.scanner.proofs.Bytes.{size-width}
use Rattle.analysis.specs.Analysis.{choices, is_finding, non_canonicality, replacement}
use Rattle.formatter.specs.Book.{
  Entry,
  Mark,
  OpenFinding,
  at_first_of,
  at_place,
  book_chars,
  book_text,
  entry_chars,
  is_open,
  items_of,
  mended,
  open_findings,
  open_findings_from,
  place,
  put_by,
  taken_by,
  untouched,
}
use Rattle.formatter.specs.Demand3.{Accepted, Seen, open_row, seen}
use Rattle.formatter.specs.Findings.{finding_row, findings, row_in}
use Rattle.formatter.specs.List.{list, list_bytes, row_bytes, row_numbers}
use Rattle.base.specs.Refusals.{After, unwritten, or_else, written}
use Rattle.analysis.specs.declared.types.Finding.{Finding}
use Rattle.base.specs.declared.Refusal.{Refusal}
use Rattle.base.specs.declared.Refusal.TheVariants.{TableTooShort}
use Rattle.formatter.proofs.Mending.{open_found}
use Rattle.formatter.proofs.Calls.{InRow, Sound, accepted-book, findings-book, findings-open, pass_intake}
use Rattle.formatter.proofs.RowBytes.{list-passed}
use Rattle.formatter.proofs.Splicing.{openings_are}

-- ---- rows

-- The outcome of listing after the intake, by the rows and the table.
abbrev pub list_rows : List Finding → List Finding → After (Result ℕ Refusal) Finding
list_rows rows table =
    cond (leb (length rows) (length table)) (written (Ok (length rows)) rows table)
    (unwritten (Err (TableTooShort (length rows))) table)

pub room-rows : (rows table : List Finding) (n : ℕ) → length rows ≡ n → n ≤ length table → list_rows rows table
    ≡ record { answer = Ok n; buffer = rows ++ drop n table }
room-rows rows table n e h =
    ap (λ (b : Bool). cond b (written (Ok (length rows)) rows table) (unwritten (Err (TableTooShort (length rows))) table))
    (le-leb (length rows) (length table) (omega arith))
    ∙ ap (λ (n : ℕ). record { answer = Ok n; buffer = rows ++ drop n table }) e

pub short-rows : (rows table : List Finding) (n : ℕ) → length rows ≡ n → length table < n → list_rows rows table
    ≡ record { answer = Err (TableTooShort n); buffer = table }
short-rows rows table n e h =
    ap (λ (b : Bool). cond b (written (Ok (length rows)) rows table) (unwritten (Err (TableTooShort (length rows))) table))
    (lt-leb (length rows) (length table) (omega arith))
    ∙ ap (λ (n : ℕ). record { answer = Err (TableTooShort n); buffer = table }) e

pub list_is : (policy b : List ℕ) (table : List Finding) → Accepted policy b → list b policy table
    ≡ list_rows (map (finding_row (policy_of policy) b) (findings b policy)) table
unfolding list
list_is policy b table a =
    ap (λ (o : Option Refusal). or_else o (λ (r : Refusal). unwritten (Err r) table)
    (list_rows (map (finding_row (policy_of policy) b) (findings b policy)) table)) (pass_intake policy b a)

pub list_bytes_is : (policy b table : List ℕ) → Accepted policy b → list_bytes b policy table
    ≡ fill_table row_numbers row_bytes (map (finding_row (policy_of policy) b) (findings b policy)) table
list_bytes_is policy b table a = sym (list-passed b policy table (pass_intake policy b a))

row_open : (p : Policy) (text : List ℕ) (os : List OpenFinding) → map (finding_row p text) (map at_place os) ≡ map (open_row p text) os
unfolding finding_row
row_open p text [] = refl
row_open p text (o ∷ os) =
    ap (λ (n : ℕ). row_in text (place o) (place o + n) (non_canonicality p o.item) ∷ map (finding_row p text) (map at_place os))
    (size-width o.item.chars)
    ∙ ap (λ (l : List Finding). open_row p text o ∷ l) (row_open p text os)

-- ---- the bytes, counts and choices of a finding

module _ (p : Policy) where
  abbrev plainly : Found → Seen
  plainly f = record { bytes_there = encode_all f.item.chars; counts = non_canonicality p f.item; choices = choices p f.item }

  seen_here : (A t : List ℕ) (n : ℕ) (x : Item) → length A ≡ n → seen p (A ++ encode_all (x.chars ++ t)) (record { start = n; item = x })
      ≡ plainly (record { start = n; item = x })
  seen_here A t n x e =
      let k = length (encode_all x.chars) in
      let z : take k (drop n (A ++ encode_all (x.chars ++ t))) ≡ encode_all x.chars =
      ap (λ (m : ℕ). take k (drop m (A ++ encode_all (x.chars ++ t)))) (sym e)
      ∙ ap (take k) (drop-append_seam A (encode_all (x.chars ++ t)) ∙ encode_all_append x.chars t)
      ∙ take-append_seam (encode_all x.chars) (encode_all t) in
      λ i. record { bytes_there = z i; counts = non_canonicality p x; choices = choices p x }

  longer : (A s t : List ℕ) → A ++ encode_all (s ++ t) ≡ (A ++ encode_all s) ++ encode_all t
  longer A s t = ap (λ (l : List ℕ). A ++ l) (encode_all_append s t) ∙ sym (append_assoc A (encode_all s) (encode_all t))

  longer_length : (A s : List ℕ) (n : ℕ) → length A ≡ n → length (A ++ encode_all s) ≡ n + size width s
  longer_length A s n e = omega (arith, length-append A (encode_all s), size-width s)

  -- The bytes of an open finding stand at its place in the book's text.
  seen_now : (A : List ℕ) (n : ℕ) (es : List Entry) → length A ≡ n → map (seen p (A ++ encode_all (book_chars p es))) (open_found p n es)
      ≡ map plainly (open_found p n es)
  unfolding open_found book_chars
  seen_now A n [] e = refl
  seen_now A n (e ∷ es) l = go e.mark (is_finding p e.item)
      (λ s. seen_now (A ++ encode_all s) (n + size width s) es (longer_length A s n l))
    where
      x : Item
      x = e.item

      O : List ℕ → List Found
      O s = open_found p (n + size width s) es

      Ih : Type 0
      Ih = (s : List ℕ) → map (seen p ((A ++ encode_all s) ++ encode_all (book_chars p es))) (O s) ≡ map plainly (O s)

      tail : (s : List ℕ) → Ih → map (seen p (A ++ encode_all (s ++ book_chars p es))) (O s) ≡ map plainly (O s)
      tail s ih = ap (λ (t : List ℕ). map (seen p t) (O s)) (longer A s (book_chars p es)) ∙ ih s

      go : (m : Mark) (f : Bool) → Ih →
          let found-one = cond (is_open m && f) (record { start = n; item = x } ∷ O (entry_chars p m x)) (O (entry_chars p m x)) in
          map (seen p (A ++ encode_all (entry_chars p m x ++ book_chars p es))) found-one ≡ map plainly found-one
      go untouched true ih =
          ap (λ (y : Seen). y ∷ map (seen p (A ++ encode_all (x.chars ++ book_chars p es))) (O x.chars))
          (seen_here A (book_chars p es) n x l)
          ∙ ap (λ (ys : List Seen). plainly (record { start = n; item = x }) ∷ ys) (tail x.chars ih)
      go untouched false ih = tail x.chars ih
      go (mended ds) f ih = tail (replacement p x ds) ih

  -- The bytes of an open finding stand at its start in the first text.
  seen_first : (A : List ℕ) (n t k : ℕ) (es : List Entry) → length A ≡ n
      → map (seen p (A ++ encode_all (join (items_of es)))) (map at_first_of (open_findings_from p n t k es))
      ≡ map plainly (map at_first_of (open_findings_from p n t k es))
  unfolding open_findings_from
  seen_first A n t k [] l = refl
  seen_first A n t k (e ∷ es) l =
      go (is_open e.mark && is_finding p e.item)
      (seen_first (A ++ encode_all e.item.chars) (n + size width e.item.chars) (put_by p t e) (taken_by p k e) es
      (longer_length A e.item.chars n l))
    where
      x : Item
      x = e.item

      O : List OpenFinding
      O = open_findings_from p (n + size width x.chars) (put_by p t e) (taken_by p k e) es

      B : List ℕ
      B = A ++ encode_all (x.chars ++ join (items_of es))

      Ih : Type 0
      Ih = map (seen p ((A ++ encode_all x.chars) ++ encode_all (join (items_of es)))) (map at_first_of O) ≡ map plainly (map at_first_of O)

      tail : Ih → map (seen p B) (map at_first_of O) ≡ map plainly (map at_first_of O)
      tail ih = ap (λ (t : List ℕ). map (seen p t) (map at_first_of O)) (longer A x.chars (join (items_of es))) ∙ ih

      go : (f : Bool) → Ih →
          let open-one = cond f (record { was = n; put = t; taken = k; item = x } ∷ O) O in
          map (seen p B) (map at_first_of open-one) ≡ map plainly (map at_first_of open-one)
      go true ih =
          ap (λ (y : Seen). y ∷ map (seen p B) (map at_first_of O)) (seen_here A (join (items_of es)) n x l)
          ∙ ap (λ (ys : List Seen). plainly (record { start = n; item = x }) ∷ ys) (tail ih)
      go false ih = tail ih

  plainly_same : (os : List OpenFinding) → map plainly (map at_place os) ≡ map plainly (map at_first_of os)
  plainly_same [] = refl
  plainly_same (o ∷ os) = ap (λ (ys : List Seen). plainly (at_place o) ∷ ys) (plainly_same os)

  -- An open finding is a finding of the first text.
  pub first-finding : (n t k : ℕ) (es : List Entry) (o : OpenFinding) → Memᴰ o (open_findings_from p n t k es)
      → Memᴰ (at_first_of o) (found (is_finding p) width n (items_of es))
  unfolding open_findings_from found
  first-finding n t k [] o h = absurd (Memᴰ.not-nil h)
  first-finding n t k (e ∷ es) o h = go e.mark (is_finding p e.item)
      (first-finding (n + size width e.item.chars) (put_by p t e) (taken_by p k e) es o) h
    where
      x : Item
      x = e.item

      here : OpenFinding
      here = record { was = n; put = t; taken = k; item = x }

      O : List OpenFinding
      O = open_findings_from p (n + size width x.chars) (put_by p t e) (taken_by p k e) es

      F : List Found
      F = found (is_finding p) width (n + size width x.chars) (items_of es)

      Ih : Type 0
      Ih = Memᴰ o O → Memᴰ (at_first_of o) F

      put_first : Ih → (o ≡ here) ⊎ Memᴰ o O → Memᴰ (at_first_of o) (record { start = n; item = x } ∷ F)
      put_first ih (inl e) = Memᴰ.head (ap at_first_of e)
      put_first ih (inr h) = Memᴰ.tail (ih h)

      skip : (f : Bool) → Memᴰ (at_first_of o) F → Memᴰ (at_first_of o) (cond f (record { start = n; item = x } ∷ F) F)
      skip true h = Memᴰ.tail h
      skip false h = h

      go : (m : Mark) (f : Bool) → Ih → Memᴰ o (cond (is_open m && f) (here ∷ O) O)
          → Memᴰ (at_first_of o) (cond f (record { start = n; item = x } ∷ F) F)
      go untouched true ih h = put_first ih (Memᴰ.cases_cons h)
      go untouched false ih h = ih h
      go (mended ds) f ih h = skip f (ih h)

module _ (policy : List ℕ) (ok : is_policy policy ≡ true) where
  abbrev open_rows : List ℕ → List Entry → List Finding
  open_rows text es = map (open_row (policy_of policy) text) (open_findings policy es)

  rows_book : (es : List Entry) → Sound policy es
      → map (finding_row (policy_of policy) (book_text policy es)) (findings (book_text policy es) policy)
      ≡ open_rows (book_text policy es) es
  rows_book es h = ap (map (finding_row (policy_of policy) (book_text policy es))) (findings-open policy ok es h.base)
      ∙ row_open (policy_of policy) (book_text policy es) (open_findings policy es)

  -- Listing the book's text.
  pub list_book : (es : List Entry) (table : List Finding) → Sound policy es → {text : List ℕ} → text ≡ book_text policy es
      → list text policy table ≡ list_rows (open_rows text es) table
  list_book es table h e =
      subst (λ (t : List ℕ). list t policy table ≡ list_rows (open_rows t es) table) (sym e)
      (list_is policy (book_text policy es) table (accepted-book policy ok es h)
      ∙ ap (λ (rows : List Finding). list_rows rows table) (rows_book es h))

  pub list_book_bytes : (es : List Entry) (table : List ℕ) → Sound policy es → {text : List ℕ} → text ≡ book_text policy es
      → list_bytes text policy table ≡ fill_table row_numbers row_bytes (open_rows text es) table
  list_book_bytes es table h e =
      subst (λ (t : List ℕ). list_bytes t policy table ≡ fill_table row_numbers row_bytes (open_rows t es) table) (sym e)
      (list_bytes_is policy (book_text policy es) table (accepted-book policy ok es h)
      ∙ ap (λ (rows : List Finding). fill_table row_numbers row_bytes rows table) (rows_book es h))

  pub seen_same : (es : List Entry) → InRow policy es
      → map (seen (policy_of policy) (book_text policy es)) (findings (book_text policy es) policy)
      ≡ map (seen (policy_of policy) (encode_all (join (items_of es)))) (map at_first_of (open_findings policy es))
  seen_same es h =
      let p = policy_of policy in
      ap (map (seen p (book_text policy es))) (findings-book policy ok es h) ∙ seen_now p [] 0 es refl
      ∙ ap (map (plainly p)) (sym (openings_are p 0 0 0 es (omega arith))) ∙ plainly_same p (open_findings policy es)
      ∙ sym (seen_first p [] 0 0 0 es refl)
