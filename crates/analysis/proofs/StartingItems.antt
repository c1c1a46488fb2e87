-- The finding that starts at an offset of a text: if an item of the text starts there, it is the first item of a scan from the
-- offset on, if that is a finding. A cursor that goes from item to item decides whether an item starts there.
use Rattle.scanner.specs.declared.ScanItem.{ScanItem}
use Rattle.std.specs.Prelude.{Some, None, Option}
use mathlib.Core.Path.{◌≡◌, refl, ap, sym, ◌∙◌, subst}
use mathlib.Core.Bool.{Bool, true, false, cond, ◌||◌}
use mathlib.Core.List.{List, [], ◌∷◌}
use Prim.Native.Nat.{ℕ, ◌+◌, ◌<◌, ◌≤◌}
use native.Mathlib.Omega.{arith}
use lib.Dec.{eqb}
use lib.ListN.{drop, length}
use borrow.Author.Tests.{eqb-true, ne_eqb}
use Rattle.utf8.specs.Rfc3629.{chars}
use Rattle.policy.specs.declared.Policy.{Policy}
use Rattle.scanner.specs.Items.{Item, items}
use Rattle.positions.specs.Positions.{no_count}
use Rattle.positions.specs.declared.TextCount.{TextCount}
use Rattle.scanner.specs.Spans.{Found, count_after, first_of, found, scan, scan_at, scan_from, size, spans, width}
use Rattle.scanner.proofs.ItemAt.{ItemAt, item_at_lem}
use Rattle.analysis.specs.Analysis.{is_finding}
use Rattle.analysis.specs.Findings.{finding_at}
use Rattle.analysis.specs.Helpers.{starts_at}
use Rattle.analysis.specs.ItemAt.{finding_starting}

-- ---- the items after an offset

-- No finding after an offset starts at this offset.
pub no_finding-past : (p : Policy) (o n : ℕ) (xs : List Item) → o < n → finding_at o (found (is_finding p) width n xs) ≡ None
unfolding finding_at found
no_finding-past p o n [] h = refl
no_finding-past p o n (x ∷ xs) h = go (is_finding p x) (no_finding-past p o (n + size width x.chars) xs (omega arith))
  where
    F : List Found
    F = found (is_finding p) width (n + size width x.chars) xs

    go : (b : Bool) → finding_at o F ≡ None → finding_at o (cond b (record { start = n; item = x } ∷ F) F) ≡ None
    go true i = ap (λ (b : Bool). cond b (Some x) (finding_at o F)) (ne_eqb n o (λ e. omega arith)) ∙ i
    go false i = i

-- No item after an offset starts at this offset.
no_item_past : (o n : ℕ) (before : TextCount) (xs : List Item) → o < n → starts_at o (spans n before xs) ≡ false
unfolding starts_at spans
no_item_past o n before [] h = refl
no_item_past o n before (x ∷ xs) h =
    let on = count_after before x in
    ap (λ (b : Bool). b || starts_at o (spans (n + size width x.chars) on xs)) (ne_eqb n o (λ e. omega arith))
    ∙ no_item_past o (n + size width x.chars) on xs (omega arith)

-- Whether an item starts at an offset does not depend on the characters and units before the items.
any_count : (o n : ℕ) (before other : TextCount) (xs : List Item) → starts_at o (spans n before xs) ≡ starts_at o (spans n other xs)
unfolding starts_at spans
any_count o n before other [] = refl
any_count o n before other (x ∷ xs) =
    ap (λ (b : Bool). eqb n o || b) (any_count o (n + size width x.chars) (count_after before x) (count_after other x) xs)

-- ---- from item to item

or_none : (b : Bool) → (b || false) ≡ b
or_none true = refl
or_none false = refl

module _ (text : List ℕ) (o at : ℕ) (before : TextCount) where
  -- Whether one of the items from the offset `at` on starts at the offset o, by the cursor's answer at `at`.
  abbrev pub Starting : Option ScanItem → Type 0
  Starting None = starts_at o (scan_from text at before) ≡ false
  Starting (Some x) =
      (at < x.end) × (x.end ≤ length text) × (at < o → starts_at o (scan_from text at before) ≡ starts_at o (scan_from text x.end before))
      × (o ≤ at → starts_at o (scan_from text at before) ≡ eqb at o)

  starting_of : (xs : List Item) → items (chars (drop at text)) ≡ xs → Starting (first_of (spans at before xs))
  unfolding scan_from spans first_of starts_at
  starting_of [] e = ap (λ (l : List Item). starts_at o (spans at before l)) e
  starting_of (x ∷ xs) e =
      let h = item_at_lem text at e in
      let end = at + size width x.chars in
      let S = starts_at o (spans end (count_after before x) xs) in
      let here : starts_at o (scan_from text at before) ≡ (eqb at o || S) = ap (λ (l : List Item). starts_at o (spans at before l)) e in
      let on = any_count o end (count_after before x) before xs
      ∙ ap (λ (l : List Item). starts_at o (spans end before l)) (sym h.after) in (
        h.some,
        h.room,
        λ l. here ∙ ap (λ (b : Bool). b || S) (ne_eqb at o (λ e. omega arith)) ∙ on,
        λ l. here ∙ ap (λ (b : Bool). eqb at o || b) (no_item_past o end (count_after before x) xs (omega (arith, h.some)))
            ∙ or_none (eqb at o),
      )

  pub cursor_starting : {s : Option ScanItem} → s ≡ scan_at text at before → Starting s
  unfolding scan_at scan_from
  cursor_starting e = subst Starting (sym e) (starting_of (items (chars (drop at text))) refl)

-- ---- the finding that starts at an offset

module _ (p : Policy) where
  -- The first item, if it is a finding.
  abbrev pub head_finding : List Item → Option Item
  head_finding [] = None
  head_finding (x ∷ xs) = cond (is_finding p x) (Some x) None

  module _ (text : List ℕ) (o : ℕ) where
    starting-from : (at : ℕ) (before : TextCount) (xs : List Item) → items (chars (drop at text)) ≡ xs
        → finding_at o (found (is_finding p) width at xs)
        ≡ cond (starts_at o (spans at before xs)) (head_finding (items (chars (drop o text)))) None
    unfolding finding_at found starts_at spans
    starting-from at before [] e = refl
    starting-from at before (x ∷ xs) e = go (eqb at o) (is_finding p x) refl refl (starting-from end (count_after before x) xs h.after)
      where
        h : ItemAt text at x xs
        h = item_at_lem text at e

        end : ℕ
        end = at + size width x.chars

        F : List Found
        F = found (is_finding p) width end xs

        S : Bool
        S = starts_at o (spans end (count_after before x) xs)

        R : Option Item
        R = head_finding (items (chars (drop o text)))

        here : at ≡ o → R ≡ cond (is_finding p x) (Some x) None
        here j = ap (λ (n : ℕ). head_finding (items (chars (drop n text)))) (sym j) ∙ ap head_finding e

        found-by : (b f : Bool) → b ≡ f → cond b (Some x) None ≡ cond f (Some x) None
        found-by b f j = ap (λ (b : Bool). cond b (Some x) None) j

        go : (q f : Bool) → eqb at o ≡ q → is_finding p x ≡ f → finding_at o F ≡ cond S R None
            → finding_at o (cond f (record { start = at; item = x } ∷ F) F) ≡ cond (q || S) R None
        go true true j k ih =
            ap (λ (b : Bool). cond b (Some x) (finding_at o F)) j ∙ sym (here (eqb-true at o j) ∙ found-by (is_finding p x) true k)
        go true false j k ih =
            let l = eqb-true at o j in
            no_finding-past p o end xs (omega (arith, h.some)) ∙ sym (here l ∙ found-by (is_finding p x) false k)
        go false true j k ih = ap (λ (b : Bool). cond b (Some x) (finding_at o F)) j ∙ ih
        go false false j k ih = ih

    pub finding-starting : finding_starting p text o ≡ cond (starts_at o (scan text)) (head_finding (items (chars (drop o text)))) None
    unfolding scan scan_from
    finding-starting = starting-from 0 no_count (items (chars (drop 0 text))) refl
