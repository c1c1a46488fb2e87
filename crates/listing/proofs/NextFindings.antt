-- What the answer of `next_finding` says of the findings from an offset on: their number, or the first of them with its row.
use mathlib.Core.Path.{◌≡◌, refl, ap, ap₂, sym, ◌∙◌, subst}
use mathlib.Core.Bool.{Bool, true, false}
use mathlib.Core.List.{List, [], ◌∷◌, map}
use Prim.Native.Nat.{ℕ}
use native.Mathlib.Omega.{arith}
use lib.ListN.{drop, length}
use Rattle.utf8.specs.Rfc3629.{chars, valid_up_to_of}
use Rattle.policy.specs.declared.Policy.{Policy}
use Rattle.positions.specs.Positions.{AtPosition, Boundary, capped_plus, count_between}
use Rattle.positions.specs.declared.TextCount.{TextCount}
use Rattle.positions.proofs.Boundaries.{boundary_later}
use Rattle.positions.proofs.Counting.{at_position_on}
use Rattle.scanner.specs.Items.{join}
use Rattle.scanner.specs.Spans.{size, width}
use Rattle.scanner.proofs.Bytes.{size-chars}
use Rattle.scanner.proofs.ItemAt.{item_at_lem}
use Rattle.scanner.proofs.Positions.{boundary_on}
use Rattle.analysis.specs.Findings.{findings_from}
use Rattle.formatter.specs.Findings.{finding_row, row_in}
use Rattle.analysis.specs.declared.types.Finding.{Finding}
use Rattle.analysis.specs.declared.types.NonCanonicality.{NonCanonicality}
use Rattle.text_pass.specs.Findings.{Counted, Finds, NextFinding, NoFindingBetween}
use Rattle.text_pass.specs.declared.findings.FindingSpan.{FindingSpan}
use Rattle.text_pass.proofs.Passing.{finds_here, finds_room, finds_some, skips_findings_length}
use Rattle.formatter.proofs.Steps.{Ahead, none_found, row_by, rows_from}

-- ---- the limit is the end of the text: all findings are passed

module _ {p : Policy} {text : List ℕ} {r : FindingSpan} (n : NextFinding p text (length text) 0 r) where
  none_more : chars (drop r.start text) ≡ []
  none_more = go r.present refl
    where
      go : (b : Bool) → r.present ≡ b → chars (drop r.start text) ≡ []
      go true e = let f = n.1 e in let l = finds_room f.1 in absurd (omega (arith, f.0))
      go false e = (n.2 e).0

  pub all_counted : r.passed ≡ length (findings_from p text 0)
  all_counted = omega (arith, skips_findings_length n.0.skips, ap length (none_found p text r.start none_more))

  pub all_valid : r.start ≡ valid_up_to_of text
  all_valid = omega (arith, n.0.advances.valid, size-chars (drop r.start text), ap (size width) none_more)

-- ---- a finding is present

module _ {p : Policy} {text : List ℕ} {start end : ℕ} (f : Finds p text start end) where
  pub finds_ahead : Ahead text start end
  finds_ahead = record { some = finds_some f; room = finds_room f }

-- The row of a finding is its start, its end, its counts, and the positions of its start and its end.
pub finds_row : {p : Policy} {text : List ℕ} {start end : ℕ} {n : NonCanonicality} → Counted p text start end n
    → {first last : TextCount} → AtPosition text start first → AtPosition text end last
    → rows_from p text start ≡ row_by start end n first last ∷ rows_from p text end
unfolding finding_row
finds_row {p} {text} {start} {end} {n} f a b =
    ap (map (finding_row p text)) (finds_here f.finds)
    ∙ ap₂ (λ (k : ℕ) (m : NonCanonicality). row_in text start k m ∷ rows_from p text end) (sym f.finds.end_is) (sym f.counts_are)
    ∙ ap₂ (λ (c d : TextCount). row_by start end n c d ∷ rows_from p text end) (sym a.position) (sym b.position)

-- The positions of a finding's start and end, counted on from an earlier offset.
pub finds_positions : {p : Policy} {text : List ℕ} {from start end : ℕ} → NoFindingBetween p text from start → Finds p text start end
    → {before m first n last : TextCount} → AtPosition text from before → m ≡ count_between text from start → first ≡ capped_plus before m
    → n ≡ count_between text start end → last ≡ capped_plus first n → AtPosition text start first × AtPosition text end last
finds_positions {p} {text} {from} {start} {end} a f {before} {m} {first} {n} {last} o hm hf hn hl =
    let v = a.advances in
    let h = finds_ahead f in
    let b = boundary_later text from start o.boundary v.on (v.inside o.boundary.within_text) v.valid in
    let e = boundary_on text start f.item.chars (join f.after) (item_at_lem text start f.items_are).bytes b in
    let x : AtPosition text start first =
    subst (AtPosition text start) (ap (capped_plus before) (sym hm) ∙ sym hf) (at_position_on o b v.on) in
    let y : AtPosition text end last =
    subst (AtPosition text end) (ap (capped_plus first) (sym hn) ∙ sym hl)
    (at_position_on x (subst (Boundary text) (sym f.end_is) e) (omega (arith, h.some))) in
    (x, y)

module _ {p : Policy} {text : List ℕ} {from start end : ℕ} (a : NoFindingBetween p text from start) (f : Finds p text start end) where
  pub next_ahead : Ahead text from end
  next_ahead = let h = finds_ahead f in let o = a.advances.on in let s = h.some in record { some = omega arith; room = h.room }

-- If no finding starts between two offsets, the rows from the first on are those from the second on.
pub next_row : {p : Policy} {text : List ℕ} {from start : ℕ} {rows : List Finding} → NoFindingBetween p text from start
    → rows_from p text start ≡ rows → rows_from p text from ≡ rows
next_row {p} {text} a e = ap (map (finding_row p text)) a.same ∙ e
