-- Formatting an accepted text by its cells: the text is unchanged exactly if the rules count nothing; else the formatted text is
-- that of its cells.
use Rattle.base.specs.declared.Refusal.{Refusal}
use Rattle.std.specs.Prelude.{Ok, Err, Some, None, Result, Option}
use mathlib.Core.Path.{◌≡◌, refl, ap, sym, ◌∙◌}
use mathlib.Core.Bool.{Bool, true, false, cond, not, false≢true}
use mathlib.Core.List.{List, [], ◌∷◌}
use Prim.Native.Nat.{ℕ, ◌+◌, ◌<◌, ◌≤◌}
use native.Mathlib.Omega.{arith}
use lib.Dec.{eqb, leb}
use lib.ListN.{length}
use borrow.Author.Tests.{eq-eqb, eqb-true, le-leb}
use Rattle.base.specs.Output.{PutAt}
use Rattle.base.specs.Refusals.{After, unwritten, written}
use Rattle.base.specs.declared.Refusal.TheVariants.{OutputTooShort}
use Rattle.utf8.specs.Rfc3629.{chars}
use Rattle.policy.specs.PolicyBytes.{policy_of}
use Rattle.policy.specs.declared.Policy.{Policy}
use Rattle.scanner.specs.Items.{Item, items}
use Rattle.scanner.specs.Spans.{Found, found, size, width}
use Rattle.analysis.specs.Analysis.{is_finding, non_canonicality}
use Rattle.analysis.specs.CellView.{total_cells}
use Rattle.analysis.specs.Counts.{total}
use Rattle.analysis.specs.Decisions.{write_out}
use Rattle.formatter.specs.Demand3.{Accepted}
use Rattle.analysis.specs.Findings.{totals}
use Rattle.formatter.specs.Findings.{findings}
use Rattle.formatter.specs.Format.{format, formatted, same_bytes}
use Rattle.analysis.proofs.Replacing.{out_put, out_short}
use Rattle.text_pass.specs.Changes.{formatted_from}
use Rattle.formatter.proofs.CellView.{cell_view}
use Rattle.formatter.proofs.FirstBook.{totals_is}
use Rattle.formatter.proofs.FormattedClaim.{formatted-claim}
use Rattle.formatter.proofs.Formatting.{format_is, format_tests, same_self, same_true}
use Rattle.formatter.proofs.Marks.{found_totals}

-- If the counts of all findings add up to 0, there is no finding.
none-counted : (p : Policy) (n : ℕ) (xs : List Item) → total (found_totals p (found (is_finding p) width n xs)) ≡ 0
    → found (is_finding p) width n xs ≡ []
unfolding found totals
none-counted p n [] e = refl
none-counted p n (x ∷ xs) e = go (eqb (total (non_canonicality p x)) 0) refl e (none-counted p (n + size width x.chars) xs)
  where
    F : List Found
    F = found (is_finding p) width (n + size width x.chars) xs

    go : (b : Bool) → eqb (total (non_canonicality p x)) 0 ≡ b
        → total (found_totals p (cond (not b) (record { start = n; item = x } ∷ F) F))
        ≡ 0
        → (total (found_totals p F) ≡ 0 → F ≡ []) → cond (not b) (record { start = n; item = x } ∷ F) F ≡ []
    go true f e h = h e
    go false f e h =
        let z : total (non_canonicality p x) ≡ 0 = omega arith in
        absurd (false≢true (sym f ∙ eq-eqb (total (non_canonicality p x)) 0 z))

-- The answer of `write_out` as an answer of formatting.
abbrev pub answer_as : Result ℕ Refusal → Result (Option ℕ) Refusal
answer_as (Ok n) = Ok (Some n)
answer_as (Err r) = Err r

abbrev pub as_format : After (Result ℕ Refusal) ℕ → After (Result (Option ℕ) Refusal) ℕ
as_format a = record { answer = answer_as a.answer; buffer = a.buffer }

module _ (policy text : List ℕ) (a : Accepted policy text) where
  abbrev P : Policy
  P = policy_of policy

  abbrev F : List ℕ
  F = formatted text policy

  counted : found_totals P (findings text policy) ≡ total_cells P (chars text)
  counted = sym (totals_is policy text) ∙ (cell_view text policy).1

  none_found : total (total_cells P (chars text)) ≡ 0 → findings text policy ≡ []
  unfolding findings
  none_found e = none-counted P 0 (items (chars text)) (ap total counted ∙ e)

  -- The text needs no change exactly if the counts of its cells add up to 0.
  same-cells : same_bytes F text ≡ eqb (total (total_cells P (chars text))) 0
  unfolding totals
  same-cells = go (same_bytes F text) (eqb (total (total_cells P (chars text))) 0) refl refl
    where
      go : (b d : Bool) → same_bytes F text ≡ b → eqb (total (total_cells P (chars text))) 0 ≡ d → b ≡ d
      go true true e f = refl
      go false false e f = refl
      go true false e f =
          let n = (formatted-claim policy text a).no_change.0 (same_true F text e) in
          let z : total (total_cells P (chars text)) ≡ 0 = ap total (sym counted) ∙ ap (λ (l : List Found). total (found_totals P l)) n in
          sym (eq-eqb (total (total_cells P (chars text))) 0 z) ∙ f
      go false true e f =
          let n = (formatted-claim policy text a).no_change.1 (none_found (eqb-true (total (total_cells P (chars text))) 0 f)) in
          sym e ∙ ap (same_bytes F) (sym n) ∙ same_self F

  write_as : (out : List ℕ) → as_format (write_out F out) ≡ format_tests false (leb (length F) (length out)) F out
  write_as out = go (leb (length F) (length out))
    where
      go : (b : Bool) → as_format (cond b (written (Ok (length F)) F out)
          (unwritten (Err (OutputTooShort (length F))) out)) ≡ format_tests false b F out
      go true = refl
      go false = refl

  test_same : (out : List ℕ) (b : Bool) → eqb (total (total_cells P (chars text))) 0 ≡ b
      → format text policy out ≡ format_tests b (leb (length F) (length out)) F out
  test_same out b e = format_is policy text out a ∙ ap (λ (t : Bool). format_tests t (leb (length F) (length out)) F out) (same-cells ∙ e)

  pub format_unchanged : (out : List ℕ) → eqb (total (total_cells P (chars text))) 0 ≡ true → unwritten (Ok None) out
      ≡ format text policy out
  format_unchanged out e = sym (test_same out true e)

  -- The written cells are the formatted text.
  cells_are : formatted_from P text 0 ≡ F
  cells_are = sym (cell_view text policy).0

  -- A formatted text that differs from the text is refused if the output is too short.
  pub format-short : (out : List ℕ) (n : ℕ) → eqb (total (total_cells P (chars text))) 0 ≡ false → n ≡ length (formatted_from P text 0)
      → length out < n
      → unwritten (Err (OutputTooShort n)) out ≡ format text policy out
  format-short out n e f l =
      ap as_format (out_short (formatted_from P text 0) out n f l ∙ ap (λ (r : List ℕ). write_out r out) cells_are) ∙ write_as out
      ∙ sym (test_same out false e)

  pub format-written : (out after : List ℕ) (n r : ℕ) → eqb (total (total_cells P (chars text))) 0 ≡ false → n
      ≡ length (formatted_from P text 0) → n ≤ length out
      → PutAt out 0 (formatted_from P text 0) after r → record { answer = Ok (Some n); buffer = after } ≡ format text policy out
  format-written out after n r e f l w =
      ap as_format (out_put (formatted_from P text 0) out n f after r l w ∙ ap (λ (r : List ℕ). write_out r out) cells_are) ∙ write_as out
      ∙ sym (test_same out false e)

  -- With enough room, the answer has the length of the formatted text.
  pub format_fits : (out : List ℕ) (n : ℕ) → eqb (total (total_cells P (chars text))) 0 ≡ false → n ≡ length (formatted_from P text 0)
      → n ≤ length out
      → Ok (Some n) ≡ (format text policy out).answer
  format_fits out n e f l =
      let g : n ≡ length F = f ∙ ap length cells_are in
      ap (λ (k : ℕ). Ok (Some k)) g
      ∙ sym (ap (λ (x : After (Result (Option ℕ) Refusal) ℕ). x.answer)
      (test_same out false e ∙ ap (λ (t : Bool). format_tests false t F out) (le-leb (length F) (length out) (omega (arith, g)))))
