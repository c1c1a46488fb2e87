-- The order of the tests of a text and a policy, and the filed text.
use Rattle.std.specs.Prelude.{Ok, Err, Some, None, Result, Option}
use mathlib.Core.Path.{◌≡◌, refl, ap, sym, ◌∙◌}
use mathlib.Core.Bool.{Bool, true, false, cond}
use mathlib.Core.List.{List, ◌++◌, map}
use Prim.Native.Nat.{ℕ, ◌≤◌}
use native.Mathlib.Omega.{arith}
use lib.Dec.{leb}
use lib.ListN.{drop, length, length-append, take}
use lib.Seq.{take-append_seam}
use borrow.Author.Tests.{le-leb, ne_eqb}
use Rattle.base.specs.Tables.{fill_table}
use Rattle.utf8.specs.Rfc3629.{valid_up_to_of}
use Rattle.utf8.proofs.Grammar.{whole_well_formed}
use Rattle.policy.specs.PolicyBytes.{is_policy, policy_of}
use Rattle.formatter.specs.Demand3.{Accepted}
use Rattle.formatter.specs.Filed.{filed_text}
use Rattle.formatter.specs.Findings.{finding_row, findings}
use Rattle.formatter.specs.Format.{format, formatted, same_bytes}
use Rattle.formatter.specs.List.{list, list_bytes, row_bytes, row_numbers}
use Rattle.analysis.specs.Decisions.{judge, meaning}
use Rattle.analysis.specs.Findings.{finding_at}
use Rattle.formatter.specs.Mend.{exchanged, mend}
use Rattle.base.specs.Refusals.{After, unwritten, or_else, text_limit}
use Rattle.formatter.specs.Intake.{intake_refusal}
use Rattle.formatter.specs.Theorems.{FiledIsFormatted, IntakeComesFirst, IntakeInOrder}
use Rattle.base.specs.declared.Refusal.{Refusal}
use Rattle.base.specs.declared.Refusal.TheVariants.{NotWellFormed}
use Rattle.formatter.proofs.Calls.{pass_intake}
use Rattle.formatter.proofs.Formatting.{format_is, format_tests, same_true}
use Rattle.formatter.proofs.Listing.{list_rows}
use Rattle.formatter.proofs.Passing.{intake_is, policy-first, too_long}

pub in_order : IntakeInOrder
unfolding IntakeInOrder
in_order text policy = (
  (λ h. too_long text policy (omega arith)),
  (λ r h e. policy-first text policy r h e),
  (λ h e w.
      intake_is text policy (le-leb (length text) 16777216 h) e
      (ne_eqb (valid_up_to_of text) (length text) (λ i. w (whole_well_formed text i)))),
  pass_intake policy text,
)

pub comes_first : IntakeComesFirst
unfolding IntakeComesFirst format list list_bytes mend
comes_first text policy r e =
    let F = formatted text policy in
    let p = policy_of policy in (
      (λ out. ap (λ (o : Option Refusal). or_else o (λ (f : Refusal). unwritten (Err f) out)
          (format_tests (same_bytes F text) (leb (length F) (length out)) F out)) e),
      (λ table. ap (λ (o : Option Refusal). or_else o (λ (f : Refusal). unwritten (Err f) table)
          (list_rows (map (finding_row p text) (findings text policy)) table)) e),
      (λ table. ap (λ (o : Option Refusal). or_else o (λ (f : Refusal). unwritten (Err f) table)
          (fill_table row_numbers row_bytes (map (finding_row p text) (findings text policy)) table)) e),
      (λ offset ds out.
          let x = finding_at offset (findings text policy) in
          ap (λ (o : Option Refusal). or_else o (λ (f : Refusal). unwritten (Err f) out)
          (judge p x ds (exchanged text p offset (map meaning ds) x) out)) e),
    )

-- The text is within the limit and the policy is accepted: the length n of the longest well-formed beginning decides.
module _ (text policy : List ℕ) (short : length text ≤ text_limit) (fit : is_policy policy ≡ true) {n : ℕ}
    (e : n ≡ valid_up_to_of text) where
  pub all_well_formed : n ≡ length text → Accepted policy text
  all_well_formed l = record { short = short; is_policy_lem = fit; well_formed = whole_well_formed text (sym e ∙ l) }

  pub not_well_formed : (n ≡ length text → ⊥) → intake_refusal text policy ≡ Some (NotWellFormed n)
  not_well_formed l = intake_is text policy (le-leb (length text) text_limit short) fit (ne_eqb _ _ (λ f. l (e ∙ f)))
      ∙ ap (λ (k : ℕ). Some (NotWellFormed k)) (sym e)

-- The filed text, by the answers of formatting's tests.
filed_tests : (same fits : Bool) (text r out : List ℕ) (len : ℕ) → (same ≡ true → r ≡ text)
    → ((format_tests same fits r out).answer ≡ Ok (Some len) → filed_text text (format_tests same fits r out).buffer true len ≡ r)
    × ((format_tests same fits r out).answer ≡ Ok None → filed_text text (format_tests same fits r out).buffer false len ≡ r)
unfolding filed_text
filed_tests true fits text r out len s = ((λ e. cc), (λ e. sym (s refl)))
filed_tests false true text r out len s = (
  (λ e.
      let n : length r ≡ len = cc in
      let b = r ++ drop (length r) out in
      ap (λ (n : ℕ). cond (leb n (length b)) (take n b) b) (sym n)
      ∙ ap (λ (q : Bool). cond q (take (length r) b) b)
      (le-leb (length r) (length b) (omega (arith, length-append r (drop (length r) out))))
      ∙ take-append_seam r (drop (length r) out)),
  (λ e. cc),
)
filed_tests false false text r out len s = ((λ e. cc), (λ e. cc))

pub filed : FiledIsFormatted
unfolding FiledIsFormatted
filed text policy out len a =
    let F = formatted text policy in
    let q = format_is policy text out a in
    let t = filed_tests (same_bytes F text) (leb (length F) (length out)) text F out len (same_true F text) in (
      (λ e. ap (λ (x : After (Result (Option ℕ) Refusal) ℕ). filed_text text x.buffer true len) q
          ∙ t.0 (ap (λ (x : After (Result (Option ℕ) Refusal) ℕ). x.answer) (sym q) ∙ e)),
      (λ e. ap (λ (x : After (Result (Option ℕ) Refusal) ℕ). filed_text text x.buffer false len) q
          ∙ t.1 (ap (λ (x : After (Result (Option ℕ) Refusal) ℕ). x.answer) (sym q) ∙ e)),
    )
