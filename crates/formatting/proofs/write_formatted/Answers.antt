-- `formatting::write_formatted` meets its contract.
use mathlib.Core.Path.{refl, sym, ◌∙◌}
use Prim.Native.Nat.{◌-◌}
use native.Mathlib.Omega.{arith}
use lib.ListN.{length}
use borrow.Author.Tests.{leb-false, leb-true}
use Rattle.policy.specs.PolicyBytes.{policy_of}
use Rattle.text_pass.specs.Changes.{formatted_from}
use Rattle.formatting.proofs.write_formatted.Goals as goal

pub returns-then-text-gt-TEXT_LIMIT : goal.returns-then-text-gt-TEXT_LIMIT
returns-then-text-gt-TEXT_LIMIT c = record {
  put = λ l f. absurd (omega (arith, c.if-text-gt-TEXT_LIMIT.true));
  kept = λ h. (refl, refl);
  long = λ h. (refl, refl);
}

pub returns-then-out-at : goal.returns-then-out-at
returns-then-out-at c = record {
  put = λ l f. absurd (omega (arith, c.if-out-at.true));
  kept = λ h. (refl, refl);
  long = λ h. (refl, refl);
}

pub formatted_fits-requires : goal.formatted_fits-requires
formatted_fits-requires c = (omega (arith, c.if-text-gt-TEXT_LIMIT.false), c.next_change-first.ensures)

pub returns-then-not-formatted_fits : goal.returns-then-not-formatted_fits
returns-then-not-formatted_fits c =
    let x = c.args in
    let F = length (formatted_from (policy_of x.policy.now) x.text.now 0) in
    let n = leb-false F (length x.out.now - x.at) (sym c.formatted_fits.ensures ∙ c.if-not-formatted_fits.true) in record {
      put = λ l f. absurd (omega (arith, n, c.if-out-at.false));
      kept = λ h. (refl, refl);
      long = λ h. (refl, refl);
    }

pub put_changes-requires : goal.put_changes-requires
put_changes-requires c =
    let x = c.args in
    let F = length (formatted_from (policy_of x.policy.now) x.text.now 0) in
    let n = leb-true F (length x.out.now - x.at) (sym c.formatted_fits.ensures ∙ c.if-not-formatted_fits.false) in
    (omega arith, c.next_change-first.ensures, omega (arith, n, c.if-out-at.false))

pub returns : goal.returns
returns c =
    let x = c.args in
    let F = length (formatted_from (policy_of x.policy.now) x.text.now 0) in
    let n = leb-true F (length x.out.now - x.at) (sym c.formatted_fits.ensures
    ∙ c.if-not-formatted_fits.false) in record {
      put = λ l f. c.put_changes.ensures;
      kept = λ h. absurd (omega (arith, n, c.if-out-at.false));
      long = λ h. absurd (omega (arith, c.if-text-gt-TEXT_LIMIT.false));
    }
