-- `feeding::scan::piece_from` meets its contract.
use native.Mathlib.Omega.{arith}
use Rattle.feeding.proofs.scan.piece_from.Goals as goal

pub overflow_sub-result : goal.overflow_sub-result
overflow_sub-result c = c.requires c.if-n-eq0.false c.if-first-eq0.false

pub returns : goal.returns
returns c =
    let l = c.requires c.if-n-eq0.false c.if-first-eq0.false in
    record {
      no_rest = λ h. absurd (c.if-n-eq0.false h);
      none_complete = λ h z. absurd (c.if-first-eq0.false z);
      complete = λ h z. omega (arith, l);
    }
