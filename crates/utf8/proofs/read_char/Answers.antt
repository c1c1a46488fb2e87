-- `utf8::read_char` meets its contract: the packed number holds the value and the width (Packed).
use mathlib.Core.Path.{sym, ap, ◌∙◌}
use native.Mathlib.Omega.{arith}
use lib.ListN.{drop}
use Rattle.utf8.specs.declared.ReadChar.TheVariants.{IllFormed}
use Rattle.utf8.proofs.Fronts.{read_char-past_end}
use Rattle.utf8.proofs.Packed.{packed_none, packed-reads}
use Rattle.utf8.proofs.read_char.Goals as goal

pub returns-then-s-at : goal.returns-then-s-at
returns-then-s-at c =
    let x = c.args in
    sym (read_char-past_end x.s.now x.at (omega arith))

pub returns-in-0 : goal.returns-in-0
returns-in-0 c =
    let x = c.args in
    let n = c.decode in
    ap IllFormed c.bad_width.ensures
    ∙ sym (packed_none x.s.now x.at n.result n.ensures c.in-0.is (omega arith))

pub returns-in_default : goal.returns-in_default
returns-in_default c =
    let x = c.args in
    let n = c.decode in
    sym (packed-reads (drop x.at x.s.now) n.result n.ensures (omega arith))
