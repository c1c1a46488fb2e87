-- `mending::exchange` meets its contract.
use mathlib.Core.Path.{◌≡◌}
use mathlib.Core.List.{map}
use Prim.Native.Nat.{◌+◌, ◌-◌}
use native.Mathlib.Omega.{arith}
use Rattle.base.proofs.Answering.{whole}
use Rattle.analysis.specs.Decisions.{meaning}
use Rattle.mending.proofs.Exchanging.{cells-few, exchange_nothing, exchange_short, exchange_written}
use Rattle.mending.proofs.exchange.Goals as goal

pub overflow_add-stop : goal.overflow_add-stop
overflow_add-stop c =
    let x = c.args in
    omega (
      arith,
      c.requires,
      cells-few x.policy x.text.now x.start x.end
          (map meaning x.decisions.now),
    )

pub overflow_add-wanted : goal.overflow_add-wanted
overflow_add-wanted c =
    let x = c.args in
    omega (
      arith,
      c.requires,
      cells-few x.policy x.text.now x.start x.end
          (map meaning x.decisions.now),
    )

pub returns-then-out-wanted : goal.returns-then-out-wanted
returns-then-out-wanted c =
    let x = c.args in
    let h = c.requires in
    exchange_short x.policy x.text.now x.start x.decisions.now h.0 h.1 h.2 h.3 x.out.now (omega arith)

pub returns-then-len-eq0 : goal.returns-then-len-eq0
returns-then-len-eq0 c =
    let x = c.args in
    let h = c.requires in
    exchange_nothing x.policy x.text.now x.start x.decisions.now h.0 h.1 h.2 h.3 x.out.now c.if-len-eq0.true
    (omega arith) c.put_around.ensures

pub returns : goal.returns
returns c =
    let x = c.args in
    let h = c.requires in
    let k : x.start + x.len - x.start ≡ x.len = omega arith in
    exchange_written x.policy x.text.now x.start x.decisions.now h.0 h.1 h.2 h.3 x.out.now (omega arith) k
    c.put_around.ensures
    (whole c.write_cells.ensures)
