-- `findings_near::around::fill_tables` meets its contract.
use native.Mathlib.Omega.{arith}
use Rattle.base.specs.Lists.{filter}
use Rattle.formatter.specs.Findings.{listed}
use Rattle.findings_near.specs.Around.{inside, only_shares}
use Rattle.findings_near.proofs.AroundPass.{both-filled, inner_room, inner_short, no_rows, none_put, outer_room, outer_short}
use Rattle.findings_near.proofs.around.fill_tables.Goals as goal

pub returns-then-inner-inner_rows : goal.returns-then-inner-inner_rows
returns-then-inner-inner_rows c =
    let x = c.args in
    let l = listed x.text.now x.policy.now in
    let I = filter (inside x.from x.to) l in
    let O = filter (only_shares x.from x.to) l in
    inner_short I O x.inner.now x.outer.now c.requires.0 c.requires.1 (omega (arith, c.if-inner-inner_rows.true))

pub returns-then-outer-outer_rows : goal.returns-then-outer-outer_rows
returns-then-outer-outer_rows c =
    let x = c.args in
    let l = listed x.text.now x.policy.now in
    let I = filter (inside x.from x.to) l in
    let O = filter (only_shares x.from x.to) l in
    outer_short I O x.inner.now x.outer.now c.requires.0 c.requires.1 (omega (arith, c.if-inner-inner_rows.false))
    (omega (arith, c.if-outer-outer_rows.true))

pub returns-then-outer_rows-eq0 : goal.returns-then-outer_rows-eq0
returns-then-outer_rows-eq0 c =
    let x = c.args in
    let l = listed x.text.now x.policy.now in
    let I = filter (inside x.from x.to) l in
    let O = filter (only_shares x.from x.to) l in
    both-filled I O x.inner.now x.outer.now c.requires.0 c.requires.1 (omega (arith, c.if-inner-inner_rows.false))
    (omega (arith, c.if-outer-outer_rows.false))
    (none_put x.inner.now (no_rows I c.requires.0 c.if-inner_rows-eq0.true))
    (none_put x.outer.now (no_rows O c.requires.1 c.if-outer_rows-eq0.true))

pub put_both-requires : goal.put_both-requires
put_both-requires c =
    let x = c.args in
    let l = listed x.text.now x.policy.now in
    let I = filter (inside x.from x.to) l in
    let O = filter (only_shares x.from x.to) l in (
      inner_room I O x.inner.now x.outer.now c.requires.0 c.requires.1
          (omega (arith, c.if-inner-inner_rows.false)),
      outer_room I O x.inner.now x.outer.now c.requires.0 c.requires.1 (omega (arith, c.if-outer-outer_rows.false)),
    )

pub returns : goal.returns
returns c =
    let x = c.args in
    let l = listed x.text.now x.policy.now in
    let I = filter (inside x.from x.to) l in
    let O = filter (only_shares x.from x.to) l in
    let w = c.put_both.ensures in
    both-filled I O x.inner.now x.outer.now c.requires.0 c.requires.1 (omega (arith, c.if-inner-inner_rows.false))
    (omega (arith, c.if-outer-outer_rows.false)) w.inside w.sharing
