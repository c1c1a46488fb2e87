use native.Mathlib.Omega.{arith}
use Rattle.positions.proofs.Counting.{counts_bounded, leads_end, leads-step, long_leads_end, long_leads-step}
use Rattle.positions.proofs.count_few.Goals as goal

pub overflow_add-leads : goal.overflow_add-leads
overflow_add-leads c =
    let part = c.args.part.now in
    let l = c.loop-b in
    omega (arith, c.requires, l.invariant, counts_bounded part, leads-step part l.b-index c.loop-b-test.true, c.is_lead-leads.ensures)

pub overflow_add-long : goal.overflow_add-long
overflow_add-long c =
    let part = c.args.part.now in
    let l = c.loop-b in
    omega (
      arith,
      c.requires,
      l.invariant,
      counts_bounded part,
      long_leads-step part l.b-index c.loop-b-test.true,
      c.is_long_lead-long.ensures,
    )

pub loop-b-preserved : goal.loop-b-preserved
loop-b-preserved c =
    let part = c.args.part.now in
    let l = c.loop-b in (
      omega (arith, l.invariant, leads-step part l.b-index c.loop-b-test.true, c.is_lead-leads.ensures),
      omega (arith, l.invariant, long_leads-step part l.b-index c.loop-b-test.true, c.is_long_lead-long.ensures),
    )

pub returns : goal.returns
returns c =
    let part = c.args.part.now in
    let l = c.loop-b in
    record {
      leads = omega (arith, l.invariant, leads_end part l.b-index (omega (arith, c.loop-b-test.false)));
      long = omega (arith, l.invariant, long_leads_end part l.b-index (omega (arith, c.loop-b-test.false)));
    }
