use mathlib.Core.Path.{ap, ◌∙◌}
use native.Mathlib.Omega.{arith}
use Rattle.std.proofs.lemmas.List.{nil_from_length}
use Rattle.std.proofs.Common.{rules}
use Rattle.std.specs.Slice.Iter.{chunks_rest}
use Rattle.positions.specs.Positions.{leads, long_leads_of}
use Rattle.positions.proofs.Counting.{counted_is, counts_bounded, leads_append, long_leads_append}
use Rattle.positions.proofs.count.Goals as goal

pub overflow_add-leads : goal.overflow_add-leads
overflow_add-leads c =
    let e = ap leads c.in-Some.ensures.steps.1.0 ∙ leads_append c.in-Some.bytes.now (chunks_rest c.next.new.self) in
    omega (
      arith,
      e,
      counts_bounded c.args.part.now,
      c.loop-bytes.invariant.3,
      c.count_few-few.ensures.leads,
      c.from-leads.ensures,
      c.well_formed.0.0,
    )

pub overflow_add-long : goal.overflow_add-long
overflow_add-long c =
    let e = ap long_leads_of c.in-Some.ensures.steps.1.0 ∙ long_leads_append c.in-Some.bytes.now (chunks_rest c.next.new.self) in
    omega (
      arith,
      e,
      counts_bounded c.args.part.now,
      c.loop-bytes.invariant.4,
      c.count_few-few.ensures.long,
      c.from-long.ensures,
      c.well_formed.0.0,
    )

pub loop-bytes-preserved : goal.loop-bytes-preserved
loop-bytes-preserved c =
    let s = c.in-Some.ensures.steps in
    let few = c.count_few-few.ensures in
    let v = c.loop-bytes.invariant in
    let e = ap leads s.1.0 ∙ leads_append c.in-Some.bytes.now (chunks_rest c.next.new.self) in
    let d = ap long_leads_of s.1.0 ∙ long_leads_append c.in-Some.bytes.now (chunks_rest c.next.new.self) in (
      search rules,
      tt,
      s.0 ∙ v.2,
      omega (arith, e, few.leads, c.from-leads.ensures, v.3),
      omega (arith, d, few.long, c.from-long.ensures, v.4),
    )

pub overflow_add-result : goal.overflow_add-result
overflow_add-result c =
    let v = c.loop-bytes.invariant in
    omega (arith, counts_bounded c.args.part.now, v.3, v.4, c.well_formed.0.0)

pub returns : goal.returns
unfolding leads long_leads_of
returns c =
    let v = c.loop-bytes.invariant in
    let none = nil_from_length _ c.in-None.ensures.steps.1.0 in
    counted_is c.args.part.now _ _ (omega (arith, ap leads none, v.3)) (omega (arith, ap long_leads_of none, v.4))
