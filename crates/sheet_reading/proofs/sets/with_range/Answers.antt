-- `sheet_reading::sets::with_range` meets its contract: the entries up to the range's end without those below its start.
use Rattle.sheet_reading.proofs.RangeSets.{range_added}
use Rattle.sheet_reading.proofs.sets.with_range.Goals as goal

pub returns : goal.returns
returns c p h =
    let a = c.first_entries-up_to in
    let t = c.entries_below-2 in
    let b = c.first_entries-below in
    let f = c.entries_below in
    let x = c.args in
    range_added x.lo x.hi f.result t.result x.set.bits b.result.bits a.result.bits c.sub.result.bits
    c.bitor.result.bits f.ensures.below t.ensures.below b.ensures a.ensures c.sub.ensures c.bitor.ensures p h
