-- `membership_flips::put_tip` meets its contract.
use native.Mathlib.Omega.{arith}
use Rattle.base.proofs.Writer.{put_no}
use Rattle.base.specs.Words.{bytes_of}
use Rattle.base.proofs.TableBytes.{row_put}
use Rattle.membership_flips.specs.Flips.{tip_numbers}
use Rattle.membership_flips.specs.Pass.{membership_at}
use Rattle.membership_flips.proofs.Listing.{length_tip, numbers_are, put_yes}
use Rattle.membership_flips.proofs.put_tip.Goals as goal

pub returns-then-not-wanted : goal.returns-then-not-wanted
returns-then-not-wanted c =
    let x = c.args in
    put_no x.table.now x.start (bytes_of (tip_numbers (membership_at x.n))) c.if-not-wanted.true

pub overflow_add-result : goal.overflow_add-result
overflow_add-result c = omega (arith, c.requires.1 c.if-not-wanted.false, c.well_formed.0.0)

pub returns : goal.returns
returns c =
    let x = c.args in
    let yes = c.if-not-wanted.false in
    let w = c.write_numbers in
    put_yes yes
    (row_put x.table.now w.new.out x.start (numbers_are x.n c.code_point.ensures)
    (length_tip (membership_at x.n)) (c.requires.1 yes) w.ensures.1)
