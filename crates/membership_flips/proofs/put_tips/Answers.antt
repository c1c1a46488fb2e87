use mathlib.Core.Path.{ap}
use mathlib.Core.Bool.{Bool, cond}
use mathlib.Core.List.{List, []}
use Prim.Native.Nat.{◌+◌}
use native.Mathlib.Omega.{arith}
use lib.ListN.{length}
use Rattle.base.proofs.Writer.{begin, finish, put, room}
use Rattle.base.specs.Words.{bytes_of}
use Rattle.base.specs.Tables.{rows_bytes}
use Rattle.membership_flips.specs.Flips.{Membership, tip_numbers}
use Rattle.membership_flips.specs.Pass.{membership_at, tip_test}
use Rattle.membership_flips.proofs.Listing.{tipping_from, length_tip, none_from, write-on}
use Rattle.membership_flips.proofs.put_tips.Goals as goal

pub loop-n-init : goal.loop-n-init
loop-n-init c =
    let x = c.args in
    begin (rows_bytes tip_numbers (tipping_from (tip_test x.policy.now x.flags.now) 0)) 0 x.table.now (omega (arith, c.requires.1))

pub is_tip-wanted-requires : goal.is_tip-wanted-requires
is_tip-wanted-requires c = (omega arith, c.requires.0)

pub put_tip-at-requires : goal.put_tip-at-requires
put_tip-at-requires c =
    let x = c.args in
    let l = c.loop-n in
    let q = tip_test x.policy.now x.flags.now in (
      omega (arith, c.loop-n-test.true),
      λ w.
          let s = write-on q l.n (omega (arith, c.loop-n-test.true)) c.is_tip-wanted.ensures in
          let r = room (rows_bytes tip_numbers (tipping_from q 0)) 0 x.table.now (rows_bytes tip_numbers (tipping_from q l.n))
          (cond c.is_tip-wanted.result (bytes_of (tip_numbers (membership_at l.n))) [])
          (rows_bytes tip_numbers (tipping_from q (l.n + 1))) l.invariant s in
          omega (
            arith,
            r,
            length_tip (membership_at l.n),
            ap (λ (b : Bool). length (cond b (bytes_of (tip_numbers (membership_at l.n))) [])) w,
          ),
    )

pub loop-n-preserved : goal.loop-n-preserved
loop-n-preserved c =
    let x = c.args in
    let l = c.loop-n in
    let q = tip_test x.policy.now x.flags.now in
    put (rows_bytes tip_numbers (tipping_from q 0)) 0 x.table.now (rows_bytes tip_numbers (tipping_from q l.n))
    (rows_bytes tip_numbers (tipping_from q (l.n + 1))) l.invariant c.put_tip-at.ensures
    (write-on q l.n (omega (arith, c.loop-n-test.true)) c.is_tip-wanted.ensures)

pub shape_of-table : goal.shape_of-table
shape_of-table c = c.loop-n.invariant.same

pub returns : goal.returns
unfolding rows_bytes
returns c =
    let x = c.args in
    let l = c.loop-n in
    let q = tip_test x.policy.now x.flags.now in
    finish (rows_bytes tip_numbers (tipping_from q 0)) 0 x.table.now (rows_bytes tip_numbers (tipping_from q l.n)) l.invariant
    (ap (λ (m : List Membership). rows_bytes tip_numbers m) (none_from q l.n (omega (arith, c.loop-n-test.false))))
