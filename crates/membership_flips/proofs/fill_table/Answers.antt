-- `membership_flips::fill_table` meets its contract.
use mathlib.Core.List.{List}
use Prim.Native.Nat.{ℕ}
use native.Mathlib.Omega.{arith}
use Rattle.base.specs.Lists.{filter}
use Rattle.base.proofs.TableBytes.{no_rows, rows-refused, rows-room, rows_written}
use Rattle.membership_flips.specs.Flips.{Membership, tip_numbers}
use Rattle.membership_flips.specs.Pass.{numbered, tip_test}
use Rattle.membership_flips.proofs.Listing.{length_tip}
use Rattle.membership_flips.proofs.fill_table.Goals as goal

-- The rows, by the policy and the flags.
abbrev rows : List ℕ → List ℕ → List Membership
rows policy flags = filter (tip_test policy flags) (numbered 1416 0)

pub returns-then-findings-eq0 : goal.returns-then-findings-eq0
returns-then-findings-eq0 c =
    let x = c.args in
    no_rows tip_numbers 24 length_tip (omega arith) (rows x.policy.now x.flags.now) x.table.now c.count_tips-findings.ensures
    c.if-findings-eq0.true

pub returns-then-table-findings : goal.returns-then-table-findings
returns-then-table-findings c =
    let x = c.args in
    rows-refused tip_numbers 24 length_tip (omega arith) (rows x.policy.now x.flags.now) x.table.now
    c.count_tips-findings.ensures (omega (arith, c.if-table-findings.true))

pub put_tips-requires : goal.put_tips-requires
put_tips-requires c =
    let x = c.args in (
      c.requires,
      rows-room tip_numbers 24 length_tip (omega arith) (rows x.policy.now x.flags.now) x.table.now
          c.count_tips-findings.ensures (omega (arith, c.if-table-findings.false)),
    )

pub returns : goal.returns
returns c =
    let x = c.args in
    rows_written tip_numbers 24 length_tip (omega arith) (rows x.policy.now x.flags.now) x.table.now
    c.count_tips-findings.ensures (omega (arith, c.if-table-findings.false)) c.put_tips.ensures
