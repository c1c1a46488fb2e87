use mathlib.Core.Path.{◌≡◌}
use Prim.Native.Nat.{ℕ, ◌+◌, ◌*◌, ◌<◌}
use native.Mathlib.Omega.{arith}
use lib.Dec.{ltb}
use lib.ListN.{length-set}
use Rattle.base.specs.Bits.{one}
use Rattle.policy_key_set.proofs.Members.{set_more}
use Rattle.sheet_reading.proofs.RangeSets.{first_hold}
use Rattle.sheet_reading.proofs.sets.first_entries.Goals as goal

pub loop-i-init : goal.loop-i-init
loop-i-init c = (omega arith, λ k h. absurd (omega arith))

pub loop-i-preserved : goal.loop-i-preserved
loop-i-preserved c =
    let l = c.loop-i in
    let n = c.args.n in (
      simp length-set (omega arith),
      set_more (λ (w x : ℕ). (k : ℕ) → k < 64 → one k x ≡ ltb (64 * w + k) n) l.bits l.i c.bits_below.result (omega arith)
          l.invariant.1 c.bits_below.ensures,
    )

pub returns : goal.returns
returns c =
    let l = c.loop-i in
    first_hold c.args.n l.bits c.requires l.invariant.0 (λ w h. l.invariant.1 w (omega arith))
