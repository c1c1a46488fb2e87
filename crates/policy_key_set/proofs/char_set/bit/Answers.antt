-- `char_set::bit` meets its contract: the word is a power of two.
use mathlib.Core.Path.{◌≡◌, ap, ◌∙◌}
use Prim.Native.Nat.{◌*◌, ◌%◌, ◌^◌}
use native.Mathlib.Nat.{one-mul}
use native.Mathlib.Omega.{arith}
use lib.Pow.{shl_exact}
use Rattle.base.specs.Bits.{one}
use Rattle.policy_key_set.proofs.Bits.{power-one}
use Rattle.policy_key_set.proofs.char_set.bit.Goals as goal

pub returns : goal.returns
returns c j =
    let h = c.requires in
    let p : 1 * 2 ^ c.args.k % 2 ^ 64 ≡ 2 ^ c.args.k = shl_exact 1 c.args.k 64 (omega arith) (omega arith)
    ∙ one-mul (2 ^ c.args.k) in
    ap (one j) p ∙ power-one j c.args.k
