-- `policy::set_len` meets its contract: a value of the type has six words of eight bytes.
use mathlib.Core.Path.{◌≡◌}
use native.Mathlib.Omega.{arith}
use lib.ListN.{length}
use Rattle.base.proofs.Numbers.{length_bytes_of_lem}
use Rattle.policy.proofs.set_len.Goals as goal

pub returns : goal.returns
returns c =
    let ws = c.args.set.bits in
    let six : length ws ≡ 6 = c.well_formed.0.1.1.0.1.0.1 in
    omega (arith, length_bytes_of_lem ws)
