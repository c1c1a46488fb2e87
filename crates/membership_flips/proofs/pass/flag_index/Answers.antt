-- `membership_flips::pass::flag_index` meets its contract.
use native.Mathlib.Omega.{arith}
use Rattle.membership_flips.specs.Pass.{flag_index}
use Rattle.membership_flips.proofs.Digits.{digit_is, from_bool_small}
use Rattle.membership_flips.proofs.pass.flag_index.Goals as goal

pub returns : goal.returns
unfolding flag_index
returns c = (
  omega (arith, c.from.ensures, digit_is c.args.is_keycap, c.number_of.ensures.0),
  omega (arith, c.from.ensures, from_bool_small c.args.is_keycap, c.requires, c.number_of.ensures.1),
)
