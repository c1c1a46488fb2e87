-- A test as a number.
use Rattle.std.proofs.Common.{◌≡◌, ◌≤◌, Bool, true, false, refl, arith}
use Rattle.std.specs.Int.{from_bool}
use Rattle.membership_flips.specs.Flips.{digit}

pub digit_is : (b : Bool) → from_bool b ≡ digit b
digit_is false = refl
digit_is true = refl

pub from_bool_small : (b : Bool) → from_bool b ≤ 1
from_bool_small false = omega arith
from_bool_small true = omega arith
