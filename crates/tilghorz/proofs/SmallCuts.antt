-- The value of a cut is small: a cut is within the text.
use Rattle.base.specs.Answers.{found_row}
use Rattle.std.specs.Prelude.{Some, None, Option}
use mathlib.Core.Path.{◌≡◌, refl}
use mathlib.Core.List.{List}
use Prim.Native.Nat.{ℕ, ◌^◌, ◌≤◌, ◌<◌}
use native.Mathlib.Omega.{arith}
use lib.ListN.{length}
use Rattle.cutting.specs.Cut.{cut_before}
use Rattle.cutting.proofs.Cuts.{largest}

cut_value : (n : ℕ) (c : Option ℕ) → ((m : ℕ) → c ≡ Some m → m ≤ n) → (found_row c).value ≤ n
unfolding found_row
cut_value n (Some m) h = h m refl
cut_value n None h = omega arith

pub cut_small : (bytes : List ℕ) (offset : ℕ) → length bytes < 2 ^ 56 → (found_row (cut_before bytes offset)).value < 2 ^ 56
cut_small bytes offset l =
    let h = cut_value (length bytes) (cut_before bytes offset) (largest bytes offset).within_text in
    omega (arith, h)
