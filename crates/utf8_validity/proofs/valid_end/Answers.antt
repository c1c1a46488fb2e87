-- `utf8_validity::valid_end` meets its contract.
use mathlib.Core.Path.{ap, ◌∙◌}
use Prim.Native.Nat.{ℕ, ◌+◌, ◌-◌}
use native.Mathlib.Omega.{arith}
use lib.ListN.{drop, length, length-drop}
use lib.Seq.{take_all}
use Rattle.utf8.specs.Rfc3629.{valid_up_to_of}
use Rattle.utf8.proofs.Texts.{valid_up_to_le}
use Rattle.utf8_validity.proofs.valid_end.Goals as goal

pub returns-then-s-at : goal.returns-then-s-at
returns-then-s-at c =
    let x = c.args in
    omega (arith, valid_up_to_le (drop x.at x.s.now), length-drop x.at x.s.now)

pub overflow_add-result : goal.overflow_add-result
overflow_add-result c =
    let x = c.args in
    let s = drop x.at x.s.now in
    let a = take_all (length x.s.now - x.at) s (omega (arith, length-drop x.at x.s.now)) in
    omega (arith, c.valid_up_to.ensures, ap valid_up_to_of a, valid_up_to_le s, length-drop x.at x.s.now)

pub returns : goal.returns
returns c =
    let x = c.args in
    let s = drop x.at x.s.now in
    let a = take_all (length x.s.now - x.at) s (omega (arith, length-drop x.at x.s.now)) in
    ap (λ (n : ℕ). x.at + n) (c.valid_up_to.ensures ∙ ap valid_up_to_of a)
