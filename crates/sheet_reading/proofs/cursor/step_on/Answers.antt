-- `sheet_reading::cursor::step_on` meets its contract, by the kind of the byte.
use mathlib.Core.Path.{ap, ◌∙◌}
use native.Mathlib.Omega.{arith}
use Rattle.policy_sheet.specs.Reader.{digit, kind_of}
use Rattle.sheet_reading.proofs.Tracked.{digit_byte, in_lines, letter_byte, other_byte, other_stop, past-lines}
use Rattle.sheet_reading.proofs.cursor.step_on.Goals as goal

pub returns-then-c-ge4 : goal.returns-then-c-ge4
returns-then-c-ge4 c at r n h = past-lines c.args.c at r h c.args.b (omega arith)

pub returns-in-48-to-57 : goal.returns-in-48-to-57
returns-in-48-to-57 c at r n h =
    let b = c.args.b in
    in_lines c.args.c at r h b (omega arith) (digit_byte b (omega arith) (omega arith)) (c.digit_step.ensures at r h)

pub returns-in-65-to-70 : goal.returns-in-65-to-70
returns-in-65-to-70 c at r n h =
    let b = c.args.b in
    in_lines c.args.c at r h b (omega arith) (letter_byte b (omega arith) (omega arith) ∙ ap digit (omega arith))
    (c.digit_step-in-65-to-70.ensures at r h)

pub returns-in-44 : goal.returns-in-44
unfolding kind_of
returns-in-44 c at r n h = in_lines c.args.c at r h c.args.b (omega arith) (ap kind_of c.in-44.is) (c.comma_step.ensures at r n h)

pub returns-in-45 : goal.returns-in-45
unfolding kind_of
returns-in-45 c at r n h = in_lines c.args.c at r h c.args.b (omega arith) (ap kind_of c.in-45.is) (c.dash_step.ensures at r n h)

pub returns-in-10 : goal.returns-in-10
unfolding kind_of
returns-in-10 c at r n h = in_lines c.args.c at r h c.args.b (omega arith) (ap kind_of c.in-10.is) (c.newline_step.ensures at r n h)

pub returns-in_default : goal.returns-in_default
returns-in_default c at r n h =
    let b = c.args.b in
    in_lines c.args.c at r h b (omega arith)
    (other_byte b (λ p q. omega arith) (λ p q. omega arith) (λ e. omega arith) (λ e. omega arith) (λ e. omega arith)) (other_stop at r)

pub returns-in_default-2 : goal.returns-in_default-2
returns-in_default-2 c at r n h =
    let b = c.args.b in
    in_lines c.args.c at r h b (omega arith)
    (other_byte b (λ p q. omega arith) (λ p q. omega arith) (λ e. omega arith) (λ e. omega arith) (λ e. omega arith)) (other_stop at r)

pub returns-in_default-3 : goal.returns-in_default-3
returns-in_default-3 c at r n h =
    let b = c.args.b in
    in_lines c.args.c at r h b (omega arith)
    (other_byte b (λ p q. omega arith) (λ p q. omega arith) (λ e. omega arith) (λ e. omega arith) (λ e. omega arith)) (other_stop at r)
