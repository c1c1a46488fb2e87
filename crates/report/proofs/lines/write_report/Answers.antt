-- `lines::write_report` meets its contract: each of the three cases of a report fits.
use Rattle.std.specs.Prelude.{Option}
use mathlib.Core.Path.{ap, sym, ◌∙◌}
use mathlib.Core.List.{List}
use Prim.Native.Nat.{ℕ}
use native.Mathlib.Omega.{arith}
use Rattle.base.specs.declared.Refusal.{Refusal}
use Rattle.base.proofs.Writer.{put_as}
use Rattle.policy.specs.declared.Policy.{Policy}
use Rattle.policy.specs.DefaultPolicy.{default_policy}
use Rattle.policy.specs.PolicyBytes.{policy_bytes}
use Rattle.formatter.specs.Intake.{intake_refusal}
use Rattle.formatter.proofs.Passing.{checked-passed, checked_refused}
use Rattle.message_io.proofs.Outputs.{passed, refused, too_long}
use Rattle.message_io.proofs.Texts.{front}
use Rattle.report.specs.Report.{message_limit, report_lines, reported}
use Rattle.report.proofs.Rooms.{report_fits}
use Rattle.report.proofs.lines.write_report.Goals as goal

-- The lines under the default policy, and the refusal of the tests, if there is one.
abbrev lines : List ℕ → List ℕ
lines m = report_lines default_policy m

abbrev intakes : List ℕ → Option Refusal
intakes m = intake_refusal m (policy_bytes default_policy)

pub returns-then-message-gt-MESSAGE_LIMIT : goal.returns-then-message-gt-MESSAGE_LIMIT
unfolding reported
returns-then-message-gt-MESSAGE_LIMIT c =
    let m = c.args.message.now in
    let w = c.put_refusal.ensures in
    let f = front (put_as (reported m) (too_long message_limit m (intakes m) (lines m) (omega arith)) w.0) (omega (arith, w.1)) in
    record { prefix_len = f.0; out_after = f.1.0; out_unchanged = f.1.1 }

pub returns-in-Err : goal.returns-in-Err
unfolding reported
returns-in-Err c =
    let m = c.args.message.now in
    let e = checked_refused (intakes m) c.in-Err.refusal (sym c.check_message.ensures ∙ c.in-Err.is) in
    let w = c.put_refusal-in-Err.ensures in
    let f = front (put_as (reported m) (refused message_limit m (intakes m) (lines m) (omega arith) e) w.0) (omega (arith, w.1)) in
    record { prefix_len = f.0; out_after = f.1.0; out_unchanged = f.1.1 }

pub put_report-requires : goal.put_report-requires
put_report-requires c = omega (arith, report_fits c.default.result c.args.message.now (omega arith))

pub returns : goal.returns
unfolding reported
returns c =
    let m = c.args.message.now in
    let e = checked-passed (intakes m) (sym c.check_message.ensures ∙ c.in_default.is) in
    let d = c.default in
    let w = c.put_report.ensures in
    let r = ap (λ (p : Policy). report_lines p m) d.ensures ∙ passed message_limit m (intakes m) (lines m) (omega arith) e in
    let f = front (put_as (reported m) r w) (omega (arith, w.ends, report_fits d.result m (omega arith))) in
    record { prefix_len = f.0; out_after = f.1.0; out_unchanged = f.1.1 }
