-- The report of a message over the limit.
use Rattle.std.proofs.Common.{◌≡◌, ◌<◌, List, ℕ, length}
use Rattle.base.specs.declared.Refusal.TheVariants.{TextTooLong}
use Rattle.policy.specs.DefaultPolicy.{default_policy}
use Rattle.policy.specs.PolicyBytes.{policy_bytes}
use Rattle.formatter.specs.Intake.{intake_refusal}
use Rattle.message_io.specs.Lines.{refusal_line}
use Rattle.message_io.proofs.Outputs.{too_long}
use Rattle.report.specs.Report.{message_limit, report_lines, reported}

pub long-output : (message : List ℕ) → message_limit < length message → refusal_line TextTooLong ≡ reported message
unfolding reported
long-output message h =
    too_long message_limit message (intake_refusal message (policy_bytes default_policy)) (report_lines default_policy message) h
