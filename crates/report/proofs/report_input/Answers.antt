-- For a message that is too long the full buffer is over the limit, and the output is the same line of a refusal.
use Rattle.std.proofs.Common.{arith}
use Rattle.message_io.proofs.Outputs.{long-given, on_ok}
use Rattle.report.specs.Report.{message_limit, reported}
use Rattle.report.proofs.Longer.{long-output}
use Rattle.report.proofs.report_input.Goals as goal

pub returns-in-TooLong : goal.returns-in-TooLong
returns-in-TooLong g c =
    let m = c.read_message-ending in
    let b = rw c.in-TooLong.is at m.ensures.given in
    on_ok _ (long-given message_limit reported long-output _ _ _ _ m.new.buf (omega (arith, c.requires)) b) c.say_report-in-TooLong.ensures
