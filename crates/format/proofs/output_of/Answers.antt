-- A message over the limit, and the three answers of formatting.
use Rattle.std.proofs.Common.{ap, ◌∙◌, Ok}
use Rattle.format.proofs.Filing.{changed-filed, long_filed, refused-filed, unchanged-filed}
use Rattle.format.proofs.output_of.Goals as goal

pub returns-then-message-gt-MESSAGE_LIMIT : goal.returns-then-message-gt-MESSAGE_LIMIT
returns-then-message-gt-MESSAGE_LIMIT c =
    long_filed c.args.message.now _ _ c.if-message-gt-MESSAGE_LIMIT.true c.put_refusal-len.ensures

pub returns-in-Ok-None : goal.returns-in-Ok-None
returns-in-Ok-None c =
    unchanged-filed c.args.message.now c.format_message.ensures c.if-message-gt-MESSAGE_LIMIT.false
    (c.in-Ok-None.is ∙ ap Ok c.in-Ok-None.field-0-is)

pub returns-in-Ok-Some : goal.returns-in-Ok-Some
returns-in-Ok-Some c =
    changed-filed c.args.message.now c.format_message.ensures c.if-message-gt-MESSAGE_LIMIT.false
    (c.in-Ok-Some.is ∙ ap Ok c.in-Ok-Some.field-0-is)

pub returns-in-Err : goal.returns-in-Err
returns-in-Err c =
    refused-filed c.args.message.now c.format_message.ensures c.if-message-gt-MESSAGE_LIMIT.false _ _ c.in-Err.is
    c.put_refusal-len-in-Err.ensures
