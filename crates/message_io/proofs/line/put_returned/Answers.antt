use Rattle.std.proofs.Common.{ap, sym, ◌∙◌}
use Rattle.base.specs.Refusals.{as_list, returned}
use Rattle.message_io.proofs.Texts.{nothing_put, value_put}
use Rattle.message_io.proofs.line.put_returned.Goals as goal

pub returns-in-Some : goal.returns-in-Some
returns-in-Some c = value_put (returned c.args.refusal) (ap as_list (sym c.value.ensures ∙ c.in-Some.is)) c.put_number.ensures

pub returns-in-None : goal.returns-in-None
returns-in-None c = nothing_put (returned c.args.refusal) (ap as_list (sym c.value.ensures ∙ c.in-None.is))
