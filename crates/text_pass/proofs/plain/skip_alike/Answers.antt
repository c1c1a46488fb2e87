-- `text_pass::plain::skip_alike` meets its contract: formatting keeps what is skipped.
use Rattle.text_pass.proofs.Staying.{stays_here}
use Rattle.text_pass.proofs.plain.skip_alike.Goals as goal

pub returns : goal.returns
returns c p = stays_here _
