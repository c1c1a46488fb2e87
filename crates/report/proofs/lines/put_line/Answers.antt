use Rattle.base.proofs.Output.{bytes_put}
use Rattle.report.proofs.lines.put_line.Goals as goal

pub returns : goal.returns
returns c = bytes_put c.args.out.now _ c.args.start c.args.line.now c.requires c.write_bytes.ensures.1
