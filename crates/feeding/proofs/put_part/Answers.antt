-- `feeding::put_part` meets its contract.
use Rattle.base.proofs.Output.{part_put}
use Rattle.feeding.proofs.put_part.Goals as goal

pub returns : goal.returns
returns c =
    let x = c.args in
    let q = c.requires in
    part_put x.out.now c.write_bytes.new.out x.at x.piece.now x.from x.to q.0 q.1 q.2
    c.write_bytes.ensures.1
