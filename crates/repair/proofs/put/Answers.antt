-- `repair::put` meets its contract.
use Rattle.base.proofs.Output.{bytes_put}
use Rattle.repair.proofs.put.Goals as goal

pub returns : goal.returns
returns c =
    let x = c.args in
    bytes_put x.out.now c.write_bytes.new.out x.at x.bytes.now c.requires c.write_bytes.ensures.1
