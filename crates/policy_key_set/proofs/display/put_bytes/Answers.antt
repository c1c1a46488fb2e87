-- `display::put_bytes` meets its contract, by the contract of `write_bytes` where the bytes fit.
use Rattle.base.proofs.Output.{bytes_put}
use Rattle.policy_key_set.proofs.display.put_bytes.Goals as goal

pub returns : goal.returns
returns c =
    let x = c.args in
    bytes_put x.out.now _ x.start x.bytes.now c.requires
    c.write_bytes.ensures.1
