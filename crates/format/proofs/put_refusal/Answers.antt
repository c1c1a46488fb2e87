-- The line that `refusal_line` gives fits.
use Rattle.std.proofs.Common.{arith}
use Rattle.format.proofs.Filing.{line-front}
use Rattle.format.proofs.put_refusal.Goals as goal

pub returns : goal.returns
returns c =
    let l = c.refusal_line-len.ensures in
    line-front c.args.out.now _ _ l.prefix_len.1 (omega (arith, l.upper_bound, c.requires)) l.out_after c.write_bytes.ensures.1
