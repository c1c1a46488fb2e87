-- `base::put_bytes` meets its contract. The loop's invariant: the bytes so far are written.
use lib.ListN.{drop}
use Rattle.base.proofs.Writer.{Writing}
use Rattle.base.proofs.put_bytes.Given as goal

abbrev pub invariant-loop-byte : goal.invariant-loop-byte
invariant-loop-byte l = Writing l.bytes l.fn.start l.fn.out (drop l.byte-index l.bytes) l.out l.at
