-- The loop writes the bytes of the words that are left.
use Prim.Native.Nat.{◌*◌}
use lib.ListN.{drop}
use Rattle.base.specs.Words.{bytes_of}
use Rattle.base.proofs.Writer.{Writing}
use Rattle.policy.specs.PolicyBytes.{numbers_of}
use Rattle.store.specs.Bytes.{new_words}
use Rattle.storing.proofs.put_new.Given as goal

abbrev pub invariant-loop-k : goal.invariant-loop-k
invariant-loop-k l = let ws = new_words l.capacity (numbers_of l.reserves) in
    Writing (bytes_of ws) 0 l.initial.store (bytes_of (drop l.k ws)) l.store (8 * l.k)
