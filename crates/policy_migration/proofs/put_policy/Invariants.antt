-- `policy_migration::put_policy` meets its contract: the loop writes the bytes of the words that are left.
use lib.ListN.{drop}
use Rattle.base.specs.Words.{bytes_of}
use Rattle.base.proofs.Writer.{Writing}
use Rattle.policy_migration.proofs.Putting.{Ws}
use Rattle.policy_migration.proofs.put_policy.Given as goal

abbrev pub invariant-loop-n : goal.invariant-loop-n
invariant-loop-n l = Writing (bytes_of (Ws l.entries l.policy)) 0 l.initial.out (bytes_of (drop l.n (Ws l.entries l.policy)))
    l.out l.at
