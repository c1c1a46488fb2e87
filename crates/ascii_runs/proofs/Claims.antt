-- The proof of the statement of specs/Theorems, under the statement's name.
use Rattle.ascii_runs.specs.Theorems.{AsciiEndIsLongest}
use Rattle.ascii_runs.proofs.AsciiRuns.{at_longest, longest_at}

pub ascii_end_is_longest : AsciiEndIsLongest
unfolding AsciiEndIsLongest
ascii_end_is_longest s from end = (longest_at, λ h. at_longest h.0 h.1)
