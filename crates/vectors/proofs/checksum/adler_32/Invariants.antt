-- `adler_32` is safe: both sums stay below the modulus.
use Rattle.std.proofs.Common.{◌<◌}
use Rattle.vectors.proofs.checksum.adler_32.Given as goal

abbrev pub invariant-loop-byte : goal.invariant-loop-byte
invariant-loop-byte l = (l.low < 65521) × (l.high < 65521)
