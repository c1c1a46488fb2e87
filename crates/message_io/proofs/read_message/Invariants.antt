use Rattle.std.proofs.Common.{◌≡◌, ◌-◌, ◌≤◌, drop, length, take}
use Rattle.std.specs.Io.KnownBytes.{Consumes}
use Rattle.message_io.proofs.read_message.Given as goal

-- The buffer has its first length, its bytes from `len` on are unchanged, and those before are what the reader gave.
abbrev pub invariant-loop-len : goal.invariant-loop-len
invariant-loop-len g l = record {
  within : l.len ≤ length l.buf;
  same : length l.buf ≡ length l.initial.buf;
  unchanged : drop l.len l.buf ≡ drop l.len l.initial.buf;
  given : Consumes (g.R.Read.remaining l.initial.reader) (g.R.Read.remaining l.reader) (take l.len l.buf);
}

abbrev pub decreases-loop-len : goal.decreases-loop-len
decreases-loop-len g l = length l.buf - l.len
