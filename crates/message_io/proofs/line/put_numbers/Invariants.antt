use Rattle.std.proofs.Common.{length, ◌-◌, map, ◌+◌, ◌*◌, ◌≤◌, take}
use Rattle.base.specs.Output.{PutAt}
use Rattle.message_io.specs.Lines.{with_blanks, decimal}
use Rattle.message_io.proofs.line.put_numbers.Given as goal

-- The numbers before number `i` are written.
abbrev pub invariant-loop-i : goal.invariant-loop-i
invariant-loop-i l = record {
  within : l.i ≤ length l.numbers;
  short : l.at ≤ l.start + 21 * l.i;
  written : PutAt l.initial.out l.start (with_blanks (map decimal (take l.i l.numbers))) l.out l.at;
}

abbrev pub decreases-loop-i : goal.decreases-loop-i
decreases-loop-i l = length l.numbers - l.i
