-- `feeding::ascii::is_copied_piece` meets its contract.
use mathlib.Core.Path.{sym}
use mathlib.Core.Bool.{true≢false}
use native.Mathlib.Omega.{arith}
use Rattle.feeding.proofs.ascii.is_copied_piece.Goals as goal

pub returns-then-piece-eq0 : goal.returns-then-piece-eq0
returns-then-piece-eq0 c = λ e. absurd (true≢false (sym e))

pub returns-then-len-piece : goal.returns-then-len-piece
returns-then-len-piece c = λ e. absurd (true≢false (sym e))

pub returns-then-room-piece : goal.returns-then-room-piece
returns-then-room-piece c = λ e. absurd (true≢false (sym e))

pub returns : goal.returns
returns c =
    λ e. record {
      some = omega (arith, c.if-piece-eq0.false);
      short = omega (arith, c.if-len-piece.false);
      fits = omega (arith, c.if-room-piece.false);
      ascii = c.is_ascii.ensures e;
    }
