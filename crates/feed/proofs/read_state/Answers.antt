-- `feed::read_state` meets its contract: it reads fifteen words.
use mathlib.Core.Path.{ap}
use mathlib.Core.Bool.{not}
use Prim.Native.Nat.{ℕ}
use native.Mathlib.Omega.{arith}
use lib.Dec.{eqb}
use Rattle.feed.proofs.Reading.{state-made}
use Rattle.feed.proofs.read_state.Goals as goal

pub returns-then-feed-lt-STATE_BYTES : goal.returns-then-feed-lt-STATE_BYTES
returns-then-feed-lt-STATE_BYTES c = record {
  words = λ l. absurd (omega (arith, l, c.if-feed-lt-STATE_BYTES.true));
  short = λ l. c.no_state.ensures;
}

pub returns : goal.returns
returns c =
    let x = c.args in record {
      words = λ l. state-made x.feed.now (ap (λ (w : ℕ). not (eqb w 0)) c.word-ended.ensures) c.read_held-held.ensures
          c.word-rest_len.ensures c.word-rest.ensures c.word-len.ensures c.read_counts-counts.ensures;
      short = λ l. absurd (omega (arith, l, c.if-feed-lt-STATE_BYTES.false));
    }
