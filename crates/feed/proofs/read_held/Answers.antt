-- `feed::read_held` meets its contract: it reads three words.
use mathlib.Core.Path.{ap, ◌∙◌}
use Prim.Native.Nat.{ℕ, ◌%◌}
use Rattle.feed.specs.Bytes.{selector_of}
use Rattle.feed.proofs.Reading.{held-made}
use Rattle.feed.proofs.read_held.Goals as goal

pub returns : goal.returns
returns c =
    let x = c.args in
    held-made x.feed.now
    (c.low-base.ensures ∙ ap (λ (w : ℕ). w % 4294967296) c.word.ensures)
    (c.selector_of-first.ensures ∙ ap selector_of c.word-2.ensures) c.word-count.ensures
