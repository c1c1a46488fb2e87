-- `feeding::ascii::is_ascii_base` meets its contract: of the ASCII characters, exactly these have a variation entry.
use native.Mathlib.Omega.{arith}
use Rattle.feeding.proofs.Copying.{ascii_entry, by_star, entry_digit, entry_hash}
use Rattle.feeding.proofs.ascii.is_ascii_base.Goals as goal

pub returns-then-ch-lt35 : goal.returns-then-ch-lt35
returns-then-ch-lt35 c =
    ascii_entry _ c.requires (λ e. omega (arith, c.if-ch-lt35.true)) (λ e. omega (arith, c.if-ch-lt35.true))
    (λ d e. omega (arith, c.if-ch-lt35.true))

pub returns-then-ch-gt57 : goal.returns-then-ch-gt57
returns-then-ch-gt57 c =
    ascii_entry _ c.requires (λ e. omega (arith, c.if-ch-gt57.true)) (λ e. omega (arith, c.if-ch-gt57.true))
    (λ d e. omega (arith, c.if-ch-gt57.true))

pub returns-then-ch-ge48 : goal.returns-then-ch-ge48
returns-then-ch-ge48 c = entry_digit _ c.if-ch-ge48.true c.if-ch-gt57.false

pub returns-then-ch-eq35 : goal.returns-then-ch-eq35
returns-then-ch-eq35 c = entry_hash _ c.if-ch-eq35.true

pub returns : goal.returns
returns c = by_star _ c.requires c.if-ch-eq35.false (λ d f. omega (arith, c.if-ch-ge48.false))
