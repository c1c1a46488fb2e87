-- `policy_migration::new_word` meets its contract.
use native.Mathlib.Omega.{arith}
use mathlib.Core.Path.{ap, sym, ◌∙◌}
use Prim.Native.Nat.{ℕ}
use lib.ListN.{get_or}
use Rattle.emoji.specs.UnicodeData.{unicode_version}
use Rattle.policy_migration.proofs.Putting.{Ws, result-word}
use Rattle.policy_migration.proofs.new_word.Goals as goal

pub returns-then-n-eq0 : goal.returns-then-n-eq0
unfolding unicode_version
returns-then-n-eq0 c =
    let x = c.args in
    ap (λ (n : ℕ). get_or (Ws x.entries.now x.policy.now) n 0) (sym c.if-n-eq0.true)

pub carried_word-requires : goal.carried_word-requires
carried_word-requires c =
    let l = c.requires.0 in
    (omega arith, omega arith, c.requires.1, c.requires.2)

pub returns : goal.returns
returns c =
    let x = c.args in
    c.carried_word.ensures ∙ result-word x.entries.now x.policy.now x.n c.if-n-eq0.false
    c.requires.0
