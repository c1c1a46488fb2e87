-- `feeding::later::adopt_policy` meets its contract.
use mathlib.Core.Path.{ap, sym}
use mathlib.Core.Bool.{Bool, cond}
use Prim.Native.Nat.{ℕ}
use lib.ListN.{drop, length-replicate, replicate}
use lib.Seq.{sets}
use Rattle.base.specs.Words.{word_bytes}
use Rattle.policy_change.proofs.Testing.{policy-lent}
use Rattle.feeding.proofs.LaterPieces.{adopted}
use Rattle.feeding.proofs.later.adopt_policy.Goals as goal

pub returns-then-not-settled : goal.returns-then-not-settled
returns-then-not-settled c =
    let f = c.args.feed.now in
    sym (ap (λ (t : Bool). cond t (sets (sets f 120 (drop 328 f)) 320 (word_bytes 0)) f) c.if-not-settled.true)

pub returns : goal.returns
returns c =
    let f = c.args.feed.now in
    adopted f (replicate 200 0) c.requires (length-replicate {A = ℕ} 200 0)
    (policy-lent f) c.write_bytes.ensures.1 c.write_bytes-2.ensures.1
    c.write_word.ensures.1
    c.if-not-settled.false
