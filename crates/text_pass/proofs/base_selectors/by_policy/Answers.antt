-- `text_pass::base_selectors::by_policy` meets its contract: the result is the two bits of the word for the first selector's number.
use mathlib.Core.Path.{sym, subst}
use Prim.Native.Nat.{ℕ, ◌*◌, ◌/◌, ◌%◌, ◌^◌}
use Rattle.analysis.specs.Rules.{rule6, run_with}
use Rattle.text_pass.specs.Changes.{LeavesSelector}
use Rattle.text_pass.proofs.base_selectors.by_policy.Goals as goal

pub returns : goal.returns
returns c f e n =
    let w = c.kept_word in
    subst (λ (m : ℕ). LeavesSelector (rule6 c.args.rule (run_with f n)).slot (w.result / 2 ^ (2 * m) % 4)) (sym e)
    (w.ensures f n)
