-- `char_set::count_ones` meets its contract: the number of ones is the number of members.
use Rattle.std.proofs.Common.{rules, ◌≡◌}
use Rattle.std.specs.Prelude.{count_ones, sum_by}
use mathlib.Core.Path.{◌∙◌}
use Rattle.policy_key_set.proofs.Sizes.{ones-members}
use Rattle.policy_key_set.proofs.char_set.count_ones.Goals as goal

pub returns : goal.returns
returns c m h =
    let ws = c.args.words.now in
    let e : c.sum.result ≡ sum_by count_ones ws = search rules in
    e ∙ ones-members ws m h (λ k. (c.type_inv.words k).fits)
