-- `policy_migration::put_default` meets its contract: the buffer is as long as the policy.
use mathlib.Core.Path.{◌≡◌, ap, ◌∙◌}
use lib.ListN.{length}
use Rattle.policy.proofs.DefaultBytes.{default_length, default_written}
use borrow.Author.Rules.{rules}
use Rattle.policy_migration.proofs.put_default.Goals as goal

pub returns : goal.returns
returns c =
    let l : length c.args.out.now ≡ 200 = search rules in
    let w = default_written l c.default.ensures c.write_policy.ensures in
    (ap length w ∙ default_length, w)
