use Rattle.std.proofs.Common.{rules}
use Rattle.policy.proofs.DefaultBytes.{default_written}
use Rattle.message_io.proofs.put_default_policy.Goals as goal

pub returns-clause-out_after : goal.returns-clause-out_after
returns-clause-out_after c = default_written (search rules) c.default.ensures c.write_policy.ensures
