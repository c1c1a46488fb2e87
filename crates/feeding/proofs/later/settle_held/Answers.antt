-- `feeding::later::settle_held` meets its contract.
use mathlib.Core.Path.{ap, ◌∙◌}
use native.Mathlib.Omega.{arith}
use Rattle.policy.specs.PolicyBytes.{policy_of}
use Rattle.analysis.specs.Counts.{capped_sum}
use Rattle.analysis.proofs.Sums.{whole_sum}
use Rattle.feed.specs.Bytes.{pending_of}
use Rattle.feed.specs.Feed.{settle}
use Rattle.feeding.proofs.Settling.{settle-few}
use Rattle.feeding.proofs.later.settle_held.Goals as goal

pub put_held-settled-requires : goal.put_held-settled-requires
put_held-settled-requires c = (c.requires.0, omega (arith, c.requires.2))

pub returns : goal.returns
returns c =
    let x = c.args in
    let p = policy_of x.policy.now in
    record {
      text = c.put_held-settled.ensures.text;
      held = c.new_held-held.ensures;
      counts = c.add-counts.ensures ∙ ap (capped_sum x.counts) c.put_held-settled.ensures.counts
          ∙ whole_sum x.counts (settle (pending_of p x.held) x.next).counts
          (omega (
            arith,
            c.requires.1,
            settle-few p x.held
                x.next,
          ));
    }
