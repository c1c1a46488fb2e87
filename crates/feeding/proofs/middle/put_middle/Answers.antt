-- `feeding::middle::put_middle` meets its contract.
use mathlib.Core.Path.{ap, sym, ◌∙◌}
use native.Mathlib.Omega.{arith}
use lib.ListN.{length}
use Rattle.base.proofs.Output.{bytes_put}
use Rattle.base.proofs.Writer.{put_as}
use Rattle.utf8.specs.Rfc3629.{chars, encode_all}
use Rattle.utf8.proofs.Texts.{encode_all-chars}
use Rattle.policy.specs.PolicyBytes.{policy_of}
use Rattle.analysis.specs.CellView.{format_cells}
use Rattle.feeding.proofs.Cuts.{uncounted_empty, uncounted_same}
use Rattle.feeding.proofs.middle.put_middle.Goals as goal

pub returns-then-plain : goal.returns-then-plain
returns-then-plain c =
    let x = c.args in
    let q = c.requires in
    let p = policy_of x.policy.now in
    let t = x.text.now in
    let z = q.2 c.if-plain.true in
    let same = sym (encode_all-chars t q.1) ∙ ap encode_all (sym (uncounted_same p (chars t) z)) in record {
      text = put_as (encode_all (format_cells p (chars t))) same
          (bytes_put x.out.now c.write_bytes.new.out x.at t (omega (arith, ap length same, q.3))
          c.write_bytes.ensures.1);
      counts = c.empty-counts.ensures ∙ sym (uncounted_empty p (chars t) z);
    }

pub returns : goal.returns
returns c =
    record {
      text = c.write_formatted-end.ensures.put
          c.requires.0
          c.requires.3;
      counts = c.text_totals-counts.ensures;
    }
