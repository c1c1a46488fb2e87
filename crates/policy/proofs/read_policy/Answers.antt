-- `policy::read_policy` meets its contract: the four sets that were read are the sets of the policy.
use mathlib.Core.Path.{◌≡◌}
use mathlib.Core.Bool.{Bool}
use Rattle.emoji.specs.UnicodeData.{variation_entries}
use Rattle.policy_key_set.specs.Sets.{entry_count, word_count}
use Rattle.policy.specs.PolicyBytes.{read_policy}
use Rattle.policy.specs.declared.Policy.{Policy}
use Rattle.policy.specs.declared.ReadPolicy.{ReadPolicy}
use Rattle.policy.proofs.Bytes.{policy-made}
use Rattle.policy.proofs.read_policy.Goals as goal

pub returns : goal.returns
unfolding read_policy word_count entry_count variation_entries
returns c =
    let bs = c.args.bytes.now in
    let a = c.read_set in
    let b = c.read_set-2 in
    let d = c.read_set-3 in
    let e = c.read_set-4 in
    let p = policy-made a.result b.result d.result e.result bs a.ensures b.ensures d.ensures e.ensures in
    made c.is_policy-accepted.ensures p
  where
    made : {t u : Bool} {x y : Policy} → t ≡ u → x ≡ y → ◌≡◌ {A = ReadPolicy} (record { accepted = t; policy = x })
        (record { accepted = u; policy = y })
    made e f = cc
