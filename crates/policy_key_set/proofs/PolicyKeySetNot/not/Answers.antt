-- `PolicyKeySet::not` meets its contract: the complement is the difference of the set of all keys and the set.
use Rattle.policy_key_set.specs.Sets.{entry_count}
use Rattle.policy_key_set.proofs.Members.{complement_held}
use Rattle.policy_key_set.proofs.PolicyKeySetNot.not.Goals as goal

pub returns : goal.returns
returns c =
    let a = c.all in
    let s = c.args.self in
    let r = c.sub in
    record {
      ordinary_keys = complement_held entry_count a.result.chars.bits s.chars.bits r.result.chars.bits
          a.ensures.ordinary_keys r.ensures.ordinary_keys;
      keycap_keys = complement_held entry_count a.result.keycap_chars.bits s.keycap_chars.bits r.result.keycap_chars.bits
          a.ensures.keycap_keys r.ensures.keycap_keys;
    }
