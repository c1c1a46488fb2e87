-- `policy::cleared` meets its contract: the intersection with the set of all entries clears the unused bits.
use mathlib.Core.Path.{◌≡◌, refl, ap, ◌∙◌}
use mathlib.Core.Bool.{Bool, true, false, ◌&&◌}
use lib.Dec.{ltb}
use Rattle.policy_key_set.specs.Sets.{entry_count}
use Rattle.policy_key_set.specs.KeySets.{keycap, ordinary}
use Rattle.policy.proofs.cleared.Goals as goal

once : (e m : Bool) → (e && (m && (e && true))) ≡ (e && m)
once true true = refl
once true false = refl
once false m = refl

pub returns : goal.returns
returns c =
    let s = c.args.set in
    let all = c.all.ensures in
    let r = c.bitand.ensures in
    record {
      ordinary_keys = λ i. r.ordinary_keys i ∙ ap (λ (b : Bool). ltb i entry_count && (ordinary s i && b)) (all.ordinary_keys i)
          ∙ once (ltb i entry_count) (ordinary s i);
      keycap_keys = λ i. r.keycap_keys i ∙ ap (λ (b : Bool). ltb i entry_count && (keycap s i && b)) (all.keycap_keys i)
          ∙ once (ltb i entry_count) (keycap s i);
    }
