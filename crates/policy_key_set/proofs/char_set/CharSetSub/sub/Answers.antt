-- `-` of two words acts on each of their bits as its test, so on each entry.
use mathlib.Core.Path.{ap, ◌∙◌}
use mathlib.Core.Bool.{Bool, ◌&&◌}
use Prim.Native.Nat.{◌-◌, ◌^◌}
use Rattle.base.specs.Bits.{one}
use Rattle.policy_key_set.specs.Sets.{but_not}
use Rattle.policy_key_set.proofs.Bits.{and_one, not_one}
use Rattle.policy_key_set.proofs.char_set.CharSetSub.sub.Goals as goal

pub returns : goal.returns
returns c =
    c.zip_words.ensures but_not (λ x y w p q e k h. ap (one k) (search e) ∙ and_one k x (2 ^ 64 - 1 - y)
    ∙ ap (λ (b : Bool). one k x && b) (not_one 64 k y h q))
