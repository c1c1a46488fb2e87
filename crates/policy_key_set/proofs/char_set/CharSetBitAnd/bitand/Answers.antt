-- `&` of two words acts on each of their bits as its test, so on each entry.
use mathlib.Core.Path.{ap, ◌∙◌}
use mathlib.Core.Bool.{◌&&◌}
use Rattle.base.specs.Bits.{one}
use Rattle.policy_key_set.proofs.Bits.{and_one}
use Rattle.policy_key_set.proofs.char_set.CharSetBitAnd.bitand.Goals as goal

pub returns : goal.returns
returns c = c.zip_words.ensures ◌&&◌ (λ x y w p q e k h. ap (one k) (search e) ∙ and_one k x y)
