-- `^` of two words acts on each of their bits as its test, so on each entry.
use mathlib.Core.Path.{ap, ◌∙◌}
use Rattle.base.specs.Bits.{one}
use Rattle.policy_key_set.specs.Sets.{differ}
use Rattle.policy_key_set.proofs.Bits.{xor_one}
use Rattle.policy_key_set.proofs.char_set.CharSetBitXor.bitxor.Goals as goal

pub returns : goal.returns
returns c = c.zip_words.ensures differ (λ x y w p q e k h. ap (one k) (search e) ∙ xor_one k x y)
