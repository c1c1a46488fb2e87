-- `Policy::default` meets its contract: the constants are the words of the default policy.
use mathlib.Core.Path.{refl}
use Rattle.policy.specs.DefaultPolicy.{
  bare_as_text_words,
  bare_as_text_keycap_words,
  default_policy,
  prefer_bare_words,
  prefer_bare_keycap_words,
}
use Rattle.policy.proofs.PolicyDefault.default.Goals as goal

pub returns : goal.returns
unfolding default_policy prefer_bare_words prefer_bare_keycap_words bare_as_text_words bare_as_text_keycap_words
returns c = refl
