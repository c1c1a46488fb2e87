-- `tilghorz::tilghorz_version` meets its contract: the constant is the version.
use mathlib.Core.Path.{refl}
use Rattle.emoji.specs.UnicodeData.{unicode_version}
use Rattle.tilghorz.proofs.tilghorz_version.Goals as goal

pub returns : goal.returns
unfolding unicode_version
returns c = refl
