-- `feeding::put_selector` meets its contract: a selector is one character.
use mathlib.Core.Path.{refl, ap, ◌∙◌}
use native.Mathlib.Omega.{arith}
use lib.ListN.{length}
use Rattle.base.proofs.Writer.{put_as}
use Rattle.utf8.specs.Rfc3629.{is_scalar}
use Rattle.analysis.proofs.Rendering.{bytes_none, bytes_selector, selector_scalar}
use Rattle.feeding.proofs.put_selector.Goals as goal

pub put_char-requires : goal.put_char-requires
put_char-requires c =
    let a = c.as_selector in
    let r = c.requires in (
      ap is_scalar a.ensures ∙ selector_scalar c.in-Some.presentation,
      omega (arith, ap length (bytes_selector c.args.selector c.in-Some.presentation a.result c.in-Some.is a.ensures)),
    )

pub returns-in-Some : goal.returns-in-Some
returns-in-Some c =
    let a = c.as_selector in
    put_as _ (bytes_selector c.args.selector c.in-Some.presentation a.result c.in-Some.is a.ensures) c.put_char.ensures

pub returns-in-None : goal.returns-in-None
returns-in-None c = put_as _ (bytes_none c.args.selector c.in-None.is) (record { ends = omega arith; bytes = refl })
