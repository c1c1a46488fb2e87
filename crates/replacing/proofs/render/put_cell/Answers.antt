-- `replacing::render::put_cell` meets its contract: the character's bytes, and then the selector's.
use mathlib.Core.Path.{ap}
use mathlib.Core.List.{List, map}
use native.Mathlib.Omega.{arith}
use lib.ListN.{drop, length, length-append}
use lib.Seq.{length-sets}
use Rattle.base.proofs.Writer.{put_as, put_then}
use Rattle.utf8.specs.Rfc3629.{encode, encode_all}
use Rattle.emoji.specs.Presentation.{as_selector}
use Rattle.emoji.specs.declared.presentation.Presentation.{Presentation}
use Rattle.analysis.specs.Analysis.{chosen}
use Rattle.analysis.specs.Decisions.{meaning}
use Rattle.replacing.proofs.render.put_cell.Goals as goal

pub put_char-after-requires : goal.put_char-after-requires
put_char-after-requires c =
    let r = c.requires.1 in (
      c.requires.0,
      omega (
        arith,
        length-append (encode c.args.ch)
            (encode_all (map as_selector (chosen c.args.slot (map meaning (drop c.args.i c.args.decisions.now))))),
      ),
    )

pub put_selector-requires : goal.put_selector-requires
put_selector-requires c =
    let x = c.args in
    let r = c.requires.1 in
    let p = c.put_char-after.ensures in
    let e = p.ends in
    let d = map meaning (drop x.i x.decisions.now) in
    omega (
      arith,
      length-append (encode x.ch) (encode_all (map as_selector (chosen x.slot d))),
      ap length p.bytes,
      length-sets x.out.now x.at (encode x.ch),
      ap (λ (l : List Presentation). length (encode_all (map as_selector l)))
          c.selector_of-selector.ensures,
    )

pub returns : goal.returns
returns c =
    put_then c.put_char-after.ensures
    (put_as _ (ap (λ (l : List Presentation). encode_all (map as_selector l))
    c.selector_of-selector.ensures)
    c.put_selector.ensures)
