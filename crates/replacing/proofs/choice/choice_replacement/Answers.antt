-- `replacing::choice::choice_replacement` meets its contract: it writes the cells of the bytes from the offset up to the unit's
-- end, and these are the cells of the unit.
use borrow.Author.Rules.{rules}
use mathlib.Core.Path.{ap₂, ◌∙◌}
use mathlib.Core.List.{List}
use native.Mathlib.Omega.{arith}
use Rattle.base.proofs.Answering.{ends_as, whole}
use Rattle.utf8.specs.Rfc3629.{encode_all}
use Rattle.emoji.specs.declared.presentation.Presentation.{Presentation}
use Rattle.analysis.specs.Analysis.{render}
use Rattle.analysis.specs.Cells.{Cell}
use Rattle.analysis.specs.Decisions.{write_out}
use Rattle.analysis.proofs.ChoiceUnits.{replace_long, replace-none, replace-unit, unit_cells, unit_room}
use Rattle.analysis.proofs.Replacing.{part-written}
use Rattle.replacing.proofs.choice.choice_replacement.Goals as goal

pub returns-then-raw-gt-TEXT_LIMIT : goal.returns-then-raw-gt-TEXT_LIMIT
returns-then-raw-gt-TEXT_LIMIT c =
    let x = c.args in
    ends_as (replace_long x.policy x.raw.now x.at x.decision x.out.now c.if-raw-gt-TEXT_LIMIT.true)

pub returns-then-raw-at : goal.returns-then-raw-at
returns-then-raw-at c =
    let x = c.args in
    ends_as (replace-none x.policy x.raw.now x.at x.decision x.out.now c.if-raw-gt-TEXT_LIMIT.false c.if-raw-at.true)

pub returns : goal.returns
returns c =
    let x = c.args in
    let u = c.unit_end-end in
    let e = unit_cells x.raw.now x.at u.result u.ensures in
    let l = c.if-raw-gt-TEXT_LIMIT.false in
    ends_as (replace-unit x.policy x.raw.now x.at x.decision x.out.now l
    (part-written x.raw.now x.out.now x.at u.result l (whole c.write_cells.ensures)
    ∙ ap₂ (λ (xs : List Cell) (ds : List Presentation). write_out (encode_all (render x.policy xs ds)) x.out.now) e (search rules)))

pub slice_bounds-write_cells-end : goal.slice_bounds-write_cells-end
slice_bounds-write_cells-end c =
    let x = c.args in
    let u = c.unit_end-end in
    let h = c.if-raw-at.false in
    unit_room x.raw.now x.at u.result u.ensures (omega arith)
