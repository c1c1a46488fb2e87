-- `replacing::render::write_cells` meets its contract: the measured length is the length of the result under every decision.
use mathlib.Core.Path.{◌∙◌}
use mathlib.Core.List.{List, map}
use Prim.Native.Nat.{ℕ}
use native.Mathlib.Omega.{arith}
use Rattle.base.proofs.Answering.{ends_as}
use Rattle.utf8.specs.Rfc3629.{chars, encode_all}
use Rattle.policy.specs.declared.Policy.{Policy}
use Rattle.analysis.specs.Analysis.{render}
use Rattle.analysis.specs.Cells.{cells}
use Rattle.analysis.specs.Decisions.{meaning}
use Rattle.analysis.proofs.Rendering.{measured}
use Rattle.analysis.proofs.Replacing.{not_too_long, out_put, out_short, too_long}
use Rattle.replacing.proofs.render.write_cells.Goals as goal

abbrev result : Policy → List ℕ → List ℕ → List ℕ
result p raw decisions = encode_all (render p (cells (chars raw)) (map meaning decisions))

pub returns-then-raw-gt-TEXT_LIMIT : goal.returns-then-raw-gt-TEXT_LIMIT
returns-then-raw-gt-TEXT_LIMIT c = ends_as (let x = c.args in too_long x.raw.now x.out.now _ c.if-raw-gt-TEXT_LIMIT.true)

pub returns-then-out-len : goal.returns-then-out-len
returns-then-out-len c =
    let x = c.args in
    let m = c.measure_cells-len in
    let l = c.if-raw-gt-TEXT_LIMIT.false in
    ends_as (out_short (result x.policy x.raw.now x.decisions.now) x.out.now m.result.len
    (m.ensures.len ∙ measured x.policy x.raw.now (map meaning x.decisions.now) l) c.if-out-len.true
    ∙ not_too_long x.raw.now x.out.now _ l)

pub put_cells-requires : goal.put_cells-requires
put_cells-requires c =
    let x = c.args in
    let m = c.measure_cells-len in
    let h = c.if-out-len.false in
    omega (
      arith,
      m.ensures.len ∙ measured x.policy x.raw.now (map meaning x.decisions.now)
          c.if-raw-gt-TEXT_LIMIT.false,
    )

pub returns : goal.returns
returns c =
    let x = c.args in
    let m = c.measure_cells-len in
    let l = c.if-raw-gt-TEXT_LIMIT.false in
    ends_as (out_put (result x.policy x.raw.now x.decisions.now) x.out.now m.result.len
    (m.ensures.len ∙ measured x.policy x.raw.now (map meaning x.decisions.now) l) _ _
    c.if-out-len.false c.put_cells.ensures
    ∙ not_too_long x.raw.now x.out.now _ l)
