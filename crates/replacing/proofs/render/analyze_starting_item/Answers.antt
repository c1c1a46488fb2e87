-- `replacing::render::analyze_starting_item` meets its contract: by whether an item starts there.
use mathlib.Core.Path.{sym, ap, ◌∙◌}
use mathlib.Core.Bool.{Bool, cond}
use Rattle.positions.specs.Positions.{no_count}
use Rattle.analysis.specs.ItemAt.{analysis_at}
use Rattle.analysis.specs.declared.ItemAnalysis.TheVariants.{End}
use Rattle.replacing.proofs.render.analyze_starting_item.Goals as goal

pub returns-then-not-item_starts_at : goal.returns-then-not-item_starts_at
returns-then-not-item_starts_at c =
    let x = c.args in
    let s = sym c.item_starts_at.ensures ∙ c.if-not-item_starts_at.true in
    sym (ap (λ (b : Bool). cond b (analysis_at x.policy x.text.now x.offset no_count) End) s)

pub returns : goal.returns
returns c =
    let x = c.args in
    let s = sym c.item_starts_at.ensures ∙ c.if-not-item_starts_at.false in
    c.analyze_scan_item.ensures ∙ sym (ap (λ (b : Bool). cond b (analysis_at x.policy x.text.now x.offset no_count) End) s)
