-- `replacing::analyze_scan_item` meets its contract: by the item at the offset and the totals of its bytes (ItemsAt).
use mathlib.Core.Path.{sym, ◌∙◌}
use native.Mathlib.Omega.{arith}
use borrow.Enum.Refused.{opened}
use Rattle.analysis.proofs.ItemsAt.{
  analysis-canonical,
  analysis_end,
  analysis-finding,
  analysis-passthrough,
  item_at_lem,
  item-within,
  not_passthrough,
}
use Rattle.replacing.proofs.analyze_scan_item.Goals as goal

pub returns-in_default : goal.returns-in_default
returns-in_default c =
    let x = c.args in
    analysis_end x.policy x.text.now x.at x.before (sym c.next_item.ensures ∙ c.in_default.is)

pub returns-in-Passthrough : goal.returns-in-Passthrough
returns-in-Passthrough c =
    let x = c.args in
    let h = item_at_lem x.text.now x.at x.before c.in-Some.item
    (sym c.next_item.ensures ∙ c.in-Some.is) in
    analysis-passthrough x.policy x.text.now x.at x.before h c.in-Passthrough.is

pub slice_bounds-measure_cells-count : goal.slice_bounds-measure_cells-count
slice_bounds-measure_cells-count c =
    let x = c.args in
    let h = item_at_lem x.text.now x.at x.before c.in-Some.item (sym c.next_item.ensures ∙ c.in-Some.is) in
    omega (arith, h.end_is)

pub slice_bounds-measure_cells-start : goal.slice_bounds-measure_cells-start
slice_bounds-measure_cells-start c =
    let x = c.args in
    let h = item_at_lem x.text.now x.at x.before c.in-Some.item (sym c.next_item.ensures ∙ c.in-Some.is) in
    omega (arith, h.end_is)

pub slice_bounds-measure_cells-end : goal.slice_bounds-measure_cells-end
slice_bounds-measure_cells-end c =
    let x = c.args in
    let h = item_at_lem x.text.now x.at x.before c.in-Some.item (sym c.next_item.ensures ∙ c.in-Some.is) in
    omega (arith, h.end_is, item-within x.text.now x.at h.item h.after h.items_are)

pub returns-then-is_empty : goal.returns-then-is_empty
returns-then-is_empty c =
    let x = c.args in
    let h = item_at_lem x.text.now x.at x.before c.in-Some.item (sym c.next_item.ensures ∙ c.in-Some.is) in
    let o = not_passthrough c.in-Some.item.kind (opened c.in_default-kind.in_default-kind-own.keys2) in
    analysis-canonical x.policy x.text.now x.at x.before h o c.measure_cells.result.counts
    c.measure_cells.ensures.counts (sym c.is_empty.ensures ∙ c.if-is_empty.true)

pub returns : goal.returns
returns c =
    let x = c.args in
    let h = item_at_lem x.text.now x.at x.before c.in-Some.item (sym c.next_item.ensures ∙ c.in-Some.is) in
    let o = not_passthrough c.in-Some.item.kind (opened c.in_default-kind.in_default-kind-own.keys2) in
    analysis-finding x.policy x.text.now x.at x.before h o c.measure_cells.result.counts
    c.measure_cells.ensures.counts (sym c.is_empty.ensures ∙ c.if-is_empty.false)
