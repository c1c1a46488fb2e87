-- `replacing::render::default_canonical_replacement` meets its contract: each return is a law of Replacing.
use Rattle.std.specs.Prelude.{Err}
use borrow.Author.Rules.{rules}
use mathlib.Core.Path.{◌≡◌, sym, ◌∙◌}
use native.Mathlib.Omega.{arith}
use Rattle.base.proofs.Answering.{ends_as, whole}
use Rattle.analysis.proofs.Replacing.{
  default_none,
  default_turned_back,
  default_written,
  found_at,
  found_from,
  found_within,
  none_found,
  part-written,
  text_passed,
  text_refused,
  text_within,
}
use borrow.Enum.Refused.{opened}
use Rattle.replacing.proofs.render.default_canonical_replacement.Goals as goal

pub returns-in_err-check_text : goal.returns-in_err-check_text
returns-in_err-check_text c =
    let x = c.args in
    let t = x.text.now in
    let r : c.from_residual.result ≡ Err c.in_err-check_text.field-0.0 = search rules in
    rw r (ends_as (default_turned_back x.policy t x.at x.out.now
    (text_refused t c.check_text.ensures.same c.in_err-check_text.was)))

pub returns-in_default : goal.returns-in_default
returns-in_default c =
    let a = c.analyze_starting_item in
    let x = c.args in
    let t = x.text.now in
    ends_as (default_none x.policy t x.at x.out.now
    (text_passed t c.check_text.ensures.same c.in_ok-check_text.was)
    (none_found x.policy t x.at a.result (opened c.in_default.in_default-own.keys2) a.ensures))

pub returns : goal.returns
returns c =
    let x = c.args in
    let t = x.text.now in
    let h = found_at x.policy t x.at c.in-NonCanonical.finding (sym c.analyze_starting_item.ensures ∙ c.in-NonCanonical.is) in
    let n = text_passed t c.check_text.ensures.same c.in_ok-check_text.was in
    ends_as (default_written x.policy t x.at x.out.now n h _
    (part-written t x.out.now x.at c.in-NonCanonical.finding.end (text_within t n) (whole c.write_cells.ensures)))

pub slice_bounds-write_cells-count : goal.slice_bounds-write_cells-count
slice_bounds-write_cells-count c =
    let x = c.args in
    let t = x.text.now in
    let h = found_at x.policy t x.at c.in-NonCanonical.finding (sym c.analyze_starting_item.ensures ∙ c.in-NonCanonical.is) in
    found_from x.policy t x.at h

pub slice_bounds-write_cells-start : goal.slice_bounds-write_cells-start
slice_bounds-write_cells-start c =
    let x = c.args in
    let t = x.text.now in
    let h = found_at x.policy t x.at c.in-NonCanonical.finding (sym c.analyze_starting_item.ensures ∙ c.in-NonCanonical.is) in
    omega (arith, found_from x.policy t x.at h)

pub slice_bounds-write_cells-end : goal.slice_bounds-write_cells-end
slice_bounds-write_cells-end c =
    let x = c.args in
    let t = x.text.now in
    let h = found_at x.policy t x.at c.in-NonCanonical.finding (sym c.analyze_starting_item.ensures ∙ c.in-NonCanonical.is) in
    omega (arith, found_within x.policy t x.at h)
