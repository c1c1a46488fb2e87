-- `text_pass::plain::skip_ascii` meets its contract: the run is skipped with or without its last character (`AsciiText`).
use Rattle.ascii_runs.proofs.AsciiRuns.{longest_at}
use Rattle.text_pass.proofs.AsciiText.{last_byte, run_but_last, run_room, run_to_end, run_with-last}
use native.Mathlib.Omega.{arith}
use Rattle.text_pass.proofs.plain.skip_ascii.Goals as goal

pub returns-then-end-text : goal.returns-then-end-text
returns-then-end-text c =
    let q = c.requires in
    let r = (longest_at c.ascii_end-end.ensures).0 in
    let h = r.from_le in
    let l = run_room q r in record { bounds = (omega arith, omega arith); skips = λ p b. run_to_end b q r c.if-end-text.true }

pub overflow_sub-end : goal.overflow_sub-end
overflow_sub-end c = omega (arith, (longest_at c.ascii_end-end.ensures).0.from_le)

pub bounds-text-end : goal.bounds-text-end
bounds-text-end c =
    let q = c.requires in
    let r = (longest_at c.ascii_end-end.ensures).0 in
    omega (arith, r.from_le, r.inside (omega (arith, q.0)), q.0)

pub overflow_sub-result : goal.overflow_sub-result
overflow_sub-result c = omega (arith, (longest_at c.ascii_end-end.ensures).0.from_le)

pub returns-then-is_ascii_base : goal.returns-then-is_ascii_base
returns-then-is_ascii_base c =
    let q = c.requires in
    let r = (longest_at c.ascii_end-end.ensures).0 in
    let h = r.from_le in
    let l = run_room q r in record { bounds = (omega arith, omega arith); skips = λ p b. run_but_last b q r }

pub returns : goal.returns
returns c =
    let q = c.requires in
    let r = (longest_at c.ascii_end-end.ensures).0 in
    let h = r.from_le in
    let l = run_room q r in record {
      bounds = (omega arith, omega arith);
      skips = λ p b. run_with-last b q r (c.is_ascii_base.ensures c.if-is_ascii_base.false (last_byte q r));
    }
