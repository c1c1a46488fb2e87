use mathlib.Core.Path.{◌≡◌, sym, ap, ◌∙◌, subst}
use Prim.Native.Nat.{ℕ, ◌+◌, ◌-◌, ◌<◌}
use native.Mathlib.Omega.{arith}
use lib.Count.{count_trailing_zeros, trailing_of_zero}
use lib.ListN.{drop, get_or, length}
use Rattle.std.proofs.lemmas.Grind.{common_steps}
use Rattle.ascii_runs.specs.Ascii.{AllUpTo, ascii_bytes, ascii_end}
use Rattle.ascii_runs.proofs.AsciiRuns.{at_longest, bytes_while, longest_on, run_none, run_on}
use Rattle.ascii_runs.proofs.AsciiWords.{high, front_bytes, front-next}
use Rattle.ascii_runs.proofs.ascii_end.Goals as goal

pub returns-in_default : goal.returns-in_default
unfolding ascii_end ascii_bytes
returns-in_default c = grind (arith, common_steps, c.in_default.ensures)

pub returns-then-s-lt-WORD_BYTES : goal.returns-then-s-lt-WORD_BYTES
returns-then-s-lt-WORD_BYTES c =
    let s = c.args.s.now in
    let rest = c.in-Some.rest.now in
    let e : rest ≡ drop c.args.from s = grind (arith, common_steps, c.in-Some.ensures) in
    let n = c.ascii_bytes.ensures ∙ sym (bytes_while rest) ∙ ap ascii_bytes e in
    ap (λ (m : ℕ). c.args.from + m) n ∙ longest_on c.args.from (run_none s c.args.from)

pub loop-at-init : goal.loop-at-init
loop-at-init c = run_none c.args.s.now c.args.from

pub returns-then-high-ne0 : goal.returns-then-high-ne0
returns-then-high-ne0 c =
    let s = c.args.s.now in
    let w = c.word_at-high in
    let n = c.zero_bytes.result in
    let front = front_bytes s c.loop-at.at w.ensures (λ j. (c.type_inv.s j).fits) in
    let next = front-next s c.loop-at.at w.ensures (λ j. (c.type_inv.s j).fits) in
    at_longest (run_on 0x7F n c.loop-at.invariant (front n (omega arith)) (omega arith) (omega arith))
    (λ h. subst (λ (k : ℕ). 0x7F < get_or s (c.loop-at.at + k) 0) (sym c.zero_bytes.ensures.0) (next c.if-high-ne0.true))

pub loop-at-preserved : goal.loop-at-preserved
loop-at-preserved c =
    let w = c.word_at-high in
    let all : count_trailing_zeros 64 (high w.result) ≡ 64 = ap (count_trailing_zeros 64) c.if-high-ne0.false ∙ trailing_of_zero 64 in
    let front = front_bytes c.args.s.now c.loop-at.at w.ensures (λ j. (c.type_inv.s j).fits) in
    run_on 0x7F 8 c.loop-at.invariant (front 8 (omega arith)) (omega arith) (omega arith)

pub returns-then-s-at : goal.returns-then-s-at
returns-then-s-at c = at_longest c.loop-at.invariant (λ h. absurd (omega arith))

pub returns : goal.returns
returns c =
    let s = c.args.s.now in
    let a = c.ascii_in_word in
    let e : length s - 8 + (c.loop-at.at - (length s - 8)) ≡ c.loop-at.at = omega arith in
    let more = subst (λ (k : ℕ). AllUpTo 0x7F s k a.result) e a.ensures.ascii.0 in
    at_longest (run_on 0x7F a.result c.loop-at.invariant more (omega arith) (omega arith))
    (λ h. subst (λ (k : ℕ). 0x7F < get_or s (k + a.result) 0) e (a.ensures.next (omega arith)))
