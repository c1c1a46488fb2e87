-- `ascii_runs::ascii_in_word` meets its contract: the zero bytes among the highest bits are ASCII bytes, and the next byte is not
-- ASCII.
use mathlib.Core.Path.{sym, subst}
use Prim.Native.Nat.{ℕ, ◌+◌, ◌-◌, ◌<◌}
use native.Mathlib.Omega.{arith}
use lib.ListN.{get_or}
use Rattle.ascii_runs.proofs.AsciiWords.{low_bytes, next-byte}
use Rattle.ascii_runs.proofs.ascii_in_word.Goals as goal

pub returns-then-left-low : goal.returns-then-left-low
returns-then-left-low c =
    let a = c.args in
    let w = c.read_word in
    let low = low_bytes a.s.now a.at w.ensures (λ j. (c.type_inv.s j).fits) a.passed in
    record { ascii = (low (8 - a.passed) (omega arith) (omega arith), omega arith); next = λ h. absurd (omega arith) }

pub returns : goal.returns
returns c =
    let a = c.args in
    let w = c.read_word in
    let low = low_bytes a.s.now a.at w.ensures (λ j. (c.type_inv.s j).fits) a.passed in
    let z = c.zero_bytes-low in
    let next = next-byte a.s.now a.at w.ensures (λ j. (c.type_inv.s j).fits) a.passed in
    let past : a.passed + z.result < 8 → 0x7F < get_or a.s.now (a.at + a.passed + z.result) 0 =
    λ h. subst (λ (k : ℕ). 0x7F < get_or a.s.now (a.at + a.passed + k) 0) (sym z.ensures.0) (next (omega arith)) in
    record { ascii = (low z.result (omega arith) (omega arith), omega arith); next = past }
