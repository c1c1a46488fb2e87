use mathlib.Core.Path.{ap, refl}
use Prim.Native.Nat.{ℕ}
use native.Mathlib.Omega.{arith}
use lib.ListN.{length}
use Rattle.emoji.specs.UnicodeData.{variation_entries}
use Rattle.policy_key_set.specs.Sets.{member}
use Rattle.policy_key_set.proofs.Entries.{entries_length}
use Rattle.sheet_writing.specs.OnePass.{entry_text}
use Rattle.sheet_writing.proofs.EntryTexts.{measured, line-done, line_step}
use Rattle.sheet_writing.proofs.line_len.Goals as goal

pub loop-i-init : goal.loop-i-init
loop-i-init c = (omega arith, c.in_set-here.ensures, omega arith)

pub overflow_add-n : goal.overflow_add-n
overflow_add-n c = omega (arith, c.entry_len-n.ensures.1)

pub loop-i-preserved : goal.loop-i-preserved
loop-i-preserved c =
    let l = c.loop-i in
    let a = c.args in
    let e = c.entry_len-n.ensures in (
      omega (arith, e.1),
      c.in_set-next.ensures,
      measured l.n _ (entry_text l.before l.any l.here c.in_set-next.result
          c.variation_char-ch.result) _ _ l.invariant.2
          (line_step (λ (j : ℕ). member j a.set.bits) variation_entries l.i l.before l.any (omega (arith, entries_length))
          l.invariant.1 c.in_set-next.ensures c.variation_char-ch.ensures)
          e.0 refl,
    )

pub returns : goal.returns
returns c =
    let l = c.loop-i in
    let a = c.args in
    let e = line-done (λ (j : ℕ). member j a.set.bits) variation_entries l.i l.before l.any (omega (arith, entries_length)) in
    (omega (arith, l.invariant.2, ap length e), omega arith)
