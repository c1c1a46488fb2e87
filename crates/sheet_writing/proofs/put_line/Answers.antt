use mathlib.Core.Bool.{false}
use Prim.Native.Nat.{ℕ}
use native.Mathlib.Omega.{arith}
use Rattle.base.proofs.Writer.{begin, finish, put, room}
use Rattle.emoji.specs.UnicodeData.{variation_entries}
use Rattle.policy_key_set.specs.Sets.{member}
use Rattle.policy_key_set.proofs.Entries.{entries_length}
use Rattle.sheet_writing.specs.OnePass.{entry_text, line_from}
use Rattle.sheet_writing.proofs.EntryTexts.{line-done, line_step}
use Rattle.sheet_writing.proofs.put_line.Goals as goal

pub loop-i-init : goal.loop-i-init
loop-i-init c = (c.in_set-here.ensures, begin _ _ _ c.requires)

pub put_entry-at-requires : goal.put_entry-at-requires
put_entry-at-requires c =
    let l = c.loop-i in
    let a = c.args in
    room _ _ _ _ (entry_text l.before l.any l.here c.in_set-next.result
    c.variation_char-ch.result) _ l.invariant.1
    (line_step (λ (j : ℕ). member j a.set.bits) variation_entries l.i l.before l.any (omega (arith, entries_length))
    l.invariant.0 c.in_set-next.ensures c.variation_char-ch.ensures)

pub loop-i-preserved : goal.loop-i-preserved
loop-i-preserved c =
    let l = c.loop-i in
    let a = c.args in
    let all = line_from (λ (j : ℕ). member j a.set.bits) 0 false false variation_entries in (
      c.in_set-next.ensures,
      put all a.start a.out.now _ _ l.invariant.1 c.put_entry-at.ensures
          (line_step (λ (j : ℕ). member j a.set.bits) variation_entries l.i l.before l.any (omega (arith, entries_length))
          l.invariant.0 c.in_set-next.ensures
          c.variation_char-ch.ensures),
    )

pub shape_of-out : goal.shape_of-out
shape_of-out c = c.loop-i.invariant.1.same

pub returns : goal.returns
returns c =
    let l = c.loop-i in
    let a = c.args in
    finish _ _ _ _ l.invariant.1 (line-done (λ (j : ℕ). member j a.set.bits) variation_entries l.i l.before l.any
    (omega (arith, entries_length)))
