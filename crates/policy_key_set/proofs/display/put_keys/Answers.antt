use mathlib.Core.Path.{sym, ap, ◌∙◌}
use Prim.Native.Nat.{ℕ, ◌+◌, ◌<◌}
use native.Mathlib.Omega.{arith}
use lib.ListN.{drop, length}
use Rattle.base.proofs.Writer.{begin, finish, moved, pass, put, room}
use Rattle.emoji.specs.UnicodeData.{variation_entries}
use Rattle.policy_key_set.specs.Display.{key_text, key_texts, with_comma, written_from}
use Rattle.policy_key_set.proofs.Contains.{contains-place}
use Rattle.policy_key_set.proofs.Entries.{entries_length}
use Rattle.policy_key_set.proofs.Texts.{keys_done, keys_in, keys_out}
use Rattle.policy_key_set.proofs.display.put_keys.Goals as goal
use Rattle.policy_key_set.proofs.display.put_keys.Goals.{then-contains, else-contains}

pub loop-i-init : goal.loop-i-init
loop-i-init c = begin _ _ _ c.requires

pub put_key-at-requires : goal.put_key-at-requires
put_key-at-requires c =
    let l = c.loop-i in
    let a = c.args in
    let e = c.variation_char-ch in
    let m = contains-place a.set.bits l.i (omega arith) e.ensures c.contains.ensures in
    room _ _ _ _ (with_comma l.at (key_text a.keycap e.result)) _ l.invariant
    (keys_in a.keycap a.set.bits variation_entries l.i l.at (omega (arith, entries_length)) e.ensures
    (m ∙ c.if-contains.true))

pub shape_of-out : goal.shape_of-out
shape_of-out c = c.loop-i.invariant.same

pub returns : goal.returns
returns c =
    let l = c.loop-i in
    let a = c.args in
    finish _ _ _ _ l.invariant (keys_done a.keycap a.set.bits variation_entries l.i l.at (omega (arith, entries_length)))

pub loop-i-preserved : goal.loop-i-preserved
loop-i-preserved c =
    let l = c.loop-i in
    let a = c.args in
    let all = written_from a.start (key_texts a.keycap a.set.bits 0 variation_entries) in
    let e = c.variation_char-ch in
    let h : l.i < length variation_entries = omega (arith, entries_length) in
    let m = contains-place a.set.bits l.i (omega arith) e.ensures c.contains.ensures in
    let texts = key_texts a.keycap a.set.bits (l.i + 1) (drop (l.i + 1) variation_entries) in
    elim c.if-contains.branch [
      | then-contains w ↦
          let k = w.put_key-at.ensures in
          moved all a.start a.out.now _ w.out-is w.at-is
          (pass all a.start a.out.now _ _
          (put all a.start a.out.now _ _ l.invariant k
          (keys_in a.keycap a.set.bits variation_entries l.i l.at h e.ensures (m ∙ w.if-contains.true)))
          (ap (λ (n : ℕ). written_from n texts) (sym (w.at-is ∙ k.ends))))
      | else-contains w ↦
          moved all a.start a.out.now _ w.out-is w.at-is
          (pass all a.start a.out.now _ _ l.invariant
          (keys_out a.keycap a.set.bits variation_entries l.i l.at h (m ∙ w.if-contains.false)
          ∙ ap (λ (n : ℕ). written_from n texts) (sym w.at-is)))
    ]
