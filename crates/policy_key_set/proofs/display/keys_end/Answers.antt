use mathlib.Core.Path.{◌≡◌, refl, ap, ◌∙◌}
use Prim.Native.Nat.{◌+◌, ◌<◌}
use native.Mathlib.Omega.{arith}
use lib.ListN.{drop, length, length-append}
use Rattle.emoji.specs.UnicodeData.{variation_entries}
use Rattle.policy_key_set.specs.Display.{key_text, key_texts, with_comma, written_from}
use Rattle.policy_key_set.proofs.Contains.{contains-place}
use Rattle.policy_key_set.proofs.Entries.{entries_length}
use Rattle.policy_key_set.proofs.Texts.{keys_done, keys_in, keys_out}
use Rattle.policy_key_set.proofs.display.keys_end.Goals as goal
use Rattle.policy_key_set.proofs.display.keys_end.Goals.{then-contains, else-contains}

pub loop-i-init : goal.loop-i-init
loop-i-init c = (omega arith, c.requires, refl)

pub returns : goal.returns
returns c =
    let l = c.loop-i in
    let a = c.args in
    let e = keys_done a.keycap a.set.bits variation_entries l.i l.at (omega (arith, entries_length)) in
    let f = l.invariant.2 in
    (omega (arith, ap length e), omega arith)

pub loop-i-preserved : goal.loop-i-preserved
loop-i-preserved c =
    let l = c.loop-i in
    let a = c.args in
    let f = l.invariant.2 in
    let e = c.variation_char-ch in
    let h : l.i < length variation_entries = omega (arith, entries_length) in
    let m = contains-place a.set.bits l.i (omega arith) e.ensures c.contains.ensures in
    elim c.if-contains.branch [
      | then-contains w ↦
          let k = w.key_len-at.ensures in
          let p = with_comma l.at (key_text a.keycap e.result) in
          let q : c.if-contains.at ≡ l.at + length p = omega (arith, w.at-is, k.0) in (
            omega (arith, w.at-is, k.1),
            omega arith,
            rw q (omega (
              arith,
              ap length (keys_in a.keycap a.set.bits variation_entries l.i l.at h e.ensures (m ∙ w.if-contains.true)),
              length-append p
                  (written_from (l.at + length p) (key_texts a.keycap a.set.bits (l.i + 1) (drop (l.i + 1) variation_entries))),
            )),
          )
      | else-contains w ↦ (
        omega (arith, w.at-is),
        omega arith,
        rw w.at-is (omega (arith, ap length (keys_out a.keycap a.set.bits variation_entries l.i l.at h (m ∙ w.if-contains.false)))),
      )
    ]
