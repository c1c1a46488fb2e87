use Rattle.utf8.proofs.Places.{step}
use Rattle.utf8.proofs.Packed.{len_reads}
use native.Mathlib.Omega.{arith}
use lib.ListN.{drop}
use Rattle.membership_flips.proofs.Skipping.{none_here, none-on, none_other}
use Rattle.membership_flips.proofs.plain.skip_letters.Goals as goal

pub loop-at-init : goal.loop-at-init
loop-at-init c = none_here _

pub returns-then-not-is_plain_at : goal.returns-then-not-is_plain_at
returns-then-not-is_plain_at c = c.loop-at.invariant

pub returns-then-width-eq0 : goal.returns-then-width-eq0
returns-then-width-eq0 c = c.loop-at.invariant

pub overflow_add-at : goal.overflow_add-at
overflow_add-at c =
    let x = c.args in
    let l = c.loop-at in
    let k = len_reads (drop l.at x.text.now) c.char_len-width.result c.char_len-width.ensures
    (omega (arith, c.if-width-eq0.false)) in
    let s = step x.text.now l.at k.value c.char_len-width.result k.reads in
    omega (arith, s.room, c.well_formed.0.0)

pub loop-at-smaller : goal.loop-at-smaller
loop-at-smaller c =
    let x = c.args in
    let l = c.loop-at in
    let k = len_reads (drop l.at x.text.now) c.char_len-width.result c.char_len-width.ensures
    (omega (arith, c.if-width-eq0.false)) in
    let s = step x.text.now l.at k.value c.char_len-width.result k.reads in
    omega (arith, s.room, s.some)

pub loop-at-preserved : goal.loop-at-preserved
loop-at-preserved c =
    let x = c.args in
    let l = c.loop-at in
    let k = len_reads (drop l.at x.text.now) c.char_len-width.result c.char_len-width.ensures
    (omega (arith, c.if-width-eq0.false)) in
    let s = step x.text.now l.at k.value c.char_len-width.result k.reads in
    let q = c.is_plain_at.ensures
    c.if-not-is_plain_at.false k.value c.char_len-width.result
    k.reads in
    none-on l.invariant (none_other s q)

pub returns : goal.returns
returns c = c.loop-at.invariant
