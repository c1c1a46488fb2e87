-- `charge` meets its contract: each return by its law of Charging.
use mathlib.Core.Path.{sym, ◌∙◌}
use native.Mathlib.Omega.{arith}
use Rattle.storing.proofs.Charging.{is-charged, most-charged, no_place-charged, short-charged, taken-charged}
use Rattle.storing.proofs.Places.{place}
use Rattle.storing.proofs.Sums.{charge_fits, words_small}
use Rattle.storing.proofs.charge.Goals as goal

pub returns-then-not-has_place : goal.returns-then-not-has_place
returns-then-not-has_place c =
    let x = c.args in
    no_place-charged x.store.now x.client x.number x.bytes (sym c.has_place.ensures ∙ c.if-not-has_place.true)

pub is_taken-requires : goal.is_taken-requires
is_taken-requires c =
    let x = c.args in
    let p = sym c.has_place.ensures ∙ c.if-not-has_place.false in
    let h = place x.store.now x.client x.number p in
    (h.client, h.number)

pub returns-then-is_taken : goal.returns-then-is_taken
returns-then-is_taken c =
    let x = c.args in
    taken-charged x.store.now x.client x.number x.bytes (sym c.is_taken.ensures ∙ c.if-is_taken.true)

pub left-fits-requires : goal.left-fits-requires
left-fits-requires c =
    let x = c.args in
    let p = sym c.has_place.ensures ∙ c.if-not-has_place.false in
    (place x.store.now x.client x.number p).client

pub returns-then-fits-bytes : goal.returns-then-fits-bytes
returns-then-fits-bytes c =
    let x = c.args in
    let p = sym c.has_place.ensures ∙ c.if-not-has_place.false in
    let q = sym c.is_taken.ensures ∙ c.if-is_taken.false in
    let l = c.left-fits in
    short-charged x.store.now x.client x.number x.bytes p q l.result l.ensures c.if-fits-bytes.true

pub returns-then-bytes-eq18446744073709551615 : goal.returns-then-bytes-eq18446744073709551615
returns-then-bytes-eq18446744073709551615 c =
    let x = c.args in
    let p = sym c.has_place.ensures ∙ c.if-not-has_place.false in
    let q = sym c.is_taken.ensures ∙ c.if-is_taken.false in
    let l = c.left-fits in
    most-charged x.store.now x.client x.number x.bytes p q l.result l.ensures c.if-fits-bytes.false c.if-bytes-eq18446744073709551615.true

pub put_charge-requires : goal.put_charge-requires
put_charge-requires c =
    let x = c.args in
    let p = sym c.has_place.ensures ∙ c.if-not-has_place.false in
    let h = place x.store.now x.client x.number p in
    let l = c.left-fits in
    let w = words_small x.store.now (λ j. grind arith) in (
      h.long,
      h.client,
      h.number,
      omega arith,
      charge_fits x.store.now w x.client h.client x.bytes (omega (arith, l.ensures, c.if-fits-bytes.false)),
    )

pub returns : goal.returns
returns c =
    let x = c.args in
    let p = sym c.has_place.ensures ∙ c.if-not-has_place.false in
    let q = sym c.is_taken.ensures ∙ c.if-is_taken.false in
    let l = c.left-fits in
    is-charged x.store.now x.client x.number x.bytes p q l.result l.ensures c.if-fits-bytes.false (omega arith) _
    c.put_charge.ensures
