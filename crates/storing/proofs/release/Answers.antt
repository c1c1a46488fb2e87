-- `release` meets its contract: each return by its law of Releasing.
use mathlib.Core.Path.{ap, sym, ◌∙◌}
use Prim.Native.Nat.{ℕ, ◌-◌}
use native.Mathlib.Omega.{arith}
use Rattle.storing.proofs.Places.{place}
use Rattle.storing.proofs.Releasing.{is_released, no_place_released, unused_released}
use Rattle.storing.proofs.release.Goals as goal

pub returns-then-not-has_place : goal.returns-then-not-has_place
returns-then-not-has_place c =
    let x = c.args in
    no_place_released x.store.now x.client x.number (sym c.has_place.ensures ∙ c.if-not-has_place.true)

pub is_taken-requires : goal.is_taken-requires
is_taken-requires c =
    let x = c.args in
    let h = place x.store.now x.client x.number (sym c.has_place.ensures ∙ c.if-not-has_place.false) in
    (h.client, h.number)

pub returns-then-not-is_taken : goal.returns-then-not-is_taken
returns-then-not-is_taken c =
    let x = c.args in
    unused_released x.store.now x.client x.number (sym c.is_taken.ensures ∙ c.if-not-is_taken.true)

pub overflow_mul-client : goal.overflow_mul-client
overflow_mul-client c =
    let x = c.args in
    let h = place x.store.now x.client x.number (sym c.has_place.ensures ∙ c.if-not-has_place.false) in
    omega arith

pub overflow_add-client : goal.overflow_add-client
overflow_add-client c =
    let x = c.args in
    let h = place x.store.now x.client x.number (sym c.has_place.ensures ∙ c.if-not-has_place.false) in
    omega arith

pub overflow_add-client-2 : goal.overflow_add-client-2
overflow_add-client-2 c =
    let x = c.args in
    let h = place x.store.now x.client x.number (sym c.has_place.ensures ∙ c.if-not-has_place.false) in
    omega arith

pub word-requires : goal.word-requires
word-requires c =
    let x = c.args in
    let h = place x.store.now x.client x.number (sym c.has_place.ensures ∙ c.if-not-has_place.false) in
    omega arith

pub put_back-requires : goal.put_back-requires
put_back-requires c =
    let x = c.args in
    let h = place x.store.now x.client x.number (sym c.has_place.ensures ∙ c.if-not-has_place.false) in
    (h.long, h.client, h.number)

pub returns : goal.returns
returns c =
    let x = c.args in
    let p = sym c.has_place.ensures ∙ c.if-not-has_place.false in
    let q = sym c.is_taken.ensures ∙ c.if-not-is_taken.false in
    let k = c.saturating_sub-bytes.ensures ∙ ap (λ (w : ℕ). w - 1) c.word.ensures.0 in
    is_released x.store.now x.client x.number p q _ k _ c.put_back.ensures
