-- `begin` meets its contract: each return by its law of Beginning.
use mathlib.Core.Path.{sym, ◌∙◌}
use native.Mathlib.Omega.{arith}
use Rattle.storing.proofs.Beginning.{begin_done, begin-odd, begin-passed, begin_short}
use Rattle.storing.proofs.begin.Goals as goal

pub returns-then-store-lt-STORE_BYTES : goal.returns-then-store-lt-STORE_BYTES
returns-then-store-lt-STORE_BYTES c =
    let x = c.args in
    begin_short x.capacity x.reserves.now x.store.now c.if-store-lt-STORE_BYTES.true

pub returns-then-reserves-ne0 : goal.returns-then-reserves-ne0
returns-then-reserves-ne0 c =
    let x = c.args in
    begin-odd x.capacity x.reserves.now x.store.now (omega arith) (λ p q. grind arith)

pub returns-then-not-reserves_fit : goal.returns-then-not-reserves_fit
returns-then-not-reserves_fit c =
    let x = c.args in
    let f = sym c.reserves_fit.ensures ∙ c.if-not-reserves_fit.true in
    begin-passed x.capacity x.reserves.now x.store.now (omega arith) (omega arith) (omega arith) f

pub returns : goal.returns
returns c =
    let x = c.args in
    let f = sym c.reserves_fit.ensures ∙ c.if-not-reserves_fit.false in
    begin_done x.capacity x.reserves.now x.store.now (omega arith) (omega arith) (omega arith) f _
    c.put_new.ensures
