-- `used` meets its contract.
use native.Mathlib.Omega.{arith}
use Rattle.base.proofs.Answering.{answers}
use Rattle.store.proofs.Using.{is_used, no_use}
use Rattle.store.proofs.used.Goals as goal

pub returns-then-store-ne-STORE_BYTES : goal.returns-then-store-ne-STORE_BYTES
returns-then-store-ne-STORE_BYTES c = let x = c.args in answers (no_use x.store.now x.client (λ p. omega arith))

pub returns-then-client-ge-CLIENTS : goal.returns-then-client-ge-CLIENTS
returns-then-client-ge-CLIENTS c = let x = c.args in answers (no_use x.store.now x.client (λ p. omega arith))

pub returns : goal.returns
returns c =
    let x = c.args in
    answers (is_used x.store.now x.client (omega arith) (omega arith) _ c.word.ensures)
