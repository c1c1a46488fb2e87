-- The three tests of a place.
use Rattle.std.proofs.Common.{arith}
use Rattle.storing.proofs.Places.{no_place, place-left}
use Rattle.storing.proofs.has_place.Goals as goal

pub returns-then-store-ne-STORE_BYTES : goal.returns-then-store-ne-STORE_BYTES
returns-then-store-ne-STORE_BYTES c = let x = c.args in no_place x.store.now x.client x.number (λ p. grind (arith, p.long, p.client))

pub returns : goal.returns
returns c = let x = c.args in place-left x.store.now x.client x.number (omega arith) (omega arith)
