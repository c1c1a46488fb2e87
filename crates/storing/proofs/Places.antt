-- The test of a store's length, of the client and of the number.
use mathlib.Core.Path.{◌≡◌, ap₂, sym}
use mathlib.Core.Bool.{Bool, true, false, ◌&&◌}
use mathlib.Core.List.{List}
use Prim.Native.Nat.{ℕ, ◌<◌}
use lib.Dec.{eqb, ltb}
use lib.ListN.{length}
use borrow.Author.Tests.{eq-eqb, eqb-true, lt-ltb, ltb-true}
use Rattle.base.proofs.Tests.{both_true, fails}
use Rattle.store.specs.Bytes.{has_place, store_bytes}
use Rattle.store.specs.Store.{clients, is_place, numbers}

pub record Place (bs : List ℕ) (c n : ℕ) : Type 0 where
  pub long : length bs ≡ 33032
  pub client : c < 16
  pub number : n < 256

pub place : (bs : List ℕ) (c n : ℕ) → has_place bs c n ≡ true → Place bs c n
unfolding is_place
place bs c n e =
    let p = both_true (eqb (length bs) store_bytes) (ltb c clients && ltb n numbers) e in
    let q = both_true (ltb c clients) (ltb n numbers) p.1 in
    record { long = eqb-true (length bs) store_bytes p.0; client = ltb-true c clients q.0; number = ltb-true n numbers q.1 }

pub no_place : (bs : List ℕ) (c n : ℕ) → (Place bs c n → ⊥) → false ≡ has_place bs c n
no_place bs c n f = sym (fails (has_place bs c n) (λ e. f (place bs c n e)))

-- After two tests, the third decides.
pub place-left : (bs : List ℕ) (c n : ℕ) → length bs ≡ 33032 → c < 16 → ltb n 256 ≡ has_place bs c n
unfolding is_place
place-left bs c n e l = ap₂ (λ (x y : Bool). x && (y && ltb n 256)) (sym (eq-eqb (length bs) 33032 e)) (sym (lt-ltb c 16 l))
