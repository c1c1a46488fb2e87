-- What a client uses, by the tests of the length and of the client.
use Rattle.base.specs.declared.Refusal.{Refusal}
use Rattle.std.specs.Prelude.{Ok, Err, Result}
use mathlib.Core.Path.{◌≡◌, ap, ap₂, sym, ◌∙◌}
use mathlib.Core.Bool.{Bool, cond, ◌&&◌}
use mathlib.Core.List.{List}
use Prim.Native.Nat.{ℕ, ◌<◌}
use lib.Dec.{eqb, ltb}
use lib.ListN.{length}
use borrow.Author.Tests.{eq-eqb, eqb-true, lt-ltb, ltb-true}
use Rattle.base.specs.Words.{word_at}
use Rattle.base.proofs.Tests.{both_true, fails}
use Rattle.base.specs.declared.Refusal.TheVariants.{BadClientOrNumber}
use Rattle.store.specs.Store.{clients}
use Rattle.store.specs.Bytes.{store_bytes, used_call, used_word}

module _ (bs : List ℕ) (c : ℕ) where
  -- The bytes have the length of a store, and there is such a client.
  pub record Client : Type 0 where
    pub long : length bs ≡ 33032
    pub client : c < 16

  abbrev answer : Bool → Result ℕ Refusal
  answer t = cond t (Ok (word_at (used_word c) bs)) (Err BadClientOrNumber)

  pub no_use : (Client → ⊥) → Err BadClientOrNumber ≡ used_call bs c
  unfolding used_call
  no_use f =
      sym (ap answer (fails (eqb (length bs) store_bytes && ltb c clients)
      (λ e.
      let p = both_true (eqb (length bs) store_bytes) (ltb c clients) e in
      f (record { long = eqb-true (length bs) store_bytes p.0; client = ltb-true c clients p.1 }))))

  pub is_used : length bs ≡ 33032 → c < 16 → (w : ℕ) → w ≡ word_at (used_word c) bs → Ok w ≡ used_call bs c
  unfolding used_call
  is_used e l w h =
      ap Ok h ∙ sym (ap₂ (λ (x y : Bool). answer (x && y)) (eq-eqb (length bs) store_bytes e) (lt-ltb c clients l))
