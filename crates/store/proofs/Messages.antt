-- What is charged for messages when one is taken away, and which numbers are then in use.
use mathlib.Core.Path.{◌≡◌, refl, ap, ap₂, sym, ◌∙◌}
use mathlib.Core.Bool.{Bool, true, false, cond, ◌||◌}
use mathlib.Core.List.{List, [], ◌∷◌}
use Prim.Native.Nat.{ℕ, ◌+◌}
use native.Mathlib.Omega.{arith}
use lib.Dec.{eqb}
use borrow.Author.Tests.{eqb-true, ne_eqb}
use Rattle.base.proofs.Tests.{both_false, both_true}
use Rattle.store.specs.Store.{Filed, Placed, charge_at, charged, in_use, is_at, none_filed, one_more, without}

module _ (c n : ℕ) where
  -- Nothing is under the number: nothing is taken away.
  pub without-none : (ms : List Filed) → in_use c n ms ≡ false → without c n ms ≡ ms
  unfolding without in_use
  without-none [] e = refl
  without-none (m ∷ ms) e =
      let p = both_false (is_at c n m) (in_use c n ms) e in
      rw p.0 (ap (λ (l : List Filed). m ∷ l) (without-none ms p.1))

  pub none-charged : (ms : List Filed) → in_use c n ms ≡ false → charge_at c n ms ≡ 0
  unfolding charge_at in_use
  none-charged [] e = refl
  none-charged (m ∷ ms) e =
      let p = both_false (is_at c n m) (in_use c n ms) e in
      rw p.0 (none-charged ms p.1)

  -- The client's own bytes.
  pub charged-without : (ms : List Filed) → Placed ms → charged c (without c n ms) + charge_at c n ms ≡ charged c ms
  unfolding charged charge_at without in_use
  charged-without [] none_filed = refl
  charged-without (m ∷ ms) (one_more u lc ln ps) = go (is_at c n m) refl (charged-without ms ps)
    where
      go : (t : Bool) → is_at c n m ≡ t → charged c (without c n ms) + charge_at c n ms ≡ charged c ms
          → charged c (cond t (without c n ms) (m ∷ without c n ms)) + cond t m.charge (charge_at c n ms)
          ≡ cond (eqb m.client c) m.charge 0 + charged c ms
      go true e ih =
          let p = both_true (eqb m.client c) (eqb m.number n) e in
          let q = ap₂ (λ (x y : ℕ). in_use x y ms) (eqb-true m.client c p.0) (eqb-true m.number n p.1) in
          let w = without-none ms (sym q ∙ u) in
          rw p.0 (omega (arith, ap (charged c) w))
      go false e ih = omega (arith, ih)

  -- Another client's.
  pub charged-other : (d : ℕ) → (d ≡ c → ⊥) → (ms : List Filed) → charged d (without c n ms) ≡ charged d ms
  unfolding charged without
  charged-other d h [] = refl
  charged-other d h (m ∷ ms) = go (is_at c n m) refl (charged-other d h ms)
    where
      go : (t : Bool) → is_at c n m ≡ t → charged d (without c n ms) ≡ charged d ms
          → charged d (cond t (without c n ms) (m ∷ without c n ms)) ≡ cond (eqb m.client d) m.charge 0 + charged d ms
      go true e ih =
          let p = both_true (eqb m.client c) (eqb m.number n) e in
          let q : m.client ≡ c = eqb-true m.client c p.0 in
          let z : eqb m.client d ≡ false = ne_eqb m.client d (λ x. h (sym x ∙ q)) in
          rw z (omega (arith, ih))
      go false e ih = ap (λ (k : ℕ). cond (eqb m.client d) m.charge 0 + k) ih

  pub unused-stays : (a b : ℕ) (ms : List Filed) → in_use a b ms ≡ false → in_use a b (without c n ms) ≡ false
  unfolding in_use without
  unused-stays a b [] e = refl
  unused-stays a b (m ∷ ms) e =
      let p = both_false (is_at a b m) (in_use a b ms) e in
      go (is_at c n m) p.0 (unused-stays a b ms p.1)
    where
      go : (t : Bool) → is_at a b m ≡ false → in_use a b (without c n ms) ≡ false
          → in_use a b (cond t (without c n ms) (m ∷ without c n ms)) ≡ false
      go true p q = q
      go false p q = rw p q

  pub placed-without : (ms : List Filed) → Placed ms → Placed (without c n ms)
  unfolding without
  placed-without [] none_filed = none_filed
  placed-without (m ∷ ms) (one_more u lc ln ps) = go (is_at c n m) (placed-without ms ps)
    where
      go : (t : Bool) → Placed (without c n ms) → Placed (cond t (without c n ms) (m ∷ without c n ms))
      go true q = q
      go false q = one_more (unused-stays m.client m.number ms u) lc ln q

  -- Another client's numbers.
  pub in_use-other : (d k : ℕ) → (c ≡ d → ⊥) → (ms : List Filed) → in_use d k (without c n ms) ≡ in_use d k ms
  unfolding in_use without
  in_use-other d k h [] = refl
  in_use-other d k h (m ∷ ms) = go (is_at c n m) refl (in_use-other d k h ms)
    where
      go : (t : Bool) → is_at c n m ≡ t → in_use d k (without c n ms) ≡ in_use d k ms
          → in_use d k (cond t (without c n ms) (m ∷ without c n ms)) ≡ (is_at d k m || in_use d k ms)
      go true e ih =
          let p = both_true (eqb m.client c) (eqb m.number n) e in
          let q : m.client ≡ c = eqb-true m.client c p.0 in
          let z : eqb m.client d ≡ false = ne_eqb m.client d (λ x. h (sym q ∙ x)) in
          rw z ih
      go false e ih = ap (λ (b : Bool). is_at d k m || b) ih
