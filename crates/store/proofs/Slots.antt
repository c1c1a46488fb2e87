-- The words of numbers: when a message is added or taken away.
use mathlib.Core.Path.{◌≡◌, refl, ap, sym, ◌∙◌}
use mathlib.Core.Bool.{Bool, true, false, cond, not, ◌&&◌, ◌||◌, true≢false}
use mathlib.Core.List.{List, [], ◌∷◌}
use Prim.Native.Nat.{ℕ, ◌+◌}
use native.Mathlib.Omega.{arith}
use lib.Dec.{eqb}
use borrow.Author.Tests.{eq-eqb, eqb-true, ne_eqb}
use Rattle.base.proofs.Tests.{and_both, both_true, fails}
use Rattle.store.specs.Store.{Filed, charge_at, in_use, is_at, without}
use Rattle.store.specs.Bytes.{slot}

abbrev pub message : ℕ → ℕ → ℕ → Filed
message c n k = record { client = c; number = n; charge = k }

pub slot-here : (c n k : ℕ) (ms : List Filed) → slot c n (message c n k ∷ ms) ≡ k + 1
unfolding slot
slot-here c n k ms = rw (and_both (eqb c c) (eqb n n) (eq-eqb c c refl) (eq-eqb n n refl))

pub slot_beside : (c n k : ℕ) (ms : List Filed) (d j : ℕ) → (c ≡ d → n ≡ j → ⊥) → slot d j (message c n k ∷ ms) ≡ slot d j ms
unfolding slot
slot_beside c n k ms d j h =
    let f : (eqb c d && eqb n j) ≡ false =
    fails (eqb c d && eqb n j) (λ e. let p = both_true (eqb c d) (eqb n j) e in h (eqb-true c d p.0) (eqb-true n j p.1)) in
    rw f

pub slot-taken : (c n : ℕ) (ms : List Filed) → slot c n (without c n ms) ≡ 0
unfolding slot without
slot-taken c n [] = refl
slot-taken c n (m ∷ ms) = go (is_at c n m) refl (slot-taken c n ms)
  where
    go : (t : Bool) → is_at c n m ≡ t → slot c n (without c n ms) ≡ 0 → slot c n (cond t (without c n ms) (m ∷ without c n ms)) ≡ 0
    go true e h = h
    go false e h = rw e h

pub slot-left : (c n : ℕ) (ms : List Filed) (d j : ℕ) → (c ≡ d → n ≡ j → ⊥) → slot d j (without c n ms) ≡ slot d j ms
unfolding slot without
slot-left c n [] d j h = refl
slot-left c n (m ∷ ms) d j h = go (is_at c n m) refl (slot-left c n ms d j h)
  where
    go : (t : Bool) → is_at c n m ≡ t → slot d j (without c n ms) ≡ slot d j ms
        → slot d j (cond t (without c n ms) (m ∷ without c n ms)) ≡ cond (is_at d j m) (m.charge + 1) (slot d j ms)
    go true e q =
        let p = both_true (eqb m.client c) (eqb m.number n) e in
        let x = sym (eqb-true m.client c p.0) in
        let y = sym (eqb-true m.number n p.1) in
        let f : is_at d j m ≡ false =
        fails (is_at d j m)
        (λ z.
        let r = both_true (eqb m.client d) (eqb m.number j) z in
        h (x ∙ eqb-true m.client d r.0) (y ∙ eqb-true m.number j r.1)) in
        rw f q
    go false e q = ap (λ (v : ℕ). cond (is_at d j m) (m.charge + 1) v) q

-- A number is in use where its word is not 0.
pub slot-used : (c n : ℕ) (ms : List Filed) → not (eqb (slot c n ms) 0) ≡ in_use c n ms
unfolding slot in_use
slot-used c n [] = refl
slot-used c n (m ∷ ms) = go (is_at c n m) (slot-used c n ms)
  where
    go : (t : Bool) → not (eqb (slot c n ms) 0) ≡ in_use c n ms → not (eqb (cond t (m.charge + 1) (slot c n ms)) 0) ≡ (t || in_use c n ms)
    go true h = ap not (ne_eqb (m.charge + 1) 0 (λ e. omega arith))
    go false h = h

pub slot-charge : (c n : ℕ) (ms : List Filed) → in_use c n ms ≡ true → slot c n ms ≡ charge_at c n ms + 1
unfolding slot in_use charge_at
slot-charge c n [] e = absurd (true≢false (sym e))
slot-charge c n (m ∷ ms) e = go (is_at c n m) e (slot-charge c n ms)
  where
    go : (t : Bool) → (t || in_use c n ms) ≡ true → (in_use c n ms ≡ true → slot c n ms ≡ charge_at c n ms + 1)
        → cond t (m.charge + 1) (slot c n ms) ≡ cond t m.charge (charge_at c n ms) + 1
    go true e h = refl
    go false e h = h e
