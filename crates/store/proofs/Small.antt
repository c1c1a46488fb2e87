-- What a client uses is the sum over its numbers, and each message is short.
use Rattle.base.specs.declared.Refusal.{Refusal}
use Rattle.std.specs.Prelude.{Ok, Err, Some, None, Result, Option}
use mathlib.Core.Path.{◌≡◌, refl, ap, sym, ◌∙◌, subst}
use mathlib.Core.Bool.{Bool, true, false, cond, ◌&&◌}
use mathlib.Core.List.{List, [], ◌∷◌}
use Prim.Native.Nat.{ℕ, zero, suc, ◌+◌, ◌*◌, ◌≤◌, ◌<◌}
use native.Mathlib.Nat.{suc-mul}
use native.Mathlib.Omega.{arith}
use lib.Dec.{eqb}
use borrow.Author.Tests.{eq-eqb, eqb-true}
use Rattle.base.specs.Sums.{sum_below}
use Rattle.base.proofs.Tests.{and_both, both_true, fails}
use Rattle.base.specs.Refusals.{text_limit}
use Rattle.store.specs.Store.{
  Filed,
  Placed,
  Sound,
  Store,
  charge_at,
  charged,
  in_use,
  is_at,
  none_filed,
  numbers,
  one_more,
  used,
  without,
}
use Rattle.store.specs.Calls.{
  Call,
  changed_filed,
  charge_of,
  file,
  file_answer,
  file_change,
  is_refusal,
  next,
  release,
  release_answer,
  release_change,
  store_after,
}
use Rattle.store.proofs.Formats.{format_small}
use Rattle.store.proofs.Sums.{sum_at, sum_same, sum_zero}
use Rattle.store.proofs.Messages.{none-charged}
use Rattle.store.proofs.Steps.{file_claim}

-- ---- a client's numbers

pub row-sum : (c : ℕ) (ms : List Filed) → Placed ms → charged c ms ≡ sum_below numbers (λ (n : ℕ). charge_at c n ms)
unfolding charged charge_at
row-sum c [] none_filed = sym (sum_zero numbers (λ (n : ℕ). 0) (λ d. refl))
row-sum c (m ∷ ms) (one_more u lc ln ps) = go (eqb m.client c) refl (row-sum c ms ps)
  where
    f : ℕ → ℕ
    f n = cond (is_at c n m) m.charge (charge_at c n ms)

    g : ℕ → ℕ
    g n = charge_at c n ms

    go : (t : Bool) → eqb m.client c ≡ t → charged c ms ≡ sum_below numbers g → cond t m.charge 0 + charged c ms ≡ sum_below numbers f
    go true e h =
        let q = eqb-true m.client c e in
        let own = and_both (eqb m.client c) (eqb m.number m.number) e (eq-eqb m.number m.number refl) in
        let here : f m.number ≡ m.charge = ap (λ (b : Bool). cond b m.charge (charge_at c m.number ms)) own in
        let gone : g m.number ≡ 0 = none-charged c m.number ms (ap (λ (x : ℕ). in_use x m.number ms) (sym q) ∙ u) in
        let no : (d : ℕ) → (d ≡ m.number → ⊥) → is_at c d m ≡ false =
        λ d n. fails (is_at c d m) (λ y. n (sym (eqb-true m.number d (both_true (eqb m.client c) (eqb m.number d) y).1))) in
        let rest : (d : ℕ) → (d ≡ m.number → ⊥) → f d ≡ g d =
        λ d n. ap (λ (b : Bool). cond b m.charge (charge_at c d ms)) (no d n) in
        omega (arith, sum_at numbers f g m.number ln rest)
    go false e h =
        let rest : (d : ℕ) → d < numbers → f d ≡ g d =
        λ d l. ap (λ (b : Bool). cond (b && eqb m.number d) m.charge (charge_at c d ms)) e in
        omega (arith, sum_same numbers f g rest)

sum_bound : (n : ℕ) (f : ℕ → ℕ) (k : ℕ) → ((d : ℕ) → f d ≤ k) → sum_below n f ≤ n * k
unfolding sum_below
sum_bound zero f k h = omega arith
sum_bound (suc n) f k h = omega (arith, sum_bound n f k h, h n, step n k)
  where
    step : (n k : ℕ) → suc n * k ≡ n * k + k
    step n k = suc-mul n k

-- ---- short messages

abbrev most : ℕ
most = 4 * text_limit

data Short : List Filed → Type 0 where
  none_short : Short []
  and_short : {m : Filed} {ms : List Filed} → m.charge ≤ most → Short ms → Short (m ∷ ms)

short_at : (c n : ℕ) (ms : List Filed) → Short ms → charge_at c n ms ≤ most
unfolding charge_at
short_at c n [] none_short = omega arith
short_at c n (m ∷ ms) (and_short l s) = go (is_at c n m) (short_at c n ms s)
  where
    go : (t : Bool) → charge_at c n ms ≤ most → cond t m.charge (charge_at c n ms) ≤ most
    go true h = l
    go false h = h

short-without : (c n : ℕ) (ms : List Filed) → Short ms → Short (without c n ms)
unfolding without
short-without c n [] none_short = none_short
short-without c n (m ∷ ms) (and_short l s) = go (is_at c n m) (short-without c n ms s)
  where
    go : (t : Bool) → Short (without c n ms) → Short (cond t (without c n ms) (m ∷ without c n ms))
    go true h = h
    go false h = and_short l h

short-next : (s : Store) → Short s.filed → (x : Call) → Short (next s x).filed
short-next s h (file text policy c n out) = go (file_answer s text policy c n out) refl
  where
    m : Filed
    m = record { client = c; number = n; charge = charge_of text policy }

    more : is_refusal (file_answer s text policy c n out) ≡ false → Short (m ∷ s.filed)
    more e =
        let a = ((file_claim s text policy c n out).as_format_lem e).0 in
        and_short (format_small text policy out (ap is_refusal (sym a) ∙ e)) h

    go : (a : Result (Option ℕ) Refusal) → file_answer s text policy c n out ≡ a → Short (changed_filed s.filed (file_change m a))
    go (Ok None) e = more (ap is_refusal e)
    go (Ok (Some l)) e = more (ap is_refusal e)
    go (Err r) e = h
short-next s h (release c n) = go (release_answer s c n)
  where
    go : (a : Result ℕ Refusal) → Short (changed_filed s.filed (release_change c n a))
    go (Ok k) = short-without c n s.filed h
    go (Err r) = h

short-after : (s : Store) → Short s.filed → (xs : List Call) → Short (store_after s xs).filed
unfolding store_after
short-after s h [] = h
short-after s h (x ∷ xs) = short-after (next s x) (short-next s h x) xs

-- What a client uses after calls on a store that held nothing.
pub small_use : (s : Store) → s.filed ≡ [] → (xs : List Call) → Sound (store_after s xs) → (c : ℕ)
    → used (store_after s xs) c ≤ 256 * (4 * text_limit)
small_use s e xs h c =
    let ms = (store_after s xs).filed in
    let k = short-after s (subst Short (sym e) none_short) xs in
    omega (
      arith,
      row-sum c ms h.placed,
      sum_bound numbers (λ (n : ℕ). charge_at c n ms) most (λ d. short_at c d ms k),
    )
