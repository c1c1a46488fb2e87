-- Lists of calls: the bytes charged are the lengths filed and not yet released.
use Rattle.base.specs.declared.Refusal.{Refusal}
use Rattle.std.specs.Prelude.{Ok, Err, Some, None, Result, Option}
use mathlib.Core.Path.{◌≡◌, refl, ap, sym, ◌∙◌}
use mathlib.Core.Bool.{Bool, true, false, cond, ◌||◌}
use mathlib.Core.List.{List, [], ◌∷◌}
use Prim.Native.Nat.{ℕ, ◌+◌, ◌≤◌, ◌<◌}
use native.Mathlib.Omega.{arith}
use lib.Dec.{eqb}
use borrow.Author.Tests.{eq-eqb, ne_eqb}
use Rattle.base.specs.Sums.{sum_below}
use Rattle.store.specs.Store.{Filed, Sound, Store, charged, clients, is_at, overflow, reserve, used, without}
use Rattle.store.specs.Calls.{
  Call,
  Change,
  adds,
  changed_filed,
  changes,
  charge_of,
  file,
  file_answer,
  file_change,
  is_refusal,
  next,
  nothing,
  outstanding,
  outstanding_in_all,
  release,
  release_answer,
  release_change,
  released_in,
  store_after,
  takes,
}
use Rattle.store.proofs.Sums.{sum_at, sum_le, sum-plus, sum_same, sum_zero}
use Rattle.store.proofs.Steps.{free, place_means, sound_next}

-- ---- what is charged to a client

-- The bytes charged to a client for those of the messages that are not released.
unfoldable survive : ℕ → (Filed → Bool) → List Filed → ℕ
survive c g [] = 0
survive c g (m ∷ ms) = cond (g m) 0 (cond (eqb m.client c) m.charge 0) + survive c g ms

all_survive : (c : ℕ) (ms : List Filed) → survive c (λ (m : Filed). false) ms ≡ charged c ms
unfolding survive charged
all_survive c [] = refl
all_survive c (m ∷ ms) = ap (λ (k : ℕ). cond (eqb m.client c) m.charge 0 + k) (all_survive c ms)

survive-without : (c d n : ℕ) (g : Filed → Bool) (ms : List Filed)
    → survive c g (without d n ms) ≡ survive c (λ (m : Filed). is_at d n m || g m) ms
unfolding survive without
survive-without c d n g [] = refl
survive-without c d n g (m ∷ ms) = go (is_at d n m) (survive-without c d n g ms)
  where
    go : (t : Bool) → survive c g (without d n ms) ≡ survive c (λ (m : Filed). is_at d n m || g m) ms
        → survive c g (cond t (without d n ms) (m ∷ without d n ms))
        ≡ cond (t || g m) 0 (cond (eqb m.client c) m.charge 0) + survive c (λ (m : Filed). is_at d n m || g m) ms
    go true e = omega (arith, e)
    go false e = ap (λ (k : ℕ). cond (g m) 0 (cond (eqb m.client c) m.charge 0) + k) e

-- The messages after changes.
unfoldable filed_after_lem : List Filed → List Change → List Filed
filed_after_lem ms [] = ms
filed_after_lem ms (x ∷ xs) = filed_after_lem (changed_filed ms x) xs

kept : (c : ℕ) (xs : List Change) (ms : List Filed) → charged c (filed_after_lem ms xs) ≡ survive c (released_in xs) ms + outstanding c xs
unfolding filed_after_lem released_in outstanding survive
kept c [] ms = omega (arith, all_survive c ms)
kept c (adds m ∷ xs) ms = omega (arith, kept c xs (m ∷ ms))
kept c (takes d n ∷ xs) ms = kept c xs (without d n ms) ∙ ap (λ (k : ℕ). k + outstanding c xs) (survive-without c d n (released_in xs) ms)
kept c (nothing ∷ xs) ms = kept c xs ms

filed_after : (s : Store) (xs : List Call) → (store_after s xs).filed ≡ filed_after_lem s.filed (changes s xs)
unfolding store_after filed_after_lem changes
filed_after s [] = refl
filed_after s (x ∷ xs) = filed_after (next s x) xs

pub charges : (s : Store) (xs : List Call) → s.filed ≡ [] → (c : ℕ) → used (store_after s xs) c ≡ outstanding c (changes s xs)
unfolding survive
charges s xs e c =
    ap (charged c) (filed_after s xs) ∙ kept c (changes s xs) s.filed
    ∙ ap (λ (ms : List Filed). survive c (released_in (changes s xs)) ms + outstanding c (changes s xs)) e
    ∙ zero-front (outstanding c (changes s xs))
  where
    zero-front : (k : ℕ) → 0 + k ≡ k
    zero-front k = omega arith

-- ---- what is charged in all

-- Every message of a history names a client.
data Named : List Change → Type 0 where
  no_change : Named []
  and_adds : {m : Filed} {xs : List Change} → m.client < clients → Named xs → Named (adds m ∷ xs)
  and_takes : {c n : ℕ} {xs : List Change} → Named xs → Named (takes c n ∷ xs)
  and_nothing : {xs : List Change} → Named xs → Named (nothing ∷ xs)

-- A charge to one client, summed over the clients.
one_client : (d : ℕ) → d < clients → (k : ℕ) → sum_below clients (λ (c : ℕ). cond (eqb d c) k 0) ≡ k
one_client d l k =
    let f : ℕ → ℕ = λ c. cond (eqb d c) k 0 in
    let g : ℕ → ℕ = λ c. 0 in
    let h : f d ≡ k = ap (λ (t : Bool). cond t k 0) (eq-eqb d d refl) in
    let o : (c : ℕ) → (c ≡ d → ⊥) → f c ≡ g c = λ c q. ap (λ (t : Bool). cond t k 0) (ne_eqb d c (λ e. q (sym e))) in
    omega (arith, sum_at clients f g d l o, sum_zero clients g (λ c. refl))

sum-outstanding : (xs : List Change) → Named xs → sum_below clients (λ (c : ℕ). outstanding c xs) ≡ outstanding_in_all xs
unfolding outstanding outstanding_in_all
sum-outstanding [] no_change = sum_zero clients (λ (c : ℕ). 0) (λ c. refl)
sum-outstanding (adds m ∷ xs) (and_adds l h) = go (released_in xs m) (sum-outstanding xs h)
  where
    own : Bool → ℕ → ℕ
    own t c = cond t 0 (cond (eqb m.client c) m.charge 0)

    go : (t : Bool) → sum_below clients (λ (c : ℕ). outstanding c xs) ≡ outstanding_in_all xs
        → sum_below clients (λ (c : ℕ). own t c + outstanding c xs) ≡ cond t 0 m.charge + outstanding_in_all xs
    go true e = omega (arith, sum-plus clients (own true) (λ (c : ℕ). outstanding c xs), sum_zero clients (own true) (λ c. refl))
    go false e =
        omega (arith, sum-plus clients (own false) (λ (c : ℕ). outstanding c xs), one_client m.client l m.charge)
sum-outstanding (takes c n ∷ xs) (and_takes h) = sum-outstanding xs h
sum-outstanding (nothing ∷ xs) (and_nothing h) = sum-outstanding xs h

named : (s : Store) (xs : List Call) → Named (changes s xs)
unfolding changes
named s [] = no_change
named s (file text policy c n out ∷ xs) =
    go (file_answer s text policy c n out) refl (named (next s (file text policy c n out)) xs)
  where
    m : Filed
    m = record { client = c; number = n; charge = charge_of text policy }

    more : {ys : List Change} → is_refusal (file_answer s text policy c n out) ≡ false → Named ys → Named (adds m ∷ ys)
    more e h = and_adds (place_means c n (free s text policy c n out e).place).0 h

    go : {ys : List Change} (a : Result (Option ℕ) Refusal) → file_answer s text policy c n out ≡ a → Named ys
        → Named (file_change m a ∷ ys)
    go (Ok None) e h = more (ap is_refusal e) h
    go (Ok (Some l)) e h = more (ap is_refusal e) h
    go (Err r) e h = and_nothing h
named s (release c n ∷ xs) = go (release_answer s c n) (named (next s (release c n)) xs)
  where
    go : {ys : List Change} (a : Result ℕ Refusal) → Named ys → Named (release_change c n a ∷ ys)
    go (Ok k) h = and_takes h
    go (Err r) h = and_nothing h

pub charges_in_all : (s : Store) (xs : List Call) → s.filed ≡ []
    → sum_below clients (used (store_after s xs)) ≡ outstanding_in_all (changes s xs)
charges_in_all s xs e =
    sum_same clients (used (store_after s xs)) (λ (c : ℕ). outstanding c (changes s xs)) (λ c l. charges s xs e c)
    ∙ sum-outstanding (changes s xs) (named s xs)

-- ---- what is kept

pub same_capacity : (s : Store) (xs : List Call) → (store_after s xs).capacity ≡ s.capacity
unfolding store_after
same_capacity s [] = refl
same_capacity s (x ∷ xs) = same_capacity (next s x) xs

pub same_reserves : (s : Store) (xs : List Call) → (store_after s xs).reserves ≡ s.reserves
unfolding store_after
same_reserves s [] = refl
same_reserves s (x ∷ xs) = same_reserves (next s x) xs

pub sound_after : (s : Store) → Sound s → (xs : List Call) → Sound (store_after s xs)
unfolding store_after
sound_after s h [] = h
sound_after s h (x ∷ xs) = sound_after (next s x) (sound_next s h x) xs

-- All clients together use at most the capacity.
pub within_capacity : (s : Store) → Sound s → sum_below clients (used s) ≤ s.capacity
within_capacity s h =
    let a = sum_le clients (used s) (λ (d : ℕ). reserve s d + overflow s d) (λ d. omega arith) in
    let b = sum-plus clients (reserve s) (overflow s) in
    let r = h.reserved in
    let o = h.holds in
    omega arith
