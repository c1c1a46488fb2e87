-- What the test of a feed gives, and the text and the counts of the held base.
use Rattle.std.specs.Prelude.{Some, None, Option}
use mathlib.Core.Path.{◌≡◌, refl, ap, sym, ◌∙◌}
use mathlib.Core.Bool.{Bool, true, false, cond, ◌&&◌}
use mathlib.Core.List.{List, [], ◌∷◌, ◌++◌, map}
use Prim.Native.Nat.{ℕ, zero, suc, ◌+◌, ◌-◌, ◌≤◌, ◌<◌}
use native.Mathlib.Omega.{arith}
use lib.Dec.{eqb, leb}
use lib.ListN.{drop, length, length-append, length-replicate}
use borrow.Author.Tests.{eq-eqb, eqb-false, eqb-true, leb-true, ne_eqb}
use Rattle.base.specs.Words.{word_at}
use Rattle.base.specs.Output.{PutAt}
use Rattle.base.specs.Refusals.{text_limit}
use Rattle.base.proofs.Tests.{both_true}
use Rattle.base.proofs.Writer.{put_as, put_then}
use Rattle.utf8.specs.Rfc3629.{encode, encode_all, is_scalar}
use Rattle.utf8.specs.Subparts.{unfinished}
use Rattle.emoji.specs.Presentation.{as_selector}
use Rattle.emoji.specs.declared.presentation.Presentation.{Presentation}
use Rattle.policy.specs.PolicyBytes.{is_policy}
use Rattle.policy.specs.declared.Policy.{Policy}
use Rattle.scanner.specs.declared.char_class.Class.{Class}
use Rattle.analysis.specs.Analysis.{chosen}
use Rattle.analysis.specs.Counts.{◌⊕◌, capped_sum, empty, total}
use Rattle.analysis.specs.Rules.{outcome, run_with}
use Rattle.analysis.specs.declared.singleton.Outcome.{Outcome}
use Rattle.analysis.specs.declared.types.NonCanonicality.{NonCanonicality}
use Rattle.analysis.proofs.Measuring.{few}
use Rattle.analysis.proofs.Sums.{whole_sum}
use Rattle.feed.specs.Feed.{Effect, base, nothing, settle, no_effect}
use Rattle.feed.specs.declared.Held.{Held}
use Rattle.feed.specs.Bytes.{counts_of, held_of, is_feed, pending_of, policy_part, rest_of, small_to, state_of}

-- ---- what the test of a feed gives

module _ (bs : List ℕ) (h : is_feed bs ≡ true) where
  abbrev scalar : Bool
  scalar = is_scalar (state_of bs).held.base

  abbrev rest : Bool
  rest = unfinished (rest_of (state_of bs))

  abbrev policy : Bool
  policy = is_policy (drop 120 bs)

  tests : (length bs ≡ 320) × (small_to 15 bs ≡ true) × (scalar ≡ true) × (rest ≡ true) × (policy ≡ true)
  unfolding is_feed
  tests =
      let a = both_true (eqb (length bs) 320) (small_to 15 bs && (scalar && (rest && policy))) h in
      let b = both_true (small_to 15 bs) (scalar && (rest && policy)) a.1 in
      let c = both_true scalar (rest && policy) b.1 in
      let d = both_true rest policy c.1 in
      (eqb-true (length bs) 320 a.0, b.0, c.0, d.0, d.1)

  pub feed_length : length bs ≡ 320
  feed_length = tests.0

  pub feed_small : small_to 15 bs ≡ true
  feed_small = tests.1

  pub feed_scalar : is_scalar (state_of bs).held.base ≡ true
  feed_scalar = tests.2

  pub feed_unfinished : unfinished (rest_of (state_of bs)) ≡ true
  feed_unfinished = tests.3

small_at : (bs : List ℕ) (n k : ℕ) → small_to n bs ≡ true → k < n → word_at k bs ≤ text_limit
unfolding small_to
small_at bs zero k e h = absurd (omega arith)
small_at bs (suc n) k e h = go (eqb k n) refl (λ l. small_at bs n k p.1 l)
  where
    p : (leb (word_at n bs) text_limit ≡ true) × (small_to n bs ≡ true)
    p = both_true (leb (word_at n bs) text_limit) (small_to n bs) e

    lt_of : (a b : ℕ) → (a ≡ b → ⊥) → a < suc b → a < b
    lt_of a b m l = omega arith

    go : (t : Bool) → eqb k n ≡ t → (k < n → word_at k bs ≤ text_limit) → word_at k bs ≤ text_limit
    go true q r =
        let m = eqb-true k n q in
        let w : word_at k bs ≡ word_at n bs = ap (λ (j : ℕ). word_at j bs) m in
        omega (arith, leb-true (word_at n bs) text_limit p.0)
    go false q r = r (lt_of k n (eqb-false k n q) h)

-- No total is above the limit.
pub few-stored : (bs : List ℕ) → is_feed bs ≡ true → total (state_of bs).counts ≤ 134217728
unfolding state_of counts_of
few-stored bs h =
    let s = feed_small bs h in
    omega (
      arith,
      small_at bs 15 7 s (omega arith),
      small_at bs 15 8 s (omega arith),
      small_at bs 15 9 s (omega arith),
      small_at bs 15 10 s (omega arith),
      small_at bs 15 11 s (omega arith),
      small_at bs 15 12 s (omega arith),
      small_at bs 15 13 s (omega arith),
      small_at bs 15 14 s (omega arith),
    )

pub few-held : (bs : List ℕ) → is_feed bs ≡ true → (state_of bs).held.count ≤ 16777216
unfolding state_of held_of
few-held bs h = small_at bs 15 3 (feed_small bs h) (omega arith)

pub short_len : (bs : List ℕ) → is_feed bs ≡ true → (state_of bs).len ≤ 16777216
unfolding state_of
short_len bs h = small_at bs 15 6 (feed_small bs h) (omega arith)

-- ---- the held base

run-few : (f : Option Presentation) (n : ℕ) → length (run_with f n) ≤ n + 1
unfolding run_with
run-few None n = omega arith
run-few (Some q) n = omega (arith, length-replicate (n - 1) q)

module _ (p : Policy) (h : Held) (k : Class) where
  abbrev O : Outcome
  O = outcome p h.base k (run_with h.first h.count)

  abbrev some-said : Effect
  some-said = record { text = h.base ∷ map as_selector (chosen O.slot []); counts = O.counts }

  pub settle-none : h.base ≡ 0 → settle (pending_of p h) k ≡ no_effect
  unfolding settle
  settle-none e = ap (λ (t : Bool). settle (cond t nothing (base p h.base h.first h.count)) k) (eq-eqb h.base 0 e)

  pub settle-some : (h.base ≡ 0 → ⊥) → settle (pending_of p h) k ≡ some-said
  unfolding settle
  settle-some e = ap (λ (t : Bool). settle (cond t nothing (base p h.base h.first h.count)) k) (ne_eqb h.base 0 e)

  pub counts_none : {r : NonCanonicality} → h.base ≡ 0 → r ≡ empty → r ≡ (settle (pending_of p h) k).counts
  counts_none e q = q ∙ ap (λ (s : Effect). s.counts) (sym (settle-none e))

  pub counts_some : (o : Outcome) → (h.base ≡ 0 → ⊥) → o ≡ O → o.counts ≡ (settle (pending_of p h) k).counts
  counts_some o e q = ap (λ (x : Outcome). x.counts) q ∙ ap (λ (s : Effect). s.counts) (sym (settle-some e))

  pub put_none : (o : List ℕ) (at : ℕ) → h.base ≡ 0 → PutAt o at (encode_all (settle (pending_of p h) k).text) o at
  unfolding encode_all
  put_none o at e =
      put_as (encode_all (settle (pending_of p h) k).text) (ap (λ (s : Effect). encode_all s.text) (sym (settle-none e)))
      (record { ends = omega arith; bytes = refl })

  pub put_some : (x : Outcome) (f : Option Presentation) {o o₁ o₂ : List ℕ} {at b r : ℕ} → (h.base ≡ 0 → ⊥) → x ≡ O → run_with f 1
      ≡ chosen x.slot []
      → PutAt o at (encode h.base) o₁ b → PutAt o₁ b (encode_all (map as_selector (run_with f 1))) o₂ r
      → PutAt o at (encode_all (settle (pending_of p h) k).text) o₂ r
  unfolding encode_all
  put_some x f e q g u v =
      put_as (encode_all (settle (pending_of p h) k).text)
      (ap (λ (l : List Presentation). encode h.base ++ encode_all (map as_selector l)) (g ∙ ap (λ (y : Outcome). chosen y.slot []) q)
      ∙ ap (λ (s : Effect). encode_all s.text) (sym (settle-some e)))
      (put_then u v)

  -- The bytes of a base: its own, and those of its selector.
  pub some-room : (x : Outcome) → (h.base ≡ 0 → ⊥) → x ≡ O
      → length (encode_all (settle (pending_of p h) k).text) ≡ length (encode h.base) + length
      (encode_all (map as_selector (chosen x.slot [])))
  unfolding encode_all
  some-room x e q =
      ap (λ (s : Effect). length (encode_all s.text)) (settle-some e)
      ∙ length-append (encode h.base) (encode_all (map as_selector (chosen O.slot [])))
      ∙ ap (λ (y : Outcome). length (encode h.base) + length (encode_all (map as_selector (chosen y.slot [])))) (sym q)

  pub settle-few : total (settle (pending_of p h) k).counts ≤ h.count + 2
  settle-few = go (eqb h.base 0) refl
    where
      go : (t : Bool) → eqb h.base 0 ≡ t → total (settle (pending_of p h) k).counts ≤ h.count + 2
      go true e = omega (arith, ap (λ (s : Effect). total s.counts) (settle-none (eqb-true h.base 0 e)))
      go false e =
          omega (
            arith,
            ap (λ (s : Effect). total s.counts) (settle-some (eqb-false h.base 0 e)),
            few p h.base k
                (run_with h.first h.count),
            run-few h.first h.count,
          )

-- ---- the totals

pub sum_now : (bs : List ℕ) (k : Class) → is_feed bs ≡ true
    → capped_sum (state_of bs).counts (settle (pending_of (policy_part bs) (state_of bs).held) k).counts ≡ (state_of bs).counts ⊕ (settle
    (pending_of (policy_part bs) (state_of bs).held) k).counts
sum_now bs k h =
    whole_sum (state_of bs).counts (settle (pending_of (policy_part bs) (state_of bs).held) k).counts
    (omega (arith, few-stored bs h, few-held bs h, settle-few (policy_part bs) (state_of bs).held k))

-- Bytes of another length are no feed.
pub other_length : (bs : List ℕ) → (length bs ≡ 320 → ⊥) → is_feed bs ≡ false
other_length bs n = go (is_feed bs) refl
  where
    go : (t : Bool) → is_feed bs ≡ t → is_feed bs ≡ false
    go true e = absurd (n (feed_length bs e))
    go false e = e
