-- Beginning: the words of a new store, the test of the reserves, and the outcome by the tests.
use Rattle.base.specs.declared.Refusal.{Refusal}
use Rattle.std.specs.Prelude.{Ok, Err, Result}
use mathlib.Core.Path.{◌≡◌, refl, ap, ap₂, sym, ◌∙◌}
use mathlib.Core.Bool.{Bool, true, false}
use mathlib.Core.List.{List, ◌++◌}
use Prim.Native.Nat.{ℕ, zero, suc, ◌+◌, ◌*◌, ◌-◌, ◌/◌, ◌%◌, ◌≤◌, ◌<◌}
use native.Mathlib.Omega.{arith}
use lib.Dec.{eqb, leb, ltb}
use lib.ListN.{get_or-eq_default, drop, drop_of_length-le, get_or, length, take}
use lib.Seq.{sets, sets-eq}
use borrow.Author.Tests.{eq-eqb, eqb-true, le-leb, leb-true, lt-leb, ltb-false, ltb-true}
use Rattle.base.specs.Sums.{sum_below}
use Rattle.base.proofs.Answering.{ends_as}
use Rattle.base.proofs.Numbers.{length_bytes_of_lem}
use Rattle.base.proofs.Tests.{and_both, both_true, fails}
use Rattle.base.proofs.Writer.{Writing, begin}
use Rattle.base.specs.Answers.{EndsAs, answer_row}
use Rattle.base.specs.Refusals.{After}
use Rattle.base.specs.Words.{bytes_of, number, word_at}
use Rattle.base.specs.declared.Refusal.TheVariants.{BadClientOrNumber, DoesNotFit, OutputTooShort}
use Rattle.policy.specs.PolicyBytes.{numbers_of}
use Rattle.policy.proofs.Bytes.{get_or-words_from, length_words_from}
use Rattle.store.specs.Bytes.{begin_call, new_bytes, new_words, store_bytes}
use Rattle.store.proofs.Beginning.{Fit, Whole, begin_is, by_tests_lem, few_reserves, new_bytes_length, new_length}
use Rattle.store.proofs.Sums.{sum_same}
use Rattle.store.proofs.Words.{padded}
use Rattle.storing.proofs.Sums.{sum-next}

-- ---- the words of a new store

pub reserve-word : (rb : List ℕ) → length rb % 8 ≡ 0 → (c : ℕ) → word_at c rb ≡ get_or (numbers_of rb) c 0
unfolding number
reserve-word rb h c = go (ltb c (length rb / 8)) refl
  where
    e : 8 * c ≡ 0 + c * 8
    e = omega arith

    go : (t : Bool) → ltb c (length rb / 8) ≡ t → word_at c rb ≡ get_or (numbers_of rb) c 0
    go true q =
        ap (λ (i : ℕ). number (take 8 (drop i rb))) e ∙ sym (get_or-words_from (length rb / 8) 0 rb c (ltb-true c (length rb / 8) q))
    go false q =
        let l : length rb / 8 ≤ c = ltb-false c (length rb / 8) q in
        let m : length rb ≤ 8 * c = omega arith in
        ap (λ (l : List ℕ). number (take 8 l)) (drop_of_length-le rb m)
        ∙ sym (get_or-eq_default (numbers_of rb) 0 (omega (arith, length_words_from (length rb / 8) 0 rb)))

pub next_word : (C : ℕ) (rb : List ℕ) → length rb % 8 ≡ 0 → (k : ℕ) → (k ≡ 0 → ⊥)
    → word_at (k - 1) rb ≡ get_or (new_words C (numbers_of rb)) k 0
next_word C rb h zero n = absurd (n refl)
next_word C rb h (suc i) n =
    let e : suc i - 1 ≡ i = omega arith in
    ap (λ (j : ℕ). word_at j rb) e ∙ reserve-word rb h i ∙ sym (padded (numbers_of rb) (4128 - length (numbers_of rb)) i)

pub begin_new : (C : ℕ) (rs st : List ℕ) → length rs ≤ 16 → 33032 ≤ length st
    → Writing (bytes_of (new_words C rs)) 0 st (bytes_of (new_words C rs)) st 0
begin_new C rs st h l = begin (bytes_of (new_words C rs)) 0 st (omega (arith, length_bytes_of_lem (new_words C rs), new_length C rs h))

-- ---- the reserves fit

sum_up : (f : ℕ → ℕ) (m k : ℕ) → sum_below m f ≤ sum_below (m + k) f
sum_up f m zero = let e : m + 0 ≡ m = omega arith in omega (arith, ap (λ (n : ℕ). sum_below n f) e)
sum_up f m (suc k) =
    let e : m + suc k ≡ m + k + 1 = omega arith in
    omega (arith, sum_up f m k, sum-next f (m + k), ap (λ (n : ℕ). sum_below n f) e)

module _ (f : ℕ → ℕ) (C n r w : ℕ) (inv : r + sum_below n f ≡ C) (e : w ≡ f n) where
  pub sum-passes : n < 16 → r < w → false ≡ leb (sum_below 16 f) C
  sum-passes l h =
      let s : n + 1 + (15 - n) ≡ 16 = omega arith in
      sym (lt-leb (sum_below 16 f) C (omega (arith, sum_up f (n + 1) (15 - n), sum-next f n, ap (λ (k : ℕ). sum_below k f) s)))

  pub sum_goes : w ≤ r → (r - w) + sum_below (n + 1) f ≡ C
  sum_goes h = omega (arith, sum-next f n)

pub sum_fits : (f : ℕ → ℕ) (C n r : ℕ) → n ≡ 16 → r + sum_below n f ≡ C → true ≡ leb (sum_below 16 f) C
sum_fits f C n r e inv = sym (le-leb (sum_below 16 f) C (omega (arith, ap (λ (k : ℕ). sum_below k f) e)))

pub sum_starts : (f : ℕ → ℕ) (C : ℕ) → C + sum_below 0 f ≡ C
unfolding sum_below
sum_starts f C = omega arith

-- ---- the outcome

module _ (C : ℕ) (rb st : List ℕ) where
  abbrev rs : List ℕ
  rs = numbers_of rb

  abbrev tests : Bool → Bool → Bool → After (Result ℕ Refusal) ℕ
  tests = by_tests_lem C rb st

  pub begin_short : length st < store_bytes → EndsAs answer_row (begin_call C rb st) (Err (OutputTooShort store_bytes)) st
  begin_short h =
      ends_as (sym (begin_is C rb st ∙ ap (λ (t : Bool). tests t (Whole C rb st) (Fit C rb st)) (lt-leb store_bytes (length st) h)))

  module _ (l : store_bytes ≤ length st) where
    pub begin-odd : ((length rb % 8 ≡ 0) → length rb ≤ 128 → ⊥) → EndsAs answer_row (begin_call C rb st) (Err BadClientOrNumber) st
    begin-odd h =
        ends_as (sym (begin_is C rb st
        ∙ ap₂ (λ (t u : Bool). tests t u (Fit C rb st)) (le-leb store_bytes (length st) l)
        (fails (Whole C rb st)
        (λ e.
        let p = both_true (eqb (length rb % 8) 0) (leb (length rb) 128) e in
        h (eqb-true (length rb % 8) 0 p.0) (leb-true (length rb) 128 p.1)))))

    module _ (z : length rb % 8 ≡ 0) (m : length rb ≤ 128) where
      whole : Whole C rb st ≡ true
      whole = and_both (eqb (length rb % 8) 0) (leb (length rb) 128) (eq-eqb (length rb % 8) 0 z) (le-leb (length rb) 128 m)

      abbrev fit : Bool
      fit = leb (sum_below 16 (λ (c : ℕ). word_at c rb)) C

      same-fit : fit ≡ Fit C rb st
      same-fit =
          ap (λ (k : ℕ). leb k C)
          (sum_same 16 (λ (c : ℕ). word_at c rb) (λ (c : ℕ). get_or rs c 0) (λ d q. reserve-word rb z d))

      at : (t : Bool) → fit ≡ t → begin_call C rb st ≡ tests true true t
      at t e =
          begin_is C rb st ∙ ap₂ (λ (t u : Bool). tests t u (Fit C rb st)) (le-leb store_bytes (length st) l) whole
          ∙ ap (λ (u : Bool). tests true true u) (sym same-fit ∙ e)

      pub begin-passed : fit ≡ false → EndsAs answer_row (begin_call C rb st) (Err (DoesNotFit C)) st
      begin-passed e = ends_as (sym (at false e))

      pub begin_done : fit ≡ true → (st' : List ℕ) → st' ≡ sets st 0 (new_bytes C rs)
          → EndsAs answer_row (begin_call C rb st) (Ok store_bytes) st'
      begin_done e st' h =
          let n = new_bytes_length C rs (few_reserves rb m) in
          ends_as (ap (λ (b : List ℕ). made b)
          (h ∙ sets-eq (new_bytes C rs) st 0 (omega arith)
          ∙ ap (λ (k : ℕ). new_bytes C rs ++ drop k st) (zero-front (length (new_bytes C rs)))) ∙ sym (at true e))
        where
          made : List ℕ → After (Result ℕ Refusal) ℕ
          made b = record { answer = Ok store_bytes; buffer = b }

          zero-front : (k : ℕ) → 0 + k ≡ k
          zero-front k = omega arith
