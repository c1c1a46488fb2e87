-- The runs that are written are the maximal ones, and their code points have the fewest digits.
use mathlib.Core.Path.{◌≡◌, refl, ap, sym, ◌∙◌, subst}
use mathlib.Core.Logic.{⊎_elim}
use mathlib.Core.Bool.{Bool, true, false, cond, true≢false}
use mathlib.Core.List.{List, [], ◌∷◌}
use Prim.Native.Nat.{ℕ, zero, suc, ◌+◌, ◌^◌, ◌≤◌, ◌<◌}
use native.Mathlib.Nat.{pow-suc}
use native.Mathlib.Omega.{arith}
use lib.Dec.{eqb, ltb}
use lib.ListN.{get_or, length, length-append}
use borrow.Author.Tests.{eqb-true, ltb-false}
use Rattle.base.specs.Ranges.{within}
use Rattle.base.proofs.Tests.{either_true, le_or_lt, within_in}
use Rattle.policy_sheet.specs.Grammar.{CodePoint, Digits, HexDigit, allowed_digits, of_digits, decimal, digits_and, letter, no_digits}
use Rattle.policy_sheet.proofs.Accepts.{allowed_six}
use Rattle.policy_sheet.specs.Theorems.{MaximalRuns, no_more, run_and}
use Rattle.policy_sheet.specs.Writer.{Run, fewest_digits, first_in, joined, runs_from, with_entry}

-- ---- maximal runs

-- One more entry at the front.
further : {q : ℕ → Bool} {c : ℕ} {cs : List ℕ} {n : ℕ} {rs : List Run} → MaximalRuns (λ (i : ℕ). q (suc i)) cs n rs
    → MaximalRuns q (c ∷ cs) (suc n) rs
further {q} {c} {cs} {n} (no_more f) = no_more (λ i h l. at i h l)
  where
    at : (i : ℕ) → suc n ≤ i → i < length (c ∷ cs) → q i ≡ false
    at zero h l = absurd (omega arith)
    at (suc i) h l = f i (omega arith) (omega arith)
further {q} {c} {cs} {n} (run_and from to a b l gap inside after more) =
    run_and {n = suc n} (suc from) (suc to) (omega arith) (omega arith) (omega arith) in-gap in-run (λ h. after (omega arith))
    (further more)
  where
    in-gap : (i : ℕ) → suc n ≤ i → i < suc from → q i ≡ false
    in-gap zero h l = absurd (omega arith)
    in-gap (suc i) h l = gap i (omega arith) (omega arith)

    in-run : (i : ℕ) → suc from ≤ i → i ≤ suc to → q i ≡ true
    in-run zero h l = absurd (omega arith)
    in-run (suc i) h l = inside i (omega arith) (omega arith)

-- The first entry does not pass.
not_first : {q : ℕ → Bool} {cs : List ℕ} {rs : List Run} → q 0 ≡ false → MaximalRuns q cs 1 rs → MaximalRuns q cs 0 rs
not_first {q} {cs} e (no_more f) = no_more at
  where
    at : (i : ℕ) → 0 ≤ i → i < length cs → q i ≡ false
    at zero h l = e
    at (suc i) h l = f (suc i) (omega arith) l
not_first {q} {cs} e (run_and from to a b l gap inside after more) = run_and {n = 0} from to (omega arith) b l at inside after more
  where
    at : (i : ℕ) → 0 ≤ i → i < from → q i ≡ false
    at zero h l = e
    at (suc i) h l = gap (suc i) (omega arith) l

module _ (q : ℕ → Bool) (c : ℕ) (cs : List ℕ) where
  alone : {rs : List Run} → q 0 ≡ true → (0 < length cs → q 1 ≡ false) → MaximalRuns (λ (i : ℕ). q (suc i)) cs 0 rs
      → MaximalRuns q (c ∷ cs) 0 (record { first = c; last = c } ∷ rs)
  alone e f m =
      run_and {n = 0} 0 0 (omega arith) (omega arith) (omega arith) (λ i h l. absurd (omega arith)) (λ i h l. ap q (omega arith)
      ∙ e) (λ h. f (omega arith)) (further m)

  join : {n : ℕ} {rs : List Run} → n ≡ 0 → q 0 ≡ true → 0 < length cs → q 1 ≡ true → MaximalRuns (λ (i : ℕ). q (suc i)) cs n rs
      → MaximalRuns q (c ∷ cs) 0 (joined c rs)
  unfolding joined
  join z e l t (no_more f) = absurd (true≢false (sym t ∙ f 0 (omega arith) l))
  join {n} z e l t (run_and {rs = us} from to a b m gap inside after more) = at_zero from refl
    where
      in-run : (i : ℕ) → from ≡ 0 → i ≤ suc to → q i ≡ true
      in-run zero p h = e
      in-run (suc i) p h = inside i (omega arith) (omega arith)

      at_zero : (k : ℕ) → from ≡ k → MaximalRuns q (c ∷ cs) 0 (record { first = c; last = get_or cs to 0 } ∷ us)
      at_zero zero p =
          run_and {n = 0} 0 (suc to) (omega arith) (omega arith) (omega arith) (λ i h l. absurd (omega arith)) (λ i h l. in-run i p l)
          (λ h. after (omega arith)) (further more)
      at_zero (suc k) p = absurd (true≢false (sym t ∙ gap 0 (omega arith) (omega arith)))

  with_entry_lem : (b n : Bool) (rs : List Run) → q 0 ≡ b → (n ≡ true → (0 < length cs) × (q 1 ≡ true))
      → (n ≡ false → 0 < length cs → q 1 ≡ false)
      → MaximalRuns (λ (i : ℕ). q (suc i)) cs 0 rs → MaximalRuns q (c ∷ cs) 0 (with_entry c b n rs)
  unfolding with_entry
  with_entry_lem false n rs e t f m = not_first e (further m)
  with_entry_lem true false rs e t f m = alone e (f refl) m
  with_entry_lem true true rs e t f m = join refl e (t refl).0 (t refl).1 m

head_true : (p : ℕ → Bool) (j : ℕ) (cs : List ℕ) → first_in p j cs ≡ true → (0 < length cs) × (p j ≡ true)
unfolding first_in
head_true p j [] e = absurd (true≢false (sym e))
head_true p j (c ∷ cs) e = (omega arith, e)

head_false : (p : ℕ → Bool) (j : ℕ) (cs : List ℕ) → first_in p j cs ≡ false → 0 < length cs → p j ≡ false
unfolding first_in
head_false p j [] e h = absurd (omega arith)
head_false p j (c ∷ cs) e h = e

pub maximal : (p : ℕ → Bool) (j : ℕ) (cs : List ℕ) (q : ℕ → Bool) → ((i : ℕ) → q i ≡ p (j + i)) → MaximalRuns q cs 0 (runs_from p j cs)
unfolding runs_from
maximal p j [] q h = no_more nowhere
  where
    nowhere : (i : ℕ) → 0 ≤ i → i < 0 → q i ≡ false
    nowhere i a l = absurd (omega arith)
maximal p j (c ∷ cs) q h =
    let z : q 0 ≡ p j = h 0 ∙ ap p (omega arith) in
    let o : q 1 ≡ p (suc j) = h 1 ∙ ap p (omega arith) in
    with_entry_lem q c cs (p j) (first_in p (suc j) cs) (runs_from p (suc j) cs) z
    (λ e. let t = head_true p (suc j) cs e in (t.0, o ∙ t.1)) (λ e l. o ∙ head_false p (suc j) cs e l)
    (maximal p (suc j) cs (λ (i : ℕ). q (suc i)) (λ i. h (suc i) ∙ ap p (omega arith)))

-- ---- the fewest digits

digit-small : {b d : ℕ} → HexDigit b d → d < 16
digit-small {b} (decimal e) = let i = within_in 0x30 0x39 b e in omega arith
digit-small {b} (letter e) = let i = within_in 0x41 0x46 b e in omega arith

digits-small : {s : List ℕ} {k v : ℕ} → Digits s k v → (length s ≡ k) × (v < 16 ^ k)
digits-small no_digits = (refl, omega arith)
digits-small (digits_and {s} {b} {k} {v} {d} ds x) =
    let h = digits-small ds in
    (simp length-append (omega (arith, h.0)), omega (arith, h.1, digit-small x, pow-suc 16 k))

fewest_le : (c k : ℕ) → allowed_digits k ≡ true → c < 16 ^ k → fewest_digits c ≤ k
unfolding fewest_digits allowed_digits
fewest_le c k a h = by_two (ltb c 0x100) refl
  where
    below : (m : ℕ) → k ≡ m → c < 16 ^ m
    below m e = subst (λ (n : ℕ). c < 16 ^ n) e h

    four : 0x100 ≤ c → (4 ≤ k) × (k ≤ 6)
    four l =
        ⊎_elim (λ p. absurd (omega (arith, below 2 (eqb-true k 2 p)))) (λ p. let i = within_in 4 6 k p in (omega arith, omega arith))
        (either_true (eqb k 2) (within 4 6 k) a)

    five : 0x10000 ≤ c → 5 ≤ k
    five l = ⊎_elim (λ p. p) (λ p. absurd (omega (arith, below 4 (omega (arith, (four (omega arith)).0))))) (le_or_lt 5 k)

    six : 0x100000 ≤ c → 6 ≤ k
    six l = ⊎_elim (λ p. p) (λ p. absurd (omega (arith, below 5 (omega (arith, five (omega arith)))))) (le_or_lt 6 k)

    by-five : (t : Bool) → ltb c 0x100000 ≡ t → 0x10000 ≤ c → cond t 5 6 ≤ k
    by-five true e l = five l
    by-five false e l = six (ltb-false c 0x100000 e)

    by-four : (t : Bool) → ltb c 0x10000 ≡ t → 0x100 ≤ c → cond t 4 (cond (ltb c 0x100000) 5 6) ≤ k
    by-four true e l = (four l).0
    by-four false e l = by-five (ltb c 0x100000) refl (ltb-false c 0x10000 e)

    by_two : (t : Bool) → ltb c 0x100 ≡ t → cond t 2 (cond (ltb c 0x10000) 4 (cond (ltb c 0x100000) 5 6)) ≤ k
    by_two true e = (allowed_six k a).0
    by_two false e = by-four (ltb c 0x10000) refl (ltb-false c 0x100 e)

pub fewest : {s : List ℕ} {c : ℕ} → CodePoint s c → fewest_digits c ≤ length s
fewest {s} {c} (of_digits {k = k} ds a) = let h = digits-small ds in omega (arith, h.0, fewest_le c k a h.1)

-- A code point of a sheet has at most six digits.
pow_six : (k : ℕ) → k ≤ 6 → 16 ^ k ≤ 0x1000000
pow_six zero h = omega arith
pow_six (suc zero) h = omega arith
pow_six (suc (suc zero)) h = omega arith
pow_six (suc (suc (suc zero))) h = omega arith
pow_six (suc (suc (suc (suc zero)))) h = omega arith
pow_six (suc (suc (suc (suc (suc zero))))) h = omega arith
pow_six (suc (suc (suc (suc (suc (suc zero)))))) h = omega arith
pow_six (suc (suc (suc (suc (suc (suc (suc k))))))) h = absurd (omega arith)

pub point_small : {s : List ℕ} {c : ℕ} → CodePoint s c → c < 0x1000000
point_small (of_digits {k = k} ds a) = omega (arith, (digits-small ds).1, pow_six k (allowed_six k a).1)
