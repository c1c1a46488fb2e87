-- The number of ones of a word is the number of its bits that are 1, and the sum over the words is the number of members.
use Rattle.std.proofs.lemmas.List.Sums.{sum_by-cons}
use mathlib.Core.Path.{◌≡◌, refl, sym, ap, ap₂, ◌∙◌}
use mathlib.Core.Bool.{Bool, ◌&&◌}
use Rattle.std.specs.Prelude.{count_ones, sum_by}
use mathlib.Core.List.{List, [], ◌∷◌}
use Prim.Native.Nat.{ℕ, zero, suc, ◌+◌, ◌*◌, ◌/◌, ◌%◌, ◌^◌, ◌<◌, ◌≤◌}
use native.Mathlib.Nat.{add-suc, add-zero, pow-suc}
use native.Mathlib.Numerals.{add-one}
use native.Mathlib.Omega.{arith}
use lib.Count.{ones, ones_step}
use lib.Dec.{eqb}
use lib.ListN.{get_or, length}
use borrow.Author.Tests.{le-ltb}
use Rattle.base.specs.Sums.{one_if, sum_below}
use Rattle.base.specs.Bits.{one}
use Rattle.base.proofs.Bits.{low_bit, next_bit}
use Rattle.policy_key_set.specs.Sets.{HoldsBelow, count_below, member}
use Rattle.policy_key_set.proofs.Below.{count_same, count_to}
use Rattle.policy_key_set.proofs.Members.{held}

bit_number : (b : ℕ) → b < 2 → one_if (eqb b 1) ≡ b
bit_number zero h = refl
bit_number (suc zero) h = refl
bit_number (suc (suc b)) h = absurd (omega arith)

-- The number of ones among the lowest k bits of a word.
abbrev pub bit_count : ℕ → ℕ → ℕ
bit_count k w = count_below k (λ (i : ℕ). one i w)

-- The count is the lowest bit plus the count of the others.
lowest-first : (k w : ℕ) → bit_count (suc k) w ≡ w % 2 + bit_count k (w / 2)
unfolding count_below
lowest-first zero w = let e = ap one_if (low_bit w) ∙ bit_number (w % 2) (omega arith) in omega arith
lowest-first (suc k) w = let e = lowest-first k w in let f = ap one_if (next_bit k w) in omega arith

no_ones : ones 0 ≡ 0
unfolding ones
no_ones = refl

pub ones_count : (k w : ℕ) → w < 2 ^ k → ones w ≡ bit_count k w
unfolding count_below
ones_count zero w h = let e : w ≡ 0 = omega arith in ap ones e ∙ no_ones
ones_count (suc k) w h =
    let h' : w < 2 ^ k * 2 = rw pow-suc at h in
    ones_step w ∙ ap (λ (n : ℕ). w % 2 + n) (ones_count k (w / 2) (omega arith)) ∙ sym (lowest-first k w)

-- The number of entries in the words before word j and in the first k bits of word j.
part-word : (ws : List ℕ) (j k : ℕ) → k ≤ 64
    → count_below (j * 64 + k) (λ (i : ℕ). member i ws) ≡ count_below (j * 64) (λ (i : ℕ). member i ws) + bit_count k (get_or ws j 0)
unfolding count_below member
part-word ws j zero h =
    ap (λ (n : ℕ). count_below n (λ (i : ℕ). member i ws)) (add-zero (j * 64))
    ∙ sym (add-zero (count_below (j * 64) (λ (i : ℕ). member i ws)))
part-word ws j (suc k) h =
    let e = part-word ws j k (omega arith) in
    let d : (j * 64 + k) / 64 ≡ j = omega arith in
    let m : (j * 64 + k) % 64 ≡ k = omega arith in
    let f : one_if (member (j * 64 + k) ws) ≡ one_if (one k (get_or ws j 0)) = ap₂ (λ (a b : ℕ). one_if (one a (get_or ws b 0))) m d in
    ap (λ (n : ℕ). count_below n (λ (i : ℕ). member i ws)) (add-suc (j * 64) k) ∙ omega (arith, e, f)

-- The number of entries in the words up to word j.
pub count_word : (ws : List ℕ) (j : ℕ)
    → count_below ((j + 1) * 64) (λ (i : ℕ). member i ws) ≡ count_below (j * 64) (λ (i : ℕ). member i ws) + bit_count 64 (get_or ws j 0)
count_word ws j =
    let e : (j + 1) * 64 ≡ j * 64 + 64 = omega arith in
    ap (λ (n : ℕ). count_below n (λ (i : ℕ). member i ws)) e ∙ part-word ws j 64 (omega arith)

count_zero : (p : ℕ → Bool) → count_below 0 p ≡ 0
unfolding count_below
count_zero p = refl

-- The number of ones of m words is the number of members below 64 m.
pub sum-count : (ws : List ℕ) → ((k : ℕ) → get_or ws k 0 < 2 ^ 64) → (m : ℕ)
    → sum_below m (λ (k : ℕ). ones (get_or ws k 0)) ≡ count_below (m * 64) (λ (i : ℕ). member i ws)
unfolding sum_below
sum-count ws h zero = sym (count_zero (λ (i : ℕ). member i ws))
sum-count ws h (suc m) =
    let e : count_below (suc m * 64) (λ (i : ℕ). member i ws) ≡ count_below ((m + 1) * 64) (λ (i : ℕ). member i ws) =
    ap (λ (n : ℕ). count_below (n * 64) (λ (i : ℕ). member i ws)) (sym (add-one m)) in
    omega (arith, sum-count ws h m, ones_count 64 (get_or ws m 0) (h m), count_word ws m, e)

-- The number of members of words that hold a test is the number of the numbers that pass it.
pub count_held : (n m : ℕ) (p : ℕ → Bool) (ws : List ℕ) → n ≤ m → HoldsBelow n p ws
    → count_below m (λ (i : ℕ). member i ws) ≡ count_below n p
count_held n m p ws q h =
    count_to n m (λ (i : ℕ). member i ws) q (λ k l. h k ∙ ap (λ (b : Bool). b && p k) (le-ltb k n l))
    ∙ count_same n (λ (i : ℕ). member i ws) p (held n p ws h)

-- The sum over a list of words is the sum over their places.
sum_shift : (f : ℕ → ℕ) (m : ℕ) → sum_below (suc m) f ≡ f 0 + sum_below m (λ (k : ℕ). f (suc k))
unfolding sum_below
sum_shift f zero = omega arith
sum_shift f (suc m) = omega (arith, sum_shift f m)

sum-list : (ws : List ℕ) → sum_by count_ones ws ≡ sum_below (length ws) (λ (k : ℕ). ones (get_or ws k 0))
unfolding sum_below
sum-list [] = refl
sum-list (w ∷ ws) =
    omega (arith, sum_by-cons ones w ws, sum-list ws, sum_shift (λ (k : ℕ). ones (get_or (w ∷ ws) k 0)) (length ws))

-- The number of ones of words is the number of their members.
pub ones-members : (ws : List ℕ) (m : ℕ) → length ws ≡ m → ((k : ℕ) → get_or ws k 0 < 2 ^ 64)
    → sum_by count_ones ws ≡ count_below (m * 64) (λ (i : ℕ). member i ws)
ones-members ws m e h =
    sum-list ws ∙ ap (λ (n : ℕ). sum_below n (λ (k : ℕ). ones (get_or ws k 0))) e ∙ sum-count ws h m
