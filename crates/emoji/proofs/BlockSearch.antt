-- The search for a block in a list: from the arms of a `match`, in a list of several groups, and in a list with moved numbers.
use mathlib.Core.Path.{◌≡◌, refl, sym, ap, ◌∙◌}
use mathlib.Core.Bool.{Bool, true, cond, ◌&&◌}
use mathlib.Core.List.{List, [], ◌∷◌, ◌++◌}
use Prim.Native.Nat.{ℕ, suc, ◌-◌, ◌≤◌, ◌<◌}
use native.Mathlib.Omega.{arith}
use lib.Dec.{eqb, leb, ltb}
use borrow.Author.Tests.{eq-eqb, eqb-true, leb-true, ltb-true, ne_eqb}
use Rattle.base.proofs.Tests.{both_true, same_test}
use Rattle.emoji.specs.Blocks.{BlockRow, block_in, moved, no_block}

-- The facts that the last arm of a `match` has, after one arm for each block: k is the number of none of them.
abbrev pub NoneOf : ℕ → Type 0 → List BlockRow → Type 0
NoneOf k known [] = known
NoneOf k known (r ∷ rs) = NoneOf k (known × (k ≡ r.key → ⊥)) rs

none_of : (k : ℕ) (known : Type 0) (rs : List BlockRow) → NoneOf k known rs → known × (block_in k rs ≡ no_block)
unfolding block_in
none_of k known [] h = (h, refl)
none_of k known (r ∷ rs) h =
    let t = none_of k (known × (k ≡ r.key → ⊥)) rs h in
    (t.0.0, rw (ne_eqb r.key k (λ e. t.0.1 (sym e))) t.1)

-- In an arm for the number j, block k is block j.
pub in_arm : {j k : ℕ} (rs : List BlockRow) → j ≡ k → block_in k rs ≡ block_in j rs
in_arm rs e = sym (ap (λ (k : ℕ). block_in k rs) e)

pub in_no_arm : (k : ℕ) (rs : List BlockRow) → NoneOf k Unit rs → block_in k rs ≡ no_block
in_no_arm k rs h = (none_of k Unit rs h).1

-- Every block of the list is before block n.
unfoldable pub all_before : ℕ → List BlockRow → Bool
all_before n [] = true
all_before n (r ∷ rs) = ltb r.key n && all_before n rs

-- The numbers of the blocks ascend, and the first is at least n.
unfoldable pub ascend_from : ℕ → List BlockRow → Bool
ascend_from n [] = true
ascend_from n (r ∷ rs) = leb n r.key && ascend_from (suc r.key) rs

-- If all blocks of a list are before block n, the search for block k, n ≤ k, goes past them.
pub search_past : (n : ℕ) (qs rs : List BlockRow) → all_before n qs ≡ true → (k : ℕ) → n ≤ k → block_in k (qs ++ rs) ≡ block_in k rs
unfolding all_before block_in
search_past n [] rs t k h = refl
search_past n (q ∷ qs) rs t k h =
    let s = both_true (ltb q.key n) (all_before n qs) t in
    let l = ltb-true q.key n s.0 in
    rw (ne_eqb q.key k (λ e. omega arith)) (search_past n qs rs s.1 k h)

-- If all blocks of a list are from block n on, block k, k < n, is not in it.
pub none_from : (n : ℕ) (rs : List BlockRow) → ascend_from n rs ≡ true → (k : ℕ) → k < n → block_in k rs ≡ no_block
unfolding ascend_from block_in
none_from n [] t k h = refl
none_from n (r ∷ rs) t k h =
    let s = both_true (leb n r.key) (ascend_from (suc r.key) rs) t in
    let l = leb-true n r.key s.0 in
    rw (ne_eqb r.key k (λ e. omega arith)) (none_from (suc r.key) rs s.1 k (omega arith))

pub search_stops : (n : ℕ) (qs rs : List BlockRow) → ascend_from n rs ≡ true → (k : ℕ) → k < n → block_in k (qs ++ rs) ≡ block_in k qs
unfolding block_in
search_stops n [] rs t k h = none_from n rs t k h
search_stops n (q ∷ qs) rs t k h = ap (cond (eqb q.key k) q.block) (search_stops n qs rs t k h)

-- The search for block k in the middle one of three groups.
pub search_within : (n m : ℕ) (qs rs ss : List BlockRow) → all_before n qs ≡ true → ascend_from m ss ≡ true → (k : ℕ) → n ≤ k → k < m
    → block_in k (qs ++ (rs ++ ss)) ≡ block_in k rs
search_within n m qs rs ss t u k l h = search_past n qs (rs ++ ss) t k l ∙ search_stops m rs ss u k h

-- Subtracting n from two numbers that are at least n does not change whether they are equal.
eqb_less : (n a b : ℕ) → n ≤ a → n ≤ b → eqb (a - n) (b - n) ≡ eqb a b
eqb_less n a b l h =
    same_test
    (eqb (a - n) (b - n))
    (eqb a b)
    (λ e. eq-eqb a b (omega (arith, eqb-true (a - n) (b - n) e)))
    (λ e. eq-eqb (a - n) (b - n) (ap (λ (j : ℕ). j - n) (eqb-true a b e)))

-- With n subtracted from each block's number, block k has the number k - n.
pub search_moved : (n m : ℕ) (rs : List BlockRow) → n ≤ m → ascend_from m rs ≡ true → (k : ℕ) → n ≤ k → block_in (k - n) (moved n rs)
    ≡ block_in k rs
unfolding ascend_from block_in moved
search_moved n m [] l t k h = refl
search_moved n m (r ∷ rs) l t k h =
    let s = both_true (leb m r.key) (ascend_from (suc r.key) rs) t in
    let g = leb-true m r.key s.0 in
    rw (eqb_less n r.key k (omega arith) h)
    (ap (cond (eqb r.key k) r.block) (search_moved n (suc r.key) rs (omega arith) s.1 k h))
