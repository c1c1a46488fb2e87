-- The list of the numbers whose bits are 1 in blocks of any words. A number is in the list where its bit is 1. Its index is the rank of
-- its block plus the number of ones below its bit.
use Rattle.std.specs.Prelude.{Some, None, Option}
use mathlib.Core.Path.{◌≡◌, refl, sym, ap, ap₂, ◌∙◌}
use mathlib.Core.Logic.{◌⊎◌, inl, inr, ⊎_elim}
use mathlib.Core.Bool.{Bool, true, false, cond, ◌&&◌}
use mathlib.Core.List.{List, [], ◌∷◌, ◌++◌}
use Prim.Native.Nat.{ℕ, zero, suc, ◌+◌, ◌*◌, ◌/◌, ◌%◌, ◌^◌, ◌≤◌, ◌<◌}
use native.Mathlib.Nat.{le_of_suc-le-suc, not-suc-le-zero}
use native.Mathlib.Numerals.{add-one}
use native.Mathlib.Omega.{arith}
use lib.Count.{ones, ones_step}
use lib.Dec.{eqb, leb}
use lib.ListN.{length}
use lib.Pow.{field, mod-mod-pow}
use borrow.Author.Tests.{eqb-false, eqb-true, eq-eqb, leb-true, ne_eqb}
use Rattle.base.specs.Bits.{one}
use Rattle.base.proofs.Bits.{low_bit, next_bit, zero_one}
use Rattle.base.proofs.Tests.{both_true, le_or_lt}
use Rattle.emoji.specs.Blocks.{BlockRow, block_in, entry_in, no_block}
use Rattle.emoji.specs.Tables.{index_of, next}
use Rattle.emoji.specs.declared.blocks.Block.{Block}
use Rattle.emoji.proofs.Ascent.{is_at}
use Rattle.emoji.proofs.BlockSearch.{ascend_from}

-- The index plus n.
unfoldable pub plus : ℕ → Option ℕ → Option ℕ
plus n (Some i) = Some (n + i)
plus n None = None

pub plus_zero : (r : Option ℕ) → r ≡ plus 0 r
unfolding plus
plus_zero (Some i) = ap Some (omega arith)
plus_zero None = refl

next-plus : (n : ℕ) (r : Option ℕ) → next (plus n r) ≡ plus (suc n) r
unfolding plus next
next-plus n (Some i) = ap Some (omega arith)
next-plus n None = refl

plus-plus : (m n : ℕ) (r : Option ℕ) → plus m (plus n r) ≡ plus (m + n) r
unfolding plus
plus-plus m n (Some i) = ap Some (omega arith)
plus-plus m n None = refl

is_at-plus : (n : ℕ) (r : Option ℕ) → is_at (plus n r) ≡ is_at r
unfolding plus is_at
is_at-plus n (Some i) = refl
is_at-plus n None = refl

-- Puts a number before a list if a test is true.
unfoldable pub keep : Bool → ℕ → List ℕ → List ℕ
keep true a xs = a ∷ xs
keep false a xs = xs

-- Of the n numbers from a on, those whose bit in the word is 1, in ascending order.
unfoldable pub ones_from : ℕ → ℕ → ℕ → List ℕ
ones_from a zero w = []
ones_from a (suc n) w = keep (eqb (w % 2) 1) a (ones_from (suc a) n (w / 2))

-- A number that is not one of the n numbers has the index that it has in the rest of the list, plus the number of ones.
outside : (c n a w : ℕ) (xs : List ℕ) → (c < a) ⊎ (a + n ≤ c)
    → index_of c (ones_from a n w ++ xs) ≡ plus (length (ones_from a n w)) (index_of c xs)
unfolding ones_from keep index_of
outside c zero a w xs h = plus_zero (index_of c xs)
outside c (suc n) a w xs h = go (eqb (w % 2) 1) (outside c n (suc a) (w / 2) xs (beside h))
  where
    beside : (c < a) ⊎ (a + suc n ≤ c) → (c < suc a) ⊎ (suc a + n ≤ c)
    beside (inl l) = inl (omega arith)
    beside (inr l) = inr (omega arith)

    differs : (c < a) ⊎ (a + suc n ≤ c) → a ≡ c → ⊥
    differs (inl l) e = omega arith
    differs (inr l) e = omega arith

    go : (t : Bool)
        → index_of c (ones_from (suc a) n (w / 2) ++ xs) ≡ plus (length (ones_from (suc a) n (w / 2))) (index_of c xs)
        → index_of c (keep t a (ones_from (suc a) n (w / 2)) ++ xs)
        ≡ plus (length (keep t a (ones_from (suc a) n (w / 2)))) (index_of c xs)
    go true ih = rw (ne_eqb a c (differs h)) (ap next ih ∙ next-plus (length (ones_from (suc a) n (w / 2))) (index_of c xs))
    go false ih = ih

-- The index of bit j among the ones of a word.
unfoldable pub place_in_word : ℕ → ℕ → Option ℕ
place_in_word j w = cond (one j w) (Some (ones (w % 2 ^ j))) None

first-place : (w : ℕ) → place_in_word 0 w ≡ cond (eqb (w % 2) 1) (Some 0) None
unfolding place_in_word ones
first-place w =
    let e : w % 2 ^ 0 ≡ 0 = omega arith in
    rw (low_bit w) (ap (λ (n : ℕ). cond (eqb (w % 2) 1) (Some (ones n)) None) e)

ones_below : (j w : ℕ) → ones (w % 2 ^ suc j) ≡ w % 2 + ones (w / 2 % 2 ^ j)
ones_below j w =
    ap (λ (n : ℕ). ones (w % 2 ^ n)) (sym (add-one j)) ∙ ones_step (w % 2 ^ (j + 1))
    ∙ ap₂ (λ (x y : ℕ). x + ones y) (mod-mod-pow w j 1) (field w j 1)

later-place : (j w : ℕ) → place_in_word (suc j) w ≡ plus (w % 2) (place_in_word j (w / 2))
unfolding place_in_word plus
later-place j w = rw (next_bit j w, ones_below j w) (go (one j (w / 2)))
  where
    go : (t : Bool)
        → cond t (Some (w % 2 + ones (w / 2 % 2 ^ j))) None
        ≡ plus (w % 2) (cond t (Some (ones (w / 2 % 2 ^ j))) None)
    go true = refl
    go false = refl

no_place : (j : ℕ) → place_in_word j 0 ≡ None
unfolding place_in_word
no_place j = rw (zero_one j)

is_at-place : (j w : ℕ) → is_at (place_in_word j w) ≡ one j w
unfolding place_in_word is_at
is_at-place j w = go (one j w)
  where
    go : (t : Bool) → is_at (cond t (Some (ones (w % 2 ^ j))) None) ≡ t
    go true = refl
    go false = refl

-- The index of number j of the n numbers, if the rest of the list does not contain it.
inside : (j n a w c : ℕ) (xs : List ℕ) → c ≡ a + j → j < n → index_of c xs ≡ None
    → index_of c (ones_from a n w ++ xs) ≡ place_in_word j w
unfolding ones_from keep index_of plus
inside j zero a w c xs q h e = absurd (not-suc-le-zero h)
inside zero (suc n) a w c xs q h e = go (eqb (w % 2) 1) refl
  where
    go : (t : Bool) → eqb (w % 2) 1 ≡ t → index_of c (keep t a (ones_from (suc a) n (w / 2)) ++ xs) ≡ place_in_word 0 w
    go true p = rw (eq-eqb a c (omega arith)) (sym (first-place w ∙ ap (λ (t : Bool). cond t (Some 0) None) p))
    go false p =
        outside c n (suc a) (w / 2) xs (inl (omega arith)) ∙ ap (plus (length (ones_from (suc a) n (w / 2)))) e
        ∙ sym (first-place w ∙ ap (λ (t : Bool). cond t (Some 0) None) p)
inside (suc j) (suc n) a w c xs q h e =
    go (eqb (w % 2) 1) refl (inside j n (suc a) (w / 2) c xs (omega arith) (le_of_suc-le-suc h) e)
  where
    go : (t : Bool) → eqb (w % 2) 1 ≡ t → index_of c (ones_from (suc a) n (w / 2) ++ xs) ≡ place_in_word j (w / 2)
        → index_of c (keep t a (ones_from (suc a) n (w / 2)) ++ xs) ≡ place_in_word (suc j) w
    go true p ih =
        let o : w % 2 ≡ 1 = eqb-true (w % 2) 1 p in
        rw (ne_eqb a c (λ z. omega arith))
        (ap next (ih ∙ plus_zero (place_in_word j (w / 2))) ∙ next-plus 0 (place_in_word j (w / 2))
        ∙ sym (later-place j w ∙ ap (λ (n : ℕ). plus n (place_in_word j (w / 2))) o))
    go false p ih =
        let o : w % 2 ≡ 0 = omega (arith, eqb-false (w % 2) 1 p) in
        ih ∙ plus_zero (place_in_word j (w / 2)) ∙ sym (later-place j w ∙ ap (λ (n : ℕ). plus n (place_in_word j (w / 2))) o)

-- The numbers whose bits are 1 in a word of each block.
unfoldable pub ones_of : (Block → ℕ) → List BlockRow → List ℕ
ones_of word [] = []
ones_of word (r ∷ rs) = ones_from (64 * r.key) 64 (word r.block) ++ ones_of word rs

module _ (word : Block → ℕ) (c : ℕ) where
  other_block : (r : BlockRow) (rs : List BlockRow) → (r.key ≡ c / 64 → ⊥)
      → index_of c (ones_of word (r ∷ rs)) ≡ plus (length (ones_from (64 * r.key) 64 (word r.block))) (index_of c (ones_of word rs))
  unfolding ones_of
  other_block r rs n =
      outside c 64 (64 * r.key) (word r.block) (ones_of word rs)
      (⊎_elim inr (λ h. ⊎_elim (λ l. absurd (n (omega arith))) inl (le_or_lt (64 * r.key) c)) (le_or_lt (64 * r.key + 64) c))

  -- Blocks after the block of c do not contain c.
  not_after : (n : ℕ) (rs : List BlockRow) → ascend_from n rs ≡ true → c / 64 < n → index_of c (ones_of word rs) ≡ None
  unfolding ascend_from ones_of index_of plus
  not_after n [] t h = refl
  not_after n (r ∷ rs) t h =
      let s = both_true (leb n r.key) (ascend_from (suc r.key) rs) t in
      let l = leb-true n r.key s.0 in
      other_block r rs (λ e. omega arith) ∙ ap (plus (length (ones_from (64 * r.key) 64 (word r.block))))
      (not_after (suc r.key) rs s.1 (omega arith))

  own_block : (r : BlockRow) (rs : List BlockRow) → ascend_from (suc r.key) rs ≡ true → r.key ≡ c / 64
      → index_of c (ones_of word (r ∷ rs)) ≡ place_in_word (c % 64) (word r.block)
  unfolding ones_of
  own_block r rs t e =
      inside (c % 64) 64 (64 * r.key) (word r.block) c (ones_of word rs) (omega arith) (omega arith)
      (not_after (suc r.key) rs t (omega arith))

  -- A number is in the list exactly where its bit is 1 in the word of its block.
  pub found_in_block : (n : ℕ) (rs : List BlockRow) → ascend_from n rs ≡ true → word no_block ≡ 0
      → is_at (index_of c (ones_of word rs)) ≡ one (c % 64) (word (block_in (c / 64) rs))
  unfolding ascend_from block_in ones_of index_of is_at
  found_in_block n [] t z = sym (ap (one (c % 64)) z ∙ zero_one (c % 64))
  found_in_block n (r ∷ rs) t z =
      let s = both_true (leb n r.key) (ascend_from (suc r.key) rs) t in
      go (eqb r.key (c / 64)) refl s.1 (found_in_block (suc r.key) rs s.1 z)
    where
      go : (b : Bool) → eqb r.key (c / 64) ≡ b → ascend_from (suc r.key) rs ≡ true
          → is_at (index_of c (ones_of word rs)) ≡ one (c % 64) (word (block_in (c / 64) rs))
          → is_at (index_of c (ones_of word (r ∷ rs))) ≡ one (c % 64) (word (cond b r.block (block_in (c / 64) rs)))
      go true e t ih = ap is_at (own_block r rs t (eqb-true r.key (c / 64) e)) ∙ is_at-place (c % 64) (word r.block)
      go false e t ih =
          ap is_at (other_block r rs (eqb-false r.key (c / 64) e))
          ∙ is_at-plus (length (ones_from (64 * r.key) 64 (word r.block))) (index_of c (ones_of word rs)) ∙ ih

-- Each block's rank is the number of entries before it. The first argument is the number of entries before the first block.
unfoldable pub rank_from : ℕ → List BlockRow → Bool
rank_from n [] = true
rank_from n (r ∷ rs) = eqb r.block.rank n && rank_from (n + length (ones_from (64 * r.key) 64 r.block.entries)) rs

rank_place : (j : ℕ) (b : Block) → plus b.rank (place_in_word j b.entries) ≡ entry_in j b
unfolding plus place_in_word entry_in
rank_place j b = go (one j b.entries)
  where
    go : (t : Bool)
        → plus b.rank (cond t (Some (ones (b.entries % 2 ^ j))) None)
        ≡ cond t (Some (b.rank + ones (b.entries % 2 ^ j))) None
    go true = refl
    go false = refl

-- The index of a number in the list of entries is what `entry_in` gives for its block.
pub entry_in_block : (c m n : ℕ) (rs : List BlockRow) → ascend_from m rs ≡ true → rank_from n rs ≡ true
    → plus n (index_of c (ones_of (λ b. b.entries) rs)) ≡ entry_in (c % 64) (block_in (c / 64) rs)
unfolding ascend_from rank_from block_in ones_of index_of plus no_block
entry_in_block c m n [] t u = sym (sym (rank_place (c % 64) no_block) ∙ ap (plus 0) (no_place (c % 64)))
entry_in_block c m n (r ∷ rs) t u =
    let s = both_true (leb m r.key) (ascend_from (suc r.key) rs) t in
    let v = both_true (eqb r.block.rank n) (rank_from (n + length (ones_from (64 * r.key) 64 r.block.entries)) rs) u in
    go (eqb r.key (c / 64)) refl s.1 (eqb-true r.block.rank n v.0)
    (entry_in_block c (suc r.key) (n + length (ones_from (64 * r.key) 64 r.block.entries)) rs s.1 v.1)
  where
    go : (b : Bool) → eqb r.key (c / 64) ≡ b → ascend_from (suc r.key) rs ≡ true → r.block.rank ≡ n
        → plus (n + length (ones_from (64 * r.key) 64 r.block.entries)) (index_of c (ones_of (λ b. b.entries) rs))
        ≡ entry_in (c % 64) (block_in (c / 64) rs)
        → plus n (index_of c (ones_of (λ b. b.entries) (r ∷ rs))) ≡ entry_in (c % 64) (cond b r.block (block_in (c / 64) rs))
    go true e t q ih =
        ap₂ plus (sym q) (own_block (λ b. b.entries) c r rs t (eqb-true r.key (c / 64) e)) ∙ rank_place (c % 64) r.block
    go false e t q ih =
        ap (plus n) (other_block (λ b. b.entries) c r rs (eqb-false r.key (c / 64) e))
        ∙ plus-plus n (length (ones_from (64 * r.key) 64 r.block.entries)) (index_of c (ones_of (λ b. b.entries) rs)) ∙ ih
