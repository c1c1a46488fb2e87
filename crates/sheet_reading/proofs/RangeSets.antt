-- The variation entries of a range, by their indexes.
use Rattle.std.specs.List.Sorted.{IsPartitionPoint, IsPartitionedBy}
use Rattle.std.proofs.lemmas.List.{get_or_default}
use mathlib.Core.Path.{◌≡◌, refl, ap, ap₂, sym, ◌∙◌}
use mathlib.Core.Logic.{⊎_elim}
use mathlib.Core.Bool.{Bool, true, false, ◌&&◌, ◌||◌}
use mathlib.Core.List.{List}
use Prim.Native.Nat.{ℕ, zero, suc, ◌+◌, ◌*◌, ◌-◌, ◌/◌, ◌%◌, ◌^◌, ◌≤◌, ◌<◌}
use native.Mathlib.Nat.{pow-suc}
use native.Mathlib.Omega.{arith}
use lib.Dec.{eqb, ltb}
use lib.ListN.{get_or, length}
use borrow.Author.Tests.{le-ltb, lt-ltb, ltb-true}
use Rattle.base.specs.Bits.{one}
use Rattle.base.specs.Ranges.{within}
use Rattle.base.proofs.Bits.{low_bit, next_bit, zero_one}
use Rattle.base.proofs.Tests.{le_or_lt, within-above, within-below, within_true}
use Rattle.emoji.specs.UnicodeData.{variation_entries}
use Rattle.emoji.proofs.Ascent.{ascending_le}
use Rattle.emoji.proofs.InOrder.{variation_entries_ascend}
use Rattle.policy_key_set.specs.Sets.{Holds, but_not, entry_count, member}
use Rattle.policy_key_set.proofs.Entries.{entries_length, entry_count_lem}
use Rattle.policy_key_set.proofs.Members.{held, holds_same, member-past}

-- ---- the search

module _ (ch : ℕ) where
  abbrev pub is_below : ℕ → Bool
  is_below e = ltb e ch

  -- The entries below the code point come first.
  pub parted-entries : IsPartitionedBy is_below variation_entries
  parted-entries i j d h l t =
      let k : i < length variation_entries = omega arith in
      let q = ltb-true (get_or variation_entries j d) ch t in
      lt-ltb (get_or variation_entries i d) ch
      (omega (
        arith,
        get_or_default variation_entries i d 0 k,
        get_or_default variation_entries j d 0 l,
        ascending_le variation_entries variation_entries_ascend i j h l,
      ))

  pub point_below : {n : ℕ} → IsPartitionPoint (λ (e : ℕ). is_below e ≡ true) (λ (e : ℕ). is_below e ≡ false) variation_entries n
      → (i : ℕ) → i < 354 → ltb i n ≡ ltb (get_or variation_entries i 0) ch
  point_below {n} p i l =
      ⊎_elim (λ k. le-ltb i n k ∙ sym (p.1 i 0 k (omega (arith, entries_length)))) (λ k. lt-ltb i n k ∙ sym (p.0 i 0 (omega arith) k))
      (le_or_lt n i)

-- ---- words of ones

pub positive : (n : ℕ) → 1 ≤ 2 ^ n
positive zero = omega arith
positive (suc n) = omega (arith, pow-suc 2 n, positive n)

ones_bit : (n k : ℕ) → one k (2 ^ n - 1) ≡ ltb k n
ones_bit zero k = zero_one k ∙ sym (le-ltb k 0 (omega arith))
ones_bit (suc n) zero =
    let e : (2 ^ suc n - 1) % 2 ≡ 1 = omega (arith, pow-suc 2 n, positive n) in
    low_bit (2 ^ suc n - 1) ∙ ap (λ (x : ℕ). eqb x 1) e ∙ sym (lt-ltb 0 (suc n) (omega arith))
ones_bit (suc n) (suc k) =
    let e : (2 ^ suc n - 1) / 2 ≡ 2 ^ n - 1 = omega (arith, pow-suc 2 n) in
    next_bit k (2 ^ suc n - 1) ∙ ap (one k) e ∙ ones_bit n k ∙ more
  where
    more : ltb k n ≡ ltb (suc k) (suc n)
    more =
        ⊎_elim (λ h. le-ltb k n h ∙ sym (le-ltb (suc k) (suc n) (omega arith)))
        (λ h. lt-ltb k n h ∙ sym (lt-ltb (suc k) (suc n) (omega arith))) (le_or_lt n k)

pub bits_none : (n start : ℕ) → n ≤ start → (k : ℕ) → k < 64 → one k 0 ≡ ltb (start + k) n
bits_none n start h k l = zero_one k ∙ sym (le-ltb (start + k) n (omega arith))

pub bits_all : (n start : ℕ) → start + 64 ≤ n → (k : ℕ) → k < 64 → one k 0xFFFFFFFFFFFFFFFF ≡ ltb (start + k) n
bits_all n start h k l =
    let e : 0xFFFFFFFFFFFFFFFF ≡ 2 ^ 64 - 1 = omega arith in
    ap (one k) e ∙ ones_bit 64 k ∙ lt-ltb k 64 l ∙ sym (lt-ltb (start + k) n (omega arith))

pub bits_some : {w : ℕ} (n start : ℕ) → start ≤ n → w ≡ 2 ^ (n - start) - 1 → (k : ℕ) → k < 64 → one k w ≡ ltb (start + k) n
bits_some n start h e k l =
    ap (one k) e ∙ ones_bit (n - start) k
    ∙ ⊎_elim (λ j. le-ltb k (n - start) j ∙ sym (le-ltb (start + k) n (omega arith)))
    (λ j. lt-ltb k (n - start) j ∙ sym (lt-ltb (start + k) n (omega arith))) (le_or_lt (n - start) k)

-- Six such words hold the first n entries.
pub first_hold : (n : ℕ) (z : List ℕ) → n ≤ 354 → length z ≡ 6
    → ((w : ℕ) → w < 6 → (k : ℕ) → k < 64 → one k (get_or z w 0) ≡ ltb (64 * w + k) n) → Holds (λ (i : ℕ). ltb i n) z
unfolding member
first_hold n z h e f i = bits ∙ used
  where
    bits : member i z ≡ ltb i n
    bits =
        ⊎_elim (λ l. member-past z i (omega arith) ∙ sym (le-ltb i n (omega arith)))
        (λ l. f (i / 64) (omega arith) (i % 64) (omega arith)
        ∙ ap (λ (m : ℕ). ltb m n) (omega arith)) (le_or_lt 384 i)

    used : ltb i n ≡ (ltb i entry_count && ltb i n)
    used =
        ⊎_elim (λ l. le-ltb i n l ∙ sym (ap (λ (b : Bool). ltb i entry_count && b) (le-ltb i n l) ∙ and_false (ltb i entry_count)))
        (λ l. sym (ap (λ (b : Bool). b && ltb i n) (lt-ltb i entry_count (omega (arith, entry_count_lem))))) (le_or_lt n i)
      where
        and_false : (b : Bool) → (b && false) ≡ false
        and_false true = refl
        and_false false = refl

-- ---- a range

is_within : (c lo hi : ℕ) → but_not (ltb c (hi + 1)) (ltb c lo) ≡ within lo hi c
is_within c lo hi =
    ⊎_elim (λ l. ⊎_elim (λ h. ap₂ but_not (lt-ltb c (hi + 1) (omega arith)) (le-ltb c lo l) ∙ sym (within_true lo hi c l h))
    (λ h. ap (λ (b : Bool). but_not b (ltb c lo)) (le-ltb c (hi + 1) (omega arith)) ∙ sym (within-above lo hi c h)) (le_or_lt c hi))
    (λ l. ap (λ (b : Bool). but_not (ltb c (hi + 1)) b) (lt-ltb c lo l) ∙ none (ltb c (hi + 1)) ∙ sym (within-below lo hi c l))
    (le_or_lt lo c)
  where
    none : (b : Bool) → but_not b true ≡ false
    none true = refl
    none false = refl

pub range_added : (lo hi from to : ℕ) (ws us vs ds rs : List ℕ) → ((i : ℕ) → i < 354 → ltb i from ≡ ltb (get_or variation_entries i 0) lo)
    → ((i : ℕ) → i < 354 → ltb i to ≡ ltb (get_or variation_entries i 0) (hi + 1))
    → Holds (λ (i : ℕ). ltb i from) us → Holds (λ (i : ℕ). ltb i to) vs
    → Holds (λ (i : ℕ). but_not (member i vs) (member i us)) ds → Holds (λ (i : ℕ). member i ws || member i ds) rs
    → (p : ℕ → Bool) → Holds p ws → Holds (λ (i : ℕ). p i || within lo hi (get_or variation_entries i 0)) rs
range_added lo hi from to ws us vs ds rs f t u v d r p h =
    holds_same entry_count (λ (i : ℕ). member i ws || member i ds) (λ (i : ℕ). p i || within lo hi (get_or variation_entries i 0)) rs r
    (λ i l. ap₂ ◌||◌ (held entry_count p ws h i l)
    (held entry_count (λ (i : ℕ). but_not (member i vs) (member i us)) ds d i l
    ∙ ap₂ but_not (held entry_count (λ (i : ℕ). ltb i to) vs v i l ∙ t i (omega (arith, entry_count_lem)))
    (held entry_count (λ (i : ℕ). ltb i from) us u i l ∙ f i (omega (arith, entry_count_lem)))
    ∙ is_within (get_or variation_entries i 0) lo hi))
