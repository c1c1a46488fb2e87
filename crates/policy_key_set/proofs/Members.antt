-- The entries that words hold, for any number of entries and words.
use mathlib.Core.Path.{◌≡◌, refl, sym, ap, ◌∙◌}
use mathlib.Core.Logic.{◌⊎◌, inl, inr, ⊎_elim}
use mathlib.Core.Bool.{Bool, true, false, beq, ◌&&◌, not, and-false, and-true}
use mathlib.Core.List.{List}
use Prim.Native.Nat.{ℕ, ◌+◌, ◌*◌, ◌/◌, ◌%◌, ◌^◌, ◌<◌, ◌≤◌}
use native.Mathlib.Omega.{arith}
use lib.Dec.{eqb, ltb}
use lib.ListN.{get_or-eq_default, get_or, length, length-replicate, replicate, set}
use lib.Seq.{ext_get_or, get_or-set_other, get_or-set_same}
use borrow.Author.Count.{below_more}
use borrow.Author.Tests.{eq-eqb, eqb-false, eqb-true, le-ltb, lt-ltb, ne_eqb}
use Rattle.base.proofs.Lists.{zeros}
use Rattle.base.proofs.Tests.{beq_so, le_or_lt}
use Rattle.base.specs.Bits.{one}
use Rattle.base.proofs.Bits.{zero_one}
use Rattle.policy_key_set.specs.Sets.{HoldsBelow, all_below, but_not, member}
use Rattle.policy_key_set.proofs.Bits.{bits_determine}
use Rattle.policy_key_set.proofs.Below.{all_below_lem}

pub decide : (a b : ℕ) → (a ≡ b) ⊎ (a ≡ b → ⊥)
decide a b = go (eqb a b) refl
  where
    go : (t : Bool) → eqb a b ≡ t → (a ≡ b) ⊎ (a ≡ b → ⊥)
    go true e = inl (eqb-true a b e)
    go false e = inr (eqb-false a b e)

-- After the last word, no entry is in the set.
pub member-past : (ws : List ℕ) (i : ℕ) → length ws * 64 ≤ i → member i ws ≡ false
unfolding member
member-past ws i h = ap (one (i % 64)) (get_or-eq_default ws 0 (omega arith)) ∙ zero_one (i % 64)

-- Storing word i: a property of each word before i and of the stored word holds of each word up to i.
pub set_more : (P : ℕ → ℕ → Type 0) (z : List ℕ) (i v : ℕ) → i < length z → ((k : ℕ) → k < i → P k (get_or z k 0)) → P i v
    → (k : ℕ) → k < i + 1 → P k (get_or (set z i v) k 0)
set_more P z i v l h p =
    below_more (λ (k : ℕ). P k (get_or (set z i v) k 0)) i (λ k q. rw (get_or-set_other z i k v 0 (λ e. omega arith)) (h k q))
    (rw (get_or-set_same z i v 0 l) p)

-- Words that are 0 hold no entry.
pub no_member : (n i : ℕ) → member i (replicate n 0) ≡ false
unfolding member
no_member n i = ap (one (i % 64)) (zeros n (i / 64)) ∙ zero_one (i % 64)

pub none_held : (n m : ℕ) → HoldsBelow n (λ (i : ℕ). false) (replicate m 0)
none_held n m i = no_member m i ∙ sym (and-false (ltb i n))

-- Words that have one 1 hold one entry.
pub one-member : (n i w : ℕ) → i < n * 64 → ((k : ℕ) → one k w ≡ eqb k (i % 64)) → (j : ℕ)
    → member j (set (replicate n 0) (i / 64) w) ≡ eqb j i
unfolding member
one-member n i w l h j = ⊎_elim same other (decide (j / 64) (i / 64))
  where
    same : j / 64 ≡ i / 64 → member j (set (replicate n 0) (i / 64) w) ≡ eqb j i
    same e =
        ap (λ (q : ℕ). one (j % 64) (get_or (set (replicate n 0) (i / 64) w) q 0)) e
        ∙ ap (one (j % 64)) (get_or-set_same (replicate n 0) (i / 64) w 0 (simp length-replicate (omega arith))) ∙ h (j % 64)
        ∙ ⊎_elim (λ p. eq-eqb (j % 64) (i % 64) p ∙ sym (eq-eqb j i (omega arith)))
        (λ p. ne_eqb (j % 64) (i % 64) p ∙ sym (ne_eqb j i (λ q. p (ap (λ (x : ℕ). x % 64) q)))) (decide (j % 64) (i % 64))

    other : (j / 64 ≡ i / 64 → ⊥) → member j (set (replicate n 0) (i / 64) w) ≡ eqb j i
    other e =
        ap (one (j % 64)) (get_or-set_other (replicate n 0) (i / 64) (j / 64) w 0 e) ∙ no_member n j
        ∙ sym (ne_eqb j i (λ q. e (ap (λ (x : ℕ). x / 64) q)))

-- Each used bit of a word is f of the bits of two words.
abbrev pub Combined : (Bool → Bool → Bool) → ℕ → ℕ → ℕ → ℕ → Type 0
Combined f used x y z = (k : ℕ) → k < 64 → one k z ≡ (one k used && f (one k x) (one k y))

-- If each word of a result is so combined, so is each entry.
pub word_wise : (f : Bool → Bool → Bool) (n : ℕ) (used x y z : List ℕ) → HoldsBelow n (λ (i : ℕ). true) used → n ≤ length z * 64
    → ((k : ℕ) → k < length z → Combined f (get_or used k 0) (get_or x k 0) (get_or y k 0) (get_or z k 0))
    → HoldsBelow n (λ (i : ℕ). f (member i x) (member i y)) z
unfolding member
word_wise f n used x y z u l h i =
    ⊎_elim (λ p. member-past z i p ∙ sym (ap (λ (b : Bool). b && f (member i x) (member i y)) (le-ltb i n (omega arith))))
    (λ p. h (i / 64) (omega arith) (i % 64) (omega arith)
    ∙ ap (λ (b : Bool). b && f (member i x) (member i y)) (u i ∙ and-true (ltb i n))) (le_or_lt (length z * 64) i)

-- Words whose bits all agree with a test hold the entries that pass it.
pub test_holds : (n : ℕ) (p : ℕ → Bool) (ws : List ℕ) → n ≤ length ws * 64
    → all_below (length ws * 64) (λ (i : ℕ). beq (member i ws) (ltb i n && p i)) ≡ true → HoldsBelow n p ws
test_holds n p ws l t i =
    ⊎_elim (λ h. member-past ws i h ∙ sym (ap (λ (b : Bool). b && p i) (le-ltb i n (omega arith))))
    (λ h. beq_so (member i ws) (ltb i n && p i) (all_below_lem (length ws * 64) (λ (k : ℕ). beq (member k ws) (ltb k n && p k)) t i h))
    (le_or_lt (length ws * 64) i)

-- Tests that agree below n describe the same words.
pub holds_same : (n : ℕ) (p q : ℕ → Bool) (ws : List ℕ) → HoldsBelow n p ws → ((i : ℕ) → i < n → p i ≡ q i) → HoldsBelow n q ws
holds_same n p q ws h e i =
    h i ∙ ⊎_elim (λ l. ap (λ (b : Bool). b && p i) (le-ltb i n l) ∙ sym (ap (λ (b : Bool). b && q i) (le-ltb i n l)))
    (λ l. ap (λ (b : Bool). ltb i n && b) (e i l)) (le_or_lt n i)

-- An entry below n is a member exactly if it passes the test.
pub held : (n : ℕ) (p : ℕ → Bool) (ws : List ℕ) → HoldsBelow n p ws → (i : ℕ) → i < n → member i ws ≡ p i
held n p ws h i l = h i ∙ ap (λ (b : Bool). b && p i) (lt-ltb i n l)

-- The set of all entries without those of a set is the complement.
pub complement_held : (n : ℕ) (all ws vs : List ℕ) → HoldsBelow n (λ (i : ℕ). true) all
    → HoldsBelow n (λ (i : ℕ). but_not (member i all) (member i ws)) vs → HoldsBelow n (λ (i : ℕ). not (member i ws)) vs
complement_held n all ws vs h g =
    holds_same n _ (λ (i : ℕ). not (member i ws)) vs g
    (λ i l. ap (λ (b : Bool). b && not (member i ws)) (held n (λ (i : ℕ). true) all h i l))

-- Words below 2 ^ 64 with the same members are equal.
pub members_determine : (ws vs : List ℕ) → length ws ≡ length vs → ((k : ℕ) → get_or ws k 0 < 2 ^ 64) → ((k : ℕ) → get_or vs k 0 < 2 ^ 64)
    → ((i : ℕ) → member i ws ≡ member i vs) → ws ≡ vs
unfolding member
members_determine ws vs e h g m =
    ext_get_or 0 ws vs e
    (λ k l. bits_determine 64 (get_or ws k 0) (get_or vs k 0) (h k) (g k)
    (λ j q.
    let d : (k * 64 + j) / 64 ≡ k = omega arith in
    let r : (k * 64 + j) % 64 ≡ j = omega arith in
    let f : one ((k * 64 + j) % 64) (get_or ws ((k * 64 + j) / 64) 0) ≡ one ((k * 64 + j) % 64) (get_or vs ((k * 64 + j) / 64) 0) =
    m (k * 64 + j) in
    rw (d, r) at f))
