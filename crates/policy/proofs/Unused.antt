-- The unused bits of a set are all in its last word. Bytes are not a policy because of their length, their version, or such a bit.
use mathlib.Core.Path.{◌≡◌, refl, sym, ap, ap₂, ◌∙◌}
use mathlib.Core.Logic.{◌⊎◌, inl, inr, ⊎_elim}
use mathlib.Core.Bool.{Bool, true, false, not, ◌&&◌, ◌||◌, true≢false}
use mathlib.Core.List.{List}
use Prim.Native.Nat.{ℕ, zero, suc, ◌+◌, ◌-◌, ◌*◌, ◌/◌, ◌%◌, ◌^◌, ◌<◌, ◌≤◌}
use native.Mathlib.Omega.{arith}
use lib.Dec.{eqb, leb, ltb}
use lib.ListN.{get_or, length}
use lib.Pow.{pow_pos}
use borrow.Author.Tests.{eqb-false, le-leb, le-ltb, leb-true, lt-ltb, ltb-false, ne_eqb, not-false, not-true}
use Rattle.base.proofs.Tests.{both_false, le_or_lt, same_test}
use Rattle.base.specs.Bits.{one}
use Rattle.emoji.specs.UnicodeData.{unicode_version}
use Rattle.policy_key_set.specs.Sets.{all_below, entry_count, member, word_count}
use Rattle.policy_key_set.proofs.Below.{all_below_lem, below_all}
use Rattle.policy.specs.PolicyBytes.{
  NoPolicy,
  UnusedOne,
  is_policy,
  no_unused_bit,
  no_unused_bits,
  other_length,
  other_version,
  policy_length,
  policy_of,
  set_of,
  unused_bit,
  version_of,
}
use Rattle.policy.proofs.Bounds.{high_bits, low_word}

-- The test of a bit that belongs to no entry.
pub unused : (n i : ℕ) (b : Bool) → n ≤ i → (ltb i n || not b) ≡ not b
unused n i b h = simp (le-ltb i n h)

used : (n i : ℕ) (b : Bool) → i < n → (ltb i n || not b) ≡ true
used n i b h = simp (lt-ltb i n h)

module _ (n last : ℕ) (ws : List ℕ) (h : last * 64 ≤ n) where
  abbrev entry_test : ℕ → Bool
  entry_test i = ltb i n || not (member i ws)

  abbrev last_test : ℕ → Bool
  last_test k = ltb (last * 64 + k) n || not (one k (get_or ws last 0))

  in-last : (k : ℕ) → k < 64 → member (last * 64 + k) ws ≡ one k (get_or ws last 0)
  unfolding member
  in-last k l =
      let d : (last * 64 + k) / 64 ≡ last = omega arith in
      let m : (last * 64 + k) % 64 ≡ k = omega arith in
      ap₂ (λ (a b : ℕ). one a (get_or ws b 0)) m d

  at_last : (k : ℕ) → k < 64 → entry_test (last * 64 + k) ≡ last_test k
  at_last k l = ap (λ (b : Bool). ltb (last * 64 + k) n || not b) (in-last k l)

  pub unused_in_last : all_below (suc last * 64) entry_test ≡ all_below 64 last_test
  unused_in_last =
      same_test (all_below (suc last * 64) entry_test) (all_below 64 last_test)
      (λ t. below_all 64 last_test (λ k l. sym (at_last k l) ∙ all_below_lem (suc last * 64) entry_test t (last * 64 + k) (omega arith)))
      (λ t. below_all (suc last * 64) entry_test (λ i l.
      ⊎_elim
      (λ (m : n ≤ i).
      let e : last * 64 + (i - last * 64) ≡ i = omega arith in
      ap entry_test (sym e) ∙ at_last (i - last * 64) (omega arith) ∙ all_below_lem 64 last_test t (i - last * 64) (omega arith))
      (λ m. used n i (member i ws) m) (le_or_lt n i)))

-- In a word of 64 bits, the bits from u on are 0 exactly when the word is at most 2 to the u less 1.
pub small_word : (n base u w : ℕ) → base + u ≡ n → u ≤ 64 → w < 2 ^ 64
    → all_below 64 (λ (k : ℕ). ltb (base + k) n || not (one k w)) ≡ leb w (2 ^ u - 1)
small_word n base u w e l h =
    same_test (all_below 64 test) (leb w (2 ^ u - 1))
    (λ t.
    let s : u + (64 - u) ≡ 64 = omega arith in
    let h' : w < 2 ^ (u + (64 - u)) = rw s h in
    let small = low_word (64 - u) u w h' (λ k a b.
    not-true (one k w) (sym (unused n (base + k) (one k w) (omega arith)) ∙ all_below_lem 64 test t k (omega arith))) in
    le-leb w (2 ^ u - 1) (omega arith))
    (λ t. below_all 64 test (λ k a.
    ⊎_elim
    (λ (m : n ≤ base + k). unused n (base + k) (one k w) m
    ∙ ap not (high_bits u k w (omega (arith, leb-true w (2 ^ u - 1) t, pow_pos u)) (omega arith)))
    (λ m. used n (base + k) (one k w) m) (le_or_lt n (base + k))))
  where
    test : ℕ → Bool
    test k = ltb (base + k) n || not (one k w)

-- ---- bytes that are not a policy

-- A number below n that fails a test.
record Fails (n : ℕ) (p : ℕ → Bool) : Type 0 where
  at : ℕ
  below : at < n
  fails : p at ≡ false

not_all : (n : ℕ) (p : ℕ → Bool) → all_below n p ≡ false → Fails n p
unfolding all_below
not_all zero p e = absurd (true≢false e)
not_all (suc n) p e = go (p n) refl (not_all n p) e
  where
    go : (b : Bool) → p n ≡ b → (all_below n p ≡ false → Fails n p) → (b && all_below n p) ≡ false → Fails (suc n) p
    go false t ih f = record { at = n; below = omega arith; fails = t }
    go true t ih f = let r = ih f in record { at = r.at; below = omega (arith, r.below); fails = r.fails }

unused-one : (ws : List ℕ) → no_unused_bit ws ≡ false → UnusedOne ws
unfolding no_unused_bit
unused-one ws e =
    let r = not_all (word_count * 64) (λ (i : ℕ). ltb i entry_count || not (member i ws)) e in
    let f = both_false (ltb r.at entry_count) (not (member r.at ws)) r.fails in
    record {
      bit = r.at;
      no_entry = ltb-false r.at entry_count f.0;
      in_words = r.below;
      is_one = not-false (member r.at ws)
          f.1;
    }

one-unused : (ws : List ℕ) → UnusedOne ws → no_unused_bit ws ≡ false
unfolding no_unused_bit
one-unused ws u = go (no_unused_bit ws) refl
  where
    test : ℕ → Bool
    test i = ltb i entry_count || not (member i ws)

    go : (b : Bool) → no_unused_bit ws ≡ b → b ≡ false
    go false e = refl
    go true e = sym (sym (unused entry_count u.bit (member u.bit ws) u.no_entry ∙ ap not u.is_one)
        ∙ all_below_lem (word_count * 64) test e u.bit u.in_words)

-- If not all of four tests pass, one of them fails.
one_of : (a b c d : Bool) → ((a && b) && (c && d)) ≡ false → (a ≡ false) ⊎ ((b ≡ false) ⊎ ((c ≡ false) ⊎ (d ≡ false)))
one_of false b c d e = inl refl
one_of true false c d e = inr (inl refl)
one_of true true false d e = inr (inr (inl refl))
one_of true true true d e = inr (inr (inr e))

module _ (bs : List ℕ) where
  -- Set k has no unused bit.
  abbrev clean : ℕ → Bool
  clean k = no_unused_bit (set_of k bs).bits

  pub refused_for : is_policy bs ≡ false → NoPolicy bs
  unfolding is_policy no_unused_bits policy_of
  refused_for e = go (eqb (length bs) policy_length) refl e
    where
      in-set : (k : ℕ) → k < 4 → clean k ≡ false → NoPolicy bs
      in-set k l f = unused_bit k l (unused-one (set_of k bs).bits f)

      by-version : (b : Bool) → eqb (version_of bs) unicode_version ≡ b → (b && no_unused_bits (policy_of bs)) ≡ false → NoPolicy bs
      by-version false t f = other_version (eqb-false (version_of bs) unicode_version t)
      by-version true t f =
          ⊎_elim (in-set 0 (omega arith))
          (⊎_elim (in-set 1 (omega arith)) (⊎_elim (in-set 2 (omega arith)) (in-set 3 (omega arith))))
          (one_of (clean 0) (clean 1) (clean 2) (clean 3) f)

      go : (b : Bool) → eqb (length bs) policy_length ≡ b
          → (b && (eqb (version_of bs) unicode_version && no_unused_bits (policy_of bs))) ≡ false → NoPolicy bs
      go false t f = other_length (eqb-false (length bs) policy_length t)
      go true t f = by-version (eqb (version_of bs) unicode_version) refl f

  and_false : (x y : Bool) → y ≡ false → (x && y) ≡ false
  and_false true y e = e
  and_false false y e = refl

  pub refused-by : NoPolicy bs → is_policy bs ≡ false
  unfolding is_policy no_unused_bits policy_of
  refused-by (other_length h) =
      ap (λ (b : Bool). b && (eqb (version_of bs) unicode_version && no_unused_bits (policy_of bs))) (ne_eqb (length bs) policy_length h)
  refused-by (other_version h) =
      and_false (eqb (length bs) policy_length) (eqb (version_of bs) unicode_version && no_unused_bits (policy_of bs))
      (ap (λ (b : Bool). b && no_unused_bits (policy_of bs)) (ne_eqb (version_of bs) unicode_version h))
  refused-by (unused_bit k l u) =
      and_false (eqb (length bs) policy_length) (eqb (version_of bs) unicode_version && no_unused_bits (policy_of bs))
      (and_false (eqb (version_of bs) unicode_version) (no_unused_bits (policy_of bs)) (go k l (one-unused (set_of k bs).bits u)))
    where
      go : (k : ℕ) → k < 4 → clean k ≡ false → ((clean 0 && clean 1) && (clean 2 && clean 3)) ≡ false
      go zero l f = ap (λ (b : Bool). (b && clean 1) && (clean 2 && clean 3)) f
      go (suc zero) l f = ap (λ (b : Bool). b && (clean 2 && clean 3)) (and_false (clean 0) (clean 1) f)
      go (suc (suc zero)) l f = and_false (clean 0 && clean 1) (clean 2 && clean 3) (ap (λ (b : Bool). b && clean 3) f)
      go (suc (suc (suc zero))) l f = and_false (clean 0 && clean 1) (clean 2 && clean 3) (and_false (clean 2) (clean 3) f)
      go (suc (suc (suc (suc k)))) l f = absurd (omega arith)
