-- The tests of a feed's bytes.
use mathlib.Core.Path.{◌≡◌, refl, ap, ap₂, sym, ◌∙◌}
use mathlib.Core.Bool.{Bool, true, false, cond}
use mathlib.Core.List.{List}
use Prim.Native.Nat.{ℕ, zero, suc, ◌/◌, ◌%◌, ◌≤◌, ◌<◌}
use native.Mathlib.Omega.{arith}
use lib.ListN.{drop, length}
use borrow.Author.Tests.{eq-eqb, ne_eqb}
use Rattle.base.specs.Ranges.{within}
use Rattle.base.specs.Words.{little_endian, word_at}
use Rattle.utf8.specs.Rfc3629.{is_scalar}
use Rattle.utf8.specs.Rfc3629.{begun_2, begun_3, subpart}
use Rattle.utf8.specs.Subparts.{unfinished}
use Rattle.utf8.proofs.SecondBytes.{width_1, width_2_low, width_2_tail, width_3}
use Rattle.policy.specs.PolicyBytes.{is_policy}
use Rattle.feed.specs.Bytes.{held_of, is_feed, rest_of, small_to, state_of}

-- ---- three bytes

not_third : (a b c : ℕ) → subpart a b c ≤ 2 → begun_3 a b c ≡ false
unfolding subpart
not_third a b c h = go (begun_3 a b c) (begun_2 a b) h
  where
    go : (x y : Bool) → cond x 3 (cond y 2 1) ≤ 2 → x ≡ false
    go false y h = refl
    go true y h = absurd (omega arith)

is_third : (a b c : ℕ) → 3 ≤ subpart a b c → begun_3 a b c ≡ true
unfolding subpart
is_third a b c h = go (begun_3 a b c) (begun_2 a b) h
  where
    go : (x y : Bool) → 3 ≤ cond x 3 (cond y 2 1) → x ≡ true
    go true y h = refl
    go false true h = absurd (omega arith)
    go false false h = absurd (omega arith)

pub not_second : (a b c : ℕ) → begun_2 a b ≡ false → false ≡ begun_3 a b c
not_second a b c e = sym (not_third a b c (omega (arith, width_1 a b c e)))

pub not_third_low : (a b c : ℕ) → begun_2 a b ≡ true → a < 0xF0 → false ≡ begun_3 a b c
not_third_low a b c e h = sym (not_third a b c (omega (arith, width_2_low a b c e h)))

pub begun-by_third : (a b c : ℕ) {r : Bool} → begun_2 a b ≡ true → 0xF0 ≤ a → r ≡ within 0x80 0xBF c → r ≡ begun_3 a b c
begun-by_third a b c e h p = p ∙ go (within 0x80 0xBF c) refl
  where
    go : (t : Bool) → within 0x80 0xBF c ≡ t → t ≡ begun_3 a b c
    go true w = sym (is_third a b c (omega (arith, width_3 a b c e h w)))
    go false w = sym (not_third a b c (omega (arith, width_2_tail a b c e w)))

-- ---- bytes of a number

module _ (n x : ℕ) where
  pub unfinished-none : n ≡ 0 → true ≡ unfinished (little_endian n x)
  unfolding unfinished little_endian
  unfinished-none e = ap (λ (m : ℕ). unfinished (little_endian m x)) (sym e)

  pub unfinished-one : {a : ℕ} {r : Bool} → n ≡ 1 → a ≡ x % 256 → r ≡ within 0xC2 0xF4 a → r ≡ unfinished (little_endian n x)
  unfolding unfinished little_endian
  unfinished-one e p q = q ∙ ap (λ (b : ℕ). within 0xC2 0xF4 b) p ∙ ap (λ (m : ℕ). unfinished (little_endian m x)) (sym e)

  pub unfinished-two : {a b : ℕ} {r : Bool} → n ≡ 2 → a ≡ x % 256 → b ≡ x / 256 % 256 → r ≡ begun_2 a b → r ≡ unfinished (little_endian n x)
  unfolding unfinished little_endian
  unfinished-two e p q t = t ∙ ap₂ (λ (y z : ℕ). begun_2 y z) p q ∙ ap (λ (m : ℕ). unfinished (little_endian m x)) (sym e)

  pub unfinished-three : {a b d : ℕ} {r : Bool} → n ≡ 3 → a ≡ x % 256 → b ≡ x / 256 % 256 → d ≡ x / 256 / 256 % 256 → r ≡ begun_3 a b d
      → r ≡ unfinished (little_endian n x)
  unfolding unfinished little_endian
  unfinished-three {d = d} e p q s t =
      t ∙ ap₂ (λ (y z : ℕ). begun_3 y z d) p q ∙ ap (λ (y : ℕ). begun_3 (x % 256) (x / 256 % 256) y) s
      ∙ ap (λ (m : ℕ). unfinished (little_endian m x)) (sym e)

pub unfinished-many : (n x : ℕ) → 3 < n → false ≡ unfinished (little_endian n x)
unfolding unfinished little_endian
unfinished-many zero x h = absurd (omega arith)
unfinished-many (suc zero) x h = absurd (omega arith)
unfinished-many (suc (suc zero)) x h = absurd (omega arith)
unfinished-many (suc (suc (suc zero))) x h = absurd (omega arith)
unfinished-many (suc (suc (suc (suc n)))) x h = refl

-- ---- bytes of a feed

module _ (bs : List ℕ) where
  pub feed_1 : (length bs ≡ 320 → ⊥) → false ≡ is_feed bs
  unfolding is_feed
  feed_1 h = sym (simp (ne_eqb (length bs) 320 h))

  -- The base and the unfinished bytes as they were read.
  pub feed_base : {w b : ℕ} {t : Bool} → w ≡ word_at 1 bs → b ≡ w % 4294967296 → is_scalar b ≡ t → is_scalar (state_of bs).held.base ≡ t
  unfolding state_of held_of
  feed_base p q e = ap is_scalar (ap (λ (x : ℕ). x % 4294967296) (sym p) ∙ sym q) ∙ e

  pub feed_rest : {n r : ℕ} {t : Bool} → n ≡ word_at 4 bs → r ≡ word_at 5 bs → unfinished (little_endian n r) ≡ t
      → unfinished (rest_of (state_of bs)) ≡ t
  unfolding state_of
  feed_rest p q e = ap₂ (λ (x y : ℕ). unfinished (little_endian x y)) (sym p) (sym q) ∙ e

  module _ (h : length bs ≡ 320) where
    pub feed-2 : small_to 15 bs ≡ false → false ≡ is_feed bs
    unfolding is_feed
    feed-2 s = sym (simp (eq-eqb (length bs) 320 h, s))

    pub feed-3 : small_to 15 bs ≡ true → is_scalar (state_of bs).held.base ≡ false → false ≡ is_feed bs
    unfolding is_feed
    feed-3 s t = sym (simp (eq-eqb (length bs) 320 h, s, t))

    pub feed-4 : small_to 15 bs ≡ true → is_scalar (state_of bs).held.base ≡ true → unfinished (rest_of (state_of bs)) ≡ false
        → false ≡ is_feed bs
    unfolding is_feed
    feed-4 s t u = sym (simp (eq-eqb (length bs) 320 h, s, t, u))

    pub feed-5 : small_to 15 bs ≡ true → is_scalar (state_of bs).held.base ≡ true → unfinished (rest_of (state_of bs)) ≡ true
        → {r : Bool} → r ≡ is_policy (drop 120 bs) → r ≡ is_feed bs
    unfolding is_feed
    feed-5 s t u e = e ∙ sym (simp (eq-eqb (length bs) 320 h, s, t, u))
