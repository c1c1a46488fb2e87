-- Laws that the functions' proofs cite.
use Rattle.std.specs.Prelude.{Some, None}
use mathlib.Core.Path.{◌≡◌, refl, ap, ap₂, sym, ◌∙◌}
use mathlib.Core.Bool.{Bool, true, false, not, ◌&&◌, ◌||◌, true≢false}
use mathlib.Core.Logic.{⊎_elim}
use mathlib.Core.List.{List, [], ◌∷◌}
use Prim.Native.Nat.{ℕ, zero, suc, ◌+◌, ◌*◌, ◌-◌, ◌/◌, ◌%◌, ◌^◌, ◌≤◌, ◌<◌}
use native.Mathlib.Omega.{arith}
use lib.Dec.{ltb}
use lib.ListN.{drop, get_or, length, take}
use borrow.Author.Tests.{le-ltb, lt-ltb, ltb-true}
use Rattle.base.specs.Bits.{one}
use Rattle.base.specs.Words.{number}
use Rattle.base.proofs.Tests.{and_both, both_true, either_left, either-right, fails, le_or_lt}
use Rattle.emoji.specs.Tables.{ascending, ascending_from, index_of}
use Rattle.emoji.proofs.Ascent.{ascending_le, ascending_lt, index_first, index_none}
use Rattle.emoji.specs.UnicodeData.{variation_entries}
use Rattle.policy_key_set.specs.Sets.{all_below, entry_count, member, word_count}
use Rattle.policy_key_set.proofs.Below.{all_below_lem, below_all}
use Rattle.policy.specs.DefaultPolicy.{
  bare_as_text_words,
  bare_as_text_keycap_words,
  default_policy,
  prefer_bare_words,
  prefer_bare_keycap_words,
}
use Rattle.policy.specs.PolicyBytes.{PolicyValue, SetValue, numbers_of, words_from}
use Rattle.policy.proofs.Bytes.{get_or-words_from, length_words_from}

-- ---- numbers in bytes

pub number_word : (es : List ℕ) (j : ℕ) → j < length es / 8 → number (take 8 (drop (8 * j) es)) ≡ get_or (numbers_of es) j 0
number_word es j l =
    let e : 8 * j ≡ 0 + j * 8 = omega arith in
    ap (λ (i : ℕ). number (take 8 (drop i es))) e ∙ sym (get_or-words_from (length es / 8) 0 es j l)

pub many-numbers : (es : List ℕ) → length (numbers_of es) ≡ length es / 8
many-numbers es = length_words_from (length es / 8) 0 es

pub word_bit : (ps : List ℕ) (at words j : ℕ) → j < words * 64 → (b : Bool) (w : ℕ) → w ≡ number (take 8 (drop (at + j / 64 * 8) ps)) → b
    ≡ one (j % 64) w → b ≡ member j (words_from words at ps)
unfolding member
word_bit ps at words j l b w e h = h ∙ ap (one (j % 64)) (e ∙ sym (get_or-words_from words at ps (j / 64) (omega arith)))

-- ---- ascending

from : (x : ℕ) (ys : List ℕ) → ((i : ℕ) → i < length ys → get_or (x ∷ ys) i 0 < get_or (x ∷ ys) (suc i) 0) → ascending_from x ys ≡ true
unfolding ascending_from
from x [] h = refl
from x (y ∷ ys) h = and_both (ltb x y) (ascending_from y ys) (lt-ltb x y (h 0 (omega arith))) (from y ys (λ i l. h (suc i) (omega arith)))

pub ascends : (xs : List ℕ) → ((i : ℕ) → suc i < length xs → get_or xs i 0 < get_or xs (suc i) 0) → true ≡ ascending xs
unfolding ascending
ascends [] h = refl
ascends (x ∷ ys) h = sym (from x ys (λ i l. h i (omega arith)))

pub next-pair : (xs : List ℕ) (j : ℕ) → 0 < j → {n : ℕ} → ((i : ℕ) → suc i < j → i < n → get_or xs i 0 < get_or xs (suc i) 0) → get_or xs
    (j - 1) 0 < get_or xs j 0
    → (i : ℕ) → suc i < j + 1 → i < n → get_or xs i 0 < get_or xs (suc i) 0
next-pair xs j p h e i l m =
    ⊎_elim (λ q. let a : j ≡ suc i = omega arith in let b : j - 1 ≡ i = omega arith in omega
    (arith, ap (λ (k : ℕ). get_or xs k 0) a, ap (λ (k : ℕ). get_or xs k 0) b))
    (λ q. h i q m) (le_or_lt j (suc i))

pub falls : (xs : List ℕ) (j : ℕ) → 0 < j → j < length xs → get_or xs j 0 ≤ get_or xs (j - 1) 0 → false ≡ ascending xs
falls xs j p l h = sym (fails (ascending xs) (λ e. let z = ascending_lt xs e (j - 1) j (omega arith) l in omega arith))

-- ---- unused bits

module _ (n count : ℕ) (p : ℕ → Bool) where
  abbrev T : ℕ → Bool
  T i = ltb i count || not (p i)

  pub unused_found : (i : ℕ) → count ≤ i → i < n → p i ≡ true → false ≡ all_below n T
  unused_found i c l e =
      sym (fails (all_below n T) (λ a. true≢false (sym (all_below_lem n T a i l) ∙ ap₂ (λ (x y : Bool). x || not y) (le-ltb i count c) e)))

  pub unused-none : ((m : ℕ) → count ≤ m → m < n → p m ≡ false) → true ≡ all_below n T
  unused-none h =
      sym (below_all n T (λ i l. ⊎_elim (λ c. either-right (ltb i count) (not (p i)) (ap not (h i c l)))
      (λ c. either_left (ltb i count) (not (p i)) (lt-ltb i count c)) (le_or_lt count i)))

-- ---- the default policy

small : List ℕ → Bool
small [] = true
small (w ∷ ws) = ltb w 18446744073709551616 && small ws

small_words : (ws : List ℕ) → small ws ≡ true → (k : ℕ) → get_or ws k 0 < 2 ^ 64
unfolding small
small_words [] e k = omega arith
small_words (w ∷ ws) e zero = ltb-true w 18446744073709551616 (both_true (ltb w 18446744073709551616) (small ws) e).0
small_words (w ∷ ws) e (suc k) = small_words ws (both_true (ltb w 18446744073709551616) (small ws) e).1 k

set_value : (ws : List ℕ) → length ws ≡ word_count → small ws ≡ true → SetValue ws
set_value ws l e = record { has_word_count = l; words = small_words ws e }

pub default_value : PolicyValue default_policy
unfolding default_policy prefer_bare_words prefer_bare_keycap_words bare_as_text_words bare_as_text_keycap_words small word_count
    entry_count
    variation_entries
default_value = record {
  prefer_bare_set = set_value prefer_bare_words refl refl;
  prefer_bare_keycap_set = set_value prefer_bare_keycap_words refl refl;
  bare_as_text_set = set_value bare_as_text_words refl refl;
  bare_as_text_keycap_set = set_value bare_as_text_keycap_words refl refl;
}

-- ---- a search in an ascending list

module _ (xs : List ℕ) (asc : ascending xs ≡ true) (c : ℕ) where
  -- All before a place are below the number, all from a place on above it.
  abbrev pub Below : ℕ → Type 0
  Below lo = (i : ℕ) → i < lo → i < length xs → get_or xs i 0 < c

  abbrev pub Above : ℕ → Type 0
  Above hi = (i : ℕ) → hi ≤ i → i < length xs → c < get_or xs i 0

  pub goes_up : (m : ℕ) → m < length xs → get_or xs m 0 < c → Below (m + 1)
  goes_up m l h i k q = omega (arith, ascending_le xs asc i m (omega arith) l)

  pub goes_down : (m : ℕ) → m < length xs → (get_or xs m 0 ≡ c → ⊥) → c ≤ get_or xs m 0 → Above m
  goes_down m l n h i k q = let d : c < get_or xs m 0 = ne-lt (get_or xs m 0) n h in omega (arith, ascending_le xs asc m i k q)
    where
      ne-lt : (x : ℕ) → (x ≡ c → ⊥) → c ≤ x → c < x
      ne-lt x n h = omega arith

  pub found_at : (m : ℕ) → m < length xs → get_or xs m 0 ≡ c → index_of c xs ≡ Some m
  found_at m l e = index_first c xs m l e (λ j k q. let z = ascending_lt xs asc j m k l in omega arith)

  pub found_none : (lo hi : ℕ) → hi ≤ lo → Below lo → Above hi → index_of c xs ≡ None
  found_none lo hi h b a =
      index_none c xs (λ k l e. ⊎_elim (λ g. let z = a k (omega arith) l in omega arith) (λ g. let z = b k g l in omega arith)
      (le_or_lt lo k))
