-- The words of the result, the tests of the old list and the old policy, and the call.
use Rattle.base.specs.declared.Refusal.{Refusal}
use Rattle.std.specs.Prelude.{Ok, Err, Result}
use mathlib.Core.Path.{◌≡◌, refl, ap, ap₂, sym, ◌∙◌}
use mathlib.Core.Bool.{Bool, true, false, not, ◌&&◌, ◌||◌}
use mathlib.Core.Logic.{⊎_elim}
use mathlib.Core.List.{List, ◌∷◌, ◌++◌}
use Prim.Native.Nat.{ℕ, zero, suc, ◌+◌, ◌*◌, ◌-◌, ◌/◌, ◌%◌, ◌≤◌, ◌<◌}
use native.Mathlib.Omega.{arith}
use lib.Dec.{eqb, ltb}
use lib.ListN.{get_or-append, drop, get_or, length, length-append}
use lib.Seq.{get_or-append-add, sets, sets-eq}
use borrow.Author.Tests.{eq-eqb, le-leb, ne_eqb}
use Rattle.base.proofs.Tests.{both_true, le_or_lt}
use Rattle.base.proofs.Writer.{Writing, begin}
use Rattle.base.specs.Refusals.{After}
use Rattle.base.specs.Words.{bytes_of}
use Rattle.base.specs.declared.Refusal.TheVariants.{NotAPolicy, NotAnEntryList, OutputTooShort}
use Rattle.base.proofs.Numbers.{length_bytes_of_lem}
use Rattle.emoji.specs.Tables.{ascending}
use Rattle.emoji.specs.UnicodeData.{unicode_version}
use Rattle.policy_key_set.proofs.Entries.{six}
use Rattle.policy_key_set.specs.Sets.{all_below, member}
use Rattle.policy.specs.PolicyBytes.{key_words, numbers_of, policy_bytes, policy_words, words_from}
use Rattle.policy.specs.declared.Policy.{Policy}
use Rattle.policy.proofs.RoundTrips.{SixWordSets, many_words}
use Rattle.policy_migration.specs.Carry.{
  WhichSet,
  bare_as_text_set,
  bare_as_text_keycap_set,
  carried,
  carried_set,
  carry_call,
  is_old_list,
  is_old_policy,
  no_old_unused,
  old_set,
  place_of,
  prefer_bare_set,
  prefer_bare_keycap_set,
  set_in,
  words_for,
}
use Rattle.policy_migration.specs.Helpers.{set_at}
use Rattle.policy_migration.proofs.Carrying.{carried_length, carried_set_lem, policy_value}
use Rattle.policy_migration.proofs.Coding.{many-numbers}
use Rattle.policy_migration.proofs.Calls.{call_is, in_order}

-- ---- the words

after_first : (xs ys : List ℕ) (m : ℕ) → length xs ≤ m → get_or (xs ++ ys) m 0 ≡ get_or ys (m - length xs) 0
after_first xs ys m h = let e : m ≡ length xs + (m - length xs) = omega arith in
    ap (λ (i : ℕ). get_or (xs ++ ys) i 0) e ∙ get_or-append-add xs ys (m - length xs) 0

-- two sets of six words
pair-word : (a b : List ℕ) → length a ≡ 6 → (m : ℕ) → (m < 6 → get_or (a ++ b) m 0 ≡ get_or a m 0)
    × (6 ≤ m → get_or (a ++ b) m 0 ≡ get_or b (m - 6) 0)
pair-word a b l m = (λ h. get_or-append a b 0 m (omega arith), λ h. after_first a b m (omega arith) ∙ ap (λ (n : ℕ). get_or b (m - n) 0) l)

module _ (p : Policy) (s : SixWordSets p) (m : ℕ) (lm : m < 24) where
  abbrev a : List ℕ
  a = set_in p prefer_bare_set

  abbrev b : List ℕ
  b = set_in p prefer_bare_keycap_set

  abbrev c : List ℕ
  c = set_in p bare_as_text_set

  abbrev d : List ℕ
  d = set_in p bare_as_text_keycap_set

  Goal : Type 0
  Goal = get_or ((a ++ b) ++ (c ++ d)) m 0 ≡ get_or (set_in p (set_at (m / 6))) (m % 6) 0

  at_set : (q r : ℕ) → m / 6 ≡ q → m % 6 ≡ r → get_or ((a ++ b) ++ (c ++ d)) m 0 ≡ get_or (set_in p (set_at q)) r 0 → Goal
  unfolding Goal
  at_set q r e f h = h ∙ ap₂ (λ (x y : ℕ). get_or (set_in p (set_at x)) y 0) (sym e) (sym f)

  twelve : length (a ++ b) ≡ 12
  twelve = let x = s.first in let y = s.second in omega (arith, length-append a b)

  front : m < 12 → get_or ((a ++ b) ++ (c ++ d)) m 0 ≡ get_or (a ++ b) m 0
  front h = get_or-append (a ++ b) (c ++ d) 0 m (omega (arith, twelve))

  back : 12 ≤ m → get_or ((a ++ b) ++ (c ++ d)) m 0 ≡ get_or (c ++ d) (m - 12) 0
  back h = after_first (a ++ b) (c ++ d) m (omega (arith, twelve)) ∙ ap (λ (n : ℕ). get_or (c ++ d) (m - n) 0) twelve

  found : Goal
  found =
      ⊎_elim (λ h.
      ⊎_elim (λ g. at_set 3 (m - 12 - 6) (omega arith) (omega arith) (back h ∙ (pair-word c d s.third (m - 12)).1 (omega arith)))
      (λ g. at_set 2 (m - 12) (omega arith) (omega arith) (back h ∙ (pair-word c d s.third (m - 12)).0 (omega arith))) (le_or_lt 18 m))
      (λ h.
      ⊎_elim (λ g. at_set 1 (m - 6) (omega arith) (omega arith) (front h ∙ (pair-word a b s.first m).1 g))
      (λ g. at_set 0 m (omega arith) (omega arith) (front h ∙ (pair-word a b s.first m).0 g)) (le_or_lt 6 m)) (le_or_lt 12 m)

  pub policy-word : get_or (policy_words p) m 0 ≡ get_or (set_in p (set_at (m / 6))) (m % 6) 0
  unfolding policy_words key_words Goal
  policy-word = found

module _ (es ps : List ℕ) where
  abbrev old : List ℕ
  old = numbers_of es

  abbrev P : Policy
  P = carried old ps

  abbrev pub Ws : List ℕ
  Ws = unicode_version ∷ policy_words P

  six_sets : SixWordSets P
  six_sets =
      let v = policy_value old ps in
      record {
        first = v.prefer_bare_set.has_word_count ∙ six;
        second = v.prefer_bare_keycap_set.has_word_count ∙ six;
        third = v.bare_as_text_set.has_word_count ∙ six;
        fourth = v.bare_as_text_keycap_set.has_word_count ∙ six;
      }

  pub result-word : (n : ℕ) → (n ≡ 0 → ⊥) → n < 25 → get_or (carried_set old ps (set_at ((n - 1) / 6))) ((n - 1) % 6) 0 ≡ get_or Ws n 0
  result-word zero z l = absurd (z refl)
  result-word (suc m) z l =
      let e : suc m - 1 ≡ m = omega arith in
      ap (λ (x : ℕ). get_or (carried_set old ps (set_at (x / 6))) (x % 6) 0) e
      ∙ ap (λ (ws : List ℕ). get_or ws (m % 6) 0) (sym (carried_set_lem old ps (set_at (m / 6))))
      ∙ sym (policy-word P six_sets m (omega arith))

  pub result_length : length Ws ≡ 25
  result_length = omega (arith, many_words P six_sets)

  pub begin_result : (out : List ℕ) → 200 ≤ length out → Writing (bytes_of Ws) 0 out (bytes_of Ws) out 0
  begin_result out h = begin (bytes_of Ws) 0 out (omega (arith, length_bytes_of_lem Ws, result_length))

  -- ---- the tests

  abbrev W : ℕ
  W = (length es / 8 + 63) / 64

  same_words : words_for old ≡ W
  same_words = ap (λ (n : ℕ). (n + 63) / 64) (many-numbers es)

  abbrev Listed : Bool
  Listed = eqb (length es % 8) 0 && is_old_list old ps

  end_false : (t : Bool) → (t && false) ≡ false
  end_false true = refl
  end_false false = refl

  pub odd-list : (length es % 8 ≡ 0 → ⊥) → false ≡ Listed
  odd-list h = sym (ap (λ (t : Bool). t && is_old_list old ps) (ne_eqb (length es % 8) 0 h))

  count_is : eqb (length ps) (8 * (4 * words_for old + 1)) ≡ eqb (length ps) (8 * (4 * W + 1))
  count_is = ap (λ (w : ℕ). eqb (length ps) (8 * (4 * w + 1))) same_words

  pub other-count : (length ps ≡ 8 * (4 * W + 1) → ⊥) → false ≡ Listed
  unfolding is_old_list
  other-count h =
      sym (ap (λ (t : Bool). eqb (length es % 8) 0 && (ascending old && t)) (count_is ∙ ne_eqb (length ps) (8 * (4 * W + 1)) h)
      ∙ ap (λ (t : Bool). eqb (length es % 8) 0 && t) (end_false (ascending old)) ∙ end_false (eqb (length es % 8) 0))

  pub by_order : length es % 8 ≡ 0 → length ps ≡ 8 * (4 * W + 1) → (r : Bool) → r ≡ ascending old → r ≡ Listed
  unfolding is_old_list
  by_order z l r h =
      h ∙ end-true (ascending old) ∙ sym (ap₂ (λ (x y : Bool). x && (ascending old && y)) (eq-eqb (length es % 8) 0 z)
      (count_is ∙ eq-eqb (length ps) (8 * (4 * W + 1)) l))
    where
      end-true : (t : Bool) → t ≡ (t && true)
      end-true true = refl
      end-true false = refl

  pub listed-ascends : Listed ≡ true → ascending old ≡ true
  unfolding is_old_list
  listed-ascends e =
      (both_true (ascending old) (eqb (length ps) (8 * (4 * words_for old + 1)))
      (both_true (eqb (length es % 8) 0) (ascending old && eqb (length ps) (8 * (4 * words_for old + 1))) e).1).0

  -- one of the four sets
  pub unused_set : (k : WhichSet) (at : ℕ) → at ≡ 8 + place_of k * (W * 8) → (r : Bool) → r ≡ all_below (W * 64)
      (λ (i : ℕ). ltb i (length es / 8) || not (member i (words_from W at ps))) → r ≡ no_old_unused old (old_set old ps k)
  unfolding no_old_unused old_set
  unused_set k at e r h =
      h ∙ ap (λ (x : ℕ). all_below (W * 64) (λ (i : ℕ). ltb i (length es / 8) || not (member i (words_from W x ps)))) e
      ∙ ap (λ (n : ℕ). all_below ((n + 63) / 64 * 64) (λ (i : ℕ). ltb i n || not
      (member i (words_from ((n + 63) / 64) (8 + place_of k * ((n + 63) / 64 * 8)) ps)))) (sym (many-numbers es))

  abbrev U : WhichSet → Bool
  U k = no_old_unused old (old_set old ps k)

  pub first-unused : U prefer_bare_set ≡ false → false ≡ is_old_policy old ps
  unfolding is_old_policy
  first-unused e = sym (ap (λ (x : Bool). (x && U prefer_bare_keycap_set) && (U bare_as_text_set && U bare_as_text_keycap_set)) e)

  pub second-unused : U prefer_bare_set ≡ true → U prefer_bare_keycap_set ≡ false → false ≡ is_old_policy old ps
  unfolding is_old_policy
  second-unused d e = sym (ap₂ (λ (x y : Bool). (x && y) && (U bare_as_text_set && U bare_as_text_keycap_set)) d e)

  module _ (d : U prefer_bare_set ≡ true) (e : U prefer_bare_keycap_set ≡ true) where
    front-used : is_old_policy old ps ≡ (U bare_as_text_set && U bare_as_text_keycap_set)
    unfolding is_old_policy
    front-used = ap₂ (λ (x y : Bool). (x && y) && (U bare_as_text_set && U bare_as_text_keycap_set)) d e

    pub third-unused : U bare_as_text_set ≡ false → false ≡ is_old_policy old ps
    third-unused f = sym (front-used ∙ ap (λ (x : Bool). x && U bare_as_text_keycap_set) f)

    pub fourth-unused : U bare_as_text_set ≡ true → (r : Bool) → r ≡ U bare_as_text_keycap_set → r ≡ is_old_policy old ps
    fourth-unused f r h = h ∙ sym (front-used ∙ ap (λ (x : Bool). x && U bare_as_text_keycap_set) f)

  -- ---- the call

  module _ (out : List ℕ) where
    pub bad-list : Listed ≡ false → ◌≡◌ {A = After (Result ℕ Refusal) ℕ} (record { answer = Err NotAnEntryList; buffer = out })
        (carry_call es ps out)
    bad-list e = sym ((in_order es ps out).0 e)

    pub bad-policy : Listed ≡ true → is_old_policy old ps ≡ false → ◌≡◌ {A = After (Result ℕ Refusal) ℕ}
        (record { answer = Err NotAPolicy; buffer = out }) (carry_call es ps out)
    bad-policy e f = sym ((in_order es ps out).1 e f)

    pub no_room : Listed ≡ true → is_old_policy old ps ≡ true → length out < 200 → ◌≡◌ {A = After (Result ℕ Refusal) ℕ}
        (record { answer = Err (OutputTooShort 200); buffer = out }) (carry_call es ps out)
    no_room e f h = sym ((in_order es ps out).2 e f h)

    pub carries : Listed ≡ true → is_old_policy old ps ≡ true → 200 ≤ length out → (out' : List ℕ) → out' ≡ sets out 0 (policy_bytes P)
        → ◌≡◌ {A = After (Result ℕ Refusal) ℕ} (record { answer = Ok 200; buffer = out' }) (carry_call es ps out)
    carries e f h out' q =
        let R = policy_bytes P in
        let n = carried_length old ps in
        ap₂ (λ (k : ℕ) (b : List ℕ). made k b) (sym n) (q ∙ sets-eq R out 0 (omega arith) ∙ ap (λ (k : ℕ). R ++ drop k out)
        (zero-front (length R)))
        ∙ sym (call_is es ps out true true true e f (le-leb (length R) (length out) (omega arith)))
      where
        made : ℕ → List ℕ → After (Result ℕ Refusal) ℕ
        made k b = record { answer = Ok k; buffer = b }

        zero-front : (k : ℕ) → 0 + k ≡ k
        zero-front k = omega arith
