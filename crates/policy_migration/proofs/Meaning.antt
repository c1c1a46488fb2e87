-- What the tests of the old list and of the old policy mean.
use mathlib.Core.Path.{◌≡◌, refl, sym, ◌∙◌}
use mathlib.Core.Logic.{⊎_elim}
use mathlib.Core.Bool.{Bool, true, false, not, ◌&&◌, ◌||◌, true≢false}
use mathlib.Core.List.{List}
use Prim.Native.Nat.{ℕ, zero, suc, ◌+◌, ◌*◌, ◌%◌, ◌≤◌}
use native.Mathlib.Omega.{arith}
use lib.Dec.{eqb, ltb}
use lib.ListN.{length}
use borrow.Author.Tests.{eq-eqb, eqb-true, lt-ltb}
use Rattle.base.proofs.Tests.{and_both, both_true, fails, le_or_lt}
use Rattle.emoji.specs.Tables.{ascending}
use Rattle.emoji.proofs.Ascent.{ascending_lt}
use Rattle.policy_key_set.specs.Sets.{all_below, member}
use Rattle.policy.specs.PolicyBytes.{numbers_of}
use Rattle.policy_migration.specs.Carry.{
  WhichSet,
  bare_as_text_set,
  bare_as_text_keycap_set,
  is_entry_list,
  is_old_list,
  is_old_policy,
  no_old_unused,
  old_set,
  prefer_bare_set,
  prefer_bare_keycap_set,
  words_for,
}
use Rattle.policy_migration.specs.Theorems.{EntryList, OldUnused}
use Rattle.policy_migration.proofs.Coding.{ascends, unused_found}

-- ---- the old list

module _ (entries policy : List ℕ) where
  abbrev old : List ℕ
  old = numbers_of entries

  abbrev Whole : Bool
  Whole = eqb (length entries % 8) 0

  abbrev Count : Bool
  Count = eqb (length policy) (8 * (4 * words_for old + 1))

  pub entry_list : is_entry_list entries policy ≡ true → EntryList entries policy
  unfolding is_old_list
  entry_list e =
      let a = both_true Whole (ascending old && Count) e in
      let b = both_true (ascending old) Count a.1 in
      record {
        whole_numbers = eqb-true (length entries % 8) 0 a.0;
        ascends = ascending_lt old b.0;
        has_word_count = eqb-true (length policy) (8 * (4 * words_for old + 1)) b.1;
      }

  pub list-accepted : EntryList entries policy → is_entry_list entries policy ≡ true
  unfolding is_old_list
  list-accepted l =
      and_both Whole (ascending old && Count) (eq-eqb (length entries % 8) 0 l.whole_numbers)
      (and_both (ascending old) Count (sym (ascends old (λ i h. l.ascends i (suc i) (omega arith) h)))
      (eq-eqb (length policy) (8 * (4 * words_for old + 1)) l.has_word_count))

-- ---- the old policy

module _ (old policy : List ℕ) where
  abbrev U : WhichSet → Bool
  U k = no_old_unused old (old_set old policy k)

  abbrev T : WhichSet → ℕ → Bool
  T k i = ltb i (length old) || not (member i (old_set old policy k))

  -- A test that fails below a bound fails somewhere.
  failing : (k : WhichSet) (n : ℕ) → n ≤ words_for old * 64 → all_below n (T k) ≡ false → OldUnused old policy
  unfolding all_below
  failing k zero h e = absurd (true≢false e)
  failing k (suc n) h e = go (T k n) refl (λ p. failing k n (omega arith) (first (T k n) (all_below n (T k)) e p))
    where
      first : (t a : Bool) → (t && a) ≡ false → t ≡ true → a ≡ false
      first true a q p = q
      first false a q p = absurd (true≢false (sym p))

      unused : (a b : Bool) → (a || not b) ≡ false → (a ≡ false) × (b ≡ true)
      unused true b e = absurd (true≢false e)
      unused false true e = (refl, refl)
      unused false false e = absurd (true≢false e)

      go : (t : Bool) → T k n ≡ t → (T k n ≡ true → OldUnused old policy) → OldUnused old policy
      go true p below = below p
      go false p below =
          let q = unused (ltb n (length old)) (member n (old_set old policy k)) p in
          record {
            which = k;
            bit = n;
            no_entry = ⊎_elim (λ l. l) (λ l. absurd (true≢false (sym (lt-ltb n (length old) l) ∙ q.0))) (le_or_lt (length old) n);
            in_words = omega arith;
            is_one = q.1;
          }

  one_set : (k : WhichSet) → U k ≡ false → OldUnused old policy
  unfolding no_old_unused
  one_set k e = failing k (words_for old * 64) (omega arith) e

  pub unused-one : is_old_policy old policy ≡ false → OldUnused old policy
  unfolding is_old_policy
  unused-one e = four (U prefer_bare_set) (U prefer_bare_keycap_set) (U bare_as_text_set) (U bare_as_text_keycap_set) refl refl refl refl e
    where
      four : (a b c d : Bool) → U prefer_bare_set ≡ a → U prefer_bare_keycap_set ≡ b → U bare_as_text_set ≡ c
          → U bare_as_text_keycap_set ≡ d
          → ((a && b) && (c && d)) ≡ false → OldUnused old policy
      four false b c d p q r s e = one_set prefer_bare_set p
      four true false c d p q r s e = one_set prefer_bare_keycap_set q
      four true true false d p q r s e = one_set bare_as_text_set r
      four true true true false p q r s e = one_set bare_as_text_keycap_set s
      four true true true true p q r s e = absurd (true≢false e)

  set_fails : (o : OldUnused old policy) → U o.which ≡ false
  unfolding no_old_unused
  set_fails o =
      sym (unused_found (words_for old * 64) (length old) (λ (i : ℕ). member i (old_set old policy o.which)) o.bit o.no_entry
      o.in_words o.is_one)

  passes : is_old_policy old policy ≡ true → (k : WhichSet) → U k ≡ true
  unfolding is_old_policy
  passes e k =
      let a = both_true (U prefer_bare_set && U prefer_bare_keycap_set) (U bare_as_text_set && U bare_as_text_keycap_set) e in
      let b = both_true (U prefer_bare_set) (U prefer_bare_keycap_set) a.0 in
      let c = both_true (U bare_as_text_set) (U bare_as_text_keycap_set) a.1 in
      go b.0 b.1 c.0 c.1 k
    where
      go : U prefer_bare_set ≡ true → U prefer_bare_keycap_set ≡ true → U bare_as_text_set ≡ true → U bare_as_text_keycap_set ≡ true
          → (k : WhichSet)
          → U k ≡ true
      go p q r s prefer_bare_set = p
      go p q r s prefer_bare_keycap_set = q
      go p q r s bare_as_text_set = r
      go p q r s bare_as_text_keycap_set = s

  pub unused-refused : OldUnused old policy → is_old_policy old policy ≡ false
  unused-refused o = fails (is_old_policy old policy) (λ e. true≢false (sym (passes e o.which) ∙ set_fails o))
