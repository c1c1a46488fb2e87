-- What a carried policy holds.
use Rattle.std.specs.Prelude.{Some, None, Option}
use mathlib.Core.Path.{◌≡◌, refl, ap, ap₂, sym, ◌∙◌}
use mathlib.Core.Logic.{⊎_elim}
use mathlib.Core.Bool.{Bool, true, false, cond, not, ◌&&◌, ◌||◌, true≢false}
use mathlib.Core.List.{List, ◌∷◌}
use Prim.Native.Nat.{ℕ, ◌+◌, ◌*◌, ◌≤◌, ◌<◌}
use native.Mathlib.Omega.{arith}
use lib.Dec.{ltb}
use lib.ListN.{drop, get_or, length}
use lib.Seq.{drop_at, drop-drop}
use borrow.Author.Tests.{le-ltb, lt-ltb}
use Rattle.base.specs.Words.{bytes_of, word_bytes}
use Rattle.base.proofs.Words.{length_word_bytes}
use Rattle.base.proofs.Tests.{and_both, both_true, either_left, either-right, le_or_lt}
use Rattle.base.proofs.Numbers.{length_bytes_of_lem}
use Rattle.emoji.specs.Tables.{index_of}
use Rattle.emoji.specs.Tables as Tables
use Rattle.emoji.specs.Unicode.{has_variation_sequence, variation_sequence_index}
use Rattle.emoji.specs.UnicodeData.{unicode_version, variation_entries}
use Rattle.emoji.proofs.Ascent.{is_at, member_index}
use Rattle.policy_key_set.proofs.TestWords.{words_hold, words_many, words_small}
use Rattle.policy_key_set.specs.Sets.{contains, entry_count, member, member_at, word_count}
use Rattle.policy_key_set.proofs.Below.{all_below_lem, below_all}
use Rattle.policy_key_set.proofs.Contains.{contains_entry, has_index}
use Rattle.policy_key_set.proofs.Entries.{entry_count_lem, index_has_place, place-has_index, six}
use Rattle.policy_key_set.proofs.Members.{member-past, members_determine}
use Rattle.policy.specs.DefaultPolicy.{default_policy}
use Rattle.policy.specs.PolicyBytes.{
  PolicyValue,
  SetValue,
  no_unused_bit,
  no_unused_bits,
  policy_bytes,
  policy_of,
  policy_words,
  set_of,
  words_from,
}
use Rattle.policy.specs.Theorems.{ReadWritten}
use Rattle.policy.specs.declared.Policy.{Policy}
use Rattle.policy.proofs.Claims.{read_written}
use Rattle.policy.proofs.RoundTrips.{SixWordSets, many_words, same-policy, words_from_drop}
use Rattle.policy_migration.specs.Carry.{
  WhichSet,
  bare_as_text_set,
  bare_as_text_keycap_set,
  carried,
  carried_set,
  carried_test,
  kept_or,
  old_set,
  place_of,
  prefer_bare_set,
  prefer_bare_keycap_set,
  set_in,
  versioned,
}

pub versioned_length : (p : Policy) → PolicyValue p → (version : ℕ) → length (versioned version p) ≡ 200
unfolding versioned
versioned_length p v version =
    let s : SixWordSets p = record {
      first = v.prefer_bare_set.has_word_count ∙ six;
      second = v.prefer_bare_keycap_set.has_word_count ∙ six;
      third =
          v.bare_as_text_set.has_word_count ∙ six;
      fourth = v.bare_as_text_keycap_set.has_word_count ∙ six;
    } in
    omega (arith, length_bytes_of_lem (version ∷ policy_words p), many_words p s)

module _ (old policy : List ℕ) where
  pub carried_set_lem : (k : WhichSet) → set_in (carried old policy) k ≡ carried_set old policy k
  unfolding carried
  carried_set_lem prefer_bare_set = refl
  carried_set_lem prefer_bare_keycap_set = refl
  carried_set_lem bare_as_text_set = refl
  carried_set_lem bare_as_text_keycap_set = refl

  pub past : (k : WhichSet) (i : ℕ) → entry_count ≤ i → carried_test old policy k i ≡ false
  unfolding carried_test
  past k i l =
      ap (λ (b : Bool). b && kept_or (index_of (get_or variation_entries i 0) old) (old_set old policy k)
      (member i (set_in default_policy k)))
      (le-ltb i entry_count l)

  pub held : (k : WhichSet) (i : ℕ) → member i (carried_set old policy k) ≡ carried_test old policy k i
  held k i = words_hold word_count (carried_test old policy k) (λ j l. past k j (omega (arith, six, entry_count_lem))) i

  pub at_entry : (k : WhichSet) (i : ℕ) → i < entry_count
      → carried_test old policy k i ≡ kept_or (index_of (get_or variation_entries i 0) old) (old_set old policy k)
      (member i (set_in default_policy k))
  unfolding carried_test
  at_entry k i l =
      ap (λ (b : Bool). b && kept_or (index_of (get_or variation_entries i 0) old) (old_set old policy k)
      (member i (set_in default_policy k)))
      (lt-ltb i entry_count l)

  by_index : (r : Option ℕ) (ws : List ℕ) (new : Bool) → kept_or r ws new ≡ cond (is_at r) (member_at r ws) new
  unfolding is_at member_at
  by_index (Some j) ws new = refl
  by_index None ws new = refl

  -- By character.
  pub members : (k : WhichSet) (c : ℕ) → has_variation_sequence c ≡ true
      → contains c (set_in (carried old policy) k)
      ≡ cond (Tables.member c old) (member_at (index_of c old) (old_set old policy k)) (contains c (set_in default_policy k))
  unfolding is_at
  members k c e = go (variation_sequence_index c) refl
    where
      go : (r : Option ℕ) → variation_sequence_index c ≡ r
          → contains c (set_in (carried old policy) k) ≡ cond (Tables.member c old) (member_at (index_of c old) (old_set old policy k))
          (contains c (set_in default_policy k))
      go (Some i) q =
          let p = index_has_place c i q in
          let D = set_in default_policy k in
          let O = old_set old policy k in
          let at : (ws : List ℕ) → contains c ws ≡ member i ws = λ ws. ap (λ (x : ℕ). contains x ws) (sym p.1) ∙ contains_entry ws i
          p.0 in
          ap (contains c) (carried_set_lem k) ∙ at (carried_set old policy k) ∙ held k i ∙ at_entry k i p.0
          ∙ ap (λ (x : ℕ). kept_or (index_of x old) O (member i D)) p.1
          ∙ by_index (index_of c old) O (member i D)
          ∙ ap₂ (λ (t b : Bool). cond t (member_at (index_of c old) O) b) (sym (member_index c old)) (sym (at D))
      go None q = absurd (true≢false (sym e ∙ has_index c ∙ ap is_at q))

  -- ---- a policy of ours

  value : (k : WhichSet) → SetValue (carried_set old policy k)
  value k =
      record {
        has_word_count = words_many word_count (carried_test old policy k);
        words = words_small word_count (carried_test old policy k);
      }

  pub policy_value : PolicyValue (carried old policy)
  unfolding carried
  policy_value = record {
    prefer_bare_set = value prefer_bare_set;
    prefer_bare_keycap_set = value prefer_bare_keycap_set;
    bare_as_text_set = value bare_as_text_set;
    bare_as_text_keycap_set = value bare_as_text_keycap_set;
  }

  unused : (k : WhichSet) → no_unused_bit (carried_set old policy k) ≡ true
  unfolding no_unused_bit
  unused k = below_all (word_count * 64) (λ (i : ℕ). ltb i entry_count || not (member i (carried_set old policy k)))
      (λ i l. ⊎_elim (λ m. either-right (ltb i entry_count) (not (member i (carried_set old policy k))) (ap not (held k i ∙ past k i m)))
      (λ m. either_left (ltb i entry_count) (not (member i (carried_set old policy k))) (lt-ltb i entry_count m)) (le_or_lt entry_count i))

  pub no_unused : no_unused_bits (carried old policy) ≡ true
  unfolding no_unused_bits carried
  no_unused =
      and_both _ _ (and_both _ _ (unused prefer_bare_set) (unused prefer_bare_keycap_set))
      (and_both _ _ (unused bare_as_text_set) (unused bare_as_text_keycap_set))

  -- 25 words.
  pub carried_length : length (policy_bytes (carried old policy)) ≡ 200
  unfolding policy_bytes versioned
  carried_length = versioned_length (carried old policy) policy_value unicode_version

-- ---- home

module _ (p : Policy) (v : PolicyValue p) (u : no_unused_bits p ≡ true) (version : ℕ) where
  abbrev Vs : List ℕ
  Vs = versioned version p

  set_at : (k : WhichSet) → (set_of (place_of k) (policy_bytes p)).bits ≡ set_in (policy_of (policy_bytes p)) k
  unfolding policy_of
  set_at prefer_bare_set = refl
  set_at prefer_bare_keycap_set = refl
  set_at bare_as_text_set = refl
  set_at bare_as_text_keycap_set = refl

  -- After the version word both have the same bytes.
  after_version : drop 8 Vs ≡ drop 8 (policy_bytes p)
  unfolding versioned bytes_of policy_bytes
  after_version =
      drop_at (word_bytes version) (bytes_of (policy_words p)) 8 (length_word_bytes version)
      ∙ sym (drop_at (word_bytes unicode_version) (bytes_of (policy_words p)) 8 (length_word_bytes unicode_version))

  moved : (n m : ℕ) → words_from n (8 + m) Vs ≡ words_from n (8 + m) (policy_bytes p)
  moved n m =
      words_from_drop n (8 + m) Vs
      ∙ ap (words_from n 0) (sym (drop-drop m 8 Vs) ∙ ap (drop m) after_version ∙ drop-drop m 8 (policy_bytes p))
      ∙ sym (words_from_drop n (8 + m) (policy_bytes p))

  pub old_set_lem : (k : WhichSet) → old_set variation_entries Vs k ≡ set_in p k
  unfolding old_set word_count entry_count ReadWritten
  old_set_lem k = moved word_count (place_of k * (word_count * 8)) ∙ set_at k ∙ ap (λ (q : Policy). set_in q k) (read_written p v).0

  pub set_value : (k : WhichSet) → SetValue (set_in p k)
  set_value prefer_bare_set = v.prefer_bare_set
  set_value prefer_bare_keycap_set = v.prefer_bare_keycap_set
  set_value bare_as_text_set = v.bare_as_text_set
  set_value bare_as_text_keycap_set = v.bare_as_text_keycap_set

  pub set_unused : (k : WhichSet) → no_unused_bit (set_in p k) ≡ true
  unfolding no_unused_bits
  set_unused k = go k
    where
      A : Bool
      A = no_unused_bit p.prefer_bare.chars.bits

      B : Bool
      B = no_unused_bit p.prefer_bare.keycap_chars.bits

      C : Bool
      C = no_unused_bit p.bare_as_text.chars.bits

      D : Bool
      D = no_unused_bit p.bare_as_text.keycap_chars.bits

      go : (k : WhichSet) → no_unused_bit (set_in p k) ≡ true
      go prefer_bare_set = (both_true A B (both_true (A && B) (C && D) u).0).0
      go prefer_bare_keycap_set = (both_true A B (both_true (A && B) (C && D) u).0).1
      go bare_as_text_set = (both_true C D (both_true (A && B) (C && D) u).1).0
      go bare_as_text_keycap_set = (both_true C D (both_true (A && B) (C && D) u).1).1

  no_member : (k : WhichSet) (i : ℕ) → entry_count ≤ i → member i (set_in p k) ≡ false
  unfolding no_unused_bit
  no_member k i l =
      ⊎_elim (λ m. member-past (set_in p k) i (omega (arith, (set_value k).has_word_count)))
      (λ m. go (member i (set_in p k)) (all_below_lem (word_count * 64) (λ (j : ℕ). ltb j entry_count || not (member j (set_in p k)))
      (set_unused k) i m)) (le_or_lt (word_count * 64) i)
    where
      go : (b : Bool) → (ltb i entry_count || not b) ≡ true → b ≡ false
      go true q = absurd (true≢false (sym q ∙ ap (λ (t : Bool). t || false) (le-ltb i entry_count l)))
      go false q = refl

  our_index : (i : ℕ) → i < entry_count → index_of (get_or variation_entries i 0) variation_entries ≡ Some i
  unfolding variation_sequence_index
  our_index i l = place-has_index i l

  same-member : (k : WhichSet) (i : ℕ) → member i (carried_set variation_entries Vs k) ≡ member i (set_in p k)
  same-member k i =
      ⊎_elim (λ l. held variation_entries Vs k i ∙ past variation_entries Vs k i l ∙ sym (no_member k i l))
      (λ l. held variation_entries Vs k i ∙ at_entry variation_entries Vs k i l
      ∙ ap (λ (r : Option ℕ). kept_or r (old_set variation_entries Vs k) (member i (set_in default_policy k))) (our_index i l)
      ∙ ap (member i) (old_set_lem k)) (le_or_lt entry_count i)

  same_set : (k : WhichSet) → carried_set variation_entries Vs k ≡ set_in p k
  same_set k =
      members_determine (carried_set variation_entries Vs k) (set_in p k)
      (words_many word_count (carried_test variation_entries Vs k) ∙ sym (set_value k).has_word_count)
      (words_small word_count (carried_test variation_entries Vs k)) (set_value k).words (same-member k)

  pub home : carried variation_entries Vs ≡ p
  unfolding carried
  home =
      same-policy (carried variation_entries Vs) p (same_set prefer_bare_set) (same_set prefer_bare_keycap_set) (same_set bare_as_text_set)
      (same_set bare_as_text_keycap_set)
