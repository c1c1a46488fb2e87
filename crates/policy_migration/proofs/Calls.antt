-- The call: its refusals in order, and our own table.
use Rattle.base.specs.declared.Refusal.{Refusal}
use Rattle.base.specs.Answers.{answer_row}
use Rattle.std.specs.Prelude.{Ok, Err, Result}
use mathlib.Core.Path.{◌≡◌, refl, ap, ap₂, ◌∙◌}
use mathlib.Core.Logic.{⊎_elim}
use mathlib.Core.Bool.{Bool, true, false, cond, not, ◌&&◌}
use mathlib.Core.List.{List}
use Prim.Native.Nat.{ℕ, ◌+◌, ◌*◌, ◌/◌, ◌%◌, ◌^◌, ◌≤◌, ◌<◌}
use native.Mathlib.Omega.{arith}
use lib.Dec.{eqb, leb}
use lib.ListN.{get_or-eq_default, get_or, length}
use borrow.Author.Tests.{eq-eqb, le-leb, lt-leb}
use Rattle.base.proofs.Tests.{and_both, le_or_lt}
use Rattle.base.specs.Refusals.{After, unwritten, written}
use Rattle.base.specs.Words.{bytes_of}
use Rattle.base.specs.declared.Refusal.TheVariants.{NotAPolicy, NotAnEntryList, OutputTooShort}
use Rattle.base.proofs.Numbers.{length_bytes_of_lem}
use Rattle.emoji.specs.Tables.{ascending}
use Rattle.emoji.specs.Theorems.{TablesInOrder}
use Rattle.emoji.specs.UnicodeData.{variation_entries}
use Rattle.emoji.proofs.Ascent.{ascending_le}
use Rattle.emoji.proofs.Claims.{tables_in_order}
use Rattle.policy_key_set.specs.Sets.{entry_count, word_count}
use Rattle.policy_key_set.proofs.Entries.{entries_length}
use Rattle.policy.specs.PolicyBytes.{PolicyValue, no_unused_bit, no_unused_bits, numbers_of, policy_bytes, words_from}
use Rattle.policy.specs.declared.Policy.{Policy}
use Rattle.policy.proofs.RoundTrips.{read_words}
use Rattle.policy_migration.specs.Carry.{
  WhichSet,
  bare_as_text_set,
  bare_as_text_keycap_set,
  carried,
  carry_call,
  is_entry_list,
  is_old_list,
  is_old_policy,
  no_old_unused,
  old_set,
  prefer_bare_set,
  prefer_bare_keycap_set,
  versioned,
  words_for,
}
use Rattle.policy_migration.proofs.Carrying.{carried_length, home, old_set_lem, set_unused, versioned_length}

-- ---- the tests

module _ (old policy out : List ℕ) where
  abbrev pub result : List ℕ
  result = policy_bytes (carried old policy)

  abbrev pub by_tests_lem : (listed fit room : Bool) → After (Result ℕ Refusal) ℕ
  by_tests_lem listed fit room =
      cond (not listed) (unwritten (Err NotAnEntryList) out)
      (cond (not fit) (unwritten (Err NotAPolicy) out)
      (cond room (written (Ok (length result)) result out) (unwritten (Err (OutputTooShort (length result))) out)))

pub call_is : (entries policy out : List ℕ) (listed fit room : Bool) → is_entry_list entries policy ≡ listed
    → is_old_policy (numbers_of entries) policy ≡ fit → leb (length (result (numbers_of entries) policy out)) (length out) ≡ room
    → carry_call entries policy out ≡ by_tests_lem (numbers_of entries) policy out listed fit room
unfolding carry_call
call_is entries policy out listed fit room p q r =
    let old = numbers_of entries in
    let L = length (result old policy out) in
    ap (λ (t : Bool). by_tests_lem old policy out t (is_old_policy old policy) (leb L (length out))) p
    ∙ ap (λ (t : Bool). by_tests_lem old policy out listed t (leb L (length out))) q
    ∙ ap (λ (t : Bool). by_tests_lem old policy out listed fit t) r

pub in_order : (entries policy out : List ℕ)
    → (is_entry_list entries policy ≡ false → carry_call entries policy out ≡ unwritten (Err NotAnEntryList) out)
    × (is_entry_list entries policy ≡ true → is_old_policy (numbers_of entries) policy ≡ false
    → carry_call entries policy out ≡ unwritten (Err NotAPolicy) out)
    × (is_entry_list entries policy ≡ true → is_old_policy (numbers_of entries) policy ≡ true → length out < 200
    → carry_call entries policy out ≡ unwritten (Err (OutputTooShort 200)) out)
    × (is_entry_list entries policy ≡ true → is_old_policy (numbers_of entries) policy ≡ true → 200 ≤ length out
    → carry_call entries policy out ≡ written (Ok 200) (policy_bytes (carried (numbers_of entries) policy)) out)
in_order entries policy out =
    let old = numbers_of entries in
    let n : length (result old policy out) ≡ 200 = carried_length old policy in (
      λ p. call_is entries policy out false (is_old_policy old policy) (leb (length (result old policy out)) (length out)) p refl refl,
      λ p q. call_is entries policy out true false (leb (length (result old policy out)) (length out)) p q refl,
      λ p q h. call_is entries policy out true true false p q (lt-leb (length (result old policy out)) (length out) (omega arith))
          ∙ ap (λ (k : ℕ). short k out) n,
      λ p q h. call_is entries policy out true true true p q (le-leb (length (result old policy out)) (length out) (omega arith))
          ∙ ap (λ (k : ℕ). done k (result old policy out) out) n,
    )
  where
    short : ℕ → List ℕ → After (Result ℕ Refusal) ℕ
    short k out = unwritten (Err (OutputTooShort k)) out

    done : ℕ → List ℕ → List ℕ → After (Result ℕ Refusal) ℕ
    done k r out = written (Ok k) r out

-- The value of the answer is at most the number of bytes of a policy.
pub call-small : (entries policy out : List ℕ) → (answer_row (carry_call entries policy out).answer).value ≤ 200
unfolding answer_row
call-small entries policy out =
    let old = numbers_of entries in
    omega (
      arith,
      ap (λ (a : After (Result ℕ Refusal) ℕ). (answer_row a.answer).value) (call_is entries policy out _ _ _ refl refl refl),
      go (is_entry_list entries policy) (is_old_policy old policy) (leb (length (result old policy out)) (length out))
          (carried_length old policy),
    )
  where
    go : (listed fit room : Bool) → length (policy_bytes (carried (numbers_of entries) policy)) ≡ 200
        → (answer_row (by_tests_lem (numbers_of entries) policy out listed fit room).answer).value ≤ 200
    go false fit room h = omega arith
    go true false room h = omega arith
    go true true true h = omega arith
    go true true false h = omega arith

-- ---- our own table

last_entry : get_or variation_entries 353 0 < 2 ^ 64
unfolding variation_entries
last_entry = omega arith

our_order : ascending variation_entries ≡ true
unfolding TablesInOrder
our_order = tables_in_order.5

small_entries : (k : ℕ) → get_or variation_entries k 0 < 2 ^ 64
small_entries k =
    ⊎_elim (λ l. let z = get_or-eq_default variation_entries 0 {n = k} (omega (arith, entries_length)) in omega arith)
    (λ l. omega (arith, last_entry, ascending_le variation_entries our_order k 353 (omega arith) (omega (arith, entries_length))))
    (le_or_lt 354 k)

our_bytes : length (bytes_of variation_entries) ≡ 2832
our_bytes = omega (arith, length_bytes_of_lem variation_entries, entries_length)

our_list : numbers_of (bytes_of variation_entries) ≡ variation_entries
our_list =
    let e : length (bytes_of variation_entries) / 8 ≡ length variation_entries = omega (arith, our_bytes, entries_length) in
    ap (λ (n : ℕ). words_from n 0 (bytes_of variation_entries)) e ∙ read_words variation_entries small_entries

module _ (p : Policy) (v : PolicyValue p) (u : no_unused_bits p ≡ true) (version : ℕ) where
  abbrev Vs : List ℕ
  Vs = versioned version p

  listed : (eqb (length (bytes_of variation_entries) % 8) 0 && is_old_list variation_entries Vs) ≡ true
  unfolding is_old_list
  listed =
      and_both (eqb (length (bytes_of variation_entries) % 8) 0) (is_old_list variation_entries Vs)
      (eq-eqb (length (bytes_of variation_entries) % 8) 0 (omega (arith, our_bytes)))
      (and_both (ascending variation_entries) (eqb (length Vs) (8 * (4 * words_for variation_entries + 1))) our_order
      (eq-eqb (length Vs) (8 * (4 * words_for variation_entries + 1)) (omega (arith, versioned_length p v version, entries_length))))

  no_old : (k : WhichSet) → no_old_unused variation_entries (old_set variation_entries Vs k) ≡ true
  unfolding no_old_unused no_unused_bit word_count entry_count
  no_old k = ap (no_old_unused variation_entries) (old_set_lem p v u version k) ∙ set_unused p v u version k

  fits : is_old_policy variation_entries Vs ≡ true
  unfolding is_old_policy
  fits =
      and_both _ _ (and_both _ _ (no_old prefer_bare_set) (no_old prefer_bare_keycap_set))
      (and_both _ _ (no_old bare_as_text_set) (no_old bare_as_text_keycap_set))

  pub home_call : (out : List ℕ) → 200 ≤ length out
      → carry_call (bytes_of variation_entries) Vs out ≡ written (Ok 200) (policy_bytes p)
      out
  home_call out h =
      let E = bytes_of variation_entries in
      let n = carried_length (numbers_of E) Vs in
      call_is E Vs out true true true (ap (λ (l : List ℕ). eqb (length E % 8) 0 && is_old_list l Vs) our_list ∙ listed)
      (ap (λ (l : List ℕ). is_old_policy l Vs) our_list ∙ fits)
      (le-leb (length (result (numbers_of E) Vs out)) (length out) (omega arith))
      ∙ ap₂ (λ (k : ℕ) (l : List ℕ). done k l) n (ap (λ (l : List ℕ). policy_bytes (carried l Vs)) our_list ∙ ap policy_bytes
      (home p v u version))
    where
      done : ℕ → List ℕ → After (Result ℕ Refusal) ℕ
      done k l = written (Ok k) l out
