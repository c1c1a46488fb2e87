-- Statements about carrying a policy over. The proofs are in proofs/Claims.antt.
use Rattle.std.specs.Prelude.{◌≡◌, ◌↔◌, true, false, cond, List, ℕ, ◌*◌, ◌+◌, ◌%◌, ◌≤◌, ◌<◌, get_or, length, Ok, Err}
use Rattle.base.specs.Refusals.{unwritten, written}
use Rattle.base.specs.Words.{bytes_of}
use Rattle.base.specs.declared.Refusal.TheVariants.{NotAPolicy, NotAnEntryList, OutputTooShort}
use Rattle.emoji.specs.Tables.{index_of}
use Rattle.emoji.specs.Tables as Tables
use Rattle.emoji.specs.Unicode.{has_variation_sequence}
use Rattle.emoji.specs.UnicodeData.{variation_entries}
use Rattle.policy_key_set.specs.Sets.{contains, member, member_at}
use Rattle.policy.specs.DefaultPolicy.{default_policy}
use Rattle.policy.specs.PolicyBytes.{PolicyValue, is_policy, no_unused_bits, numbers_of, policy_bytes}
use Rattle.policy.specs.declared.Policy.{Policy}
use Rattle.policy_migration.specs.Carry.{WhichSet, carried, carry_call, is_entry_list, is_old_policy, old_set, set_in, versioned, words_for}

-- "Carry a policy over by character": each character with an entry in our table, in each of the four sets. A character of the old list has
-- the membership that the old policy has at its place there. Any other has the membership of the default policy.
unfoldable pub CarriedMembers : Type 0
CarriedMembers =
    (old policy : List ℕ) (k : WhichSet) (c : ℕ) → has_variation_sequence c ≡ true
    → contains c (set_in (carried old policy) k)
    ≡ cond (Tables.member c old) (member_at (index_of c old) (old_set old policy k)) (contains c (set_in default_policy k))

-- The result is a policy of ours: four sets of W words without an unused bit, so "an entry gone is dropped". It has 200 bytes, and the
-- tests of every call accept it.
unfoldable pub CarriedIsPolicy : Type 0
CarriedIsPolicy =
    (old policy : List ℕ)
    → PolicyValue (carried old policy) × (no_unused_bits (carried old policy) ≡ true) × (length (policy_bytes (carried old policy)) ≡ 200)
    × (is_policy (policy_bytes (carried old policy)) ≡ true)

-- Carrying over from our own table is the identity but for the version word, whatever that word is: as policies, and as a call.
unfoldable pub CarriedHome : Type 0
CarriedHome =
    (p : Policy) → PolicyValue p → no_unused_bits p ≡ true → (version : ℕ)
    → (carried variation_entries (versioned version p) ≡ p)
    × ((out : List ℕ) → 200 ≤ length out
    → carry_call (bytes_of variation_entries) (versioned version p) out ≡ written (Ok 200) (policy_bytes p) out)

-- The numbers of the old list ascend strictly, and the old policy has as many words as the list wants.
pub record EntryList (entries policy : List ℕ) : Type 0 where
  pub whole_numbers : length entries % 8 ≡ 0
  pub ascends : (i j : ℕ) → i < j → j < length (numbers_of entries) → get_or (numbers_of entries) i 0 < get_or (numbers_of entries) j 0
  pub has_word_count : length policy ≡ 8 * (4 * words_for (numbers_of entries) + 1)

-- A set of the old policy has a 1 among its unused bits: a bit of its W' words that belongs to no entry of the old list.
pub record OldUnused (old policy : List ℕ) : Type 0 where
  pub which : WhichSet
  pub bit : ℕ
  pub no_entry : length old ≤ bit
  pub in_words : bit < words_for old * 64
  pub is_one : member bit (old_set old policy which) ≡ true

-- What the two tests mean.
unfoldable pub TestsMean : Type 0
TestsMean =
    (entries policy : List ℕ)
    → ((is_entry_list entries policy ≡ true) ↔ EntryList entries policy)
    × ((is_old_policy (numbers_of entries) policy ≡ false) ↔ OldUnused (numbers_of entries) policy)

-- 16 comes first, then 2, then 8. Each leaves the output as it was. Otherwise the carried policy is at the front of the output.
unfoldable pub CarryInOrder : Type 0
CarryInOrder =
    (entries policy out : List ℕ)
    → (is_entry_list entries policy ≡ false → carry_call entries policy out ≡ unwritten (Err NotAnEntryList) out)
    × (is_entry_list entries policy ≡ true → is_old_policy (numbers_of entries) policy ≡ false
    → carry_call entries policy out ≡ unwritten (Err NotAPolicy) out)
    × (is_entry_list entries policy ≡ true → is_old_policy (numbers_of entries) policy ≡ true → length out < 200
    → carry_call entries policy out ≡ unwritten (Err (OutputTooShort 200)) out)
    × (is_entry_list entries policy ≡ true → is_old_policy (numbers_of entries) policy ≡ true → 200 ≤ length out
    → carry_call entries policy out ≡ written (Ok 200) (policy_bytes (carried (numbers_of entries) policy)) out)
