-- The bits that the code reads, and the words that it makes of them.
use mir.Val.{bool_byte}
use Rattle.std.specs.Prelude.{Some, None, Option}
use mathlib.Core.Path.{◌≡◌, refl, ap, ap₂, sym, ◌∙◌}
use mathlib.Core.Bool.{Bool, false, true}
use mathlib.Core.Logic.{⊎_elim}
use mathlib.Core.List.{List}
use Prim.Native.Nat.{ℕ, zero, suc, ◌+◌, ◌*◌, ◌-◌, ◌/◌, ◌^◌, ◌≤◌, ◌<◌}
use native.Mathlib.Nat.{pow-suc}
use native.Mathlib.Omega.{arith}
use lib.ListN.{get_or, length}
use Rattle.base.specs.Sums.{one_if}
use Rattle.base.proofs.Tests.{le_or_lt}
use Rattle.emoji.specs.Tables.{index_of}
use Rattle.emoji.specs.Unicode.{variation_entry}
use Rattle.emoji.specs.UnicodeData.{variation_entries}
use Rattle.emoji.proofs.Ascent.{entry_in_lem, entry_out, index_holds}
use Rattle.policy_key_set.proofs.Entries.{six}
use Rattle.policy_key_set.proofs.TestWords.{word_small}
use Rattle.policy_key_set.specs.Sets.{entry_count, member, word_count, word_of, words_of}
use Rattle.policy.specs.DefaultPolicy.{default_policy}
use Rattle.policy.specs.PolicyBytes.{numbers_of, policy_bytes, policy_of, set_of, words_from}
use Rattle.policy.specs.Theorems.{ReadWritten}
use Rattle.policy.specs.declared.Policy.{Policy}
use Rattle.policy.proofs.Claims.{read_written}
use Rattle.policy_migration.specs.Carry.{
  WhichSet,
  bare_as_text_set,
  bare_as_text_keycap_set,
  carried_test,
  kept_or,
  old_set,
  place_of,
  prefer_bare_set,
  prefer_bare_keycap_set,
  set_in,
}
use Rattle.policy_migration.specs.Helpers.{set_at}
use Rattle.policy_migration.proofs.Carrying.{at_entry, past}
use Rattle.policy_migration.proofs.Coding.{default_value, many-numbers}

pub few-times : (k m : ℕ) → k < 4 → k * m ≤ 3 * m
few-times zero m l = omega arith
few-times (suc zero) m l = omega arith
few-times (suc (suc zero)) m l = omega arith
few-times (suc (suc (suc zero))) m l = omega arith
few-times (suc (suc (suc (suc k)))) m l = absurd (omega arith)

place_no : (k : ℕ) → k < 4 → place_of (set_at k) ≡ k
place_no zero l = refl
place_no (suc zero) l = refl
place_no (suc (suc zero)) l = refl
place_no (suc (suc (suc zero))) l = refl
place_no (suc (suc (suc (suc k)))) l = absurd (omega arith)

-- ---- an entry of ours

pub entry_char : (i ch : ℕ) → variation_entry i ≡ Some ch → (i < entry_count) × (get_or variation_entries i 0 ≡ ch)
unfolding variation_entry entry_count
entry_char i ch e =
    ⊎_elim (λ h. let q = entry_out i variation_entries h in let z : ◌≡◌ {A = ℕ} 0 1 = cc in absurd (omega arith))
    (λ h. let q = entry_in_lem i variation_entries h in (h, cc)) (le_or_lt (length variation_entries) i)

pub entry_none : (i : ℕ) → variation_entry i ≡ None → entry_count ≤ i
unfolding variation_entry entry_count
entry_none i e =
    ⊎_elim (λ h. h) (λ h. let q = entry_in_lem i variation_entries h in let z : ◌≡◌ {A = ℕ} 0 1 = cc in absurd (omega arith))
    (le_or_lt (length variation_entries) i)

pub index_below : (c : ℕ) (xs : List ℕ) (j : ℕ) → index_of c xs ≡ Some j → j < length xs
index_below c xs j e =
    let p = index_holds c xs j e in
    ⊎_elim (λ h. let q = entry_out j xs h in let z : ◌≡◌ {A = ℕ} 0 1 = cc in absurd (omega arith)) (λ h. h) (le_or_lt (length xs) j)

set_of_lem : (p : Policy) (k : WhichSet) → (set_of (place_of k) (policy_bytes p)).bits ≡ set_in (policy_of (policy_bytes p)) k
unfolding policy_of
set_of_lem p prefer_bare_set = refl
set_of_lem p prefer_bare_keycap_set = refl
set_of_lem p bare_as_text_set = refl
set_of_lem p bare_as_text_keycap_set = refl

default_set : (k : WhichSet) → words_from word_count (8 + place_of k * (word_count * 8)) (policy_bytes default_policy)
    ≡ set_in default_policy k
unfolding ReadWritten
default_set k = set_of_lem default_policy k ∙ ap (λ (q : Policy). set_in q k) (read_written default_policy default_value).0

module _ (es ps : List ℕ) (k i : ℕ) (lk : k < 4) where
  abbrev old : List ℕ
  old = numbers_of es

  abbrev T : Bool
  T = carried_test old ps (set_at k) i

  pub no_entry_bit : variation_entry i ≡ None → false ≡ T
  no_entry_bit e = sym (past old ps (set_at k) i (entry_none i e))

  module _ (ch : ℕ) (e : variation_entry i ≡ Some ch) where
    abbrev D : Bool
    D = member i (set_in default_policy (set_at k))

    by_index : (r : Option ℕ) → index_of ch old ≡ r → T ≡ kept_or r (old_set old ps (set_at k)) D
    by_index r q =
        let p = entry_char i ch e in
        at_entry old ps (set_at k) i p.0 ∙ ap (λ (x : ℕ). kept_or (index_of x old) (old_set old ps (set_at k)) D) p.1
        ∙ ap (λ (x : Option ℕ). kept_or x (old_set old ps (set_at k)) D) q

    pub old-entry-bit : (j : ℕ) → index_of ch old ≡ Some j → (b : Bool) → b ≡ member j
        (words_from ((length es / 8 + 63) / 64) (8 + k * ((length es / 8 + 63) / 64 * 8)) ps) → b ≡ T
    unfolding old_set
    old-entry-bit j q b h =
        let w = (length es / 8 + 63) / 64 in
        h ∙ ap (λ (x : ℕ). member j (words_from w (8 + x * (w * 8)) ps)) (sym (place_no k lk))
        ∙ ap (λ (n : ℕ). member j (words_from ((n + 63) / 64) (8 + place_of (set_at k) * ((n + 63) / 64 * 8)) ps)) (sym (many-numbers es))
        ∙ sym (by_index (Some j) q)

    pub new-entry-bit : index_of ch old ≡ None → (ds : List ℕ) → ds ≡ policy_bytes default_policy → (b : Bool) → b ≡ member i
        (words_from 6 (8 + k * 48) ds) → b ≡ T
    new-entry-bit q ds d b h =
        h ∙ ap (λ (l : List ℕ). member i (words_from 6 (8 + k * 48) l)) d
        ∙ ap (λ (x : ℕ). member i (words_from 6 (8 + x * 48) (policy_bytes default_policy))) (sym (place_no k lk))
        ∙ ap (λ (n : ℕ). member i (words_from n (8 + place_of (set_at k) * (n * 8)) (policy_bytes default_policy))) (sym six)
        ∙ ap (member i) (default_set (set_at k)) ∙ sym (by_index None q)

-- ---- a word, from its highest bit on

pub bits_same : (n : ℕ) (p q : ℕ → Bool) → ((i : ℕ) → p i ≡ q i) → word_of n p ≡ word_of n q
unfolding word_of
bits_same zero p q h = refl
bits_same (suc n) p q h =
    ap₂ (λ (x : Bool) (y : ℕ). one_if x + 2 * y) (h 0) (bits_same n (λ (i : ℕ). p (suc i)) (λ (i : ℕ). q (suc i)) (λ i. h (suc i)))

word_at_lem : (m : ℕ) (p : ℕ → Bool) (w : ℕ) → w < m → get_or (words_of m p) w 0 ≡ word_of 64 (λ (b : ℕ). p (64 * w + b))
unfolding words_of
word_at_lem zero p w l = absurd (omega arith)
word_at_lem (suc m) p zero l = bits_same 64 p (λ (b : ℕ). p (64 * 0 + b)) (λ i. ap p (omega arith))
word_at_lem (suc m) p (suc w) l =
    word_at_lem m (λ (i : ℕ). p (64 + i)) w (omega arith) ∙ bits_same 64 (λ (b : ℕ). p (64 + (64 * w + b))) (λ (b : ℕ). p (64 * suc w + b))
    (λ i. ap p (omega arith))

power_up : (n k : ℕ) → 2 ^ n ≤ 2 ^ (n + k)
power_up n zero = let e : n + 0 ≡ n = omega arith in omega (arith, ap (λ (x : ℕ). 2 ^ x) e)
power_up n (suc k) = let e : n + suc k ≡ suc (n + k) = omega arith in
    omega (arith, power_up n k, pow-suc 2 (n + k), ap (λ (x : ℕ). 2 ^ x) e)

open_bits : (n : ℕ) (q : ℕ → Bool) → word_of (suc n) q ≡ one_if (q 0) + 2 * word_of n (λ (i : ℕ). q (suc i))
unfolding word_of
open_bits n q = refl

module _ (p : ℕ → Bool) (w : ℕ) where
  -- the bits from b on
  abbrev pub high : ℕ → ℕ
  high b = word_of (64 - b) (λ (i : ℕ). p (64 * w + b + i))

  pub none-high : 0 ≡ high 64
  unfolding word_of
  none-high = refl

  pub high_small : (b : ℕ) → 0 < b → b ≤ 64 → high b ≤ 9223372036854775807
  high_small b l h =
      let e : 64 - b + (b - 1) ≡ 63 = omega arith in
      omega (arith, word_small (64 - b) (λ (i : ℕ). p (64 * w + b + i)), power_up (64 - b) (b - 1), ap (λ (x : ℕ). 2 ^ x) e)

  pub next-high : (b : ℕ) → 0 < b → b ≤ 64 → one_if (p (64 * w + (b - 1))) + 2 * high b ≡ high (b - 1)
  next-high b l h =
      ap₂ (λ (x : Bool) (y : ℕ). one_if x + 2 * y) (ap p (omega arith))
      (bits_same (64 - b) (λ (i : ℕ). p (64 * w + b + i)) (λ (i : ℕ). p (64 * w + (b - 1) + suc i)) (λ i. ap p (omega arith)))
      ∙ sym (open_bits (64 - b) (λ (i : ℕ). p (64 * w + (b - 1) + i))) ∙ ap (λ (n : ℕ). word_of n (λ (i : ℕ). p (64 * w + (b - 1) + i)))
      (omega arith)

  pub all_high : (m : ℕ) → w < m → (b : ℕ) → b ≡ 0 → high b ≡ get_or (words_of m p) w 0
  all_high m l b e =
      ap high e ∙ bits_same 64 (λ (i : ℕ). p (64 * w + 0 + i)) (λ (i : ℕ). p (64 * w + i)) (λ i. ap p (omega arith)) ∙ sym
      (word_at_lem m p w l)

-- A test as a number.
pub bit_number : (b : Bool) → (bool_byte b ≡ one_if b) × (bool_byte b ≤ 1)
bit_number true = (refl, omega arith)
bit_number false = (refl, omega arith)
