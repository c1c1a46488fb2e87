-- The memberships by number, the test by the flags, and the table after the call.
use Rattle.emoji.specs.declared.presentation.Presentation.{Presentation}
use Rattle.std.specs.Prelude.{Err, Some, None, Option}
use mathlib.Core.Path.{◌≡◌, refl, ap, ap₂, subst, sym, ◌∙◌}
use mathlib.Core.Bool.{Bool, true, false, ◌||◌, cond}
use mathlib.Core.List.{List, [], ◌∷◌, ◌++◌, Memᴰ}
use Prim.Native.Nat.{ℕ, zero, suc, ◌+◌, ◌*◌, ◌-◌, ◌/◌, ◌%◌, ◌<◌, ◌≤◌}
use native.Mathlib.Numerals.{add-one}
use native.Mathlib.Omega.{arith}
use lib.Dec.{eqb}
use Rattle.std.specs.Int.{from_bool}
use lib.ListN.{get_or, length, length-replicate, replicate}
use borrow.Author.Tests.{eq-eqb, ne_eqb}
use Rattle.base.proofs.Lists.{zeros}
use Rattle.base.specs.Lists.{filter}
use Rattle.base.specs.Output.{PutAt}
use Rattle.base.specs.Refusals.{or_else, unwritten}
use Rattle.base.specs.Words.{all_bytes}
use Rattle.base.specs.declared.Refusal.{Refusal}
use Rattle.base.specs.Words.{bytes_of}
use Rattle.base.proofs.Numbers.{length_bytes_of_lem}
use Rattle.base.specs.Tables.{fill_table, rows_bytes}
use Rattle.emoji.specs.UnicodeData.{variation_entries}
use Rattle.emoji.specs.declared.presentation.Presentation.TheVariants.{Emoji, Text}
use Rattle.policy_key_set.specs.Sets.{entry_count}
use Rattle.policy_key_set.proofs.Entries.{entry_count_lem}
use Rattle.policy.specs.Policy.{entry_rule, holds_entry, rule_of}
use Rattle.policy.specs.PolicyBytes.{policy_of}
use Rattle.policy.specs.declared.Policy.{Policy}
use Rattle.policy.specs.declared.SingletonRule.{SingletonRule}
use Rattle.policy.specs.declared.SingletonRule.TheVariants.{BareToEmoji, BareToText, EmojiToBare, TextToBare}
use Rattle.formatter.specs.Intake.{intake_refusal}
use Rattle.membership_flips.specs.Flips.{Membership, digit, list_tips, memberships, memberships_from}
use Rattle.membership_flips.specs.Flips.{tip_numbers, tipping, tips}
use Rattle.membership_flips.specs.Pass.{FlagsTell, matters_for, membership_at, numbered, tip_test}
use Rattle.membership_flips.specs.Uses.{matters}
use Rattle.membership_flips.proofs.Bridge.{tips-by_use}
use Rattle.membership_flips.proofs.Order.{no_other_membership}

-- ---- the test by the rule

for_rule : (a b t : Bool) (s : Option Presentation → Bool) → matters_for (rule_of b t) a (s None) (s (Some Text)) (s (Some Emoji))
    ≡ matters a b t s
unfolding rule_of matters
for_rule false false false s = refl
for_rule false false true s = refl
for_rule false true false s = refl
for_rule false true true s = refl
for_rule true false false s = refl
for_rule true false true s = refl
for_rule true true false s = refl
for_rule true true true s = refl

pub tip_is : (p : Policy) (i : ℕ) (k a : Bool) (s : Option Presentation → Bool) {r : SingletonRule} {bare text emoji : Bool}
    → r ≡ entry_rule p i k
    → bare ≡ s None → text ≡ s (Some Text) → emoji ≡ s (Some Emoji)
    → matters_for r a bare text emoji ≡ matters a (holds_entry p.prefer_bare i k) (holds_entry p.bare_as_text i k) s
unfolding entry_rule
tip_is p i k a s {r} {bare} {text} {emoji} e f g h =
    ap₂ (λ (x : SingletonRule) (y : Bool). matters_for x a y text emoji) e f
    ∙ ap₂ (λ (y z : Bool). matters_for (rule_of (holds_entry p.prefer_bare i k) (holds_entry p.bare_as_text i k)) a (s None) y
    z) g h
    ∙ for_rule a (holds_entry p.prefer_bare i k) (holds_entry p.bare_as_text i k) s

-- Where an entry is not used, no flip of it matters.
pub unused : (r : SingletonRule) (a : Bool) {x y z : Bool} → x ≡ false → y ≡ false → z ≡ false → false ≡ matters_for r a x y z
unused r a {x} {y} {z} e f g = go r a ∙ (ap₂ (λ (u v : Bool). matters_for r a u v false) (sym e) (sym f) ∙ ap (matters_for r a x y) (sym g))
  where
    go : (r : SingletonRule) (a : Bool) → false ≡ matters_for r a false false false
    go BareToEmoji true = refl
    go BareToEmoji false = refl
    go BareToText true = refl
    go BareToText false = refl
    go EmojiToBare true = refl
    go EmojiToBare false = refl
    go TextToBare true = refl
    go TextToBare false = refl

matters-same : (a b t : Bool) {r s : Option Presentation → Bool} → ((f : Option Presentation) → r f ≡ s f)
    → matters a b t r ≡ matters a b t s
unfolding matters
matters-same false b false h = ap₂ (λ (x y : Bool). x || y) (h None) (h (Some Emoji))
matters-same false b true h = ap₂ (λ (x y : Bool). x || y) (h None) (h (Some Text))
matters-same true false t h = h None
matters-same true true t h = ap₂ (λ (x y : Bool). x || y) (h (Some Text)) (h (Some Emoji))

-- ---- the memberships by number

made : {i j : ℕ} {k l a b : Bool} → i ≡ j → k ≡ l → a ≡ b → ◌≡◌ {A = Membership} (record { entry = i; keycap = k; as_text = a })
    (record { entry = j; keycap = l; as_text = b })
made e f g = cc

at_number : (n i : ℕ) (k a : Bool) → n ≡ 4 * i + (2 * digit k + digit a) → record { entry = i; keycap = k; as_text = a } ≡ membership_at n
at_number n i false false e = made (omega arith) (sym (ne_eqb (n / 2 % 2) 1 (λ z. omega arith))) (sym (ne_eqb (n % 2) 1 (λ z. omega arith)))
at_number n i false true e = made (omega arith) (sym (ne_eqb (n / 2 % 2) 1 (λ z. omega arith))) (sym (eq-eqb (n % 2) 1 (omega arith)))
at_number n i true false e = made (omega arith) (sym (eq-eqb (n / 2 % 2) 1 (omega arith))) (sym (ne_eqb (n % 2) 1 (λ z. omega arith)))
at_number n i true true e = made (omega arith) (sym (eq-eqb (n / 2 % 2) 1 (omega arith))) (sym (eq-eqb (n % 2) 1 (omega arith)))

four_more : {a b c d w x y z : Membership} {l r : List Membership} → a ≡ w → b ≡ x → c ≡ y → d ≡ z → l ≡ r → a ∷ b ∷ c ∷ d ∷ l
    ≡ w ∷ x ∷ y ∷ z ∷ r
four_more e f g h k = cc

from-numbered : (k i n : ℕ) → n ≡ 4 * i → memberships_from k i ≡ numbered (4 * k) n
unfolding memberships_from numbered
from-numbered zero i n e = refl
from-numbered (suc k) i n e =
    let c : 4 * suc k ≡ suc (suc (suc (suc (4 * k)))) = omega arith in
    four_more (at_number n i false false (omega arith)) (at_number (suc n) i false true (omega arith))
    (at_number (suc (suc n)) i true false (omega arith)) (at_number (suc (suc (suc n))) i true true (omega arith))
    (from-numbered k (suc i) (suc (suc (suc (suc n)))) (omega arith))
    ∙ ap (λ (m : ℕ). numbered m n) (sym c)

by_number : memberships ≡ numbered 1416 0
unfolding memberships
by_number = from-numbered entry_count 0 0 refl ∙ ap (λ (m : ℕ). numbered (4 * m) 0) entry_count_lem

-- ---- those that pass

filtered_same : {A : Type 0} (f g : A → Bool) (l : List A) → ((x : A) → Memᴰ x l → f x ≡ g x) → filter f l ≡ filter g l
unfolding filter
filtered_same f g [] h = refl
filtered_same f g (x ∷ l) h =
    ap₂ (λ (b : Bool) (r : List _). cond b (x ∷ r) r) (h x (Memᴰ.head refl)) (filtered_same f g l (λ y m. h y (Memᴰ.tail m)))

filtered_fewer : {A : Type 0} (f : A → Bool) (l : List A) → length (filter f l) ≤ length l
unfolding filter
filtered_fewer f [] = omega arith
filtered_fewer f (x ∷ l) = go (f x) (filtered_fewer f l)
  where
    go : (b : Bool) → length (filter f l) ≤ length l → length (cond b (x ∷ filter f l) (filter f l)) ≤ suc (length l)
    go true h = omega arith
    go false h = omega arith

length_numbered : (k n : ℕ) → length (numbered k n) ≡ k
unfolding numbered
length_numbered zero n = refl
length_numbered (suc k) n = ap suc (length_numbered k (suc n))

-- There are no more flips that tip a text than memberships.
pub few-tips : (text policy : List ℕ) → length (tipping text policy) ≤ 1416
unfolding tipping
few-tips text policy =
    omega (arith, filtered_fewer (tips text policy) memberships, ap length by_number, length_numbered 1416 0)

-- The test by the flags passes for the flips that tip the text, and for no other.
pub flags_tell : (text policy flags : List ℕ) → FlagsTell text flags → all_bytes policy ≡ true
    → filter (tip_test policy flags) (numbered 1416 0) ≡ tipping text policy
unfolding tipping tip_test
flags_tell text policy flags s e =
    ap (filter (tip_test policy flags)) (sym by_number)
    ∙ filtered_same (tip_test policy flags) (tips text policy) memberships (λ m x.
    let b = no_other_membership m x in
    matters-same m.as_text (holds_entry (policy_of policy).prefer_bare m.entry m.keycap)
    (holds_entry (policy_of policy).bare_as_text m.entry m.keycap) (s m.entry b m.keycap)
    ∙ sym (tips-by_use text policy m b e))

module _ {A : Type 0} (test : A → Bool) (f : A) (l : List A) where
  count-one : {a : Bool} {n : ℕ} → a ≡ test f → n ≡ from_bool a → length (filter test (f ∷ l)) ≡ n + length (filter test l)
  unfolding filter
  count-one {a} {n} e h = go a (sym e) h
    where
      go : (b : Bool) → test f ≡ b → n ≡ from_bool b
          → length (cond (test f) (f ∷ filter test l) (filter test l)) ≡ n + length (filter test l)
      go true g h = ap (λ (b : Bool). length (cond b (f ∷ filter test l) (filter test l))) g ∙ omega arith
      go false g h = ap (λ (b : Bool). length (cond b (f ∷ filter test l) (filter test l))) g ∙ omega arith

  write-one : (numbers : A → List ℕ) {a : Bool} → a ≡ test f → rows_bytes numbers (filter test (f ∷ l))
      ≡ cond a (bytes_of (numbers f)) [] ++ rows_bytes numbers (filter test l)
  unfolding filter rows_bytes
  write-one numbers {a} e = go a (sym e)
    where
      go : (b : Bool) → test f ≡ b → rows_bytes numbers (cond (test f) (f ∷ filter test l) (filter test l))
          ≡ cond b (bytes_of (numbers f)) [] ++ rows_bytes numbers (filter test l)
      go true g = ap (λ (b : Bool). rows_bytes numbers (cond b (f ∷ filter test l) (filter test l))) g
      go false g = ap (λ (b : Bool). rows_bytes numbers (cond b (f ∷ filter test l) (filter test l))) g

module _ (test : Membership → Bool) where
  -- Those among the memberships from a number on.
  abbrev pub tipping_from : ℕ → List Membership
  tipping_from n = filter test (numbered (1416 - n) n)

  one_number : (n : ℕ) → n < 1416 → numbered (1416 - n) n ≡ membership_at n ∷ numbered (1416 - (n + 1)) (n + 1)
  unfolding numbered
  one_number n h =
      let e : 1416 - n ≡ suc (1416 - (n + 1)) = omega arith in
      ap (λ (k : ℕ). numbered k n) e ∙ ap (λ (m : ℕ). membership_at n ∷ numbered (1416 - (n + 1)) m) (sym (add-one n))

  pub count-on : (n : ℕ) → n < 1416 → {a : Bool} {x : ℕ} → a ≡ test (membership_at n) → x ≡ from_bool a → length (tipping_from n)
      ≡ x + length (tipping_from (n + 1))
  count-on n h e f = ap (λ (l : List Membership). length (filter test l)) (one_number n h)
      ∙ count-one test (membership_at n) (numbered (1416 - (n + 1)) (n + 1)) e f

  pub write-on : (n : ℕ) → n < 1416 → {a : Bool} → a ≡ test (membership_at n)
      → rows_bytes tip_numbers (tipping_from n) ≡ cond a (bytes_of (tip_numbers (membership_at n))) [] ++ rows_bytes tip_numbers
      (tipping_from (n + 1))
  write-on n h e = ap (λ (l : List Membership). rows_bytes tip_numbers (filter test l)) (one_number n h)
      ∙ write-one test (membership_at n) (numbered (1416 - (n + 1)) (n + 1)) tip_numbers e

  pub none_from : (n : ℕ) → 1416 ≤ n → tipping_from n ≡ []
  unfolding filter numbered
  none_from n h = let e : 1416 - n ≡ 0 = omega arith in ap (λ (k : ℕ). filter test (numbered k n)) e

-- ---- rows

pub length_tip : (m : Membership) → length (bytes_of (tip_numbers m)) ≡ 24
unfolding tip_numbers
length_tip m = length_bytes_of_lem (tip_numbers m)

digit-two : (x : ℕ) → x < 2 → x ≡ digit (eqb x 1)
digit-two zero h = refl
digit-two (suc zero) h = refl
digit-two (suc (suc x)) h = absurd (omega arith)

pub numbers_are : (n : ℕ) {c : ℕ} → c ≡ get_or variation_entries (n / 4) 0 → c ∷ n / 2 % 2 ∷ n % 2 ∷ [] ≡ tip_numbers (membership_at n)
unfolding tip_numbers
numbers_are n {c} e =
    ap (λ (x : ℕ). x ∷ n / 2 % 2 ∷ n % 2 ∷ []) e
    ∙ ap₂ (λ (x y : ℕ). get_or variation_entries (n / 4) 0 ∷ x ∷ y ∷ []) (digit-two (n / 2 % 2) (omega arith))
    (digit-two (n % 2) (omega arith))

pub put_yes : {o o' xs : List ℕ} {s r : ℕ} {wanted : Bool} → wanted ≡ true → PutAt o s xs o' r → PutAt o s (cond wanted xs []) o' r
put_yes {o} {o'} {xs} {s} {r} e p = subst (λ (b : Bool). PutAt o s (cond b xs []) o' r) (sym e) p

-- ---- the call

module _ (text policy table : List ℕ) where
  pub tips-refused : (r : Refusal) → intake_refusal text policy ≡ Some r → record { answer = Err r; buffer = table }
      ≡ list_tips text policy table
  unfolding list_tips
  tips-refused r e = sym (ap (λ (x : Option Refusal). or_else x (λ (r : Refusal). unwritten (Err r) table)
      (fill_table tip_numbers 24 (tipping text policy) table)) e)

  pub tips-passed : intake_refusal text policy ≡ None → {l : List Membership} → l ≡ tipping text policy → fill_table tip_numbers 24 l table
      ≡ list_tips text policy table
  unfolding list_tips
  tips-passed e f =
      ap (λ (l : List Membership). fill_table tip_numbers 24 l table) f
      ∙ sym (ap (λ (x : Option Refusal). or_else x (λ (r : Refusal). unwritten (Err r) table)
      (fill_table tip_numbers 24 (tipping text policy) table)) e)

-- ---- flags that are not set

pub no_flags : (n : ℕ) → (length {A = ℕ} (replicate n 0) ≡ n) × ((k : ℕ) → ◌≡◌ {A = ℕ} (get_or (replicate n 0) k 0) 0)
no_flags n = (length-replicate n 0, zeros n)
