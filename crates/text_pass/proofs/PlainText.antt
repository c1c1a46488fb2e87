-- Characters that formatting keeps, whatever follows them, and how the code recognises them by their first bytes.
use mathlib.Core.Path.{◌≡◌, refl, ap, sym, ◌∙◌, subst}
use mathlib.Core.Logic.{⊎_elim}
use mathlib.Core.Bool.{Bool, true, false, ◌&&◌, ◌||◌}
use mathlib.Core.List.{List, [], ◌∷◌, ◌++◌}
use Prim.Native.Nat.{ℕ, ◌+◌, ◌/◌, ◌%◌, ◌<◌, ◌≤◌}
use native.Mathlib.Omega.{arith}
use lib.Dec.{eqb, leb}
use lib.ListN.{drop, get_or, length}
use borrow.Author.Tests.{eqb-true, leb-true, lt-leb, ne_eqb}
use Rattle.base.specs.Ranges.{within}
use Rattle.base.proofs.Tests.{both_true, either_true, le_or_lt, within_in}
use Rattle.utf8.specs.Rfc3629.{chars, encode, packed, read_char}
use Rattle.utf8.proofs.Encoding.{encode_1, encode_2, encode_3, encode_4}
use Rattle.utf8.proofs.Packed.{packed_step}
use Rattle.utf8.proofs.Places.{Step}
use Rattle.emoji.specs.Presentation.{is_selector}
use Rattle.emoji.specs.Unicode.{has_variation_sequence, is_emoji, is_tag}
use Rattle.emoji.specs.UnicodeData.{emoji_ranges}
use Rattle.emoji.proofs.Between.{every_range_lem, every_range}
use Rattle.policy.specs.declared.Policy.{Policy}
use Rattle.scanner.specs.Classes.{class_of}
use Rattle.scanner.specs.declared.char_class.Class.{Class}
use Rattle.scanner.specs.declared.char_class.Class.TheVariants.{Emoji as emoji, Other as other}
use Rattle.scanner.specs.RunKinds.{is_selector_class}
use Rattle.scanner.proofs.ClassTests.{selector_test}
use Rattle.scanner.proofs.Classes.{class_is, entry_class, is_link, is_other, is_tag_lem}
use Rattle.analysis.specs.Analysis.{following}
use Rattle.analysis.specs.Cells.{cells, leading}
use Rattle.analysis.specs.Rules.{rule1}
use Rattle.analysis.proofs.Rules.{outcome_no_entry}
use Rattle.text_pass.specs.Changes.{UnchangedBetween, outcome_from}
use Rattle.text_pass.proofs.Staying.{stays-char}

-- A character that has no variation entry and is no selector. Formatting keeps it, whatever follows.
pub record StaysAlone (c : ℕ) : Type 0 where
  pub no_entry : has_variation_sequence c ≡ false
  pub no_selector : is_selector c ≡ false

-- ---- where the emoji are

-- A character below F000 that is neither emoji nor 200D nor 20E3 has the class other.
other_if : (c : ℕ) → c < 0xF000 → (c ≡ 0x200D → ⊥) → (c ≡ 0x20E3 → ⊥) → is_emoji c ≡ false → class_of c ≡ other
unfolding is_selector is_tag
other_if c high link keycap e =
    class_is (is_other
    (record {
      no_selector = simp (ne_eqb c 0xFE0E (λ e. omega arith), ne_eqb c 0xFE0F (λ e. omega arith));
      no_link =
          ne_eqb c 0x200D link;
      no_emoji = e;
    })
    (ne_eqb c 0x20E3 keycap) (simp (lt-leb 0xE0020 c (omega arith))))

-- Whether a range of emoji lies up to BF, from 2000 to 2FFF, in the blocks of 3030 and 3297, or after EFFF.
unfoldable emoji_place : ℕ → ℕ → Bool
emoji_place a e = leb e 0xBF || ((leb 0x2000 a && leb e 0x2FFF) ||
    ((leb 0x3000 a && leb e 0x303F) || ((leb 0x3280 a && leb e 0x32BF) || leb 0xF000 a)))

other-by : (c : ℕ) → 0xC0 ≤ c → (0x2000 ≤ c → c ≤ 0x2FFF → ⊥) → (c / 64 ≡ 0xC0 → ⊥) → (c / 64 ≡ 0xCA → ⊥) → c < 0xF000 → class_of c ≡ other
unfolding is_emoji every_range emoji_ranges emoji_place
other-by c low two three four high =
    other_if c high (λ e. two (omega arith) (omega arith)) (λ e. two (omega arith) (omega arith)) (go (is_emoji c) refl)
  where
    no : (a e d : ℕ) → within a e d ≡ true → emoji_place a e ≡ true → d ≡ c → ⊥
    no a e d w t q =
        let i = within_in a e d w in
        ⊎_elim (λ f. omega (arith, leb-true e 0xBF f))
        (λ f. ⊎_elim
        (λ g. let b = both_true (leb 0x2000 a) (leb e 0x2FFF) g in two (omega (arith, leb-true 0x2000 a b.0))
        (omega (arith, leb-true e 0x2FFF b.1)))
        (λ g. ⊎_elim
        (λ h. let b = both_true (leb 0x3000 a) (leb e 0x303F) h in three
        (omega (arith, leb-true 0x3000 a b.0, leb-true e 0x303F b.1)))
        (λ h. ⊎_elim
        (λ k. let b = both_true (leb 0x3280 a) (leb e 0x32BF) k in four (omega (arith, leb-true 0x3280 a b.0, leb-true e 0x32BF b.1)))
        (λ k. omega (arith, leb-true 0xF000 a k))
        (either_true (leb 0x3280 a && leb e 0x32BF) (leb 0xF000 a) h))
        (either_true (leb 0x3000 a && leb e 0x303F) _ g))
        (either_true (leb 0x2000 a && leb e 0x2FFF) _ f))
        (either_true (leb e 0xBF) _ t)

    go : (b : Bool) → is_emoji c ≡ b → b ≡ false
    go true m = absurd (every_range_lem emoji_place (λ d. d ≡ c → ⊥) no emoji_ranges refl c m refl)
    go false m = refl

-- Whether a range of emoji is #, is *, lies among the digits, or lies after ASCII.
unfoldable ascii_place : ℕ → ℕ → Bool
ascii_place a e = (eqb a 0x23 && eqb e 0x23) || ((eqb a 0x2A && eqb e 0x2A) || ((leb 0x30 a && leb e 0x39) || leb 0x80 a))

pub ascii_other : (c : ℕ) → c ≤ 0x7F → (c ≡ 0x23 → ⊥) → (c ≡ 0x2A → ⊥) → (0x30 ≤ c → c ≤ 0x39 → ⊥) → class_of c ≡ other
unfolding is_emoji every_range emoji_ranges ascii_place
ascii_other c ascii hash star digit =
    other_if c (omega arith) (λ e. omega arith) (λ e. omega arith) (go (is_emoji c) refl)
  where
    no : (a e d : ℕ) → within a e d ≡ true → ascii_place a e ≡ true → d ≡ c → ⊥
    no a e d w t q =
        let i = within_in a e d w in
        ⊎_elim
        (λ f. let b = both_true (eqb a 0x23) (eqb e 0x23) f in hash (omega (arith, eqb-true a 0x23 b.0, eqb-true e 0x23 b.1)))
        (λ f. ⊎_elim
        (λ g. let b = both_true (eqb a 0x2A) (eqb e 0x2A) g in star (omega (arith, eqb-true a 0x2A b.0, eqb-true e 0x2A b.1)))
        (λ g. ⊎_elim
        (λ h. let b = both_true (leb 0x30 a) (leb e 0x39) h in digit (omega (arith, leb-true 0x30 a b.0))
        (omega (arith, leb-true e 0x39 b.1)))
        (λ h. omega (arith, leb-true 0x80 a h))
        (either_true (leb 0x30 a && leb e 0x39) (leb 0x80 a) g))
        (either_true (eqb a 0x2A && eqb e 0x2A) _ f))
        (either_true (eqb a 0x23 && eqb e 0x23) _ t)

    go : (b : Bool) → is_emoji c ≡ b → b ≡ false
    go true m = absurd (every_range_lem ascii_place (λ d. d ≡ c → ⊥) no emoji_ranges refl c m refl)
    go false m = refl

-- A character whose class is neither emoji nor selector has no variation entry and is no selector.
class_plain : (c : ℕ) {k : Class} → class_of c ≡ k → (k ≡ emoji → ⊥) → is_selector_class k ≡ false → StaysAlone c
class_plain c e never s = record {
  no_entry = entry (has_variation_sequence c) refl;
  no_selector = selector_test c ∙ ap is_selector_class e
      ∙ s;
}
  where
    entry : (b : Bool) → has_variation_sequence c ≡ b → b ≡ false
    entry true v = absurd (never (sym e ∙ entry_class c v))
    entry false v = refl

pub other_plain : (c : ℕ) → class_of c ≡ other → StaysAlone c
other_plain c e = class_plain c e (λ z. let n : ◌≡◌ {A = ℕ} 0 1 = cc in omega arith) refl

-- ---- by the first bytes

-- A character has the class other if its first byte is from C3 to EE and not E2, and, where it is E3, the second is neither 80 nor 8A.
pub plain_lead : {text : List ℕ} {at v w : ℕ} → Step text at v w → (a : ℕ) → a ≡ get_or (drop at text) 0 0
    → 0xC3 ≤ a → a ≤ 0xEE → (a ≡ 0xE2 → ⊥) → (a ≡ 0xE3 → (get_or (drop at text) 1 0 ≡ 0x80 → ⊥) × (get_or (drop at text) 1 0 ≡ 0x8A → ⊥))
    → class_of v ≡ other
plain_lead {text} {at} {v} {w} h a e low high two three =
    ⊎_elim (λ l. absurd (let b = first (v ∷ []) (encode_1 v l) in omega arith))
    (λ l. ⊎_elim
    (λ m. let b = first ((0xC0 + v / 64) ∷ _ ∷ []) (encode_2 v (omega arith) m) in other-by v (omega arith) (λ i j. omega arith)
    (λ i. omega arith) (λ i. omega arith) (omega arith))
    (λ m. ⊎_elim
    (λ n.
    let b = first ((0xE0 + v / 4096) ∷ _ ∷ _ ∷ []) (encode_3 v (omega arith) n) in
    let d = second ((0xE0 + v / 4096) ∷ _ ∷ _ ∷ []) (encode_3 v (omega arith) n) in
    other-by v (omega arith) (λ i j. two (omega arith)) (λ i. (three (omega arith)).0 (omega arith))
    (λ i. (three (omega arith)).1 (omega arith)) (omega arith))
    (λ n. absurd (let b = first ((0xF0 + v / 262144) ∷ _ ∷ _ ∷ _ ∷ []) (encode_4 v (omega arith)) in omega arith))
    (le_or_lt v 0xFFFF))
    (le_or_lt v 0x7FF))
    (le_or_lt v 0x7F)
  where
    first : (s : List ℕ) → encode v ≡ s → a ≡ get_or (s ++ drop (at + w) text) 0 0
    first s f = e ∙ ap (λ (l : List ℕ). get_or l 0 0) (sym h.bytes) ∙ ap (λ (l : List ℕ). get_or (l ++ drop (at + w) text) 0 0) f

    second : (s : List ℕ) → encode v ≡ s → get_or (drop at text) 1 0 ≡ get_or (s ++ drop (at + w) text) 1 0
    second s f = ap (λ (l : List ℕ). get_or l 1 0) (sym h.bytes) ∙ ap (λ (l : List ℕ). get_or (l ++ drop (at + w) text) 1 0) f

-- ---- formatting keeps such characters

pub stays_plain : (p : Policy) {text : List ℕ} {at v w : ℕ} → Step text at v w → StaysAlone v → UnchangedBetween p text at (at + w)
unfolding rule1
stays_plain p {text} {at} {v} {w} h c =
    let t = chars (drop (at + w) text) in
    let o : outcome_from p text v (at + w) ≡ rule1 (leading t) = outcome_no_entry p v (following (cells t)) (leading t) c.no_entry in
    stays-char p h c.no_selector (rw o refl) (rw o (omega arith))

-- ---- links and tags

-- A character of w bytes that formatting keeps, whatever follows, stands at an offset.
pub record PlainAt (text : List ℕ) (at w : ℕ) : Type 0 where
  pub value : ℕ
  pub read : Step text at value w
  pub plain : StaysAlone value

pub stays_at : (p : Policy) {text : List ℕ} {at w : ℕ} → PlainAt text at w → UnchangedBetween p text at (at + w)
stays_at p h = stays_plain p h.read h.plain

module _ (text : List ℕ) (at n : ℕ) (e : n ≡ packed (read_char (drop at text))) where
  read_as : (v w : ℕ) → 1 ≤ v → n / 8 ≡ v → length (encode v) ≡ w → Step text at v w
  read_as v w l h f =
      let s = subst (λ (x : ℕ). Step text at x (n % 8)) h (packed_step text at n e (λ z. omega arith)) in
      subst (Step text at v) (sym s.width ∙ f) s

  -- A character with the value 200D is a link and has three bytes.
  pub link_at : n / 8 ≡ 0x200D → PlainAt text at 3
  unfolding encode
  link_at h = record {
    value = 0x200D;
    read = read_as 0x200D 3 (omega arith) h refl;
    plain = class_plain 0x200D (class_is (is_link refl)) (λ z. let n : ◌≡◌ {A = ℕ} 0 1 = cc in omega arith) refl;
  }

  -- A tag has four bytes.
  pub tag_at : is_tag (n / 8) ≡ true → PlainAt text at 4
  unfolding is_tag
  tag_at h =
      let b = within_in 0xE0020 0xE007F (n / 8) h in
      record {
        value = n / 8;
        read = read_as (n / 8) 4 (omega arith) refl (ap length (encode_4 (n / 8) (omega arith)));
        plain = class_plain (n / 8) (class_is (is_tag_lem h)) (λ z. let n : ◌≡◌ {A = ℕ} 0 1 = cc in omega arith) refl;
      }
