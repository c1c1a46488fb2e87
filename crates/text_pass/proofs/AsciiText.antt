-- ASCII is plain text where the policy keeps the ASCII bases bare: all of a run but its last character, and that one too if it has no
-- variation entry or the text ends there.
use Rattle.std.specs.Prelude.{None}
use mathlib.Core.Path.{◌≡◌, refl, ap, sym, ◌∙◌, subst}
use mathlib.Core.Logic.{◌⊎◌, inl, inr, ⊎_elim}
use mathlib.Core.Bool.{Bool, true, false, true≢false}
use mathlib.Core.List.{List, [], ◌∷◌}
use Prim.Native.Nat.{ℕ, zero, suc, ◌+◌, ◌-◌, ◌<◌, ◌≤◌}
use native.Mathlib.Omega.{arith}
use lib.ListN.{get_or-eq_default, drop, get_or, length}
use lib.Dec.{leb}
use borrow.Author.Tests.{leb-true, ne_eqb}
use Rattle.base.proofs.Tests.{le_or_lt, within_in}
use Rattle.ascii_runs.specs.Ascii.{AsciiRun}
use Rattle.utf8.specs.Rfc3629.{chars}
use Rattle.ascii_runs.proofs.AsciiRuns.{read_char_ascii_at}
use Rattle.utf8.proofs.Folds.{chars_end}
use Rattle.utf8.proofs.Fronts.{read_char-past_end}
use Rattle.utf8.proofs.Places.{Step, step as read}
use Rattle.emoji.specs.Presentation.{is_selector}
use Rattle.emoji.specs.Unicode.{has_variation_sequence, is_emoji_modifier, is_ri, is_tag}
use Rattle.emoji.specs.UnicodeData.{emoji_modifiers, ri_ranges}
use Rattle.emoji.proofs.Between.{every, every-member, every_range_lem, every_range}
use Rattle.emoji.specs.declared.presentation.Presentation.{Presentation}
use Rattle.policy.specs.Policy.{singleton_rule}
use Rattle.policy.specs.declared.Policy.{Policy}
use Rattle.policy.specs.declared.SingletonRule.{SingletonRule}
use Rattle.policy.specs.declared.SingletonRule.TheVariants.{EmojiToBare, TextToBare}
use Rattle.scanner.specs.Classes.{class_of}
use Rattle.scanner.specs.Items.{Item, start_state, split_from, items, kind_of, transition}
use Rattle.scanner.specs.Spans.{size, width}
use Rattle.scanner.specs.declared.char_class.Class.{Class}
use Rattle.scanner.specs.declared.char_class.Class.TheVariants.{Emoji as emoji, Other as other}
use Rattle.scanner.specs.declared.state.State.TheVariants.{Unit as unit}
use Rattle.scanner.proofs.Classes.{
  HasClass,
  has_class,
  is_emoji_lem,
  is_keycap,
  is_link,
  is_modifier,
  is_other,
  is_ri_lem,
  is_selector_lem,
  is_tag_lem,
}
use Rattle.scanner.proofs.Tiling.{split_from-none}
use Rattle.analysis.specs.Analysis.{chosen, following}
use Rattle.analysis.specs.Cells.{Cell, cells, leading, split}
use Rattle.analysis.specs.Counts.{total}
use Rattle.analysis.specs.Rules.{rule6, without_selector}
use Rattle.analysis.specs.declared.singleton.Outcome.{Outcome}
use Rattle.analysis.proofs.Cells.{split-char}
use Rattle.analysis.proofs.Rules.{outcome_entry}
use Rattle.text_pass.specs.Changes.{AsciiBare, SameRules, UnchangedBetween, outcome_from}
use Rattle.text_pass.specs.Findings.{NoFindingBetween, PlainBetween}
use Rattle.text_pass.proofs.Passing.{passes_plain, uncounted_item, skips_here, skips_on, skips_other, step-width}
use Rattle.text_pass.proofs.PlainText.{stays_plain}
use Rattle.text_pass.proofs.RuleClasses.{rules_before, same_outcome}
use Rattle.text_pass.proofs.Staying.{stays-char}

ascii_no_selector : (c : ℕ) → c ≤ 0x7F → is_selector c ≡ false
unfolding is_selector
ascii_no_selector c h = simp (ne_eqb c 0xFE0E (λ e. omega arith), ne_eqb c 0xFE0F (λ e. omega arith))

-- The characters after a base begin with no selector, and for the rules with no modifier, no tag and not with 20E3.
pub record NoEffectBefore (t : List ℕ) : Type 0 where
  pub leads_none : leading t ≡ []
  pub rules : SameRules other (following (cells t))
  -- An item that is one base ends before these characters.
  pub ends : (split_from unit t).0 ≡ []

no_effect_end : NoEffectBefore []
unfolding split following split_from
no_effect_end = record { leads_none = refl; rules = record { modifier = refl; tags = refl; keycap = refl }; ends = refl }

-- An ASCII character is of the class emoji or other.
ascii_class : (c : ℕ) → c ≤ 0x7F → (class_of c ≡ emoji) ⊎ (class_of c ≡ other)
unfolding is_tag is_ri every_range ri_ranges is_emoji_modifier every emoji_modifiers
ascii_class c h = go (has_class c)
  where
    go : {k : Class} → HasClass c k → (k ≡ emoji) ⊎ (k ≡ other)
    go (is_selector_lem s) = absurd (true≢false (sym s ∙ ascii_no_selector c h))
    go (is_link e) = absurd (omega arith)
    go (is_keycap e) = absurd (omega arith)
    go (is_tag_lem t) = let i = within_in 0xE0020 0xE007F c t in absurd (omega arith)
    go (is_ri_lem r) =
        absurd (every_range_lem (λ (a e : ℕ). leb 0x80 a) (λ d. d ≤ 0x7F → ⊥)
        (λ a e d w t l. let i = within_in a e d w in omega (arith, leb-true 0x80 a t)) ri_ranges refl c r h)
    go (is_modifier m) = absurd (omega (arith, leb-true 0x80 c (every-member (λ x. leb 0x80 x) emoji_modifiers refl c m)))
    go (is_emoji_lem e r m) = inl refl
    go (is_other o k t) = inr refl

unit_none : (k : Class) → (k ≡ emoji) ⊎ (k ≡ other) → transition unit k ≡ None
unfolding transition
unit_none k h = ⊎_elim (λ e. ap (transition unit) e) (λ e. ap (transition unit) e) h

no_effect_ascii : (c : ℕ) (t : List ℕ) → c ≤ 0x7F → NoEffectBefore (c ∷ t)
unfolding following
no_effect_ascii c t h =
    let s = split-char c t (ascii_no_selector c h) in
    record {
      leads_none = ap (λ (a : List Presentation × List Cell). a.0) s;
      rules = subst (λ (a : List Presentation × List Cell). SameRules other (following a.1)) (sym s) (rules_before c (omega arith));
      ends = ap (λ (a : List ℕ × List Item). a.0) (split_from-none unit c t (unit_none (class_of c) (ascii_class c h)));
    }

-- The characters from an ASCII byte on, or from the end of the text on, have no effect on the base before them.
no_effect_at : (text : List ℕ) (k : ℕ) → get_or text k 0 ≤ 0x7F → NoEffectBefore (chars (drop k text))
no_effect_at text k h =
    ⊎_elim (λ l. subst NoEffectBefore (sym (chars_end (drop k text) (read_char-past_end text k l))) no_effect_end)
    (λ l. subst NoEffectBefore (sym (read text k (get_or text k 0) 1 (read_char_ascii_at text k l h)).chars_on)
    (no_effect_ascii (get_or text k 0) (chars (drop (k + 1) text)) h))
    (le_or_lt (length text) k)

-- Rule 6 leaves a base bare and counts nothing, if it has no selector and the policy keeps it bare.
bare_outcome : (r : SingletonRule) → (r ≡ TextToBare) ⊎ (r ≡ EmojiToBare) → (chosen (rule6 r []).slot [] ≡ [])
    × (total (rule6 r []).counts ≡ 0)
unfolding rule6 without_selector
bare_outcome r h = ⊎_elim (λ e. rw e (refl, refl)) (λ e. rw e (refl, refl)) h

module _ {p : Policy} (b : AsciiBare p) {text : List ℕ} where
  stays_ascii : {at v : ℕ} → Step text at v 1 → v ≤ 0x7F → NoEffectBefore (chars (drop (at + 1) text)) → UnchangedBetween p text at (at + 1)
  stays_ascii {at} {v} h l s = go (has_variation_sequence v) refl
    where
      go : (x : Bool) → has_variation_sequence v ≡ x → UnchangedBetween p text at (at + 1)
      go false e = stays_plain p h (record { no_entry = e; no_selector = ascii_no_selector v l })
      go true e =
          let t = chars (drop (at + 1) text) in
          let o : outcome_from p text v (at + 1) ≡ rule6 (singleton_rule p v false) [] =
          sym (same_outcome p v (leading t) s.rules) ∙ outcome_entry p v other (leading t) e
          ∙ ap (rule6 (singleton_rule p v false)) s.leads_none in
          let n = bare_outcome (singleton_rule p v false) (b v l e) in
          stays-char p h (ascii_no_selector v l) (ap (λ (x : Outcome). chosen x.slot []) o ∙ n.0)
          (ap (λ (x : Outcome). total x.counts) o ∙ n.1 ∙ sym (ap length s.leads_none))

  -- No finding starts at an ASCII character before characters that have no effect on it.
  passes_ascii : {at v : ℕ} → Step text at v 1 → v ≤ 0x7F → NoEffectBefore (chars (drop (at + 1) text))
      → NoFindingBetween p text at (at + 1)
  unfolding items start_state
  passes_ascii {at} {v} h l s = ⊎_elim key (λ e. passes_plain p h (ap start_state e)) (ascii_class v l)
    where
      t : List ℕ
      t = chars (drop (at + 1) text)

      key : class_of v ≡ emoji → NoFindingBetween p text at (at + 1)
      key e =
          let f : items (chars (drop at text))
          ≡ record { kind = kind_of (start_state (class_of v)); chars = v ∷ (split_from (start_state (class_of v)) t).0 }
          ∷ (split_from (start_state (class_of v)) t).1 = ap items h.chars_on in
          let z : (split_from (start_state (class_of v)) t).0 ≡ [] = ap (λ (k : Class). (split_from (start_state k) t).0) e ∙ s.ends in
          uncounted_item p text at (at + 1) f (omega (arith, step-width h, ap (size width) z)) (stays_ascii h l s).counted

  skips_ascii : {at v : ℕ} → Step text at v 1 → v ≤ 0x7F → NoEffectBefore (chars (drop (at + 1) text)) → PlainBetween p text at (at + 1)
  skips_ascii h l s = (stays_ascii h l s, passes_ascii h l s)

  pub ascii_skips : (n i : ℕ) → i + n ≤ length text → ((k : ℕ) → i ≤ k → k ≤ i + n → get_or text k 0 ≤ 0x7F) → PlainBetween p text i (i + n)
  ascii_skips zero i l f = let z : i ≡ i + 0 = omega arith in subst (PlainBetween p text i) z (skips_here i)
  ascii_skips (suc n) i l f =
      let e : i + 1 + n ≡ i + suc n = omega arith in
      let s = read text i (get_or text i 0) 1 (read_char_ascii_at text i (omega arith) (f i (omega arith) (omega arith))) in
      subst (PlainBetween p text i) e
      (skips_on (skips_ascii s (f i (omega arith) (omega arith)) (no_effect_at text (i + 1) (f (i + 1) (omega arith) (omega arith))))
      (ascii_skips n (i + 1) (omega arith) (λ k a c. f k (omega arith) (omega arith))))

  -- A run of ASCII whose last character has the class other is plain text, whatever follows.
  pub ascii_skips_last : (n i : ℕ) → i + suc n ≤ length text → ((k : ℕ) → i ≤ k → k ≤ i + n → get_or text k 0 ≤ 0x7F)
      → class_of (get_or text (i + n) 0) ≡ other → PlainBetween p text i (i + suc n)
  ascii_skips_last n i l f e =
      let z : i + n + 1 ≡ i + suc n = omega arith in
      let h = f (i + n) (omega arith) (omega arith) in
      let s = read text (i + n) (get_or text (i + n) 0) 1 (read_char_ascii_at text (i + n) (omega arith) h) in
      subst (PlainBetween p text i) z (skips_on (ascii_skips n i (omega arith) f) (skips_other p s e))

-- ---- a run as the code finds it: one ASCII character, and the run after it

module _ {text : List ℕ} {from end : ℕ} (q : (from < length text) × (get_or text from 0 ≤ 0x7F)) (r : AsciiRun text (from + 1) end) where
  run-byte : (k : ℕ) → from ≤ k → k < end → get_or text k 0 ≤ 0x7F
  run-byte k h l = ⊎_elim (λ m. r.ascii k m l) (λ m. let e : from ≡ k = omega arith in subst (λ (n : ℕ). get_or text n 0 ≤ 0x7F) e q.1)
      (le_or_lt (from + 1) k)

  pub run_room : end ≤ length text
  run_room = r.inside (let h = q.0 in omega arith)

  pub last_byte : get_or text (end - 1) 0 ≤ 0x7F
  last_byte = let h = r.from_le in run-byte (end - 1) (omega arith) (omega arith)

module _ {p : Policy} (b : AsciiBare p) {text : List ℕ} {from end : ℕ} (q : (from < length text) × (get_or text from 0 ≤ 0x7F))
    (r : AsciiRun text (from + 1) end) where
  -- The whole run is plain text if the text ends there.
  pub run_to_end : end ≡ length text → PlainBetween p text from end
  run_to_end e =
      let h = r.from_le in
      let z : from + (end - from) ≡ end = omega arith in
      let past : (k : ℕ) → end ≤ k → get_or text k 0 ≤ 0x7F = λ k l. omega (arith, get_or-eq_default text 0 {n = k} (omega arith)) in
      subst (PlainBetween p text from) z
      (ascii_skips b (end - from) from (omega (arith, run_room q r))
      (λ k i j. ⊎_elim (λ l. past k l) (λ l. run-byte q r k i l) (le_or_lt end k)))

  -- The run without its last character is plain text, whatever follows.
  pub run_but_last : PlainBetween p text from (end - 1)
  run_but_last =
      let h = r.from_le in
      let z : from + (end - 1 - from) ≡ end - 1 = omega arith in
      subst (PlainBetween p text from) z
      (ascii_skips b (end - 1 - from) from (omega (arith, run_room q r)) (λ k i j. run-byte q r k i (omega arith)))

  -- The whole run is plain text if its last character has the class other.
  pub run_with-last : class_of (get_or text (end - 1) 0) ≡ other → PlainBetween p text from end
  run_with-last e =
      let h = r.from_le in
      let z : from + suc (end - 1 - from) ≡ end = omega arith in
      let l : from + (end - 1 - from) ≡ end - 1 = omega arith in
      subst (PlainBetween p text from) z
      (ascii_skips_last b (end - 1 - from) from (omega (arith, run_room q r)) (λ k i j. run-byte q r k i (omega arith))
      (ap (λ (n : ℕ). class_of (get_or text n 0)) l ∙ e))
