-- Twice the formatted length is at most five times the length, if the policy keeps ASCII bases bare. This does not hold cell by cell: an
-- ASCII base before 20E3 or a tag goes from one byte to four. But 20E3 has three bytes and a tag four, and no selector comes after them.
-- So these have bytes to spare, each for the one base before it.
use mathlib.Core.Path.{◌≡◌, refl, ap, sym, ◌∙◌}
use mathlib.Core.Bool.{Bool, true, false, true≢false}
use mathlib.Core.List.{List, [], ◌∷◌}
use mathlib.Core.Logic.{⊎_elim}
use Prim.Native.Nat.{ℕ, ◌+◌, ◌*◌, ◌≤◌}
use native.Mathlib.Omega.{arith}
use lib.ListN.{length}
use Rattle.utf8.specs.Rfc3629.{chars, encode_all}
use Rattle.utf8.proofs.Texts.{valid_up_to_le}
use Rattle.emoji.specs.Unicode.{has_variation_sequence}
use Rattle.emoji.specs.declared.presentation.Presentation.{Presentation}
use Rattle.policy_key_set.specs.KeySets.{is_ascii}
use Rattle.policy.specs.Policy.{singleton_rule}
use Rattle.policy.specs.PolicyBytes.{ascii_keys_bare, policy_of}
use Rattle.policy.specs.Theorems.{AsciiBasesBare}
use Rattle.policy.specs.declared.Policy.{Policy}
use Rattle.policy.specs.declared.SingletonRule.{SingletonRule}
use Rattle.policy.proofs.Claims.{ascii_bases_bare}
use Rattle.scanner.specs.declared.char_class.Class.{Class}
use Rattle.scanner.specs.declared.char_class.Class.TheVariants.{
  Selector as selector,
  Link as link,
  Ri as ri,
  Modifier as modifier,
  Emoji as emoji,
  Keycap as keycap,
  Tag as tag,
  Other as other,
}
use Rattle.scanner.proofs.Bytes.{size-chars, size-width, width_some}
use Rattle.scanner.proofs.Classes.{entry_class}
use Rattle.analysis.specs.Analysis.{following, outcome_at}
use Rattle.analysis.specs.CellView.{format_cells}
use Rattle.analysis.specs.Cells.{Cell, cells}
use Rattle.analysis.specs.Helpers.{slot_length}
use Rattle.analysis.specs.declared.singleton.Outcome.{Outcome}
use Rattle.analysis.specs.declared.singleton.Slot.TheVariants.{Bare as bare}
use Rattle.analysis.specs.Rules.{outcome, rule1, rule3, rule6, text_first, without_selector}
use Rattle.analysis.proofs.Measuring.{slot-few}
use Rattle.analysis.proofs.Rules.{later_rules, outcome_entry, outcome_no_entry}
use Rattle.formatter.specs.Format.{formatted}
use Rattle.formatter.proofs.CellView.{cell_view}
use Rattle.room.proofs.Lengths.{length_in_lem, length_out, length_in, length_out_lem, slot_at, two_bytes}

-- The classes whose characters have bytes to spare: 20E3 and tags.
spares : Class → Bool
spares selector = false
spares link = false
spares ri = false
spares modifier = false
spares emoji = false
spares keycap = true
spares tag = true
spares other = false

module _ (policy : List ℕ) (b : ascii_keys_bare policy ≡ true) where
  abbrev p : Policy
  p = policy_of policy

  -- Before any other class an ASCII base without a selector stays bare.
  ascii_bare : (c : ℕ) (k : Class) → has_variation_sequence c ≡ true → is_ascii c ≡ true → spares k ≡ false → (outcome p c k []).slot ≡ bare
  unfolding spares rule6 without_selector rule3 text_first AsciiBasesBare
  ascii_bare c k e a f = ap (λ (o : Outcome). o.slot) (outcome_entry p c k [] e) ∙ go k f
    where
      plain : (rule6 (singleton_rule p c false) []).slot ≡ bare
      plain =
          ⊎_elim (λ r. ap (λ (r : SingletonRule). (rule6 r []).slot) r) (λ r. ap (λ (r : SingletonRule). (rule6 r []).slot) r)
          (ascii_bases_bare policy b c a e)

      go : (k : Class) → spares k ≡ false → (later_rules p c k []).slot ≡ bare
      go selector f = plain
      go link f = plain
      go ri f = plain
      go modifier f = refl
      go emoji f = plain
      go keycap f = absurd (true≢false f)
      go tag f = absurd (true≢false f)
      go other f = plain

  -- The bound for cells; and three bytes to spare if the first character is 20E3 or a tag.
  record Bounded (xs : List Cell) : Type 0 where
    pub bound : 2 * length_out_lem p xs ≤ 5 * length_in xs
    pub spare : spares (following xs) ≡ true → 2 * length_out_lem p xs + 3 ≤ 5 * length_in xs

  -- A character without a variation entry gets no selector.
  no_entry_slot : (x : Cell) (xs : List Cell) → has_variation_sequence x.char ≡ false → slot_at p x xs ≡ 0
  unfolding rule1
  no_entry_slot x xs e = ap (λ (o : Outcome). slot_length o.slot) (outcome_no_entry p x.char (following xs) x.after e)

  no_entry_bounded : (x : Cell) (xs : List Cell) → has_variation_sequence x.char ≡ false → Bounded xs → Bounded (x ∷ xs)
  no_entry_bounded x xs e h =
      let n = no_entry_slot x xs e in
      record { bound = omega (arith, h.bound, width_some x.char); spare = λ _. omega (arith, h.bound, width_some x.char) }

  -- An entry is neither 20E3 nor a tag.
  entry_bounded : (x : Cell) (xs : List Cell) → has_variation_sequence x.char ≡ true
      → 2 * length_out_lem p (x ∷ xs) ≤ 5 * length_in (x ∷ xs) → Bounded (x ∷ xs)
  unfolding following spares
  entry_bounded x xs e h = record {
    bound = h;
    spare = λ m. absurd (true≢false (sym m ∙ ap spares (entry_class x.char e)));
  }

  -- The bound at an entry: by the bytes of its selectors, by its own bytes if it is not ASCII, by the bytes to spare of the next
  -- character, or since it stays bare.
  entry_bound : (x : Cell) (xs : List Cell) → has_variation_sequence x.char ≡ true → Bounded xs
      → (s : List Presentation) → x.after ≡ s → (a : Bool) → is_ascii x.char ≡ a → (k : Bool) → spares (following xs) ≡ k
      → 2 * length_out_lem p (x ∷ xs) ≤ 5 * length_in (x ∷ xs)
  entry_bound x xs e h (q ∷ s) t a f k g =
      omega (arith, h.bound, width_some x.char, slot-few (outcome_at p x xs).slot, ap length t)
  entry_bound x xs e h [] t false f k g = omega (arith, h.bound, two_bytes x.char f, slot-few (outcome_at p x xs).slot)
  entry_bound x xs e h [] t true f true g = omega (arith, h.spare g, width_some x.char, slot-few (outcome_at p x xs).slot)
  entry_bound x xs e h [] t true f false g =
      let z : slot_at p x xs ≡ 0 = ap (λ (s : List Presentation). slot_length (outcome p x.char (following xs) s).slot) t
      ∙ ap slot_length (ascii_bare x.char (following xs) e f g) in
      omega (arith, h.bound)

  bounded : (xs : List Cell) → Bounded xs
  unfolding following spares
  bounded [] = record { bound = omega arith; spare = λ e. absurd (true≢false (sym e)) }
  bounded (x ∷ xs) = go (bounded xs) (has_variation_sequence x.char) refl
    where
      go : Bounded xs → (v : Bool) → has_variation_sequence x.char ≡ v → Bounded (x ∷ xs)
      go h false e = no_entry_bounded x xs e h
      go h true e =
          entry_bounded x xs e (entry_bound x xs e h x.after refl (is_ascii x.char) refl (spares (following xs)) refl)

  -- The bound for the formatted characters of a text, and for the formatted text.
  pub format_bound : (text : List ℕ) → 2 * length (encode_all (format_cells p (chars text))) ≤ 5 * length text
  format_bound text =
      let t = chars text in
      omega (
        arith,
        size-width (format_cells p t),
        length_out p t,
        (bounded (cells t)).bound,
        length_in_lem t,
        size-chars text,
        valid_up_to_le text,
      )

  pub formatted_bound : (text : List ℕ) → 2 * length (formatted text policy) ≤ 5 * length text
  formatted_bound text = omega (arith, format_bound text, ap length (cell_view text policy).0)
