-- The flags after the pass say what occurs in the text.
use Rattle.std.specs.Prelude.{Some, None, Option}
use mathlib.Core.Path.{◌≡◌, refl, ap, ap₂, sym, ◌∙◌}
use mathlib.Core.Logic.{⊎_elim}
use mathlib.Core.Bool.{Bool, true, false, beq, ◌&&◌, ◌||◌, cond, not, false≢true}
use mathlib.Core.List.{List, [], ◌∷◌}
use Prim.Native.Nat.{ℕ, ◌+◌, ◌<◌, ◌≤◌}
use native.Mathlib.Omega.{arith}
use lib.Dec.{eqb}
use lib.ListN.{drop, get_or, length, length-set, set}
use lib.Seq.{get_or-set_other, get_or-set_same}
use borrow.Author.Tests.{eq-eqb, eqb-true, ne_eqb}
use Rattle.base.proofs.Tests.{and_both, beq_so, both_true, same_test, so_beq}
use Rattle.utf8.specs.Rfc3629.{chars, valid_up_to_of}
use Rattle.utf8.proofs.Places.{Step, Stop}
use Rattle.emoji.specs.Presentation.{from_selector}
use Rattle.emoji.specs.Unicode.{variation_sequence_index}
use Rattle.emoji.specs.UnicodeData.{variation_entries}
use Rattle.emoji.specs.declared.presentation.Presentation.{Presentation}
use Rattle.emoji.specs.declared.presentation.Presentation.TheVariants.{Emoji, Text}
use Rattle.policy_key_set.specs.Sets.{entry_count}
use Rattle.policy_key_set.proofs.Entries.{entry_count_lem, index_has_place, no_entry, only_entry}
use Rattle.policy_key_set.proofs.Members.{decide}
use Rattle.policy.specs.PolicyBytes.{policy_of}
use Rattle.scanner.specs.Runs.{selectors_at}
use Rattle.scanner.specs.SelectorRun.{first_selector}
use Rattle.scanner.specs.Spans.{size, width}
use Rattle.scanner.specs.declared.char_class.Class.{Class}
use Rattle.analysis.proofs.RuleLaws.{selector_small}
use Rattle.analysis.specs.Analysis.{following}
use Rattle.analysis.specs.CellView.{class_in_front}
use Rattle.analysis.specs.Cells.{Cell, add_char, cells, leading, split}
use Rattle.analysis.specs.Rules.{by_keycap, by_modifier, by_tags, first_asked, selector_number}
use Rattle.analysis.proofs.Cells.{split-char}
use Rattle.analysis.proofs.CellsAt.{first-leads, selectors_end}
use Rattle.text_pass.proofs.Bases.{entry_no_selector}
use Rattle.text_pass.proofs.Kept.{follows}
use Rattle.membership_flips.specs.Flips.{digit}
use Rattle.membership_flips.specs.Pass.{FlagsTell, NoEntryBetween, flag_index, flagged, is_judged, with_char, with_entry}
use Rattle.membership_flips.specs.Uses.{judged_in, occurs, same_first}

-- ---- indices

digit-few : (b : Bool) → digit b ≤ 1
digit-few true = omega arith
digit-few false = omega arith

digit-same : (a b : Bool) → digit a ≡ digit b → a ≡ b
digit-same true true e = refl
digit-same true false e = absurd (omega arith)
digit-same false true e = absurd (omega arith)
digit-same false false e = refl

number_same : (f g : Option Presentation) → selector_number f ≡ selector_number g → same_first g f ≡ true
number_same None None e = refl
number_same None (Some Text) e = absurd (omega arith)
number_same None (Some Emoji) e = absurd (omega arith)
number_same (Some Text) None e = absurd (omega arith)
number_same (Some Emoji) None e = absurd (omega arith)
number_same (Some Text) (Some Text) e = refl
number_same (Some Text) (Some Emoji) e = absurd (omega arith)
number_same (Some Emoji) (Some Text) e = absurd (omega arith)
number_same (Some Emoji) (Some Emoji) e = refl

same_number : (f g : Option Presentation) → same_first g f ≡ true → selector_number f ≡ selector_number g
same_number None None e = refl
same_number None (Some q) e = absurd (false≢true e)
same_number (Some q) None e = absurd (false≢true e)
same_number (Some Text) (Some Text) e = refl
same_number (Some Text) (Some Emoji) e = absurd (false≢true e)
same_number (Some Emoji) (Some Text) e = absurd (false≢true e)
same_number (Some Emoji) (Some Emoji) e = refl

pub flag_room : (i : ℕ) (k : Bool) (f : Option Presentation) → i < 354 → flag_index i k f < 2124
unfolding flag_index
flag_room i k f h = omega (arith, digit-few k, selector_small f)

-- Two indices are the same where entry, domain and selector are, and only there.
flag_same : (i j : ℕ) (k l : Bool) (f g : Option Presentation) → eqb (flag_index i k f) (flag_index j l g)
    ≡ (eqb i j && (beq k l && same_first g f))
unfolding flag_index
flag_same i j k l f g =
    same_test (eqb (flag_index i k f) (flag_index j l g)) (eqb i j && (beq k l && same_first g f))
    (λ e.
    let h = eqb-true (flag_index i k f) (flag_index j l g) e in
    let a = digit-few k in
    let b = digit-few l in
    let c = selector_small f in
    let d = selector_small g in
    and_both (eqb i j) (beq k l && same_first g f) (eq-eqb i j (omega arith))
    (and_both (beq k l) (same_first g f) (so_beq k l (digit-same k l (omega arith))) (number_same f g (omega arith))))
    (λ e.
    let u = both_true (eqb i j) (beq k l && same_first g f) e in
    let v = both_true (beq k l) (same_first g f) u.1 in
    eq-eqb (flag_index i k f) (flag_index j l g) (omega (arith, eqb-true i j u.0, ap digit (beq_so k l v.0), same_number f g v.1)))

-- ---- one flag more

or_no : (b : Bool) → b || false ≡ b
or_no true = refl
or_no false = refl

or_yes : (b : Bool) → b || true ≡ true
or_yes true = refl
or_yes false = refl

flag_set : (flags : List ℕ) (i j : ℕ) (k l : Bool) (f g : Option Presentation) → length flags ≡ 2124 → i < 354
    → flagged (set flags (flag_index i k f) 1) j l g ≡ (flagged flags j l g || (eqb i j && (beq k l && same_first g f)))
unfolding flagged
flag_set flags i j k l f g n h = ⊎_elim
    (λ (e : flag_index i k f ≡ flag_index j l g).
    ap (λ (z : ℕ). not (eqb (get_or (set flags (flag_index i k f) 1) z 0) 0)) (sym e)
    ∙ ap (λ (z : ℕ). not (eqb z 0)) (get_or-set_same flags (flag_index i k f) 1 0 (omega (arith, flag_room i k f h)))
    ∙ sym (ap (λ (z : Bool). old || z) (sym (flag_same i j k l f g) ∙ eq-eqb (flag_index i k f) (flag_index j l g) e) ∙ or_yes old))
    (λ (e : flag_index i k f ≡ flag_index j l g → ⊥).
    ap (λ (z : ℕ). not (eqb z 0)) (get_or-set_other flags (flag_index i k f) (flag_index j l g) 1 0
    (λ (z : flag_index j l g ≡ flag_index i k f). e (sym z)))
    ∙ sym (ap (λ (z : Bool). old || z) (sym (flag_same i j k l f g) ∙ ne_eqb (flag_index i k f) (flag_index j l g) e) ∙ or_no old))
    (decide (flag_index i k f) (flag_index j l g))
  where
    old : Bool
    old = not (eqb (get_or flags (flag_index j l g) 0) 0)

flag_with_entry : (t flags : List ℕ) (i j : ℕ) (l : Bool) (g : Option Presentation) → length flags ≡ 2124 → i < 354
    → flagged (with_entry t i flags) j l g ≡ (flagged flags j l g
    || ((eqb i j && judged_in l (following (cells t))) && same_first g (first_asked (leading t))))
unfolding with_entry is_judged judged_in
flag_with_entry t flags i j l g n h = go (by_modifier k) (by_tags k)
  where
    k : Class
    k = following (cells t)

    f : Option Presentation
    f = first_asked (leading t)

    none : (x y : Bool) → x ≡ (x || ((y && false) && same_first g f))
    none x true = sym (or_no x)
    none x false = sym (or_no x)

    regroup : (x y z : Bool) → x && (y && z) ≡ ((x && y) && z)
    regroup true y z = refl
    regroup false y z = refl

    go : (m s : Bool) → flagged (cond (not m && not s) (set flags (flag_index i (by_keycap k) f) 1) flags) j l g
        ≡ (flagged flags j l g || ((eqb i j && (not m && (not s && beq (by_keycap k) l))) && same_first g f))
    go true s = none (flagged flags j l g) (eqb i j)
    go false true = none (flagged flags j l g) (eqb i j)
    go false false = flag_set flags i j (by_keycap k) l f g n h
        ∙ ap (λ (z : Bool). flagged flags j l g || z) (regroup (eqb i j) (beq (by_keycap k) l) (same_first g f))

-- ---- one character more

eqb_back : (a b : ℕ) → eqb a b ≡ eqb b a
eqb_back a b = same_test (eqb a b) (eqb b a) (λ e. eq-eqb b a (sym (eqb-true a b e))) (λ e. eq-eqb a b (sym (eqb-true b a e)))

abbrev C : ℕ → ℕ
C i = get_or variation_entries i 0

-- A character without an entry occurs nowhere.
pub occurs_plain : (v : ℕ) (t : List ℕ) → variation_sequence_index v ≡ None → (j : ℕ) → j < entry_count
    → (l : Bool) (g : Option Presentation)
    → occurs (C j) l (cells (v ∷ t)) g ≡ occurs (C j) l (cells t) g
unfolding split add_char occurs
occurs_plain v t e j h l g = go (from_selector v)
  where
    go : (s : Option Presentation) → occurs (C j) l (add_char v s (split t)).1 g ≡ occurs (C j) l (cells t) g
    go (Some q) = refl
    go None =
        ap (λ (b : Bool). (b && judged_in l (following (cells t))) && same_first g (first_asked (leading t)) || occurs (C j) l (cells t) g)
        (eqb_back v (C j) ∙ no_entry v e j h)

-- An entry occurs as it stands there.
occurs_entry : (v i : ℕ) (t : List ℕ) → variation_sequence_index v ≡ Some i → (j : ℕ) → j < entry_count
    → (l : Bool) (g : Option Presentation)
    → occurs (C j) l (cells (v ∷ t)) g ≡ ((eqb i j && judged_in l (following (cells t))) && same_first g (first_asked (leading t)) || occurs
    (C j) l (cells t) g)
unfolding occurs
occurs_entry v i t e j h l g =
    ap (λ (a : List Presentation × List Cell). occurs (C j) l a.1 g) (split-char v t (entry_no_selector v i e))
    ∙ ap (λ (b : Bool). (b && judged_in l (following (cells t))) && same_first g (first_asked (leading t)) || occurs (C j) l (cells t) g)
    (eqb_back v (C j) ∙ only_entry v i e j h ∙ eqb_back j i)

-- ---- the pass

-- The flags set so far, with what occurs from an offset on, say what occurs in the whole text.
pub record FlagsUpTo (text flags : List ℕ) (at : ℕ) : Type 0 where
  pub inside : at ≤ length text
  pub many : length flags ≡ 2124
  pub sees : (i : ℕ) → i < entry_count → (k : Bool) (f : Option Presentation)
      → (flagged flags i k f || occurs (C i) k (cells (chars (drop at text))) f) ≡ occurs (C i) k (cells (chars text)) f
  pub valid : valid_up_to_of text ≡ at + valid_up_to_of (drop at text)

pub flags_begin : (text flags : List ℕ) → length flags ≡ 2124 → ((k : ℕ) → get_or flags k 0 ≡ 0) → FlagsUpTo text flags 0
unfolding flagged
flags_begin text flags n z = record {
  inside = omega arith;
  many = n;
  sees = λ i h k f. ap (λ (x : ℕ). not (eqb x 0) || occurs (C i) k (cells (chars text)) f) (z (flag_index i k f));
  valid = omega arith;
}

or_assoc : (x y z : Bool) → (x || y) || z ≡ (x || (y || z))
or_assoc true y z = refl
or_assoc false y z = refl

pub with_entry_length : (t flags : List ℕ) (i : ℕ) → length (with_entry t i flags) ≡ length flags
unfolding with_entry
with_entry_length t flags i = go (is_judged (following (cells t)))
  where
    go : (b : Bool) → length (cond b (set flags (flag_index i (by_keycap (following (cells t))) (first_asked (leading t))) 1) flags)
        ≡ length flags
    go true = length-set flags (flag_index i (by_keycap (following (cells t))) (first_asked (leading t))) 1
    go false = refl

module _ {text flags : List ℕ} {at : ℕ} (s : FlagsUpTo text flags at) where
  pub flags_on : {v w : ℕ} {flags' : List ℕ} → Step text at v w → flags'
      ≡ with_char (variation_sequence_index v) (chars (drop (at + w) text)) flags → FlagsUpTo text flags' (at + w)
  flags_on {v} {w} {flags'} k e = go (variation_sequence_index v) refl
    where
      T : List ℕ
      T = chars (drop (at + w) text)

      inside' : at + w ≤ length text
      inside' = k.room

      valid' : valid_up_to_of text ≡ at + w + valid_up_to_of (drop (at + w) text)
      valid' = omega (arith, s.valid, k.valid_up_to_on)

      whole : (i : ℕ) → i < entry_count → (l : Bool) (f : Option Presentation) → (flagged flags i l f || occurs (C i) l (cells (v ∷ T)) f)
          ≡ occurs (C i) l (cells (chars text)) f
      whole i h l f = ap (λ (t : List ℕ). flagged flags i l f || occurs (C i) l (cells t) f) (sym k.chars_on) ∙ s.sees i h l f

      go : (r : Option ℕ) → variation_sequence_index v ≡ r → FlagsUpTo text flags' (at + w)
      go (Some i) g =
          let now : flags' ≡ with_entry T i flags = e ∙ ap (λ (r : Option ℕ). with_char r T flags) g in
          let small : i < 354 = omega (arith, (index_has_place v i g).0, entry_count_lem) in
          record {
            inside = inside';
            many = ap length now ∙ with_entry_length T flags i ∙ s.many;
            sees = λ j h l f.
                ap (λ (x : List ℕ). flagged x j l f || occurs (C j) l (cells T) f) now
                ∙ ap (λ (b : Bool). b || occurs (C j) l (cells T) f) (flag_with_entry T flags i j l f s.many small)
                ∙ or_assoc (flagged flags j l f) ((eqb i j && judged_in l (following (cells T))) && same_first f (first_asked (leading T)))
                (occurs (C j) l (cells T) f)
                ∙ ap (λ (b : Bool). flagged flags j l f || b) (sym (occurs_entry v i T g j h l f)) ∙ whole j h l f;
            valid = valid';
          }
      go None g =
          let now : flags' ≡ flags = e ∙ ap (λ (r : Option ℕ). with_char r T flags) g in
          record {
            inside = inside';
            many = ap length now ∙ s.many;
            sees = λ j h l f.
                ap (λ (x : List ℕ). flagged x j l f || occurs (C j) l (cells T) f) now
                ∙ ap (λ (b : Bool). flagged flags j l f || b) (sym (occurs_plain v T g j h l f)) ∙ whole j h l f;
            valid = valid';
          }

  -- Skipped characters set no flag.
  pub flags_skip : {to : ℕ} → NoEntryBetween text at to → FlagsUpTo text flags to
  flags_skip n = record {
    inside = n.advances.inside s.inside;
    many = s.many;
    sees = λ i h k f. ap (λ (b : Bool). flagged flags i k f || b) (sym (n.same i h k f)) ∙ s.sees i h k f;
    valid = omega (arith, s.valid, n.advances.valid, n.advances.on);
  }

  pub flags_end : Stop text at → FlagsTell text flags × (at ≡ valid_up_to_of text)
  unfolding split occurs
  flags_end k = (
    (λ i h l f.
        sym (or_no (flagged flags i l f)) ∙ ap (λ (t : List ℕ). flagged flags i l f || occurs (C i) l (cells t) f) (sym k.chars_none)
        ∙ s.sees i h l f),
    omega (arith, s.valid, k.valid_up_to_zero),
  )

-- ---- an entry, as the code reads it

module _ (text : List ℕ) (after i : ℕ) (flags : List ℕ) where
  abbrev B : List ℕ
  B = chars (drop after text)

  pub next_class : {end : ℕ} {next : Class} → end ≡ after + size width (selectors_at B) → next ≡ class_in_front (chars (drop end text))
      → next
      ≡ following (cells B)
  next_class {end} e h = h ∙ follows (policy_of []) text 0 after end (e ∙ selectors_end text after)

  module _ {next : Class} (n : next ≡ following (cells B)) {judged : Bool} (j : judged ≡ is_judged next) where
    pub entry-not-judged : judged ≡ false → flags ≡ with_entry B i flags
    unfolding with_entry
    entry-not-judged e = sym (ap (λ (b : Bool). cond b
        (set flags (flag_index i (by_keycap (following (cells B))) (first_asked (leading B))) 1)
        flags) (ap is_judged (sym n) ∙ sym j ∙ e))

    pub entry-judged : judged ≡ true → {first : Option Presentation} → first ≡ first_selector B → {k : Bool} → k ≡ by_keycap next → {at : ℕ}
        → at
        ≡ flag_index i k first → set flags at 1 ≡ with_entry B i flags
    unfolding with_entry
    entry-judged e f g h =
        ap (λ (n : ℕ). set flags n 1) (h ∙ ap₂ (flag_index i) (g ∙ ap by_keycap n) (f ∙ first-leads B))
        ∙ sym (ap (λ (b : Bool). cond b (set flags (flag_index i (by_keycap (following (cells B))) (first_asked (leading B))) 1) flags)
        (ap is_judged (sym n) ∙ sym j ∙ e))

  pub with_entry-char : (v : ℕ) → variation_sequence_index v ≡ Some i → {flags' : List ℕ} → flags' ≡ with_entry B i flags → flags'
      ≡ with_char (variation_sequence_index v) B flags
  with_entry-char v e h = h ∙ ap (λ (r : Option ℕ). with_char r B flags) (sym e)

pub entry_small : (v i : ℕ) → variation_sequence_index v ≡ Some i → i < 354
entry_small v i e = omega (arith, (index_has_place v i e).0, entry_count_lem)

pub with_no_entry : (v : ℕ) (t flags : List ℕ) → variation_sequence_index v ≡ None → flags
    ≡ with_char (variation_sequence_index v) t flags
with_no_entry v t flags e = ap (λ (r : Option ℕ). with_char r t flags) (sym e)
