-- Going through a text from change to change: what is measured or written so far, together with the rest, is the whole formatted text.
use Rattle.std.specs.Prelude.{Some, None, Option}
use mathlib.Core.Path.{◌≡◌, refl, ap, ap₂, sym, ◌∙◌}
use mathlib.Core.Bool.{Bool, true, false}
use mathlib.Core.List.{List, [], ◌∷◌, ◌++◌, append_assoc}
use Prim.Native.Nat.{ℕ, ◌+◌, ◌*◌, ◌-◌, ◌<◌, ◌≤◌}
use native.Mathlib.Omega.{arith}
use lib.Dec.{eqb}
use lib.ListN.{drop, length, length-append, length-drop, set, take}
use lib.Seq.{length-take-le, sets}
use borrow.Author.Tests.{eq-eqb, ne_eqb}
use Rattle.base.specs.Output.{PutAt}
use Rattle.base.proofs.Writer.{Writing, put, room}
use Rattle.utf8.specs.Rfc3629.{chars, encode, encode_all, valid_up_to_of}
use Rattle.utf8.proofs.Texts.{valid_up_to_le}
use Rattle.policy.specs.declared.Policy.{Policy}
use Rattle.scanner.specs.Spans.{size, width}
use Rattle.scanner.proofs.Bytes.{size-chars, size-width}
use Rattle.analysis.specs.Analysis.{count_cells, render, renew}
use Rattle.analysis.specs.CellView.{format_cells, total_cells}
use Rattle.analysis.specs.Cells.{split}
use Rattle.analysis.specs.Counts.{total}
use Rattle.analysis.specs.Rules.{run_with}
use Rattle.analysis.proofs.Lengths.{render_bytes}
use Rattle.emoji.specs.declared.presentation.Presentation.{Presentation}
use Rattle.emoji.specs.declared.presentation.Presentation.TheVariants.{Emoji, Text}
use Rattle.emoji.specs.Presentation.{as_selector}
use Rattle.text_pass.specs.Changes.{NextChange, formatted_from, selector_bytes, total_from}
use Rattle.text_pass.specs.declared.Change.{Change}

module _ (p : Policy) (text : List ℕ) where
  -- The formatted text is at most four times as long as the text.
  pub four_times_at : (at : ℕ) → length (formatted_from p text at) ≤ 4 * length (drop at text)
  unfolding format_cells
  four_times_at at =
      let t = chars (drop at text) in
      omega (arith, size-width (format_cells p t), render_bytes p t [], size-chars (drop at text), valid_up_to_le (drop at text))

  -- Where no character begins, nothing is left to write.
  pub formatted_from_none : (at : ℕ) → chars (drop at text) ≡ [] → formatted_from p text at ≡ []
  unfolding format_cells split render renew encode_all
  formatted_from_none at e = ap (λ (t : List ℕ). encode_all (format_cells p t)) e

  none-counted : (at : ℕ) → chars (drop at text) ≡ [] → total_from p text at ≡ 0
  unfolding total_cells split count_cells
  none-counted at e = ap (λ (t : List ℕ). total (total_cells p t)) e

  -- What the answer of `next_change` says, whether a change is present or not.
  pub record Passed (from : ℕ) (c : Change) : Type 0 where
    pub on : from ≤ c.start
    pub after : c.start ≤ c.end
    pub inside : c.end ≤ length text
    pub formatted : formatted_from p text from ≡ take (c.start - from) (drop from text)
        ++ (selector_bytes c.selector ++ formatted_from p text c.end)
    pub valid : valid_up_to_of (drop from text) ≡ (c.end - from) + valid_up_to_of (drop c.end text)

  pub passed : {from : ℕ} {c : Change} → from ≤ length text → NextChange p text from c → Passed from c
  unfolding encode_all run_with
  passed {from} {c} l h = go c.present refl
    where
      go : (b : Bool) → c.present ≡ b → Passed from c
      go true m =
          let x = h.0 m in
          record { on = x.on; after = x.after; inside = x.advances.inside l; formatted = x.formatted; valid = x.advances.valid }
      go false m =
          let x = h.1 m in
          let s = x.stays in
          record {
            on = omega (arith, s.advances.on, x.start-is-end);
            after = omega (arith, x.start-is-end);
            inside = s.advances.inside l;
            formatted =
                s.formatted ∙ ap (λ (n : ℕ). take (n - from) (drop from text) ++ formatted_from p text c.end) (sym x.start-is-end)
                ∙ ap (λ (f : Option Presentation). take (c.start - from) (drop from text)
                ++ (selector_bytes f ++ formatted_from p text c.end))
                (sym x.no_selector);
            valid = s.advances.valid;
          }

  kept_length : {from : ℕ} {c : Change} → Passed from c → length (take (c.start - from) (drop from text)) ≡ c.start - from
  kept_length {from} {c} h = length-take-le (c.start - from) (drop from text)
      (omega (arith, length-drop from text, h.on, h.after, h.inside))

  -- The end of a change is nearer to the end of the text.
  pub passed-less : {from : ℕ} {c : Change} → from ≤ length text → NextChange p text from c → c.present ≡ true
      → length text - c.end < length text - from
  passed-less l h m = omega (arith, (h.0 m).moves, (passed l h).inside)

  -- The length of the formatted text, by the bytes before a change, the change's selector and the rest.
  pub passed_length : {from : ℕ} {c : Change} → Passed from c
      → length (formatted_from p text from) ≡ (c.start - from) + length (selector_bytes c.selector) + length
      (formatted_from p text c.end)
  passed_length {from} {c} h =
      let a = length-append (take (c.start - from) (drop from text)) (selector_bytes c.selector ++ formatted_from p text c.end) in
      let b = length-append (selector_bytes c.selector) (formatted_from p text c.end) in
      omega (arith, ap length h.formatted, a, b, kept_length h)

  -- ---- measuring

  pub record Surveying (at len : ℕ) : Type 0 where
    pub inside : at ≤ length text
    pub measured : length (formatted_from p text 0) ≡ len + length (formatted_from p text at)
    pub valid : valid_up_to_of text ≡ at + valid_up_to_of (drop at text)

  pub survey_begin : Surveying 0 0
  survey_begin = record { inside = omega arith; measured = omega arith; valid = omega arith }

  module _ {at len : ℕ} (s : Surveying at len) {c : Change} (h : NextChange p text at c) {n : ℕ}
      (e : n ≡ length (selector_bytes c.selector)) where
    pub survey-fits : len + ((c.start - at) + n) ≤ 4 * length text
    survey-fits = omega (arith, s.measured, passed_length (passed s.inside h), four_times_at 0)

    pub survey-on : Surveying c.end (len + ((c.start - at) + n))
    survey-on =
        let x = passed s.inside h in
        record {
          inside = x.inside;
          measured = omega (arith, s.measured, passed_length x);
          valid = omega (arith, s.valid, x.valid, x.on, x.after);
        }

  -- When the survey ends, its numbers are those of the whole text.
  module _ {at len : ℕ} (s : Surveying at len) (e : chars (drop at text) ≡ []) where
    pub survey-valid : at ≡ valid_up_to_of text
    survey-valid =
        let z : valid_up_to_of (drop at text) ≡ 0 = sym (size-chars (drop at text)) ∙ ap (size width) e in
        omega (arith, s.valid, z)

    pub survey-length : len ≡ length (formatted_from p text 0)
    survey-length = omega (arith, s.measured, ap length (formatted_from_none at e))

  -- ---- the first change

  module _ {c : Change} (h : NextChange p text 0 c) where
    pub first-inside : c.end ≤ length text
    first-inside = (passed (omega arith) h).inside

    pub first-end : c.present ≡ false → c.end ≡ valid_up_to_of text
    first-end m = survey-valid (survey-on survey_begin h refl) (h.1 m).ends

    -- If there is a change, the rules count something.
    pub first_counted : c.present ≡ true → eqb (total_from p text 0) 0 ≡ false
    first_counted m = ne_eqb (total_from p text 0) 0 (λ z. omega (arith, (h.0 m).counted))

    pub first-none : c.present ≡ false → eqb (total_from p text 0) 0 ≡ true
    first-none m = eq-eqb (total_from p text 0) 0 ((h.1 m).stays.counted ∙ none-counted c.end (h.1 m).ends)

  -- ---- two changes in a row

  -- The length of the longest well-formed beginning, by the second answer of `next_change`.
  module _ {c d : Change} (h : NextChange p text 0 c) (k : NextChange p text c.end d) where
    pub second-inside : d.end ≤ length text
    second-inside = (passed (first-inside h) k).inside

    pub second-valid : {n : ℕ} → (d.present ≡ true → n ≡ d.end + valid_up_to_of (drop d.end text)) × (d.present ≡ false → n ≡ d.end) → n
        ≡ valid_up_to_of text
    second-valid {n} e = go d.present refl
      where
        go : (b : Bool) → d.present ≡ b → n ≡ valid_up_to_of text
        go true m = let s = survey-on (survey-on survey_begin h refl) k refl in omega (arith, e.0 m, s.valid)
        go false m = e.1 m ∙ survey-valid (survey-on (survey-on survey_begin h refl) k refl) (k.1 m).ends

  -- ---- writing

  -- The bytes that are written for a change: those before it, and its selector.
  abbrev pub change_bytes : ℕ → Change → List ℕ
  change_bytes at c = take (c.start - at) (drop at text) ++ selector_bytes c.selector

  pub change_formatted : {at : ℕ} {c : Change} → Passed at c → formatted_from p text at ≡ change_bytes at c ++ formatted_from p text c.end
  change_formatted {at} {c} h = h.formatted
      ∙ sym (append_assoc (take (c.start - at) (drop at text)) (selector_bytes c.selector) (formatted_from p text c.end))

  -- The output has room for a change, and the invariant `Writing` holds again once the change is written.
  module _ {all o₀ o : List ℕ} {from at to : ℕ} {c : Change} (w : Writing all from o₀ (formatted_from p text at) o to)
      (h : Passed at c) where
    pub change-room : to + (c.start - at) + length (selector_bytes c.selector) ≤ length o
    change-room =
        let a = length-append (take (c.start - at) (drop at text)) (selector_bytes c.selector) in
        omega (arith, kept_length h, a, room _ _ _ _ (change_bytes at c) _ w (change_formatted h))

    pub change-put : {o₁ : List ℕ} {to₁ : ℕ} → PutAt o to (change_bytes at c) o₁ to₁
        → Writing all from o₀ (formatted_from p text c.end) o₁ to₁
    change-put a = put _ _ _ _ _ w a (change_formatted h)

-- ---- the bytes of a selector

pub no_bytes : (s : Option Presentation) → s ≡ None → [] ≡ selector_bytes s
unfolding encode_all run_with
no_bytes s e = ap selector_bytes (sym e)

pub text_bytes : selector_bytes (Some Text) ≡ 0xEF ∷ 0xB8 ∷ 0x8E ∷ []
unfolding encode_all encode run_with as_selector
text_bytes = refl

pub emoji_bytes : selector_bytes (Some Emoji) ≡ 0xEF ∷ 0xB8 ∷ 0x8F ∷ []
unfolding encode_all encode run_with as_selector
emoji_bytes = refl

pub three_bytes : (s : Option Presentation) (q : Presentation) → s ≡ Some q → length (selector_bytes s) ≡ 3
three_bytes s Text e = ap (λ (x : Option Presentation). length (selector_bytes x)) e ∙ ap length text_bytes
three_bytes s Emoji e = ap (λ (x : Option Presentation). length (selector_bytes x)) e ∙ ap length emoji_bytes

pub selector_put : (o : List ℕ) (at b : ℕ) (s : Option Presentation) → selector_bytes s ≡ 0xEF ∷ 0xB8 ∷ b ∷ []
    → PutAt o at (selector_bytes s) (set (set (set o at 0xEF) (at + 1) 0xB8) (at + 2) b) (at + 3)
selector_put o at b s e = record {
  ends = omega (arith, ap length e);
  bytes = ap₂ (λ (i j : ℕ). set (set (set o at 0xEF) i 0xB8) j b) (omega arith) (omega arith) ∙ ap (sets o at) (sym e);
}
