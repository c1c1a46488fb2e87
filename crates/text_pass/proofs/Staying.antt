-- Stretches of a text that formatting keeps: the empty one, two in a row, one before a change, and one character.
use mathlib.Core.Path.{◌≡◌, refl, ap, sym, ◌∙◌}
use mathlib.Core.Bool.{false}
use mathlib.Core.List.{List, [], ◌∷◌, ◌++◌, append_assoc, map}
use Prim.Native.Nat.{ℕ, ◌+◌, ◌-◌, ◌≤◌}
use native.Mathlib.Omega.{arith}
use lib.ListN.{drop, length, take}
use lib.Seq.{drop-drop, take-add, take_at}
use Rattle.utf8.specs.Rfc3629.{chars, encode, encode_all}
use Rattle.utf8.proofs.Places.{Step}
use Rattle.utf8.proofs.Texts.{encode_all_append}
use Rattle.emoji.specs.Presentation.{as_selector, is_selector}
use Rattle.emoji.specs.declared.presentation.Presentation.{Presentation}
use Rattle.policy.specs.declared.Policy.{Policy}
use Rattle.analysis.specs.Analysis.{chosen, count_cells, following, render}
use Rattle.analysis.specs.CellView.{format_cells, total_cells}
use Rattle.analysis.specs.Cells.{Cell, cells, leading}
use Rattle.analysis.specs.Counts.{◌⊕◌, total, unsanctioned}
use Rattle.analysis.specs.Rules.{outcome}
use Rattle.analysis.proofs.Cells.{split-char}
use Rattle.analysis.proofs.Replacement.{remaining-none, render_cons, renewed}
use Rattle.text_pass.specs.Changes.{Advances, IsNextChange, UnchangedBetween, formatted_from, outcome_from, selector_bytes, total_from}
use Rattle.text_pass.specs.declared.Change.{Change}

-- The bytes from i up to k are those from i up to j and those from j up to k.
pub between : (text : List ℕ) (i j k : ℕ) → i ≤ j → j ≤ k → take (k - i) (drop i text) ≡ take (j - i) (drop i text)
    ++ take (k - j) (drop j text)
between text i j k h l =
    let a : k - i ≡ (j - i) + (k - j) = omega arith in
    let b : i + (j - i) ≡ j = omega arith in
    ap (λ (n : ℕ). take n (drop i text)) a ∙ take-add (j - i) (k - j) (drop i text)
    ∙ ap (λ (l : List ℕ). take (j - i) (drop i text) ++ take (k - j) l) (drop-drop (j - i) i text ∙ ap (λ (n : ℕ). drop n text) b)

module _ {text : List ℕ} where
  pub advances_here : (i : ℕ) → Advances text i i
  advances_here i = record { on = omega arith; inside = λ h. h; valid = omega arith }

  pub advances_on : {i j k : ℕ} → Advances text i j → Advances text j k → Advances text i k
  advances_on a b =
      let l = a.on in
      let m = b.on in
      let v = a.valid in
      let w = b.valid in
      record { on = omega arith; inside = λ h. b.inside (a.inside h); valid = omega arith }

module _ {p : Policy} {text : List ℕ} where
  pub stays_here : (i : ℕ) → UnchangedBetween p text i i
  stays_here i =
      let z : i - i ≡ 0 = omega arith in
      record {
        advances = advances_here i;
        formatted = ap (λ (n : ℕ). take n (drop i text) ++ formatted_from p text i) (sym z);
        counted = refl;
      }

  pub stays_on : {i j k : ℕ} → UnchangedBetween p text i j → UnchangedBetween p text j k → UnchangedBetween p text i k
  stays_on {i} {j} {k} a b =
      let l = a.advances.on in
      let m = b.advances.on in
      record {
        advances = advances_on a.advances b.advances;
        formatted =
            a.formatted ∙ ap (λ (t : List ℕ). take (j - i) (drop i text) ++ t) b.formatted
            ∙ sym (append_assoc (take (j - i) (drop i text)) (take (k - j) (drop j text)) (formatted_from p text k))
            ∙ ap (λ (t : List ℕ). t ++ formatted_from p text k) (sym (between text i j k l m));
        counted = a.counted ∙ b.counted;
      }

  pub stays_then : {i j : ℕ} {c : Change} → UnchangedBetween p text i j → IsNextChange p text j c → IsNextChange p text i c
  stays_then {i} {j} {c} a b =
      let l = a.advances.on in
      let m = b.on in
      let n = b.moves in
      record {
        advances = advances_on a.advances b.advances;
        on = omega arith;
        after = b.after;
        moves = omega arith;
        formatted =
            a.formatted ∙ ap (λ (t : List ℕ). take (j - i) (drop i text) ++ t) b.formatted
            ∙ sym (append_assoc (take (j - i) (drop i text)) (take (c.start - j) (drop j text))
            (selector_bytes c.selector ++ formatted_from p text c.end))
            ∙ ap (λ (t : List ℕ). t ++ (selector_bytes c.selector ++ formatted_from p text c.end))
            (sym (between text i j c.start l m));
        counted = let x = a.counted in let y = b.counted in omega arith;
      }

-- ---- one character that is no selector

module _ (p : Policy) (v : ℕ) (t : List ℕ) (e : is_selector v ≡ false) where
  -- Formatting writes the character, and then the selectors that the rules leave.
  format_cons : format_cells p (v ∷ t)
      ≡ v ∷ (map as_selector (chosen (outcome p v (following (cells t)) (leading t)).slot []) ++ format_cells p t)
  unfolding format_cells renewed
  format_cons =
      let o = (outcome p v (following (cells t)) (leading t)).slot in
      render_cons p v t [] e ∙ ap (λ (ds : List Presentation). v ∷ (map as_selector (chosen o []) ++ render p (cells t) ds))
      (remaining-none o)

  -- With the character, the total has the rules' counts for its selectors; without it, the total has the number of these selectors, since
  -- selectors without a base are all counted.
  total_cons : total (total_cells p (v ∷ t)) + length (leading t) ≡ total (outcome p v (following (cells t)) (leading t)).counts + total
      (total_cells p t)
  unfolding total_cells count_cells
  total_cons =
      let a = ap (λ (a : List Presentation × List Cell). total (unsanctioned (length a.0) ⊕ count_cells p a.1)) (split-char v t e) in
      omega (arith, a)

-- The bytes of a character in the text are its encoding.
pub step_bytes_lem : {text : List ℕ} {at v w : ℕ} → Step text at v w → take ((at + w) - at) (drop at text) ≡ encode v
step_bytes_lem {text} {at} {v} {w} h =
    let n : (at + w) - at ≡ w = omega arith in
    ap (λ (n : ℕ). take n (drop at text)) n ∙ ap (take w) (sym h.bytes) ∙ take_at (encode v) (drop (at + w) text) w h.width

pub step_advances : {text : List ℕ} {at v w : ℕ} → Step text at v w → Advances text at (at + w)
step_advances h = record { on = omega arith; inside = λ _. h.room; valid = omega (arith, h.valid_up_to_on) }

module _ (p : Policy) {text : List ℕ} {at v w : ℕ} (h : Step text at v w) (e : is_selector v ≡ false) where
  pub step-formatted : formatted_from p text at ≡ encode v
      ++ (encode_all (map as_selector (chosen (outcome_from p text v (at + w)).slot [])) ++ formatted_from p text (at + w))
  unfolding encode_all
  step-formatted =
      let t = chars (drop (at + w) text) in
      ap (λ (l : List ℕ). encode_all (format_cells p l)) h.chars_on ∙ ap encode_all (format_cons p v t e)
      ∙ ap (λ (l : List ℕ). encode v ++ l)
      (encode_all_append (map as_selector (chosen (outcome_from p text v (at + w)).slot [])) (format_cells p t))

  pub step-total : total_from p text at + length (leading (chars (drop (at + w) text)))
      ≡ total (outcome_from p text v (at + w)).counts + total_from p text (at + w)
  step-total =
      let t = chars (drop (at + w) text) in
      ap (λ (l : List ℕ). total (total_cells p l) + length (leading t)) h.chars_on ∙ total_cons p v t e

  -- Formatting keeps the character if the rules leave no selector and count exactly the selectors after it.
  pub stays-char : chosen (outcome_from p text v (at + w)).slot [] ≡ [] → total (outcome_from p text v (at + w)).counts
      ≡ length (leading (chars (drop (at + w) text)))
      → UnchangedBetween p text at (at + w)
  unfolding encode_all
  stays-char s n = record {
    advances = step_advances h;
    formatted =
        step-formatted ∙ ap (λ (l : List Presentation). encode v ++ (encode_all (map as_selector l) ++ formatted_from p text (at + w))) s
        ∙ ap (λ (l : List ℕ). l ++ formatted_from p text (at + w)) (sym (step_bytes_lem h));
    counted = omega (arith, step-total);
  }
