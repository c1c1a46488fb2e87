-- The selectors at an offset by their bytes, EF B8 8E and EF B8 8F.
use Rattle.std.specs.Prelude.{Some, None, Option}
use mathlib.Core.Path.{◌≡◌, refl, ap, sym, ◌∙◌, subst}
use mathlib.Core.List.{List, [], ◌∷◌, ◌++◌}
use Prim.Native.Nat.{ℕ, ◌+◌}
use native.Mathlib.Omega.{arith}
use lib.ListN.{drop, get_or}
use Rattle.utf8.specs.Rfc3629.{chars, encode, read_char, read_four, utf8_1, utf8_2, utf8_3}
use Rattle.utf8.specs.declared.ReadChar.TheVariants.{Char}
use Rattle.utf8.proofs.Places.{Step, step}
use Rattle.utf8.proofs.Folds.{Reading, chars_end, chars_ill_formed, read_end, read_ill_formed, read_more, reading}
use Rattle.emoji.specs.Presentation.{as_selector, from_selector, is_selector}
use Rattle.emoji.specs.declared.presentation.Presentation.{Presentation}
use Rattle.emoji.specs.declared.presentation.Presentation.TheVariants.{Emoji, Text}
use Rattle.scanner.specs.Runs.{run, selectors_at}
use Rattle.scanner.specs.SelectorRun.{first_selector}
use Rattle.scanner.specs.Spans.{size, width}
use Rattle.scanner.proofs.Runs.{run_false, run_true}
use Rattle.scanner.proofs.SelectorChars.{from_selector_lem, other_value, selector_is, selector_value, width_selector}

-- The last byte of a selector.
abbrev pub last_byte : Presentation → ℕ
last_byte Text = 0x8E
last_byte Emoji = 0x8F

read_bytes : (s : List ℕ) (q : Presentation) → get_or s 0 0 ≡ 0xEF → get_or s 1 0 ≡ 0xB8 → get_or s 2 0 ≡ last_byte q → read_char s
    ≡ Char (as_selector q) 3
unfolding read_char read_four utf8_1 utf8_2 utf8_3 as_selector
read_bytes [] q a b c = absurd (omega arith)
read_bytes (x ∷ s) q a b c = (λ i. read_four (a i) (b i) (c i) (get_or s 2 0)) ∙ go q
  where
    go : (q : Presentation) → read_four 0xEF 0xB8 (last_byte q) (get_or s 2 0) ≡ Char (as_selector q) 3
    go Text = refl
    go Emoji = refl

-- ---- whether a selector stands at an offset

pub record SelectorAt (text : List ℕ) (at : ℕ) (q : Presentation) : Type 0 where
  pub read : Step text at (as_selector q) 3
  pub runs_on : size width (selectors_at (chars (drop at text))) ≡ 3 + size width (selectors_at (chars (drop (at + 3) text)))

module _ (text : List ℕ) (at : ℕ) where
  abbrev Front : Option Presentation
  Front = first_selector (chars (drop at text))

  front_read : {v w : ℕ} → Step text at v w → Front ≡ from_selector v
  unfolding first_selector
  front_read h = ap first_selector h.chars_on

  front_selector : {v w : ℕ} → Step text at v w → (q : Presentation) → Front ≡ Some q → SelectorAt text at q
  unfolding width
  front_selector {v} {w} h q e =
      let i : Step text at (as_selector q) w = subst (λ (x : ℕ). Step text at x w) (selector_value v q (sym (front_read h) ∙ e)) h in
      let j : Step text at (as_selector q) 3 = subst (Step text at (as_selector q)) (sym i.width ∙ width_selector q) i in
      record {
        read = j;
        runs_on = ap (size width) (ap selectors_at j.chars_on ∙ run_true is_selector (as_selector q) (chars (drop (at + 3) text))
            (selector_is q)) ∙ omega (arith, width_selector q);
      }

  -- If the first character selects q, a selector for q stands there.
  pub selector_here : (q : Presentation) → Front ≡ Some q → SelectorAt text at q
  unfolding first_selector
  selector_here q e = go (reading (drop at text))
    where
      none : chars (drop at text) ≡ [] → SelectorAt text at q
      none f = let z : Front ≡ None = ap first_selector f in let n : ◌≡◌ {A = ℕ} 0 1 = cc in absurd (omega arith)

      go : Reading (drop at text) → SelectorAt text at q
      go (read_end f) = none (chars_end (drop at text) f)
      go (read_ill_formed f) = none (chars_ill_formed (drop at text) f)
      go (read_more v w f r) = front_selector (step text at v w f) q e

  -- A selector has these three bytes.
  pub selector_bytes_lem : (q : Presentation) → Front ≡ Some q
      → (get_or (drop at text) 0 0 ≡ 0xEF) × (get_or (drop at text) 1 0 ≡ 0xB8) × (get_or (drop at text) 2 0 ≡ last_byte q)
  unfolding encode as_selector
  selector_bytes_lem q e = go q (selector_here q e).read.bytes
    where
      go : (q : Presentation) → encode (as_selector q) ++ drop (at + 3) text ≡ drop at text
          → (get_or (drop at text) 0 0 ≡ 0xEF) × (get_or (drop at text) 1 0 ≡ 0xB8) × (get_or (drop at text) 2 0 ≡ last_byte q)
      go Text b = (
        ap (λ (l : List ℕ). get_or l 0 0) (sym b),
        ap (λ (l : List ℕ). get_or l 1 0) (sym b),
        ap (λ (l : List ℕ). get_or l 2 0)
            (sym b),
      )
      go Emoji b = (
        ap (λ (l : List ℕ). get_or l 0 0) (sym b),
        ap (λ (l : List ℕ). get_or l 1 0) (sym b),
        ap (λ (l : List ℕ). get_or l 2 0)
            (sym b),
      )

  -- Only a selector has these three bytes.
  pub selector_read : (q : Presentation) → get_or (drop at text) 0 0 ≡ 0xEF → get_or (drop at text) 1 0 ≡ 0xB8 → get_or (drop at text) 2 0
      ≡ last_byte q → Some q ≡ Front
  selector_read q a b c = sym (front_read (step text at (as_selector q) 3 (read_bytes (drop at text) q a b c)) ∙ from_selector_lem q)

  -- If a test fails that the bytes of every selector pass, no selector stands there.
  pub no_selector_read : ((q : Presentation) → Front ≡ Some q → ⊥) → None ≡ Front
  no_selector_read never = go Front refl
    where
      go : (f : Option Presentation) → Front ≡ f → None ≡ f
      go None e = refl
      go (Some q) e = absurd (never q e)

  pub no_last : (b : ℕ) → b ≡ get_or (drop at text) 2 0 → (b ≡ 0x8E → ⊥) → (b ≡ 0x8F → ⊥) → None ≡ Front
  no_last b e no_text no_emoji = no_selector_read (λ q f. go q (e ∙ (selector_bytes_lem q f).2))
    where
      go : (q : Presentation) → b ≡ last_byte q → ⊥
      go Text = no_text
      go Emoji = no_emoji

  -- Where no selector stands, the run of selectors is empty.
  pub no_more : Front ≡ None → size width (selectors_at (chars (drop at text))) ≡ 0
  unfolding first_selector run
  no_more e = go (chars (drop at text)) e
    where
      go : (t : List ℕ) → first_selector t ≡ None → size width (selectors_at t) ≡ 0
      go [] f = refl
      go (c ∷ t) f = ap (size width) (run_false is_selector c t (other_value c f))
