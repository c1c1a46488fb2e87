-- The last character of a part of a text, and the last base with its selectors.
use Rattle.std.specs.Prelude.{Some, None, Option}
use mathlib.Core.Path.{◌≡◌, refl, ap, sym, ◌∙◌, subst}
use mathlib.Core.Logic.{⊎_elim}
use mathlib.Core.Bool.{true, false}
use mathlib.Core.List.{List, [], ◌∷◌, ◌++◌, append_assoc, append-nil, map}
use Prim.Native.Nat.{ℕ, ◌+◌, ◌*◌, ◌/◌, ◌-◌, ◌<◌, ◌≤◌}
use native.Mathlib.Omega.{arith}
use lib.ListN.{drop, length, length-append}
use Rattle.base.proofs.Tests.{le_or_lt}
use Rattle.utf8.specs.Rfc3629.{char_len, chars, encode, encode_all, packed, read_char, valid_up_to_of}
use Rattle.utf8.specs.declared.ReadChar.TheVariants.{Char}
use Rattle.utf8.proofs.Encoding.{char_begins, encode-few}
use Rattle.utf8.proofs.Folds.{Reading, chars_end, chars_ill_formed, read_end, read_ill_formed, read_more, reading}
use Rattle.utf8.proofs.Packed.{len_reads}
use Rattle.utf8.proofs.Places.{Step, step}
use Rattle.utf8.proofs.Texts.{encode_all_append, length_encode_all_chars}
use Rattle.emoji.specs.Presentation.{as_selector}
use Rattle.emoji.specs.Unicode.{has_variation_sequence}
use Rattle.emoji.specs.declared.presentation.Presentation.{Presentation}
use Rattle.scanner.specs.SelectorRun.{first_selector}
use Rattle.scanner.proofs.Bytes.{chars-from, chars_inside, size-chars, size-width}
use Rattle.scanner.proofs.SelectorBytes.{selector_here}
use Rattle.scanner.proofs.SelectorChars.{from_selector_lem, other_value}
use Rattle.analysis.specs.Rules.{first_asked}
use Rattle.feeding.specs.Parts.{BaseFrom, Between, LastChar, TailFrom, none_held, one_held}
use Rattle.feeding.specs.declared.tail.HeldTail.{HeldTail}

-- ---- the last element of a list

data Last : List ℕ → Type 0 where
  none : Last []
  last : (us : List ℕ) (v : ℕ) → Last (us ++ (v ∷ []))

last_of : (vs : List ℕ) → Last vs
last_of [] = none
last_of (v ∷ vs) = go (last_of vs)
  where
    go : {vs : List ℕ} → Last vs → Last (v ∷ vs)
    go none = last [] v
    go (last us u) = last (v ∷ us) u

-- ---- the character at an offset

-- If v is the first of the characters from an offset on, it stands there.
pub first_read : (text : List ℕ) (at v : ℕ) (vs : List ℕ) → chars (drop at text) ≡ v ∷ vs → read_char (drop at text) ≡ Char v (length
    (encode v))
first_read text at v vs e = go (reading (drop at text))
  where
    empty : chars (drop at text) ≡ [] → read_char (drop at text) ≡ Char v (length (encode v))
    empty n = let z = ap length (sym e ∙ n) in absurd (omega arith)

    go : Reading (drop at text) → read_char (drop at text) ≡ Char v (length (encode v))
    go (read_end f) = empty (chars_end (drop at text) f)
    go (read_ill_formed f) = empty (chars_ill_formed (drop at text) f)
    go (read_more u w f r) =
        let s = step text at u w f in
        let p : u ∷ chars (drop (at + w) text) ≡ v ∷ vs = sym s.chars_on ∙ e in
        let q : u ≡ v = cc in
        f ∙ ap (Char u) (sym s.width) ∙ ap (λ (n : ℕ). Char n (length (encode n))) q

-- ---- the last character

module _ {text : List ℕ} {from to : ℕ} (b : Between text from to) where
  last_in : {vs : List ℕ} → Last vs → b.passed ≡ vs → from < to → (start : ℕ) × LastChar text from to start
  unfolding encode_all
  last_in none e h = absurd (omega (arith, b.to_is, ap (λ (l : List ℕ). length (encode_all l)) e))
  last_in (last us v) e h =
      let start : ℕ = from + length (encode_all us) in
      let a = chars (drop to text) in
      let whole : chars (drop from text) ≡ us ++ (v ∷ a) = b.chars_are ∙ ap (λ (l : List ℕ). l ++ a) e ∙ append_assoc us (v ∷ []) a in
      let there : chars (drop start text) ≡ v ∷ a =
      ap (λ (n : ℕ). chars (drop (from + n) text)) (sym (size-width us)) ∙ chars-from text from us (v ∷ a) whole in
      let read = first_read text start v a there in
      let ends : to ≡ start + length (encode v) =
      omega (
        arith,
        b.to_is,
        ap (λ (l : List ℕ). length (encode_all l)) e,
        ap length (encode_all_append us (v ∷ [])),
        length-append
            (encode_all us) (encode_all (v ∷ [])),
        length-append (encode v) [],
      ) in
      let wide : length (encode v) ≡ to - start = omega arith in (
        start,
        record {
          value = v;
          before = omega (arith, encode-few v);
          reads = read ∙ ap (Char v) wide;
          passed = record { passed = us; chars_are = whole ∙ ap (λ (l : List ℕ). us ++ l) (sym there); to_is = refl };
        },
      )

  pub has_last : from < to → (start : ℕ) × LastChar text from to start
  has_last h = last_in (last_of b.passed) refl h

-- A character that begins at most as many bytes before the end as the last character is the last character.
module _ {text : List ℕ} {from to start : ℕ} (l : LastChar text from to start) where
  pub last-few : (1 ≤ to - start) × (to - start ≤ 4)
  last-few = let s = step text start l.value (to - start) l.reads in (s.some, s.few)

  -- The width of the last character is not less than a width at which none of that width begins.
  pub wider : (w n : ℕ) → n ≡ char_len (read_char (drop (to - w) text)) → (n ≡ w → ⊥) → w ≤ to - start → w + 1 ≤ to - start
  unfolding char_len
  wider w n e d h =
      ⊎_elim
      (λ g.
      let same : start ≡ to - w = omega (arith, l.before) in
      let z : n ≡ to - start = e ∙ ap (λ (k : ℕ). char_len (read_char (drop k text))) (sym same) ∙ ap char_len l.reads in
      absurd (d (omega arith)))
      (λ g. omega arith)
      (le_or_lt (to - start) w)

  pub found-last : (w n : ℕ) → n ≡ char_len (read_char (drop (to - w) text)) → n ≡ w → 1 ≤ w → w ≤ to - start
      → LastChar text from to (to - w)
  found-last w n e d m h =
      ⊎_elim
      (λ g. let same : start ≡ to - w = omega (arith, l.before) in subst (LastChar text from to) same l)
      (λ g.
      let k : ℕ = (to - start) - w in
      let none = chars_inside text start l.value (to - start) k l.reads (omega arith) (omega arith) in
      let same : start + k ≡ to - w = omega (arith, l.before) in
      let r = len_reads (drop (to - w) text) n e (omega arith) in
      let s = step text (to - w) r.value n r.reads in
      let z = ap length (sym s.chars_on ∙ ap (λ (j : ℕ). chars (drop j text)) (sym same) ∙ none) in
      absurd (omega arith))
      (le_or_lt (to - start) w)

-- The loop that looks for the last character: its width is not less than `width`.
pub record Widening (text : List ℕ) (from to width : ℕ) : Type 0 where
  pub start : ℕ
  pub last_there : LastChar text from to start
  pub some : 1 ≤ width
  pub few : width ≤ to - start

pub widening_begin : {text : List ℕ} {from to : ℕ} → from < to → Between text from to → Widening text from to 1
widening_begin h b =
    let l = has_last b h in
    record { start = l.0; last_there = l.1; some = omega arith; few = (last-few l.1).0 }

module _ {text : List ℕ} {from to w : ℕ} (g : Widening text from to w) where
  pub widening_fits : (w ≤ to) × (w ≤ 4)
  widening_fits = let f = last-few g.last_there in let b = g.last_there.before in let k = g.few in (omega arith, omega (arith, f.1))

  pub widening_on : (n : ℕ) → n ≡ char_len (read_char (drop (to - w) text)) → (n ≡ w → ⊥) → Widening text from to (w + 1)
  widening_on n e d = record {
    start = g.start;
    last_there = g.last_there;
    some = omega arith;
    few = wider g.last_there w n e d g.few;
  }

  pub widening_done : (n : ℕ) → n ≡ char_len (read_char (drop (to - w) text)) → n ≡ w → LastChar text from to (to - w)
  widening_done n e d = found-last g.last_there w n e d g.some g.few

-- ---- going back over selectors

-- From the offset `at` on there are only selectors, up to the offset `to`.
pub record Backing (text : List ℕ) (from to at : ℕ) : Type 0 where
  pub selectors : List Presentation
  pub passed : Between text from at
  pub after : chars (drop at text) ≡ map as_selector selectors
  pub ends : to ≡ at + 3 * length selectors
  pub more : from < at

-- The characters from an offset on end where no character begins.
pub valid_between : (text : List ℕ) (from to : ℕ) → to ≡ from + valid_up_to_of (drop from text) → Between text from to × (chars
    (drop to text) ≡ [])
valid_between text from to e =
    let vs = chars (drop from text) in
    let none : chars (drop to text) ≡ [] =
    ap (λ (n : ℕ). chars (drop n text)) (e ∙ ap (λ (n : ℕ). from + n) (sym (size-chars (drop from text))))
    ∙ chars-from text from vs [] (sym (append-nil vs)) in (
      record {
        passed = vs;
        chars_are = sym (append-nil vs) ∙ ap (λ (l : List ℕ). vs ++ l) (sym none);
        to_is = e ∙ ap (λ (n : ℕ). from + n) (sym (length_encode_all_chars (drop from text)));
      },
      none,
    )

pub backing_begin : {text : List ℕ} {from to : ℕ} → from < to → to ≡ from + valid_up_to_of (drop from text) → Backing text from to to
backing_begin {text} {from} {to} h e =
    let b = valid_between text from to e in
    record { selectors = []; passed = b.0; after = b.1; ends = omega arith; more = h }

abbrev front_at : List ℕ → ℕ → Option Presentation
front_at text at = first_selector (chars (drop at text))

between-on : {text : List ℕ} {i j : ℕ} → Between text i j → i ≤ j
between-on b = omega (arith, b.to_is)

module _ {text : List ℕ} {from to at start : ℕ} (g : Backing text from to at) (l : LastChar text from at start) where
  here : Step text start l.value (at - start)
  here = step text start l.value (at - start) l.reads

  there : start + (at - start) ≡ at
  there = let b = l.before in omega arith

  -- What is read is the last character.
  chars-here : chars (drop start text) ≡ l.value ∷ chars (drop at text)
  chars-here = here.chars_on ∙ ap (λ (n : ℕ). l.value ∷ chars (drop n text)) there

  pub backing_on : {q : Presentation} → front_at text from ≡ None → front_at text start ≡ Some q → Backing text from to start
  backing_on {q} first e =
      let s = (selector_here text start q e).read in
      let p : l.value ∷ chars (drop at text) ≡ as_selector q ∷ chars (drop (start + 3) text) = sym chars-here ∙ s.chars_on in
      let v : l.value ≡ as_selector q = cc in
      let w : at - start ≡ 3 = sym here.width ∙ ap (λ (c : ℕ). length (encode c)) v ∙ s.width in
      record {
        selectors = q ∷ g.selectors;
        passed = l.passed;
        after = chars-here ∙ ap (λ (c : ℕ). c ∷ chars (drop at text)) v ∙ ap (λ (t : List ℕ). as_selector q ∷ t) g.after;
        ends = omega (arith, g.ends, l.before);
        more = ⊎_elim
            (λ h. let z : start ≡ from = omega (arith, between-on l.passed) in absurd (differ (sym e ∙ ap (front_at text) z ∙ first)))
            (λ h. h) (le_or_lt start from);
      }
    where
      differ : {q : Presentation} → Some q ≡ None → ⊥
      differ f = let n : ◌≡◌ {A = ℕ} 0 1 = cc in omega arith

  pub backing_base : front_at text start ≡ None → BaseFrom text from to start
  unfolding first_selector
  backing_base e = record {
    value = l.value;
    width = at - start;
    selectors = g.selectors;
    passed = l.passed;
    reads = l.reads;
    after = ap (λ (n : ℕ). chars (drop n text)) there ∙ g.after;
    ends = omega (arith, g.ends, there);
    no_selector = other_value l.value (sym (ap first_selector chars-here) ∙ e);
  }

-- The first selector, and the number of selectors.
pub first_selector_lem : {text : List ℕ} {from to at : ℕ} (g : Backing text from to at) → front_at text at ≡ first_asked g.selectors
unfolding first_selector first_asked
first_selector_lem {text} {from} {to} {at} g = ap first_selector g.after ∙ go g.selectors
  where
    go : (qs : List Presentation) → first_selector (map as_selector qs) ≡ first_asked qs
    go [] = refl
    go (q ∷ qs) = from_selector_lem q

-- The value of the character that was read as one number.
pub packed_value : (t : List ℕ) (v w n : ℕ) → read_char t ≡ Char v w → n ≡ packed (read_char t) → n / 8 ≡ v
unfolding packed
packed_value t v w n e p =
    let f = char_begins t v w e in
    let q : n ≡ 8 * v + w = p ∙ ap packed e in
    let few = f.few in
    omega arith

-- What is found, by what was read at the last character that is no selector.
module _ {text : List ℕ} {from to at start n : ℕ} (g : Backing text from to at) (l : LastChar text from at start)
    (e : front_at text start ≡ None) (d : n ≡ packed (read_char (drop start text))) where
  value_is : n / 8 ≡ l.value
  value_is = packed_value (drop start text) l.value (at - start) n l.reads d

  pub tail-held : {r : HeldTail} → has_variation_sequence (n / 8) ≡ true
      → r ≡ record { start = start; held = record { base = n / 8; first = front_at text at; count = (to - at) / 3 } }
      → TailFrom text from to r
  unfolding backing_base
  tail-held {r} v q =
      let b = backing_base g l e in
      let count : (to - at) / 3 ≡ length g.selectors = omega (arith, g.ends) in
      subst (TailFrom text from to) (sym q)
      (one_held b (ap has_variation_sequence (sym value_is) ∙ v)
      (λ i. record { base = value_is i; first = first_selector_lem g i; count = count i }))

  pub tail_none : {r : HeldTail} → has_variation_sequence (n / 8) ≡ false
      → r ≡ record { start = to; held = record { base = 0; first = None; count = 0 } }
      → TailFrom text from to r
  unfolding backing_base
  tail_none {r} v q =
      subst (TailFrom text from to) (sym q) (none_held (backing_base g l e) (ap has_variation_sequence (sym value_is) ∙ v) refl refl)
