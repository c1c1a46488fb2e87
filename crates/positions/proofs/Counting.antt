-- The bytes outside 80..BF and from F0 on: over two lists, over an encoding, over well-formed bytes, and between two offsets.
use mathlib.Core.Path.{◌≡◌, refl, ap, ap₂, sym, ◌∙◌, subst}
use mathlib.Core.Logic.{⊎_elim}
use mathlib.Core.List.{List, [], ◌∷◌, ◌++◌}
use Prim.Native.Nat.{ℕ, ◌+◌, ◌*◌, ◌-◌, ◌/◌, ◌%◌, ◌^◌, ◌≤◌, ◌<◌, min}
use native.Mathlib.Nat.{min-eq_left, min-eq_right}
use native.Mathlib.Omega.{arith}
use native.Mathlib.Numerals.{add-one}
use lib.ListN.{get_or, drop_of_length-le, length-drop, length, take, drop, length-append, length-take}
use lib.Seq.{drop-cons, drop-drop, take-add, take_all}
use borrow.Author.Tests.{le-leb, lt-leb}
use Rattle.base.proofs.Sums.{capped-held}
use Rattle.base.proofs.Tests.{le_or_lt, within_true, within-above, within-below}
use Rattle.utf8.specs.Rfc3629.{WellFormed, none, chars, encode, encode_all}
use Rattle.utf8.proofs.Encoding.{encode_1, encode_2, encode_3, encode_4}
use Rattle.utf8.proofs.Grammar.{well_formed_whole, whole_well_formed}
use Rattle.utf8.proofs.Texts.{encode_all-chars, valid_up_to_append}
use Rattle.positions.specs.declared.TextCount.{TextCount}
use Rattle.positions.specs.Positions.{
  AtPosition,
  Boundary,
  capped_plus,
  count_between,
  counted,
  is_lead,
  is_long_lead,
  leads,
  long_leads_of,
  no_count,
  plus,
  position_at,
  stretch,
  text_count,
  units,
  utf16_units,
}

-- A count by its two numbers.
abbrev pub text_count_lem : ℕ → ℕ → TextCount
text_count_lem m n = record { chars = m; units = n }

-- ---- one byte

pub lead-below : (b : ℕ) → b < 0x80 → is_lead b ≡ 1
unfolding is_lead
lead-below b h = simp (within-below 0x80 0xBF b h)

pub lead-above : (b : ℕ) → 0xBF < b → is_lead b ≡ 1
unfolding is_lead
lead-above b h = simp (within-above 0x80 0xBF b h)

pub lead-tail : (b : ℕ) → 0x80 ≤ b → b ≤ 0xBF → is_lead b ≡ 0
unfolding is_lead
lead-tail b l h = simp (within_true 0x80 0xBF b l h)

pub long_lead_above : (b : ℕ) → 0xF0 ≤ b → is_long_lead b ≡ 1
unfolding is_long_lead
long_lead_above b h = simp (le-leb 0xF0 b h)

pub long_lead_below : (b : ℕ) → b < 0xF0 → is_long_lead b ≡ 0
unfolding is_long_lead
long_lead_below b h = simp (lt-leb 0xF0 b h)

one_unit : (c : ℕ) → c ≤ 0xFFFF → utf16_units c ≡ 1
unfolding utf16_units
one_unit c h = simp (le-leb c 0xFFFF h)

two-units : (c : ℕ) → 0xFFFF < c → utf16_units c ≡ 2
unfolding utf16_units
two-units c h = simp (lt-leb c 0xFFFF h)

pub units-positive : (c : ℕ) → 1 ≤ utf16_units c
units-positive c = ⊎_elim (λ h. let u = one_unit c h in omega arith) (λ h. let u = two-units c h in omega arith) (le_or_lt c 0xFFFF)

-- ---- lists one after the other

pub leads_append : (s t : List ℕ) → leads (s ++ t) ≡ leads s + leads t
unfolding leads
leads_append [] t = omega arith
leads_append (b ∷ s) t = let h = leads_append s t in omega arith

pub long_leads_append : (s t : List ℕ) → long_leads_of (s ++ t) ≡ long_leads_of s + long_leads_of t
unfolding long_leads_of
long_leads_append [] t = omega arith
long_leads_append (b ∷ s) t = let h = long_leads_append s t in omega arith

pub units_append : (s t : List ℕ) → units (s ++ t) ≡ units s + units t
unfolding units
units_append [] t = omega arith
units_append (b ∷ s) t = let h = units_append s t in omega arith

-- ---- bounds

byte-bounds : (b : ℕ) → (is_lead b ≤ 1) × (is_long_lead b ≤ is_lead b)
byte-bounds b =
    ⊎_elim (λ h. let p = lead-above b (omega arith) in let q = long_lead_above b h in (omega arith, omega arith))
    (λ h. let q = long_lead_below b h in
    ⊎_elim (λ l. ⊎_elim (λ u. let p = lead-tail b l u in (omega arith, omega arith))
    (λ u. let p = lead-above b u in (omega arith, omega arith)) (le_or_lt b 0xBF))
    (λ l. let p = lead-below b l in (omega arith, omega arith)) (le_or_lt 0x80 b))
    (le_or_lt 0xF0 b)

pub counts_bounded : (s : List ℕ) → (leads s ≤ length s) × (long_leads_of s ≤ leads s)
unfolding leads long_leads_of
counts_bounded [] = (omega arith, omega arith)
counts_bounded (b ∷ s) = let h = counts_bounded s in let k = byte-bounds b in (omega arith, omega arith)

-- ---- one character

-- What the bytes of a character count.
pub record CharCount (v : ℕ) (s : List ℕ) : Type 0 where
  pub one : leads s ≡ 1
  pub both : leads s + long_leads_of s ≡ utf16_units v
  pub byte : ℕ
  pub rest : List ℕ
  pub bytes : s ≡ byte ∷ rest
  pub begins : is_lead byte ≡ 1

pub char-count : (v : ℕ) → CharCount v (encode v)
unfolding leads long_leads_of
char-count v =
    ⊎_elim (λ h. subst (CharCount v) (sym (encode_1 v h)) (one_byte h))
    (λ l₁. ⊎_elim (λ h. subst (CharCount v) (sym (encode_2 v l₁ h)) (two_bytes h))
    (λ l₂. ⊎_elim (λ h. subst (CharCount v) (sym (encode_3 v l₂ h)) (three_bytes h))
    (λ l₃. subst (CharCount v) (sym (encode_4 v l₃)) (four_bytes l₃)) (le_or_lt v 0xFFFF))
    (le_or_lt v 0x7FF)) (le_or_lt v 0x7F)
  where
    one_byte : v ≤ 0x7F → CharCount v (v ∷ [])
    one_byte h =
        let f = lead-below v (omega arith) in let t = long_lead_below v (omega arith) in let u = one_unit v (omega arith) in
        record { one = omega arith; both = omega arith; byte = _; rest = _; bytes = refl; begins = f }

    two_bytes : v ≤ 0x7FF → CharCount v ((0xC0 + v / 64) ∷ (0x80 + v % 64) ∷ [])
    two_bytes h =
        let f = lead-above (0xC0 + v / 64) (omega arith) in let t = long_lead_below (0xC0 + v / 64) (omega arith) in
        let g = lead-tail (0x80 + v % 64) (omega arith) (omega arith) in let s = long_lead_below (0x80 + v % 64) (omega arith) in
        let u = one_unit v (omega arith) in
        record { one = omega arith; both = omega arith; byte = _; rest = _; bytes = refl; begins = f }

    three_bytes : v ≤ 0xFFFF → CharCount v ((0xE0 + v / 4096) ∷ (0x80 + v / 64 % 64) ∷ (0x80 + v % 64) ∷ [])
    three_bytes h =
        let f = lead-above (0xE0 + v / 4096) (omega arith) in let t = long_lead_below (0xE0 + v / 4096) (omega arith) in
        let g = lead-tail (0x80 + v / 64 % 64) (omega arith) (omega arith) in let s = long_lead_below (0x80 + v / 64 % 64) (omega arith) in
        let i = lead-tail (0x80 + v % 64) (omega arith) (omega arith) in let r = long_lead_below (0x80 + v % 64) (omega arith) in
        let u = one_unit v h in
        record { one = omega arith; both = omega arith; byte = _; rest = _; bytes = refl; begins = f }

    four_bytes : 0xFFFF < v → CharCount v ((0xF0 + v / 262144) ∷ (0x80 + v / 4096 % 64) ∷ (0x80 + v / 64 % 64) ∷ (0x80 + v % 64) ∷ [])
    four_bytes h =
        let f = lead-above (0xF0 + v / 262144) (omega arith) in let t = long_lead_above (0xF0 + v / 262144) (omega arith) in
        let e = lead-tail (0x80 + v / 4096 % 64) (omega arith) (omega arith) in
        let q = long_lead_below (0x80 + v / 4096 % 64) (omega arith) in
        let g = lead-tail (0x80 + v / 64 % 64) (omega arith) (omega arith) in let s = long_lead_below (0x80 + v / 64 % 64) (omega arith) in
        let i = lead-tail (0x80 + v % 64) (omega arith) (omega arith) in let r = long_lead_below (0x80 + v % 64) (omega arith) in
        let u = two-units v h in
        record { one = omega arith; both = omega arith; byte = _; rest = _; bytes = refl; begins = f }

-- ---- characters, and well-formed bytes

pub leads-encode_all : (vs : List ℕ) → leads (encode_all vs) ≡ length vs
unfolding encode_all leads
leads-encode_all [] = refl
leads-encode_all (v ∷ vs) =
    let h = leads-encode_all vs in let k = (char-count v).one in omega (arith, leads_append (encode v) (encode_all vs))

pub units-encode_all : (vs : List ℕ) → leads (encode_all vs) + long_leads_of (encode_all vs) ≡ units vs
unfolding encode_all leads long_leads_of units
units-encode_all [] = refl
units-encode_all (v ∷ vs) =
    let h = units-encode_all vs in let k = (char-count v).both in
    omega (arith, leads_append (encode v) (encode_all vs), long_leads_append (encode v) (encode_all vs))

pub counted-encode_all : (vs : List ℕ) → counted (encode_all vs) ≡ text_count vs
unfolding counted text_count
counted-encode_all vs = ap₂ text_count_lem (leads-encode_all vs) (units-encode_all vs)

pub counted-by_bytes : {s : List ℕ} → WellFormed s → counted s ≡ text_count (chars s)
counted-by_bytes {s} w = ap counted (sym (encode_all-chars s (well_formed_whole w))) ∙ counted-encode_all (chars s)

-- ---- between two offsets

-- The bytes before an offset, and those from there up to another.
pub take_stretch : (text : List ℕ) (from to : ℕ) → from ≤ to → take to text ≡ take from text ++ stretch text from to
unfolding stretch
take_stretch text from to h =
    let e : to ≡ from + (to - from) = omega arith in
    ap (λ (k : ℕ). take k text) e ∙ take-add from (to - from) text

stretch-two : (text : List ℕ) (from mid to : ℕ) → from ≤ mid → mid ≤ to
    → stretch text from to ≡ stretch text from mid ++ stretch text mid to
unfolding stretch
stretch-two text from mid to h k =
    ap (λ (n : ℕ). take n (drop from text)) (let e : to - from ≡ mid - from + (to - mid) = omega arith in e)
    ∙ take-add (mid - from) (to - mid) (drop from text)
    ∙ ap (λ (l : List ℕ). take (mid - from) (drop from text) ++ take (to - mid) l)
    (drop-drop (mid - from) from text ∙ ap (λ (n : ℕ). drop n text) (let e : from + (mid - from) ≡ mid = omega arith in e))

pub counted_append : (s t : List ℕ) → plus (counted s) (counted t) ≡ counted (s ++ t)
unfolding plus counted
counted_append s t =
    let p : leads s + leads t ≡ leads (s ++ t) = sym (leads_append s t) in
    let q : leads s + long_leads_of s + (leads t + long_leads_of t) ≡ leads (s ++ t) + long_leads_of (s ++ t) =
    omega (arith, leads_append s t, long_leads_append s t) in
    ap₂ text_count_lem p q

pub counts_add : (text : List ℕ) (from mid to : ℕ) → from ≤ mid → mid ≤ to
    → plus (count_between text from mid) (count_between text mid to) ≡ count_between text from to
unfolding count_between
counts_add text from mid to h k =
    counted_append (stretch text from mid) (stretch text mid to) ∙ ap counted (sym (stretch-two text from mid to h k))

-- What follows well-formed bytes in well-formed bytes is well-formed.
pub rest_well_formed : (s t : List ℕ) → WellFormed s → WellFormed (s ++ t) → WellFormed t
rest_well_formed s t a b =
    whole_well_formed t
    (let p = valid_up_to_append s t (well_formed_whole a) in let q = well_formed_whole b in omega (arith, length-append s t))

pub both_well_formed : {s t : List ℕ} → WellFormed s → WellFormed t → WellFormed (s ++ t)
both_well_formed {s} {t} f g =
    whole_well_formed (s ++ t)
    (omega (arith, valid_up_to_append s t (well_formed_whole f), well_formed_whole g, length-append s t))

module _ (text : List ℕ) (from to : ℕ) (a : Boundary text from) (b : Boundary text to) (h : from ≤ to) where
  pub between_well_formed : WellFormed (stretch text from to)
  between_well_formed =
      rest_well_formed (take from text) (stretch text from to) a.well_formed
      (subst WellFormed (take_stretch text from to h) b.well_formed)

  pub counted-between : count_between text from to ≡ text_count (chars (stretch text from to))
  unfolding count_between
  counted-between = counted-by_bytes between_well_formed

  pub positions_differ : position_at text to ≡ plus (position_at text from) (count_between text from to)
  unfolding position_at count_between
  positions_differ =
      let s = take from text in
      let t = stretch text from to in
      sym (counted-by_bytes b.well_formed) ∙ ap counted (take_stretch text from to h) ∙ sym (counted_append s t)
      ∙ ap (λ (m : TextCount). plus m (counted t)) (counted-by_bytes a.well_formed)

-- ---- from the start

pub start_boundary : (text : List ℕ) → Boundary text 0
start_boundary text = record { within_text = omega arith; well_formed = none }

pub position-counted : (text : List ℕ) (n : ℕ) → Boundary text n → position_at text n ≡ count_between text 0 n
unfolding position_at count_between stretch
position-counted text n b =
    sym (counted-by_bytes b.well_formed) ∙ ap (λ (k : ℕ). counted (take k text)) (let e : n ≡ n - 0 = omega arith in e)

pub position-start : (text : List ℕ) → position_at text 0 ≡ no_count
unfolding count_between stretch counted leads long_leads_of
position-start text = position-counted text 0 (start_boundary text)

-- ---- the position of a boundary in memory

pub at_start : (text : List ℕ) → length text < 2 ^ 63 → AtPosition text 0 no_count
at_start text few = record { few = few; boundary = start_boundary text; position = sym (position-start text) }

-- ---- a stretch in its cases

pub stretch-empty : (text : List ℕ) (from to : ℕ) → to ≤ from → stretch text from to ≡ []
unfolding stretch
stretch-empty text from to h = ap (λ (n : ℕ). take n (drop from text)) (let e : to - from ≡ 0 = omega arith in e)

-- A stretch that ends after the text ends where the text does.
pub stretch_cut : (text : List ℕ) (from to : ℕ) → length text ≤ to → stretch text from to ≡ take (length text - from) (drop from text)
unfolding stretch
stretch_cut text from to h =
    take_all (to - from) (drop from text) (omega (arith, length-drop from text))
    ∙ sym (take_all (length text - from) (drop from text) (omega (arith, length-drop from text)))

pub stretch_within : (text : List ℕ) (from to : ℕ) → stretch text from (min to (length text)) ≡ stretch text from to
unfolding stretch
stretch_within text from to =
    ⊎_elim (λ (l : length text ≤ to). ap (stretch text from) (min-eq_right l) ∙ sym (stretch_cut text from to l))
    (λ (l : to < length text). ap (stretch text from) (min-eq_left (omega arith)))
    (le_or_lt (length text) to)

pub none-counted : counted [] ≡ no_count
unfolding counted leads long_leads_of
none-counted = refl

-- ---- a step of the loop

pub leads-step : (s : List ℕ) (i : ℕ) → i < length s → leads (drop i s) ≡ is_lead (get_or s i 0) + leads (drop (i + 1) s)
unfolding leads
leads-step s i h = ap leads (drop-cons s i 0 h) ∙ ap (λ (n : ℕ). is_lead (get_or s i 0) + leads (drop n s)) (sym (add-one i))

pub long_leads-step : (s : List ℕ) (i : ℕ) → i < length s →
    long_leads_of (drop i s) ≡ is_long_lead (get_or s i 0) + long_leads_of (drop (i + 1) s)
unfolding long_leads_of
long_leads-step s i h =
    ap long_leads_of (drop-cons s i 0 h) ∙ ap (λ (n : ℕ). is_long_lead (get_or s i 0) + long_leads_of (drop n s)) (sym (add-one i))

pub leads_end : (s : List ℕ) (i : ℕ) → length s ≤ i → leads (drop i s) ≡ 0
unfolding leads
leads_end s i h = ap leads (drop_of_length-le s h)

pub long_leads_end : (s : List ℕ) (i : ℕ) → length s ≤ i → long_leads_of (drop i s) ≡ 0
unfolding long_leads_of
long_leads_end s i h = ap long_leads_of (drop_of_length-le s h)

pub counted_is : (s : List ℕ) (f t : ℕ) → f ≡ leads s → t ≡ long_leads_of s → text_count_lem f (f + t) ≡ counted s
unfolding counted
counted_is s f t p q = ap₂ (λ (m n : ℕ). text_count_lem m (m + n)) p q

-- ---- sums as the code holds them

-- The numbers of a position are at most the text's bytes, and twice that.
pub position_bounded : (text : List ℕ) (n : ℕ) → Boundary text n
    → ((position_at text n).chars ≤ length text) × ((position_at text n).units ≤ 2 * length text)
unfolding position_at counted
position_bounded text n b =
    let p = counts_bounded (take n text) in
    let e = counted-by_bytes b.well_formed in
    let l = length-take n text in
    (omega (arith, p, l, ap (λ (m : TextCount). m.chars) e), omega (arith, p, l, ap (λ (m : TextCount). m.units) e))

pub counts_add_up : (text : List ℕ) (from to : ℕ) → length text < 2 ^ 63 → Boundary text from → Boundary text to → from ≤ to
    → capped_plus (position_at text from) (count_between text from to) ≡ position_at text to
unfolding capped_plus plus
counts_add_up text from to l a b h =
    let d = positions_differ text from to a b h in
    let p = position_bounded text to b in
    let m = count_between text from to in
    let x : (position_at text to).chars ≡ (position_at text from).chars + m.chars = ap (λ (q : TextCount). q.chars) d in
    let y : (position_at text to).units ≡ (position_at text from).units + m.units = ap (λ (q : TextCount). q.units) d in
    ap₂ text_count_lem (capped-held ((position_at text from).chars + m.chars) (omega arith) ∙ sym x)
    (capped-held ((position_at text from).units + m.units) (omega arith) ∙ sym y)

-- The position of a later boundary, as the code holds it.
pub at_position_on : {text : List ℕ} {from to : ℕ} {count : TextCount} → AtPosition text from count → Boundary text to → from ≤ to
    → AtPosition text to (capped_plus count (count_between text from to))
at_position_on {text} {from} {to} a b h = record {
  few = a.few;
  boundary = b;
  position =
      ap (λ (c : TextCount). capped_plus c (count_between text from to)) a.position
      ∙ counts_add_up text from to a.few a.boundary b h;
}
