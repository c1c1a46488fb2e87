-- Character boundaries of a well-formed text: where a byte outside 80..BF stands, and the end.
use mathlib.Core.Path.{◌≡◌, refl, ap, ap₂, sym, ◌∙◌, subst}
use mathlib.Core.Logic.{◌↔◌, ⊎_elim}
use mathlib.Core.Bool.{Bool, true, ◌&&◌}
use mathlib.Core.List.{List, [], ◌∷◌, ◌++◌}
use Prim.Native.Nat.{ℕ, zero, suc, ◌+◌, ◌-◌, ◌≤◌, ◌<◌}
use native.Mathlib.Omega.{arith}
use lib.ListN.{get_or, length, take, drop, length-append, length-drop, take-append-drop}
use lib.Seq.{drop-drop, get_or-drop, get_or-take, length-take-le, take-add, take_at, take-take}
use Rattle.base.proofs.Tests.{le_or_lt}
use Rattle.utf8.specs.Rfc3629.{WellFormed, none, chars, encode, encode_all, is_scalar, all_scalar, valid_up_to_of}
use Rattle.utf8.proofs.Encoding.{char_begins, end_empty}
use Rattle.utf8.proofs.Folds.{
  Reading,
  read_end,
  read_ill_formed,
  read_more,
  reading,
  valid_up_to-char,
  valid_up_to_end,
  valid_up_to_ill_formed,
}
use Rattle.utf8.proofs.Grammar.{encode_all_well_formed, longest_well_formed, well_formed_whole}
use Rattle.utf8.proofs.Texts.{chars-all_scalar, encode_all-chars, valid_up_to_le}
use Rattle.positions.specs.Positions.{Boundary, is_lead, leads, stretch}
use Rattle.positions.proofs.Counting.{both_well_formed, char-count, rest_well_formed, take_stretch}

-- Bytes of which none is a lead byte.
none_first : (t : List ℕ) (k : ℕ) → leads t ≡ 0 → k < length t → is_lead (get_or t k 0) ≡ 0
unfolding leads
none_first [] k e h = absurd (omega arith)
none_first (b ∷ t) zero e h = omega arith
none_first (b ∷ t) (suc k) e h = none_first t k (omega arith) (omega arith)

-- After its first byte a character has no byte outside 80..BF.
inside-tail : (s t : List ℕ) (b k : ℕ) → s ≡ b ∷ t → leads s ≡ 1 → is_lead b ≡ 1 → 0 < k → k < length s → is_lead (get_or s k 0) ≡ 0
unfolding leads
inside-tail s t b zero e o f p h = absurd (omega arith)
inside-tail s t b (suc k) e o f p h =
    ap (λ (l : List ℕ). is_lead (get_or l (suc k) 0)) e
    ∙ none_first t k (let q = ap leads e in omega arith) (let q = ap length e in omega arith)

-- What stands at a place before the end of the first of two lists.
get_or-front : (s t : List ℕ) (k : ℕ) → k < length s → get_or (s ++ t) k 0 ≡ get_or s k 0
get_or-front [] t k h = absurd (omega arith)
get_or-front (a ∷ s) t zero h = refl
get_or-front (a ∷ s) t (suc k) h = get_or-front s t k (omega arith)

char_well_formed : (v : ℕ) (s : List ℕ) → is_scalar v ≡ true → WellFormed s → WellFormed (encode v ++ s)
unfolding encode_all all_scalar
char_well_formed v s e w =
    subst WellFormed (ap (λ (l : List ℕ). encode v ++ l) (encode_all-chars s (well_formed_whole w)))
    (encode_all_well_formed (v ∷ chars s) (ap₂ (λ (x y : Bool). x && y) e (chars-all_scalar s)))

-- ---- from the byte to the boundary

first_boundary : {s : List ℕ} → Reading s → valid_up_to_of s ≡ length s → (n : ℕ) → n < length s → is_lead (get_or s n 0) ≡ 1
    → WellFormed (take n s)
first_boundary {s} (read_end e) q n h f = absurd (let p = ap length (end_empty s e) in omega arith)
first_boundary {s} (read_ill_formed e) q n h f = absurd (let p = valid_up_to_ill_formed s e in omega arith)
first_boundary {s} (read_more v w e r) q zero h f = none
first_boundary {s} (read_more v w e r) q (suc m) h f =
    let b = char_begins s v w e in
    let z = char-count v in
    let front : take w s ≡ encode v = ap (take w) (sym b.bytes) ∙ take_at (encode v) (drop w s) w b.width in
    ⊎_elim
    (λ l.
    let k = suc m - w in
    let d : w + k ≡ suc m = omega arith in
    let g : is_lead (get_or (drop w s) k 0) ≡ 1 = ap is_lead (get_or-drop w s k 0 ∙ ap (λ (i : ℕ). get_or s i 0) d) ∙ f in
    let u : valid_up_to_of (drop w s) ≡ length (drop w s) =
    omega (arith, length-drop w s, valid_up_to-char s v w e, ap length b.bytes, length-append (encode v) (drop w s), b.width) in
    let x = first_boundary r u k (omega (arith, length-drop w s)) g in
    let t : take (suc m) s ≡ encode v ++ take k (drop w s) =
    ap (λ (i : ℕ). take i s) (sym d) ∙ take-add w k s ∙ ap (λ (l : List ℕ). l ++ take k (drop w s)) front in
    subst WellFormed (sym t) (char_well_formed v (take k (drop w s)) b.is_scalar_lem x))
    (λ l.
    let i = b.width in
    let o = inside-tail (encode v) z.rest z.byte (suc m) z.bytes z.one z.begins (omega arith) (omega arith) in
    let y : is_lead (get_or s (suc m) 0) ≡ is_lead (get_or (encode v) (suc m) 0) =
    ap (λ (t : List ℕ). is_lead (get_or t (suc m) 0)) (sym b.bytes)
    ∙ ap is_lead (get_or-front (encode v) (drop w s) (suc m) (omega arith)) in
    absurd (omega (arith, o, y, f)))
    (le_or_lt w (suc m))

-- ---- from the boundary to the byte

front-first : {s : List ℕ} → Reading s → 0 < valid_up_to_of s → is_lead (get_or s 0 0) ≡ 1
front-first {s} (read_end e) h = absurd (let p = valid_up_to_end s e in omega arith)
front-first {s} (read_ill_formed e) h = absurd (let p = valid_up_to_ill_formed s e in omega arith)
front-first {s} (read_more v w e r) h =
    let b = char_begins s v w e in
    let z = char-count v in
    ap (λ (t : List ℕ). is_lead (get_or t 0 0)) (sym b.bytes ∙ ap (λ (t : List ℕ). t ++ drop w s) z.bytes) ∙ z.begins

pub boundary_means : (text : List ℕ) (n : ℕ) → WellFormed text → n < length text → Boundary text n ↔ (is_lead (get_or text n 0) ≡ 1)
boundary_means text n w h = (
  λ b.
      let r = rest_well_formed (take n text) (drop n text) b.well_formed (subst WellFormed (sym (take-append-drop n text)) w) in
      let e : n + 0 ≡ n = omega arith in
      let p : get_or (drop n text) 0 0 ≡ get_or text n 0 = get_or-drop n text 0 0 ∙ ap (λ (i : ℕ). get_or text i 0) e in
      ap is_lead (sym p) ∙ front-first (reading (drop n text)) (omega (arith, well_formed_whole r, length-drop n text)),
  λ f. record { within_text = omega arith; well_formed = first_boundary (reading text) (well_formed_whole w) n h f },
)

-- ---- a later boundary

-- The bytes between two offsets are well-formed if the longest well-formed beginning from the first on is that much longer than the one
-- from the second on: at the second a character begins, or the first such beginning ends there.
part_well_formed : (s : List ℕ) (d : ℕ) → d ≤ length s → valid_up_to_of s ≡ d + valid_up_to_of (drop d s) → WellFormed (take d s)
part_well_formed s d h e =
    ⊎_elim (λ l. subst (λ (n : ℕ). WellFormed (take n s)) (let q : valid_up_to_of s ≡ d = omega arith in q) (longest_well_formed s))
    (λ l.
    let n = valid_up_to_of s in
    let u = take n s in
    let w = longest_well_formed s in
    let m : length u ≡ n = length-take-le n s (valid_up_to_le s) in
    let q : d + 0 ≡ d = omega arith in
    let b : get_or (drop d s) 0 0 ≡ get_or u d 0 =
    get_or-drop d s 0 0 ∙ ap (λ (i : ℕ). get_or s i 0) q ∙ sym (get_or-take n s d 0 (omega arith)) in
    let f : is_lead (get_or u d 0) ≡ 1 = ap is_lead (sym b) ∙ front-first (reading (drop d s)) l in
    let x = first_boundary (reading u) (well_formed_whole w) d (omega (arith, m)) f in
    subst WellFormed (take-take d n s (omega arith)) x)
    (le_or_lt (valid_up_to_of (drop d s)) 0)

pub boundary_later : (text : List ℕ) (from to : ℕ) → Boundary text from → from ≤ to → to ≤ length text
    → valid_up_to_of (drop from text) ≡ (to - from) + valid_up_to_of (drop to text) → Boundary text to
unfolding stretch
boundary_later text from to b h l e =
    let d = to - from in
    let q : from + d ≡ to = omega arith in
    let i : drop d (drop from text) ≡ drop to text = drop-drop d from text ∙ ap (λ (k : ℕ). drop k text) q in
    let v : valid_up_to_of (drop from text) ≡ d + valid_up_to_of (drop d (drop from text)) =
    e ∙ ap (λ (s : List ℕ). d + valid_up_to_of s) (sym i) in
    record {
      within_text = l;
      well_formed =
          subst WellFormed (sym (take_stretch text from to h))
          (both_well_formed b.well_formed (part_well_formed (drop from text) d (omega (arith, length-drop from text)) v));
    }
