-- The repaired text is the only text that `Repairs` gives, and laws that follow from `Repairs` alone.
use mathlib.Core.Path.{◌≡◌, refl, sym, ap, ap₂, ◌∙◌, subst}
use mathlib.Core.Bool.{Bool, true, ◌&&◌}
use mathlib.Core.List.{List, [], ◌∷◌, ◌++◌}
use Prim.Native.Nat.{ℕ, zero, suc, ◌*◌, ◌≤◌}
use native.Mathlib.Omega.{arith}
use lib.ListN.{drop, length, length-append, replicate, take, take-append-drop}
use lib.Seq.{drop-append_seam, length-take-le}
use Rattle.utf8.specs.Rfc3629.{
  WellFormed,
  more,
  none,
  all_scalar,
  begun_2,
  begun_3,
  chars,
  encode,
  is_scalar,
  read_char,
  read_four,
  subpart,
  utf8_1,
  utf8_2,
  utf8_3,
  utf8_4,
  utf8_char,
}
use Rattle.utf8.proofs.Decoding.{utf8_char_encode}
use Rattle.utf8.proofs.Encoding.{char_begins, end_empty}
use Rattle.utf8.proofs.Fronts.{read_char_nil}
use Rattle.utf8.proofs.Texts.{chars-encode_all-alone}
use Rattle.repair.specs.Repaired.{Repairs, a_char, a_stretch, nothing_left, repaired, repaired_chars, replacement_bytes, replacements}
use Rattle.utf8.specs.Subparts.{MaximalSubpart}
use Rattle.utf8.specs.declared.ReadChar.TheVariants.{IllFormed}
use Rattle.repair.proofs.Places.{
  Places,
  at_bad,
  at_char,
  at_end,
  chars_of-bad,
  chars_of-char,
  chars_of_end,
  places,
  repaired-bad,
  repaired-char,
  repaired_end,
  replacements-bad,
  replacements-char,
  replacements_end,
}
use Rattle.utf8.proofs.Subparts.{bad-maximal, maximal-reads}
use Rattle.utf8.proofs.Unfinished.{grammar_read}

-- The same for equal texts and numbers.
repairs_as : {s s' t t' : List ℕ} {k k' : ℕ} → s ≡ s' → t ≡ t' → k ≡ k' → Repairs s t k → Repairs s' t' k'
repairs_as {s} {s'} {t} {t'} {k} {k'} p q e r =
    subst (λ (x : List ℕ). Repairs x t' k') p (subst (λ (x : List ℕ). Repairs s x k') q (subst (λ (n : ℕ). Repairs s t n) e r))

-- ---- the stretches tile the text

from_places : {s : List ℕ} → Places s → Repairs s (repaired s) (replacements s)
from_places {s} (at_end e) = repairs_as (sym (end_empty s e)) (sym (repaired_end s e)) (sym (replacements_end s e)) nothing_left
from_places {s} (at_char v w e p) =
    let b = char_begins s v w e in
    repairs_as b.bytes (sym (repaired-char s v w e)) (sym (replacements-char s v w e))
    (a_char (encode v) (utf8_char_encode v b.is_scalar_lem) (from_places p))
from_places {s} (at_bad n e p) =
    let m = bad-maximal s n e in
    let j = take-append-drop n s in
    let x = subst (λ (l : List ℕ). MaximalSubpart l n) (sym j) m in
    let y = subst (λ (k : ℕ). MaximalSubpart (take n s ++ drop n s) k) (sym (length-take-le n s m.inside)) x in
    repairs_as j (sym (repaired-bad s n e)) (sym (replacements-bad s n e)) (a_stretch (take n s) y (from_places p))

pub stretches : (s : List ℕ) → Repairs s (repaired s) (replacements s)
stretches s = from_places (places s)

-- ---- no other text and no other number

-- Every text and number that `Repairs` gives are the repaired text and the number of replacements.
pub record Is (s t : List ℕ) (k : ℕ) : Type 0 where
  pub text : t ≡ repaired s
  pub number : k ≡ replacements s

pub only : {s t : List ℕ} {k : ℕ} → Repairs s t k → Is s t k
only nothing_left = record { text = sym (repaired_end [] read_char_nil); number = sym (replacements_end [] read_char_nil) }
only (a_char {s} {t} {k} bs e r) =
    let ih = only r in
    let g = grammar_read bs s e in
    let p = g.read in
    let d = drop-append_seam bs s in
    record {
      text =
          ap (λ (l : List ℕ). bs ++ l) ih.text
          ∙ ap₂ (λ (x y : List ℕ). x ++ repaired y) (sym g.bytes) (sym d)
          ∙ sym (repaired-char (bs ++ s) g.value (length bs) p);
      number = ih.number ∙ ap replacements (sym d) ∙ sym (replacements-char (bs ++ s) g.value (length bs) p);
    }
only (a_stretch {s} {t} {k} bs m r) =
    let ih = only r in
    let p = maximal-reads (bs ++ s) (length bs) m in
    let d = drop-append_seam bs s in
    record {
      text = ap (λ (l : List ℕ). replacement_bytes ++ l) (ih.text ∙ ap repaired (sym d)) ∙ sym (repaired-bad (bs ++ s) (length bs) p);
      number = ap suc (ih.number ∙ ap replacements (sym d)) ∙ sym (replacements-bad (bs ++ s) (length bs) p);
    }

-- ---- laws that follow from `Repairs`

pub result_well_formed : {s t : List ℕ} {k : ℕ} → Repairs s t k → WellFormed t
unfolding utf8_char utf8_3
result_well_formed nothing_left = none
result_well_formed (a_char {t = t} bs e r) = more bs t e (result_well_formed r)
result_well_formed (a_stretch {t = t} bs m r) = more replacement_bytes t refl (result_well_formed r)

well_formed_stays : {s : List ℕ} → WellFormed s → Repairs s s 0
well_formed_stays none = nothing_left
well_formed_stays (more bs s e w) = a_char bs e (well_formed_stays w)

pub well_formed_is : {s : List ℕ} → WellFormed s → Is s s 0
well_formed_is w = only (well_formed_stays w)

pub none-bad : {s t : List ℕ} {k : ℕ} → Repairs s t k → k ≡ 0 → WellFormed s
none-bad nothing_left e = none
none-bad (a_char {s} bs c r) e = more bs s c (none-bad r e)
none-bad (a_stretch bs m r) e = absurd (omega arith)

pub times : {s t : List ℕ} {k : ℕ} → Repairs s t k → (length t ≤ 3 * length s) × (k ≤ length s)
times nothing_left = (omega arith, omega arith)
times (a_char {s} {t} {k} bs e r) = let h = times r in omega (arith, length-append bs s, length-append bs t)
times (a_stretch {s} {t} {k} bs m r) = let h = times r in let o = m.some in omega (arith, length-append bs s)

-- ---- the characters of the repaired text

scalars : {s : List ℕ} → Places s → all_scalar (repaired_chars s) ≡ true
unfolding all_scalar is_scalar
scalars {s} (at_end e) = ap all_scalar (chars_of_end s e)
scalars {s} (at_char v w e p) =
    ap all_scalar (chars_of-char s v w e) ∙ ap₂ (λ (x y : Bool). x && y) (char_begins s v w e).is_scalar_lem (scalars p)
scalars {s} (at_bad n e p) = ap all_scalar (chars_of-bad s n e) ∙ scalars p

pub result-chars : (s : List ℕ) → chars (repaired s) ≡ repaired_chars s
unfolding repaired
result-chars s = chars-encode_all-alone (repaired_chars s) (scalars (places s))

-- ---- a text whose repaired text has three times its bytes

FF_bad : (s : List ℕ) → read_char (0xFF ∷ s) ≡ IllFormed 1
unfolding read_char read_four utf8_1 utf8_2 utf8_3 utf8_4 subpart begun_2 begun_3
FF_bad s = refl

pub reached : (n : ℕ) → (length (repaired (replicate n 0xFF)) ≡ 3 * n) × (replacements (replicate n 0xFF) ≡ n)
reached zero = (ap length (repaired_end [] read_char_nil), replacements_end [] read_char_nil)
reached (suc n) =
    let ih = reached n in
    let s : List ℕ = replicate n 0xFF in
    let p = ap length (repaired-bad (0xFF ∷ s) 1 (FF_bad s)) in
    let q = replacements-bad (0xFF ∷ s) 1 (FF_bad s) in
    (omega arith, q ∙ ap suc ih.1)
