-- Whole texts: their characters, the encoding of these, the longest well-formed prefix, and two texts one after the other. A text s is
-- well-formed where valid_up_to_of s ≡ length s (Grammar proves that this is the RFC's grammar).
use mathlib.Core.Path.{◌≡◌, refl, sym, ap, ap₂, ◌∙◌}
use mathlib.Core.Logic.{◌↔◌}
use mathlib.Core.Bool.{Bool, true, ◌&&◌}
use mathlib.Core.List.{List, [], ◌∷◌, ◌++◌, append_assoc, append-nil}
use Prim.Native.Nat.{ℕ, ◌+◌, ◌≤◌}
use native.Mathlib.Omega.{arith}
use native.Mathlib.Nat.{zero-add}
use lib.ListN.{length, take, drop, length-append, length-take, take-append-drop}
use lib.Seq.{drop-append_seam, drop-drop, take_at, take-length}
use Rattle.utf8.specs.Rfc3629.{read_char, chars, valid_up_to_of, is_scalar, all_scalar, encode, encode_all}
use Rattle.utf8.specs.declared.ReadChar.TheVariants.{Char}
use Rattle.base.proofs.Tests.{both_true}
use Rattle.utf8.proofs.Encoding.{char_begins}
use Rattle.utf8.proofs.Fronts.{read_char_nil}
use Rattle.utf8.proofs.Decoding.{read_char-encode}
use Rattle.utf8.proofs.Folds.{
  chars_ill_formed,
  chars_end,
  chars-char,
  valid_up_to_ill_formed,
  valid_up_to_end,
  valid_up_to-char,
  Reading,
  read_end,
  read_ill_formed,
  read_more,
  reading,
}

-- ---- a text that begins with an encoding

pub chars-encode : (v : ℕ) (s : List ℕ) → is_scalar v ≡ true → chars (encode v ++ s) ≡ v ∷ chars s
chars-encode v s e =
    chars-char (encode v ++ s) v (length (encode v)) (read_char-encode v s e)
    ∙ ap (λ (t : List ℕ). v ∷ chars t) (drop-append_seam (encode v) s)

pub valid_up_to-encode : (v : ℕ) (s : List ℕ) → is_scalar v ≡ true → valid_up_to_of (encode v ++ s) ≡ length (encode v) + valid_up_to_of s
valid_up_to-encode v s e =
    valid_up_to-char (encode v ++ s) v (length (encode v)) (read_char-encode v s e)
    ∙ ap (λ (t : List ℕ). length (encode v) + valid_up_to_of t) (drop-append_seam (encode v) s)

pub chars-encode_all : (vs s : List ℕ) → all_scalar vs ≡ true → chars (encode_all vs ++ s) ≡ vs ++ chars s
unfolding encode_all all_scalar
chars-encode_all [] s e = refl
chars-encode_all (v ∷ vs) s e =
    let p = both_true (is_scalar v) (all_scalar vs) e in
    ap chars (append_assoc (encode v) (encode_all vs) s) ∙ chars-encode v (encode_all vs ++ s) p.0
    ∙ ap (λ (r : List ℕ). v ∷ r) (chars-encode_all vs s p.1)

pub valid_up_to-encode_all : (vs s : List ℕ) → all_scalar vs ≡ true
    → valid_up_to_of (encode_all vs ++ s) ≡ length (encode_all vs) + valid_up_to_of s
unfolding encode_all all_scalar
valid_up_to-encode_all [] s e = sym (zero-add (valid_up_to_of s))
valid_up_to-encode_all (v ∷ vs) s e =
    let p = both_true (is_scalar v) (all_scalar vs) e in
    ap valid_up_to_of (append_assoc (encode v) (encode_all vs) s) ∙ valid_up_to-encode v (encode_all vs ++ s) p.0
    ∙ (let h = valid_up_to-encode_all vs s p.1 in let k = length-append (encode v) (encode_all vs) in omega arith)

-- ---- decoding the encoding of scalar values gives them back

pub chars-encode_all-alone : (vs : List ℕ) → all_scalar vs ≡ true → chars (encode_all vs) ≡ vs
chars-encode_all-alone vs e =
    ap chars (sym (append-nil (encode_all vs))) ∙ chars-encode_all vs [] e ∙ ap (λ (r : List ℕ). vs ++ r) (chars_end [] read_char_nil)
    ∙ append-nil vs

-- ---- the characters are scalar values, and their encoding is the longest well-formed prefix

reading-all_scalar : {s : List ℕ} → Reading s → all_scalar (chars s) ≡ true
unfolding all_scalar
reading-all_scalar {s} (read_end e) = ap all_scalar (chars_end s e)
reading-all_scalar {s} (read_ill_formed e) = ap all_scalar (chars_ill_formed s e)
reading-all_scalar {s} (read_more v w e r) =
    ap all_scalar (chars-char s v w e) ∙ ap₂ (λ (x y : Bool). x && y) (char_begins s v w e).is_scalar_lem (reading-all_scalar r)

pub chars-all_scalar : (s : List ℕ) → all_scalar (chars s) ≡ true
chars-all_scalar s = reading-all_scalar (reading s)

stopped-rest : (s : List ℕ) → chars s ≡ [] → valid_up_to_of s ≡ 0 → encode_all (chars s) ++ drop (valid_up_to_of s) s ≡ s
unfolding encode_all
stopped-rest s p q = ap₂ (λ (vs : List ℕ) (n : ℕ). encode_all vs ++ drop n s) p q

reading-rest : {s : List ℕ} → Reading s → encode_all (chars s) ++ drop (valid_up_to_of s) s ≡ s
unfolding encode_all
reading-rest {s} (read_end e) = stopped-rest s (chars_end s e) (valid_up_to_end s e)
reading-rest {s} (read_ill_formed e) = stopped-rest s (chars_ill_formed s e) (valid_up_to_ill_formed s e)
reading-rest {s} (read_more v w e r) =
    let t = drop w s in
    ap₂ (λ (vs : List ℕ) (n : ℕ). encode_all vs ++ drop n s) (chars-char s v w e) (valid_up_to-char s v w e)
    ∙ append_assoc (encode v) (encode_all (chars t)) (drop (w + valid_up_to_of t) s)
    ∙ ap (λ (l : List ℕ). encode v ++ (encode_all (chars t) ++ l)) (sym (drop-drop (valid_up_to_of t) w s))
    ∙ ap (λ (l : List ℕ). encode v ++ l) (reading-rest r)
    ∙ (char_begins s v w e).bytes

pub encode_all-chars-rest : (s : List ℕ) → encode_all (chars s) ++ drop (valid_up_to_of s) s ≡ s
encode_all-chars-rest s = reading-rest (reading s)

reading_length : {s : List ℕ} → Reading s → length (encode_all (chars s)) ≡ valid_up_to_of s
unfolding encode_all
reading_length {s} (read_end e) = ap (λ (vs : List ℕ). length (encode_all vs)) (chars_end s e) ∙ sym (valid_up_to_end s e)
reading_length {s} (read_ill_formed e) = ap (λ (vs : List ℕ). length (encode_all vs)) (chars_ill_formed s e)
    ∙ sym (valid_up_to_ill_formed s e)
reading_length {s} (read_more v w e r) =
    ap (λ (vs : List ℕ). length (encode_all vs)) (chars-char s v w e) ∙ length-append (encode v) (encode_all (chars (drop w s)))
    ∙ ap₂ (λ (m n : ℕ). m + n) (char_begins s v w e).width (reading_length r) ∙ sym (valid_up_to-char s v w e)

pub length_encode_all_chars : (s : List ℕ) → length (encode_all (chars s)) ≡ valid_up_to_of s
length_encode_all_chars s = reading_length (reading s)

pub valid_up_to_le : (s : List ℕ) → valid_up_to_of s ≤ length s
valid_up_to_le s =
    let e = length_encode_all_chars s in
    omega (arith, ap length (encode_all-chars-rest s), length-append (encode_all (chars s)) (drop (valid_up_to_of s) s))

pub encode_all-chars_take : (s : List ℕ) → encode_all (chars s) ≡ take (valid_up_to_of s) s
encode_all-chars_take s =
    sym (take_at (encode_all (chars s)) (drop (valid_up_to_of s) s) (valid_up_to_of s) (length_encode_all_chars s))
    ∙ ap (take (valid_up_to_of s)) (encode_all-chars-rest s)

-- A well-formed text is the encoding of its characters.
pub encode_all-chars : (s : List ℕ) → valid_up_to_of s ≡ length s → encode_all (chars s) ≡ s
encode_all-chars s e = encode_all-chars_take s ∙ ap (λ (n : ℕ). take n s) e ∙ take-length s

-- ---- the bytes after a well-formed text are read as a text of their own

pub valid_up_to_append : (s t : List ℕ) → valid_up_to_of s ≡ length s → valid_up_to_of (s ++ t) ≡ length s + valid_up_to_of t
valid_up_to_append s t e =
    let p = encode_all-chars s e in
    ap (λ (l : List ℕ). valid_up_to_of (l ++ t)) (sym p) ∙ valid_up_to-encode_all (chars s) t (chars-all_scalar s)
    ∙ ap (λ (l : List ℕ). length l + valid_up_to_of t) p

-- ---- an encoding is well-formed, and no well-formed prefix is longer than valid_up_to_of

pub encode_all-whole : (vs : List ℕ) → all_scalar vs ≡ true → valid_up_to_of (encode_all vs) ≡ length (encode_all vs)
encode_all-whole vs e =
    let p = ap valid_up_to_of (append-nil (encode_all vs)) in
    let q = valid_up_to-encode_all vs [] e in
    let r = valid_up_to_end [] read_char_nil in
    omega arith

pub none_longer_whole : (s : List ℕ) (n : ℕ) → n ≤ length s → valid_up_to_of (take n s) ≡ length (take n s) → n ≤ valid_up_to_of s
none_longer_whole s n h e =
    let p = ap valid_up_to_of (take-append-drop n s) in
    let q = valid_up_to_append (take n s) (drop n s) e in
    omega (arith, length-take n s)

-- ---- the encoding of two lists of values one after the other

pub encode_all_append : (us vs : List ℕ) → encode_all (us ++ vs) ≡ encode_all us ++ encode_all vs
unfolding encode_all
encode_all_append [] vs = refl
encode_all_append (u ∷ us) vs = ap (λ (l : List ℕ). encode u ++ l) (encode_all_append us vs)
    ∙ sym (append_assoc (encode u) (encode_all us) (encode_all vs))

-- ---- the table of section 4 and the encoding of section 3 agree

pub read_char-iff : (s : List ℕ) (v w : ℕ) → (read_char s ≡ Char v w)
    ↔ ((is_scalar v ≡ true) × (length (encode v) ≡ w) × (encode v ++ drop w s ≡ s))
read_char-iff s v w = (
  λ e. let f = char_begins s v w e in (f.is_scalar_lem, f.width, f.bytes),
  λ p. ap read_char (sym p.2) ∙ read_char-encode v (drop w s) p.0 ∙ ap (λ (n : ℕ). Char v n) p.1,
)
