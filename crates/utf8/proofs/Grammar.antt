-- The RFC's grammar and the decoder agree: a text is UTF8-octets exactly when the decoder reads it to the end.
use mathlib.Core.Path.{◌≡◌, refl, sym, ap, ◌∙◌, subst}
use mathlib.Core.Bool.{true}
use mathlib.Core.List.{List, [], ◌∷◌, ◌++◌, append-nil}
use Prim.Native.Nat.{ℕ, ◌+◌, ◌≤◌}
use native.Mathlib.Omega.{arith}
use lib.ListN.{length, take, drop, length-append}
use Rattle.utf8.specs.Rfc3629.{utf8_char, WellFormed, none, more, chars, valid_up_to_of, is_scalar, all_scalar, encode, encode_all}
use Rattle.base.proofs.Tests.{both_true}
use Rattle.utf8.proofs.Rows.{utf8_1_row, utf8_2_row, utf8_3_row, utf8_4_row}
use Rattle.utf8.proofs.Encoding.{BeginsWith, row_says}
use Rattle.utf8.proofs.Decoding.{utf8_char_encode}
use Rattle.utf8.proofs.Folds.{valid_up_to_end}
use Rattle.utf8.proofs.Fronts.{read_char_nil}
use Rattle.utf8.proofs.Texts.{valid_up_to-encode, encode_all-chars, encode_all-chars_take, chars-all_scalar, none_longer_whole}

-- The bytes bs are the encoding of a scalar value.
pub record Encodes (bs : List ℕ) : Type 0 where
  pub value : ℕ
  pub is_scalar_lem : is_scalar value ≡ true
  pub bytes : encode value ≡ bs

begins_encodes : (bs : List ℕ) (v w : ℕ) → drop w bs ≡ [] → BeginsWith bs v w → Encodes bs
begins_encodes bs v w e b = record {
  value = v;
  is_scalar_lem = b.is_scalar_lem;
  bytes = sym (append-nil (encode v)) ∙ ap (λ (l : List ℕ). encode v ++ l) (sym e) ∙ b.bytes;
}

pub utf8_char_encodes : (bs : List ℕ) → utf8_char bs ≡ true → Encodes bs
unfolding utf8_char
utf8_char_encodes [] e = let z : ◌≡◌ {A = ℕ} 0 1 = cc in absurd (omega arith)
utf8_char_encodes (a ∷ []) e = begins_encodes (a ∷ []) _ 1 refl (row_says a [] (utf8_1_row a 0 0 0 e))
utf8_char_encodes (a ∷ b ∷ []) e = begins_encodes (a ∷ b ∷ []) _ 2 refl (row_says a (b ∷ []) (utf8_2_row a b 0 0 e))
utf8_char_encodes (a ∷ b ∷ c ∷ []) e = begins_encodes (a ∷ b ∷ c ∷ []) _ 3 refl (row_says a (b ∷ c ∷ []) (utf8_3_row a b c 0 e))
utf8_char_encodes (a ∷ b ∷ c ∷ d ∷ []) e = begins_encodes (a ∷ b ∷ c ∷ d ∷ []) _ 4 refl (row_says a (b ∷ c ∷ d ∷ []) (utf8_4_row a b c d e))
utf8_char_encodes (a ∷ b ∷ c ∷ d ∷ x ∷ s) e = let z : ◌≡◌ {A = ℕ} 0 1 = cc in absurd (omega arith)

-- ---- from the grammar to the decoder

valid_up_to_utf8_char : (bs s : List ℕ) → utf8_char bs ≡ true → valid_up_to_of (bs ++ s) ≡ length bs + valid_up_to_of s
valid_up_to_utf8_char bs s e =
    let f = utf8_char_encodes bs e in
    subst (λ (l : List ℕ). valid_up_to_of (l ++ s) ≡ length l + valid_up_to_of s) f.bytes (valid_up_to-encode f.value s f.is_scalar_lem)

pub well_formed_whole : {s : List ℕ} → WellFormed s → valid_up_to_of s ≡ length s
well_formed_whole none = valid_up_to_end [] read_char_nil
well_formed_whole (more bs s e w) =
    let h = well_formed_whole w in
    let k = valid_up_to_utf8_char bs s e in
    omega (arith, length-append bs s)

-- ---- from the decoder to the grammar

pub encode_all_well_formed : (vs : List ℕ) → all_scalar vs ≡ true → WellFormed (encode_all vs)
unfolding all_scalar encode_all
encode_all_well_formed [] e = none
encode_all_well_formed (v ∷ vs) e =
    let p = both_true (is_scalar v) (all_scalar vs) e in
    more (encode v) (encode_all vs) (utf8_char_encode v p.0) (encode_all_well_formed vs p.1)

pub encoding_well_formed : (s : List ℕ) → encode_all (chars s) ≡ s → WellFormed s
encoding_well_formed s e = subst WellFormed e (encode_all_well_formed (chars s) (chars-all_scalar s))

pub whole_well_formed : (s : List ℕ) → valid_up_to_of s ≡ length s → WellFormed s
whole_well_formed s e = encoding_well_formed s (encode_all-chars s e)

-- ---- the longest well-formed prefix

pub longest_well_formed : (s : List ℕ) → WellFormed (take (valid_up_to_of s) s)
longest_well_formed s = subst WellFormed (encode_all-chars_take s) (encode_all_well_formed (chars s) (chars-all_scalar s))

pub none_longer : (s : List ℕ) (n : ℕ) → n ≤ length s → WellFormed (take n s) → n ≤ valid_up_to_of s
none_longer s n h w = none_longer_whole s n h (well_formed_whole w)
