-- The bytes of the first characters of a text, the characters after them, and that no character begins inside a character.
use mathlib.Core.Path.{◌≡◌, refl, ap, sym, ◌∙◌, subst}
use mathlib.Core.Logic.{⊎_elim}
use mathlib.Core.Bool.{Bool, true, ◌&&◌}
use mathlib.Core.List.{List, [], ◌∷◌, ◌++◌, append_assoc, append-nil, append_cancel_left}
use Prim.Native.Nat.{ℕ, zero, suc, ◌+◌, ◌/◌, ◌%◌, ◌≤◌, ◌<◌}
use native.Mathlib.Omega.{arith}
use lib.ListN.{length, take, drop, get_or, length-append}
use lib.Seq.{take-append_seam, drop-append_seam, drop-append-le, drop-drop}
use Rattle.utf8.specs.Rfc3629.{read_char, chars, valid_up_to_of, is_scalar, all_scalar, encode, encode_all}
use Rattle.utf8.specs.declared.ReadChar.TheVariants.{Char}
use Rattle.base.proofs.Tests.{both_true, le_or_lt}
use Rattle.utf8.proofs.Encoding.{encode_1, encode_2, encode_3, encode_4, encode-few}
use Rattle.utf8.proofs.Values.{ill_formed_80_C1}
use Rattle.utf8.proofs.Folds.{chars_ill_formed}
use Rattle.utf8.proofs.Texts.{chars-encode_all, chars-all_scalar, encode_all_append, encode_all-chars-rest, length_encode_all_chars}
use Rattle.utf8.proofs.Places as Places
use Rattle.scanner.specs.Spans.{size, width}

-- ---- the width of characters

pub size-width : (s : List ℕ) → size width s ≡ length (encode_all s)
unfolding width encode_all
size-width [] = refl
size-width (c ∷ s) = let h = size-width s in omega (arith, length-append (encode c) (encode_all s))

pub width_some : (c : ℕ) → 1 ≤ width c
unfolding width
width_some c = (encode-few c).0

-- ---- after the first characters of a text

scalar-after : (vs us : List ℕ) → all_scalar (vs ++ us) ≡ true → all_scalar us ≡ true
unfolding all_scalar
scalar-after [] us e = e
scalar-after (v ∷ vs) us e = scalar-after vs us (both_true (is_scalar v) (all_scalar (vs ++ us)) e).1

pub scalar-front : (vs us : List ℕ) → all_scalar (vs ++ us) ≡ true → all_scalar vs ≡ true
unfolding all_scalar
scalar-front [] us e = refl
scalar-front (v ∷ vs) us e =
    let h = both_true (is_scalar v) (all_scalar (vs ++ us)) e in
    ap (λ (b : Bool). b && all_scalar vs) h.0 ∙ scalar-front vs us h.1

-- No character begins at the end of the longest well-formed beginning.
rest-empty : (s : List ℕ) → chars (drop (valid_up_to_of s) s) ≡ []
rest-empty s =
    append_cancel_left (chars s) (chars (drop (valid_up_to_of s) s)) []
    (sym (chars-encode_all (chars s) (drop (valid_up_to_of s) s) (chars-all_scalar s)) ∙ ap chars (encode_all-chars-rest s)
    ∙ sym (append-nil (chars s)))

split_bytes : (s vs us : List ℕ) → chars s ≡ vs ++ us → s ≡ encode_all vs ++ (encode_all us ++ drop (valid_up_to_of s) s)
split_bytes s vs us e =
    sym (encode_all-chars-rest s) ∙ ap (λ (l : List ℕ). encode_all l ++ drop (valid_up_to_of s) s) e
    ∙ ap (λ (l : List ℕ). l ++ drop (valid_up_to_of s) s) (encode_all_append vs us)
    ∙ append_assoc (encode_all vs) (encode_all us) (drop (valid_up_to_of s) s)

pub take_chars_lem : (s vs us : List ℕ) → chars s ≡ vs ++ us → take (length (encode_all vs)) s ≡ encode_all vs
take_chars_lem s vs us e = ap (take (length (encode_all vs))) (split_bytes s vs us e)
    ∙ take-append_seam (encode_all vs) (encode_all us ++ drop (valid_up_to_of s) s)

pub chars_drop : (s vs us : List ℕ) → chars s ≡ vs ++ us → chars (drop (length (encode_all vs)) s) ≡ us
chars_drop s vs us e =
    ap (λ (l : List ℕ). chars (drop (length (encode_all vs)) l)) (split_bytes s vs us e)
    ∙ ap chars (drop-append_seam (encode_all vs) (encode_all us ++ drop (valid_up_to_of s) s))
    ∙ chars-encode_all us (drop (valid_up_to_of s) s)
    (scalar-after vs us (subst (λ (l : List ℕ). all_scalar l ≡ true) e (chars-all_scalar s)))
    ∙ ap (λ (l : List ℕ). us ++ l) (rest-empty s) ∙ append-nil us

-- The same for a text from an offset on: the next offset is the first plus the size of the characters.
pub chars-from : (text : List ℕ) (at : ℕ) (vs us : List ℕ) → chars (drop at text) ≡ vs ++ us → chars (drop (at + size width vs) text) ≡ us
chars-from text at vs us e =
    ap (λ (n : ℕ). chars (drop (at + n) text)) (size-width vs) ∙ ap chars (sym (drop-drop (length (encode_all vs)) at text))
    ∙ chars_drop (drop at text) vs us e

pub size-chars : (s : List ℕ) → size width (chars s) ≡ valid_up_to_of s
size-chars s = size-width (chars s) ∙ length_encode_all_chars s

-- ---- inside a character

-- A list whose first byte is a tail byte.
record TailFirst (s : List ℕ) : Type 0 where
  byte : ℕ
  rest : List ℕ
  bytes : s ≡ byte ∷ rest
  low : 0x80 ≤ byte
  high : byte ≤ 0xBF

tail_no_chars : (s : List ℕ) → TailFirst s → chars s ≡ []
unfolding read_char
tail_no_chars s f =
    chars_ill_formed s
    (ap read_char f.bytes
    ∙ sym (ill_formed_80_C1 f.byte (get_or f.rest 0 0) (get_or f.rest 1 0) (get_or f.rest 2 0) f.low
    (let h = f.high in omega arith)))

inside : (v k : ℕ) → 0 < k → k < length (encode v) → TailFirst (drop k (encode v))
inside v k p q =
    ⊎_elim (λ h. one (encode_1 v h))
    (λ l₁. ⊎_elim (λ h. two (encode_2 v l₁ h))
    (λ l₂. ⊎_elim (λ h. three (encode_3 v l₂ h)) (λ l₃. four (encode_4 v l₃)) (le_or_lt v 0xFFFF))
    (le_or_lt v 0x7FF)) (le_or_lt v 0x7F)
  where
    -- The bytes of an encoding from its k-th byte on, where k is not 0.
    at : {a : ℕ} {t : List ℕ} → encode v ≡ a ∷ t → ((j : ℕ) → j < length t → TailFirst (drop j t)) → TailFirst (drop k (encode v))
    at {a} {t} e f = go k p q
      where
        go : (k : ℕ) → 0 < k → k < length (encode v) → TailFirst (drop k (encode v))
        go zero p q = absurd (omega arith)
        go (suc j) p q = subst (λ (l : List ℕ). TailFirst (drop (suc j) l)) (sym e) (f j (omega (arith, ap length e)))

    tail : {b : ℕ} {t : List ℕ} → 0x80 ≤ b → b ≤ 0xBF → TailFirst (b ∷ t)
    tail {b} {t} l h = record { byte = b; rest = t; bytes = refl; low = l; high = h }

    one : encode v ≡ v ∷ [] → TailFirst (drop k (encode v))
    one e = at e (λ j h. absurd (omega arith))

    two : encode v ≡ (0xC0 + v / 64) ∷ (0x80 + v % 64) ∷ [] → TailFirst (drop k (encode v))
    two e = at e go
      where
        go : (j : ℕ) → j < 1 → TailFirst (drop j ((0x80 + v % 64) ∷ []))
        go zero h = tail (omega arith) (omega arith)
        go (suc j) h = absurd (omega arith)

    three : encode v ≡ (0xE0 + v / 4096) ∷ (0x80 + v / 64 % 64) ∷ (0x80 + v % 64) ∷ [] → TailFirst (drop k (encode v))
    three e = at e go
      where
        go : (j : ℕ) → j < 2 → TailFirst (drop j ((0x80 + v / 64 % 64) ∷ (0x80 + v % 64) ∷ []))
        go zero h = tail (omega arith) (omega arith)
        go (suc zero) h = tail (omega arith) (omega arith)
        go (suc (suc j)) h = absurd (omega arith)

    four : encode v ≡ (0xF0 + v / 262144) ∷ (0x80 + v / 4096 % 64) ∷ (0x80 + v / 64 % 64) ∷ (0x80 + v % 64) ∷ []
        → TailFirst (drop k (encode v))
    four e = at e go
      where
        go : (j : ℕ) → j < 3 → TailFirst (drop j ((0x80 + v / 4096 % 64) ∷ (0x80 + v / 64 % 64) ∷ (0x80 + v % 64) ∷ []))
        go zero h = tail (omega arith) (omega arith)
        go (suc zero) h = tail (omega arith) (omega arith)
        go (suc (suc zero)) h = tail (omega arith) (omega arith)
        go (suc (suc (suc j))) h = absurd (omega arith)

tail_append : {s : List ℕ} (t : List ℕ) → TailFirst s → TailFirst (s ++ t)
tail_append t f = record {
  byte = f.byte;
  rest = f.rest ++ t;
  bytes = ap (λ (l : List ℕ). l ++ t) f.bytes;
  low = f.low;
  high =
      f.high;
}

-- At an offset inside a character no character begins.
pub chars_inside : (text : List ℕ) (at v w k : ℕ) → read_char (drop at text) ≡ Char v w → 0 < k → k < w → chars (drop (at + k) text) ≡ []
chars_inside text at v w k e p q =
    let s = Places.step text at v w e in
    let l : k ≤ length (encode v) = let m = s.width in omega arith in
    let d : drop (at + k) text ≡ drop k (encode v) ++ drop (at + w) text =
    sym (drop-drop k at text) ∙ ap (drop k) (sym s.bytes) ∙ drop-append-le k (encode v) (drop (at + w) text) l in
    let f = inside v k p (let m = s.width in omega arith) in
    ap chars d ∙ tail_no_chars _ (tail_append (drop (at + w) text) f)
