-- Reading at an offset of a text, and one step of `chars` and `valid_up_to_of` from there. Loops over the bytes of a text use it.
use mathlib.Core.Path.{◌≡◌, sym, ap, ◌∙◌}
use mathlib.Core.Bool.{true}
use mathlib.Core.List.{List, [], ◌∷◌, ◌++◌}
use Prim.Native.Nat.{ℕ, ◌+◌, ◌≤◌}
use native.Mathlib.Omega.{arith}
use lib.ListN.{length, drop, length-drop, length-append}
use lib.Seq.{drop-drop}
use Rattle.utf8.specs.Rfc3629.{read_char, chars, valid_up_to_of, is_scalar, encode}
use Rattle.utf8.specs.declared.ReadChar.TheVariants.{Char, IllFormed, End}
use Rattle.utf8.proofs.Encoding.{char_begins, end_empty}
use Rattle.utf8.proofs.Folds.{chars_ill_formed, chars_end, chars-char, valid_up_to_ill_formed, valid_up_to_end, valid_up_to-char}

-- At the offset `at`, s has the character v of w bytes, and the text after it is read from the offset at + w on.
pub record Step (s : List ℕ) (at v w : ℕ) : Type 0 where
  pub some : 1 ≤ w
  pub few : w ≤ 4
  pub room : at + w ≤ length s
  pub is_scalar_lem : is_scalar v ≡ true
  pub width : length (encode v) ≡ w
  pub bytes : encode v ++ drop (at + w) s ≡ drop at s
  pub valid_up_to_on : valid_up_to_of (drop at s) ≡ w + valid_up_to_of (drop (at + w) s)
  pub chars_on : chars (drop at s) ≡ v ∷ chars (drop (at + w) s)

pub step : (s : List ℕ) (at v w : ℕ) → read_char (drop at s) ≡ Char v w → Step s at v w
step s at v w e =
    let t = drop at s in
    let f = char_begins t v w e in
    let d = drop-drop w at s in
    record {
      some = f.some;
      few = f.few;
      room = let o = f.some in let m = f.width in omega
          (arith, length-drop at s, ap length f.bytes, length-append (encode v) (drop w t));
      is_scalar_lem = f.is_scalar_lem;
      width = f.width;
      bytes = ap (λ (l : List ℕ). encode v ++ l) (sym d) ∙ f.bytes;
      valid_up_to_on = valid_up_to-char t v w e ∙ ap (λ (l : List ℕ). w + valid_up_to_of l) d;
      chars_on = chars-char t v w e ∙ ap (λ (l : List ℕ). v ∷ chars l) d;
    }

-- At the offset `at`, no character of s begins.
pub record Stop (s : List ℕ) (at : ℕ) : Type 0 where
  pub valid_up_to_zero : valid_up_to_of (drop at s) ≡ 0
  pub chars_none : chars (drop at s) ≡ []

pub stop_ill_formed : (s : List ℕ) (at : ℕ) {n : ℕ} → read_char (drop at s) ≡ IllFormed n → Stop s at
stop_ill_formed s at e = record { valid_up_to_zero = valid_up_to_ill_formed (drop at s) e; chars_none = chars_ill_formed (drop at s) e }

pub stop_end : (s : List ℕ) (at : ℕ) → read_char (drop at s) ≡ End → Stop s at
stop_end s at e = record { valid_up_to_zero = valid_up_to_end (drop at s) e; chars_none = chars_end (drop at s) e }

-- The end is read only at or after the text's length.
pub end_past : (s : List ℕ) (at : ℕ) → read_char (drop at s) ≡ End → length s ≤ at
end_past s at e = omega (arith, length-drop at s, ap length (end_empty (drop at s) e))
