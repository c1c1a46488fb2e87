-- `write_char` and `after_write_char` in each of the three cases of the answer.
use Rattle.std.specs.Prelude.{Ok, Err}
use mathlib.Core.Path.{◌≡◌, refl, sym}
use mathlib.Core.Bool.{true, false}
use mathlib.Core.List.{List}
use Prim.Native.Nat.{ℕ, ◌+◌, ◌≤◌, ◌<◌}
use lib.ListN.{length}
use lib.Seq.{sets}
use borrow.Author.Tests.{le-leb, lt-leb}
use Rattle.base.specs.Answers.{Answers}
use Rattle.base.proofs.Answering.{answers}
use Rattle.utf8.specs.Rfc3629.{is_scalar, encode}
use Rattle.utf8_encoding.specs.Write.{char_row, write_char, after_write_char}
use Rattle.utf8_encoding.specs.declared.WriteCharError.TheVariants.{TooShort, NotScalar}

module _ (v : ℕ) (o : List ℕ) (at : ℕ) where
  pub not_scalar : is_scalar v ≡ false → Answers char_row (write_char v o at) (Err NotScalar) × (o ≡ after_write_char v o at)
  unfolding write_char after_write_char
  not_scalar e = (answers (simp e), simp e)

  pub too_short : (w : ℕ) → w ≡ length (encode v) → is_scalar v ≡ true → length o < at + length (encode v)
      → Answers char_row (write_char v o at) (Err (TooShort w)) × (o ≡ after_write_char v o at)
  unfolding write_char after_write_char
  too_short w p e h =
      let l = lt-leb (at + length (encode v)) (length o) h in
      (answers (simp (e, l, p)), simp (e, l))

  pub written : (w : ℕ) → w ≡ length (encode v) → is_scalar v ≡ true → at + length (encode v) ≤ length o
      → Answers char_row (write_char v o at) (Ok w) × (sets o at (encode v) ≡ after_write_char v o at)
  unfolding write_char after_write_char
  written w p e h =
      let l = le-leb (at + length (encode v)) (length o) h in
      (answers (simp (e, l, p)), simp (e, l))

-- The buffer after the call where the encoding fits.
pub after_write_char_sets : (v : ℕ) (o : List ℕ) (at : ℕ) → is_scalar v ≡ true → at + length (encode v) ≤ length o → after_write_char v o at
    ≡ sets o at (encode v)
after_write_char_sets v o at e h = sym (written v o at (length (encode v)) refl e h).1
