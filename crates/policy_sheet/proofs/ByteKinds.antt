-- The kind of a byte as a view.
use mathlib.Core.Path.{◌≡◌, refl, sym, subst}
use mathlib.Core.Bool.{Bool, true, false, cond}
use Prim.Native.Nat.{ℕ, ◌-◌}
use native.Mathlib.Omega.{arith}
use lib.Dec.{eqb}
use borrow.Author.Tests.{eqb-true}
use Rattle.base.specs.Ranges.{within}
use Rattle.base.proofs.Tests.{In, within_in}
use Rattle.policy_sheet.specs.Grammar.{HexDigit, decimal, letter}
use Rattle.policy_sheet.specs.Reader.{ByteKind, comma, dash, digit, kind_of, newline, other}

pub data HasKind : ℕ → ByteKind → Type 0 where
  is_digit : {b d : ℕ} → HexDigit b d → HasKind b (digit d)
  is_comma : HasKind 0x2C comma
  is_dash : HasKind 0x2D dash
  is_newline : HasKind 0x0A newline
  is_other : {b : ℕ} → HasKind b other

pub kind : (b : ℕ) → HasKind b (kind_of b)
unfolding kind_of
kind b = by-decimal (within 0x30 0x39 b) refl
  where
    by-newline : (t : Bool) → eqb b 0x0A ≡ t → HasKind b (cond t newline other)
    by-newline true e = subst (λ (x : ℕ). HasKind x newline) (sym (eqb-true b 0x0A e)) is_newline
    by-newline false e = is_other

    by-dash : (t : Bool) → eqb b 0x2D ≡ t → HasKind b (cond t dash (cond (eqb b 0x0A) newline other))
    by-dash true e = subst (λ (x : ℕ). HasKind x dash) (sym (eqb-true b 0x2D e)) is_dash
    by-dash false e = by-newline (eqb b 0x0A) refl

    by-comma : (t : Bool) → eqb b 0x2C ≡ t → HasKind b (cond t comma (cond (eqb b 0x2D) dash (cond (eqb b 0x0A) newline other)))
    by-comma true e = subst (λ (x : ℕ). HasKind x comma) (sym (eqb-true b 0x2C e)) is_comma
    by-comma false e = by-dash (eqb b 0x2D) refl

    by-letter : (t : Bool) → within 0x41 0x46 b ≡ t
        → HasKind b (cond t (digit (b - 0x37)) (cond (eqb b 0x2C) comma (cond (eqb b 0x2D) dash (cond (eqb b 0x0A) newline other))))
    by-letter true e = is_digit (letter e)
    by-letter false e = by-comma (eqb b 0x2C) refl

    by-decimal : (t : Bool) → within 0x30 0x39 b ≡ t
        → HasKind b (cond t (digit (b - 0x30)) (cond (within 0x41 0x46 b) (digit (b - 0x37))
        (cond (eqb b 0x2C) comma (cond (eqb b 0x2D) dash (cond (eqb b 0x0A) newline other)))))
    by-decimal true e = is_digit (decimal e)
    by-decimal false e = by-letter (within 0x41 0x46 b) refl

-- A letter is no decimal digit.
not_decimal : (b : ℕ) → within 0x41 0x46 b ≡ true → within 0x30 0x39 b ≡ false
not_decimal b e = above b (within_in 0x41 0x46 b e)
  where
    above : (b : ℕ) → In 0x41 0x46 b → within 0x30 0x39 b ≡ false
    above b i = Rattle.base.proofs.Tests.within-above 0x30 0x39 b (omega arith)

pub digit-kind : {b d : ℕ} → HexDigit b d → kind_of b ≡ digit d
unfolding kind_of
digit-kind {b} (decimal e) = rw e
digit-kind {b} (letter e) = rw (not_decimal b e, e)

pub comma_kind : kind_of 0x2C ≡ comma
unfolding kind_of
comma_kind = refl

pub dash_kind : kind_of 0x2D ≡ dash
unfolding kind_of
dash_kind = refl

pub newline_kind : kind_of 0x0A ≡ newline
unfolding kind_of
newline_kind = refl
