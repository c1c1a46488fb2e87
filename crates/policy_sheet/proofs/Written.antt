-- A written sheet is a sheet, with the runs of the sets as its pieces.
use mathlib.Core.Path.{◌≡◌, refl, ap, sym, ◌∙◌, subst}
use mathlib.Core.Bool.{Bool, true, false, cond}
use mathlib.Core.List.{List, [], ◌∷◌, ◌++◌, append_assoc, append-nil, map}
use Prim.Native.Nat.{ℕ, zero, suc, ◌+◌, ◌*◌, ◌/◌, ◌%◌, ◌^◌, ◌<◌}
use native.Mathlib.Omega.{arith}
use lib.Dec.{eqb, ltb}
use lib.ListN.{length, length-append}
use lib.Pow.{shr-shr}
use borrow.Author.Tests.{eqb-true, ltb-false, ltb-true}
use Rattle.base.specs.Texts.{parted}
use Rattle.base.proofs.Tests.{within_true}
use Rattle.emoji.specs.Unicode.{has_variation_sequence}
use Rattle.emoji.specs.UnicodeData.{variation_entries}
use Rattle.emoji.proofs.Between.{every, every-member}
use Rattle.policy_key_set.specs.Display.{hex_digit, hex_digits}
use Rattle.policy_sheet.specs.Grammar.{
  CodePoint,
  Digits,
  Front,
  HexDigit,
  Line,
  Piece,
  PieceAt,
  Pieces,
  allowed_digits,
  after_comma,
  of_digits,
  decimal,
  digits_and,
  empty_line,
  full_line,
  letter,
  line_start,
  no_digits,
  range,
  single,
}
use Rattle.policy_sheet.specs.Meaning.{Each, each_and, each_none}
use Rattle.policy_sheet.specs.Writer.{Run, fewest_digits, point_text, run_text}
use Rattle.policy_sheet.proofs.Derives.{pieces-held}

-- ---- digits

digit-written : (d : ℕ) → d < 16 → HexDigit (hex_digit d) d
unfolding hex_digit
digit-written d h = go (ltb d 10) refl
  where
    go : (t : Bool) → ltb d 10 ≡ t → HexDigit (cond t (48 + d) (55 + d)) d
    go true e = let l = ltb-true d 10 e in subst (HexDigit (48 + d)) (omega arith)
        (decimal (within_true 0x30 0x39 (48 + d) (omega arith) (omega arith)))
    go false e = let l = ltb-false d 10 e in subst (HexDigit (55 + d)) (omega arith)
        (letter (within_true 0x41 0x46 (55 + d) (omega arith) (omega arith)))

nibble : (n : ℕ) → HexDigit (hex_digit (n % 16)) (n % 16)
nibble n = digit-written (n % 16) (omega arith)

valued : {s : List ℕ} {k v w : ℕ} → v ≡ w → Digits s k v → Digits s k w
valued {s} {k} e d = subst (Digits s k) e d

-- The digits that are left, after the first digits of the number.
hex-digits : {s : List ℕ} {j : ℕ} (k n : ℕ) → Digits s j (n / 2 ^ (4 * k)) → Digits (s ++ hex_digits k n) (j + k) n
unfolding hex_digits
hex-digits {s} {j} zero n d =
    subst (λ (l : List ℕ). Digits l (j + 0) n) (sym (append-nil s)) (subst (λ (i : ℕ). Digits s i n) (omega arith) (valued (omega arith) d))
hex-digits {s} {j} (suc k) n d =
    let q = n / 2 ^ (4 * k) in
    let e : 4 * k + 4 ≡ 4 * suc k = omega arith in
    let f : q / 16 ≡ n / 2 ^ (4 * suc k) = shr-shr n (4 * k) 4 ∙ ap (λ (m : ℕ). n / 2 ^ m) e in
    let g : Digits (s ++ (hex_digit (q % 16) ∷ [])) (suc j) q = valued (omega arith) (digits_and d (nibble q)) in
    subst (λ (i : ℕ). Digits (s ++ (hex_digit (q % 16) ∷ hex_digits k n)) i n) (omega arith)
    (subst (λ (l : List ℕ). Digits l (suc j + k) n) (append_assoc s (hex_digit (q % 16) ∷ []) (hex_digits k n))
    (hex-digits {s = s ++ (hex_digit (q % 16) ∷ [])} {j = suc j} k n g))

all_digits : (k n : ℕ) → n / 2 ^ (4 * k) ≡ 0 → Digits (hex_digits k n) k n
all_digits k n e = subst (λ (i : ℕ). Digits (hex_digits k n) i n) (omega arith) (hex-digits k n (valued (sym e) no_digits))

pub point_written : (c : ℕ) → c < 0x1000000 → CodePoint (point_text c) c
unfolding fewest_digits allowed_digits
point_written c h = by_two (ltb c 0x100) refl
  where
    by-five : (t : Bool) → ltb c 0x100000 ≡ t → CodePoint (hex_digits (cond t 5 6) c) c
    by-five true e = of_digits (all_digits 5 c (let l = ltb-true c 0x100000 e in omega arith)) refl
    by-five false e = of_digits (all_digits 6 c (omega arith)) refl

    by-four : (t : Bool) → ltb c 0x10000 ≡ t → CodePoint (hex_digits (cond t 4 (cond (ltb c 0x100000) 5 6)) c) c
    by-four true e = of_digits (all_digits 4 c (let l = ltb-true c 0x10000 e in omega arith)) refl
    by-four false e = by-five (ltb c 0x100000) refl

    by_two : (t : Bool) → ltb c 0x100 ≡ t → CodePoint (hex_digits (cond t 2 (cond (ltb c 0x10000) 4 (cond (ltb c 0x100000) 5 6))) c) c
    by_two true e = of_digits (all_digits 2 c (let l = ltb-true c 0x100 e in omega arith)) refl
    by_two false e = by-four (ltb c 0x10000) refl

-- ---- pieces

pub record Short (r : Run) : Type 0 where
  pub first : r.first < 0x1000000
  pub last : r.last < 0x1000000

unfoldable pub last_at : ℕ → Run → ℕ
last_at at r = cond (eqb r.first r.last) at (at + length (point_text r.first) + 1)

abbrev pub piece_as : ℕ → ℕ → Run → ℕ → Piece
piece_as k at r l = record { line = k; first = record { at = at; value = r.first }; last = record { at = l; value = r.last } }

unfoldable pub piece_of : ℕ → ℕ → Run → Piece
piece_of k at r = piece_as k at r (last_at at r)

unfoldable pub pieces_at : ℕ → ℕ → List Run → List Piece
pieces_at k at [] = []
pieces_at k at (r ∷ rs) = piece_of k at r ∷ pieces_at k (at + length (run_text r) + 1) rs

piece_written : (k at : ℕ) (r : Run) → Short r → PieceAt k at (run_text r) (piece_of k at r)
unfolding run_text piece_of last_at
piece_written k at r s = go (eqb r.first r.last) refl
  where
    go : (t : Bool) → eqb r.first r.last ≡ t
        → PieceAt k at (cond t (point_text r.first) (point_text r.first ++ (0x2D ∷ point_text r.last)))
        (piece_as k at r (cond t at (at + length (point_text r.first) + 1)))
    go true e =
        subst (λ (v : ℕ). PieceAt k at (point_text r.first)
        (record { line = k; first = record { at = at; value = r.first }; last = record { at = at; value = v } }))
        (eqb-true r.first r.last e)
        (single (point_written r.first s.first))
    go false e = range (point_written r.first s.first) (point_written r.last s.last)

pub pieces-written : {k at : ℕ} {u : List ℕ} {f : Bool} {ys : List Piece} (r : Run) (rs : List Run) → Front k at u f ys → Short r
    → Each Short rs
    → Pieces k at (u ++ parted 0x2C (run_text r ∷ map run_text rs)) (ys ++ pieces_at k (at + length u) (r ∷ rs))
unfolding parted pieces_at
pieces-written {k} {at} {u} {f} {ys} r [] g s each_none = pieces-held g (piece_written k (at + length u) r s)
pieces-written {k} {at} {u} {f} {ys} r (q ∷ rs) g s (each_and t ts) =
    let here = pieces-held g (piece_written k (at + length u) r s) in
    let later = pieces-written {u = (u ++ run_text r) ++ (0x2C ∷ [])} {f = false} {ys = ys ++ (piece_of k (at + length u) r ∷ [])} q rs
    (after_comma here) t ts in
    subst (λ (l : List ℕ). Pieces k at l (ys ++ pieces_at k (at + length u) (r ∷ (q ∷ rs)))) (simp append_assoc)
    (subst (λ (l : List Piece). Pieces k at (((u ++ run_text r) ++ (0x2C ∷ [])) ++ parted 0x2C (run_text q ∷ map run_text rs)) l)
    (append_assoc ys (piece_of k (at + length u) r ∷ []) _ ∙ ap (λ (n : ℕ). ys ++ (piece_of k (at + length u) r ∷ pieces_at k n (q ∷ rs)))
    (simp length-append (omega arith)))
    later)

pub line-written : (k at : ℕ) (rs : List Run) → Each Short rs → Line k at (parted 0x2C (map run_text rs)) (pieces_at k at rs)
unfolding parted pieces_at
line-written k at [] each_none = empty_line
line-written k at (r ∷ rs) (each_and s ss) =
    let e : at + 0 ≡ at = omega arith in
    full_line (subst (λ (n : ℕ). Pieces k at (parted 0x2C (run_text r ∷ map run_text rs)) (pieces_at k n (r ∷ rs))) e
    (pieces-written {k = k} {at = at} r rs line_start s ss))

-- ---- entries have six digits at most

small_entries : every (λ (c : ℕ). ltb c 0x1000000) variation_entries ≡ true
unfolding every variation_entries
small_entries = refl

pub entry_small : (c : ℕ) → has_variation_sequence c ≡ true → c < 0x1000000
unfolding has_variation_sequence
entry_small c h = ltb-true c 0x1000000 (every-member (λ (c : ℕ). ltb c 0x1000000) variation_entries small_entries c h)
