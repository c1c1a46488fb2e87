-- The offsets of refusals 11 and 12 are at most the length of the sheet.
use mathlib.Core.Path.{subst}
use mathlib.Core.List.{List, [], ◌∷◌, ◌++◌}
use Prim.Native.Nat.{ℕ, ◌+◌, ◌≤◌}
use native.Mathlib.Omega.{arith}
use lib.ListN.{length, length-append}
use Rattle.policy_sheet.specs.Grammar.{
  Line,
  Lines,
  Piece,
  PieceAt,
  Pieces,
  Point,
  empty_line,
  full_line,
  lines_and,
  no_lines,
  one_piece,
  pieces_and,
  range,
  single,
}
use Rattle.policy_sheet.specs.Meaning.{Each, FirstNonEntry, each_and, each_none, points}
use Rattle.policy_sheet.specs.Theorems.{Fault, breaks_off, descending_range, wrong_byte}
use Rattle.policy_sheet.proofs.Faults.{down_before}

-- Every code point stands before an offset.
abbrev Before : ℕ → List Piece → Type 0
Before n xs = Each (λ (x : Point). x.at ≤ n) (points xs)

later : (m n : ℕ) (xs : List Point) → m ≤ n → Each (λ (x : Point). x.at ≤ m) xs → Each (λ (x : Point). x.at ≤ n) xs
later m n [] h each_none = each_none
later m n (x ∷ xs) h (each_and p hs) = each_and {x = x} (omega arith) (later m n xs h hs)

both : (n : ℕ) (xs ys : List Piece) → Before n xs → Before n ys → Before n (xs ++ ys)
unfolding points
both n [] ys h g = g
both n (x ∷ xs) ys (each_and p (each_and q hs)) g = each_and p (each_and q (both n xs ys hs g))

two : (n : ℕ) (x y : Point) → x.at ≤ n → y.at ≤ n → Each (λ (x : Point). x.at ≤ n) (x ∷ (y ∷ []))
two n x y p q = each_and {x = x} p (each_and {x = y} q each_none)

piece_before : {k at : ℕ} {s : List ℕ} {x : Piece} → PieceAt k at s x → Before (at + length s) (x ∷ [])
unfolding points
piece_before {at = at} (single {s} {v} p) =
    two (at + length s) (record { at = at; value = v }) (record { at = at; value = v }) (omega arith) (omega arith)
piece_before {at = at} (range {s} {t} {v} {w} p q) =
    two (at + length (s ++ (0x2D ∷ t))) (record { at = at; value = v }) (record { at = at + length s + 1; value = w }) (omega arith)
    (omega (arith, length-append s (0x2D ∷ t)))

pieces_before : {k at : ℕ} {s : List ℕ} {xs : List Piece} → Pieces k at s xs → Before (at + length s) xs
pieces_before (one_piece p) = piece_before p
pieces_before {at = at} (pieces_and {s} {t} {xs} {x} h p) =
    let l = length-append s (0x2C ∷ t) in
    both _ xs (x ∷ []) (later (at + length s) _ (points xs) (omega arith) (pieces_before h))
    (later (at + length s + 1 + length t) _ (points (x ∷ [])) (omega arith) (piece_before p))

line_before : {k at : ℕ} {s : List ℕ} {xs : List Piece} → Line k at s xs → Before (at + length s) xs
unfolding points
line_before empty_line = each_none
line_before (full_line h) = pieces_before h

pub lines_before : {k : ℕ} {s : List ℕ} {xs : List Piece} → Lines k s xs → Before (length s) xs
unfolding points
lines_before no_lines = each_none
lines_before (lines_and {s = s} {t} {xs} {ys} h g) =
    let l = length-append s (t ++ (0x0A ∷ [])) in
    let m = length-append t (0x0A ∷ []) in
    both _ xs ys (later (length s) _ (points xs) (omega arith) (lines_before h))
    (later (length s + length t) _ (points ys) (omega arith) (line_before g))

at_split : (n : ℕ) (us : List Point) (x : Point) (vs : List Point) → Each (λ (x : Point). x.at ≤ n) (us ++ (x ∷ vs)) → x.at ≤ n
at_split n [] x vs (each_and p hs) = p
at_split n (u ∷ us) x vs (each_and p hs) = at_split n us x vs hs

pub non_entry_inside : {s : List ℕ} {xs : List Piece} {n : ℕ} → Lines 4 s xs → FirstNonEntry xs n → n ≤ length s
non_entry_inside {s} {xs} {n} h r =
    omega (
      arith,
      r.offset,
      at_split (length s) r.earlier r.other r.later
          (subst (λ (l : List Point). Each (λ (x : Point). x.at ≤ length s) l) r.split (lines_before h)),
    )

pub fault_inside : {s : List ℕ} {n : ℕ} → Fault s n → n ≤ length s
fault_inside (wrong_byte l p f) = omega arith
fault_inside (breaks_off p f) = omega arith
fault_inside (descending_range d) = omega (arith, down_before d)
