-- Skipping characters of few widths: the laws that the loops of src/runs.rt use.
use mathlib.Core.Path.{◌≡◌, ◌∙◌, ap, refl}
use mathlib.Core.Logic.{⊎_elim}
use mathlib.Core.Bool.{true}
use mathlib.Core.List.{List}
use Prim.Native.Nat.{ℕ, ◌+◌, ◌-◌, ◌*◌, ◌/◌, ◌<◌, ◌≤◌}
use native.Mathlib.Omega.{arith}
use lib.ListN.{drop, get_or, length}
use Rattle.base.proofs.Tests.{In, le_or_lt}
use Rattle.ascii_runs.specs.Ascii.{ascii_end}
use Rattle.utf8.specs.Rfc3629.{char_len, is_scalar, read_char, valid_up_to_of, value_3, value_4}
use Rattle.utf8_validity.specs.Runs.{CharsBetween}
use Rattle.ascii_runs.proofs.AsciiRuns.{longest_at, valid_up_to-past}
use Rattle.utf8.proofs.Packed.{packed_len, step_len}
use Rattle.utf8.proofs.Scalars.{is_scalar-high, is_scalar_low}
use Rattle.utf8.proofs.Values.{reads_1_at, reads_2_at, reads_3_at, reads_4_at}

pub none_passed : (s : List ℕ) (from : ℕ) → from ≤ length s → CharsBetween s from from
none_passed s from h = record { forward = omega arith; inside = h; same_end = refl }

-- One more character, of w bytes.
one_more : {s : List ℕ} {from at : ℕ} (w : ℕ) → CharsBetween s from at → w ≡ char_len (read_char (drop at s)) → 1 ≤ w
    → CharsBetween s from (at + w)
one_more {s} {from} {at} w p e h =
    let k = (step_len s at w e h).on in
    let f = p.forward in
    record { forward = omega arith; inside = k.room; same_end = omega (arith, p.same_end, k.valid_up_to_on) }

scalar : (v : ℕ) → v ≤ 0xFFFF → (0xD000 ≤ v → 0xE000 ≤ v) → is_scalar v ≡ true
scalar v h f = ⊎_elim (λ l. is_scalar-high v (f l) (omega arith)) (λ l. is_scalar_low v (omega arith)) (le_or_lt 0xD000 v)

pub times_1 : (x : ℕ) {b : ℕ} → b ≡ 1 → x * b ≡ x
times_1 x e = ap (λ (k : ℕ). x * k) e ∙ omega arith

pub times_le : (x b : ℕ) → b ≤ 1 → x * b ≤ x
times_le x b h = ⊎_elim one none (le_or_lt 1 b)
  where
    one : 1 ≤ b → x * b ≤ x
    one l = let e : b ≡ 1 = omega arith in omega (arith, times_1 x e)

    none : b < 1 → x * b ≤ x
    none l = let e : b ≡ 0 = omega arith in omega (arith, ap (λ (k : ℕ). x * k) e)

module _ {s : List ℕ} {from at : ℕ} (p : CharsBetween s from at) where
  -- A character of one or two bytes, where m bytes follow its first one.
  pub short-more : at + 2 ≤ length s → (m : ℕ) → (m ≡ get_or s at 0 / 128) × (m ≤ 1)
      → (0x80 ≤ get_or s at 0 →
      (0xC2 ≤ get_or s at 0) × (get_or s at 0 ≤ 0xDF) × (0x80 ≤ get_or s (at + m) 0) × (get_or s (at + m) 0 ≤ 0xBF))
      → CharsBetween s from (at + (1 + m))
  short-more h m e f = ⊎_elim two one (le_or_lt 0x80 (get_or s at 0))
    where
      one : get_or s at 0 < 0x80 → CharsBetween s from (at + (1 + m))
      one l =
          let k = packed_len (drop at s) _ (reads_1_at s at (omega arith) (omega arith)) in
          one_more (1 + m) p (omega (arith, k)) (omega arith)

      two : 0x80 ≤ get_or s at 0 → CharsBetween s from (at + (1 + m))
      two l =
          let g = f l in
          let i : m ≡ 1 = omega arith in
          let last = ap (λ (k : ℕ). get_or s (at + k) 0) i in
          let r = reads_2_at s at (omega arith) (record { low = g.0; high = g.1 })
          (record { low = omega (arith, last); high = omega (arith, last) }) in
          let k = packed_len (drop at s) _ r in
          one_more (1 + m) p (omega (arith, k)) (omega arith)

  three_len : at + 3 ≤ length s → 0xE1 ≤ get_or s at 0 → get_or s at 0 ≤ 0xEF → (get_or s at 0 ≡ 0xED → ⊥) → 0x80 ≤ get_or s (at + 1) 0
      → get_or s (at + 1) 0 ≤ 0xBF → 0x80 ≤ get_or s (at + 2) 0 → get_or s (at + 2) 0 ≤ 0xBF → 3 ≡ char_len (read_char (drop at s))
  three_len h a b n c d e f =
      let v = value_3 (get_or s at 0) (get_or s (at + 1) 0) (get_or s (at + 2) 0) in
      let r = reads_3_at s at (omega arith) (record { low = omega arith; high = b }) (record { low = c; high = d })
      (record { low = e; high = f }) (omega arith) (scalar v (omega arith) (λ l. omega arith)) in
      let l = packed_len (drop at s) _ r in
      omega (arith, l)

  pub three-more : at + 3 ≤ length s → 0xE1 ≤ get_or s at 0 → get_or s at 0 ≤ 0xEF → (get_or s at 0 ≡ 0xED → ⊥) → 0x80 ≤ get_or s (at + 1) 0
      → get_or s (at + 1) 0 ≤ 0xBF → 0x80 ≤ get_or s (at + 2) 0 → get_or s (at + 2) 0 ≤ 0xBF → CharsBetween s from (at + 3)
  three-more h a b n c d e f = one_more 3 p (three_len h a b n c d e f) (omega arith)

  four_len : at + 4 ≤ length s → 0xF0 ≤ get_or s at 0 → get_or s at 0 ≤ 0xF3 → (get_or s at 0 ≡ 0xF0 → 0x90 ≤ get_or s (at + 1) 0)
      → In 0x80 0xBF (get_or s (at + 1) 0) → In 0x80 0xBF (get_or s (at + 2) 0) → In 0x80 0xBF (get_or s (at + 3) 0)
      → 4 ≡ char_len (read_char (drop at s))
  four_len h a b n c d e =
      let v = value_4 (get_or s at 0) (get_or s (at + 1) 0) (get_or s (at + 2) 0) (get_or s (at + 3) 0) in
      let i : In 0x10000 0x10FFFF v =
      ⊎_elim (λ l. record { low = omega arith; high = omega arith })
      (λ l. let k = n (omega arith) in record { low = omega arith; high = omega arith }) (le_or_lt 0xF1 (get_or s at 0)) in
      let l = packed_len (drop at s) _ (reads_4_at s at (omega arith) (record { low = a; high = omega arith }) c d e i) in
      omega (arith, l)

  -- A character of three or four bytes, where m bytes follow its first one.
  pub long_more : at + 4 ≤ length s → (m : ℕ) → m ≡ get_or s at 0 / 16 - 12 → 0xE1 ≤ get_or s at 0 → get_or s at 0 ≤ 0xF3
      → (get_or s at 0 ≡ 0xED → ⊥) → (get_or s at 0 ≡ 0xF0 → 0x80 ≤ get_or s (at + 1) 0 → 0x90 ≤ get_or s (at + 1) 0)
      → In 0x80 0xBF (get_or s (at + 1) 0) → In 0x80 0xBF (get_or s (at + 2) 0) → In 0x80 0xBF (get_or s (at + m) 0)
      → CharsBetween s from (at + (1 + m))
  long_more h m e a b n f c d g = ⊎_elim four three (le_or_lt 0xF0 (get_or s at 0))
    where
      three : get_or s at 0 < 0xF0 → CharsBetween s from (at + (1 + m))
      three l =
          let k = three_len (omega arith) a (omega arith) n c.low c.high d.low d.high in
          one_more (1 + m) p (omega (arith, k)) (omega arith)

      four : 0xF0 ≤ get_or s at 0 → CharsBetween s from (at + (1 + m))
      four l =
          let i : m ≡ 3 = omega arith in
          let last = ap (λ (k : ℕ). get_or s (at + k) 0) i in
          let k = four_len h l b (λ x. f x c.low) c d (record { low = omega (arith, last); high = omega (arith, last) }) in
          one_more (1 + m) p (omega (arith, k)) (omega arith)

-- A run of ASCII.
pub ascii_more : {s : List ℕ} {from end : ℕ} → end ≡ ascii_end s from → from ≤ length s → CharsBetween s from end
ascii_more {s} {from} e h =
    let a = (longest_at e).0 in
    record { forward = a.from_le; inside = a.inside h; same_end = valid_up_to-past {total = from + valid_up_to_of (drop from s)} a h refl }
