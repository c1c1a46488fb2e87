-- The length of a written sheet: at most 7 bytes for each entry and one for each line.
use mathlib.Core.Path.{◌≡◌, refl, ap}
use mathlib.Core.Bool.{Bool, true, false, cond}
use mathlib.Core.List.{List, [], ◌∷◌, ◌++◌, map}
use Prim.Native.Nat.{ℕ, suc, ◌+◌, ◌*◌, ◌≤◌}
use native.Mathlib.Omega.{arith}
use lib.Dec.{eqb, ltb}
use lib.ListN.{length, length-append}
use borrow.Author.Tests.{eq-eqb, eqb-true}
use Rattle.base.specs.Texts.{parted}
use Rattle.emoji.specs.UnicodeData.{variation_entries}
use Rattle.policy_key_set.specs.Sets.{member}
use Rattle.policy_key_set.proofs.Entries.{entries_length}
use Rattle.policy_key_set.proofs.Texts.{hex_length}
use Rattle.policy.specs.declared.Policy.{Policy}
use Rattle.policy_sheet.specs.Writer.{
  Run,
  fewest_digits,
  first_in,
  joined,
  line_text,
  point_text,
  run_text,
  runs_from,
  with_entry,
  write_sheet,
}

most-six : (c : ℕ) → fewest_digits c ≤ 6
unfolding fewest_digits
most-six c = go (ltb c 0x100) (ltb c 0x10000) (ltb c 0x100000)
  where
    go : (s t u : Bool) → cond s 2 (cond t 4 (cond u 5 6)) ≤ 6
    go true t u = omega arith
    go false true u = omega arith
    go false false true = omega arith
    go false false false = omega arith

point_length : (c : ℕ) → length (point_text c) ≡ fewest_digits c
point_length c = hex_length (fewest_digits c) c

-- The text of a run has the digits of its last code point, and at most a dash and the digits of its first one besides.
run-least : (r : Run) → fewest_digits r.last ≤ length (run_text r)
unfolding run_text
run-least r = go (eqb r.first r.last) refl
  where
    go : (t : Bool) → eqb r.first r.last ≡ t
        → fewest_digits r.last ≤ length (cond t (point_text r.first) (point_text r.first ++ (0x2D ∷ point_text r.last)))
    go true e =
        let f : fewest_digits r.first ≡ fewest_digits r.last = ap fewest_digits (eqb-true r.first r.last e) in
        omega (arith, point_length r.first)
    go false e = omega (arith, point_length r.last, length-append (point_text r.first) (0x2D ∷ point_text r.last))

run-most : (c l : ℕ) → length (run_text (record { first = c; last = l })) ≤ fewest_digits c + 1 + fewest_digits l
unfolding run_text
run-most c l = go (eqb c l)
  where
    go : (t : Bool) → length (cond t (point_text c) (point_text c ++ (0x2D ∷ point_text l))) ≤ fewest_digits c + 1 + fewest_digits l
    go true = omega (arith, point_length c)
    go false = omega (arith, point_length c, point_length l, length-append (point_text c) (0x2D ∷ point_text l))

single_most : (c : ℕ) → length (run_text (record { first = c; last = c })) ≤ 6
unfolding run_text
single_most c =
    let e : cond (eqb c c) (point_text c) (point_text c ++ (0x2D ∷ point_text c)) ≡ point_text c = rw (eq-eqb c c refl) in
    omega (arith, ap length e, point_length c, most-six c)

-- The length of runs, with a byte after each.
unfoldable cost : List Run → ℕ
cost [] = 0
cost (r ∷ rs) = length (run_text r) + 1 + cost rs

parted-cost : (rs : List Run) → length (parted 0x2C (map run_text rs)) ≤ cost rs
unfolding parted cost
parted-cost [] = omega arith
parted-cost (r ∷ []) = omega arith
parted-cost (r ∷ (q ∷ rs)) =
    omega (arith, parted-cost (q ∷ rs), length-append (run_text r) (0x2C ∷ parted 0x2C (run_text q ∷ map run_text rs)))

joined-cost : (c : ℕ) (rs : List Run) → cost (joined c rs) ≤ 7 + cost rs
unfolding joined cost
joined-cost c [] = omega (arith, single_most c)
joined-cost c (r ∷ rs) = omega (arith, run-most c r.last, run-least r, most-six c)

entry_cost : (c : ℕ) (b n : Bool) (rs : List Run) → cost (with_entry c b n rs) ≤ 7 + cost rs
unfolding with_entry cost
entry_cost c false n rs = omega arith
entry_cost c true false rs = omega (arith, single_most c)
entry_cost c true true rs = joined-cost c rs

runs-cost : (p : ℕ → Bool) (i : ℕ) (cs : List ℕ) → cost (runs_from p i cs) ≤ 7 * length cs
unfolding runs_from cost
runs-cost p i [] = omega arith
runs-cost p i (c ∷ cs) =
    omega (arith, runs-cost p (suc i) cs, entry_cost c (p i) (first_in p (suc i) cs) (runs_from p (suc i) cs))

line-few : (ws : List ℕ) → length (line_text ws) ≤ 2479
unfolding line_text
line-few ws =
    let rs = runs_from (λ (i : ℕ). member i ws) 0 variation_entries in
    omega (
      arith,
      runs-cost (λ (i : ℕ). member i ws) 0 variation_entries,
      parted-cost rs,
      entries_length,
      length-append (parted 0x2C (map run_text rs)) (0x0A ∷ []),
    )

pub sheet_few : (p : Policy) → length (write_sheet p) ≤ 9916
unfolding write_sheet
sheet_few p =
    let a = p.prefer_bare.chars.bits in
    let b = p.prefer_bare.keycap_chars.bits in
    let c = p.bare_as_text.chars.bits in
    let d = p.bare_as_text.keycap_chars.bits in
    omega (
      arith,
      line-few a,
      line-few b,
      line-few c,
      line-few d,
      length-append (line_text a) (line_text b),
      length-append (line_text a ++ line_text b) (line_text c),
      length-append ((line_text a ++ line_text b) ++ line_text c) (line_text d),
    )
