-- The length of a line of small numbers: at most six bytes for each number.
use mathlib.Core.Path.{◌≡◌, ap, ◌∙◌}
use mathlib.Core.Bool.{Bool, true, false, cond}
use mathlib.Core.List.{List, [], ◌∷◌, ◌++◌, map}
use Prim.Native.Nat.{ℕ, zero, suc, ◌+◌, ◌*◌, ◌/◌, ◌%◌, ◌^◌, ◌<◌, ◌≤◌}
use native.Mathlib.Omega.{arith}
use lib.Dec.{ltb}
use lib.ListN.{length, length-append}
use borrow.Author.Tests.{lt-ltb}
use Rattle.base.specs.Texts.{parted}
use Rattle.message_io.specs.Lines.{with_blanks, decimal, decimal_by, finding_line, line, total_line}
use Rattle.message_io.proofs.Texts.{blanks}

-- The sum of a list of numbers.
abbrev pub sum : List ℕ → ℕ
sum [] = 0
sum (n ∷ ns) = n + sum ns

digits-few : (k fuel n : ℕ) → n < 10 ^ suc k → length (decimal_by fuel n) ≤ suc k
unfolding decimal_by
digits-few k zero n h = omega arith
digits-few zero (suc fuel) n h = rw (lt-ltb n 10 (omega arith)) (omega arith)
digits-few (suc k) (suc fuel) n h = go (ltb n 10) (digits-few k fuel (n / 10) (omega arith))
  where
    go : (b : Bool) → length (decimal_by fuel (n / 10)) ≤ suc k
        → length (cond b ((48 + n) ∷ []) (decimal_by fuel (n / 10) ++ ((48 + n % 10) ∷ []))) ≤ suc (suc k)
    go true i = omega arith
    go false i = omega (arith, length-append (decimal_by fuel (n / 10)) ((48 + n % 10) ∷ []))

-- A number below 100,000 has at most five digits.
five_digits : (n : ℕ) → n < 100000 → length (decimal n) ≤ 5
unfolding decimal
five_digits n h = digits-few 4 n n (omega arith)

blanks_length : (ns : List ℕ) → sum ns < 100000 → length (with_blanks (map decimal ns)) ≤ 6 * length ns
unfolding with_blanks
blanks_length [] h = omega arith
blanks_length (n ∷ ns) h =
    omega (arith, length-append (decimal n) (with_blanks (map decimal ns)), five_digits n (omega arith), blanks_length ns (omega arith))

line_length : (t : List ℕ) (ts : List (List ℕ)) → length (line (t ∷ ts)) ≡ length t + length (with_blanks ts) + 1
unfolding line
line_length t ts =
    length-append (parted 0x20 (t ∷ ts)) (0x0A ∷ [])
    ∙ ap (λ (n : ℕ). n + 1) (ap length (blanks t ts) ∙ length-append t (with_blanks ts))

pub finding_length : (n : ℕ) (ns : List ℕ) → n + sum ns < 100000 → length (finding_line (n ∷ ns)) ≤ 6 * suc (length ns)
unfolding finding_line
finding_length n ns h =
    omega (arith, line_length (decimal n) (map decimal ns), five_digits n (omega arith), blanks_length ns (omega arith))

-- The line of the totals: the word `total` has five letters.
pub total_length : (ns : List ℕ) → sum ns < 100000 → length (total_line ns) ≤ 6 * suc (length ns)
unfolding total_line
total_length ns h =
    omega (arith, line_length (0x74 ∷ 0x6F ∷ 0x74 ∷ 0x61 ∷ 0x6C ∷ []) (map decimal ns), blanks_length ns h)
