-- Bytes are put into a lent buffer before and after a part of it, and then into that part.
use mathlib.Core.Path.{◌≡◌, ap, ap₂, sym, ◌∙◌}
use mathlib.Core.List.{List, ◌++◌, append_assoc}
use Prim.Native.Nat.{ℕ, ◌+◌, ◌≤◌}
use native.Mathlib.Nat.{zero-add}
use native.Mathlib.Omega.{arith}
use lib.ListN.{drop, length, length-append, take}
use lib.Seq.{drop_at, drop-drop, length-sets, length-take-le, sets, sets-eq, take-append-le, take_at, take-take}

-- If a and c are put into a buffer with room for b between them, and then b is put there, the buffer has a, b and c in a row, and the rest
-- is as it was.
module _ (a b c o : List ℕ) {m n : ℕ} (la : length a ≡ m) (lb : length b ≡ n) (h : m + n + length c ≤ length o) where
  abbrev A : List ℕ
  A = sets o 0 a

  abbrev Z : List ℕ
  Z = drop (m + n + length c) A

  first : A ≡ a ++ drop m o
  first = sets-eq a o 0 (omega arith) ∙ ap (λ (k : ℕ). a ++ drop k o) (zero-add (length a) ∙ la)

  front_length : length (take (m + n) A) ≡ m + n
  front_length = length-take-le (m + n) A (omega (arith, length-sets o 0 a))

  second : sets A (m + n) c ≡ take (m + n) A ++ (c ++ Z)
  second = sets-eq c A (m + n) (omega (arith, length-sets o 0 a)) ∙ append_assoc (take (m + n) A) c Z

  before : take m (sets A (m + n) c) ≡ a
  before =
      ap (take m) second ∙ take-append-le m (take (m + n) A) (c ++ Z) (omega (arith, front_length)) ∙ take-take m (m + n) A (omega arith)
      ∙ ap (take m) first ∙ take_at a (drop m o) m la

  after : drop n (drop m (sets A (m + n) c)) ≡ c ++ Z
  after = drop-drop n m (sets A (m + n) c) ∙ ap (drop (m + n)) second ∙ drop_at (take (m + n) A) (c ++ Z) (m + n) front_length

  row_length : length (a ++ b ++ c) ≡ m + n + length c
  row_length = omega (arith, length-append (a ++ b) c, length-append a b)

  rest : Z ≡ drop (length (a ++ b ++ c)) o
  rest =
      let e : m + n + length c ≡ m + (n + length c) = omega arith in
      ap (drop (m + n + length c)) first ∙ ap (λ (k : ℕ). drop k (a ++ drop m o)) e ∙ sym (drop-drop (n + length c) m (a ++ drop m o))
      ∙ ap (drop (n + length c)) (drop_at a (drop m o) m la) ∙ drop-drop (n + length c) m o
      ∙ ap (λ (k : ℕ). drop k o) (sym e ∙ sym row_length)

  pub between : take m (sets A (m + n) c) ++ (b ++ drop n (drop m (sets A (m + n) c))) ≡ (a ++ b ++ c) ++ drop (length (a ++ b ++ c)) o
  between =
      let D = drop (length (a ++ b ++ c)) o in
      ap₂ (λ (x y : List ℕ). x ++ (b ++ y)) before (after ∙ ap (λ (l : List ℕ). c ++ l) rest)
      ∙ sym (append_assoc (a ++ b) c D ∙ append_assoc a b (c ++ D))
