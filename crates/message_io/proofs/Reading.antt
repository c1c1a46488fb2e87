-- Storing bytes in a buffer does not change the bytes before and after them, and what a reader gave piece by piece.
use mathlib.Core.Path.{◌≡◌, sym, ap, ◌∙◌, subst}
use mathlib.Core.Bool.{cond}
use mathlib.Core.List.{List, ◌++◌, append_assoc}
use Prim.Native.Nat.{ℕ, ◌+◌, ◌≤◌}
use native.Mathlib.Omega.{arith}
use lib.ListN.{drop, length, length-append, take}
use lib.Seq.{drop_at, drop-drop, length-take-le, sets, sets-eq, take_at, take-add}
use Rattle.std.specs.Prelude.{Option}
use Rattle.std.specs.Io.KnownBytes.{Consumes}
use Rattle.std.proofs.KnownBytes.{Consumes-trans}
use Rattle.base.specs.Output.{room_for}
use Rattle.base.proofs.Output.{bytes_put}

-- One piece of n bytes.
pub around_piece : (o o' xs : List ℕ) (at : ℕ) {n : ℕ} → n ≡ length xs → at + n ≤ length o
    → o' ≡ cond (room_for xs o at) (sets o at xs) o → (take at o' ≡ take at o) × (drop (at + n) o' ≡ drop (at + n) o)
around_piece o o' xs at {n} e h w =
    let front = take at o in
    let rest = drop (at + length xs) o in
    let f : length front ≡ at = length-take-le at o (omega arith) in
    let b : at + length xs ≤ length o = omega arith in
    let p : o' ≡ front ++ xs ++ rest = (bytes_put o o' at xs b w).bytes ∙ sets-eq xs o at b in
    let d = ap (drop (at + length xs)) p ∙ drop_at (front ++ xs) rest (at + length xs) (omega (arith, f, length-append front xs)) in
    (ap (take at) (p ∙ append_assoc front xs rest) ∙ take_at front (xs ++ rest) at f, rw e d)

-- One more piece after others.
pub after-pieces : (o o₁ o₂ : List ℕ) (at n : ℕ) → drop at o₁ ≡ drop at o → drop (at + n) o₂ ≡ drop (at + n) o₁
    → drop (at + n) o₂ ≡ drop (at + n) o
after-pieces o o₁ o₂ at n e f = f ∙ sym (drop-drop n at o₁) ∙ ap (drop n) e ∙ drop-drop n at o

-- The bytes of one piece lie at its offset.
pub piece-there : (o o' xs : List ℕ) (at : ℕ) {n : ℕ} → n ≡ length xs → at + n ≤ length o
    → o' ≡ cond (room_for xs o at) (sets o at xs) o → take n (drop at o') ≡ xs
piece-there o o' xs at {n} e h w =
    let front = take at o in
    let rest = drop (at + length xs) o in
    let f : length front ≡ at = length-take-le at o (omega arith) in
    let b : at + length xs ≤ length o = omega arith in
    let p : o' ≡ front ++ xs ++ rest = (bytes_put o o' at xs b w).bytes ∙ sets-eq xs o at b in
    ap (take n) (ap (drop at) (p ∙ append_assoc front xs rest) ∙ drop_at front (xs ++ rest) at f) ∙ take_at xs rest n (sym e)

-- What the reader gave for one more piece, after what it gave for others.
pub given-more : (a b c : Option (List ℕ)) (o o' : List ℕ) (at n : ℕ) → Consumes a b (take at o) → take at o' ≡ take at o
    → Consumes b c (take n (drop at o')) → Consumes a c (take (at + n) o')
given-more a b c o o' at n p e q =
    subst (Consumes a c) (ap (λ (xs : List ℕ). xs ++ take n (drop at o')) (sym e) ∙ sym (take-add at n o')) (Consumes-trans a b c _ _ p q)
