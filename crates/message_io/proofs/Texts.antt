-- Lines, written piece by piece.
use mathlib.Core.Path.{◌≡◌, refl, sym, ap, ◌∙◌}
use mathlib.Core.List.{List, [], ◌∷◌, ◌++◌, append_assoc, append-nil, map}
use Prim.Native.Nat.{ℕ, zero, suc, ◌+◌, ◌<◌, ◌≤◌}
use native.Mathlib.Nat.{add-zero, not-suc-le-zero, zero-add}
use native.Mathlib.Omega.{arith}
use lib.ListN.{drop, get_or, length, take}
use lib.Seq.{drop-append_seam, length-sets, sets-eq, take-append_seam}
use Rattle.io.specs.Counts.{IsPrefixLen}
use Rattle.base.specs.Output.{PutAt}
use Rattle.base.specs.Texts.{parted}
use Rattle.base.proofs.Writer.{put_as, put_then}
use Rattle.message_io.specs.Lines.{with_blanks, decimal, line}

-- A line is its first text, and the others with a blank before each.
pub blanks : (t : List ℕ) (ts : List (List ℕ)) → parted 0x20 (t ∷ ts) ≡ t ++ with_blanks ts
unfolding parted with_blanks
blanks t [] = sym (append-nil t)
blanks t (u ∷ ts) = ap (λ (xs : List ℕ). t ++ (0x20 ∷ xs)) (blanks u ts)

pub line_put : {o o₁ o₂ o₃ t : List ℕ} {i j r : ℕ} (ts : List (List ℕ)) → PutAt o 0 t o₁ i → PutAt o₁ i (with_blanks ts) o₂ j
    → PutAt o₂ j (0x0A ∷ []) o₃ r → PutAt o 0 (line (t ∷ ts)) o₃ r
unfolding line
line_put {t = t} ts p q s =
    put_as (parted 0x20 (t ∷ ts) ++ (0x0A ∷ [])) (ap (λ (xs : List ℕ). xs ++ (0x0A ∷ [])) (sym (blanks t ts))) (put_then (put_then p q) s)

-- Bytes that are written at the front of a buffer are its front, and the bytes after them are unchanged.
pub front : {o o' xs : List ℕ} {r : ℕ} → PutAt o 0 xs o' r → r ≤ length o → IsPrefixLen r o' × ((take r o' ≡ xs) × (drop r o' ≡ drop r o))
front {o} {o'} {xs} {r} p h =
    let e : r ≡ length xs = p.ends ∙ zero-add (length xs) in
    let b : o' ≡ xs ++ drop (length xs) o = p.bytes ∙ sets-eq xs o 0 (omega arith)
    ∙ ap (λ (k : ℕ). xs ++ drop k o) (zero-add (length xs)) in
    let t : take r o' ≡ xs = ap (λ (k : ℕ). take k o') e ∙ ap (take (length xs)) b ∙ take-append_seam xs (drop (length xs) o) in
    let d : drop r o' ≡ drop r o =
    ap (λ (k : ℕ). drop k o') e ∙ ap (drop (length xs)) b ∙ drop-append_seam xs (drop (length xs) o) ∙ ap (λ (k : ℕ). drop k o) (sym e) in
    ((omega (arith, ap length p.bytes, length-sets o 0 xs), e ∙ ap length (sym t)), (t, d))

-- One more number.
pub numbers-next : (i : ℕ) (ns : List ℕ) → i < length ns
    → with_blanks (map decimal (take (suc i) ns)) ≡ with_blanks (map decimal (take i ns)) ++ (0x20 ∷ decimal (get_or ns i 0))
unfolding with_blanks
numbers-next zero [] h = absurd (not-suc-le-zero h)
numbers-next (suc i) [] h = absurd (not-suc-le-zero h)
numbers-next zero (n ∷ ns) h = ap (λ (xs : List ℕ). 0x20 ∷ xs) (append-nil (decimal n))
numbers-next (suc i) (n ∷ ns) h =
    let m = with_blanks (map decimal (take i ns)) in
    let x : List ℕ = 0x20 ∷ decimal (get_or ns i 0) in
    ap (λ (xs : List ℕ). 0x20 ∷ (decimal n ++ xs)) (numbers-next i ns (omega arith))
    ∙ ap (λ (xs : List ℕ). 0x20 ∷ xs) (sym (append_assoc (decimal n) m x))

-- The value of a refusal: a number, for which 21 bytes are enough, or nothing.
pub value_put : {o o₁ : List ℕ} {s r n : ℕ} (ns : List ℕ) → ns ≡ n ∷ [] → PutAt o s (0x20 ∷ decimal n) o₁ r × (r ≤ s + 21)
    → PutAt o s (with_blanks (map decimal ns)) o₁ r × (r ≤ s + 21)
unfolding with_blanks
value_put {n = n} ns e p = (
  put_as (with_blanks (map decimal ns))
      (ap (λ (xs : List ℕ). 0x20 ∷ xs) (sym (append-nil (decimal n))) ∙ ap (λ (ns : List ℕ). with_blanks (map decimal ns)) (sym e))
      p.0,
  p.1,
)

pub nothing_put : {o : List ℕ} {s : ℕ} (ns : List ℕ) → ns ≡ [] → PutAt o s (with_blanks (map decimal ns)) o s × (s ≤ s + 21)
unfolding with_blanks
nothing_put {s = s} ns e = (
  put_as (with_blanks (map decimal ns))
      (ap (λ (ns : List ℕ). with_blanks (map decimal ns)) (sym e))
      (record { ends = sym (add-zero s); bytes = refl }),
  omega arith,
)
