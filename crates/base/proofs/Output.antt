-- The two ways in which writing a result into a lent buffer can end.
use Rattle.base.specs.declared.Refusal.TheVariants.{OutputTooShort}
use Rattle.std.specs.Prelude.{Ok, Err}
use mathlib.Core.Path.{◌≡◌, refl, ap, ◌∙◌, subst}
use mathlib.Core.Bool.{Bool, cond}
use mathlib.Core.List.{List, ◌++◌}
use Prim.Native.Nat.{ℕ, ◌+◌, ◌-◌, ◌<◌, ◌≤◌}
use native.Mathlib.Nat.{zero-add}
use native.Mathlib.Omega.{arith}
use lib.ListN.{drop, length, length-drop, take}
use lib.Seq.{length-take-le, sets, sets-eq}
use borrow.Author.Tests.{le-leb, lt-leb}
use Rattle.base.specs.Output.{PutAt, Wrote, answer_of, buffer_of, room_for}
use Rattle.base.proofs.Answering.{answers}

-- The result fits, and the buffer has it at the front.
pub wrote : {before after result : List ℕ} {n r : ℕ} → n ≡ length result → n ≤ length before → PutAt before 0 result after r
    → Wrote result before after (Ok n)
unfolding answer_of buffer_of
wrote {before} {after} {result} {n} e h p =
    let l : length result ≤ length before = omega arith in
    let t = le-leb (length result) (length before) l in
    record {
      answered = answers (ap Ok e ∙ simp t);
      buffer = p.bytes ∙ sets-eq result before 0 (omega arith) ∙ ap (λ (k : ℕ). result ++ drop k before) (zero-add (length result))
          ∙ simp t;
    }

-- The result does not fit, and the buffer does not change.
pub too_short : {before : List ℕ} {n : ℕ} (result : List ℕ) → n ≡ length result → length before < n
    → Wrote result before before (Err (OutputTooShort n))
unfolding answer_of buffer_of
too_short {before} {n} result e h =
    let l : length before < length result = omega arith in
    let t = lt-leb (length result) (length before) l in
    record { answered = answers (ap (λ (k : ℕ). Err (OutputTooShort k)) e ∙ simp t); buffer = simp t }

-- The contract of `write_bytes` where the bytes fit.
pub bytes_put : (o o' : List ℕ) (at : ℕ) (xs : List ℕ) → at + length xs ≤ length o → o' ≡ cond (room_for xs o at) (sets o at xs) o
    → PutAt o at xs o' (at + length xs)
bytes_put o o' at xs h e = record {
  ends = refl;
  bytes = e ∙ ap (λ (t : Bool). cond t (sets o at xs) o) (le-leb (at + length xs) (length o) h);
}

-- .. of a part of a text
pub part_put : (o o' : List ℕ) (at : ℕ) (t : List ℕ) (from to : ℕ) → from ≤ to → to ≤ length t → at + (to - from) ≤ length o
    → o' ≡ cond (room_for (take (to - from) (drop from t)) o at) (sets o at (take (to - from) (drop from t))) o
    → PutAt o at (take (to - from) (drop from t)) o' (at + (to - from))
part_put o o' at t from to p q r e =
    let n : length (take (to - from) (drop from t)) ≡ to - from =
    length-take-le (to - from) (drop from t) (omega (arith, length-drop from t)) in
    subst (λ (k : ℕ). PutAt o at (take (to - from) (drop from t)) o' (at + k)) n
    (bytes_put o o' at (take (to - from) (drop from t)) (omega arith) e)
