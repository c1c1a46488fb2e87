-- The three cases of a program's output: a message over the limit, a refusal, and the program's own result. And what a program writes
-- for a message that is too long to be read whole.
use mathlib.Core.Path.{◌≡◌, ap, sym, ◌∙◌, subst}
use mathlib.Core.Bool.{Bool, cond}
use mathlib.Core.List.{List}
use Prim.Native.Nat.{ℕ, ◌<◌, ◌≤◌}
use lib.ListN.{length, length-append}
use native.Mathlib.Omega.{arith}
use Rattle.std.specs.Prelude as Prelude
use Rattle.std.specs.Prelude.{None, Some, Ok, Err, Result, OnOk, IfSome, Option}
use Rattle.std.specs.Io.KnownBytes.{Appends, Consumes}
use borrow.Author.Tests.{le-leb, lt-leb}
use Rattle.base.specs.Refusals.{or_else}
use Rattle.base.specs.declared.Refusal.{Refusal}
use Rattle.base.specs.declared.Refusal.TheVariants.{TextTooLong}
use Rattle.message_io.specs.Lines.{program_output, refusal_line}

module _ (limit : ℕ) (message : List ℕ) (o : Option Refusal) (result : List ℕ) where
  pub too_long : limit < length message → refusal_line TextTooLong ≡ program_output limit message o result
  unfolding program_output
  too_long h = sym (ap (λ (b : Bool). cond b (or_else o refusal_line result) (refusal_line TextTooLong)) (lt-leb (length message) limit h))

  short : length message ≤ limit → or_else o refusal_line result ≡ program_output limit message o result
  unfolding program_output
  short h = sym (ap (λ (b : Bool). cond b (or_else o refusal_line result) (refusal_line TextTooLong)) (le-leb (length message) limit h))

  pub refused : {r : Refusal} → length message ≤ limit → o ≡ Some r → refusal_line r ≡ program_output limit message o result
  refused h e = sym (ap (λ (o : Option Refusal). or_else o refusal_line result) e) ∙ short h

  pub passed : length message ≤ limit → o ≡ None → result ≡ program_output limit message o result
  passed h e = sym (ap (λ (o : Option Refusal). or_else o refusal_line result) e) ∙ short h

-- What holds of an Ok, by what is known of it.
pub on_ok : {A E : Type 0} (r : Result A E) {P Q : Type 0} → (P → Q) → OnOk r P → OnOk r Q
on_ok (Ok x) f h = f h
on_ok (Err e) f h = tt

-- The reader gave a full buffer, which is over the limit, so that the output for the buffer is the one for all that the reader has.
pub long-given : (limit : ℕ) (output : List ℕ → List ℕ) {line : List ℕ}
    → ((message : List ℕ) → limit < length message → line ≡ output message)
    → (a b w w' : Prelude.Option (List ℕ)) (buf : List ℕ) → limit < length buf → Consumes a b buf → Appends w w' (output buf)
    → IfSome a (λ message. Appends w w' (output message))
long-given limit output long None b w w' buf h p q = tt
long-given limit output long (Some xs) None w w' buf h p q = absurd p
long-given limit output long (Some xs) (Some ys) w w' buf h p q =
    let l : limit < length xs = omega (arith, h, ap length p, length-append buf ys) in
    subst (Appends w w') (sym (long buf h) ∙ long xs l) q
