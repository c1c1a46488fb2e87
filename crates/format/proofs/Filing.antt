-- The filed text of the message and the buffer is the program's output, for each answer of formatting.
use Rattle.std.specs.Prelude.{Ok, Err, Some, None, Result, Option}
use mathlib.Core.Path.{◌≡◌, refl, ap, sym, ◌∙◌, subst}
use mathlib.Core.Bool.{Bool, true, false, cond}
use mathlib.Core.List.{List}
use Prim.Native.Nat.{ℕ, ◌<◌, ◌≤◌}
use native.Mathlib.Nat.{zero-add}
use native.Mathlib.Omega.{arith}
use lib.Dec.{leb}
use lib.ListN.{length, take}
use lib.Seq.{sets, take_all}
use borrow.Author.Tests.{leb-false}
use Rattle.base.specs.Output.{room_for}
use Rattle.base.specs.declared.Refusal.{Refusal}
use Rattle.base.specs.declared.Refusal.TheVariants.{TextTooLong}
use Rattle.base.proofs.Output.{bytes_put}
use Rattle.formatter.specs.Filed.{filed_text}
use Rattle.formatter.specs.Format.{formatted}
use Rattle.formatter.specs.Intake.{intake_refusal}
use Rattle.message_io.specs.Lines.{refusal_line}
use Rattle.message_io.proofs.Outputs.{passed, refused, too_long}
use Rattle.message_io.proofs.Texts.{front}
use Rattle.format.specs.Output.{AnswerMeans, FormatsMessage, message_limit, output_of, policy}

-- A line that is written at the front of a buffer, if it fits.
pub line-front : (o o' xs : List ℕ) {line : List ℕ} {n : ℕ} → n ≡ length xs → n ≤ length o → xs ≡ line
    → o' ≡ cond (room_for xs o 0) (sets o 0 xs) o → take n o' ≡ line
line-front o o' xs e h l w =
    let p = bytes_put o o' 0 xs (omega arith) w in
    ap (λ (k : ℕ). take k o') (e ∙ sym (zero-add (length xs))) ∙ (front p (omega arith)).1.0 ∙ l

module _ (message : List ℕ) where
  -- The refusal of the tests, if there is one, and the formatted text.
  abbrev intakes : Option Refusal
  intakes = intake_refusal message policy

  abbrev result : List ℕ
  result = formatted message policy

  -- The filed text of a changed message is the front of the buffer.
  front-filed : (out : List ℕ) (n : ℕ) → filed_text message out true n ≡ take n out
  unfolding filed_text
  front-filed out n = go (leb n (length out)) refl
    where
      go : (b : Bool) → leb n (length out) ≡ b → cond b (take n out) out ≡ take n out
      go true e = refl
      go false e = sym (take_all n out (omega (arith, leb-false n (length out) e)))

  pub long_filed : (after : List ℕ) (n : ℕ) → message_limit < length message → take n after ≡ refusal_line TextTooLong
      → filed_text message after true n ≡ output_of message
  unfolding output_of
  long_filed after n h e = front-filed after n ∙ e ∙ too_long message_limit message intakes result h

  module _ {before after : List ℕ} {a : Result (Option ℕ) Refusal} (s : FormatsMessage message before a after)
      (h : length message ≤ message_limit) where
    pub unchanged-filed : a ≡ Ok None → filed_text message after false 0 ≡ output_of message
    unfolding filed_text output_of
    unchanged-filed e =
        let t = subst (λ (a : Result (Option ℕ) Refusal). AnswerMeans message a after) e s.meaning in
        t.1 ∙ passed message_limit message intakes result h t.0

    pub changed-filed : {n : ℕ} → a ≡ Ok (Some n) → filed_text message after true n ≡ output_of message
    unfolding output_of
    changed-filed {n} e =
        let t = subst (λ (a : Result (Option ℕ) Refusal). AnswerMeans message a after) e s.meaning in
        front-filed after n ∙ t.1 ∙ passed message_limit message intakes result h t.0

    pub refused-filed : {r : Refusal} (out : List ℕ) (n : ℕ) → a ≡ Err r → take n out ≡ refusal_line r
        → filed_text message out true n ≡ output_of message
    unfolding output_of
    refused-filed out n e l =
        let t = subst (λ (a : Result (Option ℕ) Refusal). AnswerMeans message a after) e s.meaning in
        front-filed out n ∙ l ∙ refused message_limit message intakes result h t

-- ---- the program as a whole

-- The output for a message over the limit.
pub long-output : (message : List ℕ) → message_limit < length message → refusal_line TextTooLong ≡ output_of message
unfolding output_of
long-output message h = too_long message_limit message (intakes message) (result message) h
