-- The output of the program for a message, `output_of` (document 01, "Programs": "One writes the formatted text"); and the answer of
-- formatting into a buffer of five halves of the message's length. This answer is the one of `format`, and it is never refusal 8.
use Rattle.base.specs.declared.Refusal.{Refusal}
use Rattle.std.specs.Prelude.{◌≡◌, List, ℕ, take, Ok, Err, Some, None, Result, Option}
use Rattle.policy.specs.DefaultPolicy.{default_policy}
use Rattle.policy.specs.PolicyBytes.{policy_bytes}
use Rattle.base.specs.Refusals.{After}
use Rattle.formatter.specs.Format.{format, formatted}
use Rattle.formatter.specs.Intake.{intake_refusal}
use Rattle.message_io.specs.Lines.{program_output}

-- Document 02, (vii): "The formatting program then reads up to 16,384 bytes with an output of 40,960, and refuses more by 1."
abbrev pub message_limit : ℕ
message_limit = 16384

-- The bytes of the default policy.
abbrev pub policy : List ℕ
policy = policy_bytes default_policy

-- The output of the program: the formatted text, or the line of a refusal.
unfoldable pub output_of : List ℕ → List ℕ
output_of message = program_output message_limit message (intake_refusal message policy) (formatted message policy)

-- The meaning of the answer. Unchanged: all tests passed, and the message is the formatted text. Changed: all tests passed, and the
-- formatted text is the front of the buffer. Refused: it is the refusal of the tests. So a message that is not well-formed is always
-- refused, and refusal 8 is no answer.
abbrev pub AnswerMeans : List ℕ → Result (Option ℕ) Refusal → List ℕ → Type 0
AnswerMeans message (Ok None) out = (intake_refusal message policy ≡ None) × (message ≡ formatted message policy)
AnswerMeans message (Ok (Some n)) out = (intake_refusal message policy ≡ None) × (take n out ≡ formatted message policy)
AnswerMeans message (Err r) out = intake_refusal message policy ≡ Some r

-- Contract of formatting a message: the answer and the buffer are those of `format`, and the answer has its meaning.
pub record FormatsMessage (message before : List ℕ) (answered : Result (Option ℕ) Refusal) (after : List ℕ) : Type 0 where
  pub result : ◌≡◌ {A = After (Result (Option ℕ) Refusal) ℕ} (record { answer = answered; buffer = after }) (format message policy before)
  pub meaning : AnswerMeans message answered after
