-- Writing a result into a lent buffer: the answer, and the buffer's contents after the call (document 01, "Turned back").
use Rattle.base.specs.declared.Refusal.TheVariants.{OutputTooShort}
use Rattle.base.specs.declared.Refusal.{Refusal}
use Rattle.std.specs.Prelude.{◌≡◌, Bool, cond, List, ◌++◌, ℕ, ◌+◌, leb, drop, length, Ok, Err, Result}
use Rattle.std.proofs.lemmas.List.Edits.{sets}
use Rattle.base.specs.Answers.{Answers, answer_row}

-- The answer: the number of bytes written, or refusal 8 ("output too short | 8 | length wanted").
unfoldable pub answer_of : List ℕ → List ℕ → Result ℕ Refusal
answer_of result out = cond (leb (length result) (length out)) (Ok (length result)) (Err (OutputTooShort (length result)))

-- The buffer after the call. "A success writes its result at the front and leaves the bytes or places behind it unchanged"; a refusal
-- leaves "all buffers" as they were.
unfoldable pub buffer_of : List ℕ → List ℕ → List ℕ
buffer_of result out = cond (leb (length result) (length out)) (result ++ drop (length result) out) out

-- The bytes fit into the buffer from the offset `at` on.
abbrev pub room_for : List ℕ → List ℕ → ℕ → Bool
room_for bytes out at = leb (at + length bytes) (length out)

-- Contract of a function that writes bytes at an offset: it writes them and returns true, or it returns false and the buffer is
-- unchanged.
abbrev pub WritesAt : List ℕ → List ℕ → ℕ → Bool → List ℕ → Type 0
WritesAt bytes before at r after =
    (r ≡ room_for bytes before at) × (after ≡ cond (room_for bytes before at) (sets before at bytes) before)

-- Contract of a function that writes a result at the front of a buffer: its answer, and the buffer after the call.
pub record Wrote (result before after : List ℕ) (answer : Result ℕ Refusal) : Type 0 where
  pub answered : Answers answer_row (answer_of result before) answer
  pub buffer : after ≡ buffer_of result before

-- ---- contracts of helper functions

-- Contract of a function that writes the list xs at an offset: it returns the offset after the list, and changes no other byte.
pub record PutAt (before : List ℕ) (at : ℕ) (xs after : List ℕ) (r : ℕ) : Type 0 where
  pub ends : r ≡ at + length xs
  pub bytes : after ≡ sets before at xs
