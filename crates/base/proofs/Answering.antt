-- The promises that name a row (specs/Answers.antt): how a function's proof builds them, and how a caller's proof uses them.
use mathlib.Core.Path.{◌≡◌, ap, ap₂}
use mathlib.Core.List.{List}
use Rattle.base.specs.Answers.{Answers, EndsAs}
use Rattle.base.specs.Refusals.{After, RefusalRow}

module _ {R : Type 0} {row : R → RefusalRow} where
  -- From the answer that the definition gives.
  pub answers : {said r : R} → r ≡ said → Answers row said r
  answers e = record { same = e; same_row = ap row e }

  -- From the answer and the buffer that the definition gives.
  pub ends_as : {A : Type 0} {said : After R A} {r : R} {after : List A} → record { answer = r; buffer = after } ≡ said
      → EndsAs row said r after
  ends_as {A} e = record { answer = answers (ap (λ (a : After R A). a.answer) e); buffer = ap (λ (a : After R A). a.buffer) e }

  -- The answer and the buffer as one equation, for callers.
  pub whole : {A : Type 0} {said : After R A} {r : R} {after : List A} → EndsAs row said r after → record { answer = r; buffer = after }
      ≡ said
  whole {A} h = ap₂ (λ (r : R) (b : List A). record { answer = r; buffer = b }) h.answer.same h.buffer
