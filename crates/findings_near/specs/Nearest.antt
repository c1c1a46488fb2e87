-- The finding nearest to an offset, and the whole outcome of the call that gives it (document 02, ix).
use Rattle.std.specs.Prelude.{◌&&◌, cond, List, [], ◌∷◌, ◌++◌, ℕ, ◌+◌, ◌-◌, min, leb, ltb, length, Ok, Err, Some, None, Result, Option}
use Rattle.base.specs.Refusals.{After, or_else, unwritten, written}
use Rattle.base.specs.Words.{bytes_of}
use Rattle.base.specs.declared.Refusal.{Refusal}
use Rattle.base.specs.declared.Refusal.TheVariants.{TableTooShort}
use Rattle.analysis.specs.declared.types.Finding.{Finding}
use Rattle.formatter.specs.Findings.{listed}
use Rattle.formatter.specs.Intake.{intake_refusal}
use Rattle.formatter.specs.List.{row_numbers}

-- "the difference between the offset and" another
abbrev pub difference : ℕ → ℕ → ℕ
difference a b = (a - b) + (b - a)

-- "distance 0 inside its span, otherwise the difference between the offset and that of its first or last byte, the smaller". The offset of
-- the last byte is the end less one.
unfoldable pub distance : ℕ → Finding → ℕ
distance o f = cond (leb f.start o && ltb o f.end) 0 (min (difference o f.start) (difference o (f.end - 1)))

-- The nearer of a finding and the nearest of those after it: "and the earlier finding when two are equally near".
unfoldable pub nearer : ℕ → Finding → Option Finding → Finding
nearer o f None = f
nearer o f (Some g) = cond (leb (distance o f) (distance o g)) f g

-- "For a single offset give the nearest finding .. A text with no finding answers none."
unfoldable pub nearest : ℕ → List Finding → Option Finding
nearest o [] = None
nearest o (f ∷ fs) = Some (nearer o f (nearest o fs))

-- ---- the call

-- The finding's row, then the distance.
abbrev pub nearest_numbers : ℕ → Finding → List ℕ
nearest_numbers o f = row_numbers f ++ (distance o f ∷ [])

-- The number of bytes of these fifteen numbers.
abbrev pub nearest_bytes : ℕ
nearest_bytes = 120

-- What is written of the nearest finding, if there is one: its row and the distance, or refusal 7 if they do not fit.
unfoldable pub write_nearest : ℕ → Option Finding → List ℕ → After (Result (Option ℕ) Refusal) ℕ
write_nearest o None row = unwritten (Ok None) row
write_nearest o (Some f) row =
    cond (leb nearest_bytes (length row)) (written (Ok (Some 1)) (bytes_of (nearest_numbers o f)) row)
    (unwritten (Err (TableTooShort 1)) row)

-- The call, with refusals 1, 2, 3 and 7 in this order. For a text without a finding the length of the row does not matter.
unfoldable pub give_nearest : List ℕ → List ℕ → ℕ → List ℕ → After (Result (Option ℕ) Refusal) ℕ
give_nearest text policy o row =
    or_else (intake_refusal text policy) (λ (r : Refusal). unwritten (Err r) row)
    (write_nearest o (nearest o (listed text policy)) row)
