-- Taking damaged text in: the whole outcome of the call, `repair` (document 02, ii).
use Rattle.base.specs.declared.Refusal.{Refusal}
use Rattle.std.specs.Prelude.{cond, List, ℕ, leb, length, Ok, Err, Result}
use Rattle.base.specs.Answers.{done, two_values}
use Rattle.base.specs.Refusals.{After, RefusalRow, refusal_row, text_limit, unwritten, written}
use Rattle.base.specs.declared.Refusal.TheVariants.{OutputTooShort, TextTooLong}
use Rattle.repair.specs.Repaired.{repaired, replacements}
use Rattle.repair.specs.declared.Repaired.{Repaired}

-- The row of the answer: done with two values, the length written and the number of replacements; or the refusal's row.
unfoldable pub repair_row : Result Repaired Refusal → RefusalRow
repair_row (Ok r) = done (two_values r.len r.replaced)
repair_row (Err r) = refusal_row r

-- The call: refusals 1 and 8. "A new intake writes the text with each such stretch replaced by FFFD (three bytes), and the number of
-- replacements. .. The intake's limit 1 is on the bytes taken in. A short output is refused as before, with the wanted length." The call
-- writes a well-formed text too.
unfoldable pub repair : List ℕ → List ℕ → After (Result Repaired Refusal) ℕ
repair text out =
    let result = repaired text in
    cond (leb (length text) text_limit)
    (cond (leb (length result) (length out)) (written (Ok (record { len = length result; replaced = replacements text })) result out)
    (unwritten (Err (OutputTooShort (length result))) out))
    (unwritten (Err TextTooLong) out)
