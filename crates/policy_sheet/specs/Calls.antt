-- The whole outcome of the two calls on sheets: the answer, and the lent buffer after the call (document 02, vi).
use Rattle.std.specs.Prelude.{cond, List, ℕ, leb, length, Err, Result}
use Rattle.base.specs.Output.{answer_of, buffer_of}
use Rattle.base.specs.Refusals.{After, or_else, text_limit, unwritten}
use Rattle.base.specs.declared.Refusal.{Refusal}
use Rattle.base.specs.declared.Refusal.TheVariants.{NotASheet, NotAnEntry, TextTooLong}
use Rattle.policy.specs.PolicyBytes.{policy_bytes, policy_of, policy_refusal}
use Rattle.policy_sheet.specs.Reader.{SheetReading, is_read, not_a_sheet, not_an_entry, read_sheet}
use Rattle.policy_sheet.specs.Writer.{write_sheet}

-- Writing a result: it is at the front of the output, or the answer is refusal 8 and the output is as it was.
abbrev pub write_result : List ℕ → List ℕ → After (Result ℕ Refusal) ℕ
write_result result out = record { answer = answer_of result out; buffer = buffer_of result out }

-- What follows the reading: the policy's bytes are the result, or the answer is refusal 11 or 12 with its offset.
abbrev pub after_reading : SheetReading → List ℕ → After (Result ℕ Refusal) ℕ
after_reading (is_read p) out = write_result (policy_bytes p) out
after_reading (not_a_sheet n) out = unwritten (Err (NotASheet n)) out
after_reading (not_an_entry n) out = unwritten (Err (NotAnEntry n)) out

-- Reading a sheet: refusals 1, 11, 12 and 8, in this order ("Errors, after 1: 11, ..; 12, .."). Limit 1 is on the sheet's bytes.
unfoldable pub read_call : List ℕ → List ℕ → After (Result ℕ Refusal) ℕ
read_call sheet out = cond (leb (length sheet) text_limit) (after_reading (read_sheet sheet) out) (unwritten (Err TextTooLong) out)

-- Writing the sheet of a policy: refusals 2 and 8, in this order.
unfoldable pub write_call : List ℕ → List ℕ → After (Result ℕ Refusal) ℕ
write_call policy out =
    or_else (policy_refusal policy) (λ (r : Refusal). unwritten (Err r) out) (write_result (write_sheet (policy_of policy)) out)
