-- The tests of a text by a call that takes a text and no policy (document 01, "Turned back"; "Making one tests the text (1, 3)").
use Rattle.std.specs.Prelude.{cond, not, List, ℕ, eqb, leb, length, Some, None, Option}
use Rattle.base.specs.Refusals.{text_limit}
use Rattle.base.specs.declared.Refusal.{Refusal}
use Rattle.base.specs.declared.Refusal.TheVariants.{NotWellFormed, TextTooLong}
use Rattle.utf8.specs.Rfc3629.{valid_up_to_of}

-- The first of the tests 1 and 3 that refuses the text; `None` if the text passes both.
unfoldable pub text_refusal : List ℕ → Option Refusal
text_refusal text =
    cond (not (leb (length text) text_limit)) (Some TextTooLong)
    (cond (not (eqb (valid_up_to_of text) (length text))) (Some (NotWellFormed (valid_up_to_of text)))
    None)
