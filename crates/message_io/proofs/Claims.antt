-- The proof of each statement of specs/Theorems.antt.
use mathlib.Core.Path.{refl}
use native.Mathlib.Omega.{arith}
use Rattle.base.specs.Texts.{parted}
use Rattle.message_io.specs.Lines.{decimal, decimal_by, finding_line, line, refusal_line, total_line}
use Rattle.message_io.specs.Theorems.{DecimalReadsBack, LineExamples}
use Rattle.message_io.proofs.Digits.{tells}

pub decimal_reads_back : DecimalReadsBack
unfolding DecimalReadsBack decimal
decimal_reads_back n = tells n n (omega arith)

pub line_examples : LineExamples
unfolding LineExamples finding_line total_line refusal_line line parted decimal decimal_by
line_examples = (refl, refl, refl, refl, refl)
