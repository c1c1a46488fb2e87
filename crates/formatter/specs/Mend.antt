-- Mending: the whole outcome of the call, `mend`, and of a list of such calls (document 01, "Replacement and text", "Mending in sequence").
use Rattle.std.specs.Prelude.{List, [], ◌∷◌, ◌++◌, map, ℕ, ◌+◌, drop, length, take, Ok, Err, Some, None, Result, Option}
use Rattle.utf8.specs.Rfc3629.{encode_all}
use Rattle.emoji.specs.declared.presentation.Presentation.{Presentation}
use Rattle.policy.specs.declared.Policy.{Policy}
use Rattle.policy.specs.PolicyBytes.{policy_of}
use Rattle.scanner.specs.Items.{Item}
use Rattle.analysis.specs.Analysis.{replacement}
use Rattle.analysis.specs.Decisions.{judge, meaning}
use Rattle.analysis.specs.Findings.{finding_at}
use Rattle.formatter.specs.Findings.{findings}
use Rattle.base.specs.Refusals.{After, unwritten, or_else}
use Rattle.formatter.specs.Intake.{intake_refusal}
use Rattle.base.specs.declared.Refusal.{Refusal}

-- ---- a call

-- ".. and writes the whole text with that replacement": the bytes before the finding, its replacement, the bytes after it.
abbrev pub exchanged : List ℕ → Policy → ℕ → List Presentation → Option Item → List ℕ
exchanged text p offset ds None = text
exchanged text p offset ds (Some x) =
    take offset text ++ encode_all (replacement p x ds) ++ drop (offset + length (encode_all x.chars)) text

-- The outcome of the call, with refusals 1, 2, 3, 4, 5, 6 and 8 in this order.
unfoldable pub mend : List ℕ → List ℕ → ℕ → List ℕ → List ℕ → After (Result ℕ Refusal) ℕ
mend text policy offset decisions out =
    let p = policy_of policy in
    let x = finding_at offset (findings text policy) in
    or_else (intake_refusal text policy) (λ (r : Refusal). unwritten (Err r) out)
    (judge p x decisions (exchanged text p offset (map meaning decisions) x) out)

-- ---- a list of calls

-- A call of a list: "each call's offset, decisions", and its output as it was before the call.
pub record Call : Type 0 where
  pub offset : ℕ
  pub decisions : List ℕ
  pub out : List ℕ

-- The outcome of a call of a list on a text.
abbrev pub mend_call : List ℕ → List ℕ → Call → After (Result ℕ Refusal) ℕ
mend_call text policy c = mend text policy c.offset c.decisions c.out

-- The text that the next call reads, by a call's answer and buffer: what an accepted call wrote, or the same text after a refusal.
abbrev pub next_from : List ℕ → Result ℕ Refusal → List ℕ → List ℕ
next_from text (Ok n) out = take n out
next_from text (Err r) out = text

-- The text that the next call reads, by a call's outcome.
abbrev pub next_text : List ℕ → After (Result ℕ Refusal) ℕ → List ℕ
next_text text a = next_from text a.answer a.buffer

-- The text after a list: "Each call reads the text that the last accepted one wrote, or the first text before that".
unfoldable pub text_after : List ℕ → List ℕ → List Call → List ℕ
text_after text policy [] = text
text_after text policy (c ∷ cs) = text_after (next_text text (mend_call text policy c)) policy cs

-- The outcomes of the calls of a list.
unfoldable pub outcomes : List ℕ → List ℕ → List Call → List (After (Result ℕ Refusal) ℕ)
outcomes text policy [] = []
outcomes text policy (c ∷ cs) = mend_call text policy c ∷ outcomes (next_text text (mend_call text policy c)) policy cs
