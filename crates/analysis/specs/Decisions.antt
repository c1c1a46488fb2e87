-- Decisions as bytes, and the refusals of a call that takes a finding and decisions (document 01, "Replacement and text", "Turned back").
use Rattle.std.specs.Prelude.{cond, not, List, [], ◌∷◌, ℕ, suc, eqb, leb, length, Ok, Err, Some, None, Result, Option}
use Rattle.base.specs.Refusals.{After, unwritten, or_else, text_limit, written}
use Rattle.base.specs.declared.Refusal.{Refusal}
use Rattle.base.specs.declared.Refusal.TheVariants.{BadDecision, NoFinding, OutputTooShort, TextTooLong, WrongNumberOfDecisions}
use Rattle.emoji.specs.declared.presentation.Presentation.{Presentation}
use Rattle.emoji.specs.declared.presentation.Presentation.TheVariants.{Emoji, Text}
use Rattle.policy.specs.declared.Policy.{Policy}
use Rattle.scanner.specs.Items.{Item}
use Rattle.analysis.specs.Analysis.{non_canonicality}

-- "Decisions are bytes, 0 text, 1 emoji".
abbrev pub meaning : ℕ → Presentation
meaning d = cond (eqb d 0) Text Emoji

-- "decision byte above 1 | 6 | index of the first": n is the index of the first byte of the list.
unfoldable pub bad_decision : ℕ → List ℕ → Option Refusal
bad_decision n [] = None
bad_decision n (d ∷ ds) = cond (leb d 1) (bad_decision (suc n) ds) (Some (BadDecision n))

-- The number of decisions that a finding wants: its eighth count.
abbrev pub wanted : Policy → Item → ℕ
wanted p x = (non_canonicality p x).presentation_decisions

-- "decisions too few or many | 5 | number wanted", then 6.
unfoldable pub decisions_refusal : ℕ → List ℕ → Option Refusal
decisions_refusal n decisions =
    cond (not (eqb (length decisions) n)) (Some (WrongNumberOfDecisions n)) (bad_decision 0 decisions)

-- "output too short | 8 | length wanted"; a success writes its result at the front.
abbrev pub write_out : List ℕ → List ℕ → After (Result ℕ Refusal) ℕ
write_out result out =
    cond (leb (length result) (length out)) (written (Ok (length result)) result out)
    (unwritten (Err (OutputTooShort (length result))) out)

-- "text over 16,777,216 bytes | 1"; otherwise the result of the later tests.
abbrev pub within_limit : List ℕ → List ℕ → After (Result ℕ Refusal) ℕ → After (Result ℕ Refusal) ℕ
within_limit text out next = cond (leb (length text) text_limit) next (unwritten (Err TextTooLong) out)

-- Refusals 4, 5, 6 and 8, in this order, for the finding that starts at the offset, the decisions, the bytes to be written and the
-- output.
unfoldable pub judge : Policy → Option Item → List ℕ → List ℕ → List ℕ → After (Result ℕ Refusal) ℕ
judge p None decisions result out = unwritten (Err NoFinding) out
judge p (Some x) decisions result out =
    or_else (decisions_refusal (wanted p x) decisions) (λ (r : Refusal). unwritten (Err r) out) (write_out result out)
