-- `scanner::state::row_of` meets its contract: each arm is the row of a state.
use mathlib.Core.Path.{◌≡◌, sym, subst}
use Prim.Native.Nat.{◌/◌, ◌%◌, ◌^◌}
use Rattle.scanner.specs.Items.{State, plain, selectors, links, one_ri, unit, joined, left_over, next_of, transition}
use Rattle.scanner.specs.Rows.{class_place, numbered}
use Rattle.scanner.proofs.Rows.{row_next}
use Rattle.scanner.proofs.state.row_of.Goals as goal

pub returns-in-Plain : goal.returns-in-Plain
returns-in-Plain c k = subst (λ (p : State). numbered (0x00077777 / 2 ^ class_place k % 8) ≡ next_of (transition p k)) (sym c.in-Plain.is)
    (row_next plain k)

pub returns-in-Selectors : goal.returns-in-Selectors
returns-in-Selectors c k = subst (λ (p : State). numbered (0x77777771 / 2 ^ class_place k % 8) ≡ next_of (transition p k))
    (sym c.in-Selectors.is) (row_next selectors k)

pub returns-in-Links : goal.returns-in-Links
returns-in-Links c k = subst (λ (p : State). numbered (0x77777722 / 2 ^ class_place k % 8) ≡ next_of (transition p k)) (sym c.in-Links.is)
    (row_next links k)

pub returns-in-OneRi : goal.returns-in-OneRi
returns-in-OneRi c k = subst (λ (p : State). numbered (0x74474453 / 2 ^ class_place k % 8) ≡ next_of (transition p k)) (sym c.in-OneRi.is)
    (row_next one_ri k)

pub returns-in-Unit : goal.returns-in-Unit
returns-in-Unit c k = subst (λ (p : State). numbered (0x74474754 / 2 ^ class_place k % 8) ≡ next_of (transition p k)) (sym c.in-Unit.is)
    (row_next unit k)

pub returns-in-Joined : goal.returns-in-Joined
returns-in-Joined c k = subst (λ (p : State). numbered (0x77744365 / 2 ^ class_place k % 8) ≡ next_of (transition p k)) (sym c.in-Joined.is)
    (row_next joined k)

pub returns-in-LeftOver : goal.returns-in-LeftOver
returns-in-LeftOver c k = subst (λ (p : State). numbered (0x77777766 / 2 ^ class_place k % 8) ≡ next_of (transition p k))
    (sym c.in-LeftOver.is) (row_next left_over k)
