-- `feeding::later::is_other` meets its contract.
use mathlib.Core.Path.{sym, ◌∙◌}
use mathlib.Core.Bool.{true≢false}
use Rattle.feeding.proofs.LaterParts.{first-none, first_selector_lem}
use Rattle.feeding.proofs.later.is_other.Goals as goal

pub returns-then-first-eq0 : goal.returns-then-first-eq0
returns-then-first-eq0 c = record { other = λ t. absurd (true≢false (sym t)); selectors = λ t. first-none c.args.first c.if-first-eq0.true }

pub returns-in-Some : goal.returns-in-Some
returns-in-Some c =
    record {
      other = λ t. absurd (true≢false (sym t));
      selectors = λ t. first_selector_lem c.args.first _ c.if-first-eq0.false (sym
          c.from_selector.ensures ∙ c.in-Some.is);
    }

pub returns-in-None : goal.returns-in-None
returns-in-None c =
    record {
      other = λ t. (
        c.if-first-eq0.false,
        sym c.from_selector.ensures
            ∙ c.in-None.is,
      );
      selectors = λ t. absurd (true≢false t);
    }
