-- `feeding::ascii::words_fit` meets its contract.
use mathlib.Core.Path.{sym, ◌∙◌}
use mathlib.Core.Bool.{true≢false}
use native.Mathlib.Omega.{arith}
use borrow.Author.Tests.{eqb-true}
use Rattle.feeding.proofs.ascii.words_fit.Goals as goal

pub returns-then-not-is_zero : goal.returns-then-not-is_zero
returns-then-not-is_zero c = λ e. absurd (true≢false (sym e))

pub returns-then-not-no_selector_no_rest : goal.returns-then-not-no_selector_no_rest
returns-then-not-no_selector_no_rest c = λ e. absurd (true≢false (sym e))

pub returns-then-base_word-gt127 : goal.returns-then-base_word-gt127
returns-then-base_word-gt127 c = λ e. absurd (true≢false (sym e))

pub returns-then-len_word-gt-TEXT_LIMIT : goal.returns-then-len_word-gt-TEXT_LIMIT
returns-then-len_word-gt-TEXT_LIMIT c = λ e. absurd (true≢false (sym e))

pub returns : goal.returns
returns c =
    λ e.
    record {
      goes_on = eqb-true _ 0 (sym c.is_zero.ensures ∙ c.if-not-is_zero.false);
      base = omega (arith, c.base_word.ensures, c.if-base_word-gt127.false);
      no_selector_no_rest = c.no_selector_no_rest.ensures c.if-not-no_selector_no_rest.false;
      len = omega (arith, c.len_word.ensures, c.if-len_word-gt-TEXT_LIMIT.false);
      totals = c.totals_are_few.ensures e;
    }
