-- The proof of each statement of specs/Theorems.antt.
use Rattle.base.specs.Answers.{answer_row, found_row, optional_row}
use mathlib.Core.Path.{refl}
use native.Mathlib.Omega.{arith}
use Rattle.emoji.specs.Unicode.{variation_entry}
use Rattle.emoji.specs.UnicodeData.{unicode_version}
use Rattle.findings_near.specs.Around.{around_row}
use Rattle.findings_near.proofs.Calls.{around_call}
use Rattle.policy_migration.proofs.Calls.{call-small}
use Rattle.policy_sheet.specs.Theorems.{EveryReadCall, EveryWriteCall}
use Rattle.policy_sheet.proofs.Claims.{every_read_call, every_write_call}
use Rattle.repair.specs.Repair.{repair_row}
use Rattle.repair.proofs.Outcomes.{the_call}
use Rattle.tilghorz.specs.Theorems.{StoreWordsHaveValues, WordHasVersion, WordsDetermineAnswers, WordsHaveBothValues}
use Rattle.tilghorz.proofs.SmallStores.{begin_small, file_small, release_small, used-small}
use Rattle.tilghorz.proofs.SmallCuts.{cut_small}
use Rattle.tilghorz.proofs.SmallFeeds.{begun-small, called-small, totals-small}
use Rattle.tilghorz.proofs.SmallNear.{around_refusal, nearest-small}
use Rattle.tilghorz.proofs.SmallAnswers.{default_small, entry_small, format_small, items-small, list-small, mend-small}
use Rattle.tilghorz.proofs.SmallTips.{tips-small}
use Rattle.base.proofs.Rows.{answer-rows, found-rows, optional-rows}
use Rattle.tilghorz.proofs.AnswerWords.{
  around_rows,
  around_small,
  both-numbers,
  both_values,
  has-row,
  repair-rows,
  repair-small,
  words_determine,
}

pub words_determine_answers : WordsDetermineAnswers
unfolding WordsDetermineAnswers EveryReadCall EveryWriteCall
words_determine_answers = (
  words_determine optional_row _ (λ c. omega (arith, format_small c.0 c.1 c.2)) (λ i j. optional-rows _ _),
  words_determine answer_row _ (λ c. omega (arith, list-small c.0 c.1 c.2)) (λ i j. answer-rows _ _),
  words_determine answer_row _ (λ c. omega (arith, mend-small c.0 c.1 c.2.offset c.2.decisions c.2.out))
      (λ i j. answer-rows _ _),
  words_determine answer_row _ (λ c. omega (arith, items-small c.0 c.1)) (λ i j. answer-rows _ _),
  words_determine answer_row _ (λ out. omega (arith, default_small out)) (λ i j. answer-rows _ _),
  words_determine found_row variation_entry (λ i. omega (arith, entry_small i)) (λ i j. found-rows _ _),
  words_determine repair_row _ (λ c. repair-small _ (the_call c.0 c.1).small (the_call c.0 c.1).small_refusal)
      (λ i j. repair-rows _ _ (the_call i.0 i.1).small (the_call j.0 j.1).small),
  words_determine answer_row _ (λ c. omega (arith, begun-small c.0 c.1)) (λ i j. answer-rows _ _),
  words_determine answer_row _ (λ c. omega (arith, called-small c.0 c.1)) (λ i j. answer-rows _ _),
  words_determine answer_row _ (λ c. omega (arith, totals-small c.0 c.1)) (λ i j. answer-rows _ _),
  words_determine answer_row _ (λ c. omega (arith, (every_read_call c.0 c.1).small)) (λ i j. answer-rows _ _),
  words_determine answer_row _ (λ c. omega (arith, (every_write_call c.0 c.1).small)) (λ i j. answer-rows _ _),
  words_determine answer_row _ (λ c. omega (arith, tips-small c.0 c.1 c.2)) (λ i j. answer-rows _ _),
  words_determine around_row _
      (λ c. around_small _ (around_call c.0 c.1 c.2 c.3 c.4 c.5).small
      (around_refusal c.0 c.1 c.2 c.3 c.4 c.5))
      (λ i j. around_rows _ _ (around_call i.0 i.1 i.2 i.3 i.4 i.5).small
      (around_call j.0 j.1 j.2 j.3 j.4 j.5).small),
  words_determine optional_row _ (λ c. omega (arith, nearest-small c.0 c.1 c.2 c.3)) (λ i j. optional-rows _ _),
  words_determine optional_row _ (λ c. omega (arith, file_small c.0 c.1 c.2 c.3 c.4 c.5)) (λ i j. optional-rows _ _),
  words_determine answer_row _ (λ c. omega (arith, call-small c.0 c.1 c.2)) (λ i j. answer-rows _ _),
  words_determine found_row _ (λ c. cut_small c.0.bytes c.1 c.0.held) (λ i j. found-rows _ _),
)

pub words_have_both_values : WordsHaveBothValues
unfolding WordsHaveBothValues
words_have_both_values = (
  λ text out. both_values _ (the_call text out).small,
  λ text policy from to inner outer. both-numbers _ (around_call text policy from to inner outer).small,
)

pub store_words_have_values : StoreWordsHaveValues
unfolding StoreWordsHaveValues
store_words_have_values = (
  λ C rb st h. has-row _ (begin_small C rb st h),
  λ C rb st w e xs. (λ c. has-row _ (used-small C rb st w e xs c), λ c n. has-row _ (release_small C rb st w e xs c n)),
)

pub word_has_version : WordHasVersion
unfolding WordHasVersion unicode_version
word_has_version = (refl, refl)
