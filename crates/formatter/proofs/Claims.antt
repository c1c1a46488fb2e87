-- The proof of each statement of specs/Theorems.antt, specs/AfterRepair.antt and specs/Worked.antt.
use mathlib.Core.Path.{refl}
use Rattle.base.specs.Words.{bytes_of, little_endian, word_bytes}
use Rattle.formatter.specs.AfterRepair.{EveryAfterRepair, RepairMayPassLimit}
use Rattle.formatter.specs.List.{row_numbers}
use Rattle.formatter.specs.Theorems.{
  CellByCell,
  ColumnsInOrder,
  EveryFormattedText,
  EveryList,
  FiledIsFormatted,
  FindingsPositioned,
  IntakeComesFirst,
  IntakeInOrder,
  ListedAsBytes,
  MendsByReplacement,
  MendsTestAlike,
}
use Rattle.formatter.specs.Worked.{ExampleCalls, WorkedList, WorkedListClaimed, WorkedTexts}
use Rattle.formatter.proofs.AfterRepair.{after-repair, passes_limit}
use Rattle.formatter.proofs.ByReplacement.{by_replacement, test_alike}
use Rattle.formatter.proofs.CellView.{cell_view}
use Rattle.formatter.proofs.FormattedClaim.{formatted-claim}
use Rattle.formatter.proofs.ListClaim.{list-claim}
use Rattle.formatter.proofs.Outcomes.{comes_first, filed, in_order}
use Rattle.formatter.proofs.RowBytes.{listed_as}
use Rattle.formatter.proofs.RowPositions.{rows-listed}
use Rattle.formatter.proofs.Worked.{calls, claimed, texts}

pub intake_in_order : IntakeInOrder
intake_in_order = in_order

pub intake_comes_first : IntakeComesFirst
intake_comes_first = comes_first

pub mends_by_replacement : MendsByReplacement
mends_by_replacement = by_replacement

pub mends_test_alike : MendsTestAlike
mends_test_alike = test_alike

pub columns_in_order : ColumnsInOrder
unfolding ColumnsInOrder row_numbers bytes_of word_bytes little_endian
columns_in_order = (refl, refl)

pub findings_positioned : FindingsPositioned
unfolding FindingsPositioned
findings_positioned = rows-listed

pub listed_as_bytes : ListedAsBytes
listed_as_bytes = listed_as

pub filed_is_formatted : FiledIsFormatted
filed_is_formatted = filed

pub every_list : EveryList
unfolding EveryList
every_list policy first a h calls = list-claim policy first a h calls

pub every_formatted_text : EveryFormattedText
unfolding EveryFormattedText
every_formatted_text policy first a = formatted-claim policy first a

pub cell_by_cell : CellByCell
unfolding CellByCell
cell_by_cell text policy = cell_view text policy

pub every_after_repair : EveryAfterRepair
unfolding EveryAfterRepair
every_after_repair text policy = after-repair text policy

pub repair_may_pass_limit : RepairMayPassLimit
unfolding RepairMayPassLimit
repair_may_pass_limit = passes_limit

pub worked_texts : WorkedTexts
worked_texts = texts.0

pub example_calls : ExampleCalls
example_calls = texts.1

pub worked_list : WorkedList
worked_list = calls

pub worked_list_claimed : WorkedListClaimed
worked_list_claimed = claimed
