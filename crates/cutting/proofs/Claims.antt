-- The proof of each statement of specs/Theorems.antt and of specs/Examples.antt.
use lib.ListN.{drop, take}
use Rattle.cutting.specs.Examples.{CoveredExamples, CutExamples, UncoveredExamples}
use Rattle.cutting.specs.Theorems.{CutMeans, EndIsCut, EveryAnswerJoins, EveryCut, EveryLargestCut, EveryLength, EveryListOfParts}
use Rattle.cutting.proofs.Cutting.{joins}
use Rattle.cutting.proofs.Lists.{join-list}
use Rattle.cutting.proofs.Cuts.{cut_means as means, from_end, in_two, largest}
use Rattle.cutting.proofs.Examples.{covered, cuts, uncovered}

pub every_cut : EveryCut
unfolding EveryCut
every_cut policy a b x y z k = joins policy a b x.well_formed k

pub every_length : EveryLength
unfolding EveryLength
every_length = joins

pub every_list_of_parts : EveryListOfParts
unfolding EveryListOfParts
every_list_of_parts policy a bs w h = join-list policy a w h

pub cut_means : CutMeans
unfolding CutMeans
cut_means = means

pub every_largest_cut : EveryLargestCut
unfolding EveryLargestCut
every_largest_cut = largest

pub every_answer_joins : EveryAnswerJoins
unfolding EveryAnswerJoins
every_answer_joins policy text offset n w e =
    let t = in_two text n w ((largest text offset).allowed n e) in
    (t, joins policy (take n text) (drop n text) t.first t.begins_part)

pub end_is_cut : EndIsCut
unfolding EndIsCut
end_is_cut = from_end

pub covered_examples : CoveredExamples
covered_examples = covered

pub uncovered_examples : UncoveredExamples
uncovered_examples = uncovered

pub cut_examples : CutExamples
cut_examples = cuts
