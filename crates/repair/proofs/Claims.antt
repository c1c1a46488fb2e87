-- The statements of specs/Theorems, each proved under its own name.
use mathlib.Core.Path.{sym}
use Rattle.repair.specs.Theorems.{EveryRepairCall, EveryRepairedText, ThreeTimesReached}
use Rattle.repair.proofs.Outcomes.{the_call}
use Rattle.repair.proofs.Repairing.{none-bad, only, reached, result-chars, result_well_formed, stretches, times, well_formed_is}

pub every_repair_call : EveryRepairCall
unfolding EveryRepairCall
every_repair_call = the_call

pub every_repaired_text : EveryRepairedText
unfolding EveryRepairedText
every_repaired_text s = record {
  stretches = stretches s;
  no_other = λ t k r. let o = only r in (o.text, o.number);
  well_formed = result_well_formed (stretches s);
  characters = result-chars s;
  unchanged = λ w. sym (well_formed_is w).text;
  none_replaced = (λ w. sym (well_formed_is w).number, none-bad (stretches s));
  three_times = (times (stretches s)).0;
  few = (times (stretches s)).1;
}

pub three_times_reached : ThreeTimesReached
unfolding ThreeTimesReached
three_times_reached n = reached n
