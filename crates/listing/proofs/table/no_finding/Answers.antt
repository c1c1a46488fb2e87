-- `listing::table::no_finding` meets its contract.
use mathlib.Core.Path.{ap}
use Rattle.analysis.specs.declared.types.Finding.{Finding}
use Rattle.analysis.specs.declared.types.NonCanonicality.{NonCanonicality}
use Rattle.listing.proofs.table.no_finding.Goals as goal

pub returns : goal.returns
returns c =
    let with-counts : NonCanonicality → Finding = λ counts. record {
      start = 0;
      end = 0;
      counts = counts;
      char_start = 0;
      char_end = 0;
      unit_start = 0;
      unit_end = 0;
    } in
    ap with-counts c.empty-counts.ensures
