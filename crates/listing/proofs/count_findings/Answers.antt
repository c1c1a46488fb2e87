-- `listing::count_findings` meets its contract: with the end of the text as limit, all findings are passed.
use Rattle.listing.proofs.NextFindings.{all_counted, all_valid}
use Rattle.listing.proofs.count_findings.Goals as goal

pub returns : goal.returns
returns c = record { findings = all_counted c.next_finding-start.ensures; valid = all_valid c.next_finding-start.ensures }
