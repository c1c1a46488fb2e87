-- `sheet_reading::write_meaning` meets its contract.
use Rattle.sheet_reading.proofs.Outcomes.{meaning-written}
use Rattle.sheet_reading.proofs.write_meaning.Goals as goal

pub returns : goal.returns
returns c =
    let x = c.args in
    meaning-written x.sheet.now x.out.now c.is_value.ensures c.read_pieces-policy.ensures c.write_policy.ensures
