-- `sheet_reading::sets::is_set` meets its contract: each item of words has 64 bits.
use Rattle.policy_sheet.proofs.Words.{six_words}
use native.Mathlib.Omega.{arith}
use Rattle.sheet_reading.proofs.sets.is_set.Goals as goal

pub returns : goal.returns
returns c = six_words c.args.words.now 6 c.requires (omega arith) (λ k h. (c.type_inv.words k).fits)
