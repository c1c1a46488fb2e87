-- `formatting::selector_len` meets its contract.
use mathlib.Core.Path.{ap, sym}
use lib.ListN.{length}
use Rattle.formatting.proofs.Surveying.{no_bytes, three_bytes}
use Rattle.formatting.proofs.selector_len.Goals as goal

pub returns-in-None : goal.returns-in-None
returns-in-None c = ap length (no_bytes _ c.in-None.is)

pub returns-in-Some : goal.returns-in-Some
returns-in-Some c = sym (three_bytes _ _ c.in-Some.is)
