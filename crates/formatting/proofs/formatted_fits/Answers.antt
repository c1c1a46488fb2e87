-- `formatting::formatted_fits` meets its contract: a formatted text has at most four times the bytes of the text.
use mathlib.Core.Path.{ap, sym, ◌∙◌}
use Prim.Native.Nat.{ℕ, ◌/◌}
use native.Mathlib.Omega.{arith}
use lib.Dec.{leb}
use lib.ListN.{length}
use borrow.Author.Tests.{le-leb}
use Rattle.policy.specs.PolicyBytes.{policy_of}
use Rattle.text_pass.specs.Changes.{formatted_from}
use Rattle.formatting.proofs.Surveying.{four_times_at}
use Rattle.formatting.proofs.formatted_fits.Goals as goal

pub returns-then-text-room : goal.returns-then-text-room
returns-then-text-room c =
    let x = c.args in
    let p = policy_of x.policy.now in
    let t = x.text.now in
    le-leb (length t) (x.room / 4) c.if-text-room.true
    ∙ sym (le-leb (length (formatted_from p t 0)) x.room (omega (arith, four_times_at p t 0, c.if-text-room.true)))

pub survey_text-requires : goal.survey_text-requires
survey_text-requires c = c.requires

pub returns-else-text-room : goal.returns-else-text-room
returns-else-text-room c = ap (λ (n : ℕ). leb n c.args.room) c.survey_text.ensures.len
