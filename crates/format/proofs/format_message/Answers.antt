-- By the contract of `format_text` and a buffer that is long enough.
use Rattle.std.proofs.Common.{subst, sym, ap, ◌∙◌, List, ℕ}
use Rattle.base.proofs.Answering.{whole}
use Rattle.formatter.specs.Format.{format}
use Rattle.format.proofs.Rooms.{IsAnswer, answers}
use Rattle.format.proofs.format_message.Goals as goal

pub returns : goal.returns
returns c =
    let m = c.args.message.now in
    let out = c.args.out.now in
    let d = c.put_default_policy.ensures.out_after in
    let e = whole c.format_text.ensures ∙ ap (λ (p : List ℕ). format m p out) d in
    record { result = e; meaning = subst (IsAnswer m) (sym e) (answers m out c.requires) }
