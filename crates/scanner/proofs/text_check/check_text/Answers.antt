-- `scanner::text_check::check_text` meets its contract: by the length, and by the length of the longest well-formed beginning.
use Rattle.std.specs.Prelude.{Err}
use mathlib.Core.Path.{refl, sym, ap, ◌∙◌}
use Prim.Native.Nat.{ℕ}
use native.Mathlib.Omega.{arith}
use lib.ListN.{length}
use borrow.Author.Tests.{eq-eqb, le-leb, lt-leb, ne_eqb}
use Rattle.base.proofs.Answering.{answers}
use Rattle.base.specs.Refusals.{checked}
use Rattle.base.specs.declared.Refusal.TheVariants.{NotWellFormed}
use Rattle.utf8.specs.Rfc3629.{valid_up_to_of}
use Rattle.scanner.proofs.TextTests.{text_is}
use Rattle.scanner.proofs.text_check.check_text.Goals as goal

pub returns-then-text-gt-TEXT_LIMIT : goal.returns-then-text-gt-TEXT_LIMIT
returns-then-text-gt-TEXT_LIMIT c =
    let t = c.args.text.now in
    answers (sym (ap checked (text_is t (lt-leb (length t) 16777216 (omega arith)) refl)))

pub returns-then-valid_up_to-text : goal.returns-then-valid_up_to-text
returns-then-valid_up_to-text c =
    let t = c.args.text.now in
    let v = c.valid_up_to-valid_up_to in
    let n = ne_eqb (valid_up_to_of t) (length t) (λ e. omega arith) in
    answers (ap (λ (n : ℕ). Err (NotWellFormed n)) v.ensures
    ∙ sym (ap checked (text_is t (le-leb (length t) 16777216 (omega arith)) n)))

pub returns : goal.returns
returns c =
    let t = c.args.text.now in
    let v = c.valid_up_to-valid_up_to in
    let n = eq-eqb (valid_up_to_of t) (length t) (omega arith) in
    answers (sym (ap checked (text_is t (le-leb (length t) 16777216 (omega arith)) n)))
