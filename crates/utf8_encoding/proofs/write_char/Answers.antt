-- `utf8_encoding::write_char` meets its contract: each returned answer is one of the three cases in Answers.
use mathlib.Core.Path.{sym, ap, ◌∙◌}
use mathlib.Core.Bool.{Bool, cond}
use lib.Seq.{sets}
use borrow.Author.Tests.{leb-false, leb-true}
use Rattle.utf8.specs.Rfc3629.{encode}
use Rattle.utf8.proofs.Scalars.{is_scalar_le}
use Rattle.utf8_encoding.proofs.Answers.{not_scalar, too_short, written}
use Rattle.utf8_encoding.proofs.write_char.Goals as goal

pub returns-then-not-is_scalar : goal.returns-then-not-is_scalar
returns-then-not-is_scalar c =
    let x = c.args in
    let a = not_scalar x.ch x.out.now x.at (sym c.is_scalar.ensures ∙ c.if-not-is_scalar.true) in
    record { answer = a.0; buffer = a.1 }

pub put_char-requires : goal.put_char-requires
put_char-requires c = is_scalar_le c.args.ch (sym c.is_scalar.ensures ∙ c.if-not-is_scalar.false)

pub returns-then-not-put_char : goal.returns-then-not-put_char
returns-then-not-put_char c =
    let x = c.args in
    let w = c.char_width-width in
    let room = sym c.put_char.ensures.0 ∙ c.if-not-put_char.true in
    let a = too_short x.ch x.out.now x.at w.result w.ensures (sym c.is_scalar.ensures ∙ c.if-not-is_scalar.false) (leb-false _ _ room) in
    record {
      answer = a.0;
      buffer = c.put_char.ensures.1 ∙ ap (λ (t : Bool). cond t (sets x.out.now x.at (encode x.ch)) x.out.now) room
          ∙ a.1;
    }

pub returns : goal.returns
returns c =
    let x = c.args in
    let w = c.char_width-width in
    let room = sym c.put_char.ensures.0 ∙ c.if-not-put_char.false in
    let a = written x.ch x.out.now x.at w.result w.ensures (sym c.is_scalar.ensures ∙ c.if-not-is_scalar.false) (leb-true _ _ room) in
    record {
      answer = a.0;
      buffer = c.put_char.ensures.1 ∙ ap (λ (t : Bool). cond t (sets x.out.now x.at (encode x.ch)) x.out.now) room
          ∙ a.1;
    }
