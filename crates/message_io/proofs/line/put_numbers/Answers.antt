use Rattle.std.proofs.Common.{arith, sym, add-zero, refl, add-one}
use Rattle.base.proofs.Writer.{put_as, put_then}
use Rattle.message_io.specs.Lines.{with_blanks}
use Rattle.message_io.proofs.Texts.{numbers-next}
use Rattle.message_io.proofs.line.put_numbers.Goals as goal

pub loop-i-init : goal.loop-i-init
unfolding with_blanks
loop-i-init c = record {
  within = omega arith;
  short = omega arith;
  written = record { ends = sym (add-zero c.args.start); bytes = refl };
}

pub loop-i-preserved : goal.loop-i-preserved
loop-i-preserved c =
    let l = c.loop-i in
    let p = c.put_number-at.ensures in
    record {
      within = omega (arith, c.loop-i-test.true);
      short = omega (arith, l.invariant.short, p.1);
      written = rw add-one (put_as _ (sym (numbers-next l.i c.args.numbers.now c.loop-i-test.true)) (put_then l.invariant.written p.0));
    }
