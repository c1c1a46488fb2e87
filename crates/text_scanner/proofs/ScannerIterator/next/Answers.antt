use Rattle.text_scanner.proofs.Advancing.{progress, yields}
use Rattle.text_scanner.proofs.ScannerIterator.next.Goals as goal

pub returns-clause-steps : goal.returns-clause-steps
returns-clause-steps c = yields c.args.self.now c.next.new.s c.next.result c.next.ensures.0 c.next.ensures.1

pub returns-clause-goes : goal.returns-clause-goes
returns-clause-goes c = progress _ _ _ (yields c.args.self.now c.next.new.s c.next.result c.next.ensures.0 c.next.ensures.1)
