-- `utf8::char_len` meets its contract: the packed number holds the width (Packed).
use lib.ListN.{drop}
use Rattle.utf8.proofs.Packed.{packed_len}
use Rattle.utf8.proofs.char_len.Goals as goal

pub returns : goal.returns
returns c =
    let x = c.args in
    let n = c.decode in
    packed_len (drop x.at x.s.now) n.result n.ensures
