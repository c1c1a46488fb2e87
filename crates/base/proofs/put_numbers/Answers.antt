use mathlib.Core.Path.{ap, sym}
use Prim.Native.Nat.{ℕ, ◌+◌}
use native.Mathlib.Omega.{arith}
use lib.ListN.{drop, drop_of_length-le, get_or}
use Rattle.base.proofs.Writer.{begin, finish, put}
use Rattle.base.specs.Output.{PutAt}
use Rattle.base.specs.Words.{bytes_of, word_bytes}
use Rattle.base.proofs.Words.{length_word_bytes}
use Rattle.base.proofs.Numbers.{bytes_of_drop, length_bytes_of_lem, word_room}
use Rattle.base.proofs.put_numbers.Goals as goal

pub loop-number-init : goal.loop-number-init
loop-number-init c =
    let x = c.args in
    let ws = x.numbers.now in
    begin (bytes_of ws) x.start x.out.now (omega (arith, c.requires, length_bytes_of_lem ws))

pub put_number-requires : goal.put_number-requires
put_number-requires c =
    let l = c.loop-number in
    let x = c.args in
    word_room x.numbers.now x.out.now l.out x.start l.at l.number-index c.loop-number-test.true l.invariant

pub loop-number-preserved : goal.loop-number-preserved
loop-number-preserved c =
    let l = c.loop-number in
    let x = c.args in
    let ws = x.numbers.now in
    let n = get_or ws l.number-index 0 in
    let w : PutAt l.out l.at (word_bytes n) c.put_number.new.out (l.at + 8) =
    record { ends = ap (λ (k : ℕ). l.at + k) (sym (length_word_bytes n)); bytes = c.put_number.ensures } in
    put (bytes_of ws) x.start x.out.now _ _ l.invariant w (bytes_of_drop ws l.number-index c.loop-number-test.true)

pub returns : goal.returns
unfolding bytes_of
returns c =
    let l = c.loop-number in
    let x = c.args in
    let ws = x.numbers.now in
    (finish (bytes_of ws) x.start x.out.now (bytes_of (drop l.number-index ws)) l.invariant
    (ap bytes_of (drop_of_length-le ws {i = l.number-index} (omega (arith, c.loop-number-test.false))))).bytes
