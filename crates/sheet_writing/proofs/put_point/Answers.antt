-- `sheet_writing::put_point` meets its contract.
use mathlib.Core.Path.{ap, sym, ◌≡◌, ◌∙◌}
use Prim.Native.Nat.{ℕ, ◌+◌}
use native.Mathlib.Omega.{arith}
use lib.ListN.{length}
use Rattle.sheet_writing.proofs.EntryTexts.{point_length, point_put}
use Rattle.policy_key_set.proofs.Texts.{digits-part, hex_length}
use Rattle.policy_key_set.specs.Display.{hex_digits}
use Rattle.base.proofs.Output.{bytes_put}
use Rattle.base.proofs.Writer.{put_as}
use Rattle.sheet_writing.proofs.put_point.Goals as goal

pub returns : goal.returns
returns c =
    let x = c.args in
    let w = c.digits_of-width in
    let p = digits-part x.ch w.ensures.1 c.hex_digits.ensures in
    let n : length _ ≡ w.result = ap length p ∙ hex_length w.result x.ch in
    let put = bytes_put x.out.now _ x.start _ (omega (arith, n, w.ensures.0, point_length w.result x.ch w.ensures.0))
    c.write_bytes.ensures.1 in
    point_put w.result x.ch w.ensures.0
    (put_as (hex_digits w.result x.ch) p (record { ends = ap (λ (k : ℕ). x.start + k) (sym n); bytes = put.bytes }))
