-- `display::put_text` meets its contract: it writes the opening, the digits and the closing bracket.
use mathlib.Core.Path.{ap}
use native.Mathlib.Omega.{arith}
use lib.ListN.{length}
use Rattle.base.proofs.Writer.{put_as}
use Rattle.policy_key_set.specs.Display.{hex_digits, opening}
use Rattle.policy_key_set.proofs.Buffers.{text_put}
use Rattle.policy_key_set.proofs.Texts.{digits-part, hex_length, text_length}
use Rattle.policy_key_set.proofs.display.put_text.Goals as goal

pub put_bytes-i-requires : goal.put_bytes-i-requires
put_bytes-i-requires c =
    let a = c.args in
    omega (arith, text_length a.keycap a.ch, ap length c.opening.ensures.0)

pub put_bytes-j-requires : goal.put_bytes-j-requires
put_bytes-j-requires c =
    let a = c.args in
    let w = c.hex_width.ensures in
    omega (
      arith,
      text_length a.keycap a.ch,
      ap length c.opening.ensures.0,
      ap length (digits-part a.ch w.1 c.hex_digits.ensures),
      hex_length c.hex_width.result a.ch,
      c.put_bytes-i.ensures.ends,
    )

pub put_bytes-requires : goal.put_bytes-requires
put_bytes-requires c =
    let a = c.args in
    let w = c.hex_width.ensures in
    omega (
      arith,
      text_length a.keycap a.ch,
      ap length c.opening.ensures.0,
      ap length (digits-part a.ch w.1 c.hex_digits.ensures),
      hex_length c.hex_width.result a.ch,
      c.put_bytes-i.ensures.ends,
      c.put_bytes-j.ensures.ends,
    )

pub returns : goal.returns
returns c =
    let a = c.args in
    let w = c.hex_width.ensures in
    text_put a.keycap a.ch (put_as (opening a.keycap) c.opening.ensures.0 c.put_bytes-i.ensures) w.0
    (put_as (hex_digits c.hex_width.result a.ch) (digits-part a.ch w.1 c.hex_digits.ensures) c.put_bytes-j.ensures)
    c.put_bytes.ensures
