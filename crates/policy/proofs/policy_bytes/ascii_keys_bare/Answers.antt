-- `policy_bytes::ascii_keys_bare` meets its contract: the first twelve entries are the bits of the first byte after the version and the
-- lowest four bits of the second.
use mathlib.Core.Path.{refl, ap, sym, ◌∙◌}
use mathlib.Core.Bool.{Bool, ◌&&◌}
use Prim.Native.Nat.{◌%◌}
use native.Mathlib.Omega.{arith}
use lib.Dec.{eqb}
use lib.ListN.{drop, get_or}
use lib.Seq.{get_or-drop}
use borrow.Author.Tests.{eq-eqb, ne_eqb}
use Rattle.policy.proofs.ByEntry.{ascii_keys_bytes}
use Rattle.policy.proofs.policy_bytes.ascii_keys_bare.Goals as goal

pub returns-then-byte_at-ne255 : goal.returns-then-byte_at-ne255
returns-then-byte_at-ne255 c =
    let bs = c.args.bytes.now in
    let a = c.byte_at in
    let b = get_or (drop 8 bs) 1 0 in
    sym
    (ascii_keys_bytes bs a.result b a.ensures refl
    (omega (arith, a.ensures, get_or-drop 8 bs 0 0, (c.type_inv.bytes 8).fits))
    ∙ ap (λ (t : Bool). t && eqb (b % 16) 0xF) (ne_eqb a.result 0xFF c.if-byte_at-ne255.true))

pub returns : goal.returns
returns c =
    let bs = c.args.bytes.now in
    let a = c.byte_at in
    let b = c.byte_at-2 in
    sym
    (ascii_keys_bytes bs a.result b.result a.ensures b.ensures
    (omega (arith, a.ensures, get_or-drop 8 bs 0 0, (c.type_inv.bytes 8).fits))
    ∙ ap (λ (t : Bool). t && eqb (b.result % 16) 0xF) (eq-eqb a.result 0xFF c.if-byte_at-ne255.false))
