-- `policy_migration::carried_bit` meets its contract, by the place of our entry in the old list.
use mathlib.Core.Path.{sym, ◌∙◌}
use Prim.Native.Nat.{◌+◌, ◌*◌, ◌/◌}
use native.Mathlib.Omega.{arith}
use lib.ListN.{length}
use Rattle.policy.specs.PolicyBytes.{numbers_of}
use Rattle.policy_migration.proofs.Coding.{many-numbers}
use Rattle.policy_migration.proofs.Testing.{few-times, index_below, new-entry-bit, no_entry_bit, old-entry-bit}
use Rattle.policy_migration.proofs.carried_bit.Goals as goal

pub index_of-requires : goal.index_of-requires
index_of-requires c = c.requires.3

pub overflow_mul-k : goal.overflow_mul-k
overflow_mul-k c =
    let x = c.args in
    let m = few-times x.k ((length x.entries.now / 8 + 63) / 64 * 8)
    c.requires.0 in omega arith

pub overflow_add-k : goal.overflow_add-k
overflow_add-k c =
    let x = c.args in
    let m = few-times x.k ((length x.entries.now / 8 + 63) / 64 * 8)
    c.requires.0 in omega arith

pub old_bit-requires : goal.old_bit-requires
old_bit-requires c =
    let x = c.args in
    let m = few-times x.k ((length x.entries.now / 8 + 63) / 64 * 8)
    c.requires.0 in
    let q = index_below _ (numbers_of x.entries.now) _ (sym c.index_of.ensures ∙ c.in-Some-index_of.is)
    in let n = many-numbers x.entries.now in (omega arith, omega arith)

pub returns-in-None : goal.returns-in-None
returns-in-None c =
    let x = c.args in
    no_entry_bit x.entries.now x.policy.now x.k x.i c.requires.0
    (sym c.variation_entry.ensures ∙ c.in-None.is)

pub returns-in-Some-index_of : goal.returns-in-Some-index_of
returns-in-Some-index_of c =
    let x = c.args in
    old-entry-bit x.entries.now x.policy.now x.k x.i c.requires.0 _ (sym c.variation_entry.ensures ∙ c.in-Some.is) _
    (sym c.index_of.ensures ∙ c.in-Some-index_of.is) _ c.old_bit.ensures

pub returns-in-None-index_of : goal.returns-in-None-index_of
returns-in-None-index_of c =
    let x = c.args in
    new-entry-bit x.entries.now x.policy.now x.k x.i c.requires.0 _ (sym c.variation_entry.ensures ∙ c.in-Some.is)
    (sym c.index_of.ensures ∙ c.in-None-index_of.is) x.default.now c.requires.2 _
    c.old_bit-in-None-index_of.ensures
