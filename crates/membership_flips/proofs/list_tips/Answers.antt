-- `membership_flips::list_tips` meets its contract.
use Rattle.std.specs.Prelude.{Err}
use borrow.Author.Rules.{rules}
use mathlib.Core.Path.{◌≡◌, ◌∙◌}
use mathlib.Core.Bool.{true}
use native.Mathlib.Omega.{arith}
use Rattle.base.specs.Words.{all_bytes}
use Rattle.base.specs.declared.Refusal.TheVariants.{NotWellFormed}
use Rattle.base.proofs.Answering.{ends_as}
use Rattle.base.proofs.Words.{bytes_all}
use Rattle.formatter.proofs.Calls.{pass_intake}
use Rattle.formatter.proofs.Outcomes.{all_well_formed, not_well_formed}
use Rattle.formatter.proofs.Passing.{first-passed, first-refused}
use Rattle.membership_flips.proofs.Listing.{flags_tell, no_flags, tips-passed, tips-refused}
use Rattle.membership_flips.proofs.list_tips.Goals as goal

pub returns-in_err-first_tests : goal.returns-in_err-first_tests
returns-in_err-first_tests c =
    let x = c.args in
    let r : c.from_residual.result ≡ Err c.in_err-first_tests.field-0.0 = search rules in
    rw r (ends_as (tips-refused x.text.now x.policy.now x.table.now c.in_err-first_tests.field-0.0
    (first-refused x.text.now x.policy.now c.first_tests.ensures c.in_err-first_tests.field-0.0 c.in_err-first_tests.was)))

pub flag_uses-valid_up_to-requires : goal.flag_uses-valid_up_to-requires
flag_uses-valid_up_to-requires c = no_flags 2124

pub returns-then-valid_up_to-text : goal.returns-then-valid_up_to-text
returns-then-valid_up_to-text c =
    let x = c.args in
    let t = x.text.now in
    let p = x.policy.now in
    let f = first-passed t p c.first_tests.ensures c.in_ok-first_tests.was in
    let n = c.flag_uses-valid_up_to in
    ends_as (tips-refused t p x.table.now (NotWellFormed n.result)
    (not_well_formed t p f.0 f.1 n.ensures.valid c.if-valid_up_to-text.true))

pub returns : goal.returns
returns c =
    let x = c.args in
    let t = x.text.now in
    let p = x.policy.now in
    let f = first-passed t p c.first_tests.ensures c.in_ok-first_tests.was in
    let n = c.flag_uses-valid_up_to.ensures in
    let bytes : all_bytes p ≡ true = bytes_all p (λ j. let h = (c.type_inv.policy j).fits in omega arith) in
    ends_as (c.fill_table.ensures
    ∙ tips-passed t p x.table.now (pass_intake p t (all_well_formed t p f.0 f.1 n.valid c.if-valid_up_to-text.false))
    (flags_tell t p _ n.flags bytes))
