-- `storing::file` meets its contract: each return by its law of Filing.
use Rattle.std.proofs.Common.{◌≡◌, ◌∙◌, Err, refl, rules, sym}
use Rattle.storing.proofs.Filing.{charge-refused, file_refused, filed-changed, filed-unchanged}
use Rattle.storing.proofs.file.Goals as goal

pub returns-in_err-answer : goal.returns-in_err-answer
returns-in_err-answer c =
    let x = c.args in
    let f = c.in_err-answer in
    let r : c.from_residual.result ≡ Err f.field-0.0 = search rules in
    rw r (file_refused x.store.now x.text.now x.policy.now x.client x.number x.out.now _
    (sym f.was ∙ c.format_answer.ensures x.out.now refl))

pub returns-in_err-charge : goal.returns-in_err-charge
returns-in_err-charge c =
    let x = c.args in
    let e = sym c.in_ok-answer.was ∙ c.format_answer.ensures x.out.now refl in
    let f = c.in_err-charge in
    let r : c.from_residual-in_err-charge.result ≡ Err f.field-0.0 = search rules in
    rw r (charge-refused x.store.now x.text.now x.policy.now x.client x.number x.out.now _ e c.unwrap_or-len.ensures c.charge.ensures _
    f.was)

pub returns-then-is_some : goal.returns-then-is_some
returns-then-is_some c =
    let x = c.args in
    let e = sym c.in_ok-answer.was ∙ c.format_answer.ensures x.out.now refl in
    filed-changed x.store.now x.text.now x.policy.now x.client x.number x.out.now _ e c.unwrap_or-len.ensures c.charge.ensures
    c.in_ok-charge.was c.if-is_some.ensures _ c.write_formatted.result c.write_formatted.ensures.put

pub returns-else-is_some : goal.returns-else-is_some
returns-else-is_some c =
    let x = c.args in
    let e = sym c.in_ok-answer.was ∙ c.format_answer.ensures x.out.now refl in
    filed-unchanged x.store.now x.text.now x.policy.now x.client x.number x.out.now _ e c.unwrap_or-len.ensures c.charge.ensures
    c.in_ok-charge.was c.if-is_some.ensures
