-- `PolicyKeySet::fmt` meets its contract: there are three texts, by the number of keys.
use mathlib.Core.Path.{◌∙◌, sym}
use native.Mathlib.Omega.{arith}
use Rattle.policy_key_set.proofs.Buffers.{display_all, display-list, display-none}
use Rattle.policy_key_set.proofs.PolicyKeySet.fmt.Goals as goal

pub returns-in-0 : goal.returns-in-0
returns-in-0 c = rw (display-none c.args.self (sym c.size.ensures ∙ c.in-0.is)) c.show_word.ensures

pub returns-in-708 : goal.returns-in-708
returns-in-708 c =
    rw (display_all c.args.self (λ e. omega (arith, c.in-708.is, c.size.ensures)) (sym c.size.ensures ∙ c.in-708.is))
    c.show_word-in-708.ensures

pub returns-in_default : goal.returns-in_default
returns-in_default c =
    rw (display-list c.args.self (λ e. omega (arith, c.size.ensures)) (λ e. omega (arith, c.size.ensures))) c.show_keys.ensures
