-- `feeding::take_char` meets its contract: a selector, or another character.
use mathlib.Core.Path.{sym, ◌∙◌, subst}
use mathlib.Core.List.{[], ◌∷◌}
use Prim.Native.Nat.{ℕ}
use Rattle.policy.specs.PolicyBytes.{policy_of}
use Rattle.scanner.proofs.SelectorChars.{selector_value}
use Rattle.feed.specs.Feed.{fed_as}
use Rattle.feeding.specs.Helpers.{TakenBy}
use Rattle.feeding.proofs.take_char.Goals as goal

pub take_selector-requires : goal.take_selector-requires
take_selector-requires c = (c.requires.0, c.requires.2)

pub take_other-requires : goal.take_other-requires
take_other-requires c = (c.requires.0, c.requires.1, sym c.from_selector.ensures ∙ c.in-None.is, c.requires.2, c.requires.3)

pub returns-in-Some : goal.returns-in-Some
returns-in-Some c =
    let x = c.args in
    let p = policy_of x.policy.now in
    let e = selector_value x.ch _
    (sym c.from_selector.ensures ∙ c.in-Some.is) in
    subst (λ (v : ℕ). TakenBy p x.taken.held x.taken.counts (fed_as p (v ∷ [])) x.out.now x.taken.end x.out.now
    c.take_selector.result) (sym e)
    (c.take_selector.ensures p x.out.now)

pub returns-in-None : goal.returns-in-None
returns-in-None c = c.take_other.ensures
