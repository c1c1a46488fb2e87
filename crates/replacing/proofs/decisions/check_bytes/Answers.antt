-- `replacing::decisions::check_bytes` meets its contract: the first decision above 1 is where `position` finds it.
use Rattle.std.specs.Prelude.{◌≡◌, Bool, true, false, cond, List, [], ◌∷◌, ℕ, suc, ◌+◌, ltb, position, Option, Some, None}
use Rattle.std.specs.List.{position_from}
use Rattle.std.proofs.Common.{rules, tests}
use Rattle.std.proofs.lemmas.Bool.{ltb-false, ltb-true}
use Rattle.std.proofs.lemmas.Iterator.{YieldsList-from_slice}
use Rattle.std.proofs.lemmas.Iterator.Adapters.{position_from-zero}
use Rattle.std.proofs.lemmas.Iterator.Search.{position_from_yields_List}
use mathlib.Core.Path.{refl, sym, subst, ap, ◌∙◌}
use native.Mathlib.Omega.{arith}
use borrow.Author.Tests.{le-leb, lt-leb}
use Rattle.base.specs.Refusals.{checked}
use Rattle.base.specs.declared.Refusal.{Refusal}
use Rattle.base.specs.declared.Refusal.TheVariants.{BadDecision}
use Rattle.analysis.specs.Decisions.{bad_decision}
use Rattle.replacing.proofs.decisions.check_bytes.Goals as goal

-- The refusal of the decision at an index.
abbrev bad_at : Option ℕ → Option Refusal
bad_at None = None
bad_at (Some i) = Some (BadDecision i)

first_bad : (n : ℕ) (ds : List ℕ) → bad_decision n ds ≡ bad_at (position_from (ltb 1) n ds)
unfolding bad_decision
first_bad n [] = refl
first_bad n (d ∷ ds) = go (ltb 1 d) refl (first_bad (suc n) ds)
  where
    go : (b : Bool) → ltb 1 d ≡ b → bad_decision (suc n) ds ≡ bad_at (position_from (ltb 1) (suc n) ds)
        → bad_decision n (d ∷ ds) ≡ bad_at (cond (ltb 1 d) (Some n) (position_from (ltb 1) (n + 1) ds))
    go true e h = simp (e, lt-leb d 1 (ltb-true 1 d e))
    go false e h =
        let s : suc n ≡ n + 1 = omega arith in
        let g = subst (λ (k : ℕ). bad_decision k ds ≡ bad_at (position_from (ltb 1) k ds)) s h in
        simp (e, le-leb d 1 (ltb-false 1 d e), s, g)

-- The refusal by the answer of `position`.
by_position : (ds : List ℕ) (r : Option ℕ) → r ≡ position (ltb 1) ds → checked (bad_at r) ≡ checked (bad_decision 0 ds)
by_position ds r e = ap (λ (o : Option ℕ). checked (bad_at o)) (e ∙ position_from-zero (ltb 1) ds) ∙ sym (ap checked (first_bad 0 ds))

pub returns-in-Some : goal.returns-in-Some
returns-in-Some c =
    let found = position_from_yields_List (ltb 1) _ _ c.position.result c.position.ensures.ran
    (YieldsList-from_slice _ c.iter.ensures.rest) (λ x b q k. search (rules, tests)) in
    by_position c.args.decisions.now _ (sym c.in-Some.is ∙ found)

pub returns-in-None : goal.returns-in-None
returns-in-None c =
    let found = position_from_yields_List (ltb 1) _ _ c.position.result c.position.ensures.ran
    (YieldsList-from_slice _ c.iter.ensures.rest) (λ x b q k. search (rules, tests)) in
    by_position c.args.decisions.now _ (sym c.in-None.is ∙ found)
