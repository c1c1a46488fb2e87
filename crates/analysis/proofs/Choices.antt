-- The number of choices is the eighth count. The default decisions are the defaults of the choices, and give the same replacement
-- as no decisions.
use mathlib.Core.Path.{◌≡◌, refl, ap, ◌∙◌}
use mathlib.Core.List.{List, [], ◌∷◌, map}
use Prim.Native.Nat.{ℕ, ◌+◌}
use native.Mathlib.Omega.{arith}
use lib.ListN.{length}
use Rattle.policy.specs.declared.Policy.{Policy}
use Rattle.scanner.specs.Items.{Item}
use Rattle.scanner.specs.declared.ScanKind.{ScanKind}
use Rattle.scanner.specs.declared.ScanKind.TheVariants.{EmojiHeaded, LinksOnly, Passthrough, UnsanctionedPresentationSelectors}
use Rattle.analysis.specs.Analysis.{
  Choice,
  add_choice,
  add_default,
  choices,
  choices_of,
  choices_of_cells,
  chosen,
  count_cells,
  counts_of,
  default_decisions,
  defaults_for,
  defaults_of_cells,
  following,
  remaining,
  non_canonicality,
  outcome_at,
  render,
  renew,
  replacement,
  replacement_of,
  up_to_link,
}
use Rattle.analysis.specs.Cells.{Cell, cells, unsplit}
use Rattle.analysis.specs.Rules.{Slot, bare, decided, fixed}
use Rattle.analysis.proofs.RuleLaws.{balances, decisions}

module _ (p : Policy) where
  -- ---- cells

  pub cells-counted : (xs : List Cell) → length (choices_of_cells p xs) ≡ (count_cells p xs).presentation_decisions
  unfolding choices_of_cells count_cells
  cells-counted [] = refl
  cells-counted (x ∷ xs) =
      let o = outcome_at p x xs in
      omega (arith, one o.slot (choices_of_cells p xs), (balances p x.char (following xs)).decided x.after, cells-counted xs)
    where
      one : (o : Slot) (l : List Choice) → length (add_choice p o (x ∷ up_to_link xs) l) ≡ decisions o + length l
      one bare l = omega arith
      one (fixed q) l = omega arith
      one (decided d) l = omega arith

  pub cells_defaults : (xs : List Cell) → defaults_of_cells p xs ≡ map (λ (c : Choice). c.default) (choices_of_cells p xs)
  unfolding choices_of_cells defaults_of_cells
  cells_defaults [] = refl
  cells_defaults (x ∷ xs) = ap (add_default (outcome_at p x xs).slot) (cells_defaults xs)
      ∙ one (outcome_at p x xs).slot (choices_of_cells p xs)
    where
      one : (o : Slot) (l : List Choice) → add_default o (map (λ (c : Choice). c.default) l)
          ≡ map (λ (c : Choice). c.default) (add_choice p o (x ∷ up_to_link xs) l)
      one bare l = refl
      one (fixed q) l = refl
      one (decided d) l = refl

  pub renew_defaults : (xs : List Cell) → renew p xs (defaults_of_cells p xs) ≡ renew p xs []
  unfolding defaults_of_cells renew
  renew_defaults [] = refl
  renew_defaults (x ∷ xs) = go (outcome_at p x xs).slot (renew_defaults xs)
    where
      go : (o : Slot) → renew p xs (defaults_of_cells p xs) ≡ renew p xs [] → let ds = add_default o (defaults_of_cells p xs) in
          record { char = x.char; after = chosen o ds } ∷ renew p xs (remaining o ds)
          ≡ record { char = x.char; after = chosen o [] } ∷ renew p xs (remaining o [])
      go bare h = ap (λ (l : List Cell). record { char = x.char; after = [] } ∷ l) h
      go (fixed q) h = ap (λ (l : List Cell). record { char = x.char; after = q ∷ [] } ∷ l) h
      go (decided d) h = ap (λ (l : List Cell). record { char = x.char; after = d ∷ [] } ∷ l) h

  -- ---- items

  pub counted_of : (k : ScanKind) (t : List ℕ) → length (choices_of p k t) ≡ (counts_of p k t).presentation_decisions
  unfolding choices_of counts_of
  counted_of Passthrough t = refl
  counted_of UnsanctionedPresentationSelectors t = refl
  counted_of LinksOnly t = cells-counted (cells t)
  counted_of EmojiHeaded t = cells-counted (cells t)

  pub defaults_of : (k : ScanKind) (t : List ℕ) → defaults_for p k t ≡ map (λ (c : Choice). c.default) (choices_of p k t)
  unfolding choices_of defaults_for
  defaults_of Passthrough t = refl
  defaults_of UnsanctionedPresentationSelectors t = refl
  defaults_of LinksOnly t = cells_defaults (cells t)
  defaults_of EmojiHeaded t = cells_defaults (cells t)

  pub replace_defaults_of : (k : ScanKind) (t : List ℕ) → replacement_of p k t (defaults_for p k t) ≡ replacement_of p k t []
  unfolding defaults_for replacement_of render
  replace_defaults_of Passthrough t = refl
  replace_defaults_of UnsanctionedPresentationSelectors t = refl
  replace_defaults_of LinksOnly t = ap unsplit (renew_defaults (cells t))
  replace_defaults_of EmojiHeaded t = ap unsplit (renew_defaults (cells t))

  pub choices_counted : (x : Item) → length (choices p x) ≡ (non_canonicality p x).presentation_decisions
  unfolding choices non_canonicality
  choices_counted x = counted_of x.kind x.chars

  pub decisions_defaults : (x : Item) → default_decisions p x ≡ map (λ (c : Choice). c.default) (choices p x)
  unfolding choices default_decisions
  decisions_defaults x = defaults_of x.kind x.chars

  pub replacement_defaults : (x : Item) → replacement p x (default_decisions p x) ≡ replacement p x []
  unfolding replacement default_decisions
  replacement_defaults x = replace_defaults_of x.kind x.chars
