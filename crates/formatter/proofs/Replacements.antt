-- The laws of counts and replacements that the claim on a list uses, stated for one item.
use mathlib.Core.Path.{◌≡◌, ap, ◌∙◌}
use mathlib.Core.Logic.{⊎_elim}
use mathlib.Core.Bool.{true}
use mathlib.Core.List.{List, [], ◌∷◌}
use Prim.Native.Nat.{ℕ, ◌+◌, ◌*◌, ◌≤◌}
use lib.ListN.{length, length-map}
use Rattle.emoji.specs.declared.presentation.Presentation.{Presentation}
use Rattle.policy.specs.declared.Policy.{Policy}
use Rattle.scanner.specs.Classes.{class_of, strip}
use Rattle.scanner.specs.Grammar.{Derives}
use Rattle.scanner.specs.Items.{Item, start_state}
use Rattle.scanner.specs.Spans.{size, width}
use Rattle.scanner.specs.Theorems.{Structured}
use Rattle.scanner.specs.declared.ScanKind.TheVariants.{EmojiHeaded, LinksOnly, Passthrough, UnsanctionedPresentationSelectors}
use Rattle.scanner.proofs.States.{inner}
use Rattle.scanner.proofs.Walk.{inner_no_selector}
use Rattle.analysis.specs.Analysis.{Choice, choices, default_decisions, non_canonicality, render, replacement, replacement_of}
use Rattle.analysis.specs.Cells.{cells, selector_count}
use Rattle.analysis.specs.Counts.{adding, removing}
use Rattle.analysis.proofs.Choices.{choices_counted, decisions_defaults}
use Rattle.analysis.proofs.Items.{balance_of, replacement_at, strip_of}
use Rattle.analysis.proofs.Lengths as Lengths
use Rattle.analysis.proofs.Replacement.{render_cons, renewed}

module _ (p : Policy) where
  pub replacement_plain : (x : Item) (ds : List Presentation) → x.kind ≡ Passthrough → replacement p x ds ≡ x.chars
  unfolding replacement_of
  replacement_plain x ds e = replacement_at p x ds Passthrough e

  pub replacement_selectors : (x : Item) (ds : List Presentation) → x.kind ≡ UnsanctionedPresentationSelectors → replacement p x ds ≡ []
  unfolding replacement_of
  replacement_selectors x ds e = replacement_at p x ds UnsanctionedPresentationSelectors e

  -- The replacement of links or units begins with their first character.
  pub replacement_cons : (x : Item) (ds : List Presentation) (c : ℕ) (s : List ℕ) → Structured x.kind → inner (start_state (class_of c))
      ≡ true → x.chars ≡ c ∷ s
      → replacement p x ds ≡ c ∷ renewed p c s ds
  unfolding replacement_of
  replacement_cons x ds c s o i l =
      ⊎_elim (λ e. replacement_at p x ds LinksOnly e) (λ e. replacement_at p x ds EmojiHeaded e) o
      ∙ ap (λ (t : List ℕ). render p (cells t) ds) l ∙ render_cons p c s ds (inner_no_selector c i)

  -- A replacement has the item's characters, apart from selectors.
  pub keeps_others : (x : Item) (ds : List Presentation) → Derives x.kind x.chars → strip (replacement p x ds) ≡ strip x.chars
  unfolding replacement
  keeps_others x ds d = strip_of p d ds

  -- The number of a replacement's selectors is that of the item's, less the removing counts, plus the adding ones.
  pub balances : (x : Item) (ds : List Presentation) → Derives x.kind x.chars
      → selector_count (replacement p x ds) + removing (non_canonicality p x) ≡ selector_count x.chars + adding (non_canonicality p x)
  unfolding replacement non_canonicality
  balances x ds d = balance_of p d ds

  -- A replacement is at most four times as long as the item.
  pub four_times : (x : Item) (ds : List Presentation) → Derives x.kind x.chars
      → size width (replacement p x ds) ≤ 4 * size width x.chars
  unfolding replacement
  four_times x ds d = Lengths.four_times p d ds

  -- The number of default decisions is the eighth count.
  pub default_number : (x : Item) → length (default_decisions p x) ≡ (non_canonicality p x).presentation_decisions
  default_number x = ap length (decisions_defaults p x) ∙ length-map (choices p x) (λ (c : Choice). c.default) ∙ choices_counted p x
