-- The form in which the examples of items under the default policy are stated.
use Rattle.std.specs.Prelude.{List, map, ℕ}
use Rattle.policy.specs.DefaultPolicy.{default_policy}
use Rattle.scanner.specs.Items.{Item, items}
use Rattle.analysis.specs.Analysis.{default_replacement, non_canonicality}
use Rattle.analysis.specs.declared.types.NonCanonicality.{NonCanonicality}

-- An item of a text: its characters, its counts and its default replacement.
pub record Analysed : Type 0 where
  pub chars : List ℕ
  pub counts : NonCanonicality
  pub replacement : List ℕ

-- A short form of this record.
abbrev pub analysed : List ℕ → NonCanonicality → List ℕ → Analysed
analysed t n r = record { chars = t; counts = n; replacement = r }

-- The items of a text, with their counts and default replacements under the default policy.
abbrev pub analysed_items : List ℕ → List Analysed
analysed_items t = map (λ (x : Item). analysed x.chars (non_canonicality default_policy x) (default_replacement default_policy x)) (items t)
