-- The words of a state as bytes.
use mathlib.Core.Path.{◌≡◌, subst}
use mathlib.Core.Bool.{Bool}
use mathlib.Core.List.{List, [], ◌∷◌}
use Prim.Native.Nat.{ℕ}
use lib.ListN.{length}
use Rattle.base.specs.Sums.{one_if}
use Rattle.base.specs.Output.{WritesAt}
use Rattle.base.specs.Words.{bytes_of}
use Rattle.base.proofs.Numbers.{length_bytes_of_lem}
use Rattle.analysis.specs.Rules.{selector_number}
use Rattle.feed.specs.declared.State.{State}
use Rattle.feed.specs.Bytes.{state_words}

module _ (s : State) where
  pub words_made : {a b : ℕ} → a ≡ one_if s.ended → b ≡ selector_number s.held.first
      → (a ∷ s.held.base ∷ b ∷ s.held.count ∷ s.rest_len ∷ s.rest ∷ s.len
      ∷ s.counts.unsanctioned_selectors ∷ s.counts.modifier_defective_selectors
      ∷ s.counts.additional_defective_selectors ∷ s.counts.tag_conflicting_selectors ∷ s.counts.tag_forced_presentations
      ∷ s.counts.tag_redundant_selectors ∷ s.counts.policy_redundant_selectors ∷ s.counts.presentation_decisions ∷ [])
      ≡ state_words s
  unfolding state_words
  words_made p q = cc

  pub words_many : length (bytes_of (state_words s)) ≡ 120
  unfolding state_words
  words_many = length_bytes_of_lem (state_words s)

  pub state-writes : (before after : List ℕ) (r : Bool) {ws : List ℕ} → ws ≡ state_words s → WritesAt (bytes_of ws) before 0 r after
      → WritesAt (bytes_of (state_words s)) before 0 r after
  state-writes before after r e h = subst (λ (l : List ℕ). WritesAt (bytes_of l) before 0 r after) e h
