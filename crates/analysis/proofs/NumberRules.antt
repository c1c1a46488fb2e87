-- The result of the rules depends only on the first selector and the number of selectors. Each rule, by these two.
use Rattle.std.specs.Prelude.{Some, None}
use mathlib.Core.Path.{◌≡◌, refl, ap}
use mathlib.Core.Bool.{Bool, true, false, cond}
use mathlib.Core.List.{List, [], ◌∷◌}
use Prim.Native.Nat.{ℕ, ◌+◌, ◌-◌}
use native.Mathlib.Omega.{arith}
use lib.ListN.{length, replicate, length-replicate}
use Rattle.emoji.specs.declared.presentation.Presentation.{Presentation}
use Rattle.emoji.specs.declared.presentation.Presentation.TheVariants.{Emoji, Text}
use Rattle.policy.specs.declared.Policy.{Policy}
use Rattle.policy.specs.declared.SingletonRule.{SingletonRule}
use Rattle.scanner.specs.declared.char_class.Class.{Class}
use Rattle.analysis.specs.Counts.{◌⊕◌, eight, unsanctioned, empty, tag_forced}
use Rattle.analysis.specs.declared.types.NonCanonicality.{NonCanonicality}
use Rattle.analysis.specs.Rules.{
  Outcome,
  bare,
  by_first,
  first_asked,
  fixed,
  gives,
  is_bare_side,
  outcome,
  rule1,
  rule2,
  rule3,
  rule4,
  rule5,
  rule6,
  run_with,
  text_first,
}
use Rattle.analysis.proofs.Counts.{counts_path}
use Rattle.analysis.proofs.Rules.{by_rules, rule23}

-- Of the selectors after the first, only the number matters.
abbrev Numbers : (List Presentation → Outcome) → Type 0
Numbers f = (q : Presentation) (s t : List Presentation) → length s ≡ length t → f (q ∷ s) ≡ f (q ∷ t)

numbers_1 : Numbers rule1
unfolding rule1
numbers_1 q s t e = rw e

numbers_23 : (b : Bool) → Numbers (rule23 b)
unfolding rule2 rule3 by_first text_first
numbers_23 b Text s t e = rw e
numbers_23 b Emoji s t e = rw e

numbers_4 : Numbers rule4
unfolding rule4 by_first
numbers_4 Text s t e = rw e
numbers_4 Emoji s t e = rw e

numbers_5 : Numbers rule5
unfolding rule5 by_first
numbers_5 Text s t e = rw e
numbers_5 Emoji s t e = rw e

numbers_6 : (r : SingletonRule) → Numbers (rule6 r)
unfolding rule6
numbers_6 r q s t e = rw e

numbers : (p : Policy) (c : ℕ) (k : Class) → Numbers (outcome p c k)
numbers = by_rules Numbers numbers_1 numbers_23 numbers_4 numbers_5 numbers_6

pub by-numbers : (p : Policy) (c : ℕ) (k : Class) (s : List Presentation) → outcome p c k s
    ≡ outcome p c k (run_with (first_asked s) (length s))
unfolding run_with first_asked
by-numbers p c k [] = refl
by-numbers p c k (q ∷ s) = numbers p c k q s _ (omega (arith, length-replicate (length (q ∷ s) - 1) q))

-- ---- the result of each rule with a first selector, by the number of selectors

-- A record of counts, plus the selectors after the first, which are unsanctioned.
after : (b c d e f g h : ℕ) (q : Presentation) (n : ℕ) → eight 0 b c d e f g h ⊕ unsanctioned (length (replicate (n - 1) q))
    ≡ eight (n - 1) b c d e f g h
after b c d e f g h q n =
    counts_path _ _ (omega (arith, length-replicate (n - 1) q)) (omega arith) (omega arith) (omega arith) (omega arith) (omega arith)
    (omega arith) (omega arith)

pub first_1 : (q : Presentation) (n : ℕ) → rule1 (run_with (Some q) n) ≡ gives (unsanctioned (n - 1 + 1)) bare
unfolding rule1 run_with
first_1 q n = ap (λ (k : ℕ). gives (unsanctioned k) bare) (omega (arith, length-replicate (n - 1) q))

pub none_23 : (b : Bool) (n : ℕ) → rule23 b (run_with None n) ≡ gives empty bare
unfolding rule2 rule3 by_first text_first run_with
none_23 b n = refl

pub text_23 : (b : Bool) (n : ℕ) → rule23 b (run_with (Some Text) n) ≡ gives (unsanctioned (n - 1)) (fixed Text)
unfolding rule2 rule3 by_first text_first run_with
text_23 b n = ap (λ (m : NonCanonicality). gives m (fixed Text)) (after 0 0 0 0 0 0 0 Text n)

pub emoji_23 : (b : Bool) (n : ℕ) → rule23 b (run_with (Some Emoji) n)
    ≡ gives (cond b (eight (n - 1) 1 0 0 0 0 0 0) (eight (n - 1) 0 1 0 0 0 0 0)) bare
unfolding rule2 rule3 by_first text_first run_with
emoji_23 true n = ap (λ (m : NonCanonicality). gives m bare) (after 1 0 0 0 0 0 0 Emoji n)
emoji_23 false n = ap (λ (m : NonCanonicality). gives m bare) (after 0 1 0 0 0 0 0 Emoji n)

pub none_4 : (n : ℕ) → rule4 (run_with None n) ≡ gives empty bare
unfolding rule4 by_first run_with
none_4 n = refl

pub text_4 : (n : ℕ) → rule4 (run_with (Some Text) n) ≡ gives (eight (n - 1) 0 0 1 0 0 0 0) bare
unfolding rule4 by_first run_with
text_4 n = ap (λ (m : NonCanonicality). gives m bare) (after 0 0 1 0 0 0 0 Text n)

pub emoji_4 : (n : ℕ) → rule4 (run_with (Some Emoji) n) ≡ gives (eight (n - 1) 0 0 0 0 1 0 0) bare
unfolding rule4 by_first run_with
emoji_4 n = ap (λ (m : NonCanonicality). gives m bare) (after 0 0 0 0 1 0 0 Emoji n)

pub none_5 : (n : ℕ) → rule5 (run_with None n) ≡ gives tag_forced (fixed Emoji)
unfolding rule5 run_with
none_5 n = refl

pub text_5 : (n : ℕ) → rule5 (run_with (Some Text) n) ≡ gives (eight (n - 1) 0 0 1 1 0 0 0) (fixed Emoji)
unfolding rule5 by_first run_with
text_5 n = ap (λ (m : NonCanonicality). gives m (fixed Emoji)) (after 0 0 1 1 0 0 0 Text n)

pub emoji_5 : (n : ℕ) → rule5 (run_with (Some Emoji) n) ≡ gives (unsanctioned (n - 1)) (fixed Emoji)
unfolding rule5 by_first run_with
emoji_5 n = ap (λ (m : NonCanonicality). gives m (fixed Emoji)) (after 0 0 0 0 0 0 0 Emoji n)

pub first_6 : (r : SingletonRule) (q : Presentation) (n : ℕ)
    → rule6 r (run_with (Some q) n) ≡ cond (is_bare_side r q) (gives (eight (n - 1) 0 0 0 0 0 1 0) bare)
    (gives (unsanctioned (n - 1)) (fixed q))
unfolding rule6 run_with
first_6 r q n =
    λ i. cond (is_bare_side r q) (gives (after 0 0 0 0 0 1 0 q n i) bare) (gives (unsanctioned (length-replicate (n - 1) q i)) (fixed q))
