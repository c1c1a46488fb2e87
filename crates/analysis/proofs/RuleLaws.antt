-- Laws of the six rules: the rules count nothing in their own result, a rule that counts nothing keeps the selectors, and the
-- numbers of selectors before and after differ as counted.
use Rattle.std.specs.Prelude.{Some, None, Option}
use mathlib.Core.Path.{◌≡◌, refl, ap}
use mathlib.Core.Bool.{Bool, true, false}
use mathlib.Core.List.{List, [], ◌∷◌}
use Prim.Native.Nat.{ℕ, ◌+◌, ◌≤◌}
use native.Mathlib.Omega.{arith}
use lib.ListN.{length}
use Rattle.emoji.specs.declared.presentation.Presentation.{Presentation}
use Rattle.emoji.specs.declared.presentation.Presentation.TheVariants.{Emoji, Text}
use Rattle.policy.specs.declared.Policy.{Policy}
use Rattle.policy.specs.declared.SingletonRule.{SingletonRule}
use Rattle.policy.specs.declared.SingletonRule.TheVariants.{BareToEmoji, BareToText, EmojiToBare, TextToBare}
use Rattle.scanner.specs.declared.char_class.Class.{Class}
use Rattle.analysis.specs.Analysis.{chosen}
use Rattle.analysis.specs.Counts.{adding, empty, removing, total}
use Rattle.analysis.specs.Rules.{
  Outcome,
  Slot,
  bare,
  by_first,
  decided,
  fixed,
  is_bare_side,
  outcome,
  rule1,
  rule2,
  rule3,
  rule4,
  rule5,
  rule6,
  selector_number,
  text_first,
  without_selector,
}
use Rattle.analysis.proofs.Rules.{by_rules, rule23}

-- ---- the rules count nothing in their own result

abbrev Settles : (List Presentation → Outcome) → Type 0
Settles f = (s ds : List Presentation) → (f (chosen (f s).slot ds)).counts ≡ empty

settles_1 : Settles rule1
unfolding rule1
settles_1 s ds = refl

settles_23 : (b : Bool) → Settles (rule23 b)
unfolding rule2 rule3 by_first text_first
settles_23 b [] ds = refl
settles_23 b (Text ∷ s) ds = refl
settles_23 b (Emoji ∷ s) ds = refl

settles_4 : Settles rule4
unfolding rule4 by_first
settles_4 s ds = refl

settles_5 : Settles rule5
unfolding rule5 by_first
settles_5 [] ds = refl
settles_5 (q ∷ s) ds = refl

settles_6 : (r : SingletonRule) → Settles (rule6 r)
unfolding rule6 without_selector is_bare_side
settles_6 TextToBare [] ds = refl
settles_6 EmojiToBare [] ds = refl
settles_6 BareToText [] ds = refl
settles_6 BareToEmoji [] ds = refl
settles_6 TextToBare (Text ∷ s) ds = refl
settles_6 TextToBare (Emoji ∷ s) ds = refl
settles_6 EmojiToBare (Text ∷ s) ds = refl
settles_6 EmojiToBare (Emoji ∷ s) ds = refl
settles_6 BareToText (q ∷ s) ds = refl
settles_6 BareToEmoji (q ∷ s) ds = refl

pub settles : (p : Policy) (c : ℕ) (k : Class) → Settles (outcome p c k)
settles = by_rules Settles settles_1 settles_23 settles_4 settles_5 settles_6

-- ---- a rule that counts nothing keeps the selectors

abbrev Keeps : (List Presentation → Outcome) → Type 0
Keeps f = (s : List Presentation) → total (f s).counts ≡ 0 → chosen (f s).slot [] ≡ s

nil_of : (s : List Presentation) → length s ≡ 0 → [] ≡ s
nil_of [] e = refl
nil_of (x ∷ s) e = absurd (omega arith)

one_of : (q : Presentation) (s : List Presentation) → length s ≡ 0 → q ∷ [] ≡ q ∷ s
one_of q s e = ap (λ (l : List Presentation). q ∷ l) (nil_of s e)

keeps_1 : Keeps rule1
unfolding rule1
keeps_1 s e = nil_of s (omega arith)

keeps_23 : (b : Bool) → Keeps (rule23 b)
unfolding rule2 rule3 by_first text_first
keeps_23 b [] e = refl
keeps_23 b (Text ∷ s) e = one_of Text s (omega arith)
keeps_23 true (Emoji ∷ s) e = absurd (omega arith)
keeps_23 false (Emoji ∷ s) e = absurd (omega arith)

keeps_4 : Keeps rule4
unfolding rule4 by_first
keeps_4 [] e = refl
keeps_4 (Text ∷ s) e = absurd (omega arith)
keeps_4 (Emoji ∷ s) e = absurd (omega arith)

keeps_5 : Keeps rule5
unfolding rule5 by_first
keeps_5 [] e = absurd (omega arith)
keeps_5 (Text ∷ s) e = absurd (omega arith)
keeps_5 (Emoji ∷ s) e = one_of Emoji s (omega arith)

keeps_6 : (r : SingletonRule) → Keeps (rule6 r)
unfolding rule6 without_selector is_bare_side
keeps_6 TextToBare [] e = refl
keeps_6 EmojiToBare [] e = refl
keeps_6 BareToText [] e = absurd (omega arith)
keeps_6 BareToEmoji [] e = absurd (omega arith)
keeps_6 TextToBare (Text ∷ s) e = absurd (omega arith)
keeps_6 TextToBare (Emoji ∷ s) e = one_of Emoji s (omega arith)
keeps_6 EmojiToBare (Text ∷ s) e = one_of Text s (omega arith)
keeps_6 EmojiToBare (Emoji ∷ s) e = absurd (omega arith)
keeps_6 BareToText (q ∷ s) e = one_of q s (omega arith)
keeps_6 BareToEmoji (q ∷ s) e = one_of q s (omega arith)

pub keeps : (p : Policy) (c : ℕ) (k : Class) → Keeps (outcome p c k)
keeps = by_rules Keeps keeps_1 keeps_23 keeps_4 keeps_5 keeps_6

-- ---- the numbers of selectors differ as counted, and the eighth count is 1 exactly if the slot takes a decision

-- The number of selectors that a slot holds.
abbrev pub held : Slot → ℕ
held bare = 0
held (fixed q) = 1
held (decided d) = 1

-- The number of decisions that a slot takes.
abbrev pub decisions : Slot → ℕ
decisions bare = 0
decisions (fixed q) = 0
decisions (decided d) = 1

pub record Balances (f : List Presentation → Outcome) : Type 0 where
  pub selectors : (s : List Presentation) → held (f s).slot + removing (f s).counts ≡ length s + adding (f s).counts
  pub decided : (s : List Presentation) → decisions (f s).slot ≡ (f s).counts.presentation_decisions

balances_1 : Balances rule1
unfolding rule1
balances_1 = record { selectors = λ s. omega arith; decided = λ s. refl }

balances_23 : (b : Bool) → Balances (rule23 b)
unfolding rule2 rule3 by_first text_first
balances_23 b = record { selectors = on b; decided = of b }
  where
    on : (b : Bool) (s : List Presentation) → held (rule23 b s).slot + removing (rule23 b s).counts
        ≡ length s + adding (rule23 b s).counts
    on b [] = refl
    on b (Text ∷ s) = omega arith
    on true (Emoji ∷ s) = omega arith
    on false (Emoji ∷ s) = omega arith

    of : (b : Bool) (s : List Presentation) → decisions (rule23 b s).slot ≡ (rule23 b s).counts.presentation_decisions
    of b [] = refl
    of b (Text ∷ s) = refl
    of true (Emoji ∷ s) = refl
    of false (Emoji ∷ s) = refl

balances_4 : Balances rule4
unfolding rule4 by_first
balances_4 = record { selectors = on; decided = of }
  where
    on : (s : List Presentation) → held (rule4 s).slot + removing (rule4 s).counts ≡ length s + adding (rule4 s).counts
    on [] = refl
    on (Text ∷ s) = omega arith
    on (Emoji ∷ s) = omega arith

    of : (s : List Presentation) → decisions (rule4 s).slot ≡ (rule4 s).counts.presentation_decisions
    of [] = refl
    of (Text ∷ s) = refl
    of (Emoji ∷ s) = refl

balances_5 : Balances rule5
unfolding rule5 by_first
balances_5 = record { selectors = on; decided = of }
  where
    on : (s : List Presentation) → held (rule5 s).slot + removing (rule5 s).counts ≡ length s + adding (rule5 s).counts
    on [] = refl
    on (Text ∷ s) = omega arith
    on (Emoji ∷ s) = omega arith

    of : (s : List Presentation) → decisions (rule5 s).slot ≡ (rule5 s).counts.presentation_decisions
    of [] = refl
    of (Text ∷ s) = refl
    of (Emoji ∷ s) = refl

balances_6 : (r : SingletonRule) → Balances (rule6 r)
unfolding rule6 without_selector is_bare_side
balances_6 r = record { selectors = on r; decided = of r }
  where
    on : (r : SingletonRule) (s : List Presentation) → held (rule6 r s).slot + removing (rule6 r s).counts
        ≡ length s + adding (rule6 r s).counts
    on TextToBare [] = refl
    on EmojiToBare [] = refl
    on BareToText [] = refl
    on BareToEmoji [] = refl
    on TextToBare (Text ∷ s) = omega arith
    on TextToBare (Emoji ∷ s) = omega arith
    on EmojiToBare (Text ∷ s) = omega arith
    on EmojiToBare (Emoji ∷ s) = omega arith
    on BareToText (q ∷ s) = omega arith
    on BareToEmoji (q ∷ s) = omega arith

    of : (r : SingletonRule) (s : List Presentation) → decisions (rule6 r s).slot ≡ (rule6 r s).counts.presentation_decisions
    of TextToBare [] = refl
    of EmojiToBare [] = refl
    of BareToText [] = refl
    of BareToEmoji [] = refl
    of TextToBare (Text ∷ s) = refl
    of TextToBare (Emoji ∷ s) = refl
    of EmojiToBare (Text ∷ s) = refl
    of EmojiToBare (Emoji ∷ s) = refl
    of BareToText (q ∷ s) = refl
    of BareToEmoji (q ∷ s) = refl

pub balances : (p : Policy) (c : ℕ) (k : Class) → Balances (outcome p c k)
balances = by_rules Balances balances_1 balances_23 balances_4 balances_5 balances_6

pub selector_small : (f : Option Presentation) → selector_number f ≤ 2
selector_small None = omega arith
selector_small (Some Text) = omega arith
selector_small (Some Emoji) = omega arith
