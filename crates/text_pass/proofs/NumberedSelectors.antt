-- Selectors as numbers: the code's numbers and words of bits give the selectors that the rules leave.
use Rattle.std.specs.Prelude.{Some, None, Option}
use mathlib.Core.Path.{◌≡◌, refl}
use mathlib.Core.Bool.{Bool}
use mathlib.Core.List.{List, [], ◌∷◌}
use Prim.Native.Nat.{ℕ, zero, suc, ◌*◌, ◌/◌, ◌%◌, ◌^◌, ◌≤◌}
use native.Mathlib.Omega.{arith}
use Rattle.emoji.specs.declared.presentation.Presentation.{Presentation}
use Rattle.emoji.specs.declared.presentation.Presentation.TheVariants.{Emoji, Text}
use Rattle.policy.specs.declared.SingletonRule.TheVariants.{BareToEmoji, BareToText, EmojiToBare, TextToBare}
use Rattle.analysis.specs.Rules.{
  by_first,
  is_bare_side,
  rule2,
  rule3,
  rule4,
  rule5,
  rule6,
  run_with,
  selector_number,
  text_first,
  without_selector,
}
use Rattle.analysis.proofs.Rules.{rule23}
use Rattle.text_pass.specs.Changes.{LeavesSelector, selector_of}

pub number_selector : (n : ℕ) → n ≤ 2 → selector_number (selector_of n) ≡ n
unfolding selector_of
number_selector zero h = refl
number_selector (suc zero) h = refl
number_selector (suc (suc zero)) h = refl
number_selector (suc (suc (suc n))) h = absurd (omega arith)

pub selector_third : (n : ℕ) → (n ≡ 0 → ⊥) → (n ≡ 1 → ⊥) → Some Emoji ≡ selector_of n
unfolding selector_of
selector_third zero a b = absurd (a refl)
selector_third (suc zero) a b = absurd (b refl)
selector_third (suc (suc n)) a b = refl

-- ---- rule 6

pub text_to_bare : (f : Option Presentation) (n : ℕ)
    → LeavesSelector (rule6 TextToBare (run_with f n)).slot (0x20 / 2 ^ (2 * selector_number f) % 4)
unfolding rule6 without_selector is_bare_side run_with selector_of
text_to_bare None n = record { few = omega arith; left = refl }
text_to_bare (Some Text) n = record { few = omega arith; left = refl }
text_to_bare (Some Emoji) n = record { few = omega arith; left = refl }

pub emoji_to_bare : (f : Option Presentation) (n : ℕ)
    → LeavesSelector (rule6 EmojiToBare (run_with f n)).slot (0x04 / 2 ^ (2 * selector_number f) % 4)
unfolding rule6 without_selector is_bare_side run_with selector_of
emoji_to_bare None n = record { few = omega arith; left = refl }
emoji_to_bare (Some Text) n = record { few = omega arith; left = refl }
emoji_to_bare (Some Emoji) n = record { few = omega arith; left = refl }

pub bare_to_text : (f : Option Presentation) (n : ℕ)
    → LeavesSelector (rule6 BareToText (run_with f n)).slot (0x25 / 2 ^ (2 * selector_number f) % 4)
unfolding rule6 without_selector is_bare_side run_with selector_of
bare_to_text None n = record { few = omega arith; left = refl }
bare_to_text (Some Text) n = record { few = omega arith; left = refl }
bare_to_text (Some Emoji) n = record { few = omega arith; left = refl }

pub bare_to_emoji : (f : Option Presentation) (n : ℕ)
    → LeavesSelector (rule6 BareToEmoji (run_with f n)).slot (0x26 / 2 ^ (2 * selector_number f) % 4)
unfolding rule6 without_selector is_bare_side run_with selector_of
bare_to_emoji None n = record { few = omega arith; left = refl }
bare_to_emoji (Some Text) n = record { few = omega arith; left = refl }
bare_to_emoji (Some Emoji) n = record { few = omega arith; left = refl }

-- ---- rules 2 to 5

pub modifier_text : (f : Option Presentation) → selector_number f ≡ 1 → (b : Bool) (n : ℕ) → LeavesSelector (rule23 b (run_with f n)).slot 1
unfolding rule2 rule3 by_first text_first run_with selector_of
modifier_text None e b n = absurd (omega (arith, e))
modifier_text (Some Text) e b n = record { few = omega arith; left = refl }
modifier_text (Some Emoji) e b n = absurd (omega (arith, e))

pub modifier_other : (f : Option Presentation) → (selector_number f ≡ 1 → ⊥) → (b : Bool) (n : ℕ)
    → LeavesSelector (rule23 b (run_with f n)).slot 0
unfolding rule2 rule3 by_first text_first run_with selector_of
modifier_other None e b n = record { few = omega arith; left = refl }
modifier_other (Some Text) e b n = absurd (e refl)
modifier_other (Some Emoji) e b n = record { few = omega arith; left = refl }

pub tags_bare : (s : List Presentation) → LeavesSelector (rule4 s).slot 0
unfolding rule4 by_first run_with selector_of
tags_bare s = record { few = omega arith; left = refl }

pub tags_emoji : (s : List Presentation) → LeavesSelector (rule5 s).slot 2
unfolding rule5 by_first run_with selector_of
tags_emoji [] = record { few = omega arith; left = refl }
tags_emoji (q ∷ s) = record { few = omega arith; left = refl }
