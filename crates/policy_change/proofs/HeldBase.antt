-- The held base after characters that have any policies. A selector leaves the policy of the held base, and any other character takes its
-- own; so the laws of crate feed on one policy serve each step.
use Rattle.emoji.specs.declared.presentation.Presentation.{Presentation}
use Rattle.std.specs.Prelude.{Some, None, Option}
use mathlib.Core.Path.{◌≡◌, refl, sym, subst}
use mathlib.Core.List.{List, [], ◌∷◌, ◌++◌, append_assoc, append-nil}
use Prim.Native.Nat.{ℕ}
use Rattle.emoji.specs.Presentation.{from_selector}
use Rattle.policy.specs.declared.Policy.{Policy}
use Rattle.feed.specs.Feed.{Fed, Pending, chars_of, fed_as, nothing, take_char, take_chars}
use Rattle.feed.specs.Theorems.{HeldLast, only_selectors_lem}
use Rattle.feed.proofs.LastBase.{all_last, chars-last}
use Rattle.policy_change.specs.Theorems.{HoldsLast}

one_more : {cs : List ℕ} {h : Pending} → HoldsLast cs h → (q : Policy) (d : ℕ)
    → HoldsLast (cs ++ (d ∷ [])) (take_char q h d (from_selector d)).0
unfolding take_char take_chars
one_more {cs} {h} l q d = go (from_selector d) refl
  where
    go : (y : Option Presentation) → from_selector d ≡ y → HoldsLast (cs ++ (d ∷ [])) (take_char q h d y).0
    go (Some r) e = record {
      judge = l.judge;
      last =
          subst (λ (z : Option Presentation). HeldLast l.judge (cs ++ (d ∷ [])) (take_char l.judge h d z).0) e
          (chars-last l.judge l.last (d ∷ []));
    }
    go None e = record {
      judge = q;
      last =
          subst (λ (z : Option Presentation). HeldLast q (cs ++ (d ∷ [])) (take_char q (take_chars nothing (fed_as q cs)).0 d z).0) e
          (chars-last q (all_last q cs) (d ∷ []));
    }

more : {cs : List ℕ} {h : Pending} → HoldsLast cs h → (xs : List Fed) → HoldsLast (cs ++ chars_of xs) (take_chars h xs).0
unfolding take_chars
more {cs} {h} l [] = subst (λ (k : List ℕ). HoldsLast k h) (sym (append-nil cs)) l
more {cs} {h} l (x ∷ xs) =
    subst (λ (k : List ℕ). HoldsLast k (take_chars (take_char x.policy h x.char (from_selector x.char)).0 xs).0)
    (append_assoc cs (x.char ∷ []) (chars_of xs)) (more {cs = cs ++ (x.char ∷ [])} (one_more l x.policy x.char) xs)

-- From the first character on.
pub all_held : (p : Policy) (xs : List Fed) → HoldsLast (chars_of xs) (take_chars nothing xs).0
all_held p xs = more (record { judge = p; last = only_selectors_lem [] refl }) xs
