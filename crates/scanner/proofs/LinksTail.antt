-- What can follow in a run of links: selectors, and then links.
use mathlib.Core.Path.{◌≡◌}
use mathlib.Core.Bool.{true}
use mathlib.Core.List.{List, ◌∷◌, ◌++◌}
use Prim.Native.Nat.{ℕ}
use Rattle.emoji.specs.Presentation.{is_selector}
use Rattle.scanner.specs.Grammar.{S, no_selectors, selector_and, a_link, Links, link_and}

pub data LinksTail : List ℕ → Type 0 where
  links_tail : {a l : List ℕ} → S a → Links l → LinksTail (a ++ l)

pub links_selector : {c : ℕ} {t : List ℕ} → is_selector c ≡ true → LinksTail t → LinksTail (c ∷ t)
links_selector e (links_tail a l) = links_tail (selector_and e a) l

pub tail-links : {t : List ℕ} → LinksTail t → Links (0x200D ∷ t)
tail-links (links_tail a l) = link_and (a_link a) l

pub links_link : {t : List ℕ} → LinksTail t → LinksTail (0x200D ∷ t)
links_link h = links_tail no_selectors (tail-links h)
