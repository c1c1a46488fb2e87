-- The grammar derives the runs at the front of a text.
use mathlib.Core.Path.{◌≡◌, refl, ap, ap₂, sym, ◌∙◌, subst}
use mathlib.Core.Logic.{⊎_elim}
use mathlib.Core.Bool.{Bool, true, false, cond, ◌||◌, true≢false}
use mathlib.Core.List.{List, [], ◌∷◌, ◌++◌}
use Prim.Native.Nat.{ℕ}
use lib.Dec.{eqb}
use borrow.Author.Tests.{eqb-true}
use Rattle.base.proofs.Tests.{either_left, either_true}
use Rattle.emoji.specs.Presentation.{is_selector}
use Rattle.emoji.specs.Unicode.{is_emoji, is_emoji_modifier, is_tag}
use Rattle.scanner.specs.Grammar.{
  S,
  no_selectors,
  selector_and,
  Tags,
  one_tag,
  tag_and,
  TagGroups,
  one_group,
  group_and,
  Modification,
  modifier_with_selectors,
  keycap_with_selectors,
  tag_groups,
  Stem,
  Modifications,
  unmodified,
  EmojiUnit,
  unit_of,
  Link,
  a_link,
  Links,
  no_links,
}
use Rattle.scanner.specs.Runs.{
  after_stem,
  in_links,
  in_modifications,
  in_tags,
  is_modification,
  link_at,
  links_at,
  modification_at,
  modifications_at,
  run,
  selectors_at,
  stem_at,
  tag_groups_at,
  tag_modification_at,
  tags_at,
  unit_at,
}
use Rattle.scanner.specs.Structure.{flatten_modifications, modifications_of}
use Rattle.scanner.proofs.EmojiRuns as Emoji
use Rattle.scanner.proofs.LinksTail.{LinksTail, links_tail, links_selector, tail-links}
use Rattle.scanner.proofs.Modifications.{
  ModFront,
  front_keycap,
  front_modifier,
  front-none,
  front_tag,
  ModRun,
  run_end,
  run_keycap,
  run_modifier,
  run_selector,
  run_tag,
  modifications_derive,
  modifications_flatten,
  modifications_ok,
}
use Rattle.scanner.proofs.Runs.{Passes, all_pass, pass-and, passes_S, run-passes, run_true}

pub selectors_derived : (t : List ℕ) → S (selectors_at t)
selectors_derived t = passes_S (run-passes is_selector t)

-- ---- tags

tags_of_lem : {c : ℕ} {s : List ℕ} → is_tag c ≡ true → Passes is_tag s → Tags (c ∷ s)
tags_of_lem e all_pass = one_tag e
tags_of_lem e (pass-and f h) = tag_and e (tags_of_lem f h)

pub tags_derived : (c : ℕ) (t : List ℕ) → is_tag c ≡ true → Tags (tags_at (c ∷ t))
tags_derived c t e = subst Tags (sym (run_true is_tag c t e)) (tags_of_lem e (run-passes is_tag t))

-- ---- a tag modification

-- Selectors, and then groups of tags or nothing.
data TagTail : List ℕ → Type 0 where
  no_groups : {a : List ℕ} → S a → TagTail a
  with_groups : {a g : List ℕ} → S a → TagGroups g → TagTail (a ++ g)

tag_before : {c : ℕ} {s : List ℕ} → is_tag c ≡ true → TagTail s → TagGroups (c ∷ s)
tag_before e (no_groups a) = one_group (one_tag e) a
tag_before e (with_groups a g) = group_and (one_tag e) a g

tag_tail : {s : List ℕ} → Passes in_tags s → TagTail s
tag_tail all_pass = no_groups no_selectors
tag_tail (pass-and {c = c} {s = s} e h) = ⊎_elim (λ t. with_groups no_selectors (tag_before t (tag_tail h))) (λ f. more f (tag_tail h))
    (either_true (is_tag c) (is_selector c) e)
  where
    more : {u : List ℕ} → is_selector c ≡ true → TagTail u → TagTail (c ∷ u)
    more f (no_groups a) = no_groups (selector_and f a)
    more f (with_groups a g) = with_groups (selector_and f a) g

tag_run : (c : ℕ) (t : List ℕ) → is_tag c ≡ true → tag_modification_at (c ∷ t) ≡ c ∷ run in_tags t
unfolding tag_modification_at
tag_run c t e = run_true in_tags c t (either_left (is_tag c) (is_selector c) e)

tag_modification_derived : (c : ℕ) (t : List ℕ) → is_tag c ≡ true → TagGroups (tag_modification_at (c ∷ t))
tag_modification_derived c t e = subst TagGroups (sym (tag_run c t e)) (tag_before e (tag_tail (run-passes in_tags t)))

pub groups_tag : (c : ℕ) (t : List ℕ) → is_tag c ≡ true → tag_groups_at (c ∷ t) ≡ tag_modification_at (c ∷ t)
unfolding tag_groups_at
groups_tag c t e = ap (λ (b : Bool). cond b (tag_modification_at (c ∷ t)) []) e

pub groups_derived : (c : ℕ) (t : List ℕ) → is_tag c ≡ true → TagGroups (tag_groups_at (c ∷ t))
groups_derived c t e = subst TagGroups (sym (groups_tag c t e)) (tag_modification_derived c t e)

-- ---- a modification, and all of them

pub modification_tag : (c : ℕ) (t : List ℕ) → is_tag c ≡ true → modification_at (c ∷ t) ≡ tag_modification_at (c ∷ t)
unfolding modification_at
modification_tag c t e = ap (λ (b : Bool). cond b (tag_modification_at (c ∷ t)) (cond (is_modification c) (c ∷ selectors_at t) [])) e

pub modification_other : (c : ℕ) (t : List ℕ) (b : Bool) → is_tag c ≡ false → is_modification c ≡ b → modification_at (c ∷ t)
    ≡ cond b (c ∷ selectors_at t) []
unfolding modification_at
modification_other c t b e f = ap₂ (λ (x y : Bool). cond x (tag_modification_at (c ∷ t)) (cond y (c ∷ selectors_at t) [])) e f

pub modification_derived : (c : ℕ) (t : List ℕ) → is_modification c ≡ true → Modification (modification_at (c ∷ t))
unfolding is_modification
modification_derived c t e = go (is_tag c) refl
  where
    by : is_emoji_modifier c ≡ true → Modification (c ∷ selectors_at t)
    by m = modifier_with_selectors m (selectors_derived t)

    key : eqb c 0x20E3 ≡ true → Modification (c ∷ selectors_at t)
    key k = subst (λ (x : ℕ). Modification (x ∷ selectors_at t)) (sym (eqb-true c 0x20E3 k)) (keycap_with_selectors (selectors_derived t))

    go : (b : Bool) → is_tag c ≡ b → Modification (modification_at (c ∷ t))
    go true f = subst Modification (sym (modification_tag c t f)) (tag_groups (tag_modification_derived c t f))
    go false f = subst Modification (sym (modification_other c t true f e))
        (⊎_elim by (λ o. ⊎_elim key (λ g. absurd (true≢false (sym g ∙ f))) (either_true (eqb c 0x20E3) (is_tag c) o))
        (either_true (is_emoji_modifier c) (eqb c 0x20E3 || is_tag c) e))

modification_front : (c : ℕ) (t : List ℕ) → is_modification c ≡ true → ModFront (c ∷ t)
unfolding is_modification
modification_front c t e =
    ⊎_elim (λ m. front_modifier m)
    (λ o. ⊎_elim (λ k. subst (λ (x : ℕ). ModFront (x ∷ t)) (sym (eqb-true c 0x20E3 k)) front_keycap) (λ g. front_tag g)
    (either_true (eqb c 0x20E3) (is_tag c) o))
    (either_true (is_emoji_modifier c) (eqb c 0x20E3 || is_tag c) e)

modifications_passes : {s : List ℕ} → Passes in_modifications s → ModRun s
unfolding is_modification
modifications_passes all_pass = run_end
modifications_passes (pass-and {c = c} {s = s} e h) =
    let r = modifications_passes h in
    ⊎_elim (λ i. ⊎_elim (λ m. run_modifier m r)
    (λ o. ⊎_elim (λ k. subst (λ (x : ℕ). ModRun (x ∷ s)) (sym (eqb-true c 0x20E3 k)) (run_keycap r)) (λ g. run_tag g r)
    (either_true (eqb c 0x20E3) (is_tag c) o))
    (either_true (is_emoji_modifier c) (eqb c 0x20E3 || is_tag c) i)) (λ f. run_selector f r)
    (either_true (is_modification c) (is_selector c) e)

run_derived : {s : List ℕ} → ModRun s → ModFront s → Modifications s
run_derived {s} r f =
    subst Modifications (ap (λ (l : List ℕ). l ++ flatten_modifications (modifications_of s).1) (sym (front-none f))
    ∙ modifications_flatten r)
    (modifications_derive (modifications_ok r).1)

pub modifications_derived : (t : List ℕ) → Modifications (modifications_at t)
unfolding modifications_at
modifications_derived [] = unmodified
modifications_derived (c ∷ t) = go (is_modification c) refl
  where
    go : (b : Bool) → is_modification c ≡ b → Modifications (cond b (run in_modifications (c ∷ t)) [])
    go true e =
        let p = either_left (is_modification c) (is_selector c) e in
        run_derived (modifications_passes (run-passes in_modifications (c ∷ t)))
        (subst ModFront (sym (run_true in_modifications c t p)) (modification_front c (run in_modifications t) e))
    go false e = unmodified

-- ---- stems and units

pub stem_derived : (c : ℕ) (t : List ℕ) → is_emoji c ≡ true → Stem (stem_at (c ∷ t))
stem_derived c t e = let r = Emoji.stem_read_lem c t e in subst Stem (sym r.stem_is) r.derived

pub unit_derived : (c : ℕ) (t : List ℕ) → is_emoji c ≡ true → EmojiUnit (unit_at (c ∷ t))
unfolding unit_at
unit_derived c t e = unit_of (stem_derived c t e) (modifications_derived (after_stem (c ∷ t)))

-- ---- links

pub link_derived : (t : List ℕ) → Link (link_at (0x200D ∷ t))
unfolding link_at
link_derived t = a_link (selectors_derived t)

link_before : {c : ℕ} {s : List ℕ} → eqb c 0x200D ≡ true → LinksTail s → Links (c ∷ s)
link_before {c} {s} e h = subst (λ (x : ℕ). Links (x ∷ s)) (sym (eqb-true c 0x200D e)) (tail-links h)

links-passes : {s : List ℕ} → Passes in_links s → LinksTail s
links-passes all_pass = links_tail no_selectors no_links
links-passes (pass-and {c = c} e h) =
    ⊎_elim (λ k. links_tail no_selectors (link_before k (links-passes h))) (λ f. links_selector f (links-passes h))
    (either_true (eqb c 0x200D) (is_selector c) e)

pub links_derived : (t : List ℕ) → Links (links_at t)
unfolding links_at
links_derived [] = no_links
links_derived (c ∷ t) = go (eqb c 0x200D) refl
  where
    go : (b : Bool) → eqb c 0x200D ≡ b → Links (cond b (run in_links (c ∷ t)) [])
    go true e = subst Links (sym (run_true in_links c t (either_left (eqb c 0x200D) (is_selector c) e)))
        (link_before e (links-passes (run-passes in_links t)))
    go false e = no_links

-- ---- one run in another

-- If every character that passes f passes g, the run by g goes on after characters that pass f.
pub run_over : {f g : ℕ → Bool} {s : List ℕ} → ((c : ℕ) → f c ≡ true → g c ≡ true) → Passes f s → (t : List ℕ) → run g (s ++ t) ≡ s
    ++ run g t
run_over {f} {g} {s} i all_pass t = refl
run_over {f} {g} {s} i (pass-and {c = c} {s = u} e h) t = run_true g c (u ++ t) (i c e) ∙ ap (λ (l : List ℕ). c ∷ l) (run_over i h t)
