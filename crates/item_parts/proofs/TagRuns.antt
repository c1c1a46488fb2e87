-- The modifications that `modifications_of` makes from selectors alone, and from tags and selectors.
use mathlib.Core.Path.{◌≡◌, refl, ap, sym, ◌∙◌, subst}
use mathlib.Core.Bool.{true}
use mathlib.Core.List.{List, [], ◌∷◌, ◌++◌, append-nil, cons-ne-nil}
use Prim.Native.Nat.{ℕ}
use Rattle.emoji.specs.Presentation.{is_selector}
use Rattle.emoji.specs.Unicode.{is_tag}
use Rattle.scanner.specs.Runs.{in_tags, run, tag_modification_at}
use Rattle.scanner.specs.Structure.{
  EmojiModification,
  EmojiTagRun,
  TagModifier,
  flatten_modification,
  flatten_modifications,
  flatten_runs,
  modifications_of,
  tag_to_modifications,
  tag_to_runs,
  to_modifications,
}
use Rattle.base.proofs.Tests.{either_left, either_true}
use Rattle.scanner.proofs.Classes.{is_selector_lem, is_tag_lem}
use Rattle.scanner.proofs.Modifications.{
  ModFront,
  ModRun,
  front-none,
  front_tag,
  modifications_flatten,
  of_class,
  run_end,
  run_selector,
  run_tag,
}
use Rattle.scanner.proofs.Runs.{Passes, all_pass, pass-and, run-passes, run_true}
use mathlib.Core.Logic.{⊎_elim}

pub of_selectors : {s : List ℕ} → Passes is_selector s → modifications_of s ≡ (s, [])
unfolding modifications_of to_modifications
of_selectors all_pass = refl
of_selectors (pass-and {c = c} {s = s} e h) = of_class s (is_selector_lem e) ∙ ap (λ (r : List ℕ × List EmojiModification). (c ∷ r.0, r.1))
    (of_selectors h)

-- At most one tag modification.
data OneTags : List EmojiModification → Type 0 where
  no_tags : OneTags []
  the_tags : (rs : List EmojiTagRun) → OneTags (TagModifier rs ∷ [])

-- The characters s are exactly one tag modification.
pub record OfTags (s : List ℕ) : Type 0 where
  pub runs : List EmojiTagRun
  pub is : (modifications_of s).1 ≡ TagModifier runs ∷ []
  pub flat : flatten_runs runs ≡ s

passes-run : {s : List ℕ} → Passes in_tags s → ModRun s
passes-run all_pass = run_end
passes-run (pass-and {c = c} e h) = ⊎_elim (λ t. run_tag t (passes-run h)) (λ t. run_selector t (passes-run h))
    (either_true (is_tag c) (is_selector c) e)

tag_more : (c : ℕ) (s : List ℕ) {ms : List EmojiModification} → OneTags ms → OneTags (tag_to_modifications c s ms)
unfolding tag_to_modifications
tag_more c s no_tags = the_tags (tag_to_runs c s [])
tag_more c s (the_tags rs) = the_tags (tag_to_runs c s rs)

one_tags : {s : List ℕ} → Passes in_tags s → OneTags (modifications_of s).1
unfolding modifications_of to_modifications
one_tags all_pass = no_tags
one_tags (pass-and {c = c} {s = s} e h) =
    ⊎_elim (λ t. rw (of_class s (is_tag_lem t)) (tag_more c (modifications_of s).0 (one_tags h)))
    (λ t. rw (of_class s (is_selector_lem t)) (one_tags h))
    (either_true (is_tag c) (is_selector c) e)

-- The characters of a tag modification, if a tag stands at the front.
pub of_tags : (c : ℕ) (t : List ℕ) → is_tag c ≡ true → OfTags (tag_modification_at (c ∷ t))
unfolding tag_modification_at flatten_modifications flatten_modification
of_tags c t e = go (modifications_of s).1 refl (one_tags passes)
  where
    s : List ℕ
    s = run in_tags (c ∷ t)

    passes : Passes in_tags s
    passes = run-passes in_tags (c ∷ t)

    begins : s ≡ c ∷ run in_tags t
    begins = run_true in_tags c t (either_left (is_tag c) (is_selector c) e)

    whole : flatten_modifications (modifications_of s).1 ≡ s
    whole =
        ap (λ (l : List ℕ). l ++ flatten_modifications (modifications_of s).1)
        (sym (front-none (subst ModFront (sym begins) (front_tag e))))
        ∙ modifications_flatten (passes-run passes)

    go : (ms : List EmojiModification) → (modifications_of s).1 ≡ ms → OneTags ms → OfTags s
    go _ p no_tags = absurd (cons-ne-nil c (run in_tags t) (sym (sym (ap flatten_modifications p) ∙ whole ∙ begins)))
    go _ p (the_tags rs) = record {
      runs = rs;
      is = p;
      flat = sym (append-nil (flatten_runs rs)) ∙ sym (ap flatten_modifications p) ∙ whole;
    }
