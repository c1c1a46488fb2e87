-- The tags of each tag modification, from an item's characters: for links, stems and modifications.
use mathlib.Core.Path.{◌≡◌, refl, ap, ap₂, sym, ◌∙◌}
use mathlib.Core.Bool.{true, false, true≢false}
use mathlib.Core.List.{List, [], ◌∷◌, ◌++◌, append_assoc}
use Prim.Native.Nat.{ℕ}
use Rattle.base.proofs.Tests.{fails}
use Rattle.emoji.specs.Presentation.{is_selector}
use Rattle.emoji.specs.Unicode.{is_emoji, is_tag}
use Rattle.scanner.specs.Grammar.{S, no_selectors, selector_and, Tags, one_tag, tag_and, Stem, flag, single}
use Rattle.scanner.specs.Structure.{
  EmojiLike,
  EmojiModification,
  EmojiModifier,
  EmojiTagRun,
  EnclosingKeycap,
  TagModifier,
  emoji_like,
  flatten_stem,
  modifications_of,
  tag_to_modifications,
  tag_to_runs,
  tags_of_modifications,
  tags_of_runs,
  to_modifications,
}
use Rattle.scanner.specs.Tags.{tag_modifications, tag_runs, with_tags}
use Rattle.scanner.proofs.Classes.{
  emoji_no_selector,
  emoji_no_tag,
  is_keycap,
  is_modifier,
  is_selector_lem,
  is_tag_lem,
  modifier_emoji,
  ri_emoji,
  tag_no_selector,
}
use Rattle.scanner.proofs.Modifications.{
  ModRun,
  run_end,
  run_keycap,
  run_modifier,
  run_selector,
  run_tag,
  RunsOk,
  one_run,
  run_and,
  ModificationsOk,
  all_ok,
  keycap_ok,
  modifier_ok,
  tags_ok,
  modifications_ok,
  modifications_run,
  of_class,
}
use Rattle.scanner.proofs.Units.{UnitRead}

-- ---- one more character

pub tag_runs_tag : (c : ℕ) (t : List ℕ) → is_tag c ≡ true → tag_runs (c ∷ t) ≡ (c ∷ (tag_runs t).0, (tag_runs t).1)
unfolding tag_runs
tag_runs_tag c t e = simp e

pub tag_runs_selector : (c : ℕ) (t : List ℕ) → is_selector c ≡ true → tag_runs (c ∷ t) ≡ tag_runs t
unfolding tag_runs
tag_runs_selector c t e = simp (fails (is_tag c) (λ p. true≢false (sym e ∙ tag_no_selector c p)), e)

pub tag_runs-other : (c : ℕ) (t : List ℕ) → is_tag c ≡ false → is_selector c ≡ false → tag_runs (c ∷ t) ≡ ([], tag_modifications t)
unfolding tag_runs tag_modifications
tag_runs-other c t e f = simp (e, f)

pub tag_runs_S : {s : List ℕ} (t : List ℕ) → S s → tag_runs (s ++ t) ≡ tag_runs t
tag_runs_S t no_selectors = refl
tag_runs_S t (selector_and {c = c} {s = s} e h) = tag_runs_selector c (s ++ t) e ∙ tag_runs_S t h

tag_modifications_S : {s : List ℕ} (t : List ℕ) → S s → tag_modifications (s ++ t) ≡ tag_modifications t
unfolding tag_modifications
tag_modifications_S t h = ap (λ (r : List ℕ × List (List ℕ)). with_tags r.0 r.1) (tag_runs_S t h)

-- ---- a link, and a stem

pub link_tags : {s : List ℕ} (t : List ℕ) → S s → tag_runs (0x200D ∷ (s ++ t)) ≡ ([], tag_modifications t)
unfolding is_tag is_selector
link_tags {s} t h = tag_runs-other 0x200D (s ++ t) refl refl ∙ ap (λ (l : List (List ℕ)). ([], l)) (tag_modifications_S t h)

emoji_tags : (c : ℕ) {s : List ℕ} (t : List ℕ) → is_emoji c ≡ true → S s → tag_runs (c ∷ (s ++ t)) ≡ ([], tag_modifications t)
emoji_tags c {s} t e h = tag_runs-other c (s ++ t) (emoji_no_tag c e) (emoji_no_selector c e)
    ∙ ap (λ (l : List (List ℕ)). ([], l)) (tag_modifications_S t h)

stem_tags : {s : List ℕ} (t : List ℕ) → Stem s → tag_runs (s ++ t) ≡ ([], tag_modifications t)
unfolding tag_modifications with_tags
stem_tags t (single {c = c} e h) = emoji_tags c t e h
stem_tags t (flag {s = s} {t = u} a b e h f k) =
    ap (λ (l : List ℕ). tag_runs (a ∷ l)) (append_assoc s (b ∷ u) t) ∙ emoji_tags a (b ∷ (u ++ t)) (ri_emoji a e) h
    ∙ ap (λ (r : List ℕ × List (List ℕ)). ([], with_tags r.0 r.1)) (emoji_tags b t (ri_emoji b f) k)

-- ---- modifications

-- The tags of the first modification, if it is a tag modification, and the tags of the later ones.
unfoldable pub front_tags : List EmojiModification → List ℕ
front_tags [] = []
front_tags (EmojiModifier c s ∷ ms) = []
front_tags (EnclosingKeycap s ∷ ms) = []
front_tags (TagModifier rs ∷ ms) = tags_of_runs rs

unfoldable pub later_tags : List EmojiModification → List (List ℕ)
later_tags [] = []
later_tags (EmojiModifier c s ∷ ms) = tags_of_modifications ms
later_tags (EnclosingKeycap s ∷ ms) = tags_of_modifications ms
later_tags (TagModifier rs ∷ ms) = tags_of_modifications ms

tags_some : {s : List ℕ} (t : List ℕ) (l : List (List ℕ)) → Tags s → with_tags (s ++ t) l ≡ (s ++ t) ∷ l
unfolding with_tags
tags_some t l (one_tag e) = refl
tags_some t l (tag_and e h) = refl

runs-some : {rs : List EmojiTagRun} (l : List (List ℕ)) → RunsOk rs → with_tags (tags_of_runs rs) l ≡ tags_of_runs rs ∷ l
unfolding tags_of_runs
runs-some l (one_run t a) = tags_some [] l t
runs-some l (run_and {rs = rs} t e a h) = tags_some (tags_of_runs rs) l t

with_front : {ms : List EmojiModification} (l : List (List ℕ)) → ModificationsOk ms → with_tags (front_tags ms) (later_tags ms ++ l)
    ≡ tags_of_modifications ms ++ l
unfolding with_tags front_tags later_tags tags_of_modifications
with_front l all_ok = refl
with_front l (modifier_ok e s h) = refl
with_front l (keycap_ok s h) = refl
with_front l (tags_ok {ms = ms} r h) = runs-some (tags_of_modifications ms ++ l) r

tag_runs-more : (c : ℕ) (s : List ℕ) (rs : List EmojiTagRun) → tags_of_runs (tag_to_runs c s rs) ≡ c ∷ tags_of_runs rs
unfolding tags_of_runs tag_to_runs
tag_runs-more c s [] = refl
tag_runs-more c [] (r ∷ rs) = refl
tag_runs-more c (d ∷ s) (r ∷ rs) = refl

front-more : (c : ℕ) (s : List ℕ) (ms : List EmojiModification) → front_tags (tag_to_modifications c s ms) ≡ c ∷ front_tags ms
unfolding front_tags tag_to_modifications tags_of_runs
front-more c s [] = tag_runs-more c s []
front-more c s (EmojiModifier d u ∷ ms) = tag_runs-more c s []
front-more c s (EnclosingKeycap u ∷ ms) = tag_runs-more c s []
front-more c s (TagModifier rs ∷ ms) = tag_runs-more c s rs

later_more : (c : ℕ) (s : List ℕ) (ms : List EmojiModification) → later_tags (tag_to_modifications c s ms) ≡ later_tags ms
unfolding later_tags tag_to_modifications tags_of_modifications
later_more c s [] = refl
later_more c s (EmojiModifier d u ∷ ms) = refl
later_more c s (EnclosingKeycap u ∷ ms) = refl
later_more c s (TagModifier rs ∷ ms) = refl

module _ (w : List ℕ) (l : List (List ℕ)) (e : tag_runs w ≡ ([], l)) where
  -- The tags of modifications before characters w.
  abbrev TagsBefore : List ℕ → List EmojiModification → Type 0
  TagsBefore t ms = tag_runs (t ++ w) ≡ (front_tags ms, later_tags ms ++ l)

  -- A modification that is not a tag modification.
  other_before : (c : ℕ) (t : List ℕ) → is_tag c ≡ false → is_selector c ≡ false → ModRun t → TagsBefore t (modifications_of t).1
      → tag_runs (c ∷ (t ++ w)) ≡ ([], tags_of_modifications (modifications_of t).1 ++ l)
  unfolding tag_modifications
  other_before c t p q h i =
      tag_runs-other c (t ++ w) p q
      ∙ ap (λ (r : List ℕ × List (List ℕ)). ([], with_tags r.0 r.1)) i
      ∙ ap (λ (x : List (List ℕ)). ([], x)) (with_front l (modifications_ok h).1)

  run_tags : {t : List ℕ} → ModRun t → TagsBefore t (modifications_of t).1
  unfolding modifications_of to_modifications front_tags later_tags is_tag is_selector
  run_tags run_end = e
  run_tags (run_selector {c = c} {t = t} s h) = rw (of_class t (is_selector_lem s)) (tag_runs_selector c (t ++ w) s ∙ run_tags h)
  run_tags (run_modifier {c = c} {t = t} m h) =
      let i = modifier_emoji c m in
      rw (of_class t (is_modifier m)) (other_before c t (emoji_no_tag c i) (emoji_no_selector c i) h (run_tags h))
  run_tags (run_keycap {t = t} h) = rw (of_class t (is_keycap refl)) (other_before 0x20E3 t refl refl h (run_tags h))
  run_tags (run_tag {c = c} {t = t} g h) =
      let ms = (modifications_of t).1 in
      let s = (modifications_of t).0 in
      rw (of_class t (is_tag_lem g)) (tag_runs_tag c (t ++ w) g ∙ ap (λ (r : List ℕ × List (List ℕ)). (c ∷ r.0, r.1)) (run_tags h)
      ∙ ap₂ (λ (a : List ℕ) (b : List (List ℕ)). (a, b ++ l)) (sym (front-more c s ms)) (sym (later_more c s ms)))

  -- ---- a unit

  pub unit_tags : {v : List ℕ} (r : UnitRead v) → tag_runs (v ++ w)
      ≡ ([], tags_of_modifications (emoji_like r.char r.rest).modifiers ++ l)
  unfolding tag_modifications
  unit_tags r =
      let m = r.modifications in
      let h = modifications_run r.modifications_derive in
      ap (λ (x : List ℕ). tag_runs (x ++ w)) r.whole ∙ ap tag_runs (append_assoc (flatten_stem r.stem) m w)
      ∙ stem_tags (m ++ w) r.stem_derives
      ∙ ap (λ (a : List ℕ × List (List ℕ)). ([], with_tags a.0 a.1)) (run_tags h)
      ∙ ap (λ (x : List (List ℕ)). ([], x)) (with_front l (modifications_ok h).1)
      ∙ ap (λ (u : EmojiLike). ([], tags_of_modifications u.modifiers ++ l)) (sym r.like)
