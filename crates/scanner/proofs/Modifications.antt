-- The modifications after a stem: `modifications_of` splits the characters, keeps all of them, and the grammar derives each part.
use mathlib.Core.Path.{◌≡◌, refl, ap, sym, ◌∙◌, subst}
use mathlib.Core.Bool.{true}
use mathlib.Core.List.{List, [], ◌∷◌, ◌++◌, append_assoc, append-nil}
use Prim.Native.Nat.{ℕ}
use Rattle.emoji.specs.Presentation.{is_selector}
use Rattle.emoji.specs.Unicode.{is_emoji_modifier, is_tag}
use Rattle.scanner.specs.Classes.{Class}
use Rattle.scanner.specs.Grammar.{
  S,
  no_selectors,
  selector_and,
  Tags,
  one_tag,
  tag_and,
  TagGroups,
  one_group,
  group_and,
  Modification,
  modifier_with_selectors,
  keycap_with_selectors,
  tag_groups,
  Modifications,
  unmodified,
  modified,
}
use Rattle.scanner.specs.Structure.{
  EmojiModification,
  EmojiModifier,
  EmojiTagRun,
  EnclosingKeycap,
  TagModifier,
  flatten_modification,
  flatten_modifications,
  flatten_runs,
  modifications_of,
  tag_to_modifications,
  tag_to_runs,
  to_modifications,
}
use Rattle.scanner.proofs.Classes.{HasClass, is_keycap, is_modifier, is_selector_lem, is_tag_lem, class_is}

-- ---- the characters of modifications

-- Modifiers, 20E3, tags and selectors.
pub data ModRun : List ℕ → Type 0 where
  run_end : ModRun []
  run_selector : {c : ℕ} {t : List ℕ} → is_selector c ≡ true → ModRun t → ModRun (c ∷ t)
  run_modifier : {c : ℕ} {t : List ℕ} → is_emoji_modifier c ≡ true → ModRun t → ModRun (c ∷ t)
  run_keycap : {t : List ℕ} → ModRun t → ModRun (0x20E3 ∷ t)
  run_tag : {c : ℕ} {t : List ℕ} → is_tag c ≡ true → ModRun t → ModRun (c ∷ t)

S_run : {s t : List ℕ} → S s → ModRun t → ModRun (s ++ t)
S_run no_selectors h = h
S_run (selector_and e s) h = run_selector e (S_run s h)

tags_run : {s t : List ℕ} → Tags s → ModRun t → ModRun (s ++ t)
tags_run (one_tag e) h = run_tag e h
tags_run (tag_and e s) h = run_tag e (tags_run s h)

groups_run : {s t : List ℕ} → TagGroups s → ModRun t → ModRun (s ++ t)
groups_run {t = u} (one_group {t = t} {s = s} a b) h = subst ModRun (sym (append_assoc t s u)) (tags_run a (S_run b h))
groups_run {t = u} (group_and {t = t} {s = s} {r = r} a b g) h =
    subst ModRun (sym (append_assoc t (s ++ r) u ∙ ap (λ (l : List ℕ). t ++ l) (append_assoc s r u)))
    (tags_run a (S_run b (groups_run g h)))

modification_run : {s t : List ℕ} → Modification s → ModRun t → ModRun (s ++ t)
modification_run (modifier_with_selectors e s) h = run_modifier e (S_run s h)
modification_run (keycap_with_selectors s) h = run_keycap (S_run s h)
modification_run (tag_groups g) h = groups_run g h

pub modifications_run : {m : List ℕ} → Modifications m → ModRun m
modifications_run unmodified = run_end
modifications_run (modified m h) = modification_run m (modifications_run h)

-- The first character of a run of modifications.
pub data ModFront : List ℕ → Type 0 where
  front_end : ModFront []
  front_modifier : {c : ℕ} {t : List ℕ} → is_emoji_modifier c ≡ true → ModFront (c ∷ t)
  front_keycap : {t : List ℕ} → ModFront (0x20E3 ∷ t)
  front_tag : {c : ℕ} {t : List ℕ} → is_tag c ≡ true → ModFront (c ∷ t)

tags_front : {s : List ℕ} (t : List ℕ) → Tags s → ModFront (s ++ t)
tags_front t (one_tag e) = front_tag e
tags_front t (tag_and e h) = front_tag e

groups_front : {s : List ℕ} (t : List ℕ) → TagGroups s → ModFront (s ++ t)
groups_front u (one_group {t = t} {s = s} a b) = subst ModFront (sym (append_assoc t s u)) (tags_front (s ++ u) a)
groups_front u (group_and {t = t} {s = s} {r = r} a b g) = subst ModFront (sym (append_assoc t (s ++ r) u)) (tags_front ((s ++ r) ++ u) a)

pub modifications_front : {m : List ℕ} → Modifications m → ModFront m
modifications_front unmodified = front_end
modifications_front (modified (modifier_with_selectors e s) h) = front_modifier e
modifications_front (modified (keycap_with_selectors s) h) = front_keycap
modifications_front (modified {t = t} (tag_groups g) h) = groups_front t g

-- ---- one more character

pub of_class : {c : ℕ} {k : Class} (t : List ℕ) → HasClass c k → modifications_of (c ∷ t) ≡ to_modifications k c (modifications_of t)
unfolding modifications_of
of_class {c} {k} t h = ap (λ (k : Class). to_modifications k c (modifications_of t)) (class_is h)

pub front-none : {m : List ℕ} → ModFront m → (modifications_of m).0 ≡ []
unfolding modifications_of to_modifications
front-none front_end = refl
front-none (front_modifier {c = c} {t = t} e) = ap (λ (r : List ℕ × List EmojiModification). r.0) (of_class t (is_modifier e))
front-none (front_keycap {t = t}) = ap (λ (r : List ℕ × List EmojiModification). r.0) (of_class t (is_keycap refl))
front-none (front_tag {c = c} {t = t} e) = ap (λ (r : List ℕ × List EmojiModification). r.0) (of_class t (is_tag_lem e))

-- ---- all characters are kept

runs-flatten : (c : ℕ) (s : List ℕ) (rs : List EmojiTagRun) → flatten_runs (tag_to_runs c s rs) ≡ c ∷ (s ++ flatten_runs rs)
unfolding flatten_runs tag_to_runs
runs-flatten c s [] = refl
runs-flatten c [] (r ∷ rs) = refl
runs-flatten c (d ∷ s) (r ∷ rs) = refl

pub runs_before : (c : ℕ) (s : List ℕ) (rs : List EmojiTagRun) (t : List ℕ) → flatten_runs (tag_to_runs c s rs) ++ t
    ≡ c ∷ (s ++ (flatten_runs rs ++ t))
runs_before c s rs t = ap (λ (l : List ℕ). l ++ t) (runs-flatten c s rs) ∙ ap (λ (l : List ℕ). c ∷ l) (append_assoc s (flatten_runs rs) t)

tag_flatten : (c : ℕ) (s : List ℕ) (ms : List EmojiModification) → flatten_modifications (tag_to_modifications c s ms)
    ≡ c ∷ (s ++ flatten_modifications ms)
unfolding flatten_modifications flatten_modification flatten_runs tag_to_modifications
tag_flatten c s [] = runs_before c s [] []
tag_flatten c s (EmojiModifier d u ∷ ms) = runs_before c s [] (flatten_modifications (EmojiModifier d u ∷ ms))
tag_flatten c s (EnclosingKeycap u ∷ ms) = runs_before c s [] (flatten_modifications (EnclosingKeycap u ∷ ms))
tag_flatten c s (TagModifier rs ∷ ms) = runs_before c s rs (flatten_modifications ms)

pub modifications_flatten : {t : List ℕ} → ModRun t → (modifications_of t).0 ++ flatten_modifications (modifications_of t).1 ≡ t
unfolding modifications_of to_modifications flatten_modifications flatten_modification
modifications_flatten run_end = refl
modifications_flatten (run_selector {c = c} {t = t} e h) = rw (of_class t (is_selector_lem e))
    (ap (λ (l : List ℕ). c ∷ l) (modifications_flatten h))
modifications_flatten (run_modifier {c = c} {t = t} e h) = rw (of_class t (is_modifier e))
    (ap (λ (l : List ℕ). c ∷ l) (modifications_flatten h))
modifications_flatten (run_keycap {t = t} h) = rw (of_class t (is_keycap refl)) (ap (λ (l : List ℕ). 0x20E3 ∷ l) (modifications_flatten h))
modifications_flatten (run_tag {c = c} {t = t} e h) =
    rw (of_class t (is_tag_lem e)) (tag_flatten c (modifications_of t).0 (modifications_of t).1
    ∙ ap (λ (l : List ℕ). c ∷ l) (modifications_flatten h))

-- ---- the grammar derives each part

-- The runs of one tag modification: each but the last has a selector after its tags.
pub data RunsOk : List EmojiTagRun → Type 0 where
  one_run : {t s : List ℕ} → Tags t → S s → RunsOk (record { tags = t; after = s } ∷ [])
  run_and : {t s : List ℕ} {d : ℕ} {rs : List EmojiTagRun} → Tags t → is_selector d ≡ true → S s → RunsOk rs
      → RunsOk (record { tags = t; after = d ∷ s } ∷ rs)

pub data ModificationsOk : List EmojiModification → Type 0 where
  all_ok : ModificationsOk []
  modifier_ok : {c : ℕ} {s : List ℕ} {ms : List EmojiModification} → is_emoji_modifier c ≡ true → S s → ModificationsOk ms
      → ModificationsOk (EmojiModifier c s ∷ ms)
  keycap_ok : {s : List ℕ} {ms : List EmojiModification} → S s → ModificationsOk ms → ModificationsOk (EnclosingKeycap s ∷ ms)
  tags_ok : {rs : List EmojiTagRun} {ms : List EmojiModification} → RunsOk rs → ModificationsOk ms → ModificationsOk (TagModifier rs ∷ ms)

pub tag_one : (c : ℕ) {s : List ℕ} → is_tag c ≡ true → S s → RunsOk (tag_to_runs c s [])
unfolding tag_to_runs
tag_one c e s = one_run (one_tag e) s

pub tag_more : (c : ℕ) {s : List ℕ} {rs : List EmojiTagRun} → is_tag c ≡ true → S s → RunsOk rs → RunsOk (tag_to_runs c s rs)
unfolding tag_to_runs
tag_more c e no_selectors (one_run t a) = one_run (tag_and e t) a
tag_more c e no_selectors (run_and t f a h) = run_and (tag_and e t) f a h
tag_more c e (selector_and f s) (one_run t a) = run_and (one_tag e) f s (one_run t a)
tag_more c e (selector_and f s) (run_and t g a h) = run_and (one_tag e) f s (run_and t g a h)

tag_ok : (c : ℕ) {s : List ℕ} {ms : List EmojiModification} → is_tag c ≡ true → S s → ModificationsOk ms
    → ModificationsOk (tag_to_modifications c s ms)
unfolding tag_to_modifications
tag_ok c e s all_ok = tags_ok (tag_one c e s) all_ok
tag_ok c e s (modifier_ok f u h) = tags_ok (tag_one c e s) (modifier_ok f u h)
tag_ok c e s (keycap_ok u h) = tags_ok (tag_one c e s) (keycap_ok u h)
tag_ok c e s (tags_ok r h) = tags_ok (tag_more c e s r) h

pub modifications_ok : {t : List ℕ} → ModRun t → S (modifications_of t).0 × ModificationsOk (modifications_of t).1
unfolding modifications_of to_modifications
modifications_ok run_end = (no_selectors, all_ok)
modifications_ok (run_selector {c = c} {t = t} e h) = let r = modifications_ok h in rw (of_class t (is_selector_lem e))
    (selector_and e r.0, r.1)
modifications_ok (run_modifier {c = c} {t = t} e h) = let r = modifications_ok h in rw (of_class t (is_modifier e))
    (no_selectors, modifier_ok e r.0 r.1)
modifications_ok (run_keycap {t = t} h) = let r = modifications_ok h in rw (of_class t (is_keycap refl))
    (no_selectors, keycap_ok r.0 r.1)
modifications_ok (run_tag {c = c} {t = t} e h) = let r = modifications_ok h in rw (of_class t (is_tag_lem e))
    (no_selectors, tag_ok c e r.0 r.1)

-- ---- the derivations

pub runs_derive : {rs : List EmojiTagRun} → RunsOk rs → TagGroups (flatten_runs rs)
unfolding flatten_runs
runs_derive (one_run {t = t} {s = s} a b) = subst (λ (l : List ℕ). TagGroups (t ++ l)) (sym (append-nil s)) (one_group a b)
runs_derive (run_and a e b h) = group_and a (selector_and e b) (runs_derive h)

pub modifications_derive : {ms : List EmojiModification} → ModificationsOk ms → Modifications (flatten_modifications ms)
unfolding flatten_modifications flatten_modification
modifications_derive all_ok = unmodified
modifications_derive (modifier_ok e s h) = modified (modifier_with_selectors e s) (modifications_derive h)
modifications_derive (keycap_ok s h) = modified (keycap_with_selectors s) (modifications_derive h)
modifications_derive (tags_ok r h) = modified (tag_groups (runs_derive r)) (modifications_derive h)
