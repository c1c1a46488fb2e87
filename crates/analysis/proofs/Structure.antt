-- The structure of an item: its selector runs contain only selectors, and the class of the character after a base and its selectors
-- is that of the first modification.
use mathlib.Core.Path.{◌≡◌, refl, ap, sym, ◌∙◌, subst}
use mathlib.Core.Bool.{Bool, true, false, cond, true≢false}
use mathlib.Core.List.Memᴰ
use mathlib.Core.List.{List, [], ◌∷◌, ◌++◌, Memᴰ}
use mathlib.Core.Logic.{⊎_elim}
use Prim.Native.Nat.{ℕ}
use Rattle.emoji.specs.Presentation.{is_selector}
use Rattle.emoji.specs.Unicode.{is_ri}
use Rattle.emoji.specs.declared.presentation.Presentation.{Presentation}
use Rattle.scanner.proofs.RunLaws.{selectors_derived}
use Rattle.scanner.specs.Classes.{class_of}
use Rattle.scanner.specs.declared.char_class.Class.{Class}
use Rattle.scanner.specs.declared.char_class.Class.TheVariants.{
  Selector as selector,
  Link as link,
  Ri as ri,
  Modifier as modifier,
  Emoji as emoji,
  Keycap as keycap,
  Tag as tag,
  Other as other,
}
use Rattle.scanner.specs.Grammar.{S}
use Rattle.scanner.specs.Runs.{after_selectors, selectors_at}
use Rattle.scanner.specs.Structure.{
  EmojiLike,
  EmojiModification,
  EmojiModifier,
  EmojiSequence,
  EmojiStem,
  EmojiTagRun,
  EnclosingKeycap,
  Flag,
  SingletonBase,
  TagModifier,
  ZwjJoinedEmoji,
  after_second_ri,
  split_at_links,
  emoji_headed,
  emoji_like,
  flatten_modification,
  flatten_modifications,
  flatten_runs,
  join_one,
  joined_of,
  link_of,
  links_only,
  modifications_of,
  ri_stem,
  sequence_of,
  structure,
  tag_to_modifications,
  tag_to_runs,
  to_modifications,
}
use Rattle.scanner.proofs.Classes.{class_selector, is_keycap, class_is}
use Rattle.analysis.specs.Analysis.{following}
use Rattle.analysis.specs.Cells.{Cell, cells, split}
use Rattle.analysis.specs.Components.{first_modification}
use Rattle.analysis.proofs.Cells.{split-char}

-- ---- selector runs

-- The runs of a stem are selectors, and a flag's letters are RI.
abbrev pub StemRuns : EmojiStem → Type 0
StemRuns (SingletonBase c s) = S s
StemRuns (Flag a s b t) = (is_ri a ≡ true) × S s × (is_ri b ≡ true) × S t

ri_runs : (a : ℕ) (s r : List ℕ) → is_ri a ≡ true → S s → StemRuns (ri_stem a s r)
unfolding ri_stem
ri_runs a s [] e h = h
ri_runs a s (b ∷ t) e h = go (is_ri b) refl
  where
    go : (v : Bool) → is_ri b ≡ v → StemRuns (cond v (Flag a s b (selectors_at t)) (SingletonBase a s))
    go true f = (e, h, f, selectors_derived t)
    go false f = h

stem_runs : (c : ℕ) (t : List ℕ) → StemRuns (emoji_like c t).stem
unfolding emoji_like
stem_runs c t = go (is_ri c) refl
  where
    go : (v : Bool) → is_ri c ≡ v → StemRuns (cond v (ri_stem c (selectors_at t) (after_selectors t)) (SingletonBase c (selectors_at t)))
    go true e = ri_runs c (selectors_at t) (after_selectors t) e (selectors_derived t)
    go false e = selectors_derived t

-- ---- the first modification

follows : (c : ℕ) (t : List ℕ) (k : Class) → class_of c ≡ k → is_selector c ≡ false → following (cells (c ∷ t)) ≡ k
unfolding following
follows c t k e f = ap (λ (a : List Presentation × List Cell). following a.1) (split-char c t f) ∙ e

-- A list whose first character is c.
data Begins (c : ℕ) : List ℕ → Type 0 where
  begins : (t : List ℕ) → Begins c (c ∷ t)

runs_begin : (c : ℕ) (s : List ℕ) (rs : List EmojiTagRun) (t : List ℕ) → Begins c (flatten_runs (tag_to_runs c s rs) ++ t)
unfolding flatten_runs tag_to_runs
runs_begin c s [] t = begins _
runs_begin c [] (r ∷ rs) t = begins _
runs_begin c (d ∷ s) (r ∷ rs) t = begins _

-- The first character of the first modification has the class of that modification.
abbrev FirstIs : List EmojiModification → Type 0
FirstIs ms = following (cells (flatten_modifications ms)) ≡ first_modification ms

tag_first : (c : ℕ) (s : List ℕ) (ms : List EmojiModification) → class_of c ≡ tag → is_selector c ≡ false
    → FirstIs (tag_to_modifications c s ms)
unfolding tag_to_modifications flatten_modifications flatten_modification first_modification
tag_first c s ms e f = go ms
  where
    at : {l : List ℕ} → Begins c l → following (cells l) ≡ tag
    at (begins t) = follows c t tag e f

    go : (ms : List EmojiModification) → FirstIs (tag_to_modifications c s ms)
    go [] = at (runs_begin c s [] [])
    go (EmojiModifier d u ∷ ms) = at (runs_begin c s [] (flatten_modifications (EmojiModifier d u ∷ ms)))
    go (EnclosingKeycap u ∷ ms) = at (runs_begin c s [] (flatten_modifications (EnclosingKeycap u ∷ ms)))
    go (TagModifier rs ∷ ms) = at (runs_begin c s rs (flatten_modifications ms))

-- A character of another class than selector is no selector.
not_selector : (c : ℕ) (k : Class) → class_of c ≡ k → (selector ≡ k → ⊥) → is_selector c ≡ false
not_selector c k e f = go (is_selector c) refl
  where
    go : (b : Bool) → is_selector c ≡ b → b ≡ false
    go true s = absurd (f (sym (class_selector c s) ∙ e))
    go false s = refl

one-first : (c : ℕ) (k : Class) (r : List ℕ × List EmojiModification) → class_of c ≡ k → FirstIs r.1
    → FirstIs (to_modifications k c r).1
unfolding to_modifications flatten_modifications flatten_modification first_modification is_selector
one-first c modifier r e h = follows c _ modifier e (not_selector c modifier e (λ z. true≢false (cc)))
one-first c keycap r e h = follows 0x20E3 _ keycap (class_is {c = 0x20E3} (is_keycap refl)) refl
one-first c tag r e h = tag_first c r.0 r.1 e (not_selector c tag e (λ z. true≢false (cc)))
one-first c selector r e h = h
one-first c link r e h = h
one-first c ri r e h = h
one-first c emoji r e h = h
one-first c other r e h = h

pub first_is : (t : List ℕ) → FirstIs (modifications_of t).1
unfolding modifications_of flatten_modifications first_modification split following
first_is [] = refl
first_is (c ∷ t) = one-first c (class_of c) (modifications_of t) refl (first_is t)

-- ---- units and structures

pub record Made (u : EmojiLike) : Type 0 where
  pub runs : StemRuns u.stem
  pub first : following (cells (flatten_modifications u.modifiers)) ≡ first_modification u.modifiers

made : (c : ℕ) (t : List ℕ) → Made (emoji_like c t)
unfolding emoji_like
made c t = record { runs = stem_runs c t; first = first_is (cond (is_ri c) (after_second_ri (after_selectors t)) (after_selectors t)) }

joined_made : (ss : List (List ℕ)) (j : ZwjJoinedEmoji) → Memᴰ j (joined_of ss).0 → Made j.emoji
unfolding joined_of join_one
joined_made [] j m = absurd (Memᴰ.not-nil m)
joined_made (s ∷ ss) j m = go (after_selectors s) (joined_made ss j) m
  where
    go : (r : List ℕ) → (Memᴰ j (joined_of ss).0 → Made j.emoji) → Memᴰ j (join_one (link_of s) r ss (joined_of ss)).0
        → Made j.emoji
    go [] h m = absurd (Memᴰ.not-nil m)
    go (c ∷ t) h m = ⊎_elim (λ e. subst (λ (i : ZwjJoinedEmoji). Made i.emoji) (sym e) (made c t)) h (Memᴰ.cases_cons m)

-- All units of a structure have these properties.
abbrev pub AllMade : EmojiSequence → Type 0
AllMade (links_only ls) = Unit {0}
AllMade (emoji_headed u js ls) = Made u × ((j : ZwjJoinedEmoji) → Memᴰ j js → Made j.emoji)

pub all_made : (t : List ℕ) → AllMade (structure t)
unfolding structure sequence_of
all_made t = go (split_at_links t).0 (split_at_links t).1
  where
    go : (s : List ℕ) (ss : List (List ℕ)) → AllMade (sequence_of s ss)
    go [] ss = tt
    go (c ∷ s) ss = (made c s, joined_made ss)
