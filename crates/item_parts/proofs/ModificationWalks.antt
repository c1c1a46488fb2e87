-- The modifications that `modifications_of` makes of a unit's characters, before the characters after the unit: each ends where the
-- next begins.
use mathlib.Core.Path.{◌≡◌, refl, ap, ap₂, sym, ◌∙◌, subst}
use mathlib.Core.Bool.{Bool, true, false, ◌||◌}
use mathlib.Core.List.{List, [], ◌∷◌, ◌++◌}
use Prim.Native.Nat.{ℕ}
use lib.Dec.{eqb}
use Rattle.base.proofs.Tests.{both_false}
use Rattle.emoji.specs.Presentation.{is_selector}
use Rattle.emoji.specs.Unicode.{is_emoji_modifier, is_tag}
use Rattle.scanner.specs.declared.char_class.Class.{Class}
use Rattle.scanner.specs.Grammar.{S, no_selectors, selector_and}
use Rattle.scanner.specs.Runs.{in_modifications, in_tags, is_modification}
use Rattle.scanner.specs.Structure.{
  EmojiModification,
  EmojiModifier,
  EmojiTagRun,
  EnclosingKeycap,
  TagModifier,
  flatten_runs,
  modifications_of,
  tag_to_modifications,
  tag_to_runs,
  to_modifications,
}
use Rattle.scanner.proofs.Classes.{
  HasClass,
  class_is,
  emoji_no_selector,
  is_keycap,
  is_modifier,
  is_selector_lem,
  is_tag_lem,
  modifier_emoji,
  tag_no_selector,
}
use Rattle.scanner.proofs.ClassTests.{is_tag_or_selector_class, tags_test}
use Rattle.scanner.proofs.Modifications.{
  RunsOk,
  tag_more,
  tag_one,
  ModRun,
  of_class,
  run_end,
  run_keycap,
  run_modifier,
  run_selector,
  run_tag,
  runs_before,
}
use Rattle.scanner.proofs.Runs.{Stops, at_char, at_end}

-- ---- the test that fails at the end of a part

pub no_selector_after : {t : List ℕ} → Stops in_modifications t → Stops is_selector t
no_selector_after at_end = at_end
no_selector_after (at_char {c = c} e) = at_char (both_false (is_modification c) (is_selector c) e).1

pub no_tag_after : {t : List ℕ} → Stops in_modifications t → Stops in_tags t
unfolding is_modification
no_tag_after at_end = at_end
no_tag_after (at_char {c = c} e) =
    let p = both_false (is_modification c) (is_selector c) e in
    let q = both_false (is_emoji_modifier c) (eqb c 0x20E3 || is_tag c) p.0 in
    at_char (ap₂ (λ (x y : Bool). x || y) (both_false (eqb c 0x20E3) (is_tag c) q.1).1 p.1)

no_tags_at : {c : ℕ} {k : Class} → HasClass c k → is_tag_or_selector_class k ≡ false → in_tags c ≡ false
no_tags_at {c} h e = tags_test c ∙ ap is_tag_or_selector_class (class_is h) ∙ e

-- ---- modifications before characters r

pub data Mods (r : List ℕ) : List ℕ → List EmojiModification → Type 0 where
  mods_end : Stops in_modifications r → Mods r r []
  mods_modifier : {c : ℕ} {s t : List ℕ} {ms : List EmojiModification} → is_emoji_modifier c ≡ true → S s → Stops is_selector t
      → Mods r t ms
      → Mods r (c ∷ (s ++ t)) (EmojiModifier c s ∷ ms)
  mods_keycap : {s t : List ℕ} {ms : List EmojiModification} → S s → Stops is_selector t → Mods r t ms
      → Mods r (0x20E3 ∷ (s ++ t)) (EnclosingKeycap s ∷ ms)
  mods_tags : {t u : List ℕ} {rs : List EmojiTagRun} {ms : List EmojiModification} → u ≡ flatten_runs rs ++ t → RunsOk rs → Stops in_tags t
      → Mods r t ms → Mods r u (TagModifier rs ∷ ms)

one_tags : {r t : List ℕ} {ms : List EmojiModification} (c : ℕ) {s : List ℕ} → is_tag c ≡ true → S s → Stops in_tags t → Mods r t ms
    → Mods r (c ∷ (s ++ t)) (TagModifier (tag_to_runs c s []) ∷ ms)
unfolding flatten_runs
one_tags {t = t} c {s} e h p m = mods_tags (sym (runs_before c s [] t)) (tag_one c e h) p m

tag_mods : {r t : List ℕ} {ms : List EmojiModification} (c : ℕ) {s : List ℕ} → is_tag c ≡ true → S s → Mods r t ms
    → Mods r (c ∷ (s ++ t)) (tag_to_modifications c s ms)
unfolding tag_to_modifications
tag_mods c e h (mods_end p) = one_tags c e h (no_tag_after p) (mods_end p)
tag_mods c e h (mods_modifier f a p m) = one_tags c e h (at_char (no_tags_at (is_modifier f) refl)) (mods_modifier f a p m)
tag_mods c e h (mods_keycap a p m) = one_tags c e h (at_char (no_tags_at (is_keycap refl) refl)) (mods_keycap a p m)
tag_mods c {s} e h (mods_tags {t = t} {rs = rs} q g p m) =
    mods_tags (ap (λ (l : List ℕ). c ∷ (s ++ l)) q ∙ sym (runs_before c s rs t)) (tag_more c e h g) p m

-- The result of `modifications_of` for the characters m: the selectors at the front, and the modifications after them.
pub record ModsRead (r m : List ℕ) (p : List ℕ × List EmojiModification) : Type 0 where
  pub rest : List ℕ
  pub whole : m ++ r ≡ p.0 ++ rest
  pub selectors : S p.0
  pub stops : Stops is_selector rest
  pub mods : Mods r rest p.1

pub mods_read : {r m : List ℕ} → ModRun m → Stops in_modifications r → ModsRead r m (modifications_of m)
unfolding modifications_of to_modifications is_selector
mods_read {r} run_end p = record { rest = r; whole = refl; selectors = no_selectors; stops = no_selector_after p; mods = mods_end p }
mods_read {r} (run_selector {c = c} {t = t} e h) p =
    let i = mods_read h p in
    subst (ModsRead r (c ∷ t)) (sym (of_class t (is_selector_lem e)))
    (record {
      rest = i.rest;
      whole = ap (λ (l : List ℕ). c ∷ l) i.whole;
      selectors = selector_and e i.selectors;
      stops =
          i.stops;
      mods = i.mods;
    })
mods_read {r} (run_modifier {c = c} {t = t} e h) p =
    let i = mods_read h p in
    subst (ModsRead r (c ∷ t)) (sym (of_class t (is_modifier e)))
    (record {
      rest = c ∷ ((modifications_of t).0 ++ i.rest);
      whole = ap (λ (l : List ℕ). c ∷ l) i.whole;
      selectors = no_selectors;
      stops = at_char (emoji_no_selector c (modifier_emoji c e));
      mods = mods_modifier e i.selectors i.stops i.mods;
    })
mods_read {r} (run_keycap {t = t} h) p =
    let i = mods_read h p in
    subst (ModsRead r (0x20E3 ∷ t)) (sym (of_class t (is_keycap refl)))
    (record {
      rest = 0x20E3 ∷ ((modifications_of t).0 ++ i.rest);
      whole = ap (λ (l : List ℕ). 0x20E3 ∷ l) i.whole;
      selectors = no_selectors;
      stops = at_char refl;
      mods = mods_keycap i.selectors i.stops i.mods;
    })
mods_read {r} (run_tag {c = c} {t = t} e h) p =
    let i = mods_read h p in
    subst (ModsRead r (c ∷ t)) (sym (of_class t (is_tag_lem e)))
    (record {
      rest = c ∷ ((modifications_of t).0 ++ i.rest);
      whole = ap (λ (l : List ℕ). c ∷ l) i.whole;
      selectors = no_selectors;
      stops = at_char (tag_no_selector c e);
      mods = tag_mods c e i.selectors i.mods;
    })
