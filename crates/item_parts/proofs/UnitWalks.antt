-- A unit before characters that cannot be added to it: the function that reads a unit at its offset returns the unit that
-- `emoji_like` makes of its characters.
use Rattle.std.specs.Prelude.{Some}
use mathlib.Core.Path.{◌≡◌, refl, ap, ap₂, sym, ◌∙◌, subst}
use mathlib.Core.Logic.{⊎_elim}
use mathlib.Core.Bool.{Bool, true, ◌||◌}
use mathlib.Core.List.{List, [], ◌∷◌, ◌++◌, append_assoc, append-nil}
use Prim.Native.Nat.{ℕ, ◌+◌}
use native.Mathlib.Omega.{arith}
use borrow.Author.Tests.{eqb-true}
use lib.Dec.{eqb}
use lib.ListN.{drop}
use Rattle.base.proofs.Tests.{either_left, either-right, either_true, fails}
use Rattle.utf8.specs.Rfc3629.{chars}
use Rattle.emoji.specs.Presentation.{is_selector}
use Rattle.emoji.specs.Unicode.{is_emoji_modifier, is_ri, is_tag}
use Rattle.scanner.specs.Grammar.{
  EmojiUnit,
  unit_of,
  Modification,
  keycap_with_selectors,
  modifier_with_selectors,
  tag_groups,
  Modifications,
  modified,
  unmodified,
  S,
  no_selectors,
  flag,
  single,
  one_group,
  one_tag,
}
use Rattle.item_parts.specs.Parts.{stem_after, stem_from, stem_read, unit_from}
use Rattle.scanner.specs.Runs.{in_modifications, is_modification, modifications_at}
use Rattle.scanner.specs.Spans.{size, width}
use Rattle.scanner.specs.Structure.{
  EmojiLike,
  EmojiStem,
  Flag,
  SingletonBase,
  emoji_like,
  flatten_modifications,
  flatten_stem,
  flatten_unit,
  modifications_of,
}
use Rattle.item_parts.specs.Walks.{UnitWalk}
use Rattle.scanner.proofs.Bytes.{chars-from}
use Rattle.scanner.proofs.Classes.{emoji_no_selector, ri_emoji}
use Rattle.item_parts.proofs.CursorWalks.{modifications_walk}
use Rattle.scanner.proofs.EmojiRuns as EmojiRuns
use Rattle.item_parts.proofs.ModificationWalks.{mods_read}
use Rattle.scanner.proofs.Modifications.{
  ModRun,
  front-none,
  modifications_flatten,
  modifications_front,
  modifications_run,
  run_end,
  run_keycap,
  run_modifier,
  run_selector,
  run_tag,
}
use Rattle.scanner.proofs.Rescan.{size_append}
use Rattle.scanner.proofs.Runs.{Passes, all_pass, pass-and, Stops, at_char, at_end, run_all}
use Rattle.scanner.proofs.Units.{front_no_ri, front-stops, like_flag, like_of_lem, like_single, unit_read_lem}
use Rattle.item_parts.proofs.UnitsAt.{some_stem, stem_emoji, stem_end_lem, unit_on}

-- The first character of r cannot be added to the unit v, and it is no selector.
pub record Last (v r : List ℕ) : Type 0 where
  pub no_selector : Stops is_selector r
  pub no_more : (d : ℕ) (f : List ℕ) → r ≡ d ∷ f → EmojiUnit (v ++ d ∷ []) → ⊥

-- ---- one more character

modifications_append : {s m : List ℕ} → Modifications s → Modification m → Modifications (s ++ m)
modifications_append {m = m} unmodified h = subst Modifications (append-nil m) (modified h unmodified)
modifications_append {m = m} (modified {s = s} {t = t} a k) h = subst Modifications (sym (append_assoc s t m))
    (modified a (modifications_append k h))

unit_more : {v m : List ℕ} → EmojiUnit v → Modification m → EmojiUnit (v ++ m)
unit_more {m = n} (unit_of {s = s} {m = m} a b) h = subst EmojiUnit (sym (append_assoc s m n)) (unit_of a (modifications_append b h))

one_modification : (c : ℕ) → is_modification c ≡ true → Modification (c ∷ [])
unfolding is_modification
one_modification c e =
    ⊎_elim (λ m. modifier_with_selectors m no_selectors)
    (λ o. ⊎_elim (λ k. subst (λ (x : ℕ). Modification (x ∷ [])) (sym (eqb-true c 0x20E3 k)) (keycap_with_selectors no_selectors))
    (λ t. tag_groups (one_group (one_tag t) no_selectors)) (either_true (eqb c 0x20E3) (is_tag c) o))
    (either_true (is_emoji_modifier c) (eqb c 0x20E3 || is_tag c) e)

-- No character of a modification stands after the unit.
last-stops : {v : List ℕ} (r : List ℕ) → EmojiUnit v → Last v r → Stops in_modifications r
last-stops [] u l = at_end
last-stops (c ∷ t) u l = go l.no_selector
  where
    go : Stops is_selector (c ∷ t) → Stops in_modifications (c ∷ t)
    go (at_char f) = at_char (ap₂ (λ (x y : Bool). x || y)
        (fails (is_modification c) (λ e. l.no_more c t refl (unit_more u (one_modification c e)))) f)

-- No RI stands after a unit that is a single RI and its S.
no_ri_after : {c : ℕ} {s : List ℕ} (r : List ℕ) → is_ri c ≡ true → S s → Last ((c ∷ s) ++ []) r → Stops is_ri r
no_ri_after [] e h l = at_end
no_ri_after {c} {s} (d ∷ t) e h l =
    at_char
    (fails (is_ri d) (λ f. l.no_more d t refl (subst EmojiUnit
    (append-nil (c ∷ (s ++ d ∷ [])) ∙ ap (λ (x : List ℕ). (c ∷ x) ++ d ∷ []) (sym (append-nil s)))
    (unit_of (flag c d e h f no_selectors) unmodified))))

stops_append : {f : ℕ → Bool} {s t : List ℕ} → Stops f s → (s ≡ [] → Stops f t) → Stops f (s ++ t)
stops_append at_end p = p refl
stops_append (at_char e) p = at_char e

-- ---- the stem

unit_stem : {v : List ℕ} (at : ℕ) (r : List ℕ) (d : EmojiUnit v) → Last v r
    → stem_read at (v ++ r) ≡ Some (stem_from at (unit_read_lem d).stem)
unfolding stem_from unit_read_lem
unit_stem at r (unit_of {m = m} (single {c = c} {s = s} e h) d) l =
    let front = modifications_front d in
    let p : Stops is_selector (m ++ r) = stops_append (front-stops front) (λ _. l.no_selector) in
    ap (λ (t : List ℕ). stem_read at (c ∷ t)) (append_assoc s m r) ∙ stem_emoji at c (s ++ (m ++ r)) true e
    ∙ ap (λ (u : EmojiLike). Some (stem_after (at + width c) u.stem))
    (like_of_lem c h p
    ∙ like_single c s (m ++ r) (is_ri c) refl
    (λ i. stops_append (front_no_ri front) (λ n. no_ri_after r i h (subst (λ (x : List ℕ). Last ((c ∷ s) ++ x) r) n l))))
unit_stem at r (unit_of {m = m} (flag {s = s} {t = t} a b e h f k) d) l =
    let p : Stops is_selector (m ++ r) = stops_append (front-stops (modifications_front d)) (λ _. l.no_selector) in
    ap (λ (x : List ℕ). stem_read at (a ∷ x))
    (append_assoc (s ++ b ∷ t) m r ∙ append_assoc s (b ∷ t) (m ++ r))
    ∙ stem_emoji at a (s ++ b ∷ (t ++ (m ++ r))) true (ri_emoji a e)
    ∙ ap (λ (u : EmojiLike). Some (stem_after (at + width a) u.stem))
    (like_of_lem a h (at_char (emoji_no_selector b (ri_emoji b f))) ∙ like_flag a s b t (m ++ r) e f k p)

from_end : (at : ℕ) (s : EmojiStem) → at + size width (flatten_stem s) ≡ stem_end_lem at (Some (stem_from at s))
unfolding stem_from stem_after flatten_stem
from_end at (SingletonBase c s) = omega arith
from_end at (Flag a s b t) = omega (arith, size_append width s (b ∷ t))

-- ---- the modifications

run_in : {m : List ℕ} → ModRun m → Passes in_modifications m
unfolding is_modification
run_in run_end = all_pass
run_in (run_selector {c = c} e h) = pass-and (either-right (is_modification c) (is_selector c) e) (run_in h)
run_in (run_modifier {c = c} e h) = pass-and
    (either_left (is_modification c) (is_selector c) (either_left (is_emoji_modifier c) (eqb c 0x20E3 || is_tag c) e)) (run_in h)
run_in (run_keycap h) = pass-and (either_left (is_modification 0x20E3) (is_selector 0x20E3)
    (either-right (is_emoji_modifier 0x20E3) true refl))
    (run_in h)
run_in (run_tag {c = c} e h) =
    pass-and (either_left (is_modification c) (is_selector c)
    (either-right (is_emoji_modifier c) (eqb c 0x20E3 || is_tag c) (either-right (eqb c 0x20E3) (is_tag c) e))) (run_in h)

-- ---- the unit

pub unit_walk : {v : List ℕ} (text : List ℕ) (at : ℕ) (r : List ℕ) (d : EmojiUnit v) → Last v r → chars (drop at text) ≡ v ++ r
    → UnitWalk text at (emoji_like (unit_read_lem d).char (unit_read_lem d).rest)
unfolding unit_from flatten_unit
unit_walk {v} text at r d l e =
    let u = unit_read_lem d in
    let m = u.modifications in
    let ms = (modifications_of m).1 in
    let x : EmojiLike = record { stem = u.stem; modifiers = ms } in
    let start = at + size width (flatten_stem u.stem) in
    let stops = last-stops r d l in
    let front = modifications_front u.modifications_derive in
    let flow = modifications_run u.modifications_derive in
    let flat : flatten_modifications ms ≡ m = ap (λ (y : List ℕ). y ++ flatten_modifications ms) (sym (front-none front))
    ∙ modifications_flatten flow in
    let whole : chars (drop at text) ≡ flatten_stem u.stem ++ (m ++ r) = e ∙ ap (λ (y : List ℕ). y ++ r) u.whole
    ∙ append_assoc (flatten_stem u.stem) m r in
    let on : chars (drop start text) ≡ m ++ r = chars-from text at (flatten_stem u.stem) (m ++ r) whole in
    let all : modifications_at (m ++ r) ≡ m = EmojiRuns.modifications_run (stops_append (front-stops front) (λ _. l.no_selector))
    ∙ run_all in_modifications (run_in flow) stops in
    let n : size width (flatten_unit x) ≡ size width (flatten_stem u.stem) + size width m =
    size_append width (flatten_stem u.stem) (flatten_modifications ms)
    ∙ ap (λ (y : List ℕ). size width (flatten_stem u.stem) + size width y) flat in
    let i = mods_read flow stops in
    subst (UnitWalk text at) (sym u.like) (record {
      unit = sym (unit_on text at {m = Some (stem_from at u.stem)} (sym (ap (stem_read at) e ∙ unit_stem at r d l)) some_stem
          (from_end at u.stem)
          (omega (arith, n, ap (λ (y : List ℕ). size width (modifications_at y)) on, ap (size width) all)));
      modifications = modifications_walk text (at + size width (flatten_unit x)) start i.mods
          (on ∙ i.whole ∙ ap (λ (y : List ℕ). y ++ i.rest) (front-none front)) (omega (arith, n, ap (size width) flat));
    })
