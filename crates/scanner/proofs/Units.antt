-- The unit that `emoji_like` makes of a unit's characters: the grammar derives its stem and its modifications.
use mathlib.Core.Path.{◌≡◌, refl, ap, ap₂, sym, ◌∙◌, subst}
use mathlib.Core.Bool.{Bool, true, false, cond, false≢true}
use mathlib.Core.List.{List, [], ◌∷◌, ◌++◌, append_assoc}
use Prim.Native.Nat.{ℕ}
use lib.Dec.{eqb}
use borrow.Author.Tests.{eqb-true}
use Rattle.base.proofs.Tests.{fails}
use Rattle.emoji.specs.Presentation.{is_selector}
use Rattle.emoji.specs.Tables.{in_ranges}
use Rattle.emoji.specs.Unicode.{is_emoji, is_ri}
use Rattle.emoji.specs.UnicodeData.{ri_ranges}
use Rattle.scanner.specs.Grammar.{S, no_selectors, selector_and, Stem, flag, single, Modifications, EmojiUnit, unit_of}
use Rattle.scanner.specs.Runs.{after_selectors, selectors_at}
use Rattle.scanner.specs.Structure.{
  EmojiLike,
  EmojiStem,
  Flag,
  SingletonBase,
  after_second_ri,
  emoji_like,
  flatten_modifications,
  flatten_stem,
  flatten_unit,
  modifications_of,
  ri_stem,
}
use Rattle.scanner.proofs.Classes.{
  emoji_no_link,
  emoji_no_selector,
  modifier_emoji,
  modifier_no_ri,
  ri_emoji,
  tag_no_link,
  tag_no_ri,
  tag_no_selector,
}
use Rattle.scanner.proofs.Runs.{Stops, at_char, at_end, S_passes, run_all, after_all}
use Rattle.scanner.proofs.Modifications.{
  ModFront,
  front_end,
  front_keycap,
  front_modifier,
  front-none,
  front_tag,
  ModRun,
  run_end,
  run_keycap,
  run_modifier,
  run_selector,
  run_tag,
  modifications_flatten,
  modifications_front,
  modifications_run,
}

-- ---- neither a selector nor an RI stands after a stem

pub front-stops : {m : List ℕ} → ModFront m → Stops is_selector m
unfolding is_selector
front-stops front_end = at_end
front-stops (front_modifier {c = c} e) = at_char (emoji_no_selector c (modifier_emoji c e))
front-stops front_keycap = at_char refl
front-stops (front_tag {c = c} e) = at_char (tag_no_selector c e)

pub front_no_ri : {m : List ℕ} → ModFront m → Stops is_ri m
unfolding is_ri in_ranges ri_ranges
front_no_ri front_end = at_end
front_no_ri (front_modifier {c = c} e) = at_char (modifier_no_ri c e)
front_no_ri front_keycap = at_char refl
front_no_ri (front_tag {c = c} e) = at_char (tag_no_ri c e)

no_second : (a : ℕ) (s : List ℕ) {m : List ℕ} → Stops is_ri m → (ri_stem a s m ≡ SingletonBase a s) × (after_second_ri m ≡ m)
unfolding ri_stem after_second_ri
no_second a s at_end = (refl, refl)
no_second a s (at_char {c = c} {s = t} e) =
    (ap (λ (b : Bool). cond b (Flag a s c (selectors_at t)) (SingletonBase a s)) e, ap (λ (b : Bool). cond b (after_selectors t) (c ∷ t)) e)

second : (a : ℕ) (s : List ℕ) (b : ℕ) {t m : List ℕ} → is_ri b ≡ true → S t → Stops is_selector m
    → (ri_stem a s (b ∷ (t ++ m)) ≡ Flag a s b t) × (after_second_ri (b ∷ (t ++ m)) ≡ m)
unfolding ri_stem after_second_ri
second a s b {t} {m} e h p = (
  ap (λ (x : Bool). cond x (Flag a s b (selectors_at (t ++ m))) (SingletonBase a s)) e
      ∙ ap (Flag a s b) (run_all is_selector (S_passes h) p),
  ap (λ (x : Bool). cond x (after_selectors (t ++ m)) (b ∷ (t ++ m))) e ∙ after_all is_selector (S_passes h) p,
)

-- ---- the unit of a character, the selectors after it and the characters after these

abbrev pub like_of : ℕ → List ℕ → List ℕ → EmojiLike
like_of c s m = record {
  stem = cond (is_ri c) (ri_stem c s m) (SingletonBase c s);
  modifiers = (modifications_of (cond (is_ri c) (after_second_ri m) m)).1;
}

pub like_of_lem : (c : ℕ) {s m : List ℕ} → S s → Stops is_selector m → emoji_like c (s ++ m) ≡ like_of c s m
unfolding emoji_like
like_of_lem c {s} {m} h p = ap₂ (λ (a b : List ℕ). like_of c a b) (run_all is_selector (S_passes h) p)
    (after_all is_selector (S_passes h) p)

pub like_single : (c : ℕ) (s m : List ℕ) (b : Bool) → is_ri c ≡ b → (b ≡ true → Stops is_ri m) → like_of c s m
    ≡ record { stem = SingletonBase c s; modifiers = (modifications_of m).1 }
like_single c s m true e p =
    ap (λ (b : Bool). record {
      stem = cond b (ri_stem c s m) (SingletonBase c s);
      modifiers =
          (modifications_of (cond b (after_second_ri m) m)).1;
    }) e
    ∙ ap₂ (λ (x : EmojiStem) (l : List ℕ). record { stem = x; modifiers = (modifications_of l).1 }) (no_second c s (p refl)).0
    (no_second c s (p refl)).1
like_single c s m false e p =
    ap (λ (b : Bool). record {
      stem = cond b (ri_stem c s m) (SingletonBase c s);
      modifiers =
          (modifications_of (cond b (after_second_ri m) m)).1;
    }) e

pub like_flag : (a : ℕ) (s : List ℕ) (b : ℕ) (t m : List ℕ) → is_ri a ≡ true → is_ri b ≡ true → S t → Stops is_selector m
    → like_of a s (b ∷ (t ++ m)) ≡ record { stem = Flag a s b t; modifiers = (modifications_of m).1 }
like_flag a s b t m e f h p =
    ap (λ (x : Bool). record {
      stem = cond x (ri_stem a s (b ∷ (t ++ m))) (SingletonBase a s);
      modifiers =
          (modifications_of (cond x (after_second_ri (b ∷ (t ++ m))) (b ∷ (t ++ m)))).1;
    }) e
    ∙ ap₂ (λ (x : EmojiStem) (l : List ℕ). record { stem = x; modifiers = (modifications_of l).1 }) (second a s b f h p).0
    (second a s b f h p).1

-- ---- a unit

pub record UnitRead (v : List ℕ) : Type 0 where
  pub char : ℕ
  pub rest : List ℕ
  pub split : v ≡ char ∷ rest
  pub is_emoji_lem : is_emoji char ≡ true
  pub stem : EmojiStem
  pub modifications : List ℕ
  pub stem_derives : Stem (flatten_stem stem)
  pub modifications_derive : Modifications modifications
  pub whole : v ≡ flatten_stem stem ++ modifications
  pub like : emoji_like char rest ≡ record { stem = stem; modifiers = (modifications_of modifications).1 }

unfoldable pub unit_read_lem : {v : List ℕ} → EmojiUnit v → UnitRead v
unfolding flatten_stem
unit_read_lem (unit_of {m = m} (single {c = c} {s = s} e h) d) = record {
  char = c;
  rest = s ++ m;
  split = refl;
  is_emoji_lem = e;
  stem = SingletonBase c s;
  modifications = m;
  stem_derives = single e h;
  modifications_derive = d;
  whole = refl;
  like = like_of_lem c h (front-stops (modifications_front d))
      ∙ like_single c s m (is_ri c) refl (λ _. front_no_ri (modifications_front d));
}
unit_read_lem (unit_of {m = m} (flag {s = s} {t = t} a b e h f k) d) = record {
  char = a;
  rest = (s ++ b ∷ t) ++ m;
  split = refl;
  is_emoji_lem = ri_emoji a e;
  stem = Flag a s b t;
  modifications = m;
  stem_derives = flag a b e h f k;
  modifications_derive = d;
  whole = refl;
  like = ap (emoji_like a) (append_assoc s (b ∷ t) m)
      ∙ like_of_lem a h (at_char (emoji_no_selector b (ri_emoji b f)))
      ∙ like_flag a s b t m e f k (front-stops (modifications_front d));
}

-- `flatten_unit` gives the unit's characters back.
pub unit_flatten : {v : List ℕ} (r : UnitRead v) → flatten_unit (emoji_like r.char r.rest) ≡ v
unfolding flatten_unit
unit_flatten r =
    let m = r.modifications in
    ap flatten_unit r.like
    ∙ ap (λ (l : List ℕ). flatten_stem r.stem ++ (l ++ flatten_modifications (modifications_of m).1))
    (sym (front-none (modifications_front r.modifications_derive)))
    ∙ ap (λ (l : List ℕ). flatten_stem r.stem ++ l) (modifications_flatten (modifications_run r.modifications_derive)) ∙ sym r.whole

-- ---- no 200D is in a unit

pub data NoLink : List ℕ → Type 0 where
  no_more : NoLink []
  no_link_and : {c : ℕ} {s : List ℕ} → eqb c 0x200D ≡ false → NoLink s → NoLink (c ∷ s)

no_link_append : {s t : List ℕ} → NoLink s → NoLink t → NoLink (s ++ t)
no_link_append no_more k = k
no_link_append (no_link_and e h) k = no_link_and e (no_link_append h k)

selector_no_link : (c : ℕ) → is_selector c ≡ true → eqb c 0x200D ≡ false
unfolding is_selector
selector_no_link c e = fails (eqb c 0x200D) (λ p. false≢true (subst (λ (x : ℕ). is_selector x ≡ true) (eqb-true c 0x200D p) e))

pub S_no_link : {s : List ℕ} → S s → NoLink s
S_no_link no_selectors = no_more
S_no_link (selector_and {c = c} e h) = no_link_and (selector_no_link c e) (S_no_link h)

run_no_link : {s : List ℕ} → ModRun s → NoLink s
run_no_link run_end = no_more
run_no_link (run_selector {c = c} e h) = no_link_and (selector_no_link c e) (run_no_link h)
run_no_link (run_modifier {c = c} e h) = no_link_and (emoji_no_link c (modifier_emoji c e)) (run_no_link h)
run_no_link (run_keycap h) = no_link_and refl (run_no_link h)
run_no_link (run_tag {c = c} e h) = no_link_and (tag_no_link c e) (run_no_link h)

stem_no_link : {s : List ℕ} → Stem s → NoLink s
stem_no_link (single {c = c} e h) = no_link_and (emoji_no_link c e) (S_no_link h)
stem_no_link (flag a b e h f k) =
    no_link_and (emoji_no_link a (ri_emoji a e)) (no_link_append (S_no_link h) (no_link_and (emoji_no_link b (ri_emoji b f)) (S_no_link k)))

pub unit_no_link : {v : List ℕ} → EmojiUnit v → NoLink v
unit_no_link (unit_of s m) = no_link_append (stem_no_link s) (run_no_link (modifications_run m))
