-- The runs at the front of a text are the longest: each is a beginning of the text, and no beginning that is the same part is
-- longer.
use mathlib.Core.Path.{◌≡◌, refl, ap, ap₂, sym, ◌∙◌}
use mathlib.Core.Logic.{◌⊎◌, inl, inr, ⊎_elim}
use mathlib.Core.Bool.{Bool, true, false, cond}
use mathlib.Core.List.{List, [], ◌∷◌, ◌++◌, append_assoc, append-nil}
use Prim.Native.Nat.{ℕ, ◌≤◌}
use native.Mathlib.Omega.{arith}
use lib.Dec.{eqb}
use lib.ListN.{drop, length, length-append, take}
use lib.Seq.{drop-append_seam, take-append_seam}
use Rattle.base.proofs.Tests.{either_left, either-right}
use Rattle.emoji.specs.Presentation.{is_selector}
use Rattle.emoji.specs.Unicode.{is_emoji, is_emoji_modifier, is_ri, is_tag}
use Rattle.scanner.specs.Grammar.{
  S,
  Tags,
  one_tag,
  tag_and,
  TagGroups,
  one_group,
  group_and,
  Modification,
  modifier_with_selectors,
  keycap_with_selectors,
  tag_groups,
  Stem,
  flag,
  single,
  Modifications,
  EmojiUnit,
  unit_of,
  Link,
  a_link,
  Links,
  no_links,
  link_and,
}
use Rattle.scanner.specs.Runs.{
  after_run,
  after_selectors,
  after_stem,
  in_links,
  in_modifications,
  in_tags,
  is_modification,
  link_at,
  links_at,
  modification_at,
  modifications_at,
  run,
  second_ri_at,
  selectors_at,
  stem_at,
  tag_groups_at,
  tag_modification_at,
  tags_at,
  unit_at,
}
use Rattle.scanner.specs.Theorems.{LongestAt}
use Rattle.scanner.proofs.Classes.{emoji_no_selector, emoji_no_tag, modifier_emoji, ri_emoji}
use Rattle.scanner.proofs.EmojiRuns as Emoji
use Rattle.scanner.proofs.Modifications as Modified
use Rattle.scanner.proofs.Modifications.{
  ModFront,
  front_end,
  front_keycap,
  front_modifier,
  front_tag,
  ModRun,
  run_end,
  run_keycap,
  run_modifier,
  run_selector,
  run_tag,
}
use Rattle.scanner.proofs.RunLaws.{groups_tag, modification_other, modification_tag, run_over}
use Rattle.scanner.proofs.Runs.{Passes, all_pass, pass-and, S_passes, Stops, at_char, at_end, after_all, run_all, run-after}
use Rattle.scanner.proofs.Units.{front_no_ri, front-stops}

-- ---- beginnings of a text

-- A list a is a beginning of the text t; the rest is given.
record Front (a t : List ℕ) : Type 0 where
  rest : List ℕ
  whole : a ++ rest ≡ t

front_of : {a t : List ℕ} → Front a t → take (length a) t ≡ a
front_of {a} {t} f = ap (take (length a)) (sym f.whole) ∙ take-append_seam a f.rest

nothing : {t : List ℕ} → Front [] t
nothing {t} = record { rest = t; whole = refl }

run-front : (f : ℕ → Bool) (t : List ℕ) → Front (run f t) t
run-front f t = record { rest = after_run f t; whole = run-after f t }

after_one : (c : ℕ) {a t : List ℕ} → Front a t → Front (c ∷ a) (c ∷ t)
after_one c f = record { rest = f.rest; whole = ap (λ (l : List ℕ). c ∷ l) f.whole }

as_long : (s : List ℕ) {u : List ℕ} (v : List ℕ) → u ≡ s ++ v → length s ≤ length u
as_long s v e = omega (arith, ap length e, length-append s v)

-- ---- the characters of a part

pub pass_append : {f : ℕ → Bool} {s t : List ℕ} → Passes f s → Passes f t → Passes f (s ++ t)
pass_append all_pass h = h
pass_append (pass-and e p) h = pass-and e (pass_append p h)

pass_all : {f g : ℕ → Bool} {s : List ℕ} → ((c : ℕ) → f c ≡ true → g c ≡ true) → Passes f s → Passes g s
pass_all i all_pass = all_pass
pass_all i (pass-and {c = c} e p) = pass-and (i c e) (pass_all i p)

-- The run at the front of characters that pass and any text goes on in that text.
run_on : {f : ℕ → Bool} {s : List ℕ} → Passes f s → (t : List ℕ) → run f (s ++ t) ≡ s ++ run f t
run_on p t = run_over (λ c e. e) p t

-- ---- S

pub longest_selectors : LongestAt S selectors_at
longest_selectors = record {
  front = λ t. front_of (run-front is_selector t);
  longest = λ s r d. as_long s (selectors_at r) (run_on (S_passes d) r);
}

-- A character and the S after it.
and_selectors : (c : ℕ) {u : List ℕ} {l : List ℕ} (r : List ℕ) → S u → l ≡ c ∷ selectors_at (u ++ r) → length (c ∷ u) ≤ length l
and_selectors c {u} r d e = as_long (c ∷ u) (selectors_at r) (e ∙ ap (λ (l : List ℕ). c ∷ l) (run_on (S_passes d) r))

-- ---- tags and groups of tags

pub all_tags : {t : List ℕ} → Tags t → Passes is_tag t
all_tags (one_tag e) = pass-and e all_pass
all_tags (tag_and e h) = pass-and e (all_tags h)

pub longest_tags : LongestAt Tags tags_at
longest_tags = record {
  front = λ t. front_of (run-front is_tag t);
  longest = λ s r d. as_long s (tags_at r) (run_on (all_tags d) r);
}

tags_pass : {t : List ℕ} → Tags t → Passes in_tags t
tags_pass d = pass_all (λ c e. either_left (is_tag c) (is_selector c) e) (all_tags d)

selectors_in_tags : {s : List ℕ} → S s → Passes in_tags s
selectors_in_tags d = pass_all (λ c e. either-right (is_tag c) (is_selector c) e) (S_passes d)

groups_pass : {t : List ℕ} → TagGroups t → Passes in_tags t
groups_pass (one_group t s) = pass_append (tags_pass t) (selectors_in_tags s)
groups_pass (group_and t s g) = pass_append (tags_pass t) (pass_append (selectors_in_tags s) (groups_pass g))

-- A list whose first character is a tag.
pub data TagFirst : List ℕ → Type 0 where
  tag_first : {c : ℕ} {t : List ℕ} → is_tag c ≡ true → TagFirst (c ∷ t)

pub tags_first : {t : List ℕ} (u : List ℕ) → Tags t → TagFirst (t ++ u)
tags_first u (one_tag e) = tag_first e
tags_first u (tag_and e h) = tag_first e

groups_first : {t : List ℕ} → TagGroups t → TagFirst t
groups_first (one_group {s = s} t d) = tags_first s t
groups_first (group_and {s = s} {r = r} t d g) = tags_first (s ++ r) t

groups_longest : (s r : List ℕ) → TagGroups s → length s ≤ length (tag_groups_at (s ++ r))
unfolding tag_modification_at
groups_longest s r g = as_long s (run in_tags r) (groups-at (groups_first g) ∙ run_on (groups_pass g) r)
  where
    groups-at : {s : List ℕ} → TagFirst s → tag_groups_at (s ++ r) ≡ run in_tags (s ++ r)
    groups-at (tag_first {c = c} {t = t} e) = groups_tag c (t ++ r) e

groups_front : (t : List ℕ) → Front (tag_groups_at t) t
unfolding tag_groups_at tag_modification_at
groups_front [] = nothing
groups_front (c ∷ t) = go (is_tag c)
  where
    go : (b : Bool) → Front (cond b (run in_tags (c ∷ t)) []) (c ∷ t)
    go true = run-front in_tags (c ∷ t)
    go false = nothing

pub longest_groups : LongestAt TagGroups tag_groups_at
longest_groups = record { front = λ t. front_of (groups_front t); longest = groups_longest }

-- ---- a modification

tags_at_lem : {s : List ℕ} (r : List ℕ) → TagFirst s → modification_at (s ++ r) ≡ run in_tags (s ++ r)
unfolding tag_modification_at
tags_at_lem r (tag_first {c = c} {t = t} e) = modification_tag c (t ++ r) e

modifier_is : (c : ℕ) → is_emoji_modifier c ≡ true → is_modification c ≡ true
unfolding is_modification
modifier_is c e = either_left (is_emoji_modifier c) _ e

keycap_no_tag : is_tag 0x20E3 ≡ false
unfolding is_tag
keycap_no_tag = refl

keycap_is : is_modification 0x20E3 ≡ true
unfolding is_modification
keycap_is = either-right (is_emoji_modifier 0x20E3) _ refl

tag_is : (c : ℕ) → is_tag c ≡ true → is_modification c ≡ true
unfolding is_modification
tag_is c e = either-right (is_emoji_modifier c) _ (either-right (eqb c 0x20E3) (is_tag c) e)

modification_longest : (s r : List ℕ) → Modification s → length s ≤ length (modification_at (s ++ r))
modification_longest s r (modifier_with_selectors {c = c} {s = u} e d) =
    and_selectors c r d (modification_other c (u ++ r) true (emoji_no_tag c (modifier_emoji c e)) (modifier_is c e))
modification_longest s r (keycap_with_selectors {s = u} d) =
    and_selectors 0x20E3 r d (modification_other 0x20E3 (u ++ r) true keycap_no_tag keycap_is)
modification_longest s r (tag_groups g) = as_long s (run in_tags r) (tags_at_lem r (groups_first g) ∙ run_on (groups_pass g) r)

modification_front : (t : List ℕ) → Front (modification_at t) t
unfolding modification_at tag_modification_at
modification_front [] = nothing
modification_front (c ∷ t) = go (is_tag c) (is_modification c)
  where
    go : (a b : Bool) → Front (cond a (run in_tags (c ∷ t)) (cond b (c ∷ selectors_at t) [])) (c ∷ t)
    go true b = run-front in_tags (c ∷ t)
    go false true = after_one c (run-front is_selector t)
    go false false = nothing

pub longest_modification : LongestAt Modification modification_at
longest_modification = record { front = λ t. front_of (modification_front t); longest = modification_longest }

-- ---- modifications

modifications_pass : {s : List ℕ} → ModRun s → Passes in_modifications s
modifications_pass run_end = all_pass
modifications_pass (run_selector {c = c} e h) = pass-and (either-right (is_modification c) (is_selector c) e) (modifications_pass h)
modifications_pass (run_modifier {c = c} e h) = pass-and (either_left (is_modification c) (is_selector c) (modifier_is c e))
    (modifications_pass h)
modifications_pass (run_keycap h) = pass-and (either_left (is_modification 0x20E3) (is_selector 0x20E3) keycap_is) (modifications_pass h)
modifications_pass (run_tag {c = c} e h) = pass-and (either_left (is_modification c) (is_selector c) (tag_is c e)) (modifications_pass h)

front-on : {m : List ℕ} (r : List ℕ) → ModFront m → (m ≡ []) ⊎ ModFront (m ++ r)
front-on r front_end = inl refl
front-on r (front_modifier e) = inr (front_modifier e)
front-on r front_keycap = inr front_keycap
front-on r (front_tag e) = inr (front_tag e)

modifications_longest : (s r : List ℕ) → Modifications s → length s ≤ length (modifications_at (s ++ r))
modifications_longest s r d =
    ⊎_elim (λ e. omega (arith, ap length e))
    (λ f. as_long s (run in_modifications r)
    (Emoji.modifications_run (front-stops f) ∙ run_on (modifications_pass (Modified.modifications_run d)) r))
    (front-on r (Modified.modifications_front d))

modifications_front : (t : List ℕ) → Front (modifications_at t) t
unfolding modifications_at
modifications_front [] = nothing
modifications_front (c ∷ t) = go (is_modification c)
  where
    go : (b : Bool) → Front (cond b (run in_modifications (c ∷ t)) []) (c ∷ t)
    go true = run-front in_modifications (c ∷ t)
    go false = nothing

pub longest_modifications : LongestAt Modifications modifications_at
longest_modifications = record { front = λ t. front_of (modifications_front t); longest = modifications_longest }

-- ---- a stem

-- The first RI of a flag and its S, before the second RI.
flag_at : (a b : ℕ) {s : List ℕ} (q : List ℕ) → is_ri a ≡ true → S s → is_ri b ≡ true → stem_at (a ∷ (s ++ b ∷ q))
    ≡ a ∷ (s ++ b ∷ selectors_at q)
unfolding second_ri_at
flag_at a b {s} q e d f =
    let stops : Stops is_selector (b ∷ q) = at_char (emoji_no_selector b (ri_emoji b f)) in
    Emoji.stem_emoji a (s ++ b ∷ q) (ri_emoji a e)
    ∙ ap₂ (λ (l m : List ℕ). a ∷ (l ++ cond (is_ri a) (second_ri_at m) [])) (run_all is_selector (S_passes d) stops)
    (after_all is_selector (S_passes d) stops)
    ∙ ap₂ (λ (x y : Bool). a ∷ (s ++ cond x (cond y (b ∷ selectors_at q) []) [])) e f

stem_longest : (s r : List ℕ) → Stem s → length s ≤ length (stem_at (s ++ r))
stem_longest s r (flag {s = u} {t = v} a b e d f g) =
    as_long (a ∷ (u ++ b ∷ v)) (selectors_at r)
    (ap (λ (l : List ℕ). stem_at (a ∷ l)) (append_assoc u (b ∷ v) r) ∙ flag_at a b (v ++ r) e d f
    ∙ ap (λ (l : List ℕ). a ∷ (u ++ b ∷ l)) (run_on (S_passes g) r)
    ∙ ap (λ (l : List ℕ). a ∷ l) (sym (append_assoc u (b ∷ v) (selectors_at r))))
stem_longest s r (single {c = c} {s = u} e d) =
    let more = cond (is_ri c) (second_ri_at (after_selectors (u ++ r))) [] in
    as_long (c ∷ u) (selectors_at r ++ more)
    (Emoji.stem_emoji c (u ++ r) e ∙ ap (λ (l : List ℕ). c ∷ (l ++ more)) (run_on (S_passes d) r)
    ∙ ap (λ (l : List ℕ). c ∷ l) (append_assoc u (selectors_at r) more))

stem_front : (t : List ℕ) → Front (stem_at t) t
unfolding stem_at
stem_front [] = nothing
stem_front (c ∷ t) = go (is_emoji c) refl
  where
    more : List ℕ
    more = cond (is_ri c) (second_ri_at (after_selectors t)) []

    go : (b : Bool) → is_emoji c ≡ b → Front (cond b (c ∷ (selectors_at t ++ more)) []) (c ∷ t)
    go true e =
        let r = Emoji.stem_read_lem c t e in
        record {
          rest = r.rest;
          whole = ap (λ (l : List ℕ). l ++ r.rest) (sym (Emoji.stem_emoji c t e) ∙ r.stem_is)
              ∙ ap (λ (l : List ℕ). c ∷ l) r.whole;
        }
    go false e = nothing

pub longest_stem : LongestAt Stem stem_at
longest_stem = record { front = λ t. front_of (stem_front t); longest = stem_longest }

-- ---- a unit

-- Before a character that is neither selector nor RI, a stem is not longer.
no_second : {q : List ℕ} (b : Bool) → Stops is_ri q → cond b (second_ri_at q) [] ≡ []
unfolding second_ri_at
no_second false n = refl
no_second true at_end = refl
no_second true (at_char {c = c} {s = t} e) = ap (λ (b : Bool). cond b (c ∷ selectors_at t) []) e

stem_ends : {s q : List ℕ} → Stem s → Stops is_selector q → Stops is_ri q → stem_at (s ++ q) ≡ s
stem_ends {q = q} (flag {s = u} {t = v} a b e d f g) stops n =
    ap (λ (l : List ℕ). stem_at (a ∷ l)) (append_assoc u (b ∷ v) q) ∙ flag_at a b (v ++ q) e d f
    ∙ ap (λ (l : List ℕ). a ∷ (u ++ b ∷ l)) (run_all is_selector (S_passes g) stops)
stem_ends {q = q} (single {c = c} {s = u} e d) stops n =
    Emoji.stem_emoji c (u ++ q) e
    ∙ ap₂ (λ (l m : List ℕ). c ∷ (l ++ cond (is_ri c) (second_ri_at m) [])) (run_all is_selector (S_passes d) stops)
    (after_all is_selector (S_passes d) stops)
    ∙ ap (λ (l : List ℕ). c ∷ (u ++ l)) (no_second (is_ri c) n) ∙ ap (λ (l : List ℕ). c ∷ l) (append-nil u)

unit_ends : {s q : List ℕ} → Stem s → Stops is_selector q → Stops is_ri q → unit_at (s ++ q) ≡ s ++ modifications_at q
unfolding unit_at after_stem
unit_ends {s} {q} d stops n =
    ap (λ (l : List ℕ). l ++ modifications_at (drop (length l) (s ++ q))) (stem_ends d stops n)
    ∙ ap (λ (l : List ℕ). s ++ modifications_at l) (drop-append_seam s q)

unit_longest : (v r : List ℕ) → EmojiUnit v → length v ≤ length (unit_at (v ++ r))
unfolding unit_at
unit_longest v r (unit_of {s = s} {m = m} d h) = ⊎_elim bare with-some (front-on r (Modified.modifications_front h))
  where
    bare : m ≡ [] → length (s ++ m) ≤ length (unit_at ((s ++ m) ++ r))
    bare e =
        let t = (s ++ m) ++ r in
        let same : t ≡ s ++ r = ap (λ (l : List ℕ). l ++ r) (ap (λ (l : List ℕ). s ++ l) e ∙ append-nil s) in
        omega (
          arith,
          length-append s m,
          ap length e,
          stem_longest s r d,
          ap (λ (l : List ℕ). length (stem_at l)) same,
          length-append (stem_at t) (modifications_at (after_stem t)),
        )

    with-some : ModFront (m ++ r) → length (s ++ m) ≤ length (unit_at ((s ++ m) ++ r))
    with-some f =
        omega (
          arith,
          length-append s m,
          modifications_longest m r h,
          ap length (ap unit_at (append_assoc s m r) ∙ unit_ends d (front-stops f) (front_no_ri f)),
          length-append s (modifications_at (m ++ r)),
        )

unit_front : (t : List ℕ) → Front (unit_at t) t
unfolding unit_at after_stem
unit_front t =
    let f = stem_front t in
    let b : drop (length (stem_at t)) t ≡ f.rest = ap (drop (length (stem_at t))) (sym f.whole) ∙ drop-append_seam (stem_at t) f.rest in
    let g = modifications_front (drop (length (stem_at t)) t) in
    record {
      rest = g.rest;
      whole = append_assoc (stem_at t) (modifications_at (drop (length (stem_at t)) t)) g.rest
          ∙ ap (λ (l : List ℕ). stem_at t ++ l) (g.whole ∙ b) ∙ f.whole;
    }

pub longest_unit : LongestAt EmojiUnit unit_at
longest_unit = record { front = λ t. front_of (unit_front t); longest = unit_longest }

-- ---- links

link_longest : (s r : List ℕ) → Link s → length s ≤ length (link_at (s ++ r))
unfolding link_at
link_longest s r (a_link d) = and_selectors 0x200D r d refl

link_front : (t : List ℕ) → Front (link_at t) t
unfolding link_at
link_front [] = nothing
link_front (c ∷ t) = go (eqb c 0x200D)
  where
    go : (b : Bool) → Front (cond b (c ∷ selectors_at t) []) (c ∷ t)
    go true = after_one c (run-front is_selector t)
    go false = nothing

pub longest_link : LongestAt Link link_at
longest_link = record { front = λ t. front_of (link_front t); longest = link_longest }

links-pass : {s : List ℕ} → Links s → Passes in_links s
links-pass no_links = all_pass
links-pass (link_and (a_link d) l) = pass-and refl
    (pass_append (pass_all (λ c e. either-right (eqb c 0x200D) (is_selector c) e) (S_passes d)) (links-pass l))

links-longest : (s r : List ℕ) → Links s → length s ≤ length (links_at (s ++ r))
unfolding links_at
links-longest s r no_links = omega arith
links-longest s r (link_and {l = l} (a_link {s = u} d) h) = as_long (0x200D ∷ (u ++ l)) (run in_links r)
    (run_on (links-pass (link_and (a_link d) h)) r)

links-front : (t : List ℕ) → Front (links_at t) t
unfolding links_at
links-front [] = nothing
links-front (c ∷ t) = go (eqb c 0x200D)
  where
    go : (b : Bool) → Front (cond b (run in_links (c ∷ t)) []) (c ∷ t)
    go true = run-front in_links (c ∷ t)
    go false = nothing

pub longest-links : LongestAt Links links_at
longest-links = record { front = λ t. front_of (links-front t); longest = links-longest }
