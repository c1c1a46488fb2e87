-- Calls of the functions that read tag runs and modifications, from the first modification of a unit to the unit's end.
use Rattle.std.specs.Prelude.{Some, None}
use mathlib.Core.Path.{◌≡◌, refl, ap, ap₂, sym, ◌∙◌, subst}
use mathlib.Core.Bool.{true, false}
use mathlib.Core.List.{List, [], ◌∷◌, ◌++◌, append_assoc}
use Prim.Native.Nat.{ℕ, ◌+◌}
use native.Mathlib.Omega.{arith}
use lib.ListN.{drop}
use Rattle.base.proofs.Tests.{both_false, either_left, either-right}
use Rattle.utf8.specs.Rfc3629.{chars}
use Rattle.emoji.specs.Presentation.{is_selector}
use Rattle.emoji.specs.Unicode.{is_tag}
use Rattle.scanner.proofs.LongestRuns.{TagFirst, all_tags, pass_append, tag_first, tags_first}
use Rattle.scanner.specs.declared.char_class.Class.{Class}
use Rattle.scanner.specs.Grammar.{S, no_selectors, selector_and, Tags, one_tag, tag_and}
use Rattle.scanner.specs.Runs.{
  after_run,
  in_modifications,
  in_tags,
  is_modification,
  modification_at,
  run,
  selectors_at,
  tag_modification_at,
}
use Rattle.scanner.specs.Spans.{size, width}
use Rattle.scanner.specs.Structure.{
  EmojiModification,
  EmojiModifier,
  EmojiTagRun,
  EnclosingKeycap,
  TagModifier,
  flatten_modification,
  flatten_modifications,
  flatten_runs,
  modifications_of,
  to_modifications,
}
use Rattle.scanner.proofs.Bytes.{chars-from}
use Rattle.scanner.proofs.Classes.{HasClass, class_is, is_keycap, is_modifier, is_selector_lem, tag_no_selector}
use Rattle.scanner.specs.RunKinds.{is_modification_class, is_tag_class}
use Rattle.scanner.proofs.ClassTests.{modification_test, tag_test}
use Rattle.scanner.proofs.Modifications.{RunsOk, one_run, run_and as run_more, of_class}
use Rattle.scanner.proofs.Rescan.{size_append}
use Rattle.scanner.proofs.RunLaws.{modification_other, modification_tag}
use Rattle.scanner.proofs.Runs.{Passes, all_pass, pass-and, Stops, at_char, at_end, S_passes, after_all, run_all}
use Rattle.item_parts.specs.Parts.{first_from, modification_from, modification_read, tag_run_from, tag_run_read}
use Rattle.item_parts.specs.Walks.{ModificationsWalk, modification-and, modifications-end, RunsWalk, run_and, runs-end}
use Rattle.item_parts.specs.declared.EmojiModification.TheVariants as Value
use Rattle.item_parts.proofs.ModificationWalks.{no_tag_after, Mods, mods_end, mods_keycap, mods_modifier, mods_tags}
use Rattle.item_parts.proofs.TagRuns.{of_selectors, of_tags}
use Rattle.item_parts.proofs.UnitsAt.{tag_run_by}

-- ---- one run of tags

selector_no_tag : (c : ℕ) → is_selector c ≡ true → is_tag c ≡ false
selector_no_tag c e = tag_test c ∙ ap is_tag_class (class_is (is_selector_lem e))

neither : {t : List ℕ} → Stops in_tags t → Stops is_tag t × Stops is_selector t
neither at_end = (at_end, at_end)
neither (at_char {c = c} e) = let p = both_false (is_tag c) (is_selector c) e in (at_char p.0, at_char p.1)

no_tag_front : {s t : List ℕ} → S s → Stops is_tag t → Stops is_tag (s ++ t)
no_tag_front no_selectors p = p
no_tag_front (selector_and {c = c} e s) p = at_char (selector_no_tag c e)

no_selector_first : {t : List ℕ} → TagFirst t → Stops is_selector t
no_selector_first (tag_first {c = c} e) = at_char (tag_no_selector c e)

run-read : (at : ℕ) {u : List ℕ} → TagFirst u → tag_run_read at u
    ≡ Some (tag_run_from at (record { tags = run is_tag u; after = selectors_at (after_run is_tag u) }))
run-read at (tag_first {c = c} {t = t} e) = tag_run_by at c t true e

no_run-read : (at : ℕ) {t : List ℕ} → Stops is_tag t → tag_run_read at t ≡ None
unfolding tag_run_read
no_run-read at at_end = refl
no_run-read at (at_char {c = c} {s = t} e) = tag_run_by at c t false e

-- The function reads tags and selectors before characters t.
group_read : (at : ℕ) {g s t : List ℕ} → Tags g → S s → Stops is_tag (s ++ t) → Stops is_selector t
    → tag_run_read at (g ++ (s ++ t)) ≡ Some (tag_run_from at (record { tags = g; after = s }))
group_read at {g} {s} {t} a b p q =
    run-read at (tags_first (s ++ t) a)
    ∙ ap₂ (λ (x y : List ℕ). Some (tag_run_from at (record { tags = x; after = y }))) (run_all is_tag (all_tags a) p)
    (ap selectors_at (after_all is_tag (all_tags a) p) ∙ run_all is_selector (S_passes b) q)

-- ---- the runs of a tag modification

groups_first : {rs : List EmojiTagRun} (u : List ℕ) → RunsOk rs → TagFirst (flatten_runs rs ++ u)
unfolding flatten_runs
groups_first u (one_run {t = t} {s = s} a b) = subst TagFirst (sym (append_assoc t (s ++ []) u)) (tags_first ((s ++ []) ++ u) a)
groups_first u (run_more {t = t} {s = s} {d = d} {rs = rs} a e b g) =
    subst TagFirst (sym (append_assoc t ((d ∷ s) ++ flatten_runs rs) u)) (tags_first (((d ∷ s) ++ flatten_runs rs) ++ u) a)

runs-split : (r : EmojiTagRun) (rs : List EmojiTagRun) (u : List ℕ) → flatten_runs (r ∷ rs) ++ u ≡ r.tags
    ++ (r.after ++ (flatten_runs rs ++ u))
unfolding flatten_runs
runs-split r rs u = append_assoc r.tags (r.after ++ flatten_runs rs) u
    ∙ ap (λ (l : List ℕ). r.tags ++ l) (append_assoc r.after (flatten_runs rs) u)

runs-size : (r : EmojiTagRun) (rs : List EmojiTagRun) → size width (flatten_runs (r ∷ rs))
    ≡ size width (r.tags ++ r.after) + size width (flatten_runs rs)
unfolding flatten_runs
runs-size r rs = ap (size width) (sym (append_assoc r.tags r.after (flatten_runs rs)))
    ∙ size_append width (r.tags ++ r.after) (flatten_runs rs)

module _ (text : List ℕ) where
  -- The characters from the end of a run on.
  next-run : (at : ℕ) (r : EmojiTagRun) (rs : List EmojiTagRun) (u : List ℕ) → chars (drop at text) ≡ flatten_runs (r ∷ rs) ++ u
      → chars (drop (at + size width (r.tags ++ r.after)) text) ≡ flatten_runs rs ++ u
  next-run at r rs u e =
      chars-from text at (r.tags ++ r.after) (flatten_runs rs ++ u)
      (e ∙ runs-split r rs u ∙ sym (append_assoc r.tags r.after (flatten_runs rs ++ u)))

  runs_walk : {end : ℕ} {rs : List EmojiTagRun} (at : ℕ) (u : List ℕ) → RunsOk rs → Stops in_tags u → chars (drop at text) ≡ flatten_runs rs
      ++ u
      → at + size width (flatten_runs rs) ≡ end → RunsWalk text end at rs
  unfolding flatten_runs
  runs_walk at u (one_run {t = t} {s = s} a b) p e n =
      let r : EmojiTagRun = record { tags = t; after = s } in
      let q = neither p in
      run_and (ap (tag_run_read at) (e ∙ runs-split r [] u) ∙ group_read at a b (no_tag_front b q.0) q.1)
      (runs-end {at = at + size width (t ++ s)} (omega (arith, n, runs-size r []))
      (ap (tag_run_read (at + size width (t ++ s))) (next-run at r [] u e) ∙ no_run-read (at + size width (t ++ s)) q.0))
  runs_walk at u (run_more {t = t} {s = s} {d = d} {rs = rs} a f b g) p e n =
      let r : EmojiTagRun = record { tags = t; after = d ∷ s } in
      run_and (ap (tag_run_read at) (e ∙ runs-split r rs u) ∙ group_read at a (selector_and f b) (at_char (selector_no_tag d f))
      (no_selector_first (groups_first u g)))
      (runs_walk (at + size width (t ++ d ∷ s)) u g p (next-run at r rs u e) (omega (arith, n, runs-size r rs)))

-- ---- one modification

front_read : (at : ℕ) (t : List ℕ) {s : List ℕ} {ms : List EmojiModification} → modification_at t ≡ s → (modifications_of s).1 ≡ ms
    → modification_read at t ≡ first_from at ms
unfolding modification_read
front_read at t e f = ap (λ (l : List ℕ). first_from at (modifications_of l).1) e ∙ ap (first_from at) f

module _ {c : ℕ} {k : Class} (h : HasClass c k) (s t : List ℕ) where
  -- The function reads a modifier or 20E3 and its selectors, before characters t.
  one-read : (at : ℕ) → is_tag_class k ≡ false → is_modification_class k ≡ true → S s → Stops is_selector t
      → modification_read at (c ∷ (s ++ t))
      ≡ first_from at (to_modifications k c (s, [])).1
  one-read at e f a p =
      front_read at (c ∷ (s ++ t)) (modification_other c (s ++ t) true (tag_test c ∙ ap is_tag_class (class_is h) ∙ e)
      (modification_test c ∙ ap is_modification_class (class_is h) ∙ f) ∙ ap (λ (l : List ℕ). c ∷ l) (run_all is_selector (S_passes a) p))
      (ap (λ (x : List ℕ × List EmojiModification). x.1) (of_class s h ∙ ap (to_modifications k c) (of_selectors (S_passes a))))

none_read : (at : ℕ) {t : List ℕ} → Stops in_modifications t → modification_read at t ≡ None
unfolding modification_read modification_at modifications_of first_from
none_read at at_end = refl
none_read at (at_char {c = c} {s = t} e) = front_read at (c ∷ t)
    (modification_other c t false (no_tag (neither (no_tag_after (at_char e))).0) (both_false (is_modification c) (is_selector c) e).0) refl
  where
    no_tag : Stops is_tag (c ∷ t) → is_tag c ≡ false
    no_tag (at_char f) = f

tags_in_lem : {t : List ℕ} → Tags t → Passes in_tags t
tags_in_lem (one_tag {c = c} e) = pass-and (either_left (is_tag c) (is_selector c) e) all_pass
tags_in_lem (tag_and {c = c} e h) = pass-and (either_left (is_tag c) (is_selector c) e) (tags_in_lem h)

selectors_in : {s : List ℕ} → S s → Passes in_tags s
selectors_in no_selectors = all_pass
selectors_in (selector_and {c = c} e h) = pass-and (either-right (is_tag c) (is_selector c) e) (selectors_in h)

groups_in : {rs : List EmojiTagRun} → RunsOk rs → Passes in_tags (flatten_runs rs)
unfolding flatten_runs
groups_in (one_run a b) = pass_append (tags_in_lem a) (pass_append (selectors_in b) all_pass)
groups_in (run_more {d = d} a e b g) = pass_append (tags_in_lem a) (pass_append (selectors_in (selector_and e b)) (groups_in g))

tags_read : (at : ℕ) {u : List ℕ} → TagFirst u → modification_read at u ≡ Some (Value.TagModifier (at + size width (tag_modification_at u)))
unfolding first_from modification_from
tags_read at (tag_first {c = c} {t = t} e) =
    let m = of_tags c t e in
    front_read at (c ∷ t) (modification_tag c t e) m.is ∙ ap (λ (l : List ℕ). Some (Value.TagModifier (at + size width l))) m.flat

groups_read : (at : ℕ) {rs : List EmojiTagRun} {t : List ℕ} → RunsOk rs → Stops in_tags t → modification_read at (flatten_runs rs ++ t)
    ≡ Some (modification_from at (TagModifier rs))
unfolding modification_from tag_modification_at
groups_read at {rs} {t} g p = tags_read at (groups_first t g) ∙ ap (λ (l : List ℕ). Some (Value.TagModifier (at + size width l)))
    (run_all in_tags (groups_in g) p)

-- ---- all modifications of a unit

modifications_size : (m : EmojiModification) (ms : List EmojiModification) → size width (flatten_modifications (m ∷ ms))
    ≡ size width (flatten_modification m) + size width (flatten_modifications ms)
unfolding flatten_modifications
modifications_size m ms = size_append width (flatten_modification m) (flatten_modifications ms)

pub modifications_walk : {r t : List ℕ} {ms : List EmojiModification} (text : List ℕ) (end at : ℕ) → Mods r t ms → chars (drop at text) ≡ t
    → at + size width (flatten_modifications ms) ≡ end → ModificationsWalk text end at ms
unfolding flatten_modifications flatten_modification first_from to_modifications
modifications_walk text end at (mods_end p) e n = modifications-end {at = at} (omega arith) (ap (modification_read at) e ∙ none_read at p)
modifications_walk text end at (mods_modifier {c = c} {s = s} {t = t} {ms = ms} f a p m) e n =
    modification-and {m = EmojiModifier c s} (ap (modification_read at) e ∙ one-read (is_modifier f) s t at refl refl a p) tt
    (modifications_walk text end (at + size width (c ∷ s)) m (chars-from text at (c ∷ s) t e)
    (omega (arith, n, modifications_size (EmojiModifier c s) ms)))
modifications_walk text end at (mods_keycap {s = s} {t = t} {ms = ms} a p m) e n =
    modification-and {m = EnclosingKeycap s} (ap (modification_read at) e ∙ one-read (is_keycap refl) s t at refl refl a p) tt
    (modifications_walk text end (at + size width (0x20E3 ∷ s)) m (chars-from text at (0x20E3 ∷ s) t e)
    (omega (arith, n, modifications_size (EnclosingKeycap s) ms)))
modifications_walk text end at (mods_tags {t = t} {rs = rs} {ms = ms} q g p m) e n =
    modification-and {m = TagModifier rs} (ap (modification_read at) (e ∙ q) ∙ groups_read at g p) (runs_walk text at t g p (e ∙ q) refl)
    (modifications_walk text end (at + size width (flatten_runs rs)) m (chars-from text at (flatten_runs rs) t (e ∙ q))
    (omega (arith, n, modifications_size (TagModifier rs) ms)))
