-- The laws that the loop of `next_item` uses: the rest of an item from a byte offset on, character by character, and the item at an
-- offset.
use Rattle.std.specs.Prelude.{Some, None, Option}
use mathlib.Core.Path.{◌≡◌, refl, ap, ap₂, sym, ◌∙◌, subst}
use mathlib.Core.Logic.{⊎_elim}
use mathlib.Core.Bool.{Bool, true, false, ◌&&◌, and_assoc, and-true}
use mathlib.Core.List.{List, [], ◌∷◌, ◌++◌}
use Prim.Native.Nat.{ℕ, ◌+◌, ◌<◌}
use native.Mathlib.Omega.{arith}
use lib.ListN.{drop}
use Rattle.base.proofs.Tests.{either_true}
use Rattle.utf8.specs.Rfc3629.{chars}
use Rattle.positions.specs.Positions.{capped_plus, count_between}
use Rattle.positions.specs.declared.TextCount.{TextCount}
use Rattle.emoji.specs.Presentation.{is_selector}
use Rattle.emoji.specs.Unicode.{is_tag}
use Rattle.scanner.specs.Classes.{class_of}
use Rattle.scanner.specs.declared.char_class.Class.{Class}
use Rattle.scanner.specs.declared.char_class.Class.TheVariants.{Tag as tag}
use Rattle.scanner.specs.Items.{Item, start_state, begins_tags, join, split_from, items, kind_of, next_of, transition}
use Rattle.scanner.specs.declared.state.State.{State}
use Rattle.scanner.specs.declared.state.State.TheVariants.{Unit as unit}
use Rattle.scanner.specs.Runs.{after_run, in_tags, run, tag_modification_at}
use Rattle.scanner.specs.Spans.{count_after, first_of, rest_at, scan_at, scan_from, size, spans, width}
use Rattle.scanner.specs.Tags.{all_complete, tag_modifications, tags_complete_of}
use Rattle.scanner.specs.declared.ScanKind.{ScanKind}
use Rattle.scanner.specs.declared.ScanItem.{ScanItem}
use Rattle.scanner.proofs.Bytes.{chars-from}
use Rattle.scanner.proofs.Classes.{class_is, is_selector_lem, is_tag_lem}
use Rattle.scanner.proofs.ClassTests.{is_tag_or_selector_class, tags_test}
use Rattle.scanner.proofs.ItemRuns.{walk_passes}
use Rattle.scanner.proofs.Peek.{Seen, Unseen}
use Rattle.scanner.proofs.Positions.{count-chars}
use Rattle.scanner.proofs.States.{headed-transition, next-on, next_stop, tag_begins}
use Rattle.scanner.proofs.Rescan.{size_append}
use Rattle.scanner.proofs.Runs.{Stops, at_char, at_end, after-stops, run-after, run-passes}
use Rattle.scanner.proofs.RunsAt.{run_on}
use Rattle.scanner.proofs.Walk.{split_from_walk}
use Rattle.scanner.proofs.Tiling.{split_from-none, split_from-some, split_from_tiles}
use Rattle.item_scanner.proofs.TagsRead.{first_tags, tags_headed, tags_nil, tags_on, tags_then}

-- ---- the rest of an item

pub rest-none : {text : List ℕ} {at : ℕ} (p : State) → Unseen text at → rest_at text at p ≡ []
unfolding split_from
rest-none p h = ap (λ (l : List ℕ). (split_from p l).0) h.chars_none

module _ {text : List ℕ} {at v : ℕ} {k : Class} {next : ℕ} (h : Seen text at v k next) (p : State) where
  pub rest-on : (q : State) → next_of (transition p k) ≡ Some q → rest_at text at p ≡ v ∷ rest_at text next q
  rest-on q e =
      ap (λ (l : List ℕ). (split_from p l).0) h.chars_on
      ∙ ap (λ (r : List ℕ × List Item). r.0)
      (split_from-some p q v (chars (drop next text)) (ap (transition p) (sym h.class) ∙ next-on (transition p k) q e))

  pub rest-ends : next_of (transition p k) ≡ None → rest_at text at p ≡ []
  rest-ends e =
      ap (λ (l : List ℕ). (split_from p l).0) h.chars_on
      ∙ ap (λ (r : List ℕ × List Item). r.0)
      (split_from-none p v (chars (drop next text)) (ap (transition p) (sym h.class) ∙ next_stop (transition p k) e))

  -- The rest from the next character on has the same end.
  width-on : (q : State) → next_of (transition p k) ≡ Some q
      → at + size width (rest_at text at p) ≡ next + size width (rest_at text next q)
  width-on q e = omega (arith, h.after, ap (size width) (rest-on q e))

-- ---- a tag modification in the rest of an item

tags_stay : (c : ℕ) → in_tags c ≡ true → transition unit (class_of c) ≡ Some unit
unfolding transition
tags_stay c e = ⊎_elim (λ t. ap (transition unit) (class_is (is_tag_lem t))) (λ t. ap (transition unit) (class_is (is_selector_lem t)))
    (either_true (is_tag c) (is_selector c) e)

split_from-stops : (f : ℕ → Bool) (p : State) {t : List ℕ} → Stops f t → Stops f (split_from p t).0
unfolding split_from
split_from-stops f p at_end = at_end
split_from-stops f p (at_char {c = c} {s = t} e) = go (transition p (class_of c)) refl
  where
    go : (o : Option State) → transition p (class_of c) ≡ o → Stops f (split_from p (c ∷ t)).0
    go (Some q) g = rw (split_from-some p q c t g) (at_char e)
    go None g = rw (split_from-none p c t g) at_end

-- If a tag leads to the state `unit`, the rest is the tag modification there and the rest after it.
module _ {text : List ℕ} {at v next : ℕ} (h : Seen text at v tag next) (p : State) (e : next_of (transition p tag) ≡ Some unit) where
  abbrev t : List ℕ
  t = chars (drop at text)

  abbrev tags : List ℕ
  tags = run in_tags t

  abbrev end : ℕ
  end = at + size width tags

  after_tags : chars (drop end text) ≡ after_run in_tags t
  after_tags = chars-from text at tags (after_run in_tags t) (sym (run-after in_tags t))

  rest_parts : rest_at text at p ≡ tags ++ rest_at text end unit
  unfolding transition
  rest_parts =
      rest-on h p unit e ∙ sym (rest-on h unit unit refl) ∙ ap (λ (l : List ℕ). (split_from unit l).0) (sym (run-after in_tags t))
      ∙ ap (λ (r : List ℕ × List Item). r.0) (split_from_walk (walk_passes unit in_tags tags_stay (run-passes in_tags t))
      (after_run in_tags t))
      ∙ ap (λ (l : List ℕ). tags ++ (split_from unit l).0) (sym after_tags)

  tags_width : at + size width (rest_at text at p) ≡ end + size width (rest_at text end unit)
  tags_width = omega (arith, ap (size width) rest_parts, size_append width tags (rest_at text end unit))

  tags_parts : tags_complete_of (kind_of p) (rest_at text at p) ≡
      (all_complete (tag_modifications tags) && tags_complete_of (kind_of unit) (rest_at text end unit))
  tags_parts =
      let stops = split_from-stops in_tags unit (subst (Stops in_tags) (sym after_tags) (after-stops in_tags t)) in
      tags_headed p (rest_at text at p) (headed-transition p unit tag (next-on (transition p tag) unit e))
      ∙ ap (λ (l : List ℕ). all_complete (tag_modifications l)) rest_parts ∙ tags_then (run-passes in_tags t) stops
      ∙ ap (λ (b : Bool). all_complete (tag_modifications tags) && b) (sym (tags_headed unit (rest_at text end unit) refl))

  pub tags_go_on : at < end
  tags_go_on = omega (arith, h.on, run_on in_tags h (tags_test v ∙ ap is_tag_or_selector_class (sym h.class)))

-- ---- the loop over the rest of an item: at each turn, the characters not yet read give the same end and the same tag report

pub record Reading (text : List ℕ) (from : ℕ) (first : State) (at : ℕ) (p : State) (b : Bool) : Type 0 where
  pub end_same : from + size width (rest_at text from first) ≡ at + size width (rest_at text at p)
  pub tags_same : tags_complete_of (kind_of first) (rest_at text from first) ≡ (b && tags_complete_of (kind_of p) (rest_at text at p))

module _ {text : List ℕ} {from at : ℕ} {first p : State} {b : Bool} (l : Reading text from first at p b) where
  module _ {v : ℕ} {k : Class} {next : ℕ} (h : Seen text at v k next) (q : State) (e : next_of (transition p k) ≡ Some q) where
    -- A turn that reads one character with which no tag modification begins.
    pub reading-on : begins_tags q k ≡ false → Reading text from first next q b
    reading-on n = record {
      end_same = l.end_same ∙ width-on h p q e;
      tags_same =
          l.tags_same
          ∙ ap (λ (c : Bool). b && c) (ap (tags_complete_of (kind_of p)) (rest-on h p q e)
          ∙ tags_on p q v (rest_at text next q) h.class (next-on (transition p k) q e) n);
    }

    -- A turn that reads a whole tag modification.
    pub reading-tags : {c : Bool} {end : ℕ} → begins_tags q k ≡ true → end ≡ at + size width (tag_modification_at (chars (drop at text)))
        → c ≡ all_complete (tag_modifications (tag_modification_at (chars (drop at text)))) → (at < end)
        × Reading text from first end q (b && c)
    unfolding tag_modification_at
    reading-tags {c} {end} n f g =
        let z = tag_begins q k n in
        let s = subst (λ (x : Class). Seen text at v x next) z.0 h in
        let r : next_of (transition p tag) ≡ Some unit = ap (λ (x : Class). next_of (transition p x)) (sym z.0) ∙ e
        ∙ ap Some z.1 in
        rw z.1 (
          omega (arith, f, tags_go_on s p r),
          record {
            end_same = l.end_same ∙ tags_width s p r ∙ ap (λ (n : ℕ). n + size width (rest_at text n unit)) (sym f);
            tags_same =
                l.tags_same ∙ ap (λ (x : Bool). b && x) (tags_parts s p r)
                ∙ sym (and_assoc b (all_complete (tag_modifications (run in_tags (chars (drop at text)))))
                (tags_complete_of (kind_of unit) (rest_at text (at + size width (run in_tags (chars (drop at text)))) unit)))
                ∙ ap₂ (λ (x : Bool) (n : ℕ). (b && x) && tags_complete_of (kind_of unit) (rest_at text n unit)) (sym g) (sym f);
          },
        )

  -- If the rest is empty, the end and the tag report are those of the whole rest.
  pub reading-done : rest_at text at p ≡ [] → (at ≡ from + size width (rest_at text from first))
      × (b ≡ tags_complete_of (kind_of first) (rest_at text from first))
  reading-done e = (
    let m = l.end_same in omega (arith, ap (size width) e),
    sym (l.tags_same ∙ ap (λ (c : Bool). b && c) (ap (tags_complete_of (kind_of p)) e ∙ tags_nil (kind_of p)) ∙ and-true b),
  )

-- ---- the item at an offset

-- An item by its fields.
abbrev span_at : ℕ → ℕ → ScanKind → Bool → TextCount → TextCount → ScanItem
span_at at e k b before after = record {
  start = at;
  end = e;
  kind = k;
  tags_complete = b;
  char_start = before.chars;
  char_end = after.chars;
  unit_start = before.units;
  unit_end = after.units;
}

pub cursor_end : {text : List ℕ} {at : ℕ} (before : TextCount) → Unseen text at → scan_at text at before ≡ None
unfolding scan_at scan_from first_of spans items
cursor_end {text} {at} before h = ap (λ (l : List ℕ). first_of (spans at before (items l))) h.chars_none

-- The item as the cursor makes it: from the state of the first character, the end and the tag report of the rest, the kind, and the
-- counts of its bytes and up to its end.
pub cursor_item : {text : List ℕ} {at v : ℕ} {c : Class} {next : ℕ} → Seen text at v c next → (p : State) (e : ℕ) (b : Bool) (k : ScanKind)
    (before m n : TextCount) → p ≡ start_state c → e ≡ next + size width (rest_at text next p)
    → b ≡ tags_complete_of (kind_of p) (rest_at text next p) → k ≡ kind_of p → m ≡ count_between text at e → n ≡ capped_plus before m
    → Some (span_at at e k b before n) ≡ scan_at text at before
unfolding scan_at scan_from first_of spans items
cursor_item {text} {at} {v} {c} {next} h p e b k before m n hp he hb hk hm hn =
    let q = start_state (class_of v) in
    let s = rest_at text next q in
    let f : p ≡ q = hp ∙ ap start_state h.class in
    let x : Item = record { kind = kind_of q; chars = v ∷ s } in
    let i : e ≡ at + size width (v ∷ s) = omega (arith, h.after, he ∙ ap (λ (x : State). next + size width (rest_at text next x)) f) in
    let j : k ≡ kind_of q = hk ∙ ap kind_of f in
    let t : b ≡ tags_complete_of (kind_of q) (v ∷ s) = hb ∙ ap (λ (x : State). tags_complete_of (kind_of x) (rest_at text next x)) f
    ∙ sym (first_tags v s) in
    let tile : chars (drop at text) ≡ (v ∷ s) ++ join (split_from q (chars (drop next text))).1 =
    h.chars_on ∙ ap (λ (l : List ℕ). v ∷ l) (sym (split_from_tiles q (chars (drop next text)))) in
    let o : n ≡ count_after before x =
    hn ∙ ap (capped_plus before) (hm ∙ ap (count_between text at) i ∙ count-chars text at (v ∷ s) _ tile) in
    (λ r. Some (span_at at (i r) (j r) (t r) before (o r)))
    ∙ ap (λ (l : List ℕ). first_of (spans at before (items l))) (sym h.chars_on)
