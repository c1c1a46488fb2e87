use mathlib.Core.Path.{◌≡◌, refl, ap, sym, ◌∙◌}
use mathlib.Core.Bool.{false}
use mathlib.Core.List.{List, [], ◌∷◌}
use Prim.Native.Nat.{ℕ, ◌+◌}
use native.Mathlib.Omega.{arith}
use types.Run.{OneOf}
use denote.Enum.Declared.{tag_of}
use borrow.Enum.Refused.{opened}
use lib.ListN.{drop}
use Rattle.utf8.specs.Rfc3629.{chars}
use Rattle.scanner.specs.declared.char_class.Class.{Class}
use Rattle.scanner.specs.Runs.{in_tags, run, tag_modification_at}
use Rattle.scanner.specs.Spans.{size, width}
use Rattle.scanner.specs.Tags.{all_complete, tag_modifications}
use Rattle.item_scanner.specs.TagStates.{is_complete}
use Rattle.item_scanner.specs.declared.consume.TagState.{TagState}
use Rattle.scanner.proofs.ClassTests.{is_tag_or_selector_class, tags_test}
use Rattle.scanner.specs.contracts.char_class.Class.{the_type as the_class}
use Rattle.scanner.proofs.Peek.{Seen, seen, seen_arm, Unseen, unseen}
use Rattle.scanner.proofs.RunsAt.{run_none, run_on, run_over}
use Rattle.item_scanner.proofs.TagsRead.{tags_begin, tags_none, tags_over, tags_selector, tags_tag}
use Rattle.item_scanner.proofs.consume.consume_emoji_tag_runs.Invariants.{Left}
use Rattle.item_scanner.proofs.consume.consume_emoji_tag_runs.Goals.{in-Some+in_default-class, in_default}
use Rattle.item_scanner.proofs.consume.consume_emoji_tag_runs.Goals as goal

-- The run from `at` on ends at `end`, and the state p says whether its tags are complete.
abbrev Over : List ℕ → ℕ → ℕ → TagState → Type 0
Over text at end p =
    let whole = run in_tags (chars (drop at text)) in
    (end ≡ at + size width whole) × (is_complete p ≡ all_complete (tag_modifications whole))

over_other : (at : ℕ) {text : List ℕ} {end v next : ℕ} {k : Class} {p : TagState} → Seen text end v k next → in_tags v ≡ false
    → Left text at end p → Over text at end p
over_other at s o h = (omega (arith, h.0, run_over in_tags s o), tags_over s h.1 o)

over_end : (at : ℕ) {text : List ℕ} {end : ℕ} {p : TagState} → Unseen text end → Left text at end p → Over text at end p
over_end at u h = (omega (arith, h.0, run_none in_tags u), tags_none u h.1)

-- A character of the last arm is neither tag nor selector.
other : {text : List ℕ} {at v next : ℕ} {k : Class} → Seen text at v k next
    → OneOf (1 ∷ 2 ∷ 3 ∷ 4 ∷ 5 ∷ 7 ∷ []) (tag_of the_class k) → in_tags v ≡ false
other s h =
    tags_test _ ∙ ap is_tag_or_selector_class (sym s.class)
    ∙ seen_arm s is_tag_or_selector_class false (1 ∷ 2 ∷ 3 ∷ 4 ∷ 5 ∷ 7 ∷ []) (tt, refl, refl, refl, refl, refl, tt, refl) h

pub groups-init : goal.groups-init
groups-init c = let x = c.args in (refl, tags_begin (run in_tags (chars (drop x.at x.text.now))))

pub loop-next-smaller-in-Selector : goal.loop-next-smaller-in-Selector
loop-next-smaller-in-Selector c =
    let k = seen c.args.text.now c.loop-next.end (sym c.peek.ensures ∙ c.in-Some.is) in
    omega (arith, k.on, k.room)

pub loop-next-preserved-in-Selector : goal.loop-next-preserved-in-Selector
loop-next-preserved-in-Selector c =
    let l = c.loop-next in
    let k = seen c.args.text.now l.end (sym c.peek.ensures ∙ c.in-Some.is) in
    let e = c.in-Selector.is in
    let o = tags_test _ ∙ ap is_tag_or_selector_class (sym k.class ∙ e) in (
      omega (arith, k.on, l.invariant.0),
      λ _. omega (arith, k.on, l.invariant.0),
      (l.invariant.2.0 ∙ run_on in_tags k o, tags_selector k l.invariant.2.1 e),
    )

pub loop-next-smaller : goal.loop-next-smaller
loop-next-smaller c =
    let k = seen c.args.text.now c.loop-next.end (sym c.peek.ensures ∙ c.in-Some.is) in
    omega (arith, k.on, k.room)

pub loop-next-preserved : goal.loop-next-preserved
loop-next-preserved c =
    let l = c.loop-next in
    let k = seen c.args.text.now l.end (sym c.peek.ensures ∙ c.in-Some.is) in
    let e = c.in-Tag.is in
    let o = tags_test _ ∙ ap is_tag_or_selector_class (sym k.class ∙ e) in (
      omega (arith, k.on, l.invariant.0),
      λ _. omega (arith, k.on, l.invariant.0),
      (l.invariant.2.0 ∙ run_on in_tags k o, rw c.after-state.ensures (tags_tag k l.invariant.2.1 e)),
    )

pub returns : goal.returns
unfolding tag_modification_at
returns c =
    let x = c.args in
    let text = x.text.now in
    let l = c.loop-next in
    let read = sym c.peek.ensures in
    let d : Over text x.at l.end l.state = elim c.match-peek.branch [
      | in-Some+in_default-class w ↦ let k = seen text l.end (read ∙ w.in-Some.is) in
          over_other x.at k (other k (opened w.in_default-class.in_default-class-own.keys3)) l.invariant.2
      | in_default w ↦ over_end x.at (unseen text l.end (read ∙ w.in_default.is)) l.invariant.2
    ] in
    record { end = d.0; complete = c.is_complete.ensures ∙ d.1 }
