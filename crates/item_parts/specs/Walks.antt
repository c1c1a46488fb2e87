-- Contracts of helper functions: the functions of src/lib.rt, called from an item's start to its end, give the structure of the
-- item (StructureIsWalked, proved in proofs/Claims.antt). At each offset a function returns the next part of the structure as a
-- value (specs/Parts.antt), and the next offset is the end of that part's characters.
use Rattle.std.specs.Prelude.{◌≡◌, List, [], ◌∷◌, ◌++◌, ℕ, ◌+◌, ◌-◌, take, drop, Some, None}
use Rattle.utf8.specs.Rfc3629.{chars, encode_all}
use Rattle.positions.specs.declared.TextCount.{TextCount}
use Rattle.item_parts.specs.Parts.{
  link_from,
  modification_from,
  modification_read,
  part_read,
  tag_run_from,
  tag_run_read,
  unit_from,
  unit_read,
}
use Rattle.scanner.specs.Spans.{scan_at, size, width}
use Rattle.scanner.specs.Structure.{
  EmojiLike,
  EmojiModification,
  EmojiModifier,
  EmojiSequence,
  EmojiTagRun,
  EnclosingKeycap,
  TagModifier,
  ZwjJoinedEmoji,
  ZwjLink,
  emoji_headed,
  flatten_link,
  flatten_modification,
  flatten_runs,
  flatten_stem,
  flatten_unit,
  links_only,
  structure,
}
use Rattle.scanner.specs.Theorems.{Structured}
use Rattle.scanner.specs.declared.ScanItem.{ScanItem}
use Rattle.item_parts.specs.declared.SequencePart.TheVariants.{JoiningLink, LeftOverLink}

module _ (text : List ℕ) where
  module _ (end : ℕ) where
    -- The calls return the tag runs of the list, one after the other, up to the offset `end`, and then no further one.
    pub data RunsWalk : ℕ → List EmojiTagRun → Type 0 where
      runs-end : {at : ℕ} → at ≡ end → tag_run_read at (chars (drop at text)) ≡ None → RunsWalk at []
      run_and :
          {at : ℕ} {r : EmojiTagRun} {rs : List EmojiTagRun} → tag_run_read at (chars (drop at text)) ≡ Some (tag_run_from at r)
          → RunsWalk (at + size width (r.tags ++ r.after)) rs → RunsWalk at (r ∷ rs)

  -- If the modification is a tag modification, the calls return its tag runs.
  abbrev pub TagsWalk : ℕ → EmojiModification → Type 0
  TagsWalk at (EmojiModifier c s) = Unit {0}
  TagsWalk at (EnclosingKeycap s) = Unit {0}
  TagsWalk at (TagModifier rs) = RunsWalk (at + size width (flatten_runs rs)) at rs

  module _ (end : ℕ) where
    -- The calls return the modifications of the list, one after the other, up to the offset `end`, and then no further one.
    pub data ModificationsWalk : ℕ → List EmojiModification → Type 0 where
      modifications-end : {at : ℕ} → at ≡ end → modification_read at (chars (drop at text)) ≡ None → ModificationsWalk at []
      modification-and :
          {at : ℕ} {m : EmojiModification} {ms : List EmojiModification} → modification_read at (chars (drop at text))
          ≡ Some (modification_from at m) → TagsWalk at m
          → ModificationsWalk (at + size width (flatten_modification m)) ms → ModificationsWalk at (m ∷ ms)

  -- The calls return the unit at an offset, and its modifications from the end of its stem on.
  pub record UnitWalk (at : ℕ) (u : EmojiLike) : Type 0 where
    pub unit : unit_read at (chars (drop at text)) ≡ unit_from at u
    pub modifications : ModificationsWalk (at + size width (flatten_unit u)) (at + size width (flatten_stem u.stem)) u.modifiers

  module _ (end : ℕ) where
    -- The calls return the links left over of the list, one after the other, up to the item's end, and then no further one.
    pub data LinksWalk : ℕ → List ZwjLink → Type 0 where
      links_end : {at : ℕ} → at ≡ end → part_read text end at ≡ None → LinksWalk at []
      link_and :
          {at : ℕ} {l : ZwjLink} {ls : List ZwjLink} → part_read text end at ≡ Some (LeftOverLink (link_from at l))
          → LinksWalk (at + size width (flatten_link l)) ls → LinksWalk at (l ∷ ls)

    -- The calls return further units, each after its link, and then the links left over.
    pub data JoinsWalk : ℕ → List ZwjJoinedEmoji → List ZwjLink → Type 0 where
      no-more-units : {at : ℕ} {ls : List ZwjLink} → LinksWalk at ls → JoinsWalk at [] ls
      unit-and :
          {at : ℕ} {j : ZwjJoinedEmoji} {js : List ZwjJoinedEmoji} {ls : List ZwjLink} → part_read text end at
          ≡ Some (JoiningLink (link_from at j.link))
          → UnitWalk (at + size width (flatten_link j.link)) j.emoji
          → JoinsWalk (at + size width (flatten_link j.link ++ flatten_unit j.emoji)) js ls → JoinsWalk at (j ∷ js) ls

  -- The calls return the structure of an item from its start to its end.
  unfoldable pub SequenceWalk : ℕ → ℕ → EmojiSequence → Type 0
  SequenceWalk start end (links_only ls) = LinksWalk end start ls
  SequenceWalk start end (emoji_headed u js ls) = UnitWalk start u × JoinsWalk end (start + size width (flatten_unit u)) js ls

-- If the scanner's cursor returns a links-only or emoji-headed item, the calls return the structure of this item's characters, from
-- its start to its end.
unfoldable pub StructureIsWalked : Type 0
StructureIsWalked =
    (text : List ℕ) (at : ℕ) (before : TextCount) (x : ScanItem) → scan_at text at before ≡ Some x → Structured x.kind
    → (t : List ℕ) × (take (x.end - x.start) (drop x.start text) ≡ encode_all t) × SequenceWalk text x.start x.end (structure t)
