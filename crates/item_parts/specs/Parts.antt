-- Contracts of helper functions: the functions of src/lib.rt. They read one part of an item at an offset and return it as a value
-- with offsets.
-- The `..From` definitions turn a part of the structure (scanner, specs/Structure.antt) that begins at an offset into such a value. The
-- `..Read` definitions say which part stands at the front of the characters from an offset on (document 01, "Item").
-- Calls of these functions from an item's start to its end give the structure of the item: specs/Walks.antt, StructureIsWalked.
use Rattle.std.specs.Prelude.{cond, List, [], ◌∷◌, ℕ, ◌+◌, eqb, leb, drop, Some, None, Option}
use Rattle.utf8.specs.Rfc3629.{chars}
use Rattle.emoji.specs.Unicode.{is_emoji, is_tag}
use Rattle.scanner.specs.Runs.{after_run, after_selectors, modification_at, run, selectors_at, stem_at, unit_at}
use Rattle.scanner.specs.SelectorRun.{selectors_from}
use Rattle.scanner.specs.Spans.{size, width}
use Rattle.scanner.specs.Structure as Structure
use Rattle.scanner.specs.Structure.{emoji_like, flatten_runs, flatten_stem, flatten_unit, link_of, modifications_of, ri_stem}
use Rattle.scanner.specs.declared.selectors.PresentationSelectors.{PresentationSelectors}
use Rattle.item_parts.specs.declared.EmojiLike.{EmojiLike}
use Rattle.item_parts.specs.declared.EmojiModification.{EmojiModification}
use Rattle.item_parts.specs.declared.EmojiModification.TheVariants.{EmojiModifier, EnclosingKeycap, TagModifier}
use Rattle.item_parts.specs.declared.EmojiStem.{EmojiStem}
use Rattle.item_parts.specs.declared.EmojiStem.TheVariants.{Flag, SingletonBase}
use Rattle.item_parts.specs.declared.EmojiTagRun.{EmojiTagRun}
use Rattle.item_parts.specs.declared.SequencePart.{SequencePart}
use Rattle.item_parts.specs.declared.SequencePart.TheVariants.{JoiningLink, LeftOverLink}
use Rattle.item_parts.specs.declared.ZwjLink.{ZwjLink}

-- ---- a part of the structure that begins at an offset, as the code's value

-- A run of tags and its selectors.
unfoldable pub tag_run_from : ℕ → Structure.EmojiTagRun → EmojiTagRun
tag_run_from at r = let end = at + size width r.tags in record { tags_end = end; selectors = selectors_from end r.after }

-- A modification.
unfoldable pub modification_from : ℕ → Structure.EmojiModification → EmojiModification
modification_from at (Structure.EmojiModifier c s) = EmojiModifier c (selectors_from (at + width c) s)
modification_from at (Structure.EnclosingKeycap s) = EnclosingKeycap (selectors_from (at + width 0x20E3) s)
modification_from at (Structure.TagModifier rs) = TagModifier (at + size width (flatten_runs rs))

-- A stem, by the offset after its first character.
unfoldable pub stem_after : ℕ → Structure.EmojiStem → EmojiStem
stem_after at (Structure.SingletonBase c s) = SingletonBase c (selectors_from at s)
stem_after at (Structure.Flag a s b t) = Flag a (selectors_from at s) b (selectors_from (at + size width s + width b) t)

-- A stem, by the offset at which it begins.
unfoldable pub stem_from : ℕ → Structure.EmojiStem → EmojiStem
stem_from at (Structure.SingletonBase c s) = stem_after (at + width c) (Structure.SingletonBase c s)
stem_from at (Structure.Flag a s b t) = stem_after (at + width a) (Structure.Flag a s b t)

-- The offset of a stem's end.
abbrev pub stem_end : EmojiStem → ℕ
stem_end (SingletonBase c s) = s.end
stem_end (Flag a s b t) = t.end

-- A unit.
unfoldable pub unit_from : ℕ → Structure.EmojiLike → EmojiLike
unit_from at u = record {
  stem = Some (stem_from at u.stem);
  modifiers_start = at + size width (flatten_stem u.stem);
  end = at + size width (flatten_unit u);
}

-- A link.
unfoldable pub link_from : ℕ → Structure.ZwjLink → PresentationSelectors
link_from at l = selectors_from (at + width 0x200D) l.after

-- ---- the part that begins at an offset, by the characters from there on

-- ".. one or more tags and S"
unfoldable pub tag_run_read : ℕ → List ℕ → Option EmojiTagRun
tag_run_read at [] = None
tag_run_read at (c ∷ t) =
    cond (is_tag c) (Some (tag_run_from at (record { tags = run is_tag (c ∷ t); after = selectors_at (after_run is_tag (c ∷ t)) }))) None

-- The first modification of a list, as a value; the list begins at an offset.
unfoldable pub first_from : ℕ → List Structure.EmojiModification → Option EmojiModification
first_from at [] = None
first_from at (m ∷ ms) = Some (modification_from at m)

-- "Modification: a modifier and S; 20E3 and S; or one or more groups of one or more tags and S."
unfoldable pub modification_read : ℕ → List ℕ → Option EmojiModification
modification_read at t = first_from at (modifications_of (modification_at t)).1

-- The stem whose first character is an RI, by the offset after this RI and the characters from there on: "RI, S, RI, S (a flag)".
abbrev pub ri_stem_read : ℕ → ℕ → List ℕ → EmojiStem
ri_stem_read c at t = stem_after at (ri_stem c (selectors_at t) (after_selectors t))

-- "Stem: RI, S, RI, S (a flag); otherwise one emoji and S."
unfoldable pub stem_read : ℕ → List ℕ → Option EmojiStem
stem_read at [] = None
stem_read at (c ∷ t) = cond (is_emoji c) (Some (stem_after (at + width c) (emoji_like c t).stem)) None

-- The value that says: no unit begins at this offset.
abbrev pub no_unit : ℕ → EmojiLike
no_unit at = record { stem = None; modifiers_start = at; end = at }

-- "Unit: a stem and its modifications."
unfoldable pub unit_read : ℕ → List ℕ → EmojiLike
unit_read at [] = no_unit at
unit_read at (c ∷ t) =
    cond (is_emoji c)
    (record {
      stem = stem_read at (c ∷ t);
      modifiers_start = at + size width (stem_at (c ∷ t));
      end = at + size width (unit_at (c ∷ t));
    })
    (no_unit at)

-- ".. each 200D and S"
unfoldable pub link_read : ℕ → List ℕ → Option ZwjLink
link_read at [] = None
link_read at (c ∷ t) = cond (eqb c 0x200D) (Some (record { selectors = link_from at (link_of t) })) None

-- A link with these selectors, by the characters after them: it joins a unit if an emoji stands there, and is left over otherwise.
unfoldable pub joins : PresentationSelectors → List ℕ → SequencePart
joins s [] = LeftOverLink s
joins s (c ∷ t) = cond (is_emoji c) (JoiningLink s) (LeftOverLink s)

-- A link of an item that ends at the offset `end`. It joins nothing after the item's end.
unfoldable pub link_part : List ℕ → ℕ → Option ZwjLink → Option SequencePart
link_part text end None = None
link_part text end (Some l) =
    Some (cond (leb end l.selectors.end) (LeftOverLink l.selectors) (joins l.selectors (chars (drop l.selectors.end text))))

-- ".. further units each joined by exactly one link, then the links left over": the part at an offset of an item that ends at
-- `end`.
unfoldable pub part_read : List ℕ → ℕ → ℕ → Option SequencePart
part_read text end at = cond (leb end at) None (link_part text end (link_read at (chars (drop at text))))
