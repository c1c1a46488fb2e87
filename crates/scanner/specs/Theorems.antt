-- Statements about items and spans. Each statement is proved in proofs/Claims.antt.
use Rattle.std.specs.Prelude.{◌≡◌, ◌≢◌, ◌⊎◌, ◌↔◌, Bool, true, false, ℕ, ◌+◌, ◌-◌, ◌^◌, ◌≤◌, ◌<◌, eqb, length, take, drop, None}
use mathlib.Core.List.{List, [], ◌∷◌, ◌++◌, Memᴰ}
use Rattle.emoji.specs.Presentation.{is_selector}
use Rattle.emoji.specs.Unicode.{is_emoji, is_tag}
use Rattle.utf8.specs.Rfc3629.{WellFormed, chars, encode_all, read_char, valid_up_to_of}
use Rattle.utf8.specs.declared.ReadChar.TheVariants as Read
use Rattle.positions.specs.Positions.{AtPosition, Boundary, no_count, position_at, units}
use Rattle.positions.specs.declared.TextCount.{TextCount}
use Rattle.scanner.specs.Classes.{strip}
use Rattle.scanner.specs.Items.{Item, split_from, items, join, unit}
use Rattle.scanner.specs.Runs.{
  after_selectors,
  after_unit,
  in_links,
  in_modifications,
  is_modification,
  is_passthrough,
  link_at,
  links_at,
  modification_at,
  modifications_at,
  passthrough_at,
  run,
  selectors_at,
  stem_at,
  tag_groups_at,
  tags_at,
  unit_at,
}
use Rattle.scanner.specs.Grammar.{Derives, EmojiUnit, Link, Links, Modification, Modifications, Reads, S, Stem, TagGroups, Tags}
use Rattle.scanner.specs.Structure.{
  EmojiLike,
  EmojiModification,
  EmojiSequence,
  EnclosingKeycap,
  Flag,
  SingletonBase,
  TagModifier,
  ZwjJoinedEmoji,
  ZwjLink,
  emoji_headed,
  flatten,
  flatten_link,
  flatten_modification,
  flatten_stem,
  links_only,
  structure,
  tags_of,
}
use Rattle.scanner.specs.RunKinds.{run_of}
use Rattle.scanner.specs.Tags.{tag_modifications, tags_complete_of}
use Rattle.scanner.specs.declared.char_runs.RunKind.TheVariants as Run
use Rattle.scanner.specs.Spans.{end_count, first_of, scan, scan_at, scan_from, start_count}
use Rattle.scanner.specs.declared.ScanItem.{ScanItem}
use Rattle.scanner.specs.declared.ScanKind.{ScanKind}
use Rattle.scanner.specs.declared.ScanKind.TheVariants.{EmojiHeaded, LinksOnly, Passthrough, UnsanctionedPresentationSelectors}

-- ---- items

-- The kinds of item that consist of links or units.
abbrev pub Structured : ScanKind → Type 0
Structured k = (k ≡ LinksOnly) ⊎ (k ≡ EmojiHeaded)

-- The characters of the items, one item after the other, are the text.
unfoldable pub ItemsTile : Type 0
ItemsTile = (t : List ℕ) → join (items t) ≡ t

-- No item is empty.
unfoldable pub NoItemIsEmpty : Type 0
NoItemIsEmpty = (t : List ℕ) (x : Item) → Memᴰ x (items t) → x.chars ≢ []

-- The items are a reading of the text by document 01's grammar, each of them the longest.
unfoldable pub ItemsAreAReading : Type 0
ItemsAreAReading = (t : List ℕ) → Reads t (items t)

-- A text has no other reading.
unfoldable pub OnlyReading : Type 0
OnlyReading = (t : List ℕ) (xs : List Item) → Reads t xs → xs ≡ items t

-- A scan of the text after an item's end gives the items after it.
unfoldable pub ItemsAfresh : Type 0
ItemsAfresh = (t : List ℕ) (xs ys : List Item) → items t ≡ xs ++ ys → items (drop (length (join xs)) t) ≡ ys

-- An item is determined by its own characters: scanned alone, they are this one item.
unfoldable pub ItemAlone : Type 0
ItemAlone = (t : List ℕ) (x : Item) → Memᴰ x (items t) → items x.chars ≡ x ∷ []

-- Adding or removing selectors after the first character of a links-only or emoji-headed item leaves it one item of the same kind.
unfoldable pub SelectorsKeepItems : Type 0
SelectorsKeepItems =
    (k : ScanKind) (c : ℕ) (s t : List ℕ) → Structured k → strip s ≡ strip t → Derives k (c ∷ s) → Derives k (c ∷ t)

-- ---- items by the runs at the front of a text

-- The grammar derives each of the runs at the front of a text.
unfoldable pub RunsAreDerived : Type 0
RunsAreDerived =
    ((t : List ℕ) → S (selectors_at t))
    × ((c : ℕ) (t : List ℕ) → is_tag c ≡ true → Tags (tags_at (c ∷ t)))
    × ((c : ℕ) (t : List ℕ) → is_tag c ≡ true → TagGroups (tag_groups_at (c ∷ t)))
    × ((c : ℕ) (t : List ℕ) → is_modification c ≡ true → Modification (modification_at (c ∷ t)))
    × ((t : List ℕ) → Modifications (modifications_at t))
    × ((c : ℕ) (t : List ℕ) → is_emoji c ≡ true → Stem (stem_at (c ∷ t)))
    × ((c : ℕ) (t : List ℕ) → is_emoji c ≡ true → EmojiUnit (unit_at (c ∷ t)))
    × ((t : List ℕ) → Link (link_at (0x200D ∷ t)))
    × ((t : List ℕ) → Links (links_at t))

-- `at` computes the longest part of this sort at the front of a text: the result is a beginning of the text, and no beginning of
-- the text that is such a part is longer.
pub record LongestAt (Part : List ℕ → Type 0) (at : List ℕ → List ℕ) : Type 0 where
  pub front : (t : List ℕ) → take (length (at t)) t ≡ at t
  pub longest : (s r : List ℕ) → Part s → length s ≤ length (at (s ++ r))

-- "Each choice takes the longest run": S, tags, groups of tags, a modification, all modifications, a stem, a unit, a link and all
-- links are each the longest at the front.
unfoldable pub RunsAreLongest : Type 0
RunsAreLongest =
    LongestAt S selectors_at
    × LongestAt Tags tags_at
    × LongestAt TagGroups tag_groups_at
    × LongestAt Modification modification_at
    × LongestAt Modifications modifications_at
    × LongestAt Stem stem_at
    × LongestAt EmojiUnit unit_at
    × LongestAt Link link_at
    × LongestAt Links links_at

-- The first item of a text, by its first character. At a selector, at 200D and at a plain character it is the run there. At an
-- emoji it is the unit there and the rest of the item after that unit.
unfoldable pub FirstItemByRuns : Type 0
FirstItemByRuns =
    (c : ℕ) (t : List ℕ) (x : Item) (xs : List Item) → items (c ∷ t) ≡ x ∷ xs
    → (is_selector c ≡ true → x.chars ≡ selectors_at (c ∷ t))
    × (eqb c 0x200D ≡ true → x.chars ≡ links_at (c ∷ t))
    × (is_emoji c ≡ true → x.chars ≡ unit_at (c ∷ t) ++ (split_from unit (after_unit (c ∷ t))).0)
    × (is_passthrough c ≡ true → x.chars ≡ passthrough_at (c ∷ t))

-- The rest of an item after a unit. Without a link it is empty. If exactly one link stands there, before an emoji, it is this link,
-- the next unit and the rest after that. Otherwise it is all links there.
unfoldable pub RestByRuns : Type 0
RestByRuns =
    ((c : ℕ) (t : List ℕ) → in_modifications c ≡ false → eqb c 0x200D ≡ false → (split_from unit (c ∷ t)).0 ≡ [])
    × ((t : List ℕ) (c : ℕ) (u : List ℕ) → after_selectors t ≡ c ∷ u → is_emoji c ≡ true
    → (split_from unit (0x200D ∷ t)).0 ≡ link_at (0x200D ∷ t) ++ (unit_at (c ∷ u) ++ (split_from unit (after_unit (c ∷ u))).0))
    × ((t : List ℕ) → after_selectors t ≡ [] → (split_from unit (0x200D ∷ t)).0 ≡ links_at (0x200D ∷ t))
    × ((t : List ℕ) (c : ℕ) (u : List ℕ) → after_selectors t ≡ c ∷ u → is_emoji c ≡ false → (split_from unit (0x200D ∷ t)).0
    ≡ links_at (0x200D ∷ t))

-- ---- spans

-- The spans go from the byte a to the byte b: each starts where the one before it ends, and none is empty.
abbrev pub Tiles : ℕ → List ScanItem → ℕ → Type 0
Tiles a [] b = a ≡ b
Tiles a (x ∷ xs) b = (x.start ≡ a) × (x.start < x.end) × Tiles x.end xs b

-- "Spans tile the text with no empty item": they go from 0 to the first offset at which no well-formed character begins.
unfoldable pub SpansTile : Type 0
SpansTile = (text : List ℕ) → Tiles 0 (scan text) (valid_up_to_of text)

-- The spans of a well-formed text cover all of it.
unfoldable pub SpansCover : Type 0
SpansCover = (text : List ℕ) → WellFormed text → Tiles 0 (scan text) (length text)

-- The spans of a text from any offset on go to the first offset at which no well-formed character begins.
unfoldable pub SpansTileFrom : Type 0
SpansTileFrom = (text : List ℕ) (at : ℕ) (before : TextCount) → Tiles at (scan_from text at before) (at + valid_up_to_of (drop at text))

-- Each span stands for an item: its bytes are the encoding of the item's characters, and it has the item's kind and tag report.
pub data SpansOfItems (text : List ℕ) : List ScanItem → List Item → Type 0 where
  no_spans : SpansOfItems text [] []
  span-and :
      {s : ScanItem} {ss : List ScanItem} {x : Item} {xs : List Item}
      → take (s.end - s.start) (drop s.start text) ≡ encode_all x.chars → s.kind ≡ x.kind → s.tags_complete
      ≡ tags_complete_of x.kind x.chars → SpansOfItems text ss xs
      → SpansOfItems text (s ∷ ss) (x ∷ xs)

-- The spans of a text stand for its items, one for each, in order.
unfoldable pub SpansAreItems : Type 0
SpansAreItems = (text : List ℕ) → SpansOfItems text (scan text) (items (chars text))

-- A scan of a text from an item's end, and on from its characters and units there, gives the items after that item.
unfoldable pub SpansAfresh : Type 0
SpansAfresh =
    (text : List ℕ) (before after : List ScanItem) (x : ScanItem)
    → scan text ≡ before ++ x ∷ after → scan_from text x.end (end_count x) ≡ after

-- ---- the cursor

-- A cursor at offset 0 answers the first item.
unfoldable pub CursorAtStart : Type 0
CursorAtStart = (text : List ℕ) → scan_at text 0 no_count ≡ first_of (scan text)

-- A cursor at an item's end that was handed the characters and units there answers the next item, or the end.
unfoldable pub CursorAtItemEnd : Type 0
CursorAtItemEnd =
    (text : List ℕ) (before after : List ScanItem) (x : ScanItem)
    → scan text ≡ before ++ x ∷ after → scan_at text x.end (end_count x) ≡ first_of after

-- A cursor past the end of the text answers the end.
unfoldable pub CursorPastEnd : Type 0
CursorPastEnd = (text : List ℕ) (at : ℕ) (before : TextCount) → length text ≤ at → scan_at text at before ≡ None

-- A cursor at an offset inside a character answers the end.
unfoldable pub CursorInsideCharacter : Type 0
CursorInsideCharacter =
    (text : List ℕ) (at v w k : ℕ) (before : TextCount) → read_char (drop at text) ≡ Read.Char v w → 0 < k → k < w
    → scan_at text (at + k) before ≡ None

-- A cursor answers the end exactly at an offset where no well-formed character begins.
unfoldable pub CursorEnds : Type 0
CursorEnds = (text : List ℕ) (at : ℕ) (before : TextCount) → (scan_at text at before ≡ None) ↔ (chars (drop at text) ≡ [])

-- ---- positions (document 02, v). A text in memory has fewer than 2^63 bytes

-- An item's start and end in characters and UTF-16 units are the positions of its start and end in bytes, and these are character
-- boundaries.
pub record Positioned (text : List ℕ) (x : ScanItem) : Type 0 where
  pub start_is : start_count x ≡ position_at text x.start
  pub end_is : end_count x ≡ position_at text x.end
  pub starts : Boundary text x.start
  pub ends : Boundary text x.end

-- "Every item .. now carries start and end three times: bytes, characters, and UTF-16 units", in every text.
unfoldable pub PositionsAreCounts : Type 0
PositionsAreCounts = (text : List ℕ) → length text < 2 ^ 63 → (x : ScanItem) → Memᴰ x (scan text) → Positioned text x

-- The same for a scan from a character boundary on, and on from the position there.
unfoldable pub PositionsFrom : Type 0
PositionsFrom =
    (text : List ℕ) (at : ℕ) (before : TextCount) → AtPosition text at before
    → (x : ScanItem) → Memᴰ x (scan_from text at before) → Positioned text x

module _ (of : TextCount → ℕ) where
  -- Spans that go from a to b in characters, or in units: each starts where the one before ended, and none is empty.
  abbrev pub TilesBy : ℕ → List ScanItem → ℕ → Type 0
  TilesBy a [] b = a ≡ b
  TilesBy a (x ∷ xs) b = (of (start_count x) ≡ a) × (of (start_count x) < of (end_count x)) × TilesBy (of (end_count x)) xs b

-- "The items tile the text in all three": from its start to its end, which is the first place where no well-formed character begins.
pub record TilesThrice (text : List ℕ) : Type 0 where
  pub in_bytes : Tiles 0 (scan text) (valid_up_to_of text)
  pub in_chars : TilesBy (λ (c : TextCount). c.chars) 0 (scan text) (length (chars text))
  pub in_units : TilesBy (λ (c : TextCount). c.units) 0 (scan text) (units (chars text))

unfoldable pub TilesInAll : Type 0
TilesInAll = (text : List ℕ) → length text < 2 ^ 63 → TilesThrice text

-- ---- the structure of links-only and emoji-headed items; specs/Walks.antt of item_parts states that the code's functions return it

-- The grammar derives the stem and each modification of a unit.
pub record UnitDerives (u : EmojiLike) : Type 0 where
  pub stem_derives : Stem (flatten_stem u.stem)
  pub modifications_derive : (m : EmojiModification) → Memᴰ m u.modifiers → Modification (flatten_modification m)

-- The grammar derives each link and each unit of a structure.
unfoldable pub StructureDerives : EmojiSequence → Type 0
StructureDerives (links_only ls) = (l : ZwjLink) → Memᴰ l ls → Link (flatten_link l)
StructureDerives (emoji_headed u js ls) =
    UnitDerives u
    × ((j : ZwjJoinedEmoji) → Memᴰ j js → Link (flatten_link j.link) × UnitDerives j.emoji)
    × ((l : ZwjLink) → Memᴰ l ls → Link (flatten_link l))

-- The structure of a links-only or emoji-headed item gives back the item's characters.
unfoldable pub StructureFlattens : Type 0
StructureFlattens = (t : List ℕ) (x : Item) → Memᴰ x (items t) → Structured x.kind → flatten (structure x.chars) ≡ x.chars

-- The grammar derives each part of the structure of such an item.
unfoldable pub StructureIsDerived : Type 0
StructureIsDerived = (t : List ℕ) (x : Item) → Memᴰ x (items t) → Structured x.kind → StructureDerives (structure x.chars)

-- `tag_modifications` of an item's characters lists the tags of each tag modification in the item's structure.
unfoldable pub TagsAreInStructure : Type 0
TagsAreInStructure = (t : List ℕ) (x : Item) → Memᴰ x (items t) → Structured x.kind → tag_modifications x.chars
    ≡ tags_of (structure x.chars)

-- Document 02, (i): "E007F last, nowhere earlier, and at least one tag before it".
pub record TagSequence (tags : List ℕ) : Type 0 where
  pub before : List ℕ
  pub last : tags ≡ before ++ (0xE007F ∷ [])
  pub some_before : before ≢ []
  pub nowhere_earlier : Memᴰ 0xE007F before → ⊥

-- "each item carries whether its tags are complete, which they are when every tag modification in it .."; document 02, (i): "a tag
-- modification is complete when its tags, selectors skipped, have that shape".
unfoldable pub TagsCompleteMeans : Type 0
TagsCompleteMeans =
    (t : List ℕ) (x : Item) → Memᴰ x (items t) → x.kind ≡ EmojiHeaded
    → (tags_complete_of x.kind x.chars ≡ true)
    ↔ ((tags : List ℕ) → Memᴰ tags (tags_of (structure x.chars)) → TagSequence tags)

-- The runs that the code reads class by class (specs/RunKinds.antt) are the runs of specs/Runs.antt.
unfoldable pub RunsByClass : Type 0
RunsByClass =
    (t : List ℕ)
    → (run_of Run.Selectors t ≡ selectors_at t)
    × (run_of Run.Links t ≡ run in_links t)
    × (run_of Run.Modifications t ≡ run in_modifications t)
    × (run_of Run.Tags t ≡ tags_at t)
    × (run_of Run.Passthrough t ≡ passthrough_at t)

-- ---- examples

-- A short form for items in the examples.
abbrev pub item : ScanKind → List ℕ → Item
item k t = record { kind = k; chars = t }

-- A short form for the span of a text that is one item: its bytes, its kind, whether its tags are complete, its characters and its units.
abbrev pub only : ℕ → ScanKind → Bool → ℕ → ℕ → ScanItem
only e k b m n = record {
  start = 0;
  end = e;
  kind = k;
  tags_complete = b;
  char_start = 0;
  char_end = m;
  unit_start = 0;
  unit_end = n;
}

-- Texts that a scanner can get wrong. Document 01's worked texts are in formatter, specs/Worked.antt.
unfoldable pub ItemExamples : Type 0
ItemExamples =
    -- 61 FE0E 61 has two passthroughs and a selector run
    (items (0x61 ∷ 0xFE0E ∷ 0x61 ∷ [])
    ≡ item Passthrough (0x61 ∷ []) ∷ item UnsanctionedPresentationSelectors (0xFE0E ∷ []) ∷ item Passthrough (0x61 ∷ []) ∷ [])
    -- tags after a link are passthrough
    × (items (0x231A ∷ 0x200D ∷ 0xE0061 ∷ []) ≡ item EmojiHeaded (0x231A ∷ 0x200D ∷ []) ∷ item Passthrough (0xE0061 ∷ []) ∷ [])
    -- a leading modifier is a stem
    × (items (0x1F3FB ∷ 0x200D ∷ 0x231A ∷ []) ≡ item EmojiHeaded (0x1F3FB ∷ 0x200D ∷ 0x231A ∷ []) ∷ [])
    -- links alone, with selectors
    × (items (0x200D ∷ 0xFE0F ∷ 0x200D ∷ 0x231A ∷ [])
    ≡ item LinksOnly (0x200D ∷ 0xFE0F ∷ 0x200D ∷ []) ∷ item EmojiHeaded (0x231A ∷ []) ∷ [])
    -- three regional indicators are a flag and a unit
    × (items (0x1F1E6 ∷ 0x1F1E7 ∷ 0x1F1E8 ∷ [])
    ≡ item EmojiHeaded (0x1F1E6 ∷ 0x1F1E7 ∷ []) ∷ item EmojiHeaded (0x1F1E8 ∷ []) ∷ [])

-- Examples of the tag report (document 02, (i)).
unfoldable pub TagExamples : Type 0
TagExamples =
    -- a flag, or another emoji, and E007F alone
    (scan (encode_all (0x1F1E6 ∷ 0x1F1E7 ∷ 0xE007F ∷ [])) ≡ only 12 EmojiHeaded false 3 6 ∷ [])
    × (scan (encode_all (0x1F3F4 ∷ 0xE007F ∷ [])) ≡ only 8 EmojiHeaded false 2 4 ∷ [])
    -- one tag and then E007F; E007F twice; E007F earlier
    × (scan (encode_all (0x1F3F4 ∷ 0xE0061 ∷ 0xE007F ∷ [])) ≡ only 12 EmojiHeaded true 3 6 ∷ [])
    × (scan (encode_all (0x1F3F4 ∷ 0xE007F ∷ 0xE007F ∷ [])) ≡ only 12 EmojiHeaded false 3 6 ∷ [])
    × (scan (encode_all (0x1F3F4 ∷ 0xE0061 ∷ 0xE007F ∷ 0xE007F ∷ [])) ≡ only 16 EmojiHeaded false 4 8 ∷ [])
    × (scan (encode_all (0x1F3F4 ∷ 0xE007F ∷ 0xE0061 ∷ [])) ≡ only 12 EmojiHeaded false 3 6 ∷ [])
    × (scan (encode_all (0x1F3F4 ∷ 0xE0061 ∷ 0xE007F ∷ 0xE0061 ∷ 0xE007F ∷ [])) ≡ only 20 EmojiHeaded false 5 10 ∷ [])
    -- selectors between the tags and after them are skipped
    × (scan (encode_all (0x1F3F4 ∷ 0xE0061 ∷ 0xFE0F ∷ 0xE007F ∷ [])) ≡ only 15 EmojiHeaded true 4 7 ∷ [])
    × (scan (encode_all (0x1F3F4 ∷ 0xE0061 ∷ 0xFE0F ∷ 0xE007F ∷ 0xFE0F ∷ [])) ≡ only 18 EmojiHeaded true 5 8 ∷ [])
    -- 20E3 ends a tag modification: two of them, neither complete; two, both complete
    × (scan (encode_all (0x1F3F4 ∷ 0xE0061 ∷ 0x20E3 ∷ 0xE007F ∷ [])) ≡ only 15 EmojiHeaded false 4 7 ∷ [])
    × (scan (encode_all (0x1F3F4 ∷ 0xE0061 ∷ 0xE007F ∷ 0x20E3 ∷ 0xE0061 ∷ 0xE007F ∷ [])) ≡ only 23 EmojiHeaded true 6 11 ∷ [])
    -- two units: the tags of the first are complete, those of the second are not
    × (scan (encode_all (0x1F3F4 ∷ 0xE0061 ∷ 0xE007F ∷ 0x200D ∷ 0x1F3F4 ∷ 0xE007F ∷ [])) ≡ only 23 EmojiHeaded false 6 11 ∷ [])
    -- no tag; tags that are no modification
    × (scan (encode_all (0x1F3F4 ∷ [])) ≡ only 4 EmojiHeaded true 1 2 ∷ [])
    × (scan (encode_all (0xE007F ∷ [])) ≡ only 4 Passthrough true 1 2 ∷ [])
    × (scan (encode_all (0x61 ∷ 0xE0067 ∷ [])) ≡ only 5 Passthrough true 2 3 ∷ [])

-- The structure of 1F1E6 FE0F 1F1E7 E0067 FE0E E007F 200D 231A 20E3 FE0F 200D 200D: a flag with one tag modification of two runs,
-- a further unit with a keycap, and two links left over.
unfoldable pub StructureExample : Type 0
StructureExample =
    structure (0x1F1E6 ∷ 0xFE0F ∷ 0x1F1E7 ∷ 0xE0067 ∷ 0xFE0E ∷ 0xE007F ∷ 0x200D ∷ 0x231A ∷ 0x20E3 ∷ 0xFE0F ∷ 0x200D ∷ 0x200D ∷ [])
    ≡ emoji_headed
    (record {
      stem = Flag 0x1F1E6 (0xFE0F ∷ []) 0x1F1E7 [];
      modifiers = TagModifier (record { tags = 0xE0067 ∷ []; after = 0xFE0E ∷ [] } ∷ record { tags = 0xE007F ∷ []; after = [] } ∷ []) ∷ [];
    })
    (record {
      link = record { after = [] };
      emoji = record { stem = SingletonBase 0x231A []; modifiers = EnclosingKeycap (0xFE0F ∷ []) ∷ [] };
    } ∷ [])
    (record { after = [] } ∷ record { after = [] } ∷ [])
