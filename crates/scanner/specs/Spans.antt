-- The items of a text by their bytes: `scan` lists them, and `scan_at` is the answer of a cursor at a byte offset (document 01,
-- "Item").
use Rattle.std.specs.Prelude.{Bool, cond, List, [], ◌∷◌, ℕ, ◌+◌, length, drop, Some, None, Option}
use Rattle.utf8.specs.Rfc3629.{chars, encode}
use Rattle.positions.specs.Positions.{capped_plus, no_count, text_count}
use Rattle.positions.specs.declared.TextCount.{TextCount}
use Rattle.scanner.specs.Items.{Item, State, split_from, items}
use Rattle.scanner.specs.Tags.{tags_complete_of}
use Rattle.scanner.specs.declared.ScanItem.{ScanItem}
use Rattle.scanner.specs.declared.ScanKind.{ScanKind}
use Rattle.scanner.specs.declared.ScanKind.TheVariants.{EmojiHeaded, LinksOnly, Passthrough, UnsanctionedPresentationSelectors}

module _ (weight : ℕ → ℕ) where
  -- The sum of the weights of characters; with `width` it is their length in bytes.
  abbrev pub size : List ℕ → ℕ
  size [] = 0
  size (c ∷ t) = weight c + size t

-- The number of bytes of a character in UTF-8.
unfoldable pub width : ℕ → ℕ
width c = length (encode c)

-- The number of each kind of item.
unfoldable pub kind_number : ScanKind → ℕ
kind_number Passthrough = 0
kind_number UnsanctionedPresentationSelectors = 1
kind_number LinksOnly = 2
kind_number EmojiHeaded = 3

-- Characters and UTF-16 units up to an item's end, by those before the item, as the code holds them. For the items of a text that is in
-- memory they are the true numbers: specs/Theorems.antt, PositionsAreCounts.
abbrev pub count_after : TextCount → Item → TextCount
count_after before x = capped_plus before (text_count x.chars)

-- "Every item .. carries start and end three times: bytes, characters, and UTF-16 units": the item as a span from a byte offset on. The
-- count says how many characters and units are before the offset.
abbrev pub span_of : ℕ → TextCount → Item → ScanItem
span_of at before x = record {
  start = at;
  end = at + size width x.chars;
  kind = x.kind;
  tags_complete = tags_complete_of x.kind x.chars;
  char_start = before.chars;
  char_end = (count_after before x).chars;
  unit_start = before.units;
  unit_end = (count_after before x).units;
}

-- "Spans tile the text": the items as spans, one after the other, the first from the byte offset on.
unfoldable pub spans : ℕ → TextCount → List Item → List ScanItem
spans at before [] = []
spans at before (x ∷ xs) = span_of at before x ∷ spans (at + size width x.chars) (count_after before x) xs

-- The items of a text from a byte offset on. They end at the first offset, from there on, where no well-formed character begins. "The
-- scanner may remember the other two beside its byte offset; in one not made as 01 has it they are the program's choice": their
-- characters and units are counted on from those that are handed in.
unfoldable pub scan_from : List ℕ → ℕ → TextCount → List ScanItem
scan_from text at before = spans at before (items (chars (drop at text)))

-- The items of a text.
unfoldable pub scan : List ℕ → List ScanItem
scan text = scan_from text 0 no_count

-- The start and the end of an item in characters and UTF-16 units.
abbrev pub start_count : ScanItem → TextCount
start_count x = record { chars = x.char_start; units = x.unit_start }

abbrev pub end_count : ScanItem → TextCount
end_count x = record { chars = x.char_end; units = x.unit_end }

-- The first item of a list, or the end.
unfoldable pub first_of : List ScanItem → Option ScanItem
first_of [] = None
first_of (x ∷ xs) = Some x

-- The answer of a cursor at a byte offset: the item that begins there, or the end.
unfoldable pub scan_at : List ℕ → ℕ → TextCount → Option ScanItem
scan_at text at before = first_of (scan_from text at before)

-- The remaining characters of an item, read from the byte offset on. The item's character before the offset led to state p.
abbrev pub rest_at : List ℕ → ℕ → State → List ℕ
rest_at text at p = (split_from p (chars (drop at text))).0

-- An item and the offset of its start.
pub record Found : Type 0 where
  pub start : ℕ
  pub item : Item

module _ (test : Item → Bool) (weight : ℕ → ℕ) where
  -- The items of a list that pass a test, in text order, each with its start; n is the start of the first item of the list.
  unfoldable pub found : ℕ → List Item → List Found
  found n [] = []
  found n (x ∷ xs) =
      let l = found (n + size weight x.chars) xs in
      cond (test x) (record { start = n; item = x } ∷ l) l
