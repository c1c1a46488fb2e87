-- The scanner that borrows a text and remembers one byte offset (document 01, "Item"), with the characters and UTF-16 units before it
-- (document 02, v): how it is made, which item it answers, what it remembers after an answer, and the bytes of an item. The main
-- statement is NextGivesItems: successive calls answer the items of the text, and after them the end.
use Rattle.std.specs.Prelude.{◌≡◌, cond, ◌&&◌, List, [], ◌∷◌, ◌++◌, ℕ, zero, suc, ◌-◌, leb, drop, length, take}
use Rattle.std.specs.Prelude.{Ok, Err, Some, None, Result, Option, ⊤}
use Rattle.base.specs.declared.Refusal.{Refusal}
use Rattle.std.specs.Borrow.{Bor}
use Rattle.base.specs.Refusals.{checked}
use Rattle.utf8.specs.Rfc3629.{WellFormed, chars, encode_all}
use Rattle.scanner.specs.Items.{Item, items}
use Rattle.positions.specs.declared.TextCount.{TextCount}
use Rattle.scanner.specs.Spans.{first_of, scan, scan_at, scan_from}
use Rattle.scanner.specs.TextCheck.{text_refusal}
use Rattle.scanner.specs.declared.ScanItem.{ScanItem}
use Rattle.text_scanner.specs.declared.NthItem.{NthItem}
use Rattle.text_scanner.specs.declared.Scanned.{Scanned}
use Rattle.text_scanner.specs.declared.Scanner.{Scanner}

-- ---- making a scanner

-- The first offset of a text's scanner: 0, or the end of a text that is refused, so that the scanner answers the end at once.
abbrev pub start_of : Result ⊤ Refusal → List ℕ → ℕ
start_of (Ok x) text = 0
start_of (Err r) text = length text

-- "Making one tests the text (1, 3)": the verdict on a text.
abbrev pub verdict_of : List ℕ → Result ⊤ Refusal
verdict_of text = checked (text_refusal text)

-- "The scanner borrows the message text and remembers one byte offset"; "The scanner may remember the other two beside its byte offset":
-- the scanner of a text, and the verdict on the text.
abbrev pub scanned : Bor (List ℕ) → Scanned
scanned text = record {
  verdict = verdict_of text.now;
  scanner = record { text = text; offset = start_of (verdict_of text.now) text.now; chars = 0; units = 0 };
}

-- ---- the next item

-- What a scanner remembers: its byte offset, and the characters and UTF-16 units before it. "In one not made as 01 has it they are the
-- program's choice": these two can be any numbers, and the scanner counts on from them.
pub record Place : Type 0 where
  pub offset : ℕ
  pub chars : ℕ
  pub units : ℕ

abbrev pub place_of : Scanner → Place
place_of s = record { offset = s.offset; chars = s.chars; units = s.units }

-- A scanner of the same text at another place.
abbrev pub at_place : Scanner → Place → Scanner
at_place s p = record { text = s.text; offset = p.offset; chars = p.chars; units = p.units }

abbrev count_at : Place → TextCount
count_at p = record { chars = p.chars; units = p.units }

-- The answer of a scanner, and all its items from a place on.
abbrev pub answer_at : List ℕ → Place → Option ScanItem
answer_at text p = scan_at text p.offset (count_at p)

abbrev pub items_at : List ℕ → Place → List ScanItem
items_at text p = scan_from text p.offset (count_at p)

-- The items that a scanner has left.
abbrev pub items_left : Scanner → List ScanItem
items_left s = items_at s.text.now (place_of s)

-- The scanner's place after an answer: the item's end, or the same place if the answer is the end.
abbrev pub place_after_step : Option ScanItem → Place → Place
place_after_step (Some x) p = record { offset = x.end; chars = x.char_end; units = x.unit_end }
place_after_step None p = p

-- ---- the bytes of an item

-- The bytes of a text from start up to end; none if the text has no such part.
abbrev pub part : List ℕ → ℕ → ℕ → List ℕ
part text start end = cond (leb start end && leb end (length text)) (take (end - start) (drop start text)) []

-- The bytes of the item in an answer; none if the answer is the end.
abbrev pub raw_of : List ℕ → Option ScanItem → List ℕ
raw_of text (Some x) = part text x.start x.end
raw_of text None = []

-- ---- successive calls

-- The place after n calls; the first call is at the place p.
unfoldable pub place_after : List ℕ → Place → ℕ → Place
place_after text p zero = p
place_after text p (suc n) = place_after text (place_after_step (answer_at text p) p) n

-- The first place of a text's scanner.
abbrev pub start_place : Result ⊤ Refusal → List ℕ → Place
start_place v text = record { offset = start_of v text; chars = 0; units = 0 }

-- The items that the scanner of a text answers: the items of the text, or none if the text is refused.
abbrev pub items_of : Result ⊤ Refusal → List ℕ → List ScanItem
items_of (Ok x) text = scan text
items_of (Err r) text = []

-- The verdict on a text, and its n-th item, counted from 0, or the end.
abbrev pub nth_item : List ℕ → ℕ → NthItem
nth_item text n = record { verdict = verdict_of text; step = first_of (drop n (items_of (verdict_of text) text)) }

-- ---- statements, each proved in proofs/Claims.antt

-- Successive calls answer the items of the text from the scanner's place on.
-- "After the last item it says "end" on each further call."
unfoldable pub NextGivesItems : Type 0
NextGivesItems = (text : List ℕ) (p : Place) (n : ℕ) → answer_at text (place_after text p n) ≡ first_of (drop n (items_at text p))

-- A scanner that `scan` makes answers the items of its text, or none if the text is refused.
unfoldable pub ScanGivesItems : Type 0
ScanGivesItems = (text : List ℕ) → items_at text (start_place (verdict_of text) text) ≡ items_of (verdict_of text) text

-- The bytes of an item that a scanner answers are the encoding of the item's characters.
unfoldable pub RawIsItemBytes : Type 0
RawIsItemBytes =
    (text : List ℕ) (p : Place) (x : ScanItem) (i : Item) (is : List Item)
    → answer_at text p ≡ Some x → items (chars (drop p.offset text)) ≡ i ∷ is
    → part text x.start x.end ≡ encode_all i.chars

-- The bytes of items, one item after the other.
abbrev pub join_raw : List ℕ → List ScanItem → List ℕ
join_raw text [] = []
join_raw text (x ∷ xs) = part text x.start x.end ++ join_raw text xs

-- The bytes of the items of a well-formed text, one item after the other, are the text.
unfoldable pub RawsJoin : Type 0
RawsJoin = (text : List ℕ) → WellFormed text → join_raw text (scan text) ≡ text
