-- The proof of each statement of specs/Scanner.antt.
use mathlib.Core.Path.{ap, ◌∙◌}
use Prim.Native.Nat.{ℕ}
use native.Mathlib.Nat.{sub-zero}
use native.Mathlib.Omega.{arith}
use lib.ListN.{length, take}
use lib.Seq.{take-length}
use Rattle.scanner.specs.Spans.{scan}
use Rattle.scanner.specs.Theorems.{SpansCover}
use Rattle.scanner.proofs.Claims.{spans_cover}
use Rattle.text_scanner.specs.Scanner.{NextGivesItems, ScanGivesItems, RawIsItemBytes, RawsJoin}
use Rattle.text_scanner.proofs.GivenItems.{gives-items, join_raw_lem, scan-gives, raw_bytes}

pub next_gives_items : NextGivesItems
unfolding NextGivesItems
next_gives_items = gives-items

pub scan_gives_items : ScanGivesItems
unfolding ScanGivesItems
scan_gives_items = scan-gives

pub raw_is_item_bytes : RawIsItemBytes
unfolding RawIsItemBytes
raw_is_item_bytes = raw_bytes

pub raws_join : RawsJoin
unfolding RawsJoin SpansCover
raws_join text w =
    join_raw_lem text 0 (scan text) (length text) (spans_cover text w) (omega arith)
    ∙ ap (λ (n : ℕ). take n text) (sub-zero (length text)) ∙ take-length text
