-- `text_scanner::nth_item` meets its contract: the scanner that `scan` makes has the items of the text left.
use Rattle.std.specs.Prelude.{Option, Result, ⊤}
use Rattle.std.proofs.lemmas.Iterator.Consumers.{YieldsList-from_first, nth_from_yields_List}
use mathlib.Core.Path.{ap, ap₂, ◌∙◌}
use Rattle.base.specs.declared.Refusal.{Refusal}
use Rattle.scanner.specs.declared.ScanItem.{ScanItem}
use Rattle.text_scanner.specs.declared.NthItem.{NthItem}
use Rattle.text_scanner.specs.declared.Scanned.{Scanned}
use Rattle.text_scanner.specs.Scanner.{items_left}
use Rattle.text_scanner.proofs.Advancing.{nth_is}
use Rattle.text_scanner.proofs.GivenItems.{scan-gives}
use Rattle.text_scanner.proofs.nth_item.Goals as goal

abbrev both : Result ⊤ Refusal → Option ScanItem → NthItem
both v s = record { verdict = v; step = s }

pub returns : goal.returns
returns c =
    let x = c.args in
    let made = c.scan-verdict.ensures.0 in
    let left = ap (λ (d : Scanned). items_left d.scanner) made ∙ scan-gives x.text.now in
    ap₂ both (ap (λ (d : Scanned). d.verdict) made)
    (nth_is c.nth.result _ x.n (nth_from_yields_List c.nth.result c.nth.new.self x.n c.nth.ensures.ran
    (YieldsList-from_first (λ (y : ScanItem). y) items_left _ left)))
