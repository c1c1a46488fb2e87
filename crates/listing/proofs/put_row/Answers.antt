-- `listing::put_row` meets its contract.
use Rattle.base.proofs.TableBytes.{row_put}
use Rattle.formatter.proofs.RowBytes.{length_row}
use Rattle.listing.proofs.put_row.Goals as goal

pub returns : goal.returns
returns c =
    let x = c.args in
    let w = c.write_numbers in
    row_put x.table.now w.new.out x.start c.row_numbers-numbers.ensures
    (length_row x.finding) c.requires w.ensures.1
