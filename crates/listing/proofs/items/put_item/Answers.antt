-- `listing::items::put_item` meets its contract.
use Rattle.std.specs.Int.{from_bool}
use mathlib.Core.Bool.{Bool, true, false, cond}
use mathlib.Core.Path.{◌≡◌, refl, ap₂, ◌∙◌}
use mathlib.Core.List.{[], ◌∷◌}
use Prim.Native.Nat.{ℕ}
use Rattle.base.proofs.TableBytes.{row_put}
use Rattle.formatter.specs.List.{item_numbers}
use Rattle.formatter.proofs.RowBytes.{length_item}
use Rattle.listing.proofs.items.put_item.Goals as goal

-- A test as a number.
from_bool_is : (b : Bool) → from_bool b ≡ cond b 1 0
from_bool_is false = refl
from_bool_is true = refl

pub returns : goal.returns
unfolding item_numbers
returns c =
    let x = c.args in
    let i = x.item in
    let w = c.write_numbers in
    row_put x.table.now w.new.out x.start
    (ap₂ (λ (k f : ℕ). i.start ∷ i.end ∷ k ∷ f ∷ i.char_start ∷ i.char_end ∷ i.unit_start ∷ i.unit_end ∷ []) c.kind_number.ensures
    (c.from.ensures ∙ from_bool_is i.tags_complete)) (length_item i) c.requires w.ensures.1
