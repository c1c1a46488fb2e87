-- The proof of the statement of specs/Walks.antt.
use Rattle.std.specs.Prelude.{Some}
use mathlib.Core.Path.{◌≡◌, refl, sym, subst}
use mathlib.Core.Bool.{true≢false}
use mathlib.Core.List.{List, [], ◌∷◌, Memᴰ}
use Prim.Native.Nat.{ℕ, ◌-◌}
use lib.ListN.{drop, take}
use Rattle.utf8.specs.Rfc3629.{chars, encode_all}
use Rattle.scanner.specs.Items.{Item, items}
use Rattle.scanner.specs.Structure.{structure}
use Rattle.scanner.specs.Spans.{first_of, scan_at, scan_from, span_of, spans}
use Rattle.scanner.specs.Theorems.{SpansOfItems, Structured}
use Rattle.scanner.specs.declared.ScanItem.{ScanItem}
use Rattle.scanner.proofs.Spans.{scan-spans_of_items, spans-first}
use Rattle.scanner.proofs.Structure.{item-structure}
use Rattle.item_parts.specs.Walks.{SequenceWalk, StructureIsWalked}
use Rattle.item_parts.proofs.ItemWalks.{structure_walk}

pub structure_is_walked : StructureIsWalked
unfolding StructureIsWalked scan_at scan_from spans first_of
structure_is_walked text at before x e k = go (items (chars (drop at text))) refl (scan-spans_of_items text at before) e
  where
    Walked : ScanItem → Type 0
    Walked y = (t : List ℕ) × (take (y.end - y.start) (drop y.start text) ≡ encode_all t)
        × SequenceWalk text y.start y.end (structure t)

    go : (xs : List Item) → items (chars (drop at text)) ≡ xs → SpansOfItems text (spans at before xs) xs
        → first_of (spans at before xs) ≡ Some x
        → Walked x
    go [] p s q = absurd (true≢false (cc))
    go (y ∷ ys) p s q =
        let f : span_of at before y ≡ x = cc in
        let m = subst (λ (z : ScanItem). Structured z.kind) (sym f) k in
        subst Walked f (
          y.chars,
          spans-first s,
          structure_walk text at y ys p m
              (item-structure (chars (drop at text)) y (subst (Memᴰ y) (sym p) (Memᴰ.head refl)) m).are,
        )
