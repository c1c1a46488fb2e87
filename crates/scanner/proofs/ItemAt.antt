-- The item at an offset of a text: its bytes, its end, and the items after it.
use mathlib.Core.Path.{◌≡◌, ap, sym, ◌∙◌, subst}
use mathlib.Core.List.{List, ◌∷◌, ◌++◌}
use Prim.Native.Nat.{ℕ, ◌+◌, ◌≤◌, ◌<◌}
use native.Mathlib.Omega.{arith}
use lib.ListN.{drop, length, length-drop}
use Rattle.utf8.specs.Rfc3629.{chars}
use Rattle.utf8.proofs.Texts.{valid_up_to_le}
use Rattle.scanner.specs.Items.{Item, items, join}
use Rattle.scanner.specs.Spans.{size, width}
use Rattle.scanner.proofs.Bytes.{chars-from, size-chars, width_some}
use Rattle.scanner.proofs.Rescan.{size_append}
use Rattle.scanner.proofs.Tiling.{Filled, and_item, filled, items-tail, tiling}

pub record ItemAt (text : List ℕ) (at : ℕ) (x : Item) (xs : List Item) : Type 0 where
  pub some : at < at + size width x.chars
  pub room : at + size width x.chars ≤ length text
  pub bytes : chars (drop at text) ≡ x.chars ++ join xs
  pub text_after_lem : chars (drop (at + size width x.chars) text) ≡ join xs
  pub after : items (chars (drop (at + size width x.chars) text)) ≡ xs

filled-some : {x : Item} {xs : List Item} → Filled (x ∷ xs) → 1 ≤ size width x.chars
filled-some (and_item c s l h) = let k = width_some c in omega (arith, ap (size width) l)

pub item_at_lem : (text : List ℕ) (at : ℕ) {x : Item} {xs : List Item} → items (chars (drop at text)) ≡ x ∷ xs → ItemAt text at x xs
item_at_lem text at {x} {xs} e =
    let t = chars (drop at text) in
    let c : t ≡ x.chars ++ join xs = sym (tiling t) ∙ ap join e in
    let s = filled-some (subst (λ (l : List Item). Filled l) e (filled t)) in
    let b = chars-from text at x.chars (join xs) c in
    record {
      some = omega arith;
      room = omega (
        arith,
        size-chars (drop at text),
        valid_up_to_le (drop at text),
        length-drop at text,
        ap (size width) c,
        size_append width
            x.chars (join xs),
      );
      bytes = c;
      text_after_lem = b;
      after = ap items b ∙ items-tail t x xs e;
    }
