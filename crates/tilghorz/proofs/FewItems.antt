-- A text has at most as many items, and at most as many findings, as it has bytes. A finding wants at most as many decisions as it has
-- bytes.
use Rattle.std.specs.Prelude.{Some}
use mathlib.Core.Path.{◌≡◌, ap, sym}
use mathlib.Core.Logic.{◌⊎◌, inl, inr}
use mathlib.Core.Bool.{Bool, true, false, cond}
use mathlib.Core.List.Memᴰ
use mathlib.Core.List.{List, [], ◌∷◌, ◌++◌, Memᴰ}
use Prim.Native.Nat.{ℕ, ◌+◌, ◌≤◌}
use native.Mathlib.Omega.{arith}
use lib.Dec.{eqb}
use lib.ListN.{length, length-append}
use Rattle.utf8.specs.Rfc3629.{chars}
use Rattle.utf8.proofs.Texts.{valid_up_to_le}
use Rattle.emoji.specs.declared.presentation.Presentation.{Presentation}
use Rattle.policy.specs.declared.Policy.{Policy}
use Rattle.positions.specs.Positions.{no_count}
use Rattle.scanner.specs.Items.{Item, items, join}
use Rattle.scanner.specs.Spans.{Found, found, scan, scan_from, size, width}
use Rattle.scanner.specs.declared.ScanKind.{ScanKind}
use Rattle.scanner.specs.declared.ScanKind.TheVariants.{EmojiHeaded, LinksOnly, Passthrough, UnsanctionedPresentationSelectors}
use Rattle.scanner.proofs.Bytes.{size-chars}
use Rattle.scanner.proofs.Rescan.{size_append}
use Rattle.scanner.proofs.Tiling.{Filled, and_item, filled, no_item, tiling}
use Rattle.listing.proofs.ItemRows.{spans-number}
use Rattle.analysis.specs.Analysis.{add_default, default_decisions, defaults_for, defaults_of_cells, outcome_at}
use Rattle.analysis.specs.Cells.{Cell, cells}
use Rattle.analysis.specs.Decisions.{wanted}
use Rattle.analysis.specs.Findings.{finding_at}
use Rattle.analysis.specs.declared.singleton.Slot.{Slot}
use Rattle.analysis.specs.declared.singleton.Slot.TheVariants.{Bare as bare, Decided as decided, Fixed as fixed}
use Rattle.analysis.proofs.Cells.{chars_of, strip-split}
use Rattle.analysis.proofs.Lengths.{bytes_some, length_parts}
use Rattle.formatter.proofs.Replacements.{default_number}

-- ---- items and findings

items-few : {xs : List Item} → Filled xs → length xs ≤ length (join xs)
items-few no_item = omega arith
items-few (and_item {x = x} {xs = xs} c s l h) = omega (arith, items-few h, length-append x.chars (join xs), ap length l)

-- A text has at most as many items as bytes.
pub few-items : (text : List ℕ) → length (items (chars text)) ≤ length text
few-items text =
    let t = chars text in
    omega (arith, items-few (filled t), ap length (tiling t), bytes_some t, size-chars text, valid_up_to_le text)

-- Scanning a text gives at most as many items as the text has bytes.
pub few-spans : (text : List ℕ) → length (scan text) ≤ length text
unfolding scan scan_from
few-spans text = omega (arith, spans-number 0 no_count (items (chars text)), few-items text)

-- At most all items pass a test.
pub few-found : (test : Item → Bool) (n : ℕ) (xs : List Item) → length (found test width n xs) ≤ length xs
unfolding found
few-found test n [] = omega arith
few-found test n (x ∷ xs) = go (test x) (few-found test (n + size width x.chars) xs)
  where
    F : List Found
    F = found test width (n + size width x.chars) xs

    go : (b : Bool) → length F ≤ length xs → length (cond b (record { start = n; item = x } ∷ F) F) ≤ length (x ∷ xs)
    go true h = omega arith
    go false h = omega arith

-- An item that is found at an offset is one of the items.
pub found-item : (test : Item → Bool) (o n : ℕ) (xs : List Item) (x : Item) → finding_at o (found test width n xs) ≡ Some x → Memᴰ x xs
unfolding found finding_at
found-item test o n [] x e = let z : ◌≡◌ {A = ℕ} 0 1 = cc in absurd (omega arith)
found-item test o n (y ∷ ys) x e = go (test y) (found-item test o (n + size width y.chars) ys x) e
  where
    F : List Found
    F = found test width (n + size width y.chars) ys

    there : (b : Bool) → (finding_at o F ≡ Some x → Memᴰ x ys) → cond b (Some y) (finding_at o F) ≡ Some x → Memᴰ x (y ∷ ys)
    there true h e = let z : y ≡ x = cc in Memᴰ.head (sym z)
    there false h e = Memᴰ.tail (h e)

    go : (t : Bool) → (finding_at o F ≡ Some x → Memᴰ x ys) → finding_at o (cond t (record { start = n; item = y } ∷ F) F) ≡ Some x
        → Memᴰ x (y ∷ ys)
    go true h e = there (eqb n o) h e
    go false h e = Memᴰ.tail (h e)

-- An item is at most as long as all items together.
pub within_all : (x : Item) (xs : List Item) → Memᴰ x xs → size width x.chars ≤ size width (join xs)
within_all x [] h = absurd (Memᴰ.not-nil h)
within_all x (y ∷ ys) h = go (Memᴰ.cases_cons h) (within_all x ys)
  where
    go : (x ≡ y) ⊎ Memᴰ x ys → (Memᴰ x ys → size width x.chars ≤ size width (join ys))
        → size width x.chars ≤ size width (y.chars ++ join ys)
    go (inl e) ih = omega (arith, ap (λ (x : Item). size width x.chars) e, size_append width y.chars (join ys))
    go (inr h) ih = omega (arith, ih h, size_append width y.chars (join ys))

-- ---- decisions

module _ (p : Policy) where
  -- The rules count at most one decision for each cell.
  few_defaults : (xs : List Cell) → length (defaults_of_cells p xs) ≤ length (chars_of xs)
  unfolding defaults_of_cells
  few_defaults [] = omega arith
  few_defaults (x ∷ xs) = go (outcome_at p x xs).slot (few_defaults xs)
    where
      D : List Presentation
      D = defaults_of_cells p xs

      go : (o : Slot) → length D ≤ length (chars_of xs) → length (add_default o D) ≤ length (chars_of (x ∷ xs))
      go bare h = omega arith
      go (fixed q) h = omega arith
      go (decided d) h = omega arith

  few_of : (k : ScanKind) (t : List ℕ) → length (defaults_for p k t) ≤ length t
  unfolding defaults_for
  few_of Passthrough t = omega arith
  few_of UnsanctionedPresentationSelectors t = omega arith
  few_of LinksOnly t = omega (arith, few_defaults (cells t), ap length (strip-split t), length_parts t)
  few_of EmojiHeaded t = omega (arith, few_defaults (cells t), ap length (strip-split t), length_parts t)

  -- A finding wants at most as many decisions as it has bytes.
  pub few-wanted : (x : Item) → wanted p x ≤ size width x.chars
  unfolding default_decisions
  few-wanted x = omega (arith, default_number p x, few_of x.kind x.chars, bytes_some x.chars)
