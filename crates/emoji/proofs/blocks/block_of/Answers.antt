-- `emoji::blocks::block_of` meets its contract: the numbers of the groups ascend, so the search for a block ends in its group. The
-- same holds in the list of the dense blocks.
use mathlib.Core.Path.{◌≡◌, refl, sym, ◌∙◌}
use mathlib.Core.List.{◌++◌}
use Prim.Native.Nat.{ℕ, ◌-◌, ◌≤◌, ◌<◌}
use native.Mathlib.Omega.{arith}
use Rattle.emoji.specs.Blocks.{block_in, moved}
use Rattle.emoji.specs.BlockData.{
  blocks,
  dense_blocks,
  low_blocks,
  middle_blocks,
  middle_first,
  pictograph_blocks,
  pictograph_first,
  pictograph_move,
  symbol_blocks,
  symbol_first,
  symbol_places,
}
use Rattle.emoji.proofs.BlockSearch.{all_before, ascend_from, in_arm, search_moved, search_past, search_stops, search_within}
use Rattle.emoji.proofs.blocks.block_of.Goals as goal
use Rattle.emoji.proofs.blocks.block_of.Goals.{then-is_before_pictographs+else-k-gt158, else-is_before_pictographs}
use Rattle.emoji.proofs.blocks.block_of.Goals.{then-is_before_pictographs-2, else-is_before_pictographs-2}

module _ (k : ℕ) where
  of_low : k < symbol_first → block_in k blocks ≡ block_in k low_blocks
  unfolding blocks symbol_blocks middle_blocks pictograph_blocks ascend_from
  of_low = search_stops symbol_first low_blocks (symbol_blocks ++ (middle_blocks ++ pictograph_blocks)) refl k

  of_middle : middle_first ≤ k → k < pictograph_first → block_in k blocks ≡ block_in k middle_blocks
  unfolding blocks low_blocks symbol_blocks pictograph_blocks all_before ascend_from
  of_middle = search_within middle_first pictograph_first (low_blocks ++ symbol_blocks) middle_blocks pictograph_blocks refl refl k

  of_symbol : symbol_first ≤ k → k < middle_first → block_in k blocks ≡ block_in (k - symbol_first) dense_blocks
  unfolding blocks dense_blocks low_blocks symbol_blocks middle_blocks pictograph_blocks all_before ascend_from moved
  of_symbol l h =
      search_within symbol_first middle_first low_blocks symbol_blocks (middle_blocks ++ pictograph_blocks) refl refl k l h
      ∙ sym (search_moved symbol_first symbol_first symbol_blocks (omega arith) refl k l)
      ∙ sym (search_stops symbol_places (moved symbol_first symbol_blocks) (moved pictograph_move pictograph_blocks) refl (k - symbol_first)
      (omega arith))

  of_pictograph : pictograph_first ≤ k → block_in k blocks ≡ block_in (k - pictograph_move) dense_blocks
  unfolding blocks dense_blocks low_blocks symbol_blocks middle_blocks pictograph_blocks all_before ascend_from moved
  of_pictograph h =
      search_past pictograph_first (low_blocks ++ (symbol_blocks ++ middle_blocks)) pictograph_blocks refl k h
      ∙ sym (search_moved pictograph_move pictograph_first pictograph_blocks (omega arith) refl k (omega arith))
      ∙ sym (search_past symbol_places (moved symbol_first symbol_blocks) (moved pictograph_move pictograph_blocks) refl
      (k - pictograph_move)
      (omega arith))

pub returns-then-k-lt128 : goal.returns-then-k-lt128
returns-then-k-lt128 c = c.low_block.ensures ∙ sym (of_low c.args.k c.if-k-lt128.true)

pub returns-then-k-gt158 : goal.returns-then-k-gt158
returns-then-k-gt158 c =
    let k = c.args.k in
    c.middle_block.ensures ∙ sym (of_middle k (omega arith) c.if-is_before_pictographs.true)

pub overflow_sub-i-else-is_before_pictographs-2 : goal.overflow_sub-i-else-is_before_pictographs-2
overflow_sub-i-else-is_before_pictographs-2 c = omega (arith, c.if-is_before_pictographs-2.false)

pub returns : goal.returns
returns c =
    let k = c.args.k in
    let not-middle : k < pictograph_first → k < middle_first =
    λ h. elim c.if-is_before_pictographs.branch [
      | then-is_before_pictographs+else-k-gt158 w ↦ omega arith
      | else-is_before_pictographs w ↦ omega (arith, w.if-is_before_pictographs.false)
    ] in
    c.dense_block.ensures ∙ sym (elim c.if-is_before_pictographs-2.branch [
      | then-is_before_pictographs-2 w ↦
          of_symbol k (omega arith) (not-middle w.if-is_before_pictographs-2.true) ∙ in_arm dense_blocks w.i-is
      | else-is_before_pictographs-2 w ↦ of_pictograph k w.if-is_before_pictographs-2.false ∙ in_arm dense_blocks w.i-is
    ])
