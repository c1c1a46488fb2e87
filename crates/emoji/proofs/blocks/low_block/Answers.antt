-- `emoji::blocks::low_block` meets its contract: each arm of the `match` is the row of the list with that number, and
-- the list has no other row. tools/unicode_tables.py makes this file.
use mathlib.Core.Path.{sym}
use Rattle.emoji.specs.Blocks.{block_in, no_block}
use Rattle.emoji.specs.BlockData.{low_blocks}
use Rattle.emoji.proofs.BlockSearch.{in_arm, in_no_arm}
use Rattle.emoji.proofs.blocks.low_block.Goals as goal

pub returns-in-0 : goal.returns-in-0
unfolding block_in no_block low_blocks
returns-in-0 c = in_arm low_blocks c.in-0.is

pub returns-in-2 : goal.returns-in-2
unfolding block_in no_block low_blocks
returns-in-2 c = in_arm low_blocks c.in-2.is

pub returns-in_default : goal.returns-in_default
unfolding block_in no_block low_blocks
returns-in_default c = sym (in_no_arm c.args.k low_blocks c.in_default.in_default-own.rest)
