-- `emoji::blocks::middle_block` meets its contract: each arm of the `match` is the row of the list with that number, and
-- the list has no other row. tools/unicode_tables.py makes this file.
use mathlib.Core.Path.{sym}
use Rattle.emoji.specs.Blocks.{block_in, no_block}
use Rattle.emoji.specs.BlockData.{middle_blocks}
use Rattle.emoji.proofs.BlockSearch.{in_arm, in_no_arm}
use Rattle.emoji.proofs.blocks.middle_block.Goals as goal

pub returns-in-164 : goal.returns-in-164
unfolding block_in no_block middle_blocks
returns-in-164 c = in_arm middle_blocks c.in-164.is

pub returns-in-172 : goal.returns-in-172
unfolding block_in no_block middle_blocks
returns-in-172 c = in_arm middle_blocks c.in-172.is

pub returns-in-173 : goal.returns-in-173
unfolding block_in no_block middle_blocks
returns-in-173 c = in_arm middle_blocks c.in-173.is

pub returns-in-192 : goal.returns-in-192
unfolding block_in no_block middle_blocks
returns-in-192 c = in_arm middle_blocks c.in-192.is

pub returns-in-202 : goal.returns-in-202
unfolding block_in no_block middle_blocks
returns-in-202 c = in_arm middle_blocks c.in-202.is

pub returns-in_default : goal.returns-in_default
unfolding block_in no_block middle_blocks
returns-in_default c = sym (in_no_arm c.args.k middle_blocks c.in_default.in_default-own.rest)
