-- `emoji::blocks::dense_block` meets its contract: each arm of the `match` is the row of the list with that number, and
-- the list has no other row. tools/unicode_tables.py makes this file.
use mathlib.Core.Path.{sym}
use Rattle.emoji.specs.Blocks.{block_in, moved, no_block}
use Rattle.emoji.specs.BlockData.{dense_blocks, pictograph_blocks, symbol_blocks}
use Rattle.emoji.proofs.BlockSearch.{in_arm, in_no_arm}
use Rattle.emoji.proofs.blocks.dense_block.Goals as goal

pub returns-in-0 : goal.returns-in-0
unfolding block_in moved no_block dense_blocks pictograph_blocks symbol_blocks
returns-in-0 c = in_arm dense_blocks c.in-0.is

pub returns-in-1 : goal.returns-in-1
unfolding block_in moved no_block dense_blocks pictograph_blocks symbol_blocks
returns-in-1 c = in_arm dense_blocks c.in-1.is

pub returns-in-4 : goal.returns-in-4
unfolding block_in moved no_block dense_blocks pictograph_blocks symbol_blocks
returns-in-4 c = in_arm dense_blocks c.in-4.is

pub returns-in-6 : goal.returns-in-6
unfolding block_in moved no_block dense_blocks pictograph_blocks symbol_blocks
returns-in-6 c = in_arm dense_blocks c.in-6.is

pub returns-in-12 : goal.returns-in-12
unfolding block_in moved no_block dense_blocks pictograph_blocks symbol_blocks
returns-in-12 c = in_arm dense_blocks c.in-12.is

pub returns-in-15 : goal.returns-in-15
unfolding block_in moved no_block dense_blocks pictograph_blocks symbol_blocks
returns-in-15 c = in_arm dense_blocks c.in-15.is

pub returns-in-19 : goal.returns-in-19
unfolding block_in moved no_block dense_blocks pictograph_blocks symbol_blocks
returns-in-19 c = in_arm dense_blocks c.in-19.is

pub returns-in-22 : goal.returns-in-22
unfolding block_in moved no_block dense_blocks pictograph_blocks symbol_blocks
returns-in-22 c = in_arm dense_blocks c.in-22.is

pub returns-in-23 : goal.returns-in-23
unfolding block_in moved no_block dense_blocks pictograph_blocks symbol_blocks
returns-in-23 c = in_arm dense_blocks c.in-23.is

pub returns-in-24 : goal.returns-in-24
unfolding block_in moved no_block dense_blocks pictograph_blocks symbol_blocks
returns-in-24 c = in_arm dense_blocks c.in-24.is

pub returns-in-25 : goal.returns-in-25
unfolding block_in moved no_block dense_blocks pictograph_blocks symbol_blocks
returns-in-25 c = in_arm dense_blocks c.in-25.is

pub returns-in-26 : goal.returns-in-26
unfolding block_in moved no_block dense_blocks pictograph_blocks symbol_blocks
returns-in-26 c = in_arm dense_blocks c.in-26.is

pub returns-in-27 : goal.returns-in-27
unfolding block_in moved no_block dense_blocks pictograph_blocks symbol_blocks
returns-in-27 c = in_arm dense_blocks c.in-27.is

pub returns-in-28 : goal.returns-in-28
unfolding block_in moved no_block dense_blocks pictograph_blocks symbol_blocks
returns-in-28 c = in_arm dense_blocks c.in-28.is

pub returns-in-29 : goal.returns-in-29
unfolding block_in moved no_block dense_blocks pictograph_blocks symbol_blocks
returns-in-29 c = in_arm dense_blocks c.in-29.is

pub returns-in-30 : goal.returns-in-30
unfolding block_in moved no_block dense_blocks pictograph_blocks symbol_blocks
returns-in-30 c = in_arm dense_blocks c.in-30.is

pub returns-in-31 : goal.returns-in-31
unfolding block_in moved no_block dense_blocks pictograph_blocks symbol_blocks
returns-in-31 c = in_arm dense_blocks c.in-31.is

pub returns-in-34 : goal.returns-in-34
unfolding block_in moved no_block dense_blocks pictograph_blocks symbol_blocks
returns-in-34 c = in_arm dense_blocks c.in-34.is

pub returns-in-36 : goal.returns-in-36
unfolding block_in moved no_block dense_blocks pictograph_blocks symbol_blocks
returns-in-36 c = in_arm dense_blocks c.in-36.is

pub returns-in-37 : goal.returns-in-37
unfolding block_in moved no_block dense_blocks pictograph_blocks symbol_blocks
returns-in-37 c = in_arm dense_blocks c.in-37.is

pub returns-in-38 : goal.returns-in-38
unfolding block_in moved no_block dense_blocks pictograph_blocks symbol_blocks
returns-in-38 c = in_arm dense_blocks c.in-38.is

pub returns-in-39 : goal.returns-in-39
unfolding block_in moved no_block dense_blocks pictograph_blocks symbol_blocks
returns-in-39 c = in_arm dense_blocks c.in-39.is

pub returns-in-40 : goal.returns-in-40
unfolding block_in moved no_block dense_blocks pictograph_blocks symbol_blocks
returns-in-40 c = in_arm dense_blocks c.in-40.is

pub returns-in-43 : goal.returns-in-43
unfolding block_in moved no_block dense_blocks pictograph_blocks symbol_blocks
returns-in-43 c = in_arm dense_blocks c.in-43.is

pub returns-in-44 : goal.returns-in-44
unfolding block_in moved no_block dense_blocks pictograph_blocks symbol_blocks
returns-in-44 c = in_arm dense_blocks c.in-44.is

pub returns-in-45 : goal.returns-in-45
unfolding block_in moved no_block dense_blocks pictograph_blocks symbol_blocks
returns-in-45 c = in_arm dense_blocks c.in-45.is

pub returns-in-46 : goal.returns-in-46
unfolding block_in moved no_block dense_blocks pictograph_blocks symbol_blocks
returns-in-46 c = in_arm dense_blocks c.in-46.is

pub returns-in-47 : goal.returns-in-47
unfolding block_in moved no_block dense_blocks pictograph_blocks symbol_blocks
returns-in-47 c = in_arm dense_blocks c.in-47.is

pub returns-in-48 : goal.returns-in-48
unfolding block_in moved no_block dense_blocks pictograph_blocks symbol_blocks
returns-in-48 c = in_arm dense_blocks c.in-48.is

pub returns-in-49 : goal.returns-in-49
unfolding block_in moved no_block dense_blocks pictograph_blocks symbol_blocks
returns-in-49 c = in_arm dense_blocks c.in-49.is

pub returns-in-50 : goal.returns-in-50
unfolding block_in moved no_block dense_blocks pictograph_blocks symbol_blocks
returns-in-50 c = in_arm dense_blocks c.in-50.is

pub returns-in-51 : goal.returns-in-51
unfolding block_in moved no_block dense_blocks pictograph_blocks symbol_blocks
returns-in-51 c = in_arm dense_blocks c.in-51.is

pub returns-in-52 : goal.returns-in-52
unfolding block_in moved no_block dense_blocks pictograph_blocks symbol_blocks
returns-in-52 c = in_arm dense_blocks c.in-52.is

pub returns-in-53 : goal.returns-in-53
unfolding block_in moved no_block dense_blocks pictograph_blocks symbol_blocks
returns-in-53 c = in_arm dense_blocks c.in-53.is

pub returns-in-54 : goal.returns-in-54
unfolding block_in moved no_block dense_blocks pictograph_blocks symbol_blocks
returns-in-54 c = in_arm dense_blocks c.in-54.is

pub returns-in-55 : goal.returns-in-55
unfolding block_in moved no_block dense_blocks pictograph_blocks symbol_blocks
returns-in-55 c = in_arm dense_blocks c.in-55.is

pub returns-in-56 : goal.returns-in-56
unfolding block_in moved no_block dense_blocks pictograph_blocks symbol_blocks
returns-in-56 c = in_arm dense_blocks c.in-56.is

pub returns-in-57 : goal.returns-in-57
unfolding block_in moved no_block dense_blocks pictograph_blocks symbol_blocks
returns-in-57 c = in_arm dense_blocks c.in-57.is

pub returns-in-58 : goal.returns-in-58
unfolding block_in moved no_block dense_blocks pictograph_blocks symbol_blocks
returns-in-58 c = in_arm dense_blocks c.in-58.is

pub returns-in-62 : goal.returns-in-62
unfolding block_in moved no_block dense_blocks pictograph_blocks symbol_blocks
returns-in-62 c = in_arm dense_blocks c.in-62.is

pub returns-in-67 : goal.returns-in-67
unfolding block_in moved no_block dense_blocks pictograph_blocks symbol_blocks
returns-in-67 c = in_arm dense_blocks c.in-67.is

pub returns-in-68 : goal.returns-in-68
unfolding block_in moved no_block dense_blocks pictograph_blocks symbol_blocks
returns-in-68 c = in_arm dense_blocks c.in-68.is

pub returns-in-69 : goal.returns-in-69
unfolding block_in moved no_block dense_blocks pictograph_blocks symbol_blocks
returns-in-69 c = in_arm dense_blocks c.in-69.is

pub returns-in-70 : goal.returns-in-70
unfolding block_in moved no_block dense_blocks pictograph_blocks symbol_blocks
returns-in-70 c = in_arm dense_blocks c.in-70.is

pub returns-in-72 : goal.returns-in-72
unfolding block_in moved no_block dense_blocks pictograph_blocks symbol_blocks
returns-in-72 c = in_arm dense_blocks c.in-72.is

pub returns-in-73 : goal.returns-in-73
unfolding block_in moved no_block dense_blocks pictograph_blocks symbol_blocks
returns-in-73 c = in_arm dense_blocks c.in-73.is

pub returns-in-74 : goal.returns-in-74
unfolding block_in moved no_block dense_blocks pictograph_blocks symbol_blocks
returns-in-74 c = in_arm dense_blocks c.in-74.is

pub returns-in_default : goal.returns-in_default
unfolding block_in moved no_block dense_blocks pictograph_blocks symbol_blocks
returns-in_default c = sym (in_no_arm c.args.i dense_blocks c.in_default.in_default-own.rest)
