-- Contracts of helper functions (src/blocks.rt); no public contract rests on this file.
-- The emoji and the variation entries of Unicode 15.0 as bit sets. For each block of 64 code points that has any,
-- a row has the block's number, the bits of its emoji, the bits of its variation entries, and the number of entries before
-- the block. tools/unicode_tables.py makes this file.
use Rattle.std.specs.Prelude.{List, [], ◌∷◌, ◌++◌, ℕ, ◌-◌}
use Rattle.emoji.specs.Blocks.{BlockRow, moved, row}

-- The 2 blocks before the symbols.
unfoldable pub low_blocks : List BlockRow
low_blocks =
    row 0x0 0x03FF040800000000 0x03FF040800000000 0 ∷
    row 0x2 0x0000420000000000 0x0000420000000000 12 ∷ []

-- The 16 blocks of the symbols, 2000 to 27BF.
unfoldable pub symbol_blocks : List BlockRow
symbol_blocks =
    row 0x80 0x1000000000000000 0x1000000000000000 14 ∷
    row 0x81 0x0000000000000200 0x0000000000000200 15 ∷
    row 0x84 0x0200000400000000 0x0200000400000000 16 ∷
    row 0x86 0x0000060003F00000 0x0000060003F00000 18 ∷
    row 0x8C 0x000001000C000000 0x000001000C000000 26 ∷
    row 0x8F 0x070FFE0000008000 0x070EE60000008000 29 ∷
    row 0x93 0x0000000000000004 0x0000000000000004 41 ∷
    row 0x96 0x00400C0000000000 0x00400C0000000000 42 ∷
    row 0x97 0x7800000000000001 0x7800000000000001 45 ∷
    row 0x98 0x0700C44D2132401F 0x0700C44D2132401F 50 ∷
    row 0x99 0xC8000169800FFF05 0xC8000169800FFF05 71 ∷
    row 0x9A 0x60030C831AFC0000 0x60030C831AFC0000 94 ∷
    row 0x9B 0x27BF0600001AC130 0x27BF0600001A8130 112 ∷
    row 0x9C 0x001801022054BF24 0x001800022054B304 132 ∷
    row 0x9D 0x0000001800B85090 0x0000001800880090 145 ∷
    row 0x9E 0x8001000200E00000 0x0000000200000000 151 ∷ []

-- The 5 blocks between the symbols and the pictographs.
unfoldable pub middle_blocks : List BlockRow
middle_blocks =
    row 0xA4 0x0030000000000000 0x0030000000000000 152 ∷
    row 0xAC 0x00000000180000E0 0x00000000180000E0 154 ∷
    row 0xAD 0x0000000000210000 0x0000000000210000 159 ∷
    row 0xC0 0x2001000000000000 0x2001000000000000 161 ∷
    row 0xCA 0x0000000002800000 0x0000000002800000 163 ∷ []

-- The 31 blocks of the pictographs, from 1F000 on.
unfoldable pub pictograph_blocks : List BlockRow
pictograph_blocks =
    row 0x7C0 0x0000000000000010 0x0000000000000010 165 ∷
    row 0x7C3 0x0000000000008000 0x0000000000000000 166 ∷
    row 0x7C5 0xC003000000000000 0xC003000000000000 166 ∷
    row 0x7C6 0x0000000007FE4000 0x0000000000000000 170 ∷
    row 0x7C7 0xFFFFFFC000000000 0x0000000000000000 170 ∷
    row 0x7C8 0x07FC800004000006 0x0080800004000004 170 ∷
    row 0x7C9 0x0000000000030000 0x0000000000000000 174 ∷
    row 0x7CC 0xFFFFFFF3FFFFFFFF 0x00401FF21020E000 174 ∷
    row 0x7CD 0xFFFFFFFFFFFFFFFF 0x2100000000000000 190 ∷
    row 0x7CE 0xFFFFFFFFCECFFFFF 0x00007080CEC80000 192 ∷
    row 0x7CF 0xFFB9FFFFFFFFFFFF 0x00A82001FFF07C54 204 ∷
    row 0x7D0 0xFFFFFFFFFFFFFFFF 0x8000004080200100 229 ∷
    row 0x7D1 0xFFFFFFFFFFFFFFFF 0x20000400000863C6 234 ∷
    row 0x7D2 0xFFFFFFFFFFFFFFFF 0x8809000800000000 245 ∷
    row 0x7D3 0xBFFFFFFFFFFFFFFF 0x2E803C7084000800 250 ∷
    row 0x7D4 0x3FFFFFFFFFFFFFFF 0x00000000000C2100 265 ∷
    row 0x7D5 0x07F980FFFFFF7E00 0x03F980FFFFFF0600 269 ∷
    row 0x7D6 0x1006013000613C80 0x1006012000013C80 304 ∷
    row 0x7D7 0xFC08810A700E001C 0x0408810A700E001C 315 ∷
    row 0x7D8 0xFFFFFFFFFFFFFFFF 0x0000000000010000 330 ∷
    row 0x7D9 0x000000000000FFFF 0x0000000000000000 331 ∷
    row 0x7DA 0xFFFFFFFFFFFFFFFF 0x1604200001122080 331 ∷
    row 0x7DB 0x1FF91A3FF0E7F83F 0x0009023F0000E800 341 ∷
    row 0x7DF 0x00010FFF00000000 0x0000000000000000 354 ∷
    row 0x7E4 0xF7FFFFFFFFFFF000 0x0000000000000000 354 ∷
    row 0x7E5 0xFFFFFFFFFFFFFFBF 0x0000000000000000 354 ∷
    row 0x7E6 0xFFFFFFFFFFFFFFFF 0x0000000000000000 354 ∷
    row 0x7E7 0xFFFFFFFFFFFFFFFF 0x0000000000000000 354 ∷
    row 0x7E9 0x1FFF000000000000 0x0000000000000000 354 ∷
    row 0x7EA 0xBFFFFFFFFFFF01FF 0x0000000000000000 354 ∷
    row 0x7EB 0x01FF01FF0FFFC03F 0x0000000000000000 354 ∷ []

-- All blocks.
unfoldable pub blocks : List BlockRow
blocks = low_blocks ++ (symbol_blocks ++ (middle_blocks ++ pictograph_blocks))

-- The first block of each group after the low one.
abbrev pub symbol_first : ℕ
symbol_first = 0x80

abbrev pub middle_first : ℕ
middle_first = 0x9F

abbrev pub pictograph_first : ℕ
pictograph_first = 0x7C0

-- The blocks that one `match` of the code holds: the symbols, and after them the pictographs. Each has the number of its arm.
abbrev pub symbol_places : ℕ
symbol_places = middle_first - symbol_first

abbrev pub pictograph_move : ℕ
pictograph_move = pictograph_first - symbol_places

unfoldable pub dense_blocks : List BlockRow
dense_blocks = moved symbol_first symbol_blocks ++ moved pictograph_move pictograph_blocks
