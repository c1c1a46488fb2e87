-- The automaton of items by numbers: each row has the transitions of its state.
use mathlib.Core.Path.{◌≡◌, refl}
use Prim.Native.Nat.{ℕ, ◌/◌, ◌%◌, ◌^◌}
use Rattle.scanner.specs.Classes.{Class, selector, link, ri, modifier, emoji, keycap, tag, other}
use Rattle.scanner.specs.Items.{State, plain, selectors, links, one_ri, unit, joined, left_over, next_of, start_state, transition}
use Rattle.scanner.specs.Rows.{class_place, numbered, state_of}

-- The row of a state.
abbrev pub row_of : State → ℕ
row_of plain = 0x00077777
row_of selectors = 0x77777771
row_of links = 0x77777722
row_of one_ri = 0x74474453
row_of unit = 0x74474754
row_of joined = 0x77744365
row_of left_over = 0x77777766

pub row_next : (p : State) (k : Class) → numbered (row_of p / 2 ^ class_place k % 8) ≡ next_of (transition p k)
unfolding transition state_of
row_next plain selector = refl
row_next plain link = refl
row_next plain ri = refl
row_next plain modifier = refl
row_next plain emoji = refl
row_next plain keycap = refl
row_next plain tag = refl
row_next plain other = refl
row_next selectors selector = refl
row_next selectors link = refl
row_next selectors ri = refl
row_next selectors modifier = refl
row_next selectors emoji = refl
row_next selectors keycap = refl
row_next selectors tag = refl
row_next selectors other = refl
row_next links selector = refl
row_next links link = refl
row_next links ri = refl
row_next links modifier = refl
row_next links emoji = refl
row_next links keycap = refl
row_next links tag = refl
row_next links other = refl
row_next one_ri selector = refl
row_next one_ri link = refl
row_next one_ri ri = refl
row_next one_ri modifier = refl
row_next one_ri emoji = refl
row_next one_ri keycap = refl
row_next one_ri tag = refl
row_next one_ri other = refl
row_next unit selector = refl
row_next unit link = refl
row_next unit ri = refl
row_next unit modifier = refl
row_next unit emoji = refl
row_next unit keycap = refl
row_next unit tag = refl
row_next unit other = refl
row_next joined selector = refl
row_next joined link = refl
row_next joined ri = refl
row_next joined modifier = refl
row_next joined emoji = refl
row_next joined keycap = refl
row_next joined tag = refl
row_next joined other = refl
row_next left_over selector = refl
row_next left_over link = refl
row_next left_over ri = refl
row_next left_over modifier = refl
row_next left_over emoji = refl
row_next left_over keycap = refl
row_next left_over tag = refl
row_next left_over other = refl

pub start-row : (k : Class) → state_of (0x00044321 / 2 ^ class_place k % 8) ≡ start_state k
unfolding start_state state_of
start-row selector = refl
start-row link = refl
start-row ri = refl
start-row modifier = refl
start-row emoji = refl
start-row keycap = refl
start-row tag = refl
start-row other = refl
