-- The automaton of items by numbers, for the contracts of the code: a state is a number, and a state's row has one number for each class.
use Rattle.std.specs.Prelude.{ℕ, zero, suc, cond, eqb, Some, None, Option}
use Rattle.scanner.specs.Classes.{Class, selector, link, ri, modifier, emoji, keycap, tag, other}
use Rattle.scanner.specs.Items.{State, plain, selectors, links, one_ri, unit, joined, left_over}

-- Where the number for a class begins in a row, in bits.
abbrev pub class_place : Class → ℕ
class_place selector = 0
class_place link = 4
class_place ri = 8
class_place modifier = 12
class_place emoji = 16
class_place keycap = 20
class_place tag = 24
class_place other = 28

-- The state that has a number.
unfoldable pub state_of : ℕ → State
state_of zero = plain
state_of (suc zero) = selectors
state_of (suc (suc zero)) = links
state_of (suc (suc (suc zero))) = one_ri
state_of (suc (suc (suc (suc zero)))) = unit
state_of (suc (suc (suc (suc (suc zero))))) = joined
state_of (suc (suc (suc (suc (suc (suc n)))))) = left_over

-- What a number of a row means: 7 is the end of the item, and any other number is the next state.
abbrev pub numbered : ℕ → Option State
numbered n = cond (eqb n 7) None (Some (state_of n))
