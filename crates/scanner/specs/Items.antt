-- The items of a text, computed character by character by an automaton (document 01, "Item").
-- They are the grammar's only reading of the text: specs/Theorems.antt, ItemsAreAReading and OnlyReading.
use Rattle.std.specs.Prelude.{Bool, true, false, List, [], ◌∷◌, ◌++◌, ℕ, Some, None, Option}
use Rattle.scanner.specs.Classes.{Class, selector, link, ri, modifier, emoji, keycap, tag, other, class_of}
use Rattle.scanner.specs.declared.ScanKind.{ScanKind}
use Rattle.scanner.specs.declared.ScanKind.TheVariants.{EmojiHeaded, LinksOnly, Passthrough, UnsanctionedPresentationSelectors}
-- A state of the automaton says where in an item a character stands: in passthrough; in a run of selectors; in a run of links; in a
-- unit whose stem is one RI so far; in a unit whose stem is complete; after a unit and one link; after a unit and two or more
-- links.
pub use Rattle.scanner.specs.declared.state.State.{State}
pub use Rattle.scanner.specs.declared.state.State.TheVariants.{
  Plain as plain,
  Selectors as selectors,
  Links as links,
  OneRi as one_ri,
  Unit as unit,
  Joined as joined,
  LeftOver as left_over,
}

-- The state after a character of the class if the item goes on with this character; `None` if the item ends before it.
unfoldable pub transition : State → Class → Option State
-- "Otherwise passthrough, up to the next selector, 200D or emoji."
transition plain selector = None
transition plain link = None
transition plain ri = None
transition plain modifier = None
transition plain emoji = None
transition plain keycap = Some plain
transition plain tag = Some plain
transition plain other = Some plain
-- "At a selector it is the run of selectors."
transition selectors selector = Some selectors
transition selectors link = None
transition selectors ri = None
transition selectors modifier = None
transition selectors emoji = None
transition selectors keycap = None
transition selectors tag = None
transition selectors other = None
-- "At 200D an item is the run of links, each 200D and S."
transition links selector = Some links
transition links link = Some links
transition links ri = None
transition links modifier = None
transition links emoji = None
transition links keycap = None
transition links tag = None
transition links other = None
-- "Stem: RI, S, RI, S (a flag); otherwise one emoji and S."
transition one_ri selector = Some one_ri
transition one_ri link = Some joined
transition one_ri ri = Some unit
transition one_ri modifier = Some unit
transition one_ri emoji = None
transition one_ri keycap = Some unit
transition one_ri tag = Some unit
transition one_ri other = None
-- "Unit: a stem and its modifications": a modifier and S; 20E3 and S; or groups of tags and S.
transition unit selector = Some unit
transition unit link = Some joined
transition unit ri = None
transition unit modifier = Some unit
transition unit emoji = None
transition unit keycap = Some unit
transition unit tag = Some unit
transition unit other = None
-- ".. then further units each joined by exactly one link"
transition joined selector = Some joined
transition joined link = Some left_over
transition joined ri = Some one_ri
transition joined modifier = Some unit
transition joined emoji = Some unit
transition joined keycap = None
transition joined tag = None
transition joined other = None
-- ".. then the links left over, each link again with its S."
transition left_over selector = Some left_over
transition left_over link = Some left_over
transition left_over ri = None
transition left_over modifier = None
transition left_over emoji = None
transition left_over keycap = None
transition left_over tag = None
transition left_over other = None

-- The result of `transition`, as the code's function `transition` returns it.
abbrev pub next_of : Option State → Option State
next_of (Some q) = Some q
next_of None = None

-- The state after the first character of an item.
unfoldable pub start_state : Class → State
start_state selector = selectors
start_state link = links
start_state ri = one_ri
start_state modifier = unit
start_state emoji = unit
start_state keycap = plain
start_state tag = plain
start_state other = plain

-- Whether the state is a unit whose stem is complete.
abbrev pub in_unit : State → Bool
in_unit plain = false
in_unit selectors = false
in_unit links = false
in_unit one_ri = false
in_unit unit = true
in_unit joined = false
in_unit left_over = false

-- Whether a tag modification begins with a character of class k that leads to state p. Tags stand in units and in passthrough; only
-- "a stem and its modifications" has tag modifications.
unfoldable pub begins_tags : State → Class → Bool
begins_tags p selector = false
begins_tags p link = false
begins_tags p ri = false
begins_tags p modifier = false
begins_tags p emoji = false
begins_tags p keycap = false
begins_tags p tag = in_unit p
begins_tags p other = false

-- The kind of an item, by the state after any of its characters.
unfoldable pub kind_of : State → ScanKind
kind_of plain = Passthrough
kind_of selectors = UnsanctionedPresentationSelectors
kind_of links = LinksOnly
kind_of one_ri = EmojiHeaded
kind_of unit = EmojiHeaded
kind_of joined = EmojiHeaded
kind_of left_over = EmojiHeaded

-- An item: its kind and its characters.
pub record Item : Type 0 where
  pub kind : ScanKind
  pub chars : List ℕ

-- The characters of all items of a list, one item after the other.
abbrev pub join : List Item → List ℕ
join [] = []
join (x ∷ xs) = x.chars ++ join xs

-- The items of a text whose first character is c. The pair r has the other characters of the first item, and the items after it.
abbrev pub begin_item : ℕ → List ℕ × List Item → List Item
begin_item c r = record { kind = kind_of (start_state (class_of c)); chars = c ∷ r.0 } ∷ r.1

-- The text after some character of an item, where that character led to state p: the remaining characters of this item, and the
-- items after it.
unfoldable pub split_from : State → List ℕ → List ℕ × List Item
split_from p [] = ([], [])
split_from p (c ∷ t) =
    elim (transition p (class_of c)) [
      | Some q ↦ (c ∷ (split_from q t).0, (split_from q t).1)
      | None ↦ ([], begin_item c (split_from (start_state (class_of c)) t))
    ]

-- The items of a text.
unfoldable pub items : List ℕ → List Item
items [] = []
items (c ∷ t) = begin_item c (split_from (start_state (class_of c)) t)
