-- Contracts of helper functions: where formatting changes a text (document 01, "Replacement and text"). `NextChange` says which bytes stay
-- from an offset on, and what the next change is. The formatted text and the totals are those of crates/analysis/specs/CellView.antt.
use Rattle.emoji.specs.declared.presentation.Presentation.{Presentation}
use Rattle.std.specs.Prelude.{
  ◌≡◌,
  ◌⊎◌,
  true,
  false,
  not,
  List,
  [],
  ◌++◌,
  map,
  ℕ,
  zero,
  suc,
  ◌+◌,
  ◌*◌,
  ◌-◌,
  ◌<◌,
  ◌≤◌,
  eqb,
  drop,
  length,
  take,
  Some,
  None,
  Option,
}
use Rattle.utf8.specs.Rfc3629.{chars, encode_all, valid_up_to_of}
use Rattle.emoji.specs.Presentation.{as_selector}
use Rattle.emoji.specs.Unicode.{has_variation_sequence}
use Rattle.emoji.specs.declared.presentation.Presentation.TheVariants.{Emoji, Text}
use Rattle.policy.specs.Policy.{singleton_rule}
use Rattle.policy.specs.declared.Policy.{Policy}
use Rattle.policy.specs.declared.SingletonRule.TheVariants.{EmojiToBare, TextToBare}
use Rattle.scanner.specs.declared.char_class.Class.{Class}
use Rattle.analysis.specs.Analysis.{chosen, following}
use Rattle.analysis.specs.CellView.{format_cells, total_cells}
use Rattle.analysis.specs.Cells.{cells, leading}
use Rattle.analysis.specs.Counts.{total}
use Rattle.analysis.specs.Rules.{by_keycap, by_modifier, by_tags, outcome, run_with}
use Rattle.analysis.specs.declared.singleton.Outcome.{Outcome}
use Rattle.analysis.specs.declared.singleton.Slot.{Slot}
use Rattle.text_pass.specs.declared.Change.{Change}

-- The bytes of a selector; `NoSelector` has none.
abbrev pub selector_bytes : Option Presentation → List ℕ
selector_bytes s = encode_all (map as_selector (run_with s 1))

-- The offset `to` is not before `from`, lies inside the text if `from` does, and all bytes between the two are characters.
pub record Advances (text : List ℕ) (from to : ℕ) : Type 0 where
  pub on : from ≤ to
  pub inside : from ≤ length text → to ≤ length text
  pub valid : valid_up_to_of (drop from text) ≡ (to - from) + valid_up_to_of (drop to text)

module _ (p : Policy) (text : List ℕ) where
  -- What formatting makes of the text from an offset on.
  abbrev pub formatted_from : ℕ → List ℕ
  formatted_from at = encode_all (format_cells p (chars (drop at text)))

  -- The sum of the eight totals of the text from an offset on.
  abbrev pub total_from : ℕ → ℕ
  total_from at = total (total_cells p (chars (drop at text)))

  -- Formatting keeps the bytes between two offsets, and the rules count nothing in them.
  pub record UnchangedBetween (from to : ℕ) : Type 0 where
    pub advances : Advances text from to
    pub formatted : formatted_from from ≡ take (to - from) (drop from text) ++ formatted_from to
    pub counted : total_from from ≡ total_from to

  -- The first change from the offset `from` on is `c`. Formatting keeps the bytes before the change's start, and has its selector, or
  -- nothing, for the bytes from its start up to its end. The rules count something in these bytes.
  pub record IsNextChange (from : ℕ) (c : Change) : Type 0 where
    pub advances : Advances text from c.end
    pub on : from ≤ c.start
    pub after : c.start ≤ c.end
    pub moves : from < c.end
    pub formatted : formatted_from from ≡ take (c.start - from) (drop from text) ++ (selector_bytes c.selector ++ formatted_from c.end)
    pub counted : total_from c.end < total_from from

  -- Formatting keeps all bytes from an offset on, up to the end of the text or the first offset at which no character begins.
  pub record NoChangeFrom (from : ℕ) (c : Change) : Type 0 where
    pub stays : UnchangedBetween from c.end
    pub ends : chars (drop c.end text) ≡ []
    pub start-is-end : c.start ≡ c.end
    pub no_selector : c.selector ≡ None

  -- If a change is present, it is the first one from the offset `at` on. If not, formatting keeps at least one byte from there on.
  abbrev pub ChangeAt : ℕ → Change → Type 0
  ChangeAt at c = (c.present ≡ true → IsNextChange at c) × (c.present ≡ false → UnchangedBetween at c.end × (at < c.end))

  -- If a change is present, it is the first one from the offset `from` on. If not, formatting changes nothing from there on.
  abbrev pub NextChange : ℕ → Change → Type 0
  NextChange from c = (c.present ≡ true → IsNextChange from c) × (c.present ≡ false → NoChangeFrom from c)

-- ---- plain text

-- The policy keeps the ASCII bases bare: where such a base has no selector and no keycap follows, formatting adds none.
abbrev pub AsciiBare : Policy → Type 0
AsciiBare p =
    (c : ℕ) → c ≤ 0x7F → has_variation_sequence c ≡ true
    → (singleton_rule p c false ≡ TextToBare) ⊎ (singleton_rule p c false ≡ EmojiToBare)

-- ---- a base with a variation entry

-- The rules do not distinguish two classes. They ask only whether a class is that of a modifier, of a tag or of 20E3.
pub record SameRules (j k : Class) : Type 0 where
  pub modifier : by_modifier j ≡ by_modifier k
  pub tags : by_tags j ≡ by_tags k
  pub keycap : by_keycap j ≡ by_keycap k

-- The selector that has a number.
unfoldable pub selector_of : ℕ → Option Presentation
selector_of zero = None
selector_of (suc zero) = Some Text
selector_of (suc (suc n)) = Some Emoji

-- A rule whose slot is `s` leaves the selector with the number `r` after a base (document 01, "Replacement and text").
pub record LeavesSelector (s : Slot) (r : ℕ) : Type 0 where
  pub few : r ≤ 2
  pub left : run_with (selector_of r) 1 ≡ chosen s []

-- The outcome of the rules for a base whose selectors begin at an offset.
abbrev pub outcome_from : Policy → List ℕ → ℕ → ℕ → Outcome
outcome_from p text base at = outcome p base (following (cells (chars (drop at text)))) (leading (chars (drop at text)))

-- What formatting does with the selectors of a base, which begin at an offset: it writes the selector that the rules leave for all of them.
-- This is a change if the rules count something.
pub record BaseChange (p : Policy) (text : List ℕ) (base at : ℕ) (c : Change) : Type 0 where
  pub start_is : c.start ≡ at
  pub end_is : c.end ≡ at + 3 * length (leading (chars (drop at text)))
  pub selector_is : run_with c.selector 1 ≡ chosen (outcome_from p text base at).slot []
  pub present_is : c.present ≡ not (eqb (total (outcome_from p text base at).counts) 0)
