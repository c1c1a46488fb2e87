-- Contracts of helper functions: pieces of ASCII that are copied.
use Rattle.std.specs.Prelude.{◌≡◌, true, cond, List, [], ◌∷◌, ℕ, ◌+◌, ◌*◌, ◌-◌, ◌<◌, ◌≤◌, eqb, drop, get_or, length, None}
use Rattle.base.specs.Refusals.{text_limit}
use Rattle.base.specs.Words.{all_bytes, word_at}
use Rattle.emoji.specs.Unicode.{has_variation_sequence}
use Rattle.policy.specs.PolicyBytes.{ascii_keys_bare}
use Rattle.feed.specs.Bytes.{counts_of, is_feed, state_of}
use Rattle.feed.specs.declared.Held.{Held}
use Rattle.feeding.specs.Helpers.{open_state}

-- The held character as a list: none for 0.
abbrev pub held_list : ℕ → List ℕ
held_list c = cond (eqb c 0) [] (c ∷ [])

-- What is held after a character: the character if it has a variation entry, or else 0.
abbrev pub held_entry : ℕ → ℕ
held_entry c = cond (has_variation_sequence c) c 0

-- How many bytes of a piece are copied: all, or all but a last base, which is held.
abbrev pub copied_length : ℕ → ℕ → ℕ
copied_length n last = cond (eqb last 0) n (n - 1)

-- A character without selectors, or none for 0.
abbrev pub bare_held : ℕ → Held
bare_held c = record { base = c; first = None; count = 0 }

-- Each byte is ASCII.
abbrev pub AllAscii : List ℕ → Type 0
AllAscii s = (k : ℕ) → k < length s → get_or s k 0 ≤ 0x7F

-- The words of a feed that goes on, with at most an ASCII character held and no byte unfinished.
pub record WordsFit (bs : List ℕ) : Type 0 where
  pub goes_on : word_at 0 bs ≡ 0
  pub base : word_at 1 bs ≤ 0x7F
  pub no_selector_no_rest : (j : ℕ) → 2 ≤ j → j < 6 → word_at j bs ≡ 0
  pub len : word_at 6 bs ≤ text_limit
  pub totals : (j : ℕ) → 7 ≤ j → j < 15 → word_at j bs ≤ text_limit

-- A feed that copies ASCII: it goes on, holds at most an ASCII character, without selectors, and keeps the ASCII bases bare.
pub record CopiesAscii (bs : List ℕ) : Type 0 where
  pub is_feed_lem : is_feed bs ≡ true
  pub base : word_at 1 bs ≤ 0x7F
  pub state : state_of bs ≡ open_state (bare_held (word_at 1 bs)) 0 0 (word_at 6 bs) (counts_of bs)
  pub words : WordsFit bs
  pub bare : ascii_keys_bare (drop 120 bs) ≡ true
  pub are_bytes : all_bytes bs ≡ true

-- A piece that is copied after a number of bytes, with a room in the output.
pub record CopiedPiece (len : ℕ) (b : List ℕ) (room : ℕ) : Type 0 where
  pub some : 0 < length b
  pub short : length b ≤ text_limit - len
  pub fits : 4 * length b + 16 ≤ room
  pub ascii : AllAscii b
