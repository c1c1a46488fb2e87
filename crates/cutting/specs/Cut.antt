-- Where a text may be cut in two, and the largest such cut at or below an offset (document 02, xiii). `EveryCut` of specs/Theorems.antt
-- says that a text cut there formats to the two results joined.
use Rattle.std.specs.Prelude.{Bool, false, cond, not, ◌||◌, List, [], ◌∷◌, ℕ, zero, suc, eqb, drop, length, Some, None, Option}
use Rattle.utf8.specs.Rfc3629.{chars}
use Rattle.emoji.specs.Presentation.{is_selector}
use Rattle.emoji.specs.Unicode.{is_emoji_modifier, is_tag}

-- "a character that is no selector, modifier, 20E3 or tag"
unfoldable pub may_begin : ℕ → Bool
may_begin c = not (is_selector c || (is_emoji_modifier c || (eqb c 0x20E3 || is_tag c)))

-- Characters that begin with such a character.
unfoldable pub first_may_begin : List ℕ → Bool
first_may_begin [] = false
first_may_begin (c ∷ t) = may_begin c

-- "whenever the second part is empty or begins with a character that is no selector, modifier, 20E3 or tag": an allowed cut of a text is
-- the text's length, or an offset where a well-formed character begins that may begin the second part. The text is any bytes.
unfoldable pub is_cut : List ℕ → ℕ → Bool
is_cut text n = eqb n (length text) || first_may_begin (chars (drop n text))

-- The largest allowed cut below an offset, if there is one.
unfoldable pub cut_below : List ℕ → ℕ → Option ℕ
cut_below text zero = None
cut_below text (suc n) = cond (is_cut text n) (Some n) (cut_below text n)

-- The largest allowed cut at or below an offset, if there is one. The offset is any number.
unfoldable pub cut_before : List ℕ → ℕ → Option ℕ
cut_before text offset = cut_below text (suc offset)
