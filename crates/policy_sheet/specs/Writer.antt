-- The written sheet of a policy (document 02, vi): "The writer gives one sheet per policy".
use Rattle.std.specs.Prelude.{Bool, true, false, cond, List, [], ◌∷◌, ◌++◌, map, ℕ, suc, eqb, ltb}
use Rattle.base.specs.Texts.{parted}
use Rattle.emoji.specs.UnicodeData.{variation_entries}
use Rattle.policy_key_set.specs.Display.{hex_digits}
use Rattle.policy_key_set.specs.Sets.{member}
use Rattle.policy.specs.declared.Policy.{Policy}

-- A run: the first and the last of neighbouring entries of the variation table that are in a set.
pub record Run : Type 0 where
  pub first : ℕ
  pub last : ℕ

-- ".. neighbouring entries of the variation table joined into one range": the entry c joins the run that starts after it.
unfoldable pub joined : ℕ → List Run → List Run
joined c [] = record { first = c; last = c } ∷ []
joined c (r ∷ rs) = record { first = c; last = r.last } ∷ rs

-- The runs with one more entry c before them. The Booleans say whether c and the next entry are in the set.
unfoldable pub with_entry : ℕ → Bool → Bool → List Run → List Run
with_entry c false n rs = rs
with_entry c true false rs = record { first = c; last = c } ∷ rs
with_entry c true true rs = joined c rs

-- The first of the entries from entry i on is in the set.
unfoldable pub first_in : (ℕ → Bool) → ℕ → List ℕ → Bool
first_in p i [] = false
first_in p i (c ∷ cs) = p i

-- "ascending": the runs of the entries from entry i on that pass a test.
unfoldable pub runs_from : (ℕ → Bool) → ℕ → List ℕ → List Run
runs_from p i [] = []
runs_from p i (c ∷ cs) = with_entry c (p i) (first_in p (suc i) cs) (runs_from p (suc i) cs)

-- "each code point in the fewest digits allowed": their number, and the digits.
unfoldable pub fewest_digits : ℕ → ℕ
fewest_digits c = cond (ltb c 0x100) 2 (cond (ltb c 0x10000) 4 (cond (ltb c 0x100000) 5 6))

abbrev pub point_text : ℕ → List ℕ
point_text c = hex_digits (fewest_digits c) c

-- A run as a piece: a single code point or a range.
unfoldable pub run_text : Run → List ℕ
run_text r = cond (eqb r.first r.last) (point_text r.first) (point_text r.first ++ (0x2D ∷ point_text r.last))

-- The runs of a set.
abbrev pub runs_of : List ℕ → List Run
runs_of ws = runs_from (λ (i : ℕ). member i ws) 0 variation_entries

-- A line of a sheet, with the 0A that ends it.
unfoldable pub line_text : List ℕ → List ℕ
line_text ws = parted 0x2C (map run_text (runs_of ws)) ++ (0x0A ∷ [])

-- The sheet of a policy: four lines, in the order of its sets.
unfoldable pub write_sheet : Policy → List ℕ
write_sheet p =
    ((line_text p.prefer_bare.chars.bits ++ line_text p.prefer_bare.keycap_chars.bits)
    ++ line_text p.bare_as_text.chars.bits)
    ++ line_text p.bare_as_text.keycap_chars.bits
