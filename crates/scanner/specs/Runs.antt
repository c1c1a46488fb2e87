-- The longest part of each sort at the front of a text: S, tags, groups of tags, a modification, a stem, a unit, links, passthrough
-- (document 01, "Item").
use Rattle.std.specs.Prelude.{Bool, cond, not, ◌||◌, List, [], ◌∷◌, ◌++◌, ℕ, eqb, length, drop}
use Rattle.emoji.specs.Presentation.{is_selector}
use Rattle.emoji.specs.Unicode.{is_emoji, is_emoji_modifier, is_ri, is_tag}

module _ (test : ℕ → Bool) where
  -- The longest run at the front whose characters pass a test.
  unfoldable pub run : List ℕ → List ℕ
  run [] = []
  run (c ∷ t) = cond (test c) (c ∷ run t) []

  -- The text after that run.
  unfoldable pub after_run : List ℕ → List ℕ
  after_run [] = []
  after_run (c ∷ t) = cond (test c) (after_run t) (c ∷ t)

-- S: the selectors at the front.
abbrev pub selectors_at : List ℕ → List ℕ
selectors_at t = run is_selector t

-- The text after these selectors.
abbrev pub after_selectors : List ℕ → List ℕ
after_selectors t = after_run is_selector t

-- The tags at the front.
abbrev pub tags_at : List ℕ → List ℕ
tags_at t = run is_tag t

-- Whether the character is a tag or a selector.
abbrev pub in_tags : ℕ → Bool
in_tags c = is_tag c || is_selector c

-- The tags and selectors at the front: "A tag modification ends at the first character that is neither tag nor selector".
unfoldable pub tag_modification_at : List ℕ → List ℕ
tag_modification_at t = run in_tags t

-- The groups at the front, each of one or more tags and S; empty unless the first character is a tag.
unfoldable pub tag_groups_at : List ℕ → List ℕ
tag_groups_at [] = []
tag_groups_at (c ∷ t) = cond (is_tag c) (tag_modification_at (c ∷ t)) []

-- Whether a modification begins with the character: it is a modifier, 20E3 or a tag.
unfoldable pub is_modification : ℕ → Bool
is_modification c = is_emoji_modifier c || (eqb c 0x20E3 || is_tag c)

-- The modification at the front; empty unless one begins with the first character.
unfoldable pub modification_at : List ℕ → List ℕ
modification_at [] = []
modification_at (c ∷ t) = cond (is_tag c) (tag_modification_at (c ∷ t)) (cond (is_modification c) (c ∷ selectors_at t) [])

-- Whether the character can stand in a row of modifications: a modification begins with it, or it is a selector.
abbrev pub in_modifications : ℕ → Bool
in_modifications c = is_modification c || is_selector c

-- All modifications at the front; empty unless one begins with the first character.
unfoldable pub modifications_at : List ℕ → List ℕ
modifications_at [] = []
modifications_at (c ∷ t) = cond (is_modification c) (run in_modifications (c ∷ t)) []

-- The second RI of a flag and its S; empty unless the first character is an RI.
unfoldable pub second_ri_at : List ℕ → List ℕ
second_ri_at [] = []
second_ri_at (c ∷ t) = cond (is_ri c) (c ∷ selectors_at t) []

-- The stem at the front; empty unless the first character is an emoji.
unfoldable pub stem_at : List ℕ → List ℕ
stem_at [] = []
stem_at (c ∷ t) = cond (is_emoji c) (c ∷ (selectors_at t ++ cond (is_ri c) (second_ri_at (after_selectors t)) [])) []

-- The text after the stem at the front.
unfoldable pub after_stem : List ℕ → List ℕ
after_stem t = drop (length (stem_at t)) t

-- The unit at the front: the stem, and the modifications after it.
unfoldable pub unit_at : List ℕ → List ℕ
unit_at t = stem_at t ++ modifications_at (after_stem t)

-- The text after the unit at the front.
unfoldable pub after_unit : List ℕ → List ℕ
after_unit t = drop (length (unit_at t)) t

-- The link at the front; empty unless the first character is 200D.
unfoldable pub link_at : List ℕ → List ℕ
link_at [] = []
link_at (c ∷ t) = cond (eqb c 0x200D) (c ∷ selectors_at t) []

-- Whether the character is 200D or a selector.
abbrev pub in_links : ℕ → Bool
in_links c = eqb c 0x200D || is_selector c

-- All links at the front; empty unless the first character is 200D.
unfoldable pub links_at : List ℕ → List ℕ
links_at [] = []
links_at (c ∷ t) = cond (eqb c 0x200D) (run in_links (c ∷ t)) []

-- Whether the character is neither a selector nor 200D nor emoji.
abbrev pub is_passthrough : ℕ → Bool
is_passthrough c = not (is_selector c || (eqb c 0x200D || is_emoji c))

-- "Otherwise passthrough, up to the next selector, 200D or emoji."
unfoldable pub passthrough_at : List ℕ → List ℕ
passthrough_at t = run is_passthrough t
