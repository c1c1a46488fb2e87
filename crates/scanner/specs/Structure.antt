-- The nested structure of links-only and emoji-headed items, as the types of scanner.rs show it. `structure` computes it from an
-- item's characters, and `flatten` gives the characters back. A run of selectors is the list of its characters.
use Rattle.std.specs.Prelude.{cond, List, [], ◌∷◌, ◌++◌, map, ℕ, eqb}
use Rattle.emoji.specs.Unicode.{is_ri}
use Rattle.scanner.specs.Classes.{Class, selector, link, ri, modifier, emoji, keycap, tag, other, class_of}
use Rattle.scanner.specs.Runs.{after_selectors, selectors_at}

-- ---- the types

-- One or more tags, and the selectors after them.
pub record EmojiTagRun : Type 0 where
  pub tags : List ℕ
  pub after : List ℕ

-- A modification: a modifier and its selectors; 20E3 and its selectors; or tag runs.
pub data EmojiModification : Type 0 where
  EmojiModifier : ℕ → List ℕ → EmojiModification
  EnclosingKeycap : List ℕ → EmojiModification
  TagModifier : List EmojiTagRun → EmojiModification

-- A stem: a base and its selectors; or two regional indicators, each with its selectors.
pub data EmojiStem : Type 0 where
  SingletonBase : ℕ → List ℕ → EmojiStem
  Flag : ℕ → List ℕ → ℕ → List ℕ → EmojiStem

-- A unit: its stem and its modifications.
pub record EmojiLike : Type 0 where
  pub stem : EmojiStem
  pub modifiers : List EmojiModification

-- A link: 200D and the selectors after it.
pub record ZwjLink : Type 0 where
  pub after : List ℕ

-- A further unit and the link before it.
pub record ZwjJoinedEmoji : Type 0 where
  pub link : ZwjLink
  pub emoji : EmojiLike

-- Links alone; or a unit, further units and the links left over.
pub data EmojiSequence : Type 0 where
  links_only : List ZwjLink → EmojiSequence
  emoji_headed : EmojiLike → List ZwjJoinedEmoji → List ZwjLink → EmojiSequence

-- ---- back to characters

-- Each run's tags, then its selectors.
unfoldable pub flatten_runs : List EmojiTagRun → List ℕ
flatten_runs [] = []
flatten_runs (r ∷ rs) = r.tags ++ (r.after ++ flatten_runs rs)

-- A modifier and S; 20E3 and S; or groups of tags and S.
unfoldable pub flatten_modification : EmojiModification → List ℕ
flatten_modification (EmojiModifier c s) = c ∷ s
flatten_modification (EnclosingKeycap s) = 0x20E3 ∷ s
flatten_modification (TagModifier rs) = flatten_runs rs

-- The modifications one after the other.
unfoldable pub flatten_modifications : List EmojiModification → List ℕ
flatten_modifications [] = []
flatten_modifications (m ∷ ms) = flatten_modification m ++ flatten_modifications ms

-- One emoji and S; or RI, S, RI, S.
unfoldable pub flatten_stem : EmojiStem → List ℕ
flatten_stem (SingletonBase c s) = c ∷ s
flatten_stem (Flag a s b t) = a ∷ (s ++ b ∷ t)

-- A stem and its modifications.
unfoldable pub flatten_unit : EmojiLike → List ℕ
flatten_unit u = flatten_stem u.stem ++ flatten_modifications u.modifiers

-- 200D and S.
unfoldable pub flatten_link : ZwjLink → List ℕ
flatten_link l = 0x200D ∷ l.after

-- The links one after the other.
unfoldable pub flatten_links : List ZwjLink → List ℕ
flatten_links [] = []
flatten_links (l ∷ ls) = flatten_link l ++ flatten_links ls

-- Each link, then its unit.
unfoldable pub flatten_joined : List ZwjJoinedEmoji → List ℕ
flatten_joined [] = []
flatten_joined (j ∷ js) = flatten_link j.link ++ (flatten_unit j.emoji ++ flatten_joined js)

-- The characters of a structure.
unfoldable pub flatten : EmojiSequence → List ℕ
flatten (links_only ls) = flatten_links ls
flatten (emoji_headed u js ls) = flatten_unit u ++ (flatten_joined js ++ flatten_links ls)

-- ---- from characters: modifications

-- A tag c and the selectors s after it, added before tag runs. Without a selector in between, c becomes the first tag of the first
-- run.
unfoldable pub tag_to_runs : ℕ → List ℕ → List EmojiTagRun → List EmojiTagRun
tag_to_runs c s [] = record { tags = c ∷ []; after = s } ∷ []
tag_to_runs c [] (r ∷ rs) = record { tags = c ∷ r.tags; after = r.after } ∷ rs
tag_to_runs c (d ∷ s) (r ∷ rs) = record { tags = c ∷ []; after = d ∷ s } ∷ r ∷ rs

-- A tag c and the selectors s after it, added before modifications. Before a tag modification, c becomes part of it.
unfoldable pub tag_to_modifications : ℕ → List ℕ → List EmojiModification → List EmojiModification
tag_to_modifications c s [] = TagModifier (tag_to_runs c s []) ∷ []
tag_to_modifications c s (EmojiModifier d u ∷ ms) = TagModifier (tag_to_runs c s []) ∷ EmojiModifier d u ∷ ms
tag_to_modifications c s (EnclosingKeycap u ∷ ms) = TagModifier (tag_to_runs c s []) ∷ EnclosingKeycap u ∷ ms
tag_to_modifications c s (TagModifier rs ∷ ms) = TagModifier (tag_to_runs c s rs) ∷ ms

-- A character c of the given class, added before selectors and the modifications after them.
unfoldable pub to_modifications : Class → ℕ → List ℕ × List EmojiModification → List ℕ × List EmojiModification
to_modifications modifier c r = ([], EmojiModifier c r.0 ∷ r.1)
to_modifications keycap c r = ([], EnclosingKeycap r.0 ∷ r.1)
to_modifications tag c r = ([], tag_to_modifications c r.0 r.1)
to_modifications selector c r = (c ∷ r.0, r.1)
to_modifications link c r = (c ∷ r.0, r.1)
to_modifications ri c r = (c ∷ r.0, r.1)
to_modifications emoji c r = (c ∷ r.0, r.1)
to_modifications other c r = (c ∷ r.0, r.1)

-- The selectors at the front of the characters after a stem, and the modifications after these selectors.
unfoldable pub modifications_of : List ℕ → List ℕ × List EmojiModification
modifications_of [] = ([], [])
modifications_of (c ∷ t) = to_modifications (class_of c) c (modifications_of t)

-- ---- from characters: stems and units

-- The stem whose first character is the RI a, with its selectors s and the characters after these.
unfoldable pub ri_stem : ℕ → List ℕ → List ℕ → EmojiStem
ri_stem a s [] = SingletonBase a s
ri_stem a s (b ∷ t) = cond (is_ri b) (Flag a s b (selectors_at t)) (SingletonBase a s)

-- The characters after a second RI and its selectors; all of them if the first character is no RI.
unfoldable pub after_second_ri : List ℕ → List ℕ
after_second_ri [] = []
after_second_ri (b ∷ t) = cond (is_ri b) (after_selectors t) (b ∷ t)

-- The unit that begins with a character.
unfoldable pub emoji_like : ℕ → List ℕ → EmojiLike
emoji_like c t = record {
  stem = cond (is_ri c) (ri_stem c (selectors_at t) (after_selectors t)) (SingletonBase c (selectors_at t));
  modifiers = (modifications_of (cond (is_ri c) (after_second_ri (after_selectors t)) (after_selectors t))).1;
}

-- ---- from characters: items

-- The characters before the first 200D, and the characters after each 200D up to the next.
unfoldable pub split_at_links : List ℕ → List ℕ × List (List ℕ)
split_at_links [] = ([], [])
split_at_links (c ∷ t) =
    let r = split_at_links t in
    cond (eqb c 0x200D) ([], r.0 ∷ r.1) (c ∷ r.0, r.1)

-- The link whose selectors stand at the front of the characters after its 200D.
abbrev pub link_of : List ℕ → ZwjLink
link_of s = record { after = selectors_at s }

-- One more link l. The characters after its selectors, if there are any, are a unit that it joins. Otherwise l and all later links
-- are left over.
unfoldable pub join_one : ZwjLink → List ℕ → List (List ℕ) → List ZwjJoinedEmoji × List ZwjLink → List ZwjJoinedEmoji × List ZwjLink
join_one l [] ss r = ([], l ∷ map link_of ss)
join_one l (c ∷ t) ss r = (record { link = l; emoji = emoji_like c t } ∷ r.0, r.1)

-- The joined units and the links left over, from the lists of characters after each 200D.
unfoldable pub joined_of : List (List ℕ) → List ZwjJoinedEmoji × List ZwjLink
joined_of [] = ([], [])
joined_of (s ∷ ss) = join_one (link_of s) (after_selectors s) ss (joined_of ss)

-- The structure, from the characters before the first 200D and the lists of characters after each 200D.
unfoldable pub sequence_of : List ℕ → List (List ℕ) → EmojiSequence
sequence_of [] ss = links_only (map link_of ss)
sequence_of (c ∷ t) ss = emoji_headed (emoji_like c t) (joined_of ss).0 (joined_of ss).1

-- The structure of a links-only or emoji-headed item.
unfoldable pub structure : List ℕ → EmojiSequence
structure t = sequence_of (split_at_links t).0 (split_at_links t).1

-- ---- the tags in a structure

-- The tags of one tag modification, without selectors.
unfoldable pub tags_of_runs : List EmojiTagRun → List ℕ
tags_of_runs [] = []
tags_of_runs (r ∷ rs) = r.tags ++ tags_of_runs rs

-- The tags of each tag modification among modifications.
unfoldable pub tags_of_modifications : List EmojiModification → List (List ℕ)
tags_of_modifications [] = []
tags_of_modifications (EmojiModifier c s ∷ ms) = tags_of_modifications ms
tags_of_modifications (EnclosingKeycap s ∷ ms) = tags_of_modifications ms
tags_of_modifications (TagModifier rs ∷ ms) = tags_of_runs rs ∷ tags_of_modifications ms

-- The tags of each tag modification in the further units.
unfoldable pub tags_of_joined : List ZwjJoinedEmoji → List (List ℕ)
tags_of_joined [] = []
tags_of_joined (j ∷ js) = tags_of_modifications j.emoji.modifiers ++ tags_of_joined js

-- The tags of each tag modification in a structure.
unfoldable pub tags_of : EmojiSequence → List (List ℕ)
tags_of (links_only ls) = []
tags_of (emoji_headed u js ls) = tags_of_modifications u.modifiers ++ tags_of_joined js
