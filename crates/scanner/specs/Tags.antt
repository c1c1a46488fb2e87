-- Whether the tags of an item are complete (document 01, "Item", tag report; document 02, (i)): `tags_complete_of`.
use Rattle.std.specs.Prelude.{Bool, true, false, not, cond, ◌&&◌, List, [], ◌∷◌, ℕ, eqb}
use Rattle.emoji.specs.Presentation.{is_selector}
use Rattle.emoji.specs.Unicode.{is_tag}
use Rattle.scanner.specs.declared.ScanKind.{ScanKind}
use Rattle.scanner.specs.declared.ScanKind.TheVariants.{EmojiHeaded, LinksOnly, Passthrough, UnsanctionedPresentationSelectors}

abbrev pub is_cancel : ℕ → Bool
is_cancel c = eqb c 0xE007F

abbrev pub is_empty : List ℕ → Bool
is_empty [] = true
is_empty (c ∷ ts) = false

-- Document 02, (i): ".. E007F last, nowhere earlier ..".
unfoldable pub ends_in_cancel : List ℕ → Bool
ends_in_cancel [] = false
ends_in_cancel (c ∷ ts) = cond (is_cancel c) (is_empty ts) (ends_in_cancel ts)

-- The tags of one tag modification, "selectors skipped": ".. one or more of E0020 to E007E and then one E007F": "E007F last, nowhere
-- earlier, and at least one tag before it".
unfoldable pub complete : List ℕ → Bool
complete [] = false
complete (c ∷ ts) = not (is_cancel c) && ends_in_cancel ts

-- Whether each of several lists of tags is complete.
unfoldable pub all_complete : List (List ℕ) → Bool
all_complete [] = true
all_complete (ts ∷ tss) = complete ts && all_complete tss

-- Lists of tags with one more in front; an empty list of tags is left out.
unfoldable pub with_tags : List ℕ → List (List ℕ) → List (List ℕ)
with_tags [] tss = tss
with_tags (c ∷ ts) tss = (c ∷ ts) ∷ tss

-- First, the tags at the front, without selectors, up to the first character that is neither tag nor selector. Second, the tags of
-- each tag modification after that character.
unfoldable pub tag_runs : List ℕ → List ℕ × List (List ℕ)
tag_runs [] = ([], [])
tag_runs (c ∷ t) =
    let r = tag_runs t in
    cond (is_tag c) (c ∷ r.0, r.1) (cond (is_selector c) r ([], with_tags r.0 r.1))

-- The tags of each tag modification in the characters of an emoji-headed item.
unfoldable pub tag_modifications : List ℕ → List (List ℕ)
tag_modifications t = with_tags (tag_runs t).0 (tag_runs t).1

-- ".. when every tag modification in it .."; document 02, (i): "An item without tags is still complete." Only emoji-headed items have
-- tag modifications.
unfoldable pub tags_complete_of : ScanKind → List ℕ → Bool
tags_complete_of Passthrough t = true
tags_complete_of UnsanctionedPresentationSelectors t = true
tags_complete_of LinksOnly t = true
tags_complete_of EmojiHeaded t = all_complete (tag_modifications t)
