-- The grammar of document 01, "Item", in its words and order, and the definition of a reading of a text by this grammar.
-- A text has exactly one reading, and `items` computes it: specs/Theorems.antt, ItemsAreAReading and OnlyReading.
use Rattle.std.specs.Prelude.{◌≡◌, true, false, List, [], ◌∷◌, ◌++◌, ℕ, eqb}
use Rattle.emoji.specs.Presentation.{is_selector}
use Rattle.emoji.specs.Unicode.{is_emoji, is_emoji_modifier, is_ri, is_tag}
use Rattle.scanner.specs.Items.{Item}
use Rattle.scanner.specs.declared.ScanKind.{ScanKind}
use Rattle.scanner.specs.declared.ScanKind.TheVariants.{EmojiHeaded, LinksOnly, Passthrough, UnsanctionedPresentationSelectors}

-- "S is any number of selectors."
pub data S : List ℕ → Type 0 where
  no_selectors : S []
  selector_and : {c : ℕ} {s : List ℕ} → is_selector c ≡ true → S s → S (c ∷ s)

-- ".. one or more tags"
pub data Tags : List ℕ → Type 0 where
  one_tag : {c : ℕ} → is_tag c ≡ true → Tags (c ∷ [])
  tag_and : {c : ℕ} {s : List ℕ} → is_tag c ≡ true → Tags s → Tags (c ∷ s)

-- ".. one or more groups of one or more tags and S"
pub data TagGroups : List ℕ → Type 0 where
  one_group : {t s : List ℕ} → Tags t → S s → TagGroups (t ++ s)
  group_and : {t s r : List ℕ} → Tags t → S s → TagGroups r → TagGroups (t ++ (s ++ r))

-- "Modification: a modifier and S; 20E3 and S; or one or more groups of one or more tags and S."
pub data Modification : List ℕ → Type 0 where
  modifier_with_selectors : {c : ℕ} {s : List ℕ} → is_emoji_modifier c ≡ true → S s → Modification (c ∷ s)
  keycap_with_selectors : {s : List ℕ} → S s → Modification (0x20E3 ∷ s)
  tag_groups : {t : List ℕ} → TagGroups t → Modification t

-- "Stem: RI, S, RI, S (a flag); otherwise one emoji and S."
pub data Stem : List ℕ → Type 0 where
  flag : {s t : List ℕ} (a b : ℕ) → is_ri a ≡ true → S s → is_ri b ≡ true → S t → Stem (a ∷ (s ++ b ∷ t))
  single : {c : ℕ} {s : List ℕ} → is_emoji c ≡ true → S s → Stem (c ∷ s)

-- ".. its modifications": any number of them, one after the other.
pub data Modifications : List ℕ → Type 0 where
  unmodified : Modifications []
  modified : {s t : List ℕ} → Modification s → Modifications t → Modifications (s ++ t)

-- "Unit: a stem and its modifications."
pub data EmojiUnit : List ℕ → Type 0 where
  unit_of : {s m : List ℕ} → Stem s → Modifications m → EmojiUnit (s ++ m)

-- ".. each 200D and S"
pub data Link : List ℕ → Type 0 where
  a_link : {s : List ℕ} → S s → Link (0x200D ∷ s)

-- Any number of links.
pub data Links : List ℕ → Type 0 where
  no_links : Links []
  link_and : {a l : List ℕ} → Link a → Links l → Links (a ++ l)

-- ".. further units each joined by exactly one link"
pub data JoinedUnits : List ℕ → Type 0 where
  no_units : JoinedUnits []
  joined_and : {a v j : List ℕ} → Link a → EmojiUnit v → JoinedUnits j → JoinedUnits (a ++ (v ++ j))

-- A character that is neither a selector nor 200D nor emoji.
pub record Plain (c : ℕ) : Type 0 where
  pub no_selector : is_selector c ≡ false
  pub no_link : eqb c 0x200D ≡ false
  pub no_emoji : is_emoji c ≡ false

-- Any number of plain characters.
pub data PlainRun : List ℕ → Type 0 where
  no_plain : PlainRun []
  plain_and : {c : ℕ} {s : List ℕ} → Plain c → PlainRun s → PlainRun (c ∷ s)

-- The four kinds of item, and the characters that an item of each kind can have.
pub data Derives : ScanKind → List ℕ → Type 0 where
  -- "At 200D an item is the run of links, each 200D and S."
  only_links : {a l : List ℕ} → Link a → Links l → Derives LinksOnly (a ++ l)
  -- "At a selector it is the run of selectors, unsanctioned."
  run_of_selectors : {c : ℕ} {s : List ℕ} → is_selector c ≡ true → S s → Derives UnsanctionedPresentationSelectors (c ∷ s)
  -- "At an emoji it is a unit, then further units each joined by exactly one link, then the links left over, each link again with its S."
  headed_by_emoji : {v j l : List ℕ} → EmojiUnit v → JoinedUnits j → Links l → Derives EmojiHeaded (v ++ (j ++ l))
  -- "Otherwise passthrough, up to the next selector, 200D or emoji."
  passthrough : {c : ℕ} {s : List ℕ} → Plain c → PlainRun s → Derives Passthrough (c ∷ s)

-- "Each choice takes the longest run": r is the text after the item. No beginning of r can be added to the item so that the result
-- is again an item of any of the four kinds.
unfoldable pub Longest : Item → List ℕ → Type 0
Longest x r = (k : ScanKind) (d : ℕ) (f g : List ℕ) → r ≡ d ∷ (f ++ g) → Derives k (x.chars ++ d ∷ f) → ⊥

-- A reading of a text: a list of items that are the text, one after the other. Each item is derived by its kind, and none can be
-- longer.
pub data Reads : List ℕ → List Item → Type 0 where
  at_the_end : Reads [] []
  reads_item : {x : Item} {xs : List Item} (r : List ℕ) → Derives x.kind x.chars → Longest x r → Reads r xs
      → Reads (x.chars ++ r) (x ∷ xs)
