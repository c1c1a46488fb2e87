-- The structure of links-only and emoji-headed items: `flatten` gives their characters back, the grammar derives its parts, and its
-- tags are those that `tag_modifications` finds.
use mathlib.Core.Path.{◌≡◌, refl, ap, ap₂, sym, ◌∙◌, subst}
use mathlib.Core.Bool.{false}
use mathlib.Core.List.Memᴰ
use mathlib.Core.List.{List, [], ◌∷◌, ◌++◌, append_assoc, append-nil, map, Memᴰ}
use mathlib.Core.Logic.{⊎_elim}
use Prim.Native.Nat.{ℕ}
use lib.Dec.{eqb}
use Rattle.emoji.specs.Presentation.{is_selector}
use Rattle.scanner.specs.Grammar.{
  S,
  Modification,
  modifier_with_selectors,
  keycap_with_selectors,
  tag_groups,
  Link,
  a_link,
  Links,
  no_links,
  link_and,
  EmojiUnit,
  JoinedUnits,
  no_units,
  joined_and,
  Derives,
  only_links,
  headed_by_emoji,
}
use Rattle.scanner.specs.Items.{Item, items}
use Rattle.scanner.specs.Runs.{after_selectors, selectors_at}
use Rattle.scanner.specs.Structure.{
  EmojiLike,
  EmojiModification,
  EmojiSequence,
  ZwjJoinedEmoji,
  ZwjLink,
  split_at_links,
  emoji_headed,
  emoji_like,
  flatten,
  flatten_joined,
  flatten_link,
  flatten_links,
  flatten_modification,
  flatten_unit,
  join_one,
  joined_of,
  link_of,
  links_only,
  sequence_of,
  structure,
  tags_of,
  tags_of_joined,
}
use Rattle.scanner.specs.Tags.{tag_modifications, tag_runs, with_tags}
use Rattle.scanner.specs.Theorems.{StructureDerives, Structured, UnitDerives}
use Rattle.scanner.specs.declared.ScanKind.{ScanKind}
use Rattle.scanner.specs.declared.ScanKind.TheVariants.{EmojiHeaded, LinksOnly}
use Rattle.scanner.proofs.Classes.{emoji_no_selector}
use Rattle.scanner.proofs.Runs.{Stops, at_char, at_end, S_passes, passes_S, run_all, run-passes, after_all}
use Rattle.scanner.proofs.Modifications.{
  ModificationsOk,
  all_ok,
  keycap_ok,
  modifier_ok,
  tags_ok,
  modifications_ok,
  modifications_run,
  runs_derive,
}
use Rattle.scanner.proofs.Units.{NoLink, no_more, no_link_and, S_no_link, UnitRead, unit_flatten, unit_no_link, unit_read_lem}
use Rattle.scanner.proofs.Tags.{link_tags, unit_tags}
use Rattle.scanner.proofs.Reading.{item_derives}

-- ---- splitting at links

split_at_links-char : (c : ℕ) (t : List ℕ) → eqb c 0x200D ≡ false
    → split_at_links (c ∷ t) ≡ (c ∷ (split_at_links t).0, (split_at_links t).1)
unfolding split_at_links
split_at_links-char c t e = simp e

split_at_links_no_link : {v : List ℕ} (w : List ℕ) → NoLink v → split_at_links (v ++ w) ≡ (v ++ (split_at_links w).0, (split_at_links w).1)
split_at_links_no_link w no_more = refl
split_at_links_no_link w (no_link_and {c = c} {s = s} e h) = split_at_links-char c (s ++ w) e
    ∙ ap (λ (r : List ℕ × List (List ℕ)). (c ∷ r.0, r.1)) (split_at_links_no_link w h)

split_at_links_link : (t : List ℕ) → split_at_links (0x200D ∷ t) ≡ ([], (split_at_links t).0 ∷ (split_at_links t).1)
unfolding split_at_links
split_at_links_link t = refl

-- ---- characters and their structure

-- Characters and the links that they are.
pub data LinksAre : List ℕ → List ZwjLink → Type 0 where
  no_links_are : LinksAre [] []
  link_are : {s l : List ℕ} {ls : List ZwjLink} → S s → LinksAre l ls → LinksAre (0x200D ∷ (s ++ l)) (record { after = s } ∷ ls)

-- Characters and the further units and links left over that they are.
pub data JoinsAre : List ℕ → List ZwjJoinedEmoji → List ZwjLink → Type 0 where
  no_joins_are : {l : List ℕ} {ls : List ZwjLink} → LinksAre l ls → JoinsAre l [] ls
  join-are :
      {s v w : List ℕ} {js : List ZwjJoinedEmoji} {ls : List ZwjLink} → S s → (d : EmojiUnit v) → JoinsAre w js ls
      → JoinsAre (0x200D ∷ (s ++ (v ++ w)))
      (record { link = record { after = s }; emoji = emoji_like (unit_read_lem d).char (unit_read_lem d).rest } ∷ js) ls

-- The characters of an item and its structure.
pub data SequenceAre : List ℕ → EmojiSequence → Type 0 where
  links_are : {l : List ℕ} {ls : List ZwjLink} → LinksAre l ls → SequenceAre l (links_only ls)
  emoji-are :
      {v w : List ℕ} {js : List ZwjJoinedEmoji} {ls : List ZwjLink} (d : EmojiUnit v) → JoinsAre w js ls
      → SequenceAre (v ++ w) (emoji_headed (emoji_like (unit_read_lem d).char (unit_read_lem d).rest) js ls)

-- ---- links

link_derives : (s : List ℕ) → Link (flatten_link (link_of s))
unfolding flatten_link
link_derives s = a_link (passes_S (run-passes is_selector s))

links_derive : (ss : List (List ℕ)) (l : ZwjLink) → Memᴰ l (map link_of ss) → Link (flatten_link l)
links_derive ss l m = let p = Memᴰ.of_map link_of ss m in subst (λ (x : ZwjLink). Link (flatten_link x)) p.2 (link_derives p.0)

-- A run of links: no character stands before the first link, and all links are left over.
record LinksRead (l : List ℕ) : Type 0 where
  before : (split_at_links l).0 ≡ []
  flat : flatten_links (map link_of (split_at_links l).1) ≡ l
  left : joined_of (split_at_links l).1 ≡ ([], map link_of (split_at_links l).1)
  tags : tag_runs l ≡ ([], [])
  are : LinksAre l (map link_of (split_at_links l).1)

link_more : {s l : List ℕ} → S s → LinksRead l → LinksRead (0x200D ∷ (s ++ l))
unfolding flatten_links flatten_link joined_of join_one tag_modifications with_tags
link_more {s} {l} h r =
    let ss = (split_at_links l).1 in
    let c : split_at_links (0x200D ∷ (s ++ l)) ≡ ([], (s ++ []) ∷ ss) =
    split_at_links_link (s ++ l) ∙ ap (λ (a : List ℕ × List (List ℕ)). ([], a.0 ∷ a.1))
    (split_at_links_no_link l (S_no_link h) ∙ ap (λ (b : List ℕ). (s ++ b, ss)) r.before) in
    let p : selectors_at (s ++ []) ≡ s = run_all is_selector (S_passes h) at_end in
    let q : after_selectors (s ++ []) ≡ [] = after_all is_selector (S_passes h) at_end in
    record {
      before = ap (λ (a : List ℕ × List (List ℕ)). a.0) c;
      flat = ap (λ (a : List ℕ × List (List ℕ)). flatten_links (map link_of a.1)) c
          ∙ ap₂ (λ (a b : List ℕ). 0x200D ∷ (a ++ b)) p r.flat;
      left = ap (λ (a : List ℕ × List (List ℕ)). joined_of a.1) c
          ∙ ap (λ (b : List ℕ). join_one (link_of (s ++ [])) b ss (joined_of ss)) q
          ∙ ap (λ (a : List ℕ × List (List ℕ)). ([], map link_of a.1)) (sym c);
      tags = link_tags l h ∙ ap (λ (a : List ℕ × List (List ℕ)). ([], with_tags a.0 a.1)) r.tags;
      are = subst (LinksAre (0x200D ∷ (s ++ l)))
          (sym (ap (λ (a : List ℕ × List (List ℕ)). map link_of a.1) c ∙ ap (λ (a : List ℕ). record { after = a } ∷ map link_of ss) p))
          (link_are h r.are);
    }

links-read : {l : List ℕ} → Links l → LinksRead l
unfolding split_at_links flatten_links joined_of tag_runs
links-read no_links = record { before = refl; flat = refl; left = refl; tags = refl; are = no_links_are }
links-read (link_and (a_link h) l) = link_more h (links-read l)

-- ---- units

each_derives : {ms : List EmojiModification} → ModificationsOk ms → (m : EmojiModification) → Memᴰ m ms
    → Modification (flatten_modification m)
unfolding flatten_modification
each_derives all_ok m i = absurd (Memᴰ.not-nil i)
each_derives (modifier_ok e s h) m
    i = ⊎_elim (λ p. subst (λ (x : EmojiModification). Modification (flatten_modification x)) (sym p) (modifier_with_selectors e s))
    (λ j. each_derives h m j) (Memᴰ.cases_cons i)
each_derives (keycap_ok s h) m i = ⊎_elim (λ p. subst (λ (x : EmojiModification). Modification (flatten_modification x)) (sym p)
    (keycap_with_selectors s)) (λ j. each_derives h m j) (Memᴰ.cases_cons i)
each_derives (tags_ok r h) m i = ⊎_elim (λ p. subst (λ (x : EmojiModification). Modification (flatten_modification x)) (sym p)
    (tag_groups (runs_derive r))) (λ j. each_derives h m j) (Memᴰ.cases_cons i)

unit_derives : {v : List ℕ} (r : UnitRead v) → UnitDerives (emoji_like r.char r.rest)
unit_derives r = subst UnitDerives (sym r.like) (record {
  stem_derives = r.stem_derives;
  modifications_derive = each_derives (modifications_ok (modifications_run r.modifications_derive)).1;
})

-- ---- joined units and the links left over

record JoinsRead (w : List ℕ) : Type 0 where
  before : (split_at_links w).0 ≡ []
  joined : List ZwjJoinedEmoji
  left : List ZwjLink
  parts : joined_of (split_at_links w).1 ≡ (joined, left)
  flat : flatten_joined joined ++ flatten_links left ≡ w
  tags : tag_runs w ≡ ([], tags_of_joined joined)
  joined_derive : (j : ZwjJoinedEmoji) → Memᴰ j joined → Link (flatten_link j.link) × UnitDerives j.emoji
  left_over_derives : (l : ZwjLink) → Memᴰ l left → Link (flatten_link l)
  are : JoinsAre w joined left

no_joins : {l : List ℕ} → LinksRead l → JoinsRead l
unfolding flatten_joined tags_of_joined
no_joins {l} r = record {
  before = r.before;
  joined = [];
  left = map link_of (split_at_links l).1;
  parts = r.left;
  flat = r.flat;
  tags = r.tags;
  joined_derive = λ j m. absurd (Memᴰ.not-nil m);
  left_over_derives = links_derive (split_at_links l).1;
  are = no_joins_are r.are;
}

one-join : {s v w : List ℕ} → S s → EmojiUnit v → JoinsRead w → JoinsRead (0x200D ∷ (s ++ (v ++ w)))
unfolding flatten_joined flatten_link joined_of join_one tags_of_joined tag_modifications with_tags
one-join {s} {v} {w} h d r =
    let u = unit_read_lem d in
    let ss = (split_at_links w).1 in
    let x : EmojiLike = emoji_like u.char u.rest in
    let st : Stops is_selector v = subst (Stops is_selector) (sym u.split) (at_char (emoji_no_selector u.char u.is_emoji_lem)) in
    let c : split_at_links (0x200D ∷ (s ++ (v ++ w))) ≡ ([], (s ++ v) ∷ ss) =
    split_at_links_link (s ++ (v ++ w)) ∙ ap (λ (a : List ℕ × List (List ℕ)). ([], a.0 ∷ a.1))
    (split_at_links_no_link (v ++ w) (S_no_link h)
    ∙ ap (λ (a : List ℕ × List (List ℕ)). (s ++ a.0, a.1))
    (split_at_links_no_link w (unit_no_link d) ∙ ap (λ (b : List ℕ). (b, ss)) (ap (λ (b : List ℕ). v ++ b) r.before ∙ append-nil v))) in
    let p : selectors_at (s ++ v) ≡ s = run_all is_selector (S_passes h) st in
    let q : after_selectors (s ++ v) ≡ u.char ∷ u.rest = after_all is_selector (S_passes h) st ∙ u.split in
    let l : ZwjLink = record { after = s } in
    record {
      before = ap (λ (a : List ℕ × List (List ℕ)). a.0) c;
      joined = record { link = l; emoji = x } ∷ r.joined;
      left = r.left;
      parts = ap (λ (a : List ℕ × List (List ℕ)). joined_of a.1) c
          ∙ ap₂ (λ (a b : List ℕ). join_one (record { after = a }) b ss (joined_of ss)) p q
          ∙ ap (λ (a : List ZwjJoinedEmoji × List ZwjLink). (record { link = l; emoji = x } ∷ a.0, a.1)) r.parts;
      flat = ap (λ (a : List ℕ). 0x200D ∷ a) (append_assoc s (flatten_unit x ++ flatten_joined r.joined) (flatten_links r.left)
          ∙ ap (λ (a : List ℕ). s ++ a) (append_assoc (flatten_unit x) (flatten_joined r.joined) (flatten_links r.left)
          ∙ ap₂ (λ (a b : List ℕ). a ++ b) (unit_flatten u) r.flat));
      tags = link_tags (v ++ w) h ∙ ap (λ (a : List ℕ × List (List ℕ)). ([], with_tags a.0 a.1))
          (unit_tags w (tags_of_joined r.joined) r.tags u);
      joined_derive = λ j m. ⊎_elim (λ e. subst (λ (y : ZwjJoinedEmoji). Link (flatten_link y.link) × UnitDerives y.emoji) (sym e)
          (a_link h, unit_derives u)) (λ i. r.joined_derive j i) (Memᴰ.cases_cons m);
      left_over_derives = r.left_over_derives;
      are = join-are h d r.are;
    }

joins-read : {j l : List ℕ} → JoinedUnits j → Links l → JoinsRead (j ++ l)
joins-read no_units l = no_joins (links-read l)
joins-read {l = l} (joined_and {v = v} {j = j} (a_link {s = s} h) d k) m =
    subst JoinsRead (ap (λ (a : List ℕ). 0x200D ∷ a) (sym (append_assoc s (v ++ j) l ∙ ap (λ (a : List ℕ). s ++ a) (append_assoc v j l))))
    (one-join h d (joins-read k m))

-- ---- items

-- The properties of an item's structure that the statements claim.
pub record StructureRead (t : List ℕ) : Type 0 where
  pub flat : flatten (structure t) ≡ t
  pub derives : StructureDerives (structure t)
  pub tags : tag_modifications t ≡ tags_of (structure t)
  pub are : SequenceAre t (structure t)

sequence_read : {v w : List ℕ} → EmojiUnit v → JoinsRead w → StructureRead (v ++ w)
unfolding structure sequence_of flatten tags_of tag_modifications with_tags StructureDerives
sequence_read {v} {w} d r =
    let u = unit_read_lem d in
    let x : EmojiLike = emoji_like u.char u.rest in
    let e : structure (v ++ w) ≡ emoji_headed x r.joined r.left =
    ap (λ (a : List ℕ × List (List ℕ)). sequence_of a.0 a.1) (split_at_links_no_link w (unit_no_link d))
    ∙ ap (λ (b : List ℕ). sequence_of b (split_at_links w).1) (ap (λ (b : List ℕ). v ++ b) r.before ∙ append-nil v ∙ u.split)
    ∙ ap (λ (a : List ZwjJoinedEmoji × List ZwjLink). emoji_headed x a.0 a.1) r.parts in
    record {
      flat = ap flatten e ∙ ap₂ (λ (a b : List ℕ). a ++ b) (unit_flatten u) r.flat;
      derives = subst StructureDerives (sym e) (unit_derives u, r.joined_derive, r.left_over_derives);
      tags = ap (λ (a : List ℕ × List (List ℕ)). with_tags a.0 a.1) (unit_tags w (tags_of_joined r.joined) r.tags u)
          ∙ sym (ap tags_of e);
      are = subst (SequenceAre (v ++ w)) (sym e) (emoji-are d r.are);
    }

pub emoji_headed_read : {t : List ℕ} → Derives EmojiHeaded t → StructureRead t
emoji_headed_read (headed_by_emoji v j l) = sequence_read v (joins-read j l)

pub links-only-read : {t : List ℕ} → Derives LinksOnly t → StructureRead t
unfolding structure sequence_of flatten tags_of tag_modifications with_tags StructureDerives
links-only-read {t} (only_links a l) =
    let r = links-read (link_and a l) in
    let e : structure t ≡ links_only (map link_of (split_at_links t).1) = ap (λ (b : List ℕ). sequence_of b (split_at_links t).1)
    r.before in
    record {
      flat = ap flatten e ∙ r.flat;
      derives = subst StructureDerives (sym e) (links_derive (split_at_links t).1);
      tags = ap (λ (b : List ℕ × List (List ℕ)). with_tags b.0 b.1) r.tags ∙ sym (ap tags_of e);
      are = subst (SequenceAre t) (sym e) (links_are r.are);
    }

-- The structure of a links-only or emoji-headed item.
pub item-structure : (t : List ℕ) (x : Item) → Memᴰ x (items t) → Structured x.kind → StructureRead x.chars
item-structure t x m k =
    ⊎_elim (λ e. links-only-read (subst (λ (i : ScanKind). Derives i x.chars) e (item_derives t x m)))
    (λ e. emoji_headed_read (subst (λ (i : ScanKind). Derives i x.chars) e (item_derives t x m))) k
