-- Calls of the functions that read the parts of an item, from its start to its end: they give its structure, unit by unit and link
-- by link.
use Rattle.std.specs.Prelude.{Some}
use mathlib.Core.Path.{◌≡◌, refl, ap, sym, ◌∙◌, subst}
use mathlib.Core.Logic.{⊎_elim}
use mathlib.Core.Bool.{Bool, true, false, cond, true≢false}
use mathlib.Core.List.{List, [], ◌∷◌, ◌++◌, append_assoc, append-nil, head-eq_of_cons-eq}
use Prim.Native.Nat.{ℕ, ◌+◌, ◌<◌}
use native.Mathlib.Omega.{arith}
use borrow.Author.Tests.{eq-eqb}
use lib.Dec.{eqb}
use lib.ListN.{drop}
use Rattle.base.proofs.Tests.{le_or_lt}
use Rattle.utf8.specs.Rfc3629.{chars}
use Rattle.emoji.specs.Presentation.{is_selector}
use Rattle.emoji.specs.Theorems.{LinkAndKeycapAreNotEmoji}
use Rattle.emoji.specs.Unicode.{is_emoji}
use Rattle.emoji.proofs.Claims.{link_and_keycap_are_not_emoji}
use Rattle.scanner.specs.Classes.{strip}
use Rattle.scanner.specs.Grammar.{
  Derives,
  headed_by_emoji,
  EmojiUnit,
  joined_and,
  no_units,
  no_links,
  Longest,
  Reads,
  reads_item,
  S,
  a_link,
}
use Rattle.scanner.specs.Items.{Item, items}
use Rattle.scanner.specs.SelectorRun.{selectors_from}
use Rattle.item_parts.specs.Parts.{joins, link_from, link_read, part_read}
use Rattle.scanner.specs.Spans.{size, width}
use Rattle.scanner.specs.Structure.{EmojiSequence, ZwjJoinedEmoji, ZwjLink, emoji_like, flatten_link, flatten_unit, structure}
use Rattle.scanner.specs.Theorems.{Structured}
use Rattle.item_parts.specs.Walks.{JoinsWalk, no-more-units, unit-and, LinksWalk, link_and, links_end, SequenceWalk}
use Rattle.scanner.specs.declared.ScanKind.TheVariants.{EmojiHeaded}
use Rattle.item_parts.specs.declared.SequencePart.TheVariants.{JoiningLink, LeftOverLink}
use Rattle.scanner.proofs.Bytes.{chars-from, width_some}
use Rattle.scanner.proofs.Classes.{emoji_no_selector}
use Rattle.scanner.proofs.Reading.{derive_head, derive_inner, derives_alike, reading}
use Rattle.scanner.proofs.Rescan.{size_append}
use Rattle.scanner.proofs.Runs.{Stops, at_char, at_end, S_passes, run_all}
use Rattle.scanner.proofs.Structure.{
  JoinsAre,
  join-are,
  no_joins_are,
  LinksAre,
  link_are,
  no_links_are,
  SequenceAre,
  emoji-are,
  links_are,
}
use Rattle.item_parts.proofs.UnitWalks.{Last, unit_walk}
use Rattle.scanner.proofs.Units.{NoLink, no_link_and, unit_flatten, unit_no_link, unit_read_lem}
use Rattle.item_parts.proofs.PartsAt.{a_link as link_value}
use Rattle.item_parts.proofs.UnitsAt.{joins-is, part-last, part-past}
use Rattle.scanner.proofs.Walk.{strip_selector}

-- ---- one link

module _ (text : List ℕ) (end at : ℕ) {s t : List ℕ} (h : S s) (p : Stops is_selector t)
    (e : chars (drop at text) ≡ 0x200D ∷ (s ++ t)) where
  the_link : ZwjLink
  the_link = record { after = s }

  link_is : link_value (link_from at the_link) ≡ link_read at (chars (drop at text))
  unfolding link_read link_from the_link
  link_is = sym (ap (link_read at) e ∙ ap (λ (x : List ℕ). link_value (selectors_from (at + width 0x200D) x))
      (run_all is_selector (S_passes h) p))

  link_end : (link_from at the_link).end ≡ at + size width (0x200D ∷ s)
  unfolding link_from the_link
  link_end = omega arith

  link_after : chars (drop (link_from at the_link).end text) ≡ t
  link_after = ap (λ (n : ℕ). chars (drop n text)) link_end ∙ chars-from text at (0x200D ∷ s) t e

  -- A link is left over if no emoji follows it within the item.
  link_left_over : at < end → ((link_from at the_link).end < end → Stops is_emoji t)
      → part_read text end at ≡ Some (LeftOverLink (link_from at the_link))
  unfolding joins
  link_left_over n q = ⊎_elim (λ k. sym (part-last text end at n link_is k))
      (λ k. sym (joins-is text end at n link_is k) ∙ ap (λ (l : List ℕ). Some (joins (link_from at the_link) l)) link_after
      ∙ ap Some (go (q k)))
      (le_or_lt end (link_from at the_link).end)
    where
      go : {u : List ℕ} → Stops is_emoji u → joins (link_from at the_link) u ≡ LeftOverLink (link_from at the_link)
      go at_end = refl
      go (at_char f) = ap (λ (b : Bool). cond b (JoiningLink (link_from at the_link)) (LeftOverLink (link_from at the_link))) f

  -- A link joins the emoji that follows it within the item.
  link_joins : {c : ℕ} {u : List ℕ} → at < end → (link_from at the_link).end < end → t ≡ c ∷ u → is_emoji c ≡ true → part_read text end at
      ≡ Some (JoiningLink (link_from at the_link))
  unfolding joins
  link_joins n k q f =
      sym (joins-is text end at n link_is k) ∙ ap (λ (l : List ℕ). Some (joins (link_from at the_link) l)) (link_after ∙ q)
      ∙ ap (λ (b : Bool). Some (cond b (JoiningLink (link_from at the_link)) (LeftOverLink (link_from at the_link)))) f

-- ---- the links left over

links_emoji : {l : List ℕ} {ls : List ZwjLink} (r : List ℕ) → LinksAre l ls → 0 < size width l → Stops is_emoji (l ++ r)
unfolding LinkAndKeycapAreNotEmoji
links_emoji r no_links_are n = absurd (omega arith)
links_emoji r (link_are h k) n = at_char link_and_keycap_are_not_emoji.0

links_selector : {l r : List ℕ} {ls : List ZwjLink} → LinksAre l ls → Stops is_selector r → Stops is_selector (l ++ r)
unfolding is_selector
links_selector no_links_are p = p
links_selector (link_are h k) p = at_char refl

links_walk : {l : List ℕ} {ls : List ZwjLink} (text : List ℕ) (end at : ℕ) (r : List ℕ) → LinksAre l ls → Stops is_selector r
    → chars (drop at text) ≡ l ++ r
    → at + size width l ≡ end → LinksWalk text end at ls
unfolding flatten_link the_link
links_walk text end at r no_links_are p e n = links_end {at = at} (omega arith) (sym (part-past text end at (omega arith)))
links_walk text end at r (link_are {s = s} {l = l} h k) p e n =
    let q = e ∙ ap (λ (x : List ℕ). 0x200D ∷ x) (append_assoc s l r) in
    let b = links_selector k p in
    let z = size_append width s l in
    link_and (link_left_over text end at h b q (omega (arith, n, z, width_some 0x200D))
    (λ i. links_emoji r k (omega (arith, n, z, i, link_end text end at h b q))))
    (links_walk text end (at + size width (0x200D ∷ s)) r k p (chars-from text at (0x200D ∷ s) (l ++ r) q) (omega (arith, n, z)))

-- ---- a unit, before the other characters of the item and before those after it

last_link : (s : List ℕ) (d : ℕ) → NoLink (s ++ d ∷ []) → eqb d 0x200D ≡ false
last_link [] d (no_link_and e k) = e
last_link (c ∷ s) d (no_link_and e k) = last_link s d k

before_link : {v t : List ℕ} → Last v (0x200D ∷ t)
unfolding is_selector
before_link {v} = record {
  no_selector = at_char refl;
  no_more = λ d f e u. true≢false (sym (eq-eqb d 0x200D (sym (head-eq_of_cons-eq e))) ∙ last_link v d (unit_no_link u));
}

-- The first character of r cannot be added to the characters t of an item.
abbrev Whole : List ℕ → List ℕ → Type 0
Whole t r = (d : ℕ) (f : List ℕ) → r ≡ d ∷ f → Derives EmojiHeaded (t ++ d ∷ []) → ⊥

last_unit : {v w r : List ℕ} {js : List ZwjJoinedEmoji} {ls : List ZwjLink} → JoinsAre w js ls → Stops is_selector r → Whole (v ++ w) r
    → Last v (w ++ r)
last_unit {v} (no_joins_are no_links_are) p n = record {
  no_selector = p;
  no_more = λ d f e u. n d f e (subst (Derives EmojiHeaded)
      (append-nil (v ++ d ∷ []) ∙ ap (λ (x : List ℕ). x ++ d ∷ []) (sym (append-nil v))) (headed_by_emoji u no_units no_links));
}
last_unit (no_joins_are (link_are h k)) p n = before_link
last_unit (join-are h d k) p n = before_link

join_before : {v s t : List ℕ} → EmojiUnit v → S s → Derives EmojiHeaded t → Derives EmojiHeaded (v ++ (0x200D ∷ (s ++ t)))
join_before {v} {s} u h (headed_by_emoji {v = w} {j = j} {l = l} a b c) =
    subst (λ (x : List ℕ). Derives EmojiHeaded (v ++ (0x200D ∷ x)))
    (append_assoc s (w ++ j) l ∙ ap (λ (x : List ℕ). s ++ x) (append_assoc w j l))
    (headed_by_emoji u (joined_and (a_link h) a b) c)

whole-after : {v s : List ℕ} (t r : List ℕ) → EmojiUnit v → S s → Whole (v ++ (0x200D ∷ (s ++ t))) r → Whole t r
whole-after {v} {s} t r u h n d f e k =
    n d f e (subst (Derives EmojiHeaded)
    (sym (append_assoc v (0x200D ∷ (s ++ t)) (d ∷ []) ∙ ap (λ (x : List ℕ). v ++ (0x200D ∷ x)) (append_assoc s t (d ∷ []))))
    (join_before u h k))

-- ---- further units

joins_walk : {v w : List ℕ} {js : List ZwjJoinedEmoji} {ls : List ZwjLink} (text : List ℕ) (end at : ℕ) (r : List ℕ) → EmojiUnit v
    → JoinsAre w js ls
    → Stops is_selector r → Whole (v ++ w) r → chars (drop at text) ≡ w ++ r → at + size width w ≡ end → JoinsWalk text end at js ls
unfolding flatten_link the_link
joins_walk text end at r u (no_joins_are k) p n e z = no-more-units (links_walk text end at r k p e z)
joins_walk {v = v'} text end at r u (join-are {s = s} {v = v} {w = w} h d k) p n e z =
    let b = unit_read_lem d in
    let q : chars (drop at text) ≡ 0x200D ∷ (s ++ (v ++ (w ++ r))) = e
    ∙ ap (λ (x : List ℕ). 0x200D ∷ x) (append_assoc s (v ++ w) r ∙ ap (λ (x : List ℕ). s ++ x) (append_assoc v w r)) in
    let f : Stops is_selector (v ++ (w ++ r)) = subst (λ (x : List ℕ). Stops is_selector (x ++ (w ++ r))) (sym b.split)
    (at_char (emoji_no_selector b.char b.is_emoji_lem)) in
    let m = whole-after (v ++ w) r u h n in
    let i : size width (0x200D ∷ (s ++ (v ++ w))) ≡ size width (0x200D ∷ s) + (size width v + size width w) =
    omega (arith, size_append width s (v ++ w), size_append width v w) in
    let j : 0 < size width v = omega (arith, ap (size width) b.split, width_some b.char) in
    let x = unit_flatten b in
    let g : at + size width ((0x200D ∷ s) ++ flatten_unit (emoji_like b.char b.rest)) ≡ at + size width (0x200D ∷ s) + size width v =
    omega (arith, size_append width s (flatten_unit (emoji_like b.char b.rest)), ap (size width) x) in
    unit-and (link_joins text end at h f q (omega (arith, z, i, j)) (omega (arith, z, i, j, link_end text end at h f q))
    (ap (λ (y : List ℕ). y ++ (w ++ r)) b.split) b.is_emoji_lem)
    (unit_walk text (at + size width (0x200D ∷ s)) (w ++ r) d (last_unit k p m) (chars-from text at (0x200D ∷ s) (v ++ (w ++ r)) q))
    (joins_walk {v = v} text end (at + size width ((0x200D ∷ s) ++ flatten_unit (emoji_like b.char b.rest))) r d k p m
    (ap (λ (y : ℕ). chars (drop y text)) g
    ∙ chars-from text (at + size width (0x200D ∷ s)) v (w ++ r) (chars-from text at (0x200D ∷ s) (v ++ (w ++ r)) q))
    (omega (arith, z, i, g)))

-- ---- an item

sequence_walk : {t : List ℕ} {x : EmojiSequence} (text : List ℕ) (at : ℕ) (r : List ℕ) → SequenceAre t x → Stops is_selector r → Whole t r
    → chars (drop at text) ≡ t ++ r
    → SequenceWalk text at (at + size width t) x
unfolding SequenceWalk
sequence_walk {t} text at r (links_are k) p n e = links_walk text (at + size width t) at r k p e refl
sequence_walk {t} text at r (emoji-are {v = v} {w = w} d k) p n e =
    let b = unit_read_lem d in
    let q = e ∙ append_assoc v w r in
    let g : at + size width (flatten_unit (emoji_like b.char b.rest)) ≡ at + size width v = ap (λ (y : List ℕ). at + size width y)
    (unit_flatten b) in (
      unit_walk text at (w ++ r) d (last_unit k p n) q,
      joins_walk text (at + size width t) (at + size width (flatten_unit (emoji_like b.char b.rest))) r d k p n
          (ap (λ (y : ℕ). chars (drop y text)) g ∙ chars-from text at v (w ++ r) q) (omega (arith, g, size_append width v w)),
    )

-- The first item of a text, and the characters after it.
record FirstRead (t : List ℕ) (x : Item) : Type 0 where
  rest : List ℕ
  whole : t ≡ x.chars ++ rest
  derives : Derives x.kind x.chars
  longest : Longest x rest

first_read : {t : List ℕ} {x : Item} {xs : List Item} → Reads t (x ∷ xs) → FirstRead t x
first_read (reads_item r d l h) = record { rest = r; whole = refl; derives = d; longest = l }

strip_end : (s : List ℕ) (d : ℕ) → is_selector d ≡ true → strip s ≡ strip (s ++ d ∷ [])
unfolding strip
strip_end [] d e = sym (strip_selector d [] e)
strip_end (c ∷ s) d e = ap (λ (l : List ℕ). cond (is_selector c) l (c ∷ l)) (strip_end s d e)

item-stops : {t : List ℕ} {x : Item} (f : FirstRead t x) → Structured x.kind → Stops is_selector f.rest
unfolding Longest
item-stops {t} {x} f k = go f.rest refl
  where
    go : (r : List ℕ) → f.rest ≡ r → Stops is_selector r
    go [] e = at_end
    go (d ∷ r) e = at_char (by (is_selector d) refl)
      where
        by : (b : Bool) → is_selector d ≡ b → is_selector d ≡ false
        by true i =
            let h = derive_head f.derives in
            let q = subst (Derives x.kind) h.split f.derives in
            absurd (f.longest x.kind d [] r e
            (subst (λ (s : List ℕ). Derives x.kind (s ++ d ∷ [])) (sym h.split)
            (derives_alike h.char h.tail (h.tail ++ d ∷ []) (derive_inner h.char h.tail k q) (strip_end h.tail d i) q)))
        by false i = i

pub structure_walk : (text : List ℕ) (at : ℕ) (x : Item) (xs : List Item) → items (chars (drop at text)) ≡ x ∷ xs → Structured x.kind
    → SequenceAre x.chars (structure x.chars)
    → SequenceWalk text at (at + size width x.chars) (structure x.chars)
unfolding Longest
structure_walk text at x xs e k s =
    let f = first_read (subst (Reads (chars (drop at text))) e (reading (chars (drop at text)))) in
    sequence_walk text at f.rest s (item-stops f k) (λ d g q h. f.longest EmojiHeaded d [] g q h) f.whole
