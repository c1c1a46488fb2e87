-- The items tile the text, none is empty, and a scan from an item's end gives the items after it.
use Rattle.std.specs.Prelude.{Some, None, Option}
use mathlib.Core.Path.{◌≡◌, refl, ap, sym, ◌∙◌}
use mathlib.Core.Logic.{◌≢◌}
use mathlib.Core.List.{List, [], ◌∷◌, ◌++◌, append_assoc, cons-ne-nil, Memᴰ}
use Prim.Native.Nat.{ℕ}
use lib.ListN.{length, drop}
use lib.Seq.{drop-append_seam}
use Rattle.scanner.specs.Classes.{class_of}
use Rattle.scanner.specs.Items.{State, transition, start_state, kind_of, Item, join, split_from, items}

-- The first item of the text c ∷ t.
abbrev pub first : ℕ → List ℕ → Item
first c t = record { kind = kind_of (start_state (class_of c)); chars = c ∷ (split_from (start_state (class_of c)) t).0 }

-- The items after the first item of the text c ∷ t.
abbrev pub after : ℕ → List ℕ → List Item
after c t = (split_from (start_state (class_of c)) t).1

pub split_from-some : (p q : State) (c : ℕ) (t : List ℕ) → transition p (class_of c) ≡ Some q → split_from p (c ∷ t)
    ≡ (c ∷ (split_from q t).0, (split_from q t).1)
unfolding split_from
split_from-some p q c t e = rw (e, split_from)

pub split_from-none : (p : State) (c : ℕ) (t : List ℕ) → transition p (class_of c) ≡ None
    → split_from p (c ∷ t) ≡ ([], first c t ∷ after c t)
unfolding split_from
split_from-none p c t e = rw (e, split_from)

pub split_from_tiles : (p : State) (t : List ℕ) → (split_from p t).0 ++ join (split_from p t).1 ≡ t
unfolding split_from
split_from_tiles p [] = refl
split_from_tiles p (c ∷ t) = go (transition p (class_of c)) refl (λ q. split_from_tiles q t)
  where
    go : (o : Option State) → transition p (class_of c) ≡ o → ((q : State) → (split_from q t).0 ++ join (split_from q t).1 ≡ t)
        → (split_from p (c ∷ t)).0 ++ join (split_from p (c ∷ t)).1 ≡ c ∷ t
    go (Some q) e h = rw (split_from-some p q c t e) (ap (λ (l : List ℕ). c ∷ l) (h q))
    go None e h = rw (split_from-none p c t e) (ap (λ (l : List ℕ). c ∷ l) (h (start_state (class_of c))))

-- The characters of the items, one item after the other, are the text.
pub tiling : (t : List ℕ) → join (items t) ≡ t
unfolding items
tiling [] = refl
tiling (c ∷ t) = ap (λ (l : List ℕ). c ∷ l) (split_from_tiles (start_state (class_of c)) t)

-- ---- a scan from an item's end

pub restart : (p : State) (t : List ℕ) → (split_from p t).1 ≡ items (drop (length (split_from p t).0) t)
unfolding split_from items
restart p [] = refl
restart p (c ∷ t) = go (transition p (class_of c)) refl (λ q. restart q t)
  where
    go : (o : Option State) → transition p (class_of c) ≡ o
        → ((q : State) → (split_from q t).1 ≡ items (drop (length (split_from q t).0) t))
        → (split_from p (c ∷ t)).1 ≡ items (drop (length (split_from p (c ∷ t)).0) (c ∷ t))
    go (Some q) e h = rw (split_from-some p q c t e) (h q)
    go None e h = rw (split_from-none p c t e)

-- The items after the item at a state are the items of the remaining text, scanned alone.
pub split_from-restart : (p : State) (t : List ℕ) → items (join (split_from p t).1) ≡ (split_from p t).1
split_from-restart p t =
    ap items (sym (drop-append_seam (split_from p t).0 (join (split_from p t).1))
    ∙ ap (drop (length (split_from p t).0)) (split_from_tiles p t)) ∙ sym (restart p t)

pub items-tail : (t : List ℕ) (x : Item) (xs : List Item) → items t ≡ x ∷ xs → items (join xs) ≡ xs
unfolding items
items-tail [] x xs e = absurd (cons-ne-nil x xs (sym e))
items-tail (c ∷ t) x xs e = let z : (split_from (start_state (class_of c)) t).1 ≡ xs = cc in ap (λ (l : List Item). items (join l)) (sym z)
    ∙ split_from-restart (start_state (class_of c)) t ∙ z

-- A scan from an item's end gives the remaining items.
pub items-after : (t : List ℕ) (xs ys : List Item) → items t ≡ xs ++ ys → items (join ys) ≡ ys
items-after t [] ys e = ap items (ap join (sym e) ∙ tiling t) ∙ e
items-after t (x ∷ xs) ys e = items-after (join (xs ++ ys)) xs ys (items-tail t x (xs ++ ys) e)

pub join_append : (xs ys : List Item) → join (xs ++ ys) ≡ join xs ++ join ys
join_append [] ys = refl
join_append (x ∷ xs) ys = ap (λ (l : List ℕ). x.chars ++ l) (join_append xs ys) ∙ sym (append_assoc x.chars (join xs) (join ys))

pub afresh : (t : List ℕ) (xs ys : List Item) → items t ≡ xs ++ ys → items (drop (length (join xs)) t) ≡ ys
afresh t xs ys e =
    ap (λ (s : List ℕ). items (drop (length (join xs)) s)) (sym (tiling t) ∙ ap join e ∙ join_append xs ys)
    ∙ ap items (drop-append_seam (join xs) (join ys)) ∙ items-after t xs ys e

-- ---- no item is empty

pub data Filled : List Item → Type 0 where
  no_item : Filled []
  and_item : {x : Item} {xs : List Item} (c : ℕ) (s : List ℕ) → x.chars ≡ c ∷ s → Filled xs → Filled (x ∷ xs)

pub split_from-filled : (p : State) (t : List ℕ) → Filled (split_from p t).1
unfolding split_from
split_from-filled p [] = no_item
split_from-filled p (c ∷ t) = go (transition p (class_of c)) refl (λ q. split_from-filled q t)
  where
    go : (o : Option State) → transition p (class_of c) ≡ o → ((q : State) → Filled (split_from q t).1) → Filled (split_from p (c ∷ t)).1
    go (Some q) e h = rw (split_from-some p q c t e) (h q)
    go None e h = rw (split_from-none p c t e) (and_item c _ refl (h (start_state (class_of c))))

pub filled : (t : List ℕ) → Filled (items t)
unfolding items
filled [] = no_item
filled (c ∷ t) = and_item c _ refl (split_from-filled (start_state (class_of c)) t)

filled-member : {xs : List Item} {x : Item} → Filled xs → Memᴰ x xs → x.chars ≢ []
filled-member (and_item c s l h) (Memᴰ.head p) e = cons-ne-nil c s (sym l ∙ ap (λ (i : Item). i.chars) (sym p) ∙ e)
filled-member (and_item c s l h) (Memᴰ.tail m) e = filled-member h m e
filled-member no_item x8 e = elim x8 [ ]

pub never_empty : (t : List ℕ) (x : Item) → Memᴰ x (items t) → x.chars ≢ []
never_empty t x m = filled-member (filled t) m
