-- The items of a text are its only reading by the grammar: `reading` and `only-reading`.
use Rattle.std.specs.Prelude.{Some, None, Option}
use mathlib.Core.Path.{◌≡◌, refl, ap, sym, ◌∙◌, subst, ap₂}
use mathlib.Core.Logic.{◌⊎◌, ⊎_elim}
use mathlib.Core.Bool.{true}
use mathlib.Core.List.{List, [], ◌∷◌, ◌++◌, append-nil, head-eq_of_cons-eq, tail-eq_of_cons-eq, Memᴰ}
use Prim.Native.Nat.{ℕ}
use native.Mathlib.Omega.{arith}
use Rattle.scanner.specs.Classes.{Class, class_of, strip}
use Rattle.scanner.specs.Items.{State, transition, start_state, kind_of, Item, join, split_from, items}
use Rattle.scanner.specs.Grammar.{
  Stem,
  flag,
  single,
  EmojiUnit,
  unit_of,
  a_link,
  Derives,
  only_links,
  run_of_selectors,
  headed_by_emoji,
  passthrough,
  Longest,
  Reads,
  at_the_end,
  reads_item,
}
use Rattle.scanner.specs.declared.ScanKind.{ScanKind}
use Rattle.scanner.specs.declared.ScanKind.TheVariants.{EmojiHeaded, LinksOnly, Passthrough}
use Rattle.scanner.proofs.Classes.{
  class_selector,
  is_link,
  is_ri_lem,
  is_modifier,
  has_class,
  class_is,
  EmojiClass,
  an_ri,
  a_modifier,
  an_emoji,
  emoji_class,
  PlainClass,
  of_keycap,
  of_tag,
  of_other,
  plain_class,
}
use Rattle.scanner.proofs.Tiling.{first, after, split_from-some, split_from-none, tiling}
use Rattle.scanner.proofs.Walk.{Walk, stay, pass, same_walk}
use Rattle.scanner.proofs.States.{inner, kind_emoji, kind-links}
use Rattle.scanner.proofs.DerivedWalks.{derive_walk, accepted_walk}
use Rattle.scanner.proofs.WalksDerive.{walk_derive}

-- ---- an item is the longest that the grammar derives

walk_stops : {p q r : State} {s : List ℕ} (d : ℕ) (t : List ℕ) → Walk p s q → transition q (class_of d) ≡ None → Walk p (s ++ d ∷ t) r → ⊥
walk_stops d t stay e (pass f v) = let z : ◌≡◌ {A = ℕ} 0 1 = cc in omega arith
walk_stops {r = r} d t (pass {q = x} {t = s} e w) f (pass {q = y} g v) =
    let z : y ≡ x = cc in
    walk_stops d t w f (subst (λ (p : State). Walk p (s ++ d ∷ t) r) z v)

pub longest : {k : ScanKind} {q : State} (c : ℕ) {s : List ℕ} (d : ℕ) (t : List ℕ) → Walk (start_state (class_of c)) s q
    → transition q (class_of d) ≡ None → Derives k (c ∷ (s ++ d ∷ t)) → ⊥
longest c d t w e h = walk_stops d t w e (accepted_walk (derive_walk h)).walked

first-longest : {q : State} (c : ℕ) (s r : List ℕ) (k : ScanKind) → Walk (start_state (class_of c)) s q
    → ((d : ℕ) (f : List ℕ) → r ≡ d ∷ f → transition q (class_of d) ≡ None)
    → Longest (record { kind = k; chars = c ∷ s }) r
unfolding Longest
first-longest c s r k w h j d f g e = longest c d f w (h d (f ++ g) e)

-- ---- the items are a reading

-- The rest of an item is a walk to a state at which the item ends, and the items after it are a reading of their characters.
record Read (p : State) (t : List ℕ) : Type 0 where
  end : State
  walked : Walk p (split_from p t).0 end
  stops : (d : ℕ) (f : List ℕ) → join (split_from p t).1 ≡ d ∷ f → transition end (class_of d) ≡ None
  reads : Reads (join (split_from p t).1) (split_from p t).1

read_first : (c : ℕ) (t : List ℕ) → Read (start_state (class_of c)) t → Reads (join (first c t ∷ after c t)) (first c t ∷ after c t)
read_first c t h = reads_item (join (after c t)) (walk_derive c h.walked) (first-longest c _ _ _ h.walked h.stops) h.reads

split_from-read : (p : State) (t : List ℕ) → Read p t
unfolding split_from
split_from-read p [] = record { end = p; walked = stay; stops = λ d f e. cc; reads = at_the_end }
split_from-read p (c ∷ t) = go (transition p (class_of c)) refl (λ q. split_from-read q t)
  where
    go : (o : Option State) → transition p (class_of c) ≡ o → ((q : State) → Read q t) → Read p (c ∷ t)
    go (Some q) e h = record {
      end = (h q).end;
      walked = rw (split_from-some p q c t e) (pass e (h q).walked);
      stops = rw (split_from-some p q c t e)
          (h q).stops;
      reads = rw (split_from-some p q c t e) (h q).reads;
    }
    go None e h = record {
      end = p;
      walked = rw (split_from-none p c t e) stay;
      stops = rw (split_from-none p c t e) (λ d f z. cc);
      reads =
          rw (split_from-none p c t e) (read_first c t (h (start_state (class_of c))));
    }

pub reading : (t : List ℕ) → Reads t (items t)
unfolding items
reading t = subst (λ (l : List ℕ). Reads l (items t)) (tiling t) (go t)
  where
    go : (t : List ℕ) → Reads (join (items t)) (items t)
    go [] = at_the_end
    go (c ∷ t) = read_first c t (split_from-read (start_state (class_of c)) t)

-- ---- the first character of a derivation decides its kind

pub record HeadIs (k : ScanKind) (s : List ℕ) : Type 0 where
  pub char : ℕ
  pub tail : List ℕ
  pub split : s ≡ char ∷ tail
  pub kind : k ≡ kind_of (start_state (class_of char))

emoji_kind : (c : ℕ) → EmojiClass c → EmojiHeaded ≡ kind_of (start_state (class_of c))
unfolding kind_of start_state
emoji_kind c (an_ri e) = rw (class_is (is_ri_lem e))
emoji_kind c (a_modifier e) = rw (class_is (is_modifier e))
emoji_kind c (an_emoji h) = rw (class_is h)

plain_kind : (k : Class) → PlainClass k → Passthrough ≡ kind_of (start_state k)
unfolding kind_of start_state
plain_kind _ of_keycap = refl
plain_kind _ of_tag = refl
plain_kind _ of_other = refl

stem_head : {s : List ℕ} → Stem s → HeadIs EmojiHeaded s
stem_head (flag a b e s f t) = record { char = a; tail = _; split = refl; kind = emoji_kind a (an_ri e) }
stem_head (single {c = c} e s) = record { char = c; tail = _; split = refl; kind = emoji_kind c (emoji_class c e) }

head_more : {k : ScanKind} {s : List ℕ} (t : List ℕ) → HeadIs k s → HeadIs k (s ++ t)
head_more t h = record { char = h.char; tail = h.tail ++ t; split = ap (λ (l : List ℕ). l ++ t) h.split; kind = h.kind }

unit_head : {s : List ℕ} → EmojiUnit s → HeadIs EmojiHeaded s
unit_head (unit_of s m) = head_more _ (stem_head s)

pub derive_head : {k : ScanKind} {s : List ℕ} → Derives k s → HeadIs k s
unfolding kind_of start_state
derive_head (only_links (a_link s) l) = record {
  char = 0x200D;
  tail = _;
  split = refl;
  kind = rw (class_is {c = 0x200D} (is_link refl));
}
derive_head (run_of_selectors {c = c} e s) = record { char = c; tail = _; split = refl; kind = rw (class_selector c e) }
derive_head (headed_by_emoji v j l) = head_more _ (unit_head v)
derive_head (passthrough {c = c} p h) = record {
  char = c;
  tail = _;
  split = refl;
  kind = plain_kind (class_of c)
      (plain_class (has_class c) p);
}

-- ---- there is no other reading

-- Two beginnings of one text: one is a beginning of the other.
data Fronts (s r s' r' : List ℕ) : Type 0 where
  same_front : s ≡ s' → r ≡ r' → Fronts s r s' r'
  second_longer : (d : ℕ) (f : List ℕ) → s' ≡ s ++ d ∷ f → r ≡ d ∷ (f ++ r') → Fronts s r s' r'
  first_longer : (d : ℕ) (f : List ℕ) → s ≡ s' ++ d ∷ f → r' ≡ d ∷ (f ++ r) → Fronts s r s' r'

fronts_cons : {s r s' r' : List ℕ} (c e : ℕ) → c ≡ e → Fronts s r s' r' → Fronts (c ∷ s) r (e ∷ s') r'
fronts_cons c e z (same_front p q) = same_front (ap₂ (λ (c : ℕ) (l : List ℕ). c ∷ l) z p) q
fronts_cons c e z (second_longer d f p q) = second_longer d f (ap₂ (λ (c : ℕ) (l : List ℕ). c ∷ l) (sym z) p) q
fronts_cons c e z (first_longer d f p q) = first_longer d f (ap₂ (λ (c : ℕ) (l : List ℕ). c ∷ l) z p) q

fronts : (s r s' r' : List ℕ) → s ++ r ≡ s' ++ r' → Fronts s r s' r'
fronts [] r [] r' e = same_front refl e
fronts [] r (d ∷ f) r' e = second_longer d f refl e
fronts (d ∷ f) r [] r' e = first_longer d f refl (sym e)
fronts (c ∷ s) r (d ∷ s') r' e = fronts_cons c d (head-eq_of_cons-eq e) (fronts s r s' r' (tail-eq_of_cons-eq e))

-- Two readings of a text are equal.
pub unique : {t t' : List ℕ} {xs ys : List Item} → Reads t xs → Reads t' ys → t ≡ t' → xs ≡ ys
unfolding Longest
unique at_the_end at_the_end e = refl
unique at_the_end (reads_item {x = y} r d l h) e = let z = derive_head d in let a = z.split in let b : [] ≡ z.char ∷ (z.tail ++ r) = e
    ∙ ap (λ (l : List ℕ). l ++ r) a in cc
unique (reads_item {x = x} r d l h) at_the_end e = let z = derive_head d in let a = z.split in let b : []
    ≡ z.char ∷ (z.tail ++ r) = sym e ∙ ap (λ (l : List ℕ). l ++ r) a in cc
unique (reads_item {x = x} {xs = xs} r d l h) (reads_item {x = y} {xs = ys} r' d' l' h') e = go (fronts x.chars r y.chars r' e)
    (λ z. unique h h' z)
  where
    same_kind : x.chars ≡ y.chars → x.kind ≡ y.kind
    same_kind p =
        let a = derive_head d in
        let b = derive_head d' in
        a.kind ∙ ap (λ (c : ℕ). kind_of (start_state (class_of c))) (head-eq_of_cons-eq (sym a.split ∙ p ∙ b.split)) ∙ sym b.kind

    go : Fronts x.chars r y.chars r' → (r ≡ r' → xs ≡ ys) → x ∷ xs ≡ y ∷ ys
    go (same_front p q) i = λ j. record { kind = same_kind p j; chars = p j } ∷ i q j
    go (second_longer c f p q) i = absurd (l y.kind c f r' q (subst (λ (s : List ℕ). Derives y.kind s) p d'))
    go (first_longer c f p q) i = absurd (l' x.kind c f r q (subst (λ (s : List ℕ). Derives x.kind s) p d))

pub only-reading : (t : List ℕ) (xs : List Item) → Reads t xs → xs ≡ items t
only-reading t xs h = unique h (reading t) refl

-- The grammar derives every item of a reading by its kind.
pub reads_derive : {t : List ℕ} {xs : List Item} {x : Item} → Reads t xs → Memᴰ x xs → Derives x.kind x.chars
reads_derive (reads_item r d l h) (Memᴰ.head p) = subst (λ (y : Item). Derives y.kind y.chars) (sym p) d
reads_derive (reads_item r d l h) (Memᴰ.tail m) = reads_derive h m
reads_derive at_the_end x8 = elim x8 [ ]

pub item_derives : (t : List ℕ) (x : Item) → Memᴰ x (items t) → Derives x.kind x.chars
item_derives t x m = reads_derive (reading t) m

-- The characters of an item, scanned alone, are this one item.
pub item-alone : (t : List ℕ) (x : Item) → Memᴰ x (items t) → items x.chars ≡ x ∷ []
unfolding Longest
item-alone t x m =
    sym (only-reading x.chars (x ∷ [])
    (subst (λ (l : List ℕ). Reads l (x ∷ [])) (append-nil x.chars)
    (reads_item [] (item_derives t x m) (λ k d f g e w. let z : ◌≡◌ {A = ℕ} 0 1 = cc in omega arith) at_the_end)))

-- Adding or removing selectors after the first character of a links-only or emoji-headed item keeps it derivable.
pub derives_alike : {k : ScanKind} (c : ℕ) (s t : List ℕ) → inner (start_state (class_of c)) ≡ true → strip s ≡ strip t → Derives k (c ∷ s)
    → Derives k (c ∷ t)
derives_alike {k} c s t i e d =
    let h = derive_head d in
    let z : h.char ≡ c = sym (head-eq_of_cons-eq h.split) in
    subst (λ (k : ScanKind). Derives k (c ∷ t)) (sym (h.kind ∙ ap (λ (x : ℕ). kind_of (start_state (class_of x))) z))
    (walk_derive c (same_walk s t i e (accepted_walk (derive_walk d)).walked))

pub derive_inner : {k : ScanKind} (c : ℕ) (s : List ℕ) → (k ≡ LinksOnly) ⊎ (k ≡ EmojiHeaded) → Derives k (c ∷ s)
    → inner (start_state (class_of c)) ≡ true
derive_inner {k} c s o d =
    let h = derive_head d in
    let z : k ≡ kind_of (start_state (class_of c)) = h.kind
    ∙ ap (λ (x : ℕ). kind_of (start_state (class_of x))) (sym (head-eq_of_cons-eq h.split)) in
    ⊎_elim (λ e. kind-links (class_of c) (sym z ∙ e)) (λ e. kind_emoji (class_of c) (sym z ∙ e)) o
