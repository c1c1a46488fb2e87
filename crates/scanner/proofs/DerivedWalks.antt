-- The automaton accepts what the grammar derives: `derive_walk`.
use Rattle.std.specs.Prelude.{Some}
use mathlib.Core.Path.{◌≡◌, refl, ap, sym, ◌∙◌, subst}
use mathlib.Core.List.{List, ◌∷◌, ◌++◌}
use Prim.Native.Nat.{ℕ}
use Rattle.scanner.specs.Classes.{Class, selector, link, ri, modifier, emoji, class_of}
use Rattle.scanner.specs.Items.{State, plain, selectors, links, one_ri, unit, joined, left_over, transition, start_state}
use Rattle.scanner.specs.Grammar.{
  S,
  no_selectors,
  selector_and,
  Tags,
  one_tag,
  tag_and,
  TagGroups,
  one_group,
  group_and,
  Modification,
  modifier_with_selectors,
  keycap_with_selectors,
  tag_groups,
  Stem,
  flag,
  single,
  Modifications,
  unmodified,
  modified,
  EmojiUnit,
  unit_of,
  Link,
  a_link,
  Links,
  no_links,
  link_and,
  JoinedUnits,
  no_units,
  joined_and,
  PlainRun,
  no_plain,
  plain_and,
  Derives,
  only_links,
  run_of_selectors,
  headed_by_emoji,
  passthrough,
}
use Rattle.scanner.specs.declared.ScanKind.{ScanKind}
use Rattle.scanner.proofs.Classes.{
  HasClass,
  is_selector_lem,
  is_link,
  is_keycap,
  is_tag_lem,
  is_ri_lem,
  is_modifier,
  has_class,
  class_is,
  EmojiClass,
  an_ri,
  a_modifier,
  an_emoji,
  emoji_class,
  PlainClass,
  of_keycap,
  of_tag,
  of_other,
  plain_class,
}
use Rattle.scanner.proofs.Walk.{Walk, stay, pass, walk_append}

-- The states of a unit.
pub data InUnit : State → Type 0 where
  in_one_ri : InUnit one_ri
  in_unit_lem : InUnit unit

-- A walk whose first character has the class k.
pub via : {p q r : State} {k : Class} {c : ℕ} {t : List ℕ} → HasClass c k → transition p k ≡ Some q → Walk q t r → Walk p (c ∷ t) r
via {p = p} h f w = pass (ap (transition p) (class_is h) ∙ f) w

pub walk_S : {s : List ℕ} (p : State) → transition p selector ≡ Some p → S s → Walk p s p
walk_S p e no_selectors = stay
walk_S p e (selector_and f h) = via (is_selector_lem f) e (walk_S p e h)

-- ---- modifications

walk_tags : {s : List ℕ} {p : State} → InUnit p → Tags s → Walk p s unit
unfolding transition
walk_tags in_one_ri (one_tag e) = via (is_tag_lem e) refl stay
walk_tags in_unit_lem (one_tag e) = via (is_tag_lem e) refl stay
walk_tags in_one_ri (tag_and e h) = via (is_tag_lem e) refl (walk_tags in_unit_lem h)
walk_tags in_unit_lem (tag_and e h) = via (is_tag_lem e) refl (walk_tags in_unit_lem h)

walk_groups : {s : List ℕ} {p : State} → InUnit p → TagGroups s → Walk p s unit
unfolding transition
walk_groups i (one_group t s) = walk_append (walk_tags i t) (walk_S unit refl s)
walk_groups i (group_and t s g) = walk_append (walk_tags i t) (walk_append (walk_S unit refl s) (walk_groups in_unit_lem g))

pub walk_modification : {s : List ℕ} {p : State} → InUnit p → Modification s → Walk p s unit
unfolding transition
walk_modification in_one_ri (modifier_with_selectors e s) = via (is_modifier e) refl (walk_S unit refl s)
walk_modification in_unit_lem (modifier_with_selectors e s) = via (is_modifier e) refl (walk_S unit refl s)
walk_modification in_one_ri (keycap_with_selectors s) = via (is_keycap refl) refl (walk_S unit refl s)
walk_modification in_unit_lem (keycap_with_selectors s) = via (is_keycap refl) refl (walk_S unit refl s)
walk_modification i (tag_groups g) = walk_groups i g

-- A walk that ends inside a unit.
pub record ToUnit (p : State) (s : List ℕ) : Type 0 where
  pub end : State
  pub inside : InUnit end
  pub walked : Walk p s end

pub walk_modifications : {s : List ℕ} {p : State} → InUnit p → Modifications s → ToUnit p s
walk_modifications {s} {p} i unmodified = record { end = p; inside = i; walked = stay }
walk_modifications i (modified m h) =
    let r = walk_modifications in_unit_lem h in
    record { end = r.end; inside = r.inside; walked = walk_append (walk_modification i m) r.walked }

-- ---- stems and units, after one link and at the front of an item

-- The states to which the first character of a unit leads: by `transition` after one link, by `start_state` at the front of an item.
pub record Starts (P : Class → State → Type 0) : Type 0 where
  pub at_ri : P ri one_ri
  pub at_modifier : P modifier unit
  pub at_emoji : P emoji unit

-- A walk over a text from the state after its first character on.
pub data Front (P : Class → State → Type 0) : List ℕ → State → Type 0 where
  front : {k : Class} {p q : State} {c : ℕ} {t : List ℕ} → HasClass c k → P k p → Walk p t q → Front P (c ∷ t) q

pub record UnitFront (P : Class → State → Type 0) (s : List ℕ) : Type 0 where
  pub end : State
  pub inside : InUnit end
  pub walked : Front P s end

front_append : {P : Class → State → Type 0} {s t : List ℕ} {q r : State} → Front P s q → Walk q t r → Front P (s ++ t) r
front_append (front i e w) v = front i e (walk_append w v)

walk_single : {P : Class → State → Type 0} {c : ℕ} {s : List ℕ} → Starts P → EmojiClass c → S s → UnitFront P (c ∷ s)
unfolding transition
walk_single h (an_ri e) s = record { end = one_ri; inside = in_one_ri; walked = front (is_ri_lem e) h.at_ri (walk_S one_ri refl s) }
walk_single h (a_modifier e) s = record {
  end = unit;
  inside = in_unit_lem;
  walked = front (is_modifier e) h.at_modifier
      (walk_S unit refl s);
}
walk_single h (an_emoji e) s = record { end = unit; inside = in_unit_lem; walked = front e h.at_emoji (walk_S unit refl s) }

walk_stem : {P : Class → State → Type 0} {s : List ℕ} → Starts P → Stem s → UnitFront P s
unfolding transition
walk_stem h (flag a b e s f t) = record {
  end = unit;
  inside = in_unit_lem;
  walked = front (is_ri_lem e) h.at_ri
      (walk_append (walk_S one_ri refl s) (via (is_ri_lem f) refl (walk_S unit refl t)));
}
walk_stem h (single {c = c} e s) = walk_single h (emoji_class c e) s

pub walk_unit : {P : Class → State → Type 0} {s : List ℕ} → Starts P → EmojiUnit s → UnitFront P s
walk_unit h (unit_of s m) =
    let r = walk_stem h s in
    let v = walk_modifications r.inside m in
    record { end = v.end; inside = v.inside; walked = front_append r.walked v.walked }

-- The state after one link and a character of the class.
abbrev pub AfterLink : Class → State → Type 0
AfterLink k p = transition joined k ≡ Some p

pub after : Starts AfterLink
unfolding transition
after = record { at_ri = refl; at_modifier = refl; at_emoji = refl }

pub walk_front : {s : List ℕ} {q : State} → Front AfterLink s q → Walk joined s q
walk_front (front i e w) = via i e w

-- The state after the first character of an item.
abbrev pub First : Class → State → Type 0
First k p = start_state k ≡ p

pub first : Starts First
unfolding start_state
first = record { at_ri = refl; at_modifier = refl; at_emoji = refl }

-- ---- links and joined units

pub to_joined : (p : State) → InUnit p → transition p link ≡ Some joined
unfolding transition
to_joined one_ri in_one_ri = refl
to_joined unit in_unit_lem = refl
to_joined plain x' = elim x' [ ]
to_joined selectors x'' = elim x'' [ ]
to_joined links x3 = elim x3 [ ]
to_joined joined x4 = elim x4 [ ]
to_joined left_over x5 = elim x5 [ ]

pub walk_link : {s : List ℕ} {p : State} (q : State) → transition p link ≡ Some q → transition q selector ≡ Some q → Link s → Walk p s q
walk_link q e f (a_link s) = via (is_link refl) e (walk_S q f s)

pub walk_joined : {s : List ℕ} {p : State} → InUnit p → JoinedUnits s → ToUnit p s
unfolding transition
walk_joined {s} {p} i no_units = record { end = p; inside = i; walked = stay }
walk_joined {s} {p} i (joined_and a v t) =
    let r = walk_unit after v in
    let o = walk_joined r.inside t in
    record {
      end = o.end;
      inside = o.inside;
      walked = walk_append (walk_link joined (to_joined p i) refl a)
          (walk_append (walk_front r.walked) o.walked);
    }

-- A walk to some state.
pub record SomeWalk (p : State) (s : List ℕ) : Type 0 where
  pub end : State
  pub walked : Walk p s end

-- A walk over links from a state to which links and selectors lead back.
pub walk_links : {s : List ℕ} (p : State) → transition p link ≡ Some p → transition p selector ≡ Some p → Links s → Walk p s p
walk_links p e f no_links = stay
walk_links p e f (link_and a l) = walk_append (walk_link p e f a) (walk_links p e f l)

-- A walk over the links left over after a unit.
walk_left_over : {s : List ℕ} {p : State} → InUnit p → Links s → SomeWalk p s
unfolding transition
walk_left_over {s} {p} i no_links = record { end = p; walked = stay }
walk_left_over {s} {p} i (link_and a no_links) =
    record { end = joined; walked = walk_append (walk_link joined (to_joined p i) refl a) stay }
walk_left_over {s} {p} i (link_and a (link_and b l)) =
    record {
      end = left_over;
      walked = walk_append (walk_link joined (to_joined p i) refl a)
          (walk_append (walk_link left_over refl refl b) (walk_links left_over refl refl l));
    }

-- ---- items

pub record Accepted (s : List ℕ) : Type 0 where
  pub end : State
  pub walked : Front First s end

plain_front : {c : ℕ} {s : List ℕ} {k : Class} → HasClass c k → PlainClass k → Walk plain s plain → Front First (c ∷ s) plain
unfolding start_state
plain_front h of_keycap w = front h refl w
plain_front h of_tag w = front h refl w
plain_front h of_other w = front h refl w

plain_on_lem : {k : Class} → PlainClass k → transition plain k ≡ Some plain
unfolding transition
plain_on_lem of_keycap = refl
plain_on_lem of_tag = refl
plain_on_lem of_other = refl

walk_plain_run : {s : List ℕ} → PlainRun s → Walk plain s plain
walk_plain_run no_plain = stay
walk_plain_run (plain_and {c = c} p h) = via (has_class c) (plain_on_lem (plain_class (has_class c) p)) (walk_plain_run h)

pub derive_walk : {k : ScanKind} {s : List ℕ} → Derives k s → Accepted s
unfolding transition start_state
derive_walk (only_links (a_link s) l) = record {
  end = links;
  walked = front (is_link refl) refl
      (walk_append (walk_S links refl s) (walk_links links refl refl l));
}
derive_walk (run_of_selectors e s) = record { end = selectors; walked = front (is_selector_lem e) refl (walk_S selectors refl s) }
derive_walk (headed_by_emoji v j l) =
    let a = walk_unit first v in
    let b = walk_joined a.inside j in
    let c = walk_left_over b.inside l in
    record { end = c.end; walked = front_append a.walked (walk_append b.walked c.walked) }
derive_walk (passthrough {c = c} p h) = record {
  end = plain;
  walked = plain_front (has_class c) (plain_class (has_class c) p)
      (walk_plain_run h);
}

-- A walk from the state after the first character.
pub accepted_walk : {c : ℕ} {s : List ℕ} → Accepted (c ∷ s) → SomeWalk (start_state (class_of c)) s
accepted_walk {c} {s} a = go a.walked
  where
    go : {q : State} → Front First (c ∷ s) q → SomeWalk (start_state (class_of c)) s
    go {q} (front h f w) = record { end = q; walked = subst (λ (p : State). Walk p s q) (sym (ap start_state (class_is h) ∙ f)) w }
