-- The grammar derives what the automaton accepts: `walk_derive`.
use Rattle.std.specs.Prelude.{Some, None, Option}
use mathlib.Core.Path.{◌≡◌, ap, sym, ◌∙◌, subst}
use mathlib.Core.Bool.{true}
use mathlib.Core.List.{List, [], ◌∷◌, ◌++◌, append_assoc}
use Prim.Native.Nat.{ℕ}
use Rattle.emoji.specs.Presentation.{is_selector}
use Rattle.emoji.specs.Unicode.{is_emoji, is_ri}
use Rattle.scanner.specs.Classes.{Class, link, modifier, keycap, tag, class_of}
use Rattle.scanner.specs.Items.{State, plain, selectors, links, one_ri, unit, joined, left_over, transition, start_state, kind_of}
use Rattle.scanner.specs.Grammar.{
  S,
  no_selectors,
  selector_and,
  one_tag,
  one_group,
  Modification,
  modifier_with_selectors,
  keycap_with_selectors,
  tag_groups,
  flag,
  single,
  Modifications,
  unmodified,
  modified,
  EmojiUnit,
  unit_of,
  a_link,
  Links,
  no_links,
  link_and,
  JoinedUnits,
  no_units,
  joined_and,
  PlainRun,
  no_plain,
  plain_and,
  Derives,
  only_links,
  run_of_selectors,
  headed_by_emoji,
  passthrough,
}
use Rattle.scanner.specs.declared.ScanKind.TheVariants.{EmojiHeaded, LinksOnly}
use Rattle.scanner.proofs.Classes.{
  HasClass,
  is_selector_lem,
  is_link,
  is_keycap,
  is_tag_lem,
  is_ri_lem,
  is_modifier,
  is_emoji_lem,
  is_other,
  has_class,
  keycap_plain,
  modifier_emoji,
  ri_emoji,
  tag_plain,
}
use Rattle.scanner.proofs.LinksTail.{LinksTail, links_tail, links_link, links_selector}
use Rattle.scanner.proofs.Walk.{Walk, stay, pass}

-- ---- what can follow at a state, in the grammar's terms

-- After a complete stem.
data UnitTail : List ℕ → Type 0 where
  unit_tail : {a m j l : List ℕ} → S a → Modifications m → JoinedUnits j → Links l → UnitTail (a ++ (m ++ (j ++ l)))

-- After a first RI.
data RiTail : List ℕ → Type 0 where
  no_flag : {s : List ℕ} → UnitTail s → RiTail s
  flag_tail : {a s : List ℕ} (b : ℕ) → S a → is_ri b ≡ true → UnitTail s → RiTail (a ++ b ∷ s)

-- After one link.
data JoinTail : List ℕ → Type 0 where
  no_unit_lem : {s : List ℕ} → LinksTail s → JoinTail s
  with_unit : {a v j l : List ℕ} → S a → EmojiUnit v → JoinedUnits j → Links l → JoinTail (a ++ (v ++ (j ++ l)))

abbrev Tail : State → List ℕ → Type 0
Tail plain s = PlainRun s
Tail selectors s = S s
Tail links s = LinksTail s
Tail one_ri s = RiTail s
Tail unit s = UnitTail s
Tail joined s = JoinTail s
Tail left_over s = LinksTail s

-- ---- one more character

unit_selector : {c : ℕ} {t : List ℕ} → is_selector c ≡ true → UnitTail t → UnitTail (c ∷ t)
unit_selector e (unit_tail a m j l) = unit_tail (selector_and e a) m j l

-- A modification and its S in front.
unit_modification : {c : ℕ} {t : List ℕ} → ((s : List ℕ) → S s → Modification (c ∷ s)) → UnitTail t → UnitTail (c ∷ t)
unit_modification {c} f (unit_tail {a = a} {m = m} {j = j} {l = l} s p q r) =
    subst UnitTail (ap (λ (t : List ℕ). c ∷ t) (append_assoc a m (j ++ l))) (unit_tail no_selectors (modified (f a s) p) q r)

unit_link : {t : List ℕ} → JoinTail t → UnitTail (0x200D ∷ t)
unit_link (no_unit_lem (links_tail a l)) = unit_tail no_selectors unmodified no_units (link_and (a_link a) l)
unit_link (with_unit {a = a} {v = v} {j = j} {l = l} s p q r) =
    subst UnitTail (ap (λ (t : List ℕ). 0x200D ∷ t) (append_assoc a (v ++ j) l ∙ ap (λ (t : List ℕ). a ++ t) (append_assoc v j l)))
    (unit_tail no_selectors unmodified (joined_and (a_link s) p q) r)

join_selector : {c : ℕ} {t : List ℕ} → is_selector c ≡ true → JoinTail t → JoinTail (c ∷ t)
join_selector e (no_unit_lem h) = no_unit_lem (links_selector e h)
join_selector e (with_unit a v j l) = with_unit (selector_and e a) v j l

join_single : {c : ℕ} {t : List ℕ} → is_emoji c ≡ true → UnitTail t → JoinTail (c ∷ t)
join_single {c} e (unit_tail {a = a} {m = m} {j = j} {l = l} s p q r) =
    subst JoinTail (ap (λ (t : List ℕ). c ∷ t) (append_assoc a m (j ++ l))) (with_unit no_selectors (unit_of (single e s) p) q r)

join_ri : {c : ℕ} {t : List ℕ} → is_ri c ≡ true → RiTail t → JoinTail (c ∷ t)
join_ri {c} e (no_flag h) = join_single (ri_emoji c e) h
join_ri {c} e (flag_tail {a = a} b s f (unit_tail {a = a'} {m = m} {j = j} {l = l} s' p q r)) =
    subst JoinTail (ap (λ (t : List ℕ). c ∷ t) (simp append_assoc)) (with_unit no_selectors (unit_of (flag c b e s f s') p) q r)

ri_selector : {c : ℕ} {t : List ℕ} → is_selector c ≡ true → RiTail t → RiTail (c ∷ t)
ri_selector e (no_flag h) = no_flag (unit_selector e h)
ri_selector e (flag_tail b a f h) = flag_tail b (selector_and e a) f h

modifier_tail : {c : ℕ} {t : List ℕ} → HasClass c modifier → UnitTail t → UnitTail (c ∷ t)
modifier_tail (is_modifier e) h = unit_modification (λ s x. modifier_with_selectors e x) h

keycap-tail : {c : ℕ} {t : List ℕ} → HasClass c keycap → UnitTail t → UnitTail (c ∷ t)
keycap-tail {c} {t} (is_keycap e) h = subst (λ (x : ℕ). UnitTail (x ∷ t)) (sym e) (unit_modification (λ s x. keycap_with_selectors x) h)

tag_tail : {c : ℕ} {t : List ℕ} → HasClass c tag → UnitTail t → UnitTail (c ∷ t)
tag_tail (is_tag_lem e) h = unit_modification (λ s x. tag_groups (one_group (one_tag e) x)) h

link_tail : {c : ℕ} {t : List ℕ} → HasClass c link → JoinTail t → UnitTail (c ∷ t)
link_tail {c} {t} (is_link e) h = subst (λ (x : ℕ). UnitTail (x ∷ t)) (sym e) (unit_link h)

link_more : {c : ℕ} {t : List ℕ} → HasClass c link → LinksTail t → LinksTail (c ∷ t)
link_more {c} {t} (is_link e) h = subst (λ (x : ℕ). LinksTail (x ∷ t)) (sym e) (links_link h)

keycap-run : {c : ℕ} {t : List ℕ} → HasClass c keycap → PlainRun t → PlainRun (c ∷ t)
keycap-run {c} {t} (is_keycap e) h = subst (λ (x : ℕ). PlainRun (x ∷ t)) (sym e) (plain_and keycap_plain h)

-- ---- a transition, and a walk

abbrev TailAfter : Option State → List ℕ → Type 0
TailAfter None t = ⊥
TailAfter (Some q) t = Tail q t

tail-transition : (p : State) {k : Class} {c : ℕ} (t : List ℕ) → HasClass c k → TailAfter (transition p k) t → Tail p (c ∷ t)
unfolding transition
tail-transition plain u (is_selector_lem e) h = absurd h
tail-transition plain u (is_link e) h = absurd h
tail-transition plain u (is_ri_lem e) h = absurd h
tail-transition plain u (is_modifier e) h = absurd h
tail-transition plain u (is_emoji_lem e r m) h = absurd h
tail-transition plain u (is_keycap e) h = keycap-run (is_keycap e) h
tail-transition plain {c = c} u (is_tag_lem e) h = plain_and (tag_plain c e) h
tail-transition plain u (is_other p k t) h = plain_and p h
tail-transition selectors u (is_selector_lem e) h = selector_and e h
tail-transition selectors u (is_link e) h = absurd h
tail-transition selectors u (is_ri_lem e) h = absurd h
tail-transition selectors u (is_modifier e) h = absurd h
tail-transition selectors u (is_emoji_lem e r m) h = absurd h
tail-transition selectors u (is_keycap e) h = absurd h
tail-transition selectors u (is_tag_lem e) h = absurd h
tail-transition selectors u (is_other p k t) h = absurd h
tail-transition links u (is_selector_lem e) h = links_selector e h
tail-transition links u (is_link e) h = link_more (is_link e) h
tail-transition links u (is_ri_lem e) h = absurd h
tail-transition links u (is_modifier e) h = absurd h
tail-transition links u (is_emoji_lem e r m) h = absurd h
tail-transition links u (is_keycap e) h = absurd h
tail-transition links u (is_tag_lem e) h = absurd h
tail-transition links u (is_other p k t) h = absurd h
tail-transition one_ri u (is_selector_lem e) h = ri_selector e h
tail-transition one_ri u (is_link e) h = no_flag (link_tail (is_link e) h)
tail-transition one_ri {c = c} u (is_ri_lem e) h = flag_tail c no_selectors e h
tail-transition one_ri u (is_modifier e) h = no_flag (modifier_tail (is_modifier e) h)
tail-transition one_ri u (is_emoji_lem e r m) h = absurd h
tail-transition one_ri u (is_keycap e) h = no_flag (keycap-tail (is_keycap e) h)
tail-transition one_ri u (is_tag_lem e) h = no_flag (tag_tail (is_tag_lem e) h)
tail-transition one_ri u (is_other p k t) h = absurd h
tail-transition unit u (is_selector_lem e) h = unit_selector e h
tail-transition unit u (is_link e) h = link_tail (is_link e) h
tail-transition unit u (is_ri_lem e) h = absurd h
tail-transition unit u (is_modifier e) h = modifier_tail (is_modifier e) h
tail-transition unit u (is_emoji_lem e r m) h = absurd h
tail-transition unit u (is_keycap e) h = keycap-tail (is_keycap e) h
tail-transition unit u (is_tag_lem e) h = tag_tail (is_tag_lem e) h
tail-transition unit u (is_other p k t) h = absurd h
tail-transition joined u (is_selector_lem e) h = join_selector e h
tail-transition joined u (is_link e) h = no_unit_lem (link_more (is_link e) h)
tail-transition joined u (is_ri_lem e) h = join_ri e h
tail-transition joined {c = c} u (is_modifier e) h = join_single (modifier_emoji c e) h
tail-transition joined u (is_emoji_lem e r m) h = join_single e h
tail-transition joined u (is_keycap e) h = absurd h
tail-transition joined u (is_tag_lem e) h = absurd h
tail-transition joined u (is_other p k t) h = absurd h
tail-transition left_over u (is_selector_lem e) h = links_selector e h
tail-transition left_over u (is_link e) h = link_more (is_link e) h
tail-transition left_over u (is_ri_lem e) h = absurd h
tail-transition left_over u (is_modifier e) h = absurd h
tail-transition left_over u (is_emoji_lem e r m) h = absurd h
tail-transition left_over u (is_keycap e) h = absurd h
tail-transition left_over u (is_tag_lem e) h = absurd h
tail-transition left_over u (is_other p k t) h = absurd h

tail_end : (p : State) → Tail p []
tail_end plain = no_plain
tail_end selectors = no_selectors
tail_end links = links_tail no_selectors no_links
tail_end one_ri = no_flag (unit_tail no_selectors unmodified no_units no_links)
tail_end unit = unit_tail no_selectors unmodified no_units no_links
tail_end joined = no_unit_lem (links_tail no_selectors no_links)
tail_end left_over = links_tail no_selectors no_links

tail_walk : {p q : State} {s : List ℕ} → Walk p s q → Tail p s
tail_walk {p} stay = tail_end p
tail_walk (pass {p = p} {c = c} {t = t} e w) = tail-transition p t (has_class c)
    (subst (λ (o : Option State). TailAfter o t) (sym e) (tail_walk w))

-- ---- items

sequence_single : {c : ℕ} {s : List ℕ} → is_emoji c ≡ true → UnitTail s → Derives EmojiHeaded (c ∷ s)
sequence_single {c} e (unit_tail {a = a} {m = m} {j = j} {l = l} s p q r) =
    subst (Derives EmojiHeaded) (ap (λ (t : List ℕ). c ∷ t) (append_assoc a m (j ++ l))) (headed_by_emoji (unit_of (single e s) p) q r)

sequence_ri : {c : ℕ} {s : List ℕ} → is_ri c ≡ true → RiTail s → Derives EmojiHeaded (c ∷ s)
sequence_ri {c} e (no_flag h) = sequence_single (ri_emoji c e) h
sequence_ri {c} e (flag_tail {a = a} b s f (unit_tail {a = a'} {m = m} {j = j} {l = l} s' p q r)) =
    subst (Derives EmojiHeaded) (ap (λ (t : List ℕ). c ∷ t) (simp append_assoc)) (headed_by_emoji (unit_of (flag c b e s f s') p) q r)

links_derive : {c : ℕ} {s : List ℕ} → c ≡ 0x200D → LinksTail s → Derives LinksOnly (c ∷ s)
links_derive {c} {s} e h = subst (λ (x : ℕ). Derives LinksOnly (x ∷ s)) (sym e) (go h)
  where
    go : {t : List ℕ} → LinksTail t → Derives LinksOnly (0x200D ∷ t)
    go (links_tail a l) = only_links (a_link a) l

keycap_derive : {c : ℕ} {s : List ℕ} → c ≡ 0x20E3 → PlainRun s → Derives (kind_of plain) (c ∷ s)
unfolding kind_of
keycap_derive {c} {s} e h = subst (λ (x : ℕ). Derives (kind_of plain) (x ∷ s)) (sym e) (passthrough keycap_plain h)

derive_class : {q : State} {c : ℕ} {s : List ℕ} {k : Class} → HasClass c k → Walk (start_state k) s q
    → Derives (kind_of (start_state k)) (c ∷ s)
unfolding start_state kind_of
derive_class (is_selector_lem e) w = run_of_selectors e (tail_walk w)
derive_class (is_link e) w = links_derive e (tail_walk w)
derive_class (is_ri_lem e) w = sequence_ri e (tail_walk w)
derive_class {c = c} (is_modifier e) w = sequence_single (modifier_emoji c e) (tail_walk w)
derive_class (is_emoji_lem e r m) w = sequence_single e (tail_walk w)
derive_class (is_keycap e) w = keycap_derive e (tail_walk w)
derive_class {c = c} (is_tag_lem e) w = passthrough (tag_plain c e) (tail_walk w)
derive_class (is_other p k t) w = passthrough p (tail_walk w)

pub walk_derive : {q : State} (c : ℕ) {s : List ℕ} → Walk (start_state (class_of c)) s q
    → Derives (kind_of (start_state (class_of c))) (c ∷ s)
walk_derive c w = derive_class (has_class c) w
