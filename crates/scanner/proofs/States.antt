-- Facts about all states and classes, each by one computed test: which transitions stay in passthrough, and which states selectors
-- lead back to.
use Rattle.std.specs.Prelude.{Some, None, Option}
use mathlib.Core.Path.{◌≡◌, refl, sym, subst}
use mathlib.Core.Bool.{Bool, true, false, ◌&&◌, beq, false≢true, true≢false}
use lib.Dec.{T}
use Rattle.base.proofs.Tests.{beq_so, both_true}
use Rattle.scanner.specs.Classes.{Class, selector, link, ri, modifier, emoji, keycap, tag, other}
use Rattle.scanner.specs.Items.{
  State,
  plain,
  selectors,
  links,
  one_ri,
  unit,
  joined,
  left_over,
  transition,
  start_state,
  begins_tags,
  kind_of,
  next_of,
}
use Rattle.scanner.specs.declared.ScanKind.TheVariants.{EmojiHeaded, LinksOnly, Passthrough, UnsanctionedPresentationSelectors}

-- ---- a fact about all states and classes is one computed test

abbrev pub Row : (Class → Bool) → Type 0
Row f = T (f selector) × T (f link) × T (f ri) × T (f modifier) × T (f emoji) × T (f keycap) × T (f tag) × T (f other)

abbrev pub Every : (State → Class → Bool) → Type 0
Every f = Row (f plain) × Row (f selectors) × Row (f links) × Row (f one_ri) × Row (f unit) × Row (f joined) × Row (f left_over)

pub row_of : (f : Class → Bool) → Row f → (k : Class) → T (f k)
row_of f e selector = e.0
row_of f e link = e.1
row_of f e ri = e.2
row_of f e modifier = e.3
row_of f e emoji = e.4
row_of f e keycap = e.5
row_of f e tag = e.6
row_of f e other = e.7

pub everywhere : (f : State → Class → Bool) → Every f → (p : State) (k : Class) → T (f p k)
everywhere f e plain = row_of (f plain) e.0
everywhere f e selectors = row_of (f selectors) e.1
everywhere f e links = row_of (f links) e.2
everywhere f e one_ri = row_of (f one_ri) e.3
everywhere f e unit = row_of (f unit) e.4
everywhere f e joined = row_of (f joined) e.5
everywhere f e left_over = row_of (f left_over) e.6

-- The proof of such a test.
abbrev pub always : Every (λ p k. true)
always = let r : Row (λ k. true) = (tt, tt, tt, tt, tt, tt, tt, tt) in (r, r, r, r, r, r, r)

pub is_true : (b : Bool) → T b → b ≡ true
is_true true h = refl
is_true false h = absurd h

same_bool : (a b : Bool) → T (beq a b) → a ≡ b
same_bool a b h = beq_so a b (is_true (beq a b) h)

-- A test of the state to which a transition leads; true if there is no transition.
abbrev pub on_some : (State → Bool) → Option State → Bool
on_some f (Some q) = f q
on_some f None = true

abbrev pub on_transition : (State → State → Bool) → State → Class → Bool
on_transition f p k = on_some (f p) (transition p k)

pub on-transition : (f : State → State → Bool) → Every (on_transition f) → (p q : State) (k : Class) → transition p k ≡ Some q → T (f p q)
on-transition f h p q k e = subst (λ (o : Option State). T (on_some (f p) o)) e (everywhere (on_transition f) h p k)

-- ---- passthrough

abbrev pub is_plain : State → Bool
is_plain plain = true
is_plain selectors = false
is_plain links = false
is_plain one_ri = false
is_plain unit = false
is_plain joined = false
is_plain left_over = false

pub same_side : (p q : State) (k : Class) → transition p k ≡ Some q → is_plain p ≡ is_plain q
unfolding transition
same_side p q k e = same_bool (is_plain p) (is_plain q) (on-transition (λ p q. beq (is_plain p) (is_plain q)) always p q k e)

pub is_plain_lem : (p : State) → is_plain p ≡ true → p ≡ plain
is_plain_lem plain e = refl
is_plain_lem selectors e = absurd (false≢true e)
is_plain_lem links e = absurd (false≢true e)
is_plain_lem one_ri e = absurd (false≢true e)
is_plain_lem unit e = absurd (false≢true e)
is_plain_lem joined e = absurd (false≢true e)
is_plain_lem left_over e = absurd (false≢true e)

pub kind_plain : (p : State) → is_plain p ≡ true → kind_of p ≡ Passthrough
unfolding kind_of
kind_plain p e = subst (λ (q : State). kind_of q ≡ Passthrough) (sym (is_plain_lem p e)) refl

-- Passthrough goes on with exactly the characters that would begin a passthrough item.
plain_on : Class → State → Bool
plain_on k q = is_plain q && is_plain (start_state k)

pub plain_transition : (k : Class) (q : State) → transition plain k ≡ Some q → (q ≡ plain) × (start_state k ≡ plain)
unfolding transition start_state plain_on
plain_transition k q e =
    let t : T (plain_on k q) = subst (λ (o : Option State). T (on_some (plain_on k) o)) e
    (row_of (λ k. on_some (plain_on k) (transition plain k)) (tt, tt, tt, tt, tt, tt, tt, tt) k) in
    let b = both_true (is_plain q) (is_plain (start_state k)) (is_true (plain_on k q) t) in
    (is_plain_lem q b.0, is_plain_lem (start_state k) b.1)

-- ---- states to which selectors lead back: those of links and units

abbrev pub inner : State → Bool
inner plain = false
inner selectors = false
inner links = true
inner one_ri = true
inner unit = true
inner joined = true
inner left_over = true

pub inner-transition : (p q : State) (k : Class) → transition p k ≡ Some q → inner p ≡ inner q
unfolding transition
inner-transition p q k e = same_bool (inner p) (inner q) (on-transition (λ p q. beq (inner p) (inner q)) always p q k e)

-- A selector leads from every state other than passthrough to the same state.
pub not_plain_selector : (p : State) → is_plain p ≡ false → transition p selector ≡ Some p
unfolding transition
not_plain_selector plain e = absurd (true≢false e)
not_plain_selector selectors e = refl
not_plain_selector links e = refl
not_plain_selector one_ri e = refl
not_plain_selector unit e = refl
not_plain_selector joined e = refl
not_plain_selector left_over e = refl

-- A selector begins an item only after passthrough, or at the start of a text.
pub selector_ends : (p : State) → transition p selector ≡ None → p ≡ plain
unfolding transition
selector_ends plain e = refl
selector_ends selectors e = cc
selector_ends links e = cc
selector_ends one_ri e = cc
selector_ends unit e = cc
selector_ends joined e = cc
selector_ends left_over e = cc

pub inner_not_plain : (p : State) → inner p ≡ true → is_plain p ≡ false
inner_not_plain plain e = absurd (false≢true e)
inner_not_plain selectors e = refl
inner_not_plain links e = refl
inner_not_plain one_ri e = refl
inner_not_plain unit e = refl
inner_not_plain joined e = refl
inner_not_plain left_over e = refl

pub inner_selector : (p : State) → inner p ≡ true → transition p selector ≡ Some p
inner_selector p e = not_plain_selector p (inner_not_plain p e)

-- Only a selector continues a run of selectors.
pub selectors_transition : (k : Class) (q : State) → transition selectors k ≡ Some q → (k ≡ selector) × (q ≡ selectors)
unfolding transition
selectors_transition selector q e = (refl, cc)
selectors_transition link q e = (cc, cc)
selectors_transition ri q e = (cc, cc)
selectors_transition modifier q e = (cc, cc)
selectors_transition emoji q e = (cc, cc)
selectors_transition keycap q e = (cc, cc)
selectors_transition tag q e = (cc, cc)
selectors_transition other q e = (cc, cc)

-- A character of class emoji leads to the state of a unit whose stem is complete.
pub emoji_transition : (p q : State) → transition p emoji ≡ Some q → q ≡ unit
unfolding transition
emoji_transition plain r e = cc
emoji_transition selectors r e = cc
emoji_transition links r e = cc
emoji_transition one_ri r e = cc
emoji_transition unit r e = cc
emoji_transition joined r e = cc
emoji_transition left_over r e = cc

-- ---- the states of emoji-headed items, and tags there

abbrev pub headed : State → Bool
headed plain = false
headed selectors = false
headed links = false
headed one_ri = true
headed unit = true
headed joined = true
headed left_over = true

pub headed-transition : (p q : State) (k : Class) → transition p k ≡ Some q → headed p ≡ headed q
unfolding transition
headed-transition p q k e = same_bool (headed p) (headed q) (on-transition (λ p q. beq (headed p) (headed q)) always p q k e)

pub tag_transition : (p q : State) → transition p tag ≡ Some q → headed p ≡ true → q ≡ unit
unfolding transition
tag_transition plain q e h = absurd (false≢true h)
tag_transition selectors q e h = cc
tag_transition links q e h = cc
tag_transition one_ri q e h = cc
tag_transition unit q e h = cc
tag_transition joined q e h = cc
tag_transition left_over q e h = cc

-- A tag modification begins with a tag that leads to the state `unit`.
pub tag_begins : (q : State) (k : Class) → begins_tags q k ≡ true → (k ≡ tag) × (q ≡ unit)
unfolding begins_tags
tag_begins q selector e = absurd (false≢true e)
tag_begins q link e = absurd (false≢true e)
tag_begins q ri e = absurd (false≢true e)
tag_begins q modifier e = absurd (false≢true e)
tag_begins q emoji e = absurd (false≢true e)
tag_begins q keycap e = absurd (false≢true e)
tag_begins plain tag e = absurd (false≢true e)
tag_begins selectors tag e = absurd (false≢true e)
tag_begins links tag e = absurd (false≢true e)
tag_begins one_ri tag e = absurd (false≢true e)
tag_begins unit tag e = (refl, refl)
tag_begins joined tag e = absurd (false≢true e)
tag_begins left_over tag e = absurd (false≢true e)
tag_begins q other e = absurd (false≢true e)

-- ---- the kind of an item by the class of its first character

pub kind_passthrough : (k : Class) → kind_of (start_state k) ≡ Passthrough → start_state k ≡ plain
unfolding kind_of start_state
kind_passthrough selector e = cc
kind_passthrough link e = cc
kind_passthrough ri e = cc
kind_passthrough modifier e = cc
kind_passthrough emoji e = cc
kind_passthrough keycap e = refl
kind_passthrough tag e = refl
kind_passthrough other e = refl

pub kind_selector : (k : Class) → kind_of (start_state k) ≡ UnsanctionedPresentationSelectors → k ≡ selector
unfolding kind_of start_state
kind_selector selector e = refl
kind_selector link e = cc
kind_selector ri e = cc
kind_selector modifier e = cc
kind_selector emoji e = cc
kind_selector keycap e = cc
kind_selector tag e = cc
kind_selector other e = cc

pub kind-links : (k : Class) → kind_of (start_state k) ≡ LinksOnly → inner (start_state k) ≡ true
unfolding kind_of start_state
kind-links selector e = cc
kind-links link e = refl
kind-links ri e = refl
kind-links modifier e = refl
kind-links emoji e = refl
kind-links keycap e = cc
kind-links tag e = cc
kind-links other e = cc

pub kind_emoji : (k : Class) → kind_of (start_state k) ≡ EmojiHeaded → inner (start_state k) ≡ true
unfolding kind_of start_state
kind_emoji selector e = cc
kind_emoji link e = refl
kind_emoji ri e = refl
kind_emoji modifier e = refl
kind_emoji emoji e = refl
kind_emoji keycap e = cc
kind_emoji tag e = cc
kind_emoji other e = cc

-- ---- the code's answer for a transition

pub next-on : (o : Option State) (q : State) → next_of o ≡ Some q → o ≡ Some q
next-on (Some p) q e = cc
next-on None q e = cc

pub next_stop : (o : Option State) → next_of o ≡ None → o ≡ None
next_stop (Some p) e = cc
next_stop None e = refl
