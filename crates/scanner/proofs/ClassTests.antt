-- Document 01's tests of a character are tests of its class, and the runs by these tests are runs by class.
use mathlib.Core.Path.{◌≡◌, refl, ap, ap₂, sym, ◌∙◌}
use mathlib.Core.Bool.{Bool, true, false, cond, not, ◌||◌, false≢true}
use mathlib.Core.List.{List, [], ◌∷◌}
use Prim.Native.Nat.{ℕ}
use lib.Dec.{eqb}
use borrow.Author.Tests.{eq-eqb, eqb-true}
use Rattle.base.proofs.Tests.{same_test}
use Rattle.emoji.specs.Presentation.{is_selector}
use Rattle.emoji.specs.Unicode.{is_emoji, is_emoji_modifier, is_ri, is_tag}
use Rattle.scanner.specs.Classes.{Class, selector, link, ri, modifier, emoji, keycap, tag, other, class_of, is_class}
use Rattle.scanner.specs.RunKinds.{is_emoji_class, is_link_class, is_modification_class, is_selector_class, is_tag_class, run_of}
use Rattle.scanner.specs.Runs.{in_links, in_modifications, in_tags, is_modification, is_passthrough, passthrough_at, run, selectors_at}
use Rattle.scanner.specs.declared.char_runs.RunKind.TheVariants.{Links, Modifications, Passthrough, Selectors, Tags}
use Rattle.scanner.proofs.Arms.{When}
use Rattle.scanner.proofs.Classes.{
  HasClass,
  is_emoji_lem,
  is_keycap,
  is_link,
  is_modifier,
  is_other,
  is_ri_lem,
  is_selector_lem,
  is_tag_lem,
  class_is,
  EmojiClass,
  an_emoji,
  an_ri,
  a_modifier,
  emoji_class,
  has_class,
  modifier_emoji,
  ri_emoji,
}

-- ---- the tests by class

abbrev pub is_ri_class : Class → Bool
is_ri_class = is_class ri

-- If the test f passes the class k, it passes the class of a character of class k.
at_class : (f : Class → Bool) {c : ℕ} {k : Class} → HasClass c k → f k ≡ true → f (class_of c) ≡ true
at_class f h e = ap f (class_is h) ∙ e

taken : (b : Bool) (X : Type 0) → When b X → b ≡ true → X
taken true X x e = x
taken false X x e = absurd (false≢true e)

-- A property X of a character whose class passes the test f: X is shown for each class that passes f.
passed : (f : Class → Bool) (c : ℕ) (X : Type 0)
    → When (f selector) (is_selector c ≡ true → X)
    × When (f link) (c ≡ 0x200D → X)
    × When (f ri) (is_ri c ≡ true → X)
    × When (f modifier) (is_emoji_modifier c ≡ true → X)
    × When (f emoji) (is_emoji c ≡ true → X)
    × When (f keycap) (c ≡ 0x20E3 → X)
    × When (f tag) (is_tag c ≡ true → X)
    × When (f other) X
    → {k : Class} → HasClass c k → f k ≡ true → X
passed f c X b (is_selector_lem s) e = taken (f selector) (is_selector c ≡ true → X) b.0 e s
passed f c X b (is_link s) e = taken (f link) (c ≡ 0x200D → X) b.1 e s
passed f c X b (is_ri_lem s) e = taken (f ri) (is_ri c ≡ true → X) b.2 e s
passed f c X b (is_modifier s) e = taken (f modifier) (is_emoji_modifier c ≡ true → X) b.3 e s
passed f c X b (is_emoji_lem s r m) e = taken (f emoji) (is_emoji c ≡ true → X) b.4 e s
passed f c X b (is_keycap s) e = taken (f keycap) (c ≡ 0x20E3 → X) b.5 e s
passed f c X b (is_tag_lem s) e = taken (f tag) (is_tag c ≡ true → X) b.6 e s
passed f c X b (is_other s k t) e = taken (f other) X b.7 e

pub selector_test : (c : ℕ) → is_selector c ≡ is_selector_class (class_of c)
selector_test c =
    same_test (is_selector c) (is_selector_class (class_of c)) (λ e. at_class is_selector_class (is_selector_lem e) refl)
    (passed is_selector_class c (is_selector c ≡ true) ((λ s. s), tt, tt, tt, tt, tt, tt, tt) (has_class c))

pub link_test : (c : ℕ) → eqb c 0x200D ≡ is_link_class (class_of c)
link_test c =
    same_test (eqb c 0x200D) (is_link_class (class_of c)) (λ e. at_class is_link_class (is_link (eqb-true c 0x200D e)) refl)
    (passed is_link_class c (eqb c 0x200D ≡ true) (tt, eq-eqb c 0x200D, tt, tt, tt, tt, tt, tt) (has_class c))

pub ri_test : (c : ℕ) → is_ri c ≡ is_ri_class (class_of c)
ri_test c =
    same_test (is_ri c) (is_ri_class (class_of c)) (λ e. at_class is_ri_class (is_ri_lem e) refl)
    (passed is_ri_class c (is_ri c ≡ true) (tt, tt, (λ s. s), tt, tt, tt, tt, tt) (has_class c))

pub tag_test : (c : ℕ) → is_tag c ≡ is_tag_class (class_of c)
tag_test c =
    same_test (is_tag c) (is_tag_class (class_of c)) (λ e. at_class is_tag_class (is_tag_lem e) refl)
    (passed is_tag_class c (is_tag c ≡ true) (tt, tt, tt, tt, tt, tt, (λ s. s), tt) (has_class c))

pub emoji_test : (c : ℕ) → is_emoji c ≡ is_emoji_class (class_of c)
emoji_test c =
    same_test (is_emoji c) (is_emoji_class (class_of c)) (λ e. forth (emoji_class c e))
    (passed is_emoji_class c (is_emoji c ≡ true) (tt, tt, ri_emoji c, modifier_emoji c, (λ s. s), tt, tt, tt) (has_class c))
  where
    forth : EmojiClass c → is_emoji_class (class_of c) ≡ true
    forth (an_ri r) = at_class is_emoji_class (is_ri_lem r) refl
    forth (a_modifier m) = at_class is_emoji_class (is_modifier m) refl
    forth (an_emoji h) = at_class is_emoji_class h refl

modifier_test : (c : ℕ) → is_emoji_modifier c ≡ is_class modifier (class_of c)
modifier_test c =
    same_test (is_emoji_modifier c) (is_class modifier (class_of c)) (λ e. at_class (is_class modifier) (is_modifier e) refl)
    (passed (is_class modifier) c (is_emoji_modifier c ≡ true) (tt, tt, tt, (λ s. s), tt, tt, tt, tt) (has_class c))

keycap_test : (c : ℕ) → eqb c 0x20E3 ≡ is_class keycap (class_of c)
keycap_test c =
    same_test (eqb c 0x20E3) (is_class keycap (class_of c)) (λ e. at_class (is_class keycap) (is_keycap (eqb-true c 0x20E3 e)) refl)
    (passed (is_class keycap) c (eqb c 0x20E3 ≡ true) (tt, tt, tt, tt, tt, eq-eqb c 0x20E3, tt, tt) (has_class c))

either : {a b c d : Bool} → a ≡ c → b ≡ d → (a || b) ≡ (c || d)
either = ap₂ (λ (x y : Bool). x || y)

pub modification_test : (c : ℕ) → is_modification c ≡ is_modification_class (class_of c)
unfolding is_modification
modification_test c = either (modifier_test c) (either (keycap_test c) (tag_test c))

abbrev pub is_tag_or_selector_class : Class → Bool
is_tag_or_selector_class k = is_tag_class k || is_selector_class k

pub tags_test : (c : ℕ) → in_tags c ≡ is_tag_or_selector_class (class_of c)
tags_test c = either (tag_test c) (selector_test c)

-- ---- the runs by class

run-same : (f g : ℕ → Bool) → ((c : ℕ) → f c ≡ g c) → (t : List ℕ) → run f t ≡ run g t
unfolding run
run-same f g e [] = refl
run-same f g e (c ∷ t) = ap₂ (λ (b : Bool) (l : List ℕ). cond b (c ∷ l) []) (e c) (run-same f g e t)

pub run_selectors : (t : List ℕ) → run_of Selectors t ≡ selectors_at t
run_selectors = run-same _ is_selector (λ c. sym (selector_test c))

pub run-links : (t : List ℕ) → run_of Links t ≡ run in_links t
run-links = run-same _ in_links (λ c. sym (either (link_test c) (selector_test c)))

pub run_modifications : (t : List ℕ) → run_of Modifications t ≡ run in_modifications t
run_modifications = run-same _ in_modifications (λ c. sym (either (modification_test c) (selector_test c)))

pub run_tags : (t : List ℕ) → run_of Tags t ≡ run is_tag t
run_tags = run-same _ is_tag (λ c. sym (tag_test c))

pub run_passthrough : (t : List ℕ) → run_of Passthrough t ≡ passthrough_at t
unfolding passthrough_at
run_passthrough =
    run-same _ is_passthrough (λ c. sym (ap not (either (selector_test c) (either (link_test c) (emoji_test c)))))
