-- An arm of a match on a class: a property of each class that the arm names holds where the arm is taken.
use mathlib.Core.Path.{◌≡◌, refl}
use mathlib.Core.Bool.{Bool, true, false}
use mathlib.Core.List.{List}
use Prim.Native.Nat.{ℕ}
use types.Run.{OneOf, miss}
use mir.Val.{has_key}
use denote.Enum.Declared.{tag_of}
use Rattle.scanner.specs.contracts.char_class.Class.{the_type as the_class}
use Rattle.scanner.specs.Classes.{Class, selector, link, ri, modifier, emoji, keycap, tag, other}

-- The property X, if the arm names the variant; otherwise nothing is to be shown.
abbrev pub When : Bool → Type 0 → Type 0
When true X = X
When false X = Unit {0}

named : (ks : List ℕ) (n : ℕ) (X : Type 0) → When (has_key ks n) X → OneOf ks n → X
named ks n X e h = go (has_key ks n) refl e
  where
    go : (b : Bool) → has_key ks n ≡ b → When b X → X
    go true p x = x
    go false p x = absurd (miss ks n (rw p tt) h)

-- ---- a match on a class

abbrev pub OfClasses : List ℕ → (Class → Type 0) → Type 0
OfClasses ks P =
    When (has_key ks 0) (P selector) × When (has_key ks 1) (P link) × When (has_key ks 2) (P ri) × When (has_key ks 3) (P modifier)
    × When (has_key ks 4) (P emoji) × When (has_key ks 5) (P keycap) × When (has_key ks 6) (P tag) × When (has_key ks 7) (P other)

pub class_arm : (ks : List ℕ) (P : Class → Type 0) → OfClasses ks P → (k : Class) → OneOf ks (tag_of the_class k) → P k
class_arm ks P e selector h = named ks 0 (P selector) e.0 h
class_arm ks P e link h = named ks 1 (P link) e.1 h
class_arm ks P e ri h = named ks 2 (P ri) e.2 h
class_arm ks P e modifier h = named ks 3 (P modifier) e.3 h
class_arm ks P e emoji h = named ks 4 (P emoji) e.4 h
class_arm ks P e keycap h = named ks 5 (P keycap) e.5 h
class_arm ks P e tag h = named ks 6 (P tag) e.6 h
class_arm ks P e other h = named ks 7 (P other) e.7 h
