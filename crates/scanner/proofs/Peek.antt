-- What the result of `peek_at` says of a text at an offset. Every function that reads a character uses these laws.
use Rattle.std.specs.Prelude.{Some, None}
use mathlib.Core.Path.{◌≡◌, refl, ap, ap₂, sym, ◌∙◌}
use mathlib.Core.Bool.{Bool, true≢false}
use mathlib.Core.List.{List, [], ◌∷◌}
use Prim.Native.Nat.{ℕ, ◌+◌, ◌≤◌, ◌<◌}
use native.Mathlib.Omega.{arith}
use types.Run.{OneOf}
use denote.Enum.Declared.{tag_of}
use lib.ListN.{length, drop, length-drop}
use Rattle.utf8.specs.Rfc3629.{chars, valid_up_to_of}
use Rattle.utf8.proofs.Places as Places
use Rattle.utf8.proofs.Texts.{valid_up_to_le}
use Rattle.scanner.specs.Classes.{Class, class_of}
use Rattle.scanner.specs.Peek.{peek_at}
use Rattle.scanner.specs.declared.char_class.Peeked.{Peeked}
use Rattle.scanner.specs.Spans.{size, width}
use Rattle.scanner.proofs.Arms.{OfClasses, class_arm}
use Rattle.scanner.specs.contracts.char_class.Class.{the_type as the_class}
use Rattle.scanner.proofs.Bytes.{chars-from, size-chars, width_some}

-- At the offset `at` of a text stands the character v of class k; `next` is the offset after it.
pub record Seen (text : List ℕ) (at v : ℕ) (k : Class) (next : ℕ) : Type 0 where
  pub class : k ≡ class_of v
  pub after : next ≡ at + width v
  pub chars_on : chars (drop at text) ≡ v ∷ chars (drop next text)
  pub on : at < next
  pub room : next ≤ length text

-- No character begins at the offset.
pub record Unseen (text : List ℕ) (at : ℕ) : Type 0 where
  pub chars_none : chars (drop at text) ≡ []

-- The character v of class k that ends at n.
abbrev pub found : ℕ → Class → ℕ → Peeked
found v k n = record { value = v; class = k; end = n }

module _ (text : List ℕ) (at : ℕ) where
  -- The value that the code returns: for a character that it decoded, and where it decoded none.
  pub peeked : (v w : ℕ) (k : Class) → Places.Step text at v w → k ≡ class_of v
      → Some (found v k (at + w)) ≡ peek_at at (chars (drop at text))
  unfolding peek_at width
  peeked v w k h e = ap₂ (λ (x : Class) (n : ℕ). Some (found v x (at + n))) e (sym h.width) ∙ ap (peek_at at) (sym h.chars_on)

  pub not_peeked : Places.Stop text at → None ≡ peek_at at (chars (drop at text))
  unfolding peek_at
  not_peeked h = ap (peek_at at) (sym h.chars_none)

  -- What a caller knows from that value.
  pub seen : {v : ℕ} {k : Class} {next : ℕ} → peek_at at (chars (drop at text)) ≡ Some (found v k next) → Seen text at v k next
  unfolding peek_at
  seen {v} {k} {next} e = go (chars (drop at text)) refl e
    where
      go : (t : List ℕ) → chars (drop at text) ≡ t → peek_at at t ≡ Some (found v k next) → Seen text at v k next
      go [] p q = absurd (true≢false (cc))
      go (c ∷ t) p q =
          let z : found v k next ≡ found c (class_of c) (at + width c) = cc in
          let x : c ≡ v = ap (λ (p : Peeked). p.value) (sym z) in
          let y : k ≡ class_of c = ap (λ (p : Peeked). p.class) z in
          let n : next ≡ at + width c = ap (λ (p : Peeked). p.end) z in
          let m : next ≡ at + size width (c ∷ []) = omega (arith, n) in
          let d : chars (drop next text) ≡ t = ap (λ (i : ℕ). chars (drop i text)) m ∙ chars-from text at (c ∷ []) t p in
          let b : width c + size width t ≡ valid_up_to_of (drop at text) = ap (size width) (sym p) ∙ size-chars (drop at text) in
          record {
            class = y ∙ ap class_of x;
            after = n ∙ ap (λ (m : ℕ). at + width m) x;
            chars_on = p ∙ ap₂ (λ (a : ℕ) (l : List ℕ). a ∷ l) x (sym d);
            on = omega (arith, n, width_some c);
            room = omega (arith, n, b, width_some c, valid_up_to_le (drop at text), length-drop at text);
          }

  pub unseen : peek_at at (chars (drop at text)) ≡ None → Unseen text at
  unfolding peek_at
  unseen e = record { chars_none = go (chars (drop at text)) e }
    where
      go : (t : List ℕ) → peek_at at t ≡ None → t ≡ []
      go [] q = refl
      go (c ∷ t) q = cc

-- An arm of a match on the class: the test f has the result b in the arm if it has the result b for each class that the arm names.
pub seen_arm : {text : List ℕ} {at v : ℕ} {k : Class} {next : ℕ} → Seen text at v k next → (f : Class → Bool) (b : Bool) (ks : List ℕ)
    → OfClasses ks (λ (y : Class). f y ≡ b) → OneOf ks (tag_of the_class k) → f k ≡ b
seen_arm {k = k} h f b ks e o = class_arm ks (λ (y : Class). f y ≡ b) e k o
