-- What a piece writes: the held base, and each character that the piece completes, with a selector. There are no more such
-- characters than the piece has bytes.
use Rattle.std.specs.Prelude.{Some, None, Option}
use mathlib.Core.Path.{◌≡◌, refl, ap, sym, ◌∙◌}
use mathlib.Core.Logic.{⊎_elim}
use mathlib.Core.Bool.{Bool, true, false}
use mathlib.Core.List.{List, [], ◌∷◌, ◌++◌, map}
use Prim.Native.Nat.{ℕ, ◌+◌, ◌*◌, ◌≤◌}
use native.Mathlib.Omega.{arith}
use lib.ListN.{drop, length, length-append, length-drop, length-map, take}
use lib.Seq.{take-append-le, take_at}
use Rattle.base.proofs.Tests.{le_or_lt}
use Rattle.utf8.specs.Rfc3629.{chars, encode, encode_all, read_char, utf8_char, valid_up_to_of}
use Rattle.utf8.specs.declared.ReadChar.{ReadChar}
use Rattle.utf8.specs.declared.ReadChar.TheVariants.{Char, IllFormed, End}
use Rattle.utf8.proofs.Decoding.{utf8_char_encode}
use Rattle.utf8.proofs.Encoding.{char_begins, encode-few}
use Rattle.utf8.proofs.Folds.{chars-char, chars_end, chars_ill_formed}
use Rattle.utf8.proofs.Texts.{encode_all_append, length_encode_all_chars, valid_up_to_le}
use Rattle.emoji.specs.Presentation.{as_selector, from_selector}
use Rattle.emoji.specs.Unicode.{has_variation_sequence}
use Rattle.emoji.specs.declared.presentation.Presentation.{Presentation}
use Rattle.emoji.specs.declared.presentation.Presentation.TheVariants.{Emoji, Text}
use Rattle.policy.specs.declared.Policy.{Policy}
use Rattle.scanner.specs.Classes.{class_of}
use Rattle.scanner.specs.declared.char_class.Class.{Class}
use Rattle.analysis.specs.Analysis.{chosen}
use Rattle.analysis.specs.Rules.{outcome, run_with}
use Rattle.analysis.specs.declared.singleton.Slot.{Slot}
use Rattle.analysis.specs.declared.singleton.Slot.TheVariants.{Bare as bare, Decided as decided, Fixed as fixed}
use Rattle.utf8.specs.Subparts.{unfinished}
use Rattle.utf8.proofs.Unfinished.{unfinished-few, unfinished_no_char}
use Rattle.feed.specs.Feed.{
  Fed,
  Pending,
  written_alone,
  base,
  held_after_of,
  chars_of,
  nothing,
  settle,
  take_char,
  take_chars,
  take_selector,
}
use Rattle.feed.specs.Calls.{Feed, fed_by}
use Rattle.feed.proofs.Calls.{chars_tagged}

-- ---- bytes of what is held and written

pub selectors_bytes : (s : List Presentation) → length (encode_all (map as_selector s)) ≡ 3 * length s
unfolding encode_all encode as_selector
selectors_bytes [] = omega arith
selectors_bytes (Text ∷ s) = omega (arith, selectors_bytes s)
selectors_bytes (Emoji ∷ s) = omega (arith, selectors_bytes s)

chosen-few : (o : Slot) → length (chosen o []) ≤ 1
chosen-few bare = omega arith
chosen-few (fixed q) = omega arith
chosen-few (decided d) = omega arith

-- The most bytes that the held base can take: its own, and a selector.
unfoldable pub held : Pending → ℕ
held nothing = 0
held (base p c f n) = length (encode c) + 3

pub held-few : (s : Pending) → held s ≤ 7
unfolding held
held-few nothing = omega arith
held-few (base p c f n) = omega (arith, encode-few c)

pub settle_bytes : (s : Pending) (k : Class) → length (encode_all (settle s k).text) ≤ held s
unfolding settle encode_all held
settle_bytes nothing k = omega arith
settle_bytes (base p c f n) k =
    let q = chosen (outcome p c k (run_with f n)).slot [] in
    omega (
      arith,
      length-append (encode c) (encode_all (map as_selector q)),
      selectors_bytes q,
      chosen-few
          (outcome p c k (run_with f n)).slot,
    )

pub alone_bytes : (p : Policy) (c : ℕ) (h : Bool) → length (encode_all (written_alone c h)) + held (held_after_of p c h) ≤ length (encode c)
    + 3
unfolding encode_all held
alone_bytes p c true = omega arith
alone_bytes p c false = omega (arith, length-append (encode c) [])

-- One character: what is written and then held.
pub char_bytes : (p : Policy) (s : Pending) (c : ℕ) (y : Option Presentation)
    → length (encode_all (take_char p s c y).1.text) + held (take_char p s c y).0 ≤ held s + (length (encode c) + 3)
unfolding take_char take_selector encode_all held
char_bytes p nothing c (Some q) = omega arith
char_bytes p (base p' d f n) c (Some q) = omega arith
char_bytes p s c None =
    let h = has_variation_sequence c in
    let a = (settle s (class_of c)).text in
    let e = ap length (encode_all_append a (written_alone c h)) in
    omega (arith, e, length-append (encode_all a) (encode_all (written_alone c h)), settle_bytes s (class_of c), alone_bytes p c h)

pub chars_bytes : (s : Pending) (xs : List Fed)
    → length (encode_all (take_chars s xs).1.text) + held (take_chars s xs).0 ≤ held s + (length (encode_all (chars_of xs)) + 3 * length xs)
unfolding take_chars encode_all
chars_bytes s [] = omega arith
chars_bytes s (x ∷ xs) =
    let r = take_char x.policy s x.char (from_selector x.char) in
    let q = take_chars r.0 xs in
    let e = ap length (encode_all_append r.1.text q.1.text) in
    omega (
      arith,
      e,
      length-append (encode_all r.1.text) (encode_all q.1.text),
      length-append (encode x.char) (encode_all (chars_of xs)),
      char_bytes x.policy s x.char (from_selector x.char),
      chars_bytes r.0 xs,
    )

-- ---- how many characters a piece completes

pub count_le : (vs : List ℕ) → length vs ≤ length (encode_all vs)
unfolding encode_all
count_le [] = omega arith
count_le (v ∷ vs) = omega (arith, length-append (encode v) (encode_all vs), encode-few v, count_le vs)

-- Each of them ends in the piece.
pub completed : (r b : List ℕ) → unfinished r ≡ true → length (chars (r ++ b)) ≤ length b
completed r b e = go (read_char (r ++ b)) refl
  where
    go : (x : ReadChar) → read_char (r ++ b) ≡ x → length (chars (r ++ b)) ≤ length b
    go End p = omega (arith, ap length (chars_end (r ++ b) p))
    go (IllFormed k) p = omega (arith, ap length (chars_ill_formed (r ++ b) p))
    go (Char v w) p =
        let c = char_begins (r ++ b) v w p in
        let d = drop w (r ++ b) in
        let m = length_encode_all_chars d in
        let l = ap length c.bytes in
        ⊎_elim
        (λ h.
        let t : take w r ≡ encode v = sym (take-append-le w r b h) ∙ ap (take w) (sym c.bytes) ∙ take_at (encode v) d w c.width in
        absurd (unfinished_no_char r e w (ap utf8_char t ∙ utf8_char_encode v c.is_scalar_lem)))
        (λ h. omega (
          arith,
          ap length (chars-char (r ++ b) v w p),
          count_le (chars d),
          m,
          valid_up_to_le d,
          length-drop w (r ++ b),
          length-append (encode v) d,
          length-append r b,
        ))
        (le_or_lt w (length r))

pub piece_bytes : (f : Feed) (b : List ℕ) → unfinished f.rest ≡ true
    → length (encode_all (take_chars f.pending (fed_by f b)).1.text) ≤ 4 * length b + 10
piece_bytes f b e =
    let u = f.rest ++ b in
    let xs = fed_by f b in
    let n : length xs ≡ length (chars u) = length-map (chars u) (λ (c : ℕ). record { char = c; policy = f.policy }) in
    let k : length (encode_all (chars_of xs)) ≡ valid_up_to_of u =
    ap (λ (l : List ℕ). length (encode_all l)) (chars_tagged f.policy (chars u))
    ∙ length_encode_all_chars u in
    omega (
      arith,
      chars_bytes f.pending xs,
      held-few f.pending,
      n,
      k,
      valid_up_to_le u,
      length-append f.rest b,
      completed f.rest b e,
      unfinished-few f.rest e,
    )
