-- Numbers as bytes, eight bytes for each: the number of bytes, and a loop that writes one number after the other.
use mathlib.Core.Path.{◌≡◌, refl, sym, ap, ◌∙◌}
use mathlib.Core.Bool.{cond}
use mathlib.Core.List.{List, [], ◌∷◌, ◌++◌, append_assoc}
use Prim.Native.Nat.{ℕ, ◌+◌, ◌*◌, ◌<◌, ◌≤◌}
use native.Mathlib.Omega.{arith}
use native.Mathlib.Numerals.{add-one}
use lib.ListN.{drop, get_or, length, length-append}
use lib.Seq.{drop-cons, sets}
use Rattle.base.specs.Output.{PutAt}
use Rattle.base.specs.Words.{bytes_of, has_room, word_bytes}
use Rattle.base.proofs.Words.{length_word_bytes, word_put}
use Rattle.base.proofs.Writer.{Writing, put, put_as, put_then, room}

-- Each number has eight bytes.
pub length_bytes_of_lem : (ws : List ℕ) → length (bytes_of ws) ≡ length ws * 8
unfolding bytes_of
length_bytes_of_lem [] = refl
length_bytes_of_lem (w ∷ ws) =
    let e = length_bytes_of_lem ws in
    omega (arith, length-append (word_bytes w) (bytes_of ws), length_word_bytes w)

-- The bytes from number i on are the bytes of number i, then the bytes from number i + 1 on.
pub bytes_of_drop : (ws : List ℕ) (i : ℕ) → i < length ws → bytes_of (drop i ws) ≡ word_bytes (get_or ws i 0) ++ bytes_of (drop (i + 1) ws)
unfolding bytes_of
bytes_of_drop ws i h = ap bytes_of (drop-cons ws i 0 h)
    ∙ ap (λ (k : ℕ). word_bytes (get_or ws i 0) ++ bytes_of (drop k ws)) (sym (add-one i))

-- The bytes of two lists one after the other.
pub bytes_of_append : (ws vs : List ℕ) → bytes_of (ws ++ vs) ≡ bytes_of ws ++ bytes_of vs
unfolding bytes_of
bytes_of_append [] vs = refl
bytes_of_append (w ∷ ws) vs = ap (λ (l : List ℕ). word_bytes w ++ l) (bytes_of_append ws vs)
    ∙ sym (append_assoc (word_bytes w) (bytes_of ws) (bytes_of vs))

pub length_both : (ws vs : List ℕ) → length (bytes_of (ws ++ vs)) ≡ length (bytes_of ws) + length (bytes_of vs)
length_both ws vs = ap length (bytes_of_append ws vs) ∙ length-append (bytes_of ws) (bytes_of vs)

pub put_both : {o o₁ o₂ : List ℕ} {s i r : ℕ} (ws vs : List ℕ) → PutAt o s (bytes_of ws) o₁ i → PutAt o₁ i (bytes_of vs) o₂ r
    → PutAt o s (bytes_of (ws ++ vs)) o₂ r
put_both ws vs p q = put_as (bytes_of (ws ++ vs)) (sym (bytes_of_append ws vs)) (put_then p q)

-- A loop that writes numbers one after the other: the next number fits, and writing it keeps the invariant.
module _ (ws o₀ o : List ℕ) (start at i : ℕ) (h : i < length ws) (w : Writing (bytes_of ws) start o₀ (bytes_of (drop i ws)) o at) where
  pub word_room : at + 8 ≤ length o
  word_room =
      let r = room (bytes_of ws) start o₀ (bytes_of (drop i ws)) (word_bytes (get_or ws i 0)) (bytes_of (drop (i + 1) ws)) w
      (bytes_of_drop ws i h) in
      omega (arith, length_word_bytes (get_or ws i 0))

  pub word-written : (o' : List ℕ) → o' ≡ cond (has_room o at) (sets o at (word_bytes (get_or ws i 0))) o
      → Writing (bytes_of ws) start o₀ (bytes_of (drop (i + 1) ws)) o' (at + 8)
  word-written o' e =
      put (bytes_of ws) start o₀ (bytes_of (drop i ws)) (bytes_of (drop (i + 1) ws)) w (word_put o o' at (get_or ws i 0) word_room e)
      (bytes_of_drop ws i h)
