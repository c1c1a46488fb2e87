-- A word that is put, and the other words.
use mathlib.Core.Path.{◌≡◌, refl, ap, sym, ◌∙◌}
use mathlib.Core.Bool.{Bool, true, false}
use mathlib.Core.List.{List, [], ◌∷◌, ◌++◌, append_assoc}
use Prim.Native.Nat.{ℕ, zero, suc, ◌+◌, ◌*◌, ◌-◌, ◌^◌, ◌≤◌, ◌<◌}
use native.Mathlib.Omega.{arith}
use lib.Dec.{ltb}
use lib.ListN.{drop, get_or, length, length-append, length-drop, replicate, take, take-append-drop}
use lib.Seq.{drop-append-add, drop-append-le, drop_at, drop-drop, length-sets, length-take-le, sets-eq, take-append-le, take_at}
use borrow.Author.Tests.{ltb-false, ltb-true}
use Rattle.base.proofs.Lists.{zeros}
use Rattle.base.specs.Words.{bytes_of, number, word_at, word_bytes}
use Rattle.base.proofs.Words.{length_word_bytes, number-little_endian}
use Rattle.policy.proofs.Bytes.{get_or-words_from}
use Rattle.policy.proofs.RoundTrips.{read_words}
use Rattle.store.specs.Bytes.{put_word}

module _ (bs : List ℕ) (k w : ℕ) (room : 8 * k + 8 ≤ length bs) where
  abbrev A : List ℕ
  A = take (8 * k) bs

  abbrev Z : List ℕ
  Z = drop (8 * k + 8) bs

  A-length : length A ≡ 8 * k
  A-length = length-take-le (8 * k) bs (omega arith)

  as_parts : put_word k w bs ≡ A ++ (word_bytes w ++ Z)
  as_parts =
      let e = length_word_bytes w in
      let r : 8 * k + length (word_bytes w) ≤ length bs = omega (arith, e) in
      sets-eq (word_bytes w) bs (8 * k) r ∙ append_assoc A (word_bytes w) (drop (8 * k + length (word_bytes w)) bs)
      ∙ ap (λ (m : ℕ). A ++ (word_bytes w ++ drop (8 * k + m) bs)) e

  pub word_same : w < 2 ^ 64 → word_at k (put_word k w bs) ≡ w
  unfolding word_bytes
  word_same h =
      ap (λ (l : List ℕ). number (take 8 (drop (8 * k) l))) as_parts
      ∙ ap (λ (l : List ℕ). number (take 8 l)) (drop_at A (word_bytes w ++ Z) (8 * k) A-length)
      ∙ ap number (take_at (word_bytes w) Z 8 (length_word_bytes w))
      ∙ number-little_endian 8 w h

  -- a word before it
  word_before : (j : ℕ) → j < k → word_at j (put_word k w bs) ≡ word_at j bs
  word_before j h =
      let a : 8 * j ≤ length A = omega (arith, A-length) in
      let b : 8 ≤ length (drop (8 * j) A) = omega (arith, A-length, length-drop (8 * j) A) in
      let front : (T : List ℕ) → take 8 (drop (8 * j) (A ++ T)) ≡ take 8 (drop (8 * j) A) =
      λ T. ap (take 8) (drop-append-le (8 * j) A T a) ∙ take-append-le 8 (drop (8 * j) A) T b in
      ap (λ (l : List ℕ). number (take 8 (drop (8 * j) l))) as_parts
      ∙ ap number (front (word_bytes w ++ Z))
      ∙ sym (ap number (front (drop (8 * k) bs)))
      ∙ ap (λ (l : List ℕ). number (take 8 (drop (8 * j) l))) (take-append-drop (8 * k) bs)

  -- a word after it
  word_after : (j : ℕ) → k < j → word_at j (put_word k w bs) ≡ word_at j bs
  word_after j h =
      let F = A ++ word_bytes w in
      let f : length F ≡ 8 * k + 8 = omega (arith, length-append A (word_bytes w), A-length, length_word_bytes w) in
      let m = 8 * j - (8 * k + 8) in
      let s : 8 * j ≡ length F + m = omega arith in
      let t : 8 * k + 8 + m ≡ 8 * j = omega arith in
      ap (λ (l : List ℕ). number (take 8 (drop (8 * j) l))) (as_parts ∙ sym (append_assoc A (word_bytes w) Z))
      ∙ ap (λ (i : ℕ). number (take 8 (drop i (F ++ Z)))) s
      ∙ ap (λ (l : List ℕ). number (take 8 l)) (drop-append-add F Z m ∙ drop-drop m (8 * k + 8) bs)
      ∙ ap (λ (i : ℕ). number (take 8 (drop i bs))) t

  pub word-other : (j : ℕ) → (j ≡ k → ⊥) → word_at j (put_word k w bs) ≡ word_at j bs
  word-other j h = go (ltb j k) refl
    where
      go : (t : Bool) → ltb j k ≡ t → word_at j (put_word k w bs) ≡ word_at j bs
      go true e = word_before j (ltb-true j k e)
      go false e = let l : k ≤ j = ltb-false j k e in word_after j (omega arith)

  pub size_same : length (put_word k w bs) ≡ length bs
  size_same = length-sets bs (8 * k) (word_bytes w)

-- ---- words written out

pub word_of : (ws : List ℕ) → ((k : ℕ) → get_or ws k 0 < 2 ^ 64) → (k : ℕ) → k < length ws → word_at k (bytes_of ws) ≡ get_or ws k 0
word_of ws h k l =
    let e : 8 * k ≡ 0 + k * 8 = omega arith in
    ap (λ (i : ℕ). number (take 8 (drop i (bytes_of ws)))) e
    ∙ sym (get_or-words_from (length ws) 0 (bytes_of ws) k l)
    ∙ ap (λ (vs : List ℕ). get_or vs k 0) (read_words ws h)

pub padded : (rs : List ℕ) (m c : ℕ) → get_or (rs ++ replicate m 0) c 0 ≡ get_or rs c 0
padded [] m c = zeros m c
padded (r ∷ rs) m zero = refl
padded (r ∷ rs) m (suc c) = padded rs m c
