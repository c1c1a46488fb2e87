-- Reading written words gives the words, and writing read bytes gives the bytes.
use mathlib.Core.Path.{◌≡◌, refl, sym, ap, ap₂, ◌∙◌}
use mathlib.Core.Bool.{true}
use mathlib.Core.List.{List, [], ◌∷◌, ◌++◌}
use Prim.Native.Nat.{ℕ, zero, suc, ◌+◌, ◌*◌, ◌^◌, ◌<◌}
use native.Mathlib.Nat.{suc-add, zero-add}
use native.Mathlib.Omega.{arith}
use lib.ListN.{drop, get_or, length, length-append, length-drop, take, take-append-drop}
use lib.Seq.{drop_at, drop-drop, take_at}
use Rattle.base.specs.Words.{all_bytes, bytes_of, number, word_bytes}
use Rattle.base.proofs.Words.{all_bytes_drop, length_word_bytes, number-little_endian, word_read}
use Rattle.emoji.specs.UnicodeData.{variation_entries}
use Rattle.policy_key_set.specs.Sets.{entry_count, word_count}
use Rattle.policy_key_set.specs.declared.char_set.CharSet.{CharSet}
use Rattle.policy.specs.PolicyBytes.{key_words, policy_of, policy_words, words_from}
use Rattle.policy.specs.declared.Policy.{Policy}
use Rattle.policy.proofs.Bytes.{length_words_from}

-- The words from an offset on are the words of the bytes from that offset on.
pub words_from_drop : (n at : ℕ) (bs : List ℕ) → words_from n at bs ≡ words_from n 0 (drop at bs)
unfolding words_from
words_from_drop zero at bs = refl
words_from_drop (suc n) at bs =
    ap (λ (ws : List ℕ). number (take 8 (drop at bs)) ∷ ws)
    (words_from_drop n (at + 8) bs ∙ ap (words_from n 0) (sym (drop-drop 8 at bs)) ∙ sym (words_from_drop n 8 (drop at bs)))

-- The first m words, and the next n.
pub words_from_append : (m n at : ℕ) (bs : List ℕ) → words_from (m + n) at bs ≡ words_from m at bs ++ words_from n (at + m * 8) bs
unfolding words_from
words_from_append zero n at bs =
    let e : at ≡ at + 0 * 8 = omega arith in
    ap₂ (λ (k i : ℕ). words_from k i bs) (zero-add n) e
words_from_append (suc m) n at bs =
    let e : at + 8 + m * 8 ≡ at + suc m * 8 = omega arith in
    ap (λ (k : ℕ). words_from k at bs) (suc-add m n)
    ∙ ap (λ (ws : List ℕ). number (take 8 (drop at bs)) ∷ ws)
    (words_from_append m n (at + 8) bs ∙ ap (λ (i : ℕ). words_from m (at + 8) bs ++ words_from n i bs) e)

-- Reading the bytes of 64-bit words gives the words.
pub read_words : (ws : List ℕ) → ((k : ℕ) → get_or ws k 0 < 2 ^ 64) → words_from (length ws) 0 (bytes_of ws) ≡ ws
unfolding words_from bytes_of word_bytes
read_words [] h = refl
read_words (w ∷ ws) h =
    let eight = length_word_bytes w in
    ap₂ (λ (x : ℕ) (l : List ℕ). x ∷ l)
    (ap number (take_at (word_bytes w) (bytes_of ws) 8 eight) ∙ number-little_endian 8 w (h 0))
    (words_from_drop (length ws) 8 (word_bytes w ++ bytes_of ws)
    ∙ ap (words_from (length ws) 0) (drop_at (word_bytes w) (bytes_of ws) 8 eight)
    ∙ read_words ws (λ k. h (suc k)))

-- Writing the words of bytes gives the bytes.
pub write_words : (n : ℕ) (bs : List ℕ) → length bs ≡ n * 8 → all_bytes bs ≡ true → bytes_of (words_from n 0 bs) ≡ bs
unfolding words_from bytes_of word_bytes
write_words zero [] e t = refl
write_words zero (b ∷ bs) e t = absurd (omega arith)
write_words (suc n) bs e t =
    ap₂ (λ (x y : List ℕ). x ++ y) (word_read bs 0 t (omega arith))
    (ap bytes_of (words_from_drop n 8 bs) ∙ write_words n (drop 8 bs) (omega (arith, length-drop 8 bs)) (all_bytes_drop 8 bs t))
    ∙ take-append-drop 8 bs

-- If two concatenations are equal and their first parts have the same length, the parts are equal.
pub append_split : (a b c d : List ℕ) → length a ≡ length c → a ++ b ≡ c ++ d → (a ≡ c) × (b ≡ d)
append_split a b c d l e = (
  sym (take_at a b (length a) refl) ∙ ap (take (length a)) e ∙ take_at c d (length a) (sym l),
  sym (drop_at a b (length a) refl) ∙ ap (drop (length a)) e ∙ drop_at c d (length a) (sym l),
)

-- A bound of the elements of two lists bounds the elements of their concatenation.
pub append_below : (n : ℕ) (a b : List ℕ) → ((k : ℕ) → get_or a k 0 < n) → ((k : ℕ) → get_or b k 0 < n) → (k : ℕ) → get_or (a ++ b) k 0 < n
append_below n [] b f g k = g k
append_below n (x ∷ a) b f g zero = f zero
append_below n (x ∷ a) b f g (suc k) = append_below n a b (λ i. f (suc i)) g k

-- Policies with the same words in each set are equal.
pub same-policy : (p q : Policy) → p.prefer_bare.chars.bits ≡ q.prefer_bare.chars.bits
    → p.prefer_bare.keycap_chars.bits ≡ q.prefer_bare.keycap_chars.bits
    → p.bare_as_text.chars.bits ≡ q.bare_as_text.chars.bits
    → p.bare_as_text.keycap_chars.bits ≡ q.bare_as_text.keycap_chars.bits → p ≡ q
same-policy p q e f g h = made (as-set e) (as-set f) (as-set g) (as-set h)
  where
    as-set : {ws vs : List ℕ} → ws ≡ vs → ◌≡◌ {A = CharSet} (record { bits = ws }) (record { bits = vs })
    as-set e = cc

    made : {a b c d x y z w : CharSet} → a ≡ x → b ≡ y → c ≡ z → d ≡ w
        → ◌≡◌ {A = Policy} (record {
          prefer_bare = record { chars = a; keycap_chars = b };
          bare_as_text =
              record { chars = c; keycap_chars = d };
        })
        (record { prefer_bare = record { chars = x; keycap_chars = y }; bare_as_text = record { chars = z; keycap_chars = w } })
    made e f g h = cc

-- Each of the four sets has six words.
pub record SixWordSets (p : Policy) : Type 0 where
  pub first : length p.prefer_bare.chars.bits ≡ 6
  pub second : length p.prefer_bare.keycap_chars.bits ≡ 6
  pub third : length p.bare_as_text.chars.bits ≡ 6
  pub fourth : length p.bare_as_text.keycap_chars.bits ≡ 6

pub same_words : (p q : Policy) → SixWordSets p → SixWordSets q → policy_words p ≡ policy_words q → p ≡ q
unfolding policy_words key_words
same_words p q s t e =
    let a = p.prefer_bare.chars.bits in
    let b = p.prefer_bare.keycap_chars.bits in
    let c = p.bare_as_text.chars.bits in
    let d = p.bare_as_text.keycap_chars.bits in
    let x = q.prefer_bare.chars.bits in
    let y = q.prefer_bare.keycap_chars.bits in
    let z = q.bare_as_text.chars.bits in
    let w = q.bare_as_text.keycap_chars.bits in
    let m = s.first in
    let n = s.second in
    let i = t.first in
    let j = t.second in
    let both = append_split (a ++ b) (c ++ d) (x ++ y) (z ++ w) (omega (arith, length-append a b, length-append x y)) e in
    let l = append_split a b x y (s.first ∙ sym t.first) both.0 in
    let r = append_split c d z w (s.third ∙ sym t.third) both.1 in
    same-policy p q l.0 l.1 r.0 r.1

pub many_words : (p : Policy) → SixWordSets p → length (policy_words p) ≡ 24
unfolding policy_words key_words
many_words p s = simp length-append (omega arith)

-- The policy that bytes encode has six words in each set.
pub six_words_of : (bs : List ℕ) → SixWordSets (policy_of bs)
unfolding policy_of word_count entry_count variation_entries
six_words_of bs = record {
  first = length_words_from 6 8 bs;
  second = length_words_from 6 56 bs;
  third = length_words_from 6 104 bs;
  fourth = length_words_from 6 152 bs;
}

pub words_of : (bs : List ℕ) → policy_words (policy_of bs) ≡ words_from 24 8 bs
unfolding policy_of policy_words key_words word_count entry_count variation_entries
words_of bs =
    ap₂ (λ (x y : List ℕ). x ++ y) (sym (words_from_append 6 6 8 bs)) (sym (words_from_append 6 6 104 bs))
    ∙ sym (words_from_append 12 12 8 bs)
