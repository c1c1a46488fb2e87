-- Words and their bytes, and the bytes of a stored policy.
use mathlib.Core.Path.{◌≡◌, refl, ap, ◌∙◌}
use mathlib.Core.Bool.{cond}
use mathlib.Core.List.{List, ◌++◌}
use Prim.Native.Nat.{ℕ, zero, suc, ◌+◌, ◌*◌, ◌<◌, ◌≤◌}
use native.Mathlib.Nat.{le_of_suc-le-suc, not-suc-le-zero}
use native.Mathlib.Omega.{arith}
use lib.ListN.{drop, get_or, length, length-append, take}
use lib.Seq.{sets}
use Rattle.base.specs.Output.{PutAt}
use Rattle.base.specs.Words.{bytes_of, has_room, number, word_bytes}
use Rattle.base.proofs.Numbers.{length_both, put_both}
use Rattle.base.proofs.Words.{length_word_bytes, word_put}
use Rattle.base.proofs.Writer.{put_then}
use Rattle.emoji.specs.UnicodeData.{unicode_version}
use Rattle.policy.specs.PolicyBytes.{key_words, policy_bytes, policy_of, policy_words, set_of, words_from}
use Rattle.policy_key_set.specs.declared.char_set.CharSet.{CharSet}
use Rattle.policy.specs.declared.Policy.{Policy}

pub length_words_from : (n at : ℕ) (bs : List ℕ) → length (words_from n at bs) ≡ n
unfolding words_from
length_words_from zero at bs = refl
length_words_from (suc n) at bs = ap suc (length_words_from n (at + 8) bs)

-- Word k is encoded by the eight bytes from 8 k on.
pub get_or-words_from : (n at : ℕ) (bs : List ℕ) (k : ℕ) → k < n → get_or (words_from n at bs) k 0 ≡ number (take 8 (drop (at + k * 8) bs))
unfolding words_from
get_or-words_from zero at bs k h = absurd (not-suc-le-zero h)
get_or-words_from (suc n) at bs zero h = let e : at ≡ at + 0 * 8 = omega arith in ap (λ (i : ℕ). number (take 8 (drop i bs))) e
get_or-words_from (suc n) at bs (suc k) h =
    let e : at + 8 + k * 8 ≡ at + suc k * 8 = omega arith in
    get_or-words_from n (at + 8) bs k (le_of_suc-le-suc h) ∙ ap (λ (i : ℕ). number (take 8 (drop i bs))) e

-- The policy made of four sets.
pub policy-made : (a b c d : CharSet) (bs : List ℕ) → a.bits ≡ (set_of 0 bs).bits → b.bits ≡ (set_of 1 bs).bits
    → c.bits ≡ (set_of 2 bs).bits
    → d.bits ≡ (set_of 3 bs).bits
    → ◌≡◌ {A = Policy} (record {
      prefer_bare = record { chars = a; keycap_chars = b };
      bare_as_text =
          record { chars = c; keycap_chars = d };
    }) (policy_of bs)
unfolding policy_of
policy-made a b c d bs p q r s =
    let e : a ≡ set_of 0 bs = ap (λ (ws : List ℕ). record { bits = ws }) p in
    let f : b ≡ set_of 1 bs = ap (λ (ws : List ℕ). record { bits = ws }) q in
    let g : c ≡ set_of 2 bs = ap (λ (ws : List ℕ). record { bits = ws }) r in
    let h : d ≡ set_of 3 bs = ap (λ (ws : List ℕ). record { bits = ws }) s in
    cc

-- A stored policy: the version and the two key sets, one after the other.
module _ (p : Policy) where
  pub stored_length : length (policy_bytes p)
      ≡ length (bytes_of (key_words p.prefer_bare)) + length (bytes_of (key_words p.bare_as_text)) + 8
  unfolding policy_bytes policy_words bytes_of
  stored_length =
      let l = length-append (word_bytes unicode_version) (bytes_of (key_words p.prefer_bare ++ key_words p.bare_as_text)) in
      omega (arith, l, length_word_bytes unicode_version, length_both (key_words p.prefer_bare) (key_words p.bare_as_text))

  pub stored_put : {o o₁ o₂ o₃ : List ℕ} {i r : ℕ} → 8 ≤ length o → o₁ ≡ cond (has_room o 0) (sets o 0 (word_bytes unicode_version)) o
      → PutAt o₁ 8 (bytes_of (key_words p.prefer_bare)) o₂ i → PutAt o₂ i (bytes_of (key_words p.bare_as_text)) o₃ r
      → PutAt o 0 (policy_bytes p) o₃ r
  unfolding policy_bytes policy_words bytes_of
  stored_put {o} {o₁} h e a b =
      put_then (word_put o o₁ 0 unicode_version h e) (put_both (key_words p.prefer_bare) (key_words p.bare_as_text) a b)
