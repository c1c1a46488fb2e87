-- From the bytes of a text and a policy to the cells under the two policies, and back.
use mathlib.Core.Path.{◌≡◌, refl, ap, subst, sym, ◌∙◌}
use mathlib.Core.Logic.{⊎_elim}
use mathlib.Core.Bool.{Bool, true, false, ◌&&◌, ◌||◌, false≢true, not}
use mathlib.Core.List.{List, [], ◌∷◌}
use Prim.Native.Nat.{ℕ, ◌+◌, ◌*◌, ◌/◌, ◌%◌, ◌^◌, ◌<◌, ◌≤◌}
use native.Mathlib.Nat.{pow-le-pow_right, pow-succ'}
use native.Mathlib.Omega.{arith}
use lib.Bits.{bit_xor, xor_lt}
use lib.Dec.{eqb, leb, ltb}
use lib.ListN.{get_or-eq_default, drop, get_or, length, length-set, length-take, set, take}
use lib.Seq.{get_or-set_other, get_or-set_same}
use borrow.Author.Tests.{eqb-true, leb-true, lt-ltb, ne_eqb}
use Rattle.base.specs.Words.{all_bytes, number}
use Rattle.base.proofs.Tests.{both_true, either_true, le_or_lt}
use Rattle.base.proofs.Words.{all_bytes_drop, all_bytes_take}
use Rattle.utf8.specs.Rfc3629.{all_scalar, chars, encode_all, is_scalar}
use Rattle.utf8.proofs.Texts.{chars-all_scalar, chars-encode_all-alone}
use Rattle.emoji.specs.Presentation.{is_selector}
use Rattle.emoji.specs.declared.presentation.Presentation.{Presentation}
use Rattle.policy_key_set.specs.Sets.{differ, entry_count, member, word_count}
use Rattle.policy_key_set.proofs.Below.{all_below_lem, below_all}
use Rattle.policy_key_set.proofs.Entries.{entry_count_lem}
use Rattle.policy_key_set.proofs.Members.{decide}
use Rattle.policy.specs.Policy.{holds_entry}
use Rattle.policy.specs.PolicyBytes.{PolicyValue, SetValue, is_policy, no_unused_bit, no_unused_bits, policy_of, set_of, words_from}
use Rattle.policy.specs.Theorems.{ReadWritten}
use Rattle.policy.specs.declared.Policy.{Policy}
use Rattle.policy.proofs.Bytes.{get_or-words_from, length_words_from}
use Rattle.policy.proofs.Claims.{read_written}
use Rattle.policy.proofs.Refusals.{policy_parts}
use Rattle.policy.proofs.RoundTrips.{SixWordSets, six_words_of}
use Rattle.analysis.specs.Analysis.{render, renew}
use Rattle.analysis.specs.CellView.{format_cells}
use Rattle.analysis.specs.Cells.{Cell, cells, unsplit}
use Rattle.analysis.proofs.Replacement.{split_render, strip_render}
use Rattle.formatter.proofs.Books.{scalar-strip}
use Rattle.formatter.specs.Format.{formatted, same_bytes}
use Rattle.formatter.proofs.CellView.{cell_view}
use Rattle.formatter.proofs.Formatting.{same_self, same_true}
use Rattle.membership_flips.specs.Flips.{Membership, code_point, flip, flip_bit, flip_in, flip_key, flipped, tips}
use Rattle.membership_flips.specs.Uses.{matters, occurs}
use Rattle.membership_flips.proofs.Flipping.{member-flip}
use Rattle.membership_flips.proofs.Using.{renew_differs, renew_same}

-- ---- words

number-below : (bs : List ℕ) → all_bytes bs ≡ true → number bs < 256 ^ length bs
unfolding all_bytes number
number-below [] e = omega arith
number-below (b ∷ bs) e =
    let u = both_true (leb b 255) (all_bytes bs) e in
    let h = number-below bs u.1 in
    rw (pow-succ' 256 (length bs)) (omega (arith, leb-true b 255 u.0))

eight-below : (bs : List ℕ) → all_bytes bs ≡ true → number (take 8 bs) < 2 ^ 64
eight-below bs e =
    let h = number-below (take 8 bs) (all_bytes_take 8 bs e) in
    let l : length (take 8 bs) ≤ 8 = rw (length-take 8 bs) (omega arith) in
    let g : 256 ^ length (take 8 bs) ≤ 256 ^ 8 = pow-le-pow_right (omega arith) l in
    omega arith

word_below : (n at : ℕ) (bs : List ℕ) → all_bytes bs ≡ true → (k : ℕ) → get_or (words_from n at bs) k 0 < 2 ^ 64
word_below n at bs e k = ⊎_elim
    (λ (h : n ≤ k). let l : length (words_from n at bs) ≤ k = rw (length_words_from n at bs) h in rw
    (get_or-eq_default (words_from n at bs) 0 {n = k} l) (omega arith))
    (λ (h : k < n). rw (get_or-words_from n at bs k h) (eight-below (drop (at + k * 8) bs) (all_bytes_drop (at + k * 8) bs e)))
    (le_or_lt n k)

set_value : (k : ℕ) (bs : List ℕ) → all_bytes bs ≡ true → SetValue (set_of k bs).bits
set_value k bs e = record {
  has_word_count = length_words_from word_count (8 + k * (word_count * 8)) bs;
  words = word_below word_count (8 + k * (word_count * 8)) bs e;
}

policy_value : (bs : List ℕ) → all_bytes bs ≡ true → PolicyValue (policy_of bs)
unfolding policy_of
policy_value bs e = record {
  prefer_bare_set = set_value 0 bs e;
  prefer_bare_keycap_set = set_value 1 bs e;
  bare_as_text_set = set_value 2 bs e;
  bare_as_text_keycap_set = set_value 3 bs e;
}

module _ (i : ℕ) where
  flip_value : (ws : List ℕ) → SetValue ws → SetValue (flip_bit i ws)
  unfolding flip_bit
  flip_value ws v =
      let w = bit_xor (get_or ws (i / 64) 0) (2 ^ (i % 64)) in
      let small : 2 ^ (i % 64) < 2 ^ 64 =
      let l : i % 64 ≤ 63 = omega arith in
      let g : 2 ^ (i % 64) ≤ 2 ^ 63 = pow-le-pow_right (omega arith) l in omega arith in
      let new : w < 2 ^ 64 = xor_lt 64 (get_or ws (i / 64) 0) (2 ^ (i % 64)) (v.words (i / 64)) small in
      record {
        has_word_count = length-set ws (i / 64) w ∙ v.has_word_count;
        words = λ k. ⊎_elim
            (λ (e : k ≡ i / 64). ⊎_elim
            (λ (h : length ws ≤ k). let l : length (set ws (i / 64) w) ≤ k = rw (length-set ws (i / 64) w) h in rw
            (get_or-eq_default (set ws (i / 64) w) 0 {n = k} l) (omega arith))
            (λ (h : k < length ws). subst (λ (z : ℕ). z < 2 ^ 64)
            (sym (ap (λ (z : ℕ). get_or (set ws (i / 64) w) z 0) e ∙ get_or-set_same ws (i / 64) w 0 (omega arith))) new)
            (le_or_lt (length ws) k))
            (λ (e : k ≡ i / 64 → ⊥). rw (get_or-set_other ws (i / 64) k w 0 e) (v.words k))
            (decide k (i / 64));
      }

  flip-policy : (a k : Bool) (p : Policy) → PolicyValue p → PolicyValue (flip_in a i k p)
  unfolding flip_in flip_key
  flip-policy false false p v = record {
    prefer_bare_set = flip_value p.prefer_bare.chars.bits v.prefer_bare_set;
    prefer_bare_keycap_set = v.prefer_bare_keycap_set;
    bare_as_text_set = v.bare_as_text_set;
    bare_as_text_keycap_set = v.bare_as_text_keycap_set;
  }
  flip-policy false true p v = record {
    prefer_bare_set = v.prefer_bare_set;
    prefer_bare_keycap_set = flip_value p.prefer_bare.keycap_chars.bits v.prefer_bare_keycap_set;
    bare_as_text_set = v.bare_as_text_set;
    bare_as_text_keycap_set = v.bare_as_text_keycap_set;
  }
  flip-policy true false p v = record {
    prefer_bare_set = v.prefer_bare_set;
    prefer_bare_keycap_set = v.prefer_bare_keycap_set;
    bare_as_text_set = flip_value p.bare_as_text.chars.bits v.bare_as_text_set;
    bare_as_text_keycap_set = v.bare_as_text_keycap_set;
  }
  flip-policy true true p v = record {
    prefer_bare_set = v.prefer_bare_set;
    prefer_bare_keycap_set = v.prefer_bare_keycap_set;
    bare_as_text_set = v.bare_as_text_set;
    bare_as_text_keycap_set = flip_value p.bare_as_text.keycap_chars.bits v.bare_as_text_keycap_set;
  }

  module _ (b : i < entry_count) where
    -- A flip of an entry leaves the unused bits 0.
    flip-unused : (ws : List ℕ) → length ws ≡ 6 → no_unused_bit ws ≡ true → no_unused_bit (flip_bit i ws) ≡ true
    unfolding no_unused_bit
    flip-unused ws l e = below_all (word_count * 64) (λ (j : ℕ). ltb j entry_count || not (member j (flip_bit i ws))) (λ k h.
        ⊎_elim
        (λ (g : entry_count ≤ k).
        let f : eqb i k ≡ false = ne_eqb i k (λ (z : i ≡ k). omega arith) in
        let m : member k (flip_bit i ws) ≡ member k ws = member-flip i k ws (omega (arith, entry_count_lem)) ∙ ap (differ (member k ws)) f
        ∙ same-as (member k ws) in
        ap (λ (x : Bool). ltb k entry_count || not x) m
        ∙ all_below_lem (word_count * 64) (λ (j : ℕ). ltb j entry_count || not (member j ws)) e k
        h)
        (λ (g : k < entry_count). ap (λ (x : Bool). x || not (member k (flip_bit i ws))) (lt-ltb k entry_count g))
        (le_or_lt entry_count k))
      where
        same-as : (x : Bool) → differ x false ≡ x
        same-as true = refl
        same-as false = refl

    flip-clean : (a k : Bool) (p : Policy) → SixWordSets p → no_unused_bits p ≡ true → no_unused_bits (flip_in a i k p) ≡ true
    unfolding flip_in flip_key no_unused_bits
    flip-clean a k p s e =
        let w = no_unused_bit p.prefer_bare.chars.bits in
        let x = no_unused_bit p.prefer_bare.keycap_chars.bits in
        let y = no_unused_bit p.bare_as_text.chars.bits in
        let z = no_unused_bit p.bare_as_text.keycap_chars.bits in
        let u = both_true (w && x) (y && z) e in
        let l = both_true w x u.0 in
        let r = both_true y z u.1 in
        go a k l.0 l.1 r.0 r.1
      where
        four : (w x y z : Bool) → w ≡ true → x ≡ true → y ≡ true → z ≡ true → (w && x) && (y && z) ≡ true
        four w x y z c d e f = cc

        go : (a k : Bool) → no_unused_bit p.prefer_bare.chars.bits ≡ true → no_unused_bit p.prefer_bare.keycap_chars.bits ≡ true
            → no_unused_bit p.bare_as_text.chars.bits ≡ true → no_unused_bit p.bare_as_text.keycap_chars.bits ≡ true
            → no_unused_bits (flip_in a i k p) ≡ true
        go false false c d e f = four _ _ _ _ (flip-unused p.prefer_bare.chars.bits s.first c) d e f
        go false true c d e f = four _ _ _ _ c (flip-unused p.prefer_bare.keycap_chars.bits s.second d) e f
        go true false c d e f = four _ _ _ _ c d (flip-unused p.bare_as_text.chars.bits s.third e) f
        go true true c d e f = four _ _ _ _ c d e (flip-unused p.bare_as_text.keycap_chars.bits s.fourth f)

pub flipped-read : (policy : List ℕ) (m : Membership) → all_bytes policy ≡ true → policy_of (flipped m policy) ≡ flip m (policy_of policy)
unfolding ReadWritten
flipped-read policy m e = (read_written (flip m (policy_of policy))
    (flip-policy m.entry m.as_text m.keycap (policy_of policy) (policy_value policy e))).0

pub flipped-accepted : (policy : List ℕ) (m : Membership) → m.entry < entry_count → is_policy policy ≡ true → all_bytes policy ≡ true
    → is_policy (flipped m policy) ≡ true
unfolding ReadWritten
flipped-accepted policy m b a e =
    (read_written (flip m (policy_of policy)) (flip-policy m.entry m.as_text m.keycap (policy_of policy) (policy_value policy e))).1
    ∙ flip-clean m.entry b m.as_text m.keycap (policy_of policy) (six_words_of policy)
    (policy_parts policy a).2

-- ---- characters

selector_scalar : (c : ℕ) → is_selector c ≡ true → is_scalar c ≡ true
unfolding is_selector is_scalar
selector_scalar c e = ⊎_elim
    (λ (f : eqb c 0xFE0E ≡ true). subst (λ (n : ℕ). is_scalar n ≡ true) (sym (eqb-true c 0xFE0E f)) refl)
    (λ (f : eqb c 0xFE0F ≡ true). subst (λ (n : ℕ). is_scalar n ≡ true) (sym (eqb-true c 0xFE0F f)) refl)
    (either_true (eqb c 0xFE0E) (eqb c 0xFE0F) e)

format-scalar : (p : Policy) (text : List ℕ) → all_scalar (format_cells p (chars text)) ≡ true
unfolding format_cells
format-scalar p text =
    scalar-strip (render p (cells (chars text)) []) ∙ ap all_scalar (strip_render p (chars text) []) ∙ sym (scalar-strip (chars text))
    ∙ chars-all_scalar text

-- ---- the bridge

module _ (text policy : List ℕ) (m : Membership) (b : m.entry < entry_count) (e : all_bytes policy ≡ true) where
  abbrev p : Policy
  p = policy_of policy

  abbrev q : Policy
  q = flip m p

  new_text : formatted text (flipped m policy) ≡ encode_all (format_cells q (chars text))
  new_text = (cell_view text (flipped m policy)).0 ∙ ap (λ (r : Policy). encode_all (format_cells r (chars text))) (flipped-read policy m e)

  old_text : formatted text policy ≡ encode_all (format_cells p (chars text))
  old_text = (cell_view text policy).0

  -- Equal formatted texts have equal cells.
  same-cells : formatted text (flipped m policy) ≡ formatted text policy → renew q (cells (chars text)) [] ≡ renew p (cells (chars text)) []
  unfolding format_cells
  same-cells f =
      let c : format_cells q (chars text) ≡ format_cells p (chars text) =
      sym (chars-encode_all-alone (format_cells q (chars text)) (format-scalar q text)) ∙ ap chars (sym new_text ∙ f ∙ old_text)
      ∙ chars-encode_all-alone (format_cells p (chars text)) (format-scalar p text) in
      sym (ap (λ (z : List Presentation × List Cell). z.1) (split_render q (chars text) [])) ∙ ap cells c
      ∙ ap (λ (z : List Presentation × List Cell). z.1) (split_render p (chars text) [])

  same_text : renew q (cells (chars text)) [] ≡ renew p (cells (chars text)) [] → formatted text (flipped m policy) ≡ formatted text policy
  unfolding format_cells render
  same_text f = new_text ∙ ap (λ (xs : List Cell). encode_all (unsplit xs)) f ∙ sym old_text

  abbrev U : Bool
  U = matters m.as_text (holds_entry p.prefer_bare m.entry m.keycap) (holds_entry p.bare_as_text m.entry m.keycap)
      (occurs (code_point m) m.keycap (cells (chars text)))

  pub tips-by_use : tips text policy m ≡ U
  unfolding tips
  tips-by_use = go (same_bytes F' F) U refl refl
    where
      F' : List ℕ
      F' = formatted text (flipped m policy)

      F : List ℕ
      F = formatted text policy

      go : (s u : Bool) → same_bytes F' F ≡ s → U ≡ u → not s ≡ u
      go true false f g = refl
      go false true f g = refl
      go true true f g = absurd (renew_differs p (six_words_of policy) m.entry b m.keycap m.as_text (cells (chars text)) g
          (same-cells (same_true F' F f)))
      go false false f g =
          absurd (false≢true (sym f ∙ ap (λ (l : List ℕ). same_bytes l F)
          (same_text (renew_same p (six_words_of policy) m.entry b m.keycap m.as_text (cells (chars text)) g)) ∙ same_self F))
