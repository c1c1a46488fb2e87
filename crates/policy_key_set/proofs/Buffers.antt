-- The buffer after the writers: texts one after the other, and the answer of a call.
use mathlib.Core.Path.{◌≡◌, refl, sym, ap, ◌∙◌}
use mathlib.Core.Bool.{Bool, true, false}
use mathlib.Core.List.{List, [], ◌∷◌, ◌++◌, append-nil}
use Prim.Native.Nat.{ℕ, ◌+◌, ◌<◌}
use native.Mathlib.Omega.{arith}
use lib.ListN.{length, length-append}
use borrow.Author.Tests.{eq-eqb, ne_eqb}
use Rattle.base.specs.Texts.{parted}
use Rattle.emoji.specs.UnicodeData.{variation_entries}
use Rattle.policy_key_set.specs.Sets.{entry_count}
use Rattle.policy_key_set.specs.KeySets.{keys_size}
use Rattle.policy_key_set.specs.Display.{
  display,
  hex_digits,
  hex_width,
  key_list,
  key_text,
  key_texts,
  opening,
  with_comma,
  written_from,
}
use Rattle.policy_key_set.specs.declared.PolicyKeySet.{PolicyKeySet}
use Rattle.policy_key_set.proofs.Entries.{entry_count_lem}
use Rattle.policy_key_set.proofs.Texts.{comma_before, written_append, written-texts}
use Rattle.base.specs.Output.{PutAt}
use Rattle.base.proofs.Writer.{put_as, put_then}

-- A key's text in its three parts.
pub text_put : {o o₁ o₂ o₃ : List ℕ} {s i w j r : ℕ} (keycap : Bool) (c : ℕ) → PutAt o s (opening keycap) o₁ i → w ≡ hex_width c
    → PutAt o₁ i (hex_digits w c) o₂ j → PutAt o₂ j (0x29 ∷ []) o₃ r → PutAt o s (key_text keycap c) o₃ r
unfolding key_text
text_put keycap c p e q u =
    put_then p (put_then (put_as (hex_digits (hex_width c) c) (ap (λ (n : ℕ). hex_digits n c) e) q) u)

-- A text after a comma.
pub later_put : {o o₁ o₂ : List ℕ} {s i r : ℕ} (t : List ℕ) → 0 < s → PutAt o s (0x2C ∷ []) o₁ i → PutAt o₁ i t o₂ r
    → PutAt o s (with_comma s t) o₂ r
later_put {s = s} t h p q = put_as (with_comma s t) (sym (comma_before s t h)) (put_then p q)

-- The texts of the two domains one after the other are the list of the keys.
module _ (s : PolicyKeySet) where
  abbrev pub ordinary_texts : List (List ℕ)
  ordinary_texts = key_texts false s.chars.bits 0 variation_entries

  abbrev pub keycap_texts : List (List ℕ)
  keycap_texts = key_texts true s.keycap_chars.bits 0 variation_entries

  key_list_lem : written_from 0 ordinary_texts ++ written_from (0 + length (written_from 0 ordinary_texts)) keycap_texts ≡ key_list s
  unfolding key_list written_from parted
  key_list_lem =
      let e : written_from 0 keycap_texts ≡ parted 0x2C keycap_texts =
      rw append-nil at (written-texts true s.keycap_chars.bits 0 variation_entries [] refl) in
      sym (written_append 0 ordinary_texts keycap_texts) ∙ written-texts false s.chars.bits 0 variation_entries keycap_texts e

  after_first : {i : ℕ} → i ≡ 0 + length (written_from 0 ordinary_texts)
      → written_from 0 ordinary_texts ++ written_from i keycap_texts ≡ key_list s
  after_first e = ap (λ (n : ℕ). written_from 0 ordinary_texts ++ written_from n keycap_texts) e ∙ key_list_lem

  pub list_length : {i r : ℕ} → i ≡ 0 + length (written_from 0 ordinary_texts) → r ≡ i + length (written_from i keycap_texts)
      → r ≡ length (key_list s)
  list_length {i} e f = omega (
    arith,
    ap length (after_first e),
    length-append (written_from 0 ordinary_texts) (written_from i keycap_texts),
  )

  pub list_put : {o o₁ o₂ : List ℕ} {i r : ℕ} → PutAt o 0 (written_from 0 ordinary_texts) o₁ i
      → PutAt o₁ i (written_from i keycap_texts) o₂ r
      → PutAt o 0 (key_list s) o₂ r
  list_put p q = put_as (key_list s) (after_first p.ends) (put_then p q)

  -- The display, by the number of keys.
  pub display-none : keys_size s ≡ 0 → display s ≡ 0x6E ∷ 0x6F ∷ 0x6E ∷ 0x65 ∷ []
  unfolding display
  display-none e = simp (eq-eqb (keys_size s) 0 e)

  pub display_all : (keys_size s ≡ 0 → ⊥) → keys_size s ≡ 708 → display s ≡ 0x61 ∷ 0x6C ∷ 0x6C ∷ []
  unfolding display
  display_all h e = simp (ne_eqb (keys_size s) 0 h, eq-eqb (keys_size s) (entry_count + entry_count) (omega (arith, entry_count_lem)))

  pub display-list : (keys_size s ≡ 0 → ⊥) → (keys_size s ≡ 708 → ⊥) → display s ≡ key_list s
  unfolding display
  display-list h g =
      simp (ne_eqb (keys_size s) 0 h, ne_eqb (keys_size s) (entry_count + entry_count) (λ e. g (omega (arith, entry_count_lem))))
