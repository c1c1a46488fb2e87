-- What a flip does to the memberships of a policy, and that the flipped policy is one.
use mathlib.Core.Path.{◌≡◌, refl, ap, sym, ◌∙◌}
use mathlib.Core.Logic.{⊎_elim}
use mathlib.Core.Bool.{Bool, true, false, beq, ◌&&◌}
use mathlib.Core.List.{List}
use Prim.Native.Nat.{ℕ, ◌/◌, ◌%◌, ◌^◌, ◌<◌}
use native.Mathlib.Omega.{arith}
use lib.Bits.{bit_xor}
use lib.Dec.{eqb}
use lib.ListN.{get_or, length, set}
use lib.Seq.{get_or-set_other, get_or-set_same}
use borrow.Author.Tests.{eq-eqb, ne_eqb}
use Rattle.base.specs.Bits.{one}
use Rattle.policy_key_set.specs.Sets.{differ, entry_count, member}
use Rattle.policy_key_set.proofs.Bits.{power-one, xor_one}
use Rattle.policy_key_set.proofs.Entries.{entry_count_lem}
use Rattle.policy_key_set.proofs.Members.{decide}
use Rattle.policy_key_set.specs.declared.PolicyKeySet.{PolicyKeySet}
use Rattle.policy.specs.Policy.{holds_entry}
use Rattle.policy.specs.declared.Policy.{Policy}
use Rattle.policy.proofs.RoundTrips.{SixWordSets}
use Rattle.membership_flips.specs.Flips.{Membership, flip, flip_bit, flip_in, flip_key, holds, key_set, same}

pub differ_false : (b : Bool) → differ b false ≡ b
differ_false true = refl
differ_false false = refl

-- Exactly one bit of the words is inverted.
pub member-flip : (i j : ℕ) (ws : List ℕ) → i / 64 < length ws → member j (flip_bit i ws) ≡ differ (member j ws) (eqb i j)
unfolding member flip_bit
member-flip i j ws h = ⊎_elim at-word other_word (decide (j / 64) (i / 64))
  where
    w : ℕ
    w = get_or ws (i / 64) 0

    same_bit : j / 64 ≡ i / 64 → eqb (j % 64) (i % 64) ≡ eqb i j
    same_bit e = ⊎_elim
        (λ (f : i ≡ j). eq-eqb (j % 64) (i % 64) (omega arith) ∙ sym (eq-eqb i j f))
        (λ (f : i ≡ j → ⊥). ne_eqb (j % 64) (i % 64) (λ g. f (omega arith)) ∙ sym (ne_eqb i j f))
        (decide i j)

    at-word : j / 64 ≡ i / 64 → one (j % 64) (get_or (set ws (i / 64) (bit_xor w (2 ^ (i % 64)))) (j / 64) 0)
        ≡ differ (one (j % 64) (get_or ws (j / 64) 0)) (eqb i j)
    at-word e =
        ap (λ (k : ℕ). one (j % 64) (get_or (set ws (i / 64) (bit_xor w (2 ^ (i % 64)))) k 0)) e
        ∙ ap (one (j % 64)) (get_or-set_same ws (i / 64) (bit_xor w (2 ^ (i % 64))) 0 h)
        ∙ xor_one (j % 64) w (2 ^ (i % 64))
        ∙ ap (λ (b : Bool). differ (one (j % 64) w) b) (power-one (j % 64) (i % 64) ∙ same_bit e)
        ∙ ap (λ (k : ℕ). differ (one (j % 64) (get_or ws k 0)) (eqb i j)) (sym e)

    other_word : (j / 64 ≡ i / 64 → ⊥) → one (j % 64) (get_or (set ws (i / 64) (bit_xor w (2 ^ (i % 64)))) (j / 64) 0)
        ≡ differ (one (j % 64) (get_or ws (j / 64) 0)) (eqb i j)
    other_word n =
        ap (one (j % 64)) (get_or-set_other ws (i / 64) (j / 64) (bit_xor w (2 ^ (i % 64))) 0 n)
        ∙ sym (differ_false (one (j % 64) (get_or ws (j / 64) 0)))
        ∙ ap (differ (one (j % 64) (get_or ws (j / 64) 0))) (sym (ne_eqb i j (λ (e : i ≡ j). n (ap (λ (k : ℕ). k / 64) (sym e)))))

and_yes : (b : Bool) → b && true ≡ b
and_yes true = refl
and_yes false = refl

and_no : (b : Bool) → b && false ≡ false
and_no true = refl
and_no false = refl

and_so : {x y : Bool} (e : Bool) → x ≡ y → e && x ≡ e && y
and_so e h = ap (λ (b : Bool). e && b) h

-- nothing is flipped
stays : (x e f : Bool) → f ≡ false → x ≡ differ x (e && f)
stays x e f h = sym (differ_false x) ∙ ap (differ x) (sym (and_so e h ∙ and_no e))

goes : (x e f y : Bool) → f ≡ true → y ≡ differ x e → y ≡ differ x (e && f)
goes x e f y h g = g ∙ ap (differ x) (sym (and_so e h ∙ and_yes e))

module _ (s : PolicyKeySet) (i : ℕ) (h : i / 64 < length s.chars.bits) (g : i / 64 < length s.keycap_chars.bits) where
  key_flip : (k : Bool) (j : ℕ) (l : Bool) → holds_entry (flip_key i k s) j l ≡ differ (holds_entry s j l) (eqb i j && beq k l)
  unfolding holds_entry flip_key
  key_flip false j false = goes (member j s.chars.bits) (eqb i j) true (member j (flip_bit i s.chars.bits)) refl
      (member-flip i j s.chars.bits h)
  key_flip false j true = stays (member j s.keycap_chars.bits) (eqb i j) false refl
  key_flip true j false = stays (member j s.chars.bits) (eqb i j) false refl
  key_flip true j true = goes (member j s.keycap_chars.bits) (eqb i j) true (member j (flip_bit i s.keycap_chars.bits)) refl
      (member-flip i j s.keycap_chars.bits g)

module _ (p : Policy) (n : SixWordSets p) (i : ℕ) (b : i < entry_count) where
  in_words : {l : ℕ} → l ≡ 6 → i / 64 < l
  in_words e = omega (arith, entry_count_lem)

  pub prefer_flip : (a k : Bool) (j : ℕ) (l : Bool)
      → holds_entry (flip_in a i k p).prefer_bare j l ≡ differ (holds_entry p.prefer_bare j l)
      (eqb i j && (beq k l && beq a false))
  unfolding flip_in
  prefer_flip false k j l =
      key_flip p.prefer_bare i (in_words n.first) (in_words n.second) k j l
      ∙ ap (λ (x : Bool). differ (holds_entry p.prefer_bare j l) (eqb i j && x)) (sym (and_yes (beq k l)))
  prefer_flip true k j l = stays (holds_entry p.prefer_bare j l) (eqb i j) (beq k l && false) (and_no (beq k l))

  pub text_flip : (a k : Bool) (j : ℕ) (l : Bool)
      → holds_entry (flip_in a i k p).bare_as_text j l ≡ differ (holds_entry p.bare_as_text j l)
      (eqb i j && (beq k l && beq a true))
  unfolding flip_in
  text_flip true k j l =
      key_flip p.bare_as_text i (in_words n.third) (in_words n.fourth) k j l
      ∙ ap (λ (x : Bool). differ (holds_entry p.bare_as_text j l) (eqb i j && x)) (sym (and_yes (beq k l)))
  text_flip false k j l = stays (holds_entry p.bare_as_text j l) (eqb i j) (beq k l && false) (and_no (beq k l))

  pub set_flip : (a k : Bool) (d : Bool) (j : ℕ) (l : Bool)
      → holds_entry (key_set d (flip_in a i k p)) j l ≡ differ (holds_entry (key_set d p) j l) (eqb i j && (beq k l && beq a d))
  set_flip a k false j l = prefer_flip a k j l
  set_flip a k true j l = text_flip a k j l

-- The flipped membership is inverted, and every other membership stays.
pub flips_one : (p : Policy) → SixWordSets p → (m n : Membership) → m.entry < entry_count → holds (flip m p) n
    ≡ differ (holds p n) (same m n)
unfolding holds same
flips_one p six m n b = set_flip p six m.entry b m.as_text m.keycap n.as_text n.entry n.keycap
