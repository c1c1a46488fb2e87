-- The texts of the keys: their lengths, one step along the entries, and texts written one after the other.
use mathlib.Core.Path.{◌≡◌, refl, sym, ap, ◌∙◌}
use mathlib.Core.Bool.{Bool, true, false, cond}
use mathlib.Core.List.{List, [], ◌∷◌, ◌++◌, append_assoc, append-nil}
use Prim.Native.Nat.{ℕ, zero, suc, ◌+◌, ◌-◌, ◌<◌, ◌≤◌}
use native.Mathlib.Nat.{add-suc, add-zero, not-suc-le-zero}
use native.Mathlib.Numerals.{add-one}
use native.Mathlib.Omega.{arith}
use lib.ListN.{drop, drop_of_length-le, get_or, length, length-append, take}
use lib.Seq.{drop-cons, take_all}
use Rattle.base.specs.Texts.{parted}
use Rattle.policy_key_set.specs.Sets.{member}
use Rattle.policy_key_set.specs.Display.{hex_digits, hex_width, key_text, key_texts, opening, with_comma, written_from}

pub hex_length : (k n : ℕ) → length (hex_digits k n) ≡ k
unfolding hex_digits
hex_length zero n = refl
hex_length (suc k) n = ap suc (hex_length k n)

-- The last k of more digits.
pub last-digits : (j k n : ℕ) → drop j (hex_digits (k + j) n) ≡ hex_digits k n
unfolding hex_digits
last-digits zero k n = ap (λ (m : ℕ). hex_digits m n) (add-zero k)
last-digits (suc j) k n = ap (λ (m : ℕ). drop (suc j) (hex_digits m n)) (add-suc k j) ∙ last-digits j k n

-- The last w of six digits, as a slice has them.
pub digits-part : {w : ℕ} {ds : List ℕ} (n : ℕ) → w ≤ 6 → ds ≡ hex_digits 6 n → take (6 - (6 - w)) (drop (6 - w) ds) ≡ hex_digits w n
digits-part {w} {ds} n h e =
    let f : w + (6 - w) ≡ 6 = omega arith in
    ap (λ (xs : List ℕ). take (6 - (6 - w)) (drop (6 - w) xs)) (e ∙ ap (λ (k : ℕ). hex_digits k n) (sym f))
    ∙ ap (take (6 - (6 - w))) (last-digits (6 - w) w n) ∙ take_all (6 - (6 - w)) (hex_digits w n) (omega (arith, hex_length w n))

pub text_length : (keycap : Bool) (c : ℕ) → length (key_text keycap c) ≡ length (opening keycap) + (hex_width c + 1)
unfolding key_text
text_length keycap c =
    length-append (opening keycap) (hex_digits (hex_width c) c ++ (0x29 ∷ []))
    ∙ ap (λ (n : ℕ). length (opening keycap) + n)
    (length-append (hex_digits (hex_width c) c) (0x29 ∷ []) ∙ ap (λ (n : ℕ). n + 1) (hex_length (hex_width c) c))

pub comma_before : (j : ℕ) (t : List ℕ) → 0 < j → with_comma j t ≡ 0x2C ∷ t
unfolding with_comma
comma_before zero t h = absurd (not-suc-le-zero h)
comma_before (suc j) t h = refl

-- The bytes for the keys from entry i on, at the offset j: if entry i is a member with the character ch, if it is not a member, and
-- after the last entry.
module _ (keycap : Bool) (ws cs : List ℕ) (i j : ℕ) where
  pub keys_in : {ch : ℕ} → i < length cs → ch ≡ get_or cs i 0 → member i ws ≡ true
      → written_from j (key_texts keycap ws i (drop i cs))
      ≡ with_comma j (key_text keycap ch)
      ++ written_from (j + length (with_comma j (key_text keycap ch))) (key_texts keycap ws (i + 1) (drop (i + 1) cs))
  unfolding key_texts written_from
  keys_in h e m = rw (add-one, drop-cons cs i 0, m, e) refl

  pub keys_out : i < length cs → member i ws ≡ false
      → written_from j (key_texts keycap ws i (drop i cs)) ≡ written_from j (key_texts keycap ws (i + 1) (drop (i + 1) cs))
  unfolding key_texts
  keys_out h m = rw (add-one, drop-cons cs i 0, m) refl

  pub keys_done : length cs ≤ i → written_from j (key_texts keycap ws i (drop i cs)) ≡ []
  unfolding key_texts written_from
  keys_done h = rw (drop_of_length-le cs h) refl

-- The bytes of texts after other texts.
pub written_append : (j : ℕ) (ts us : List (List ℕ)) → written_from j (ts ++ us)
    ≡ written_from j ts ++ written_from (j + length (written_from j ts)) us
unfolding written_from
written_append j [] us = ap (λ (n : ℕ). written_from n us) (sym (add-zero j))
written_append j (t ∷ ts) us =
    let p = with_comma j t in
    let w = written_from (j + length p) ts in
    let e : j + length p + length w ≡ j + length (p ++ w) = omega (arith, length-append p w) in
    ap (λ (xs : List ℕ). p ++ xs) (written_append (j + length p) ts us ∙ ap (λ (n : ℕ). w ++ written_from n us) e)
    ∙ sym (append_assoc p w (written_from (j + length (p ++ w)) us))

-- At every offset but 0, each text has a comma before it.
after : (j : ℕ) (t : List ℕ) (ts : List (List ℕ)) → 0 < j → written_from j (t ∷ ts) ≡ 0x2C ∷ parted 0x2C (t ∷ ts)
unfolding written_from parted
after j t [] h = rw (comma_before j t h) (ap (λ (xs : List ℕ). 0x2C ∷ xs) (append-nil t))
after j t (u ∷ ts) h =
    rw (comma_before j t h) (ap (λ (xs : List ℕ). 0x2C ∷ (t ++ xs)) (after (j + length (0x2C ∷ t)) u ts (omega arith)))

-- From the offset 0 on, the texts have commas between them if the first is not empty.
pub written-parted : (t : List ℕ) (ts : List (List ℕ)) → 0 < length t → written_from 0 (t ∷ ts) ≡ parted 0x2C (t ∷ ts)
unfolding written_from parted with_comma
written-parted t [] h = append-nil t
written-parted t (u ∷ ts) h = ap (λ (xs : List ℕ). t ++ xs) (after (0 + length t) u ts (omega arith))

-- The text of a key is not empty.
text_full : (keycap : Bool) (c : ℕ) → 0 < length (key_text keycap c)
text_full keycap c = let e = text_length keycap c in omega arith

pub written-texts : (keycap : Bool) (ws : List ℕ) (i : ℕ) (cs : List ℕ) (us : List (List ℕ)) → written_from 0 us ≡ parted 0x2C us
    → written_from 0 (key_texts keycap ws i cs ++ us) ≡ parted 0x2C (key_texts keycap ws i cs ++ us)
unfolding key_texts
written-texts keycap ws i [] us h = h
written-texts keycap ws i (c ∷ cs) us h = go (member i ws) (written-texts keycap ws (suc i) cs us h)
  where
    go : (b : Bool) → written_from 0 (key_texts keycap ws (suc i) cs ++ us) ≡ parted 0x2C (key_texts keycap ws (suc i) cs ++ us)
        → written_from 0 (cond b (key_text keycap c ∷ key_texts keycap ws (suc i) cs) (key_texts keycap ws (suc i) cs) ++ us)
        ≡ parted 0x2C (cond b (key_text keycap c ∷ key_texts keycap ws (suc i) cs) (key_texts keycap ws (suc i) cs) ++ us)
    go true e = written-parted (key_text keycap c) (key_texts keycap ws (suc i) cs ++ us) (text_full keycap c)
    go false e = e
