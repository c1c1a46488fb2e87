-- The length and the packed number of the character at an offset, for callers of `char_len` and `decode`.
use mathlib.Core.Path.{◌≡◌, refl, sym, ap, ◌∙◌}
use mathlib.Core.List.{List}
use Prim.Native.Nat.{ℕ, ◌+◌, ◌*◌, ◌/◌, ◌%◌, ◌≤◌, ◌<◌}
use native.Mathlib.Omega.{arith}
use lib.ListN.{length, drop}
use Rattle.utf8.specs.Rfc3629.{read_char, char_len, packed, subpart_of}
use Rattle.utf8.specs.declared.ReadChar.{ReadChar}
use Rattle.utf8.specs.declared.ReadChar.TheVariants.{Char, IllFormed, End}
use Rattle.utf8.proofs.Encoding.{char_begins, ill_formed_width}
use Rattle.utf8.proofs.Places.{Step, step, Stop, stop_ill_formed, stop_end, end_past}

-- ---- the length: it is 0 exactly where no character begins

-- Reading at the front of t gives a character of w bytes.
pub record ReadsLen (t : List ℕ) (w : ℕ) : Type 0 where
  pub value : ℕ
  pub reads : read_char t ≡ Char value w

pub len_reads : (t : List ℕ) (w : ℕ) → w ≡ char_len (read_char t) → 1 ≤ w → ReadsLen t w
unfolding char_len
len_reads t w e h = go (read_char t) refl e
  where
    go : (r : ReadChar) → read_char t ≡ r → w ≡ char_len r → ReadsLen t w
    go (Char v u) p q = record { value = v; reads = p ∙ ap (λ (n : ℕ). Char v n) (sym q) }
    go (IllFormed k) p q = absurd (omega arith)
    go End p q = absurd (omega arith)

pub stop_len : (s : List ℕ) (at w : ℕ) → w ≡ char_len (read_char (drop at s)) → w ≡ 0 → Stop s at
unfolding char_len
stop_len s at w e h = go (read_char (drop at s)) refl e
  where
    go : (r : ReadChar) → read_char (drop at s) ≡ r → w ≡ char_len r → Stop s at
    go (Char v u) p q = absurd (omega (arith, (step s at v u p).some))
    go (IllFormed k) p q = stop_ill_formed s at p
    go End p q = stop_end s at p

-- At the offset `at`, s has a character of w bytes, and the text after it is read from the offset at + w on.
pub record StepLen (s : List ℕ) (at w : ℕ) : Type 0 where
  pub value : ℕ
  pub on : Step s at value w

pub step_len : (s : List ℕ) (at w : ℕ) → w ≡ char_len (read_char (drop at s)) → 1 ≤ w → StepLen s at w
step_len s at w e h = let k = len_reads (drop at s) w e h in record { value = k.value; on = step s at k.value w k.reads }

-- ---- the packed number of a character holds its value and its width

pub packed-reads : (t : List ℕ) (n : ℕ) → n ≡ packed (read_char t) → 1 ≤ n → read_char t ≡ Char (n / 8) (n % 8)
unfolding packed
packed-reads t n e h = go (read_char t) refl e
  where
    same : (v w : ℕ) → w ≤ 4 → n ≡ 8 * v + w → Char v w ≡ Char (n / 8) (n % 8)
    same v w l q = let p : v ≡ n / 8 = omega arith in let u : w ≡ n % 8 = omega arith in cc

    go : (r : ReadChar) → read_char t ≡ r → n ≡ packed r → read_char t ≡ Char (n / 8) (n % 8)
    go (Char v w) p q = p ∙ same v w (char_begins t v w p).few q
    go (IllFormed k) p q = absurd (omega arith)
    go End p q = absurd (omega arith)

pub packed_none : (s : List ℕ) (at n : ℕ) → n ≡ packed (read_char (drop at s)) → n ≡ 0 → at < length s
    → read_char (drop at s) ≡ IllFormed (subpart_of (drop at s))
unfolding packed
packed_none s at n e h l = go (read_char (drop at s)) refl e
  where
    go : (r : ReadChar) → read_char (drop at s) ≡ r → n ≡ packed r → read_char (drop at s) ≡ IllFormed (subpart_of (drop at s))
    go (Char v w) p q = absurd (omega (arith, (step s at v w p).some))
    go (IllFormed k) p q = p ∙ ap IllFormed (ill_formed_width (drop at s) k p)
    go End p q = absurd (omega (arith, end_past s at p))

-- The packed number mod 8 is the length.
pub packed_len : (t : List ℕ) (n : ℕ) → n ≡ packed (read_char t) → n % 8 ≡ char_len (read_char t)
unfolding char_len packed
packed_len t n e = go (read_char t) refl e
  where
    go : (r : ReadChar) → read_char t ≡ r → n ≡ packed r → n % 8 ≡ char_len (read_char t)
    go (Char v w) p q = let l = (char_begins t v w p).few in let m : n % 8 ≡ w = omega arith in m ∙ ap char_len (sym p)
    go (IllFormed k) p q = let m : n % 8 ≡ 0 = omega arith in m ∙ ap char_len (sym p)
    go End p q = let m : n % 8 ≡ 0 = omega arith in m ∙ ap char_len (sym p)

-- If the packed number is 0, no character begins at the offset.
pub packed_stop : (s : List ℕ) (at n : ℕ) → n ≡ packed (read_char (drop at s)) → n ≡ 0 → Stop s at
packed_stop s at n e h = stop_len s at (n % 8) (packed_len (drop at s) n e) (omega arith)

-- Any other packed number is that of the character at the offset.
pub packed_step : (s : List ℕ) (at n : ℕ) → n ≡ packed (read_char (drop at s)) → (n ≡ 0 → ⊥) → Step s at (n / 8) (n % 8)
packed_step s at n e h = step s at (n / 8) (n % 8) (packed-reads (drop at s) n e (omega arith))
