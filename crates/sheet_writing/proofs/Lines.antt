-- The four lines of a sheet, one after the other.
use mathlib.Core.Path.{◌≡◌, refl, ap, sym}
use mathlib.Core.Bool.{false}
use mathlib.Core.List.{List, [], ◌∷◌, ◌++◌}
use Prim.Native.Nat.{ℕ, ◌+◌, ◌≤◌, ◌<◌}
use native.Mathlib.Omega.{arith}
use lib.ListN.{length, length-append, set}
use Rattle.base.specs.Output.{PutAt}
use Rattle.base.proofs.Writer.{put_as, put_then}
use Rattle.emoji.specs.UnicodeData.{variation_entries}
use Rattle.emoji.proofs.InOrder.{variation_entries_ascend}
use Rattle.emoji.proofs.Ascent.{ascending_lt}
use Rattle.policy_key_set.specs.Sets.{member}
use Rattle.policy.specs.declared.Policy.{Policy}
use Rattle.policy_sheet.specs.Writer.{line_text, write_sheet}
use Rattle.sheet_writing.specs.OnePass.{line_from}
use Rattle.sheet_writing.proofs.EntryTexts.{put_length}
use Rattle.sheet_writing.proofs.OnePass.{one-pass}

-- A line of a sheet is written in one pass, and 0A ends it.
pub line_in_one_pass : (ws : List ℕ) → line_from (λ (j : ℕ). member j ws) 0 false false variation_entries ++ (0x0A ∷ []) ≡ line_text ws
unfolding line_text
line_in_one_pass ws =
    ap (λ (t : List ℕ). t ++ (0x0A ∷ []))
    (sym (one-pass (λ (j : ℕ). member j ws) variation_entries (ascending_lt variation_entries variation_entries_ascend)))

-- ---- lengths

pub line_length : (ws : List ℕ) (n : ℕ) → n ≡ length (line_from (λ (j : ℕ). member j ws) 0 false false variation_entries)
    → n + 1 ≡ length (line_text ws)
line_length ws n e =
    let t = line_from (λ (j : ℕ). member j ws) 0 false false variation_entries in
    omega (arith, e, ap length (line_in_one_pass ws), length-append t (0x0A ∷ []))

pub sheet_length : (p : Policy) (a b c d : ℕ) → a + 1 ≡ length (line_text p.prefer_bare.chars.bits)
    → b + 1 ≡ length (line_text p.prefer_bare.keycap_chars.bits) → c + 1 ≡ length (line_text p.bare_as_text.chars.bits)
    → d + 1 ≡ length (line_text p.bare_as_text.keycap_chars.bits)
    → a + b + c + d + 4 ≡ length (write_sheet p)
unfolding write_sheet
sheet_length p a b c d e f g h = simp length-append (omega arith)

-- ---- a line with the 0A that ends it

pub ended_put : {o o₁ : List ℕ} {s r : ℕ} (ws : List ℕ)
    → PutAt o s (line_from (λ (j : ℕ). member j ws) 0 false false variation_entries) o₁ r
    → PutAt o s (line_text ws) (set o₁ r 0x0A) (r + 1)
ended_put ws p =
    put_as (line_text ws) (line_in_one_pass ws) (put_then {ys = 0x0A ∷ []} p (record { ends = refl; bytes = refl }))

pub ended-room : {o o₁ : List ℕ} {s r : ℕ} (ws : List ℕ)
    → PutAt o s (line_from (λ (j : ℕ). member j ws) 0 false false variation_entries) o₁ r
    → s + length (line_text ws) ≤ length o → r < length o₁
ended-room {o} {o₁} {s} {r} ws p h =
    omega (arith, p.ends, put_length o p, line_length ws (length (line_from (λ (j : ℕ). member j ws) 0 false false variation_entries)) refl)

pub line-room : (o : List ℕ) (s : ℕ) (ws : List ℕ) → s + length (line_text ws) ≤ length o
    → s + length (line_from (λ (j : ℕ). member j ws) 0 false false variation_entries) ≤ length o
line-room o s ws h = omega (arith, line_length ws (length (line_from (λ (j : ℕ). member j ws) 0 false false variation_entries)) refl)

-- ---- the four lines

module _ (p : Policy) where
  abbrev first : List ℕ
  first = line_text p.prefer_bare.chars.bits

  abbrev second : List ℕ
  second = line_text p.prefer_bare.keycap_chars.bits

  abbrev third : List ℕ
  third = line_text p.bare_as_text.chars.bits

  abbrev fourth : List ℕ
  fourth = line_text p.bare_as_text.keycap_chars.bits

  four_lines : length first + length second + length third + length fourth ≡ length (write_sheet p)
  unfolding write_sheet
  four_lines = simp length-append (omega arith)

  pub first-room : (o : List ℕ) → length (write_sheet p) ≤ length o → 0 + length first ≤ length o
  first-room o h = omega (arith, four_lines)

  pub second-room : {o o₁ : List ℕ} {r : ℕ} → PutAt o 0 first o₁ r → length (write_sheet p) ≤ length o → r + length second ≤ length o₁
  second-room {o} a h = omega (arith, four_lines, a.ends, put_length o a)

  pub third_room : {o o₁ o₂ : List ℕ} {i r : ℕ} → PutAt o 0 first o₁ i → PutAt o₁ i second o₂ r → length (write_sheet p) ≤ length o
      → r + length third ≤ length o₂
  third_room {o} {o₁} a b h = omega (arith, four_lines, a.ends, b.ends, put_length o a, put_length o₁ b)

  pub fourth_room : {o o₁ o₂ o₃ : List ℕ} {i j r : ℕ} → PutAt o 0 first o₁ i → PutAt o₁ i second o₂ j → PutAt o₂ j third o₃ r
      → length (write_sheet p) ≤ length o → r + length fourth ≤ length o₃
  fourth_room {o} {o₁} {o₂} a b c h =
      omega (arith, four_lines, a.ends, b.ends, c.ends, put_length o a, put_length o₁ b, put_length o₂ c)

  pub sheet_put : {o o₁ o₂ o₃ o₄ : List ℕ} {i j k r : ℕ} → PutAt o 0 first o₁ i → PutAt o₁ i second o₂ j → PutAt o₂ j third o₃ k
      → PutAt o₃ k fourth o₄ r → PutAt o 0 (write_sheet p) o₄ r
  unfolding write_sheet
  sheet_put a b c d = put_then (put_then (put_then a b) c) d
