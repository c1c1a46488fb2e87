-- What is claimed of the flips that tip a text. Each statement is proved in proofs/Claims.antt.
use Rattle.std.specs.Prelude.{◌≡◌, Bool, true, false, ℕ, ◌<◌}
use mathlib.Core.List.{List, [], ◌∷◌, Memᴰ, map}
use Rattle.base.specs.Words.{all_bytes}
use Rattle.utf8.specs.Rfc3629.{chars, encode_all}
use Rattle.policy_key_set.specs.Sets.{differ, entry_count}
use Rattle.policy.specs.Policy.{holds_entry}
use Rattle.policy.specs.PolicyBytes.{is_policy, policy_of}
use Rattle.analysis.specs.Cells.{cells}
use Rattle.formatter.specs.Format.{formatted}
use Rattle.formatter.specs.Worked.{the_default}
use Rattle.membership_flips.specs.Flips.{Membership, and_four, code_point, flip, flipped, holds, same, tipping, tips}
use Rattle.membership_flips.specs.Uses.{matters, occurs}

-- ---- a flip

-- "whose flip alone": the flipped membership is inverted, and the other 1,415 stay.
unfoldable pub FlipsOne : Type 0
FlipsOne =
    (policy : List ℕ) (m n : Membership) → m.entry < entry_count
    → holds (flip m (policy_of policy)) n ≡ differ (holds (policy_of policy) n) (same m n)

-- A policy with one membership flipped is a policy, and its bytes are read back as that policy.
unfoldable pub FlippedIsPolicy : Type 0
FlippedIsPolicy =
    (policy : List ℕ) (m : Membership) → m.entry < entry_count → is_policy policy ≡ true → all_bytes policy ≡ true
    → (is_policy (flipped m policy) ≡ true) × (policy_of (flipped m policy) ≡ flip m (policy_of policy))

-- ---- the list

-- "smallest code point first, then ordinary before keycap, then `prefer_bare` before `bare_as_text`"
pub data Before (m n : Membership) : Type 0 where
  smaller_code_point : code_point m < code_point n → Before m n
  ordinary_first : code_point m ≡ code_point n → m.keycap ≡ false → n.keycap ≡ true → Before m n
  prefer_bare_first : code_point m ≡ code_point n → m.keycap ≡ n.keycap → m.as_text ≡ false → n.as_text ≡ true → Before m n

-- The order of document 02: each membership of the list is `Before` every later one. So the list has no membership twice.
pub data InOrder : List Membership → Type 0 where
  no_more : InOrder []
  and_then : {m : Membership} {l : List Membership} → ((n : Membership) → Memᴰ n l → Before m n) → InOrder l → InOrder (m ∷ l)

-- "every variation entry .. whose flip alone alters the formatted text"
pub record Alters (text policy : List ℕ) (m : Membership) : Type 0 where
  pub entry : m.entry < entry_count
  pub alters : formatted text (flipped m policy) ≡ formatted text policy → ⊥

-- "Each such flip appears, and no other does."
pub record TipsClaim (text policy : List ℕ) : Type 0 where
  pub each_appears : (m : Membership) → Alters text policy m → Memᴰ m (tipping text policy)
  pub no_other : (m : Membership) → Memᴰ m (tipping text policy) → Alters text policy m
  pub in_order : InOrder (tipping text policy)

unfoldable pub EveryTip : Type 0
EveryTip = (text policy : List ℕ) → TipsClaim text policy

-- ---- by one pass

-- A flip tips a text where it matters for what occurs among the text's cells.
unfoldable pub TipsByUse : Type 0
TipsByUse =
    (text policy : List ℕ) (m : Membership) → m.entry < entry_count → all_bytes policy ≡ true
    → tips text policy m
    ≡ matters m.as_text (holds_entry (policy_of policy).prefer_bare m.entry m.keycap)
    (holds_entry (policy_of policy).bare_as_text m.entry m.keycap)
    (occurs (code_point m) m.keycap (cells (chars text)))

-- ---- examples

-- Whether the flips of the four memberships of an entry tip a text of these characters under the default policy: ordinary `prefer_bare`,
-- ordinary `bare_as_text`, keycap `prefer_bare`, keycap `bare_as_text`.
abbrev pub four_tips : List ℕ → ℕ → List Bool
four_tips t i = map (tips (encode_all t) the_default) (and_four i [])

-- The entries 3 and 150 are the digit 1 and the heart 2764. A bare digit is kept as text. A keycap or a heart without a selector gets FE0E.
-- Before a tag the policy is not asked. A flip of another entry alters nothing.
unfoldable pub TipExamples : Type 0
TipExamples =
    (four_tips (0x31 ∷ []) 3 ≡ true ∷ false ∷ false ∷ false ∷ [])
    × (four_tips (0x31 ∷ 0xFE0E ∷ []) 3 ≡ true ∷ true ∷ false ∷ false ∷ [])
    × (four_tips (0x31 ∷ 0x20E3 ∷ []) 3 ≡ false ∷ false ∷ true ∷ true ∷ [])
    × (four_tips (0x2764 ∷ []) 150 ≡ true ∷ true ∷ false ∷ false ∷ [])
    × (four_tips (0x2764 ∷ 0xE0061 ∷ []) 150 ≡ false ∷ false ∷ false ∷ false ∷ [])
    × (four_tips (0x2764 ∷ []) 3 ≡ false ∷ false ∷ false ∷ false ∷ [])
