-- The claims on the repaired text and on the call `repair`. proofs/Claims.antt proves each statement, under the same name in snake case.
use Rattle.std.specs.Prelude.{◌≡◌, ◌↔◌, List, ℕ, ◌*◌, ◌^◌, ◌≤◌, ◌<◌, length, replicate, Ok, Err}
use Rattle.base.specs.Refusals.{refusal_row, unwritten, written}
use Rattle.base.specs.declared.Refusal.{Refusal}
use Rattle.base.specs.declared.Refusal.TheVariants.{OutputTooShort, TextTooLong}
use Rattle.utf8.specs.Rfc3629.{WellFormed, chars}
use Rattle.repair.specs.Repair.{repair}
use Rattle.repair.specs.Repaired.{Repairs, repaired, repaired_chars, replacements}

-- The claim on the repaired text.
pub record RepairedText (s : List ℕ) : Type 0 where
  -- the text is a list of characters and stretches, and the repaired text has the same characters, and FFFD for each stretch, in the same
  -- order; `Repairs` gives no other text and no other number
  pub stretches : Repairs s (repaired s) (replacements s)
  pub no_other : (t : List ℕ) (k : ℕ) → Repairs s t k → (t ≡ repaired s) × (k ≡ replacements s)
  -- "the result always passes the UTF-8 test"
  pub well_formed : WellFormed (repaired s)
  pub characters : chars (repaired s) ≡ repaired_chars s
  -- "A text that was well formed comes out unchanged with number 0"; and only a well-formed text has the number 0
  pub unchanged : WellFormed s → repaired s ≡ s
  pub none_replaced : WellFormed s ↔ (replacements s ≡ 0)
  -- the repaired text has at most 3 times the bytes of the text, and there is at most one replacement for each byte
  pub three_times : length (repaired s) ≤ 3 * length s
  pub few : replacements s ≤ length s

unfoldable pub EveryRepairedText : Type 0
EveryRepairedText = (s : List ℕ) → RepairedText s

-- For every length there is a text whose repaired text has exactly 3 times its bytes: one of bytes FF.
unfoldable pub ThreeTimesReached : Type 0
ThreeTimesReached = (n : ℕ) → (length (repaired (replicate n 0xFF)) ≡ 3 * n) × (replacements (replicate n 0xFF) ≡ n)

-- The claim on the call: limit 1 is on the bytes taken in; refusal 8 gives the wanted length; otherwise the repaired text is at the front
-- of the output. Both values of an answer are below 2^28, and so is the value that a refusal returns. An output of 3 times the bytes taken
-- in is always long enough.
pub record RepairCall (text out : List ℕ) : Type 0 where
  pub long : 16777217 ≤ length text → repair text out ≡ unwritten (Err TextTooLong) out
  pub short : length text ≤ 16777216 → length out < length (repaired text)
      → repair text out ≡ unwritten (Err (OutputTooShort (length (repaired text)))) out
  pub done : length text ≤ 16777216 → length (repaired text) ≤ length out
      → repair text out ≡ written (Ok (record { len = length (repaired text); replaced = replacements text })) (repaired text) out
  pub small : (n k : ℕ) → (repair text out).answer ≡ Ok (record { len = n; replaced = k }) → (n < 2 ^ 28) × (k < 2 ^ 28)
  pub small_refusal : (r : Refusal) → (repair text out).answer ≡ Err r → (refusal_row r).value < 2 ^ 28
  pub room : length text ≤ 16777216 → 3 * length text ≤ length out
      → (repair text out).answer ≡ Ok (record { len = length (repaired text); replaced = replacements text })

unfoldable pub EveryRepairCall : Type 0
EveryRepairCall = (text out : List ℕ) → RepairCall text out
