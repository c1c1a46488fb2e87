-- Statements about the length of a formatted text (document 02, vii). proofs/Claims.antt proves each of them, under the same name in snake
-- case.
use Rattle.base.specs.declared.Refusal.{Refusal}
use Rattle.std.specs.Prelude.{◌≡◌, true, cond, List, [], ◌∷◌, ℕ, ◌*◌, ◌≤◌, length, replicate, Ok, Some, None, Result, Option}
use Rattle.base.specs.Refusals.{After, unwritten, written}
use Rattle.utf8.specs.Rfc3629.{encode_all}
use Rattle.policy.specs.DefaultPolicy.{default_policy}
use Rattle.policy.specs.PolicyBytes.{ascii_keys_bare, policy_of}
use Rattle.formatter.specs.Demand3.{Accepted}
use Rattle.formatter.specs.Format.{format, formatted, same_bytes}
use Rattle.room.specs.Room.{copyright_sign, default_room, digit_one, the_default, the_empty}

-- "under the default policy twice the formatted length is at most five times the input length", for all bytes of a text.
unfoldable pub FiveHalves : Type 0
FiveHalves = (text policy : List ℕ) → policy_of policy ≡ default_policy → 2 * length (formatted text policy) ≤ 5 * length text

-- More generally: under every policy whose ordinary `prefer_bare` holds every ASCII entry. The default policy is one of them.
unfoldable pub FiveHalvesBare : Type 0
FiveHalvesBare = (text policy : List ℕ) → ascii_keys_bare policy ≡ true → 2 * length (formatted text policy) ≤ 5 * length text

unfoldable pub DefaultKeepsAscii : Type 0
DefaultKeepsAscii = (policy : List ℕ) → policy_of policy ≡ default_policy → ascii_keys_bare policy ≡ true

-- So formatting an accepted text under the default policy is never refused with number 8 if the output has this room.
unfoldable pub RoomIsEnough : Type 0
RoomIsEnough =
    (text policy out : List ℕ) → Accepted policy text → policy_of policy ≡ default_policy → default_room (length text) ≤ length out
    → let result = formatted text policy in
    format text policy out ≡ cond (same_bytes result text) (unwritten (Ok None) out) (written (Ok (Some (length result))) result out)

-- "a text of the one character A9, the copyright sign, reaches it": its two bytes become five, and an output of five bytes holds them.
unfoldable pub CopyrightSignReaches : Type 0
CopyrightSignReaches =
    (2 * length (formatted copyright_sign the_default) ≡ 5 * length copyright_sign)
    × (◌≡◌ {A = After (Result (Option ℕ) Refusal) ℕ} (format copyright_sign the_default (replicate 5 0))
    (record { answer = Ok (Some 5); buffer = 0xC2 ∷ 0xA9 ∷ 0xEF ∷ 0xB8 ∷ 0x8E ∷ [] }))

-- "the general factor 4 is reached by the digit 1 under the empty policy": its one byte becomes four. `EveryFormattedText` of crate
-- formatter has the factor 4 for every text and every policy.
unfoldable pub DigitReachesFour : Type 0
DigitReachesFour =
    (length (formatted digit_one the_empty) ≡ 4 * length digit_one)
    × (◌≡◌ {A = After (Result (Option ℕ) Refusal) ℕ} (format digit_one the_empty (replicate 4 0))
    (record { answer = Ok (Some 4); buffer = 0x31 ∷ 0xEF ∷ 0xB8 ∷ 0x8F ∷ [] }))

-- A text of copyright signs alone reaches the bound too, whatever its length.
unfoldable pub CopyrightSignsReach : Type 0
CopyrightSignsReach =
    (n : ℕ) → (length (encode_all (replicate n 0xA9)) ≡ 2 * n) × (length (formatted (encode_all (replicate n 0xA9)) the_default) ≡ 5 * n)
