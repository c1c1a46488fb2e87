-- The flips of single memberships that alter a formatted text, and the call that lists them: document 02, (viii).
use Rattle.std.specs.Prelude.{Bool, true, false, ◌&&◌, not, List, [], ◌∷◌, ℕ, zero, suc, ◌/◌, ◌%◌, ◌^◌, eqb, get_or, set, Err, Result}
use Rattle.std.specs.Bool.{beq}
use Rattle.std.specs.Int.Bits.{bit_xor}
use Rattle.base.specs.Lists.{filter}
use Rattle.base.specs.Refusals.{After, or_else, unwritten}
use Rattle.base.specs.declared.Refusal.{Refusal}
use Rattle.base.specs.Tables.{fill_table}
use Rattle.emoji.specs.UnicodeData.{variation_entries}
use Rattle.policy_key_set.specs.Sets.{entry_count}
use Rattle.policy_key_set.specs.declared.PolicyKeySet.{PolicyKeySet}
use Rattle.policy.specs.Policy.{holds_entry}
use Rattle.policy.specs.PolicyBytes.{policy_bytes, policy_of}
use Rattle.policy.specs.declared.Policy.{Policy}
use Rattle.formatter.specs.Format.{formatted, same_bytes}
use Rattle.formatter.specs.Intake.{intake_refusal}

-- ---- memberships

-- One membership: a variation entry, by its index in the table of entries, in one of the four sets: ordinary or keycap, `prefer_bare` or
-- `bare_as_text`.
pub record Membership : Type 0 where
  pub entry : ℕ
  pub keycap : Bool
  pub as_text : Bool

-- The code point of its entry.
abbrev pub code_point : Membership → ℕ
code_point m = get_or variation_entries m.entry 0

-- `prefer_bare` or `bare_as_text` of a policy.
abbrev pub key_set : Bool → Policy → PolicyKeySet
key_set false p = p.prefer_bare
key_set true p = p.bare_as_text

-- "in the set or not"
unfoldable pub holds : Policy → Membership → Bool
holds p m = holds_entry (key_set m.as_text p) m.entry m.keycap

-- Two memberships are the same one.
unfoldable pub same : Membership → Membership → Bool
same m n = eqb m.entry n.entry && (beq m.keycap n.keycap && beq m.as_text n.as_text)

-- ---- "flip"

-- "entry i at bit i mod 64 of word i/64": the words with that bit inverted
unfoldable pub flip_bit : ℕ → List ℕ → List ℕ
flip_bit i ws = set ws (i / 64) (bit_xor (get_or ws (i / 64) 0) (2 ^ (i % 64)))

-- A key set with that bit of its ordinary or of its keycap set inverted.
unfoldable pub flip_key : ℕ → Bool → PolicyKeySet → PolicyKeySet
flip_key i false s = record { chars = record { bits = flip_bit i s.chars.bits }; keycap_chars = s.keycap_chars }
flip_key i true s = record { chars = s.chars; keycap_chars = record { bits = flip_bit i s.keycap_chars.bits } }

-- A policy with that bit of `prefer_bare` or of `bare_as_text` inverted.
unfoldable pub flip_in : Bool → ℕ → Bool → Policy → Policy
flip_in false i k p = record { prefer_bare = flip_key i k p.prefer_bare; bare_as_text = p.bare_as_text }
flip_in true i k p = record { prefer_bare = p.prefer_bare; bare_as_text = flip_key i k p.bare_as_text }

-- A policy with one membership flipped, "alone": specs/Theorems.antt, FlipsOne.
abbrev pub flip : Membership → Policy → Policy
flip m p = flip_in m.as_text m.entry m.keycap p

-- The bytes of a policy with one membership flipped. They are a policy: specs/Theorems.antt, FlippedIsPolicy.
abbrev pub flipped : Membership → List ℕ → List ℕ
flipped m policy = policy_bytes (flip m (policy_of policy))

-- ---- the list

-- "whose flip alone alters the formatted text"
unfoldable pub tips : List ℕ → List ℕ → Membership → Bool
tips text policy m = not (same_bytes (formatted text (flipped m policy)) (formatted text policy))

-- "ordinary before keycap, then prefer_bare before bare_as_text": the four memberships of an entry, and then a list
abbrev pub and_four : ℕ → List Membership → List Membership
and_four i l =
    record { entry = i; keycap = false; as_text = false }
    ∷ record { entry = i; keycap = false; as_text = true }
    ∷ record { entry = i; keycap = true; as_text = false }
    ∷ record { entry = i; keycap = true; as_text = true }
    ∷ l

-- The memberships of as many entries as the first number says, from an index on.
unfoldable pub memberships_from : ℕ → ℕ → List Membership
memberships_from zero i = []
memberships_from (suc n) i = and_four i (memberships_from n (suc i))

-- "for each of the four sets, every variation entry .. smallest code point first"
unfoldable pub memberships : List Membership
memberships = memberships_from entry_count 0

-- "Each such flip appears, and no other does", in the order of the list.
unfoldable pub tipping : List ℕ → List ℕ → List Membership
tipping text policy = filter (tips text policy) memberships

-- ---- the call

-- 0 or 1
abbrev pub digit : Bool → ℕ
digit false = 0
digit true = 1

-- The numbers of a row: the code point; 0 ordinary, 1 keycap; 0 `prefer_bare`, 1 `bare_as_text`.
unfoldable pub tip_numbers : Membership → List ℕ
tip_numbers m = code_point m ∷ digit m.keycap ∷ digit m.as_text ∷ []

-- "It goes into a lent table, with refusal 7 and the number of such flips if the table is short": refusals 1, 2, 3 and 7.
unfoldable pub list_tips : List ℕ → List ℕ → List ℕ → After (Result ℕ Refusal) ℕ
list_tips text policy table =
    or_else (intake_refusal text policy) (λ (r : Refusal). unwritten (Err r) table)
    (fill_table tip_numbers 24 (tipping text policy) table)
