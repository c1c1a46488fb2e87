-- The pass over a text as the code makes it: a flag for each entry, each domain, and each first selector or none. Then the memberships by
-- number, and the test that the code makes for each.
use Rattle.emoji.specs.declared.presentation.Presentation.{Presentation}
use Rattle.std.specs.Prelude.{
  ◌≡◌,
  Bool,
  ◌&&◌,
  ◌||◌,
  cond,
  not,
  List,
  [],
  ◌∷◌,
  ℕ,
  zero,
  suc,
  ◌+◌,
  ◌*◌,
  ◌/◌,
  ◌%◌,
  ◌<◌,
  eqb,
  drop,
  get_or,
  set,
  Some,
  None,
  Option,
}
use Rattle.utf8.specs.Rfc3629.{chars}
use Rattle.emoji.specs.UnicodeData.{variation_entries}
use Rattle.policy_key_set.specs.Sets.{entry_count}
use Rattle.policy.specs.Policy.{holds_entry}
use Rattle.policy.specs.PolicyBytes.{policy_of}
use Rattle.policy.specs.declared.SingletonRule.{SingletonRule}
use Rattle.policy.specs.declared.SingletonRule.TheVariants.{BareToEmoji, BareToText, EmojiToBare, TextToBare}
use Rattle.scanner.specs.declared.char_class.Class.{Class}
use Rattle.analysis.specs.Analysis.{following}
use Rattle.analysis.specs.Cells.{cells, leading}
use Rattle.analysis.specs.Rules.{by_keycap, by_modifier, by_tags, first_asked, selector_number}
use Rattle.text_pass.specs.Changes.{Advances}
use Rattle.membership_flips.specs.Flips.{Membership, digit}
use Rattle.membership_flips.specs.Uses.{matters, occurs}

-- ---- flags

-- The index of a flag.
unfoldable pub flag_index : ℕ → Bool → Option Presentation → ℕ
flag_index i keycap f = 6 * i + (3 * digit keycap + selector_number f)

-- A flag is set.
unfoldable pub flagged : List ℕ → ℕ → Bool → Option Presentation → Bool
flagged flags i keycap f = not (eqb (get_or flags (flag_index i keycap f) 0) 0)

-- The policy decides a base before a character of this class: no modifier and no tags follow.
unfoldable pub is_judged : Class → Bool
is_judged k = not (by_modifier k) && not (by_tags k)

-- The flags after entry i. The characters t follow it.
unfoldable pub with_entry : List ℕ → ℕ → List ℕ → List ℕ
with_entry t i flags =
    cond (is_judged (following (cells t))) (set flags (flag_index i (by_keycap (following (cells t))) (first_asked (leading t))) 1) flags

-- The flags after any character. The characters t follow it.
abbrev pub with_char : Option ℕ → List ℕ → List ℕ → List ℕ
with_char (Some i) t flags = with_entry t i flags
with_char None t flags = flags

-- The flags say what occurs in a text.
abbrev pub FlagsTell : List ℕ → List ℕ → Type 0
FlagsTell text flags =
    (i : ℕ) → i < entry_count → (keycap : Bool) (f : Option Presentation)
    → flagged flags i keycap f ≡ occurs (get_or variation_entries i 0) keycap (cells (chars text)) f

-- Between two offsets are whole characters, and what occurs from the one on occurs from the other on.
pub record NoEntryBetween (text : List ℕ) (from to : ℕ) : Type 0 where
  pub advances : Advances text from to
  pub same : (i : ℕ) → i < entry_count → (keycap : Bool) (f : Option Presentation)
      → occurs (get_or variation_entries i 0) keycap (cells (chars (drop from text))) f
      ≡ occurs (get_or variation_entries i 0) keycap (cells (chars (drop to text))) f

-- ---- the memberships by number

-- A membership by its number in document 02's order: entry n / 4, domain n / 2 mod 2, set n mod 2.
abbrev pub membership_at : ℕ → Membership
membership_at n = record { entry = n / 4; keycap = eqb (n / 2 % 2) 1; as_text = eqb (n % 2) 1 }

-- As many memberships as the first number says, from the second number on. `memberships` of specs/Flips.antt has 1,416 of them, from 0 on
-- (proofs/Listing.antt).
unfoldable pub numbered : ℕ → ℕ → List Membership
numbered zero n = []
numbered (suc k) n = membership_at n ∷ numbered k (suc n)

-- A flip matters, by the policy's rule for the entry, by the set, and by whether the entry occurs bare, with FE0E first, and with FE0F
-- first.
abbrev pub matters_for : SingletonRule → Bool → Bool → Bool → Bool → Bool
matters_for BareToEmoji as_text bare text emoji = cond as_text bare (bare || emoji)
matters_for BareToText as_text bare text emoji = cond as_text bare (bare || text)
matters_for EmojiToBare as_text bare text emoji = cond as_text (text || emoji) (bare || emoji)
matters_for TextToBare as_text bare text emoji = cond as_text (text || emoji) (bare || text)

-- A flip tips the text, by the flags.
unfoldable pub tip_test : List ℕ → List ℕ → Membership → Bool
tip_test policy flags m =
    matters m.as_text (holds_entry (policy_of policy).prefer_bare m.entry m.keycap)
    (holds_entry (policy_of policy).bare_as_text m.entry m.keycap) (flagged flags m.entry m.keycap)
