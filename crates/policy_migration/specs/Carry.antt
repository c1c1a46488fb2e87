-- Carrying a policy over to our tables (document 02, xii): "Carry a policy over by character, to our tables' version". The old policy's
-- bits are numbered by the old variation table, and the new policy's bits by ours. The whole outcome of the call is `carry_call`.
use Rattle.base.specs.declared.Refusal.{Refusal}
use Rattle.std.specs.Prelude.{
  Bool,
  cond,
  not,
  ◌&&◌,
  ◌||◌,
  List,
  ◌∷◌,
  ℕ,
  ◌+◌,
  ◌*◌,
  ◌/◌,
  ◌%◌,
  eqb,
  leb,
  ltb,
  get_or,
  length,
  Ok,
  Err,
  Some,
  None,
  Result,
  Option,
}
use Rattle.base.specs.Refusals.{After, unwritten, written}
use Rattle.base.specs.Words.{bytes_of}
use Rattle.base.specs.declared.Refusal.TheVariants.{NotAPolicy, NotAnEntryList, OutputTooShort}
use Rattle.emoji.specs.Tables.{ascending, index_of}
use Rattle.emoji.specs.UnicodeData.{variation_entries}
use Rattle.policy_key_set.specs.Sets.{all_below, entry_count, member, word_count, words_of}
use Rattle.policy.specs.DefaultPolicy.{default_policy}
use Rattle.policy.specs.PolicyBytes.{numbers_of, policy_bytes, policy_words, words_from}
use Rattle.policy.specs.declared.Policy.{Policy}

-- ---- the four sets

pub data WhichSet : Type 0 where
  prefer_bare_set : WhichSet
  prefer_bare_keycap_set : WhichSet
  bare_as_text_set : WhichSet
  bare_as_text_keycap_set : WhichSet

-- The place of a set in a stored policy.
abbrev pub place_of : WhichSet → ℕ
place_of prefer_bare_set = 0
place_of prefer_bare_keycap_set = 1
place_of bare_as_text_set = 2
place_of bare_as_text_keycap_set = 3

abbrev pub set_in : Policy → WhichSet → List ℕ
set_in p prefer_bare_set = p.prefer_bare.chars.bits
set_in p prefer_bare_keycap_set = p.prefer_bare.keycap_chars.bits
set_in p bare_as_text_set = p.bare_as_text.chars.bits
set_in p bare_as_text_keycap_set = p.bare_as_text.keycap_chars.bits

-- ---- the old list and the old policy

-- W' of an old list of V' entries: V'/64 rounded up.
abbrev pub words_for : List ℕ → ℕ
words_for old = (length old + 63) / 64

-- A set of the old policy. It stands after the version word, and "the old policy may carry any version word".
unfoldable pub old_set : List ℕ → List ℕ → WhichSet → List ℕ
old_set old policy k = words_from (words_for old) (8 + place_of k * (words_for old * 8)) policy

-- "16, an old list that isn't strictly ascending or doesn't match the old policy's word count": 4W' + 1 words.
unfoldable pub is_old_list : List ℕ → List ℕ → Bool
is_old_list old policy = ascending old && eqb (length policy) (8 * (4 * words_for old + 1))

-- "The old variation table comes as a lent ascending list": the bytes are numbers of 8 bytes each, and these are such a list.
abbrev pub is_entry_list : List ℕ → List ℕ → Bool
is_entry_list entries policy = eqb (length entries % 8) 0 && is_old_list (numbers_of entries) policy

-- Every bit of the words after the last entry of the old list is 0; and this for the four sets: "2 then covers that policy's unused bits".
unfoldable pub no_old_unused : List ℕ → List ℕ → Bool
no_old_unused old ws = all_below (words_for old * 64) (λ (i : ℕ). ltb i (length old) || not (member i ws))

unfoldable pub is_old_policy : List ℕ → List ℕ → Bool
is_old_policy old policy =
    (no_old_unused old (old_set old policy prefer_bare_set) && no_old_unused old (old_set old policy prefer_bare_keycap_set))
    && (no_old_unused old (old_set old policy bare_as_text_set) && no_old_unused old (old_set old policy bare_as_text_keycap_set))

-- ---- carrying

-- The membership of an entry of ours, by its place in the old list: "an entry in both tables keeps its four memberships, .. and a new entry
-- gets those of the default policy under the new tables".
abbrev pub kept_or : Option ℕ → List ℕ → Bool → Bool
kept_or (Some j) ws new = member j ws
kept_or None ws new = new

-- Whether the carried set has entry i of ours. No other bit is 1, so "an entry gone is dropped".
unfoldable pub carried_test : List ℕ → List ℕ → WhichSet → ℕ → Bool
carried_test old policy k i =
    ltb i entry_count
    && kept_or (index_of (get_or variation_entries i 0) old) (old_set old policy k) (member i (set_in default_policy k))

abbrev pub carried_set : List ℕ → List ℕ → WhichSet → List ℕ
carried_set old policy k = words_of word_count (carried_test old policy k)

unfoldable pub carried : List ℕ → List ℕ → Policy
carried old policy = record {
  prefer_bare = record {
    chars = record { bits = carried_set old policy prefer_bare_set };
    keycap_chars = record { bits = carried_set old policy prefer_bare_keycap_set };
  };
  bare_as_text = record {
    chars = record { bits = carried_set old policy bare_as_text_set };
    keycap_chars = record { bits = carried_set old policy bare_as_text_keycap_set };
  };
}

-- ---- the call

-- A policy as it is stored under a version. Under the version of our tables this is `policy_bytes` (crate policy).
unfoldable pub versioned : ℕ → Policy → List ℕ
versioned version p = bytes_of (version ∷ policy_words p)

-- Carrying a policy over: refusals 16, 2 and 8, in this order. "15 isn't tested on it."
unfoldable pub carry_call : List ℕ → List ℕ → List ℕ → After (Result ℕ Refusal) ℕ
carry_call entries policy out =
    let result = policy_bytes (carried (numbers_of entries) policy) in
    cond (not (is_entry_list entries policy)) (unwritten (Err NotAnEntryList) out)
    (cond (not (is_old_policy (numbers_of entries) policy)) (unwritten (Err NotAPolicy) out)
    (cond (leb (length result) (length out)) (written (Ok (length result)) result out)
    (unwritten (Err (OutputTooShort (length result))) out)))
