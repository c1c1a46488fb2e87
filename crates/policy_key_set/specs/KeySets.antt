-- Key sets: document 01, "A key set is an ordinary and a keycap character set."
use Rattle.std.specs.Prelude.{Bool, false, ◌&&◌, ◌||◌, List, ℕ, ◌+◌, ◌*◌, eqb, leb, ltb, get_or, length}
use Rattle.std.specs.Bool.{beq}
use Rattle.base.specs.Ranges.{within}
use Rattle.emoji.specs.Unicode.{is_emoji_default, is_text_default}
use Rattle.emoji.specs.UnicodeData.{variation_entries}
use Rattle.policy_key_set.specs.Sets.{Holds, all_below, entry_count, member, same_entries, size_of}
use Rattle.policy_key_set.specs.declared.NamedSet.{NamedSet}
use Rattle.policy_key_set.specs.declared.NamedSet.TheVariants.{Ascii, EmojiDefaults, KeycapRgi, TextDefaults}
use Rattle.policy_key_set.specs.declared.PolicyKeySet.{PolicyKeySet}

-- Entry i is an ordinary key of the set; entry i is a keycap key of the set.
abbrev pub ordinary : PolicyKeySet → ℕ → Bool
ordinary s i = member i s.chars.bits

abbrev pub keycap : PolicyKeySet → ℕ → Bool
keycap s i = member i s.keycap_chars.bits

-- The ordinary keys of the set are the entries that pass the test p, the keycap keys are those that pass q, and "unused bits" are 0.
pub record HoldsKeys (p q : ℕ → Bool) (s : PolicyKeySet) : Type 0 where
  pub ordinary_keys : Holds p s.chars.bits
  pub keycap_keys : Holds q s.keycap_chars.bits

-- The ordinary keys of the set are the entries whose character passes a test, and it has no keycap keys. `KeycapChars` says the same
-- with the domains exchanged.
abbrev pub OrdinaryChars : (ℕ → Bool) → PolicyKeySet → Type 0
OrdinaryChars p s = HoldsKeys (λ (i : ℕ). p (get_or variation_entries i 0)) (λ (i : ℕ). false) s

abbrev pub KeycapChars : (ℕ → Bool) → PolicyKeySet → Type 0
KeycapChars p s = HoldsKeys (λ (i : ℕ). false) (λ (i : ℕ). p (get_or variation_entries i 0)) s

-- The tests of the named sets that unicode.rs does not have: `char::is_ascii`, and the characters #, * and 0 to 9.
abbrev pub is_ascii : ℕ → Bool
is_ascii c = ltb c 0x80

abbrev pub is_keycap_rgi : ℕ → Bool
is_keycap_rgi c = eqb c 0x23 || (eqb c 0x2A || within 0x30 0x39 c)

-- The rule of a named set: `named_entry_matches` of policy_key_set.rs.
abbrev pub named_entry_matches : NamedSet → ℕ → Bool
named_entry_matches Ascii = is_ascii
named_entry_matches TextDefaults = is_text_default
named_entry_matches EmojiDefaults = is_emoji_default
named_entry_matches KeycapRgi = is_keycap_rgi

-- The test of a named set's words: the words have a bit for every entry, and a bit is 1 exactly if its entry's character matches the
-- rule.
unfoldable pub words_match_rule : (ℕ → Bool) → List ℕ → Bool
words_match_rule p ws =
    leb entry_count (length ws * 64)
    && all_below (length ws * 64) (λ (i : ℕ). beq (member i ws) (ltb i entry_count && p (get_or variation_entries i 0)))

-- The result of an operation on key sets is the operation in each of the two domains.
abbrev pub KeysMadeBy : (Bool → Bool → Bool) → PolicyKeySet → PolicyKeySet → PolicyKeySet → Type 0
KeysMadeBy f a b r =
    HoldsKeys (λ (i : ℕ). f (ordinary a i) (ordinary b i)) (λ (i : ℕ). f (keycap a i) (keycap b i)) r

-- The number of keys of both domains.
abbrev pub keys_size : PolicyKeySet → ℕ
keys_size s = size_of s.chars.bits + size_of s.keycap_chars.bits

-- The two key sets hold the same keys.
abbrev pub same_keys : PolicyKeySet → PolicyKeySet → Bool
same_keys a b = same_entries a.chars.bits b.chars.bits && same_entries a.keycap_chars.bits b.keycap_chars.bits
