-- The words of the default policy, for the tables of Unicode 15.0. The theorem `DefaultPolicyHolds` says which
-- entries the four sets hold. tools/unicode_tables.py makes this file.
use Rattle.std.specs.Prelude.{List, [], ◌∷◌, ℕ}
use Rattle.policy.specs.declared.Policy.{Policy}

-- `prefer_bare`, ordinary: ASCII and the emoji defaults: 147 entries
unfoldable pub prefer_bare_words : List ℕ
prefer_bare_words =
    0x06030020CC000FFF ∷ 0x5943CD00A01FFE00 ∷ 0x4007D821E018000C ∷ 0xFFFFF9E30000FF01 ∷
    0x0000007FFFFF9EFF ∷ 0x00000000001FFC00 ∷ []

-- `prefer_bare`, keycap: the empty set: 0 entries
unfoldable pub prefer_bare_keycap_words : List ℕ
prefer_bare_keycap_words =
    0x0000000000000000 ∷ 0x0000000000000000 ∷ 0x0000000000000000 ∷ 0x0000000000000000 ∷
    0x0000000000000000 ∷ 0x0000000000000000 ∷ []

-- `bare_as_text`, ordinary: the text defaults: 219 entries
unfoldable pub bare_as_text_words : List ℕ
bare_as_text_words =
    0xF9FCFFDF33FFFFFF ∷ 0xA6BC32FF5FE001FF ∷ 0xBFF827DE1FE7FFF3 ∷ 0x0000061CFFFF00FE ∷
    0xFFFFFF8000006100 ∷ 0x00000003FFE003FF ∷ []

-- `bare_as_text`, keycap: every entry: 354 entries
unfoldable pub bare_as_text_keycap_words : List ℕ
bare_as_text_keycap_words =
    0xFFFFFFFFFFFFFFFF ∷ 0xFFFFFFFFFFFFFFFF ∷ 0xFFFFFFFFFFFFFFFF ∷ 0xFFFFFFFFFFFFFFFF ∷
    0xFFFFFFFFFFFFFFFF ∷ 0x00000003FFFFFFFF ∷ []

-- "Reference: Policy::default for the default policy"
unfoldable pub default_policy : Policy
default_policy = record {
  prefer_bare = record { chars = record { bits = prefer_bare_words }; keycap_chars = record { bits = prefer_bare_keycap_words } };
  bare_as_text = record { chars = record { bits = bare_as_text_words }; keycap_chars = record { bits = bare_as_text_keycap_words } };
}
