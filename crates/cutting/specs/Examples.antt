-- Cuts with their results, under the default policy: two that `EveryCut` covers although items are divided differently there, and five
-- outside the claim, where the joined results are not those of the whole.
use Rattle.std.specs.Prelude.{◌≡◌, List, [], ◌∷◌, ◌++◌, map, ℕ, ◌+◌, length, Some, None}
use Rattle.utf8.specs.Rfc3629.{encode_all}
use Rattle.scanner.specs.Items.{items}
use Rattle.analysis.specs.Counts.{◌⊕◌, eight, empty}
use Rattle.analysis.specs.declared.types.NonCanonicality.{NonCanonicality}
use Rattle.formatter.specs.Findings.{text_totals}
use Rattle.formatter.specs.Format.{formatted}
use Rattle.formatter.specs.Worked.{the_default}
use Rattle.cutting.specs.Cut.{cut_before}

-- A formatted text, the eight totals, and the number of items.
pub record Result : Type 0 where
  pub text : List ℕ
  pub totals : NonCanonicality
  pub items : ℕ

-- A result of these characters, these totals and this number of items.
abbrev pub gives : List ℕ → NonCanonicality → ℕ → Result
gives t n k = record { text = encode_all t; totals = n; items = k }

-- The result of a text of these characters.
unfoldable pub result_of : List ℕ → Result
result_of t = record {
  text = formatted (encode_all t) the_default;
  totals = text_totals (encode_all t) the_default;
  items = length (items t);
}

-- The results of two parts: the texts joined, the totals and the numbers of items added.
unfoldable pub of_parts : List ℕ → List ℕ → Result
of_parts s t = record {
  text = (result_of s).text ++ (result_of t).text;
  totals = (result_of s).totals ⊕ (result_of t).totals;
  items = (result_of s).items + (result_of t).items;
}

-- The whole has the first result, and its two parts have the second.
abbrev pub WholeAndParts : List ℕ → List ℕ → Result → Result → Type 0
WholeAndParts s t whole parts = (result_of (s ++ t) ≡ whole) × (of_parts s t ≡ parts)

-- "This must cover a cut before 200D and one between regional indicators, although items are divided differently there."
unfoldable pub CoveredExamples : Type 0
CoveredExamples =
    WholeAndParts (0x2764 ∷ []) (0x200D ∷ 0x1F525 ∷ [])
    (gives (0x2764 ∷ 0xFE0E ∷ 0x200D ∷ 0x1F525 ∷ []) (eight 0 0 0 0 0 0 0 1) 1)
    (gives (0x2764 ∷ 0xFE0E ∷ 0x200D ∷ 0x1F525 ∷ []) (eight 0 0 0 0 0 0 0 1) 3)
    × WholeAndParts (0x1F1E6 ∷ 0xFE0F ∷ []) (0x1F1E7 ∷ [])
    (gives (0x1F1E6 ∷ 0x1F1E7 ∷ []) (eight 1 0 0 0 0 0 0 0) 1)
    (gives (0x1F1E6 ∷ 0x1F1E7 ∷ []) (eight 1 0 0 0 0 0 0 0) 2)

-- Cuts outside the claim: two before a selector, of which the first changes the totals alone; before 20E3, before a modifier, before a tag.
unfoldable pub UncoveredExamples : Type 0
UncoveredExamples =
    WholeAndParts (0x31 ∷ []) (0xFE0E ∷ []) (gives (0x31 ∷ []) (eight 0 0 0 0 0 0 1 0) 1) (gives (0x31 ∷ []) (eight 1 0 0 0 0 0 0 0) 2)
    × WholeAndParts (0x231A ∷ []) (0xFE0E ∷ []) (gives (0x231A ∷ 0xFE0E ∷ []) empty 1) (gives (0x231A ∷ []) (eight 1 0 0 0 0 0 0 0) 2)
    × WholeAndParts (0x31 ∷ []) (0x20E3 ∷ []) (gives (0x31 ∷ 0xFE0E ∷ 0x20E3 ∷ []) (eight 0 0 0 0 0 0 0 1) 1)
    (gives (0x31 ∷ 0x20E3 ∷ []) empty 2)
    × WholeAndParts (0x261D ∷ 0xFE0F ∷ []) (0x1F3FB ∷ []) (gives (0x261D ∷ 0x1F3FB ∷ []) (eight 0 1 0 0 0 0 0 0) 1)
    (gives (0x261D ∷ 0xFE0F ∷ 0x1F3FB ∷ []) empty 2)
    × WholeAndParts (0x2764 ∷ 0xFE0E ∷ []) (0xE0061 ∷ []) (gives (0x2764 ∷ 0xFE0F ∷ 0xE0061 ∷ []) (eight 0 0 0 1 1 0 0 0) 1)
    (gives (0x2764 ∷ 0xFE0E ∷ 0xE0061 ∷ []) empty 2)

-- The cuts at or below each offset of 31 20E3 2764, whose bytes are 31, E2 83 A3, E2 9D A4: none is before 20E3 or inside a character.
-- A tag alone has no cut before its end. Of the bytes 31 A3 31 the middle one is no character.
unfoldable pub CutExamples : Type 0
CutExamples =
    (map (cut_before (encode_all (0x31 ∷ 0x20E3 ∷ 0x2764 ∷ []))) (0 ∷ 1 ∷ 2 ∷ 3 ∷ 4 ∷ 5 ∷ 6 ∷ 7 ∷ 8 ∷ [])
    ≡ Some 0 ∷ Some 0 ∷ Some 0 ∷ Some 0 ∷ Some 4 ∷ Some 4 ∷ Some 4 ∷ Some 7 ∷ Some 7 ∷ [])
    × (map (cut_before (encode_all (0xE0061 ∷ []))) (0 ∷ 3 ∷ 4 ∷ []) ≡ None ∷ None ∷ Some 4 ∷ [])
    × (map (cut_before (0x31 ∷ 0xA3 ∷ 0x31 ∷ [])) (0 ∷ 1 ∷ 2 ∷ 3 ∷ []) ≡ Some 0 ∷ Some 0 ∷ Some 2 ∷ Some 3 ∷ [])
