-- What is claimed of a text that is cut (document 02, xiii). Each statement is proved in proofs/Claims.antt, under the same name in snake
-- case.
use Rattle.std.specs.Prelude.{◌≡◌, ◌↔◌, true, false, List, [], ◌∷◌, ◌++◌, ℕ, ◌≤◌, ◌<◌, drop, length, take, Some, None, Option}
use Rattle.utf8.specs.Rfc3629.{WellFormed, chars}
use Rattle.analysis.specs.Counts.{◌⊕◌, empty}
use Rattle.analysis.specs.declared.types.NonCanonicality.{NonCanonicality}
use Rattle.formatter.specs.Demand3.{Accepted}
use Rattle.formatter.specs.Findings.{text_totals}
use Rattle.formatter.specs.Format.{formatted}
use Rattle.cutting.specs.Cut.{cut_before, is_cut, may_begin}

-- ---- two parts

-- "the second part is empty or begins with a character that is no selector, modifier, 20E3 or tag"
pub data BeginsPart : List ℕ → Type 0 where
  is_empty_lem : BeginsPart []
  begins : {c : ℕ} {t s : List ℕ} → chars s ≡ c ∷ t → may_begin c ≡ true → BeginsPart s

-- "a text cut in two formats to the two results joined, and .. all eight totals add up"
pub record Joins (policy a b : List ℕ) : Type 0 where
  pub text : formatted (a ++ b) policy ≡ formatted a policy ++ formatted b policy
  pub totals : text_totals (a ++ b) policy ≡ text_totals a policy ⊕ text_totals b policy

-- "Both parts and the whole are accepted texts under one policy." No premise is about items: a cut before 200D and one between regional
-- indicators are covered, "although items are divided differently there".
unfoldable pub EveryCut : Type 0
EveryCut =
    (policy a b : List ℕ) → Accepted policy a → Accepted policy b → Accepted policy (a ++ b) → BeginsPart b → Joins policy a b

-- The same of parts of any length under any bytes as a policy. Of the first part it is enough that it is well-formed, and of the second
-- how it begins.
unfoldable pub EveryLength : Type 0
EveryLength = (policy a b : List ℕ) → WellFormed a → BeginsPart b → Joins policy a b

-- ---- a list of parts

-- Every part is well-formed and begins as a second part does.
pub data LaterParts : List (List ℕ) → Type 0 where
  no_more : LaterParts []
  and_part : {b : List ℕ} {bs : List (List ℕ)} → WellFormed b → BeginsPart b → LaterParts bs → LaterParts (b ∷ bs)

-- The parts joined.
unfoldable pub joined : List (List ℕ) → List ℕ
joined [] = []
joined (b ∷ bs) = b ++ joined bs

-- The formatted parts joined.
unfoldable pub joined_formatted : List ℕ → List (List ℕ) → List ℕ
joined_formatted policy [] = []
joined_formatted policy (b ∷ bs) = formatted b policy ++ joined_formatted policy bs

-- The sum of the parts' totals.
unfoldable pub summed_totals : List ℕ → List (List ℕ) → NonCanonicality
summed_totals policy [] = empty
summed_totals policy (b ∷ bs) = text_totals b policy ⊕ summed_totals policy bs

-- A text cut in a first part and any number of later ones formats to the results joined, and the totals add up.
unfoldable pub EveryListOfParts : Type 0
EveryListOfParts =
    (policy a : List ℕ) (bs : List (List ℕ)) → WellFormed a → LaterParts bs
    → (formatted (joined (a ∷ bs)) policy ≡ joined_formatted policy (a ∷ bs))
    × (text_totals (joined (a ∷ bs)) policy ≡ summed_totals policy (a ∷ bs))

-- ---- the largest cut at or below an offset

-- Within a text, the allowed cuts are those after which the second part begins as `EveryCut` asks. The text is any bytes.
unfoldable pub CutMeans : Type 0
CutMeans = (text : List ℕ) (n : ℕ) → n ≤ length text → (is_cut text n ≡ true) ↔ BeginsPart (drop n text)

-- The answer is the largest allowed cut at or below the offset: it is allowed, and none between it and the offset is. If the answer is
-- that there is none, no offset up to this one is an allowed cut. The text is any bytes.
pub record IsLargest (text : List ℕ) (offset : ℕ) (answer : Option ℕ) : Type 0 where
  pub at_or_below : (n : ℕ) → answer ≡ Some n → n ≤ offset
  pub within_text : (n : ℕ) → answer ≡ Some n → n ≤ length text
  pub allowed : (n : ℕ) → answer ≡ Some n → is_cut text n ≡ true
  pub none_larger : (n m : ℕ) → answer ≡ Some n → n < m → m ≤ offset → is_cut text m ≡ false
  pub none : answer ≡ None → (m : ℕ) → m ≤ offset → is_cut text m ≡ false

unfoldable pub EveryLargestCut : Type 0
EveryLargestCut = (text : List ℕ) (offset : ℕ) → IsLargest text offset (cut_before text offset)

-- A well-formed text in two parts at an allowed cut: both are well-formed, they are the text, and the second begins as `EveryCut` asks.
pub record InTwo (text : List ℕ) (n : ℕ) : Type 0 where
  pub first : WellFormed (take n text)
  pub second : WellFormed (drop n text)
  pub whole : take n text ++ drop n text ≡ text
  pub begins_part : BeginsPart (drop n text)

-- Every cut that is answered for a well-formed text is one that `EveryCut` covers, so the parts' results are the whole's.
unfoldable pub EveryAnswerJoins : Type 0
EveryAnswerJoins =
    (policy text : List ℕ) (offset n : ℕ) → WellFormed text → cut_before text offset ≡ Some n
    → InTwo text n × Joins policy (take n text) (drop n text)

-- An offset from the text's length on answers the text's length.
unfoldable pub EndIsCut : Type 0
EndIsCut = (text : List ℕ) (offset : ℕ) → length text ≤ offset → cut_before text offset ≡ Some (length text)
