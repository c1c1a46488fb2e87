-- The claims on the findings around a stretch, on the nearest finding, and on both calls. proofs/Claims.antt proves each statement, under
-- the same name in snake case.
use Rattle.std.specs.Prelude.{◌≡◌, ◌↔◌, ◌⊎◌, ℕ, ◌-◌, ◌/◌, ◌^◌, ◌≤◌, ◌<◌, length, Ok, Err, Some, None}
use mathlib.Core.List.{List, [], ◌∷◌, Memᴰ}
use Rattle.base.specs.Refusals.{unwritten, written}
use Rattle.base.specs.Tables.{rows_bytes}
use Rattle.base.specs.Words.{bytes_of}
use Rattle.base.specs.declared.Refusal.{Refusal}
use Rattle.base.specs.declared.Refusal.TheVariants.{TableTooShort}
use Rattle.analysis.specs.declared.types.Finding.{Finding}
use Rattle.formatter.specs.Findings.{listed}
use Rattle.formatter.specs.Intake.{intake_refusal}
use Rattle.formatter.specs.List.{row_bytes, row_numbers}
use Rattle.findings_near.specs.Around.{inside_of, list_around, refuses, sharing_of}
use Rattle.findings_near.specs.Nearest.{distance, give_nearest, nearest, nearest_bytes, nearest_numbers}

-- Text order: each finding has a byte, and it ends before every later finding starts, or at the same offset.
pub data InTextOrder : List Finding → Type 0 where
  no_more : InTextOrder []
  and_then : {f : Finding} {l : List Finding} → f.start < f.end → ((g : Finding) → Memᴰ g l → f.end ≤ g.start) → InTextOrder l
      → InTextOrder (f ∷ l)

-- ---- a stretch, byte by byte

-- The byte at offset k is one of the finding's bytes.
pub record ByteOf (f : Finding) (k : ℕ) : Type 0 where
  pub low : f.start ≤ k
  pub high : k < f.end

-- The byte at offset k is in the stretch. There are no bytes past the text.
pub record Marked (text : List ℕ) (from to k : ℕ) : Type 0 where
  pub low : from ≤ k
  pub high : k < to
  pub there : k < length text

-- "wholly inside": every byte of the finding is in the stretch.
abbrev pub Inside : List ℕ → ℕ → ℕ → Finding → Type 0
Inside text from to f = (k : ℕ) → ByteOf f k → Marked text from to k

-- No byte of the finding is in the stretch.
abbrev pub Apart : List ℕ → ℕ → ℕ → Finding → Type 0
Apart text from to f = (k : ℕ) → ByteOf f k → Marked text from to k → ⊥

-- "only share a byte": one byte of the finding is in the stretch, and one is not.
pub record Shares (text : List ℕ) (from to : ℕ) (f : Finding) : Type 0 where
  pub shared : ℕ
  pub shared_of : ByteOf f shared
  pub marked : Marked text from to shared
  pub other : ℕ
  pub other_of : ByteOf f other
  pub not_marked : Marked text from to other → ⊥

-- The two lists of a stretch: which findings are in each, and that both are in text order. Every finding is in exactly one of them, or has
-- no byte in the stretch. "an empty stretch has neither". At most two findings only share a byte.
pub record StretchClaim (text policy : List ℕ) (from to : ℕ) : Type 0 where
  pub inside : (f : Finding) → Memᴰ f (inside_of text policy from to) ↔ (Memᴰ f (listed text policy) × Inside text from to f)
  pub sharing : (f : Finding) → Memᴰ f (sharing_of text policy from to) ↔ (Memᴰ f (listed text policy) × Shares text from to f)
  pub each : (f : Finding) → Memᴰ f (listed text policy)
      → Memᴰ f (inside_of text policy from to) ⊎ (Memᴰ f (sharing_of text policy from to) ⊎ Apart text from to f)
  pub not_both : (f : Finding) → Memᴰ f (inside_of text policy from to) → Memᴰ f (sharing_of text policy from to) → ⊥
  pub empty : (to ≤ from) ⊎ (length text ≤ from) → (inside_of text policy from to ≡ []) × (sharing_of text policy from to ≡ [])
  pub inside_ordered : InTextOrder (inside_of text policy from to)
  pub sharing_ordered : InTextOrder (sharing_of text policy from to)
  pub two_share : length (sharing_of text policy from to) ≤ 2

unfoldable pub EveryStretch : Type 0
EveryStretch = (text policy : List ℕ) (from to : ℕ) → StretchClaim text policy from to

-- How many findings lie inside a stretch, and how many only share a byte with it.
abbrev pub inside_number : List ℕ → List ℕ → ℕ → ℕ → ℕ
inside_number text policy from to = length (inside_of text policy from to)

abbrev pub sharing_number : List ℕ → List ℕ → ℕ → ℕ → ℕ
sharing_number text policy from to = length (sharing_of text policy from to)

-- The claim on the call around a stretch. "refusal 7 gives the number wanted by the first that is short, the wholly-inside table before the
-- other"; a refusal leaves both tables as they were. Both values of an answer are below 2^28.
pub record AroundCall (text policy : List ℕ) (from to : ℕ) (inner outer : List ℕ) : Type 0 where
  pub intake : (r : Refusal) → intake_refusal text policy ≡ Some r → list_around text policy from to inner outer ≡ refuses inner outer r
  pub inner_short : intake_refusal text policy ≡ None → length inner / row_bytes < inside_number text policy from to
      → list_around text policy from to inner outer ≡ refuses inner outer (TableTooShort (inside_number text policy from to))
  pub outer_short : intake_refusal text policy ≡ None → inside_number text policy from to ≤ length inner / row_bytes
      → length outer / row_bytes < sharing_number text policy from to
      → list_around text policy from to inner outer ≡ refuses inner outer (TableTooShort (sharing_number text policy from to))
  pub done : intake_refusal text policy ≡ None → inside_number text policy from to ≤ length inner / row_bytes
      → sharing_number text policy from to ≤ length outer / row_bytes
      → list_around text policy from to inner outer ≡ record {
        answer = Ok (record { inside = inside_number text policy from to; sharing = sharing_number text policy from to });
        inner = (written (inside_number text policy from to) (rows_bytes row_numbers (inside_of text policy from to)) inner).buffer;
        outer = (written (sharing_number text policy from to) (rows_bytes row_numbers (sharing_of text policy from to)) outer).buffer;
      }
  pub small : (n k : ℕ) → (list_around text policy from to inner outer).answer ≡ Ok (record { inside = n; sharing = k })
      → (n < 2 ^ 28) × (k < 2 ^ 28)

unfoldable pub EveryAroundCall : Type 0
EveryAroundCall = (text policy : List ℕ) (from to : ℕ) (inner outer : List ℕ) → AroundCall text policy from to inner outer

-- ---- the nearest

-- The distance of an offset before, inside and after a finding that has a byte.
pub record DistanceClaim (o : ℕ) (f : Finding) : Type 0 where
  pub before : o < f.start → distance o f ≡ f.start - o
  pub within : f.start ≤ o → o < f.end → distance o f ≡ 0
  pub after : f.end ≤ o → distance o f ≡ o - (f.end - 1)

unfoldable pub EveryDistance : Type 0
EveryDistance = (o : ℕ) (f : Finding) → f.start < f.end → DistanceClaim o f

-- "the nearest finding .. and the earlier finding when two are equally near": it has the least distance of all findings, and is the first
-- of those.
pub record IsNearest (text policy : List ℕ) (o : ℕ) (f : Finding) : Type 0 where
  pub a_finding : Memᴰ f (listed text policy)
  pub least : (g : Finding) → Memᴰ g (listed text policy) → distance o f ≤ distance o g
  pub earliest : (g : Finding) → Memᴰ g (listed text policy) → distance o g ≡ distance o f → f.start ≤ g.start

-- "A text with no finding answers none", and no other text does. The answer is f exactly if f is the nearest finding.
unfoldable pub EveryNearest : Type 0
EveryNearest =
    (text policy : List ℕ) (o : ℕ)
    → ((nearest o (listed text policy) ≡ None) ↔ (listed text policy ≡ []))
    × ((f : Finding) → (nearest o (listed text policy) ≡ Some f) ↔ IsNearest text policy o f)

-- The claim on the call: the tests of the text and the policy come first; a text without a finding needs no row; else the row has the
-- finding's row and the distance, or is too short.
pub record NearestCall (text policy : List ℕ) (o : ℕ) (row : List ℕ) : Type 0 where
  pub intake : (r : Refusal) → intake_refusal text policy ≡ Some r → give_nearest text policy o row ≡ unwritten (Err r) row
  pub no_finding_lem : intake_refusal text policy ≡ None → listed text policy ≡ []
      → give_nearest text policy o row ≡ unwritten (Ok None) row
  pub short : (f : Finding) → intake_refusal text policy ≡ None → IsNearest text policy o f → length row < nearest_bytes
      → give_nearest text policy o row ≡ unwritten (Err (TableTooShort 1)) row
  pub done : (f : Finding) → intake_refusal text policy ≡ None → IsNearest text policy o f → nearest_bytes ≤ length row
      → give_nearest text policy o row ≡ written (Ok (Some 1)) (bytes_of (nearest_numbers o f)) row

unfoldable pub EveryNearestCall : Type 0
EveryNearestCall = (text policy : List ℕ) (o : ℕ) (row : List ℕ) → NearestCall text policy o row
