-- Contracts of helper functions: the next finding of a text from an offset on (document 01, "Counts and finding"). `NextFinding` says
-- which findings are passed, which item is the next finding, and what is counted of it. The findings themselves are those of
-- crates/analysis/specs/Findings.antt.
use Rattle.std.specs.Prelude.{◌≡◌, true, false, not, List, [], ◌∷◌, ℕ, suc, ◌+◌, ◌*◌, ◌-◌, ◌/◌, ◌<◌, ◌≤◌, eqb, drop, length}
use Rattle.utf8.specs.Rfc3629.{chars, packed, read_char}
use Rattle.emoji.specs.Unicode.{variation_sequence_index}
use Rattle.policy.specs.declared.Policy.{Policy}
use Rattle.scanner.specs.Classes.{class_of}
use Rattle.scanner.specs.Items.{Item, items}
use Rattle.scanner.specs.Spans.{Found, size, width}
use Rattle.analysis.specs.Analysis.{is_finding, non_canonicality}
use Rattle.analysis.specs.Cells.{leading}
use Rattle.analysis.specs.Counts.{empty, total}
use Rattle.analysis.specs.Findings.{findings_from}
use Rattle.analysis.specs.Rules.{first_asked, outcome}
use Rattle.analysis.specs.declared.types.NonCanonicality.{NonCanonicality}
use Rattle.text_pass.specs.Changes.{Advances, UnchangedBetween, outcome_from}
use Rattle.text_pass.specs.declared.findings.CellEnd.{CellEnd}
use Rattle.text_pass.specs.declared.findings.FindingSpan.{FindingSpan}

-- `SkipsFindings limit fs n gs`: the first n findings of the list fs start before the limit and do not end after it, and the list gs has
-- the others.
pub data SkipsFindings (limit : ℕ) : List Found → ℕ → List Found → Type 0 where
  none_skipped : {fs : List Found} → SkipsFindings limit fs 0 fs
  one_skipped : {f : Found} {fs gs : List Found} {n : ℕ} → f.start < limit → f.start + size width f.item.chars ≤ limit
      → SkipsFindings limit fs n gs → SkipsFindings limit (f ∷ fs) (suc n) gs

module _ (p : Policy) (text : List ℕ) where
  -- No finding starts between two offsets: the findings from the first on are those from the second on.
  pub record NoFindingBetween (from to : ℕ) : Type 0 where
    pub advances : Advances text from to
    pub same : findings_from p text from ≡ findings_from p text to

  -- Between two offsets start n findings, none of which ends after the limit.
  pub record FindingsBetween (limit from to n : ℕ) : Type 0 where
    pub advances : Advances text from to
    pub few : n ≤ to - from
    pub skips : SkipsFindings limit (findings_from p text from) n (findings_from p text to)

  -- The item that starts at the offset `start` is a finding, and ends at the offset `end`.
  pub record Finds (start end : ℕ) : Type 0 where
    pub item : Item
    pub after : List Item
    pub items_are : items (chars (drop start text)) ≡ item ∷ after
    pub end_is : end ≡ start + size width item.chars
    pub is-finding : is_finding p item ≡ true

  -- The item that starts at the offset `start` is a finding with these counts, and ends at the offset `end`.
  pub record Counted (start end : ℕ) (counts : NonCanonicality) : Type 0 where
    pub finds : Finds start end
    pub counts_are : counts ≡ non_canonicality p finds.item

  -- Plain text between two offsets: formatting keeps its bytes, and no finding starts in it.
  abbrev pub PlainBetween : ℕ → ℕ → Type 0
  PlainBetween from to = UnchangedBetween p text from to × NoFindingBetween from to

  -- The span is that of a finding that ends after the limit, with its counts if it does not start before the limit.
  abbrev pub FindsFrom : ℕ → FindingSpan → Type 0
  FindsFrom limit r = (limit < r.end) × Finds r.start r.end × (limit ≤ r.start → Counted r.start r.end r.counts)

  -- The span is that of the first finding, from the offset `from` on, that ends after the limit. Or no such finding is present up to the
  -- end of the text or the first offset at which no character begins. `passed` is the number of findings before the span.
  abbrev pub NextFinding : ℕ → ℕ → FindingSpan → Type 0
  NextFinding limit from r =
      FindingsBetween limit from r.start r.passed
      × (r.present ≡ true → FindsFrom limit r)
      × (r.present ≡ false → (chars (drop r.start text) ≡ []) × (r.end ≡ r.start) × (r.counts ≡ empty))

  -- The span is that of the first finding, from the offset `from` on, that ends after the limit. Or no such finding starts before a later
  -- offset, which is the span's start. `passed` is the number of findings before the span.
  abbrev pub WalkedFrom : ℕ → ℕ → FindingSpan → Type 0
  WalkedFrom limit from r =
      FindingsBetween limit from r.start r.passed × (r.present ≡ true → FindsFrom limit r) × (r.present ≡ false → from < r.start)

-- What is read of a cell whose selectors begin at an offset: their end, the first of them, whether the rules count something, and the
-- character after them. The rules have the same outcome for that character's class as for the cell that follows.
pub record ReadsCell (p : Policy) (text : List ℕ) (base at : ℕ) (c : CellEnd) : Type 0 where
  pub end_is : c.end ≡ at + 3 * length (leading (chars (drop at text)))
  pub first_is : c.first ≡ first_asked (leading (chars (drop at text)))
  pub outcome_is : outcome p base c.class (leading (chars (drop at text))) ≡ outcome_from p text base at
  pub changes_is : c.changes ≡ not (eqb (total (outcome_from p text base at).counts) 0)
  pub packed_is : c.packed ≡ packed (read_char (drop c.end text))
  pub class_is : c.class ≡ class_of (c.packed / 8)
  pub index_is : c.index ≡ variation_sequence_index (c.packed / 8)
