-- The item of a text at a byte offset under a policy: its analysis, and the calls that write the replacement of the finding that
-- starts at the offset (document 01, "Counts and finding": `analyze_scan_item`; "Replacement and text":
-- `canonical_replacement_with_decisions`).
use Rattle.std.specs.Prelude.{cond, List, [], ◌∷◌, map, ℕ, ◌+◌, drop, Err, Some, None, Result, Option}
use Rattle.base.specs.Refusals.{After, unwritten, or_else}
use Rattle.base.specs.declared.Refusal.{Refusal}
use Rattle.base.specs.declared.Refusal.TheVariants.{NoFinding}
use Rattle.utf8.specs.Rfc3629.{chars, encode_all}
use Rattle.emoji.specs.declared.presentation.Presentation.{Presentation}
use Rattle.policy.specs.declared.Policy.{Policy}
use Rattle.scanner.specs.Items.{Item, items}
use Rattle.positions.specs.declared.TextCount.{TextCount}
use Rattle.scanner.specs.Spans.{count_after, size, width}
use Rattle.scanner.specs.TextCheck.{text_refusal}
use Rattle.analysis.specs.Analysis.{is_finding, non_canonicality, replacement}
use Rattle.analysis.specs.Decisions.{judge, meaning, write_out}
use Rattle.analysis.specs.Findings.{finding_at, findings_from}
use Rattle.analysis.specs.declared.ItemAnalysis.{ItemAnalysis}
use Rattle.analysis.specs.declared.ItemAnalysis.TheVariants.{Canonical, End, NonCanonical}
use Rattle.analysis.specs.declared.types.Finding.{Finding}

module _ (p : Policy) where
  -- An item that starts at a byte offset, as a finding: its bytes, its counts, and its characters and UTF-16 units, counted on from those
  -- before the offset.
  abbrev pub finding_of : ℕ → TextCount → Item → Finding
  finding_of at before x = record {
    start = at;
    end = at + size width x.chars;
    counts = non_canonicality p x;
    char_start = before.chars;
    char_end = (count_after before x).chars;
    unit_start = before.units;
    unit_end = (count_after before x).units;
  }

  -- An item that is not a finding, by its end.
  abbrev pub canonical_of : ℕ → TextCount → Item → ItemAnalysis
  canonical_of at before x = Canonical (at + size width x.chars) (count_after before x).chars (count_after before x).units

  -- The analysis of the first item of a list, which starts at the offset: canonical, or a finding; or the end if the list is empty.
  unfoldable pub analysis_of : ℕ → TextCount → List Item → ItemAnalysis
  analysis_of at before [] = End
  analysis_of at before (x ∷ xs) = cond (is_finding p x) (NonCanonical (finding_of at before x)) (canonical_of at before x)

  -- The analysis of the item of a text at a byte offset. The count says how many characters and UTF-16 units are before the offset. The
  -- text ends at the first offset, from there on, where no well-formed character begins.
  unfoldable pub analysis_at : List ℕ → ℕ → TextCount → ItemAnalysis
  analysis_at text at before = analysis_of at before (items (chars (drop at text)))

  -- "no finding starts at the offset": the finding that starts at an offset, among the items of the text scanned from its
  -- beginning, if there is one.
  abbrev pub finding_starting : List ℕ → ℕ → Option Item
  finding_starting text offset = finding_at offset (findings_from p text 0)

  -- The bytes of a finding's replacement under decisions.
  unfoldable pub replacement_bytes : Option Item → List Presentation → List ℕ
  replacement_bytes None ds = []
  replacement_bytes (Some x) ds = encode_all (replacement p x ds)

  -- The call that writes the replacement of the finding that starts at an offset, under decisions: refusals 1, 3, 4, 5, 6 and 8, in
  -- this order.
  unfoldable pub replace_at : List ℕ → ℕ → List ℕ → List ℕ → After (Result ℕ Refusal) ℕ
  replace_at text offset decisions out =
      let x = finding_starting text offset in
      or_else (text_refusal text) (λ (r : Refusal). unwritten (Err r) out)
      (judge p x decisions (replacement_bytes x (map meaning decisions)) out)

  -- The call that writes the replacement of a finding with every decision at its default; refusal 4 if there is no finding.
  unfoldable pub write_found : Option Item → List ℕ → After (Result ℕ Refusal) ℕ
  write_found None out = unwritten (Err NoFinding) out
  write_found (Some x) out = write_out (encode_all (replacement p x [])) out

  -- The call that writes the replacement of the finding that starts at an offset, with every decision at its default: refusals 1,
  -- 3, 4 and 8, in this order.
  unfoldable pub replace_by_default : List ℕ → ℕ → List ℕ → After (Result ℕ Refusal) ℕ
  replace_by_default text offset out =
      or_else (text_refusal text) (λ (r : Refusal). unwritten (Err r) out) (write_found (finding_starting text offset) out)
