-- The findings of a text under a policy, in text order, each with its start in bytes; the finding that starts at an offset; and the
-- totals of items (document 01, "Counts and finding", "Replacement and text").
use Rattle.std.specs.Prelude.{cond, List, [], ◌∷◌, ℕ, eqb, drop, Some, None, Option}
use Rattle.utf8.specs.Rfc3629.{chars}
use Rattle.policy.specs.declared.Policy.{Policy}
use Rattle.scanner.specs.Items.{Item, items}
use Rattle.scanner.specs.Spans.{Found, found, width}
use Rattle.analysis.specs.Analysis.{is_finding, non_canonicality}
use Rattle.analysis.specs.Counts.{◌⊕◌, empty}
use Rattle.analysis.specs.declared.types.NonCanonicality.{NonCanonicality}

-- "A finding exists if some count is not 0": the items of a text, from a byte offset on, that are findings.
abbrev pub findings_from : Policy → List ℕ → ℕ → List Found
findings_from p text at = found (is_finding p) width at (items (chars (drop at text)))

-- "Mending takes a finding's first offset": the finding that starts at this offset, if there is one.
unfoldable pub finding_at : ℕ → List Found → Option Item
finding_at offset [] = None
finding_at offset (f ∷ fs) = cond (eqb f.start offset) (Some f.item) (finding_at offset fs)

-- "A total is the sum of one count over the findings": all eight totals, summed over items.
unfoldable pub totals : Policy → List Item → NonCanonicality
totals p [] = empty
totals p (x ∷ xs) = non_canonicality p x ⊕ totals p xs
