-- The rows of findings start and end at character boundaries (document 02, v).
use mathlib.Core.Path.{◌≡◌, refl, sym}
use mathlib.Core.Bool.{Bool, true, false, cond}
use mathlib.Core.List.{List, [], ◌∷◌, map}
use Prim.Native.Nat.{ℕ, ◌+◌}
use lib.ListN.{drop}
use Rattle.utf8.specs.Rfc3629.{chars}
use Rattle.policy.specs.declared.Policy.{Policy}
use Rattle.policy.specs.PolicyBytes.{policy_of}
use Rattle.positions.specs.Positions.{Boundary}
use Rattle.positions.proofs.Counting.{start_boundary}
use Rattle.scanner.specs.Items.{Item, items, join}
use Rattle.scanner.specs.Spans.{Found, found, size, width}
use Rattle.scanner.proofs.Bytes.{chars-from}
use Rattle.scanner.proofs.Positions.{boundary_on}
use Rattle.scanner.proofs.Tiling.{tiling}
use Rattle.analysis.specs.Analysis.{is_finding}
use Rattle.formatter.specs.Demand3.{Each, and_each, no_more}
use Rattle.formatter.specs.Findings.{finding_row, findings}
use Rattle.formatter.specs.Theorems.{ListedAt}

rows-positioned : (p : Policy) (text : List ℕ) (at : ℕ) (xs : List Item) → Boundary text at → chars (drop at text) ≡ join xs
    → Each (ListedAt text) (map (finding_row p text) (found (is_finding p) width at xs))
unfolding found finding_row
rows-positioned p text at [] b e = no_more
rows-positioned p text at (x ∷ xs) b e = go (is_finding p x) (rows-positioned p text end xs on (chars-from text at x.chars (join xs) e))
  where
    end : ℕ
    end = at + size width x.chars

    on : Boundary text end
    on = boundary_on text at x.chars (join xs) e b

    F : List Found
    F = found (is_finding p) width end xs

    go : (q : Bool) → Each (ListedAt text) (map (finding_row p text) F)
        → Each (ListedAt text) (map (finding_row p text) (cond q (record { start = at; item = x } ∷ F) F))
    go true h = and_each (record { starts = b; ends = on; positions = refl }) h
    go false h = h

pub rows-listed : (text policy : List ℕ) → Each (ListedAt text) (map (finding_row (policy_of policy) text) (findings text policy))
unfolding findings
rows-listed text policy =
    let t = chars (drop 0 text) in
    rows-positioned (policy_of policy) text 0 (items t) (start_boundary text) (sym (tiling t))
