-- The sum of two records of counts as the code holds it is the true sum if their totals add up to at most the largest number.
use mathlib.Core.Path.{◌≡◌}
use Prim.Native.Nat.{◌+◌, ◌≤◌}
use native.Mathlib.Omega.{arith}
use Rattle.base.specs.Sums.{most}
use Rattle.base.proofs.Sums.{capped-held}
use Rattle.analysis.specs.Counts.{◌⊕◌, capped_sum, total}
use Rattle.analysis.specs.declared.types.NonCanonicality.{NonCanonicality}
use Rattle.analysis.proofs.Counts.{counts_path}

pub whole_sum : (m n : NonCanonicality) → total m + total n ≤ most → capped_sum m n ≡ m ⊕ n
unfolding capped_sum
whole_sum m n l =
    counts_path _ _
    (capped-held _ (omega arith))
    (capped-held _ (omega arith))
    (capped-held _ (omega arith))
    (capped-held _ (omega arith))
    (capped-held _ (omega arith))
    (capped-held _ (omega arith))
    (capped-held _ (omega arith))
    (capped-held _ (omega arith))
