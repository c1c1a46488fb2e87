-- The proof of each statement of specs/Theorems.antt.
use mathlib.Core.Path.{ap}
use Rattle.formatter.specs.Findings.{listed}
use Rattle.findings_near.specs.Nearest.{nearest}
use Rattle.findings_near.specs.Theorems.{EveryAroundCall, EveryDistance, EveryNearest, EveryNearestCall, EveryStretch}
use Rattle.findings_near.proofs.Calls.{around_call, nearest-call}
use Rattle.findings_near.proofs.Distances.{best_nearest, distance_is, nearest_best, none-nearest}
use Rattle.findings_near.proofs.Order.{text_ordered}
use Rattle.findings_near.proofs.Stretches.{stretch_claim}

pub every_stretch : EveryStretch
unfolding EveryStretch
every_stretch = stretch_claim

pub every_around_call : EveryAroundCall
unfolding EveryAroundCall
every_around_call = around_call

pub every_distance : EveryDistance
unfolding EveryDistance
every_distance = distance_is

pub every_nearest : EveryNearest
unfolding EveryNearest nearest
every_nearest text policy o = (
  (none-nearest o (listed text policy), λ e. ap (nearest o) e),
  λ f. (
    (λ e.
        let b = nearest_best o (text_ordered text policy) f e in
        record { a_finding = b.among; least = b.least; earliest = b.earliest }),
    (λ n.
        best_nearest o (text_ordered text policy) f (record { among = n.a_finding; least = n.least; earliest = n.earliest })),
  ),
)

pub every_nearest_call : EveryNearestCall
unfolding EveryNearestCall
every_nearest_call = nearest-call
