-- The bytes of a run from an offset on, character by character: the laws that a loop over a run uses.
use mathlib.Core.Path.{◌≡◌, ap, ◌∙◌}
use mathlib.Core.Bool.{Bool, true, false}
use mathlib.Core.List.{List}
use Prim.Native.Nat.{ℕ, ◌+◌}
use native.Mathlib.Omega.{arith}
use lib.ListN.{drop}
use Rattle.utf8.specs.Rfc3629.{chars}
use Rattle.scanner.specs.Classes.{Class}
use Rattle.scanner.specs.Runs.{run}
use Rattle.scanner.specs.Spans.{size, width}
use Rattle.scanner.proofs.Peek.{Seen, Unseen}
use Rattle.scanner.proofs.Runs.{run_false, run_true}

module _ (f : ℕ → Bool) where
  -- Where no character begins, the run is empty.
  pub run_none : {text : List ℕ} {at : ℕ} → Unseen text at → size width (run f (chars (drop at text))) ≡ 0
  unfolding run
  run_none h = ap (λ (l : List ℕ). size width (run f l)) h.chars_none

  module _ {text : List ℕ} {at v : ℕ} {k : Class} {next : ℕ} (h : Seen text at v k next) where
    -- A character that passes the test adds its bytes to the run.
    pub run_on : f v ≡ true → at + size width (run f (chars (drop at text))) ≡ next + size width (run f (chars (drop next text)))
    run_on e = omega (arith, h.after, ap (size width) (ap (run f) h.chars_on ∙ run_true f v (chars (drop next text)) e))

    -- At a character that fails the test, the run is empty.
    pub run_over : f v ≡ false → size width (run f (chars (drop at text))) ≡ 0
    run_over e = ap (size width) (ap (run f) h.chars_on ∙ run_false f v (chars (drop next text)) e)
