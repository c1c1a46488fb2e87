-- `mending::mend` meets its contract: the refusals come in their order, and then the finding at the offset is mended.
use Rattle.std.specs.Prelude.{Err}
use borrow.Author.Rules.{rules}
use mathlib.Core.Path.{◌≡◌, ap, sym, ◌∙◌}
use mathlib.Core.List.{List}
use Prim.Native.Nat.{ℕ, ◌+◌, ◌-◌}
use native.Mathlib.Omega.{arith}
use lib.ListN.{drop, length, take}
use Rattle.base.proofs.Answering.{ends_as}
use Rattle.utf8.specs.Rfc3629.{valid_up_to_of}
use Rattle.utf8.proofs.Texts.{valid_up_to_le}
use Rattle.formatter.specs.Theorems.{IntakeComesFirst}
use Rattle.mending.proofs.Exchanging.{mend-nothing}
use Rattle.formatter.proofs.Outcomes.{all_well_formed, comes_first, not_well_formed}
use Rattle.formatter.proofs.Passing.{first-passed, first-refused, rest_valid}
use Rattle.mending.proofs.mend.Goals as goal

-- The well-formed bytes from the place where the search ended on, and those before it.
whole_valid : (t : List ℕ) (end : ℕ) {n : ℕ} → n ≡ valid_up_to_of (take (length t - end) (drop end t))
    → end + valid_up_to_of (drop end t) ≡ valid_up_to_of t → end + n ≡ valid_up_to_of t
whole_valid t end e f = ap (λ (k : ℕ). end + k) (rest_valid t end e) ∙ f

pub returns-in_err-first_tests : goal.returns-in_err-first_tests
unfolding IntakeComesFirst
returns-in_err-first_tests c =
    let x = c.args in
    let f = c.in_err-first_tests in
    let r : c.from_residual.result ≡ Err f.field-0.0 = search rules in
    let refused = first-refused x.text.now x.policy.now c.first_tests.ensures f.field-0.0 f.was in
    rw r (ends_as (sym ((comes_first x.text.now x.policy.now f.field-0.0 refused).3 x.offset x.decisions.now
    x.out.now)))

pub slice_bounds-valid_up_to-count : goal.slice_bounds-valid_up_to-count
slice_bounds-valid_up_to-count c = c.finding_starting-end.ensures.valid.0

pub slice_bounds-valid_up_to-start : goal.slice_bounds-valid_up_to-start
slice_bounds-valid_up_to-start c = c.finding_starting-end.ensures.valid.0

pub overflow_add-valid_up_to : goal.overflow_add-valid_up_to
overflow_add-valid_up_to c =
    let x = c.args in
    let t = x.text.now in
    let p = x.policy.now in
    let f = first-passed t p c.first_tests.ensures c.in_ok-first_tests.was in
    let s = c.finding_starting-end in
    omega (arith, s.ensures.valid, rest_valid t s.result.end c.valid_up_to.ensures, valid_up_to_le t, f.0)

pub returns-then-valid_up_to-text : goal.returns-then-valid_up_to-text
unfolding IntakeComesFirst
returns-then-valid_up_to-text c =
    let x = c.args in
    let t = x.text.now in
    let p = x.policy.now in
    let f = first-passed t p c.first_tests.ensures c.in_ok-first_tests.was in
    let s = c.finding_starting-end in
    let v = whole_valid t s.result.end c.valid_up_to.ensures s.ensures.valid.1 in
    ends_as (sym ((comes_first t p _ (not_well_formed t p f.0 f.1 v c.if-valid_up_to-text.true)).3 x.offset x.decisions.now x.out.now))

pub returns-then-not-present : goal.returns-then-not-present
returns-then-not-present c =
    let x = c.args in
    let t = x.text.now in
    let p = x.policy.now in
    let f = first-passed t p c.first_tests.ensures c.in_ok-first_tests.was in
    let s = c.finding_starting-end in
    let v = whole_valid t s.result.end c.valid_up_to.ensures s.ensures.valid.1 in
    let a = all_well_formed t p f.0 f.1 v c.if-valid_up_to-text.false in
    ends_as (mend-nothing p t a x.offset x.decisions.now (s.ensures.starts.1 c.if-not-present.true)
    x.out.now)

pub mend_finding-requires : goal.mend_finding-requires
mend_finding-requires c =
    let x = c.args in
    let t = x.text.now in
    let p = x.policy.now in
    let f = first-passed t p c.first_tests.ensures c.in_ok-first_tests.was in
    let s = c.finding_starting-end in
    let v = whole_valid t s.result.end c.valid_up_to.ensures s.ensures.valid.1 in (
      all_well_formed t p f.0 f.1 v c.if-valid_up_to-text.false,
      s.ensures.starts.0 c.if-not-present.false,
    )

pub returns : goal.returns
returns c = ends_as c.mend_finding.ensures
