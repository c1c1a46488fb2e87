-- The intake by the answers of its tests, what its answer says of a text, and the policy that is read.
use Rattle.std.specs.Prelude.{Ok, Err, Result, Option, ⊤, Some, None}
use mathlib.Core.Path.{◌≡◌, refl, ap, ap₂, sym, ◌∙◌}
use mathlib.Core.Bool.{Bool, true, false, cond, not}
use mathlib.Core.List.{List}
use Prim.Native.Nat.{ℕ, ◌-◌, ◌<◌, ◌≤◌}
use native.Mathlib.Omega.{arith}
use lib.Dec.{eqb, leb}
use lib.ListN.{drop, length, length-drop, take}
use lib.Seq.{take_all}
use borrow.Author.Tests.{eqb-true, le-leb, leb-true, lt-leb}
use Rattle.base.specs.Answers.{Answers, check_row}
use Rattle.base.specs.Refusals.{checked, or_else, text_limit}
use Rattle.base.specs.declared.Refusal.{Refusal}
use Rattle.base.specs.declared.Refusal.TheVariants.{NotWellFormed, TextTooLong}
use Rattle.utf8.specs.Rfc3629.{valid_up_to_of}
use Rattle.utf8.proofs.Grammar.{whole_well_formed}
use Rattle.policy.specs.PolicyBytes.{is_policy, policy_fault, policy_of, policy_refusal, read_policy}
use Rattle.policy.specs.declared.ReadPolicy.{ReadPolicy}
use Rattle.policy.proofs.Refusals.{policy-refused, refused-policy}
use Rattle.scanner.proofs.TextTests.{by_text_tests}
use Rattle.formatter.specs.Demand3.{Accepted}
use Rattle.formatter.specs.Intake.{first_tests, intake_refusal}

-- ---- the tests

-- The refusal of the first two tests, by their answers and the refusal of the policy.
abbrev pub by_first : Bool → Bool → Refusal → Option Refusal
by_first short fit fault = cond (not short) (Some TextTooLong) (cond fit None (Some fault))

-- The refusal of the intake, by that of the first two tests and the answer of the third.
abbrev pub by_third : Option Refusal → Bool → List ℕ → Option Refusal
by_third first formed text = or_else first Some (cond (not formed) (Some (NotWellFormed (valid_up_to_of text))) None)

abbrev pub by_tests_lem : Bool → Bool → Bool → Refusal → List ℕ → Option Refusal
by_tests_lem short fit formed fault text = by_third (by_first short fit fault) formed text

pub first_is : (text policy : List ℕ) {a b : Bool} → leb (length text) text_limit ≡ a → is_policy policy ≡ b
    → first_tests text policy ≡ by_first a b (policy_fault policy)
unfolding first_tests policy_refusal
first_is text policy p q = ap₂ (λ (a b : Bool). by_first a b (policy_fault policy)) p q

pub intake_is : (text policy : List ℕ) {a b f : Bool} → leb (length text) text_limit ≡ a → is_policy policy ≡ b
    → eqb (valid_up_to_of text) (length text) ≡ f
    → intake_refusal text policy ≡ by_tests_lem a b f (policy_fault policy) text
unfolding intake_refusal
intake_is text policy p q r = ap₂ (λ (o : Option Refusal) (t : Bool). by_third o t text) (first_is text policy p q) r

-- Where the second test passes, the refusal is that of the text alone.
pub with_policy : (a f : Bool) (fault : Refusal) (text : List ℕ) → by_tests_lem a true f fault text ≡ by_text_tests a f text
with_policy true f fault text = refl
with_policy false f fault text = refl

pub too_long : (text policy : List ℕ) → text_limit < length text → intake_refusal text policy ≡ Some TextTooLong
too_long text policy h = intake_is text policy (lt-leb (length text) text_limit h) refl refl

pub no_policy : (text policy : List ℕ) → length text ≤ text_limit → is_policy policy ≡ false
    → intake_refusal text policy ≡ Some (policy_fault policy)
no_policy text policy h p = intake_is text policy (le-leb (length text) text_limit h) p refl

-- If the text is within the limit, a refusal of the policy is the refusal of the intake.
pub policy-first : (text policy : List ℕ) (r : Refusal) → length text ≤ text_limit → policy_refusal policy ≡ Some r
    → intake_refusal text policy ≡ Some r
policy-first text policy r h e =
    let p = refused-policy policy r e in
    no_policy text policy h p ∙ sym (policy-refused policy p) ∙ e

-- ---- the answer

pub checked_refused : (o : Option Refusal) (r : Refusal) → checked o ≡ Err r → o ≡ Some r
checked_refused None r e = cc
checked_refused (Some s) r e = let z : s ≡ r = cc in ap Some z

pub checked-passed : (o : Option Refusal) → checked o ≡ Ok tt → o ≡ None
checked-passed None e = refl
checked-passed (Some r) e = cc

some-none : (r : Refusal) → ◌≡◌ {A = Option Refusal} (Some r) None → ⊥
some-none r e = let z : ◌≡◌ {A = ℕ} 0 1 = cc in omega arith

-- ---- the first two tests

-- What `first_tests` answers of a text and a policy: a refusal of the intake, or that both tests pass.
module _ (text policy : List ℕ) {r : Result ⊤ Refusal} (e : Answers check_row (checked (first_tests text policy)) r) where
  pub first-refused : (f : Refusal) → r ≡ Err f → intake_refusal text policy ≡ Some f
  unfolding intake_refusal
  first-refused f g =
      ap (λ (o : Option Refusal). by_third o (eqb (valid_up_to_of text) (length text)) text)
      (checked_refused (first_tests text policy) f (sym e.same ∙ g))

  none_first : r ≡ Ok tt → first_tests text policy ≡ None
  none_first g = checked-passed (first_tests text policy) (sym e.same ∙ g)

  pub first-passed : r ≡ Ok tt → (length text ≤ text_limit) × (is_policy policy ≡ true)
  first-passed g = go (leb (length text) text_limit) (is_policy policy) refl refl
    where
      go : (a b : Bool) → leb (length text) text_limit ≡ a → is_policy policy ≡ b → (length text ≤ text_limit) × (is_policy policy ≡ true)
      go true true p q = (leb-true _ _ p, q)
      go true false p q = absurd (some-none (policy_fault policy) (sym (first_is text policy p q) ∙ none_first g))
      go false b p q = absurd (some-none TextTooLong (sym (first_is text policy p q) ∙ none_first g))

-- ---- the well-formed bytes

-- The well-formed beginning of the text from an offset on, which the code takes as a part of the text.
pub rest_valid : (text : List ℕ) (at : ℕ) {n : ℕ} → n ≡ valid_up_to_of (take (length text - at) (drop at text))
    → n ≡ valid_up_to_of (drop at text)
rest_valid text at e = e ∙ ap valid_up_to_of (take_all (length text - at) (drop at text) (omega (arith, length-drop at text)))

-- ---- an accepted text

-- A text that passes the intake is accepted.
pub passed-accepted : (text policy : List ℕ) → intake_refusal text policy ≡ None → Accepted policy text
passed-accepted text policy e = go (leb (length text) text_limit) (is_policy policy) (eqb (valid_up_to_of text) (length text)) refl refl
    refl
  where
    go : (a b f : Bool) → leb (length text) text_limit ≡ a → is_policy policy ≡ b → eqb (valid_up_to_of text) (length text) ≡ f
        → Accepted policy text
    go true true true p q r = record { short = leb-true _ _ p; is_policy_lem = q; well_formed = whole_well_formed text (eqb-true _ _ r) }
    go true true false p q r = absurd (some-none (NotWellFormed (valid_up_to_of text)) (sym (intake_is text policy p q r) ∙ e))
    go true false f p q r = absurd (some-none (policy_fault policy) (sym (intake_is text policy p q r) ∙ e))
    go false b f p q r = absurd (some-none TextTooLong (sym (intake_is text policy p q r) ∙ e))

-- ---- the policy that was read

module _ (bs : List ℕ) {r : ReadPolicy} (e : r ≡ read_policy bs) where
  pub read-policy : r.policy ≡ policy_of bs
  unfolding read_policy
  read-policy = ap (λ (x : ReadPolicy). x.policy) e
