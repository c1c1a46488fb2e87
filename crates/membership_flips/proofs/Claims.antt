-- The proofs of what specs/Theorems.antt claims.
use mathlib.Core.Path.{◌≡◌, ap, sym, ◌∙◌}
use mathlib.Core.Bool.{true, false≢true, not}
use mathlib.Core.List.{List}
use Prim.Native.Nat.{ℕ}
use Rattle.base.proofs.Lists.{in-passed, passed_in}
use Rattle.base.proofs.Tests.{fails}
use Rattle.policy.specs.PolicyBytes.{policy_of}
use Rattle.policy.proofs.RoundTrips.{six_words_of}
use Rattle.formatter.specs.Format.{formatted, same_bytes}
use Rattle.formatter.proofs.Formatting.{same_self, same_true}
use Rattle.membership_flips.specs.Flips.{Membership, flipped, memberships, tipping, tips}
use Rattle.membership_flips.specs.Theorems.{EveryTip, FlippedIsPolicy, FlipsOne, TipExamples, TipsByUse}
use Rattle.membership_flips.proofs.Bridge.{flipped-accepted, flipped-read, tips-by_use}
use Rattle.membership_flips.proofs.Examples.{tip_examples}
use Rattle.membership_flips.proofs.Flipping.{flips_one}
use Rattle.membership_flips.proofs.Order.{every_membership, memberships-ordered, no_other_membership}
use Rattle.membership_flips.proofs.Order.{filtered_ordered}

pub flips_one_only : FlipsOne
unfolding FlipsOne
flips_one_only policy m n b = flips_one (policy_of policy) (six_words_of policy) m n b

pub flipped_is_policy : FlippedIsPolicy
unfolding FlippedIsPolicy
flipped_is_policy policy m b a e = (flipped-accepted policy m b a e, flipped-read policy m e)

tips_where : (text policy : List ℕ) (m : Membership) → (formatted text (flipped m policy) ≡ formatted text policy → ⊥) → tips text policy m
    ≡ true
unfolding tips
tips_where text policy m n = ap not (fails (same_bytes (formatted text (flipped m policy)) (formatted text policy))
    (λ e. n (same_true (formatted text (flipped m policy)) (formatted text policy) e)))

where_tips : (text policy : List ℕ) (m : Membership) → tips text policy m ≡ true → formatted text (flipped m policy) ≡ formatted text policy
    → ⊥
unfolding tips
where_tips text policy m t e =
    false≢true (sym (ap not (ap (λ (l : List ℕ). same_bytes l (formatted text policy)) e ∙ same_self (formatted text policy))) ∙ t)

pub every_tip : EveryTip
unfolding EveryTip tipping
every_tip text policy = record {
  each_appears = λ m a. passed_in (tips text policy) m memberships (every_membership m a.entry)
      (tips_where text policy m a.alters);
  no_other = λ m x.
      let w = in-passed (tips text policy) m memberships x in
      record { entry = no_other_membership m w.1; alters = where_tips text policy m w.0 };
  in_order = filtered_ordered (tips text policy) memberships-ordered;
}

pub tips_by_uses : TipsByUse
unfolding TipsByUse
tips_by_uses text policy m b e = tips-by_use text policy m b e

pub examples : TipExamples
examples = tip_examples
