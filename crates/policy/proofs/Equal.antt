-- Equality of policies, and of rules.
use mathlib.Core.Path.{◌≡◌, refl, sym, ap, ◌∙◌, subst}
use mathlib.Core.Logic.{⊎_elim}
use mathlib.Core.Bool.{Bool, true, false, not, ◌||◌}
use mathlib.Core.List.{List}
use Prim.Native.Nat.{ℕ, zero, suc, ◌*◌, ◌≤◌, ◌<◌}
use native.Mathlib.Omega.{arith}
use lib.Dec.{ltb}
use borrow.Author.Tests.{eq-eqb, eqb-true, not-true}
use Rattle.base.proofs.Tests.{and_both, both_true, le_or_lt}
use Rattle.policy_key_set.specs.Sets.{entry_count, member, same_entries, word_count}
use Rattle.policy_key_set.specs.Theorems.{SameEntriesMeans}
use Rattle.policy_key_set.proofs.Below.{all_below_lem}
use Rattle.policy_key_set.proofs.Claims.{same_entries_means}
use Rattle.policy_key_set.proofs.Members.{member-past, members_determine}
use Rattle.policy.specs.Policy.{rule_number, same_policy, same_rule}
use Rattle.policy.specs.PolicyBytes.{PolicyValue, SetValue, no_unused_bit, no_unused_bits}
use Rattle.policy.specs.declared.Policy.{Policy}
use Rattle.policy.specs.declared.SingletonRule.{SingletonRule}
use Rattle.policy.specs.declared.SingletonRule.TheVariants.{BareToEmoji, BareToText, EmojiToBare, TextToBare}
use Rattle.policy.proofs.RoundTrips.{same-policy}
use Rattle.policy.proofs.Unused.{unused}

-- ---- sets

-- After the entries, a set without unused bits has no member.
none-past : {ws : List ℕ} → SetValue ws → no_unused_bit ws ≡ true → (i : ℕ) → entry_count ≤ i → member i ws ≡ false
unfolding no_unused_bit
none-past {ws} v e i h = ⊎_elim past inside (le_or_lt (word_count * 64) i)
  where
    past : word_count * 64 ≤ i → member i ws ≡ false
    past l = member-past ws i (omega (arith, v.has_word_count))

    test : ℕ → Bool
    test k = ltb k entry_count || not (member k ws)

    inside : i < word_count * 64 → member i ws ≡ false
    inside l = not-true (member i ws) (sym (unused entry_count i (member i ws) h) ∙ all_below_lem (word_count * 64) test e i l)

same_set : {ws vs : List ℕ} → SetValue ws → SetValue vs → no_unused_bit ws ≡ true → no_unused_bit vs ≡ true → same_entries ws vs ≡ true
    → ws ≡ vs
unfolding SameEntriesMeans
same_set {ws} {vs} v w e f t =
    members_determine ws vs (v.has_word_count ∙ sym w.has_word_count) v.words w.words
    (λ i. ⊎_elim (λ h. none-past v e i h ∙ sym (none-past w f i h)) (λ h. (same_entries_means ws vs).0 t i h) (le_or_lt entry_count i))

self_set : (ws : List ℕ) → same_entries ws ws ≡ true
unfolding SameEntriesMeans
self_set ws = (same_entries_means ws ws).1 (λ i h. refl)

-- ---- policies

pub same-policy-equal : (p q : Policy) → PolicyValue p → PolicyValue q → no_unused_bits p ≡ true → no_unused_bits q ≡ true
    → same_policy p q ≡ true → p ≡ q
unfolding no_unused_bits
same-policy-equal p q v w e f t =
    let sets = both_true _ _ t in
    let prefer = both_true _ _ sets.0 in
    let bare = both_true _ _ sets.1 in
    let clean = both_true _ _ e in
    let also = both_true _ _ f in
    let clean-prefer = both_true _ _ clean.0 in
    let clean-bare = both_true _ _ clean.1 in
    let also-prefer = both_true _ _ also.0 in
    let also-bare = both_true _ _ also.1 in
    same-policy p q
    (same_set v.prefer_bare_set w.prefer_bare_set clean-prefer.0 also-prefer.0 prefer.0)
    (same_set v.prefer_bare_keycap_set w.prefer_bare_keycap_set clean-prefer.1 also-prefer.1 prefer.1)
    (same_set v.bare_as_text_set w.bare_as_text_set clean-bare.0 also-bare.0 bare.0)
    (same_set v.bare_as_text_keycap_set w.bare_as_text_keycap_set clean-bare.1 also-bare.1 bare.1)

self_policy : (p : Policy) → same_policy p p ≡ true
self_policy p =
    and_both _ _ (and_both _ _ (self_set p.prefer_bare.chars.bits) (self_set p.prefer_bare.keycap_chars.bits))
    (and_both _ _ (self_set p.bare_as_text.chars.bits) (self_set p.bare_as_text.keycap_chars.bits))

pub equal-policy-same : (p q : Policy) → p ≡ q → same_policy p q ≡ true
equal-policy-same p q e = subst (λ (r : Policy). same_policy p r ≡ true) e (self_policy p)

-- ---- rules

numbered : ℕ → SingletonRule
numbered zero = BareToEmoji
numbered (suc zero) = BareToText
numbered (suc (suc zero)) = TextToBare
numbered (suc (suc (suc n))) = EmojiToBare

number-back : (a : SingletonRule) → numbered (rule_number a) ≡ a
unfolding numbered
number-back BareToEmoji = refl
number-back BareToText = refl
number-back TextToBare = refl
number-back EmojiToBare = refl

pub same_rule-equal : (a b : SingletonRule) → same_rule a b ≡ true → a ≡ b
same_rule-equal a b t = sym (number-back a) ∙ ap numbered (eqb-true (rule_number a) (rule_number b) t) ∙ number-back b

pub equal_rule_same : (a b : SingletonRule) → a ≡ b → same_rule a b ≡ true
equal_rule_same a b e = eq-eqb (rule_number a) (rule_number b) (ap rule_number e)
