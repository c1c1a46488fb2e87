-- A flip alters the cells that are written where it matters for what occurs among them, and only there.
use Rattle.std.specs.Prelude.{Some, None, Option}
use mathlib.Core.Path.{◌≡◌, refl, ap, ap₂, sym, ◌∙◌}
use mathlib.Core.Logic.{◌≢◌, ⊎_elim}
use mathlib.Core.Bool.{Bool, true, false, beq, ◌&&◌, ◌||◌, false≢true, not, true≢false}
use mathlib.Core.List.{List, [], ◌∷◌}
use Prim.Native.Nat.{ℕ, ◌<◌}
use lib.Dec.{eqb}
use lib.ListN.{get_or}
use borrow.Author.Tests.{eq-eqb, eqb-true}
use Rattle.base.proofs.Tests.{and_both, beq_so, both_false, both_true, either_true, fails, not_so, so_beq}
use Rattle.emoji.specs.Unicode.{has_variation_sequence, variation_sequence_index}
use Rattle.emoji.specs.UnicodeData.{variation_entries}
use Rattle.emoji.specs.declared.presentation.Presentation.{Presentation}
use Rattle.emoji.specs.declared.presentation.Presentation.TheVariants.{Emoji, Text}
use Rattle.emoji.proofs.Ascent.{is_at}
use Rattle.policy_key_set.specs.Sets.{differ, entry_count}
use Rattle.policy_key_set.proofs.Contains.{has_index}
use Rattle.policy_key_set.proofs.Entries.{index_has_place, place-has_index}
use Rattle.policy.specs.Policy.{entry_rule, holds_entry, rule_of, singleton_rule}
use Rattle.policy.specs.Theorems.{RuleWithoutEntry}
use Rattle.policy.specs.declared.Policy.{Policy}
use Rattle.policy.specs.declared.SingletonRule.{SingletonRule}
use Rattle.policy.proofs.ByEntry.{rule_by_entry}
use Rattle.policy.proofs.Claims.{rule_without_entry}
use Rattle.policy.proofs.RoundTrips.{SixWordSets}
use Rattle.scanner.specs.declared.char_class.Class.{Class}
use Rattle.scanner.specs.declared.char_class.Class.TheVariants.{
  Emoji as emoji,
  Keycap as keycap,
  Link as link,
  Modifier as modifier,
  Other as other,
  Ri as ri,
  Selector as selector,
  Tag as tag,
}
use Rattle.analysis.specs.Analysis.{chosen, following, outcome_at, renew}
use Rattle.analysis.specs.Cells.{Cell}
use Rattle.analysis.specs.Rules.{by_keycap, by_modifier, by_tags, first_asked, is_bare_side, outcome, rule6, without_selector}
use Rattle.analysis.specs.declared.singleton.Outcome.{Outcome}
use Rattle.analysis.specs.declared.singleton.Slot.{Slot}
use Rattle.analysis.specs.declared.singleton.Slot.TheVariants.{Bare as bare, Fixed as fixed, Decided as decided}
use Rattle.analysis.proofs.Replacement.{remaining-none}
use Rattle.analysis.proofs.Rules.{by-policy, has_entry, later_rules, outcome_entry, outcome_no_entry}
use Rattle.membership_flips.specs.Flips.{flip_in}
use Rattle.membership_flips.specs.Uses.{judged_in, matters, occurs, same_first}
use Rattle.membership_flips.proofs.Flipping.{differ_false, prefer_flip, text_flip}

-- ---- first selectors

first_so : (f g : Option Presentation) → same_first f g ≡ true → f ≡ g
first_so None None e = refl
first_so None (Some q) e = absurd (false≢true e)
first_so (Some q) None e = absurd (false≢true e)
first_so (Some Text) (Some Text) e = refl
first_so (Some Text) (Some Emoji) e = absurd (false≢true e)
first_so (Some Emoji) (Some Text) e = absurd (false≢true e)
first_so (Some Emoji) (Some Emoji) e = refl

first_self : (f : Option Presentation) → same_first f f ≡ true
first_self None = refl
first_self (Some Text) = refl
first_self (Some Emoji) = refl

-- What a slot holds, by its first selector.
abbrev in_slot : Slot → Option Presentation
in_slot o = first_asked (chosen o [])

abbrev run : Option Presentation → List Presentation
run None = []
run (Some q) = q ∷ []

slot-run : (o : Slot) → chosen o [] ≡ run (in_slot o)
unfolding first_asked
slot-run bare = refl
slot-run (fixed q) = refl
slot-run (decided d) = refl

-- ---- rule 6 under the two rules

-- The rule with one of the two memberships flipped.
abbrev flip_rule : Bool → Bool → Bool → SingletonRule
flip_rule false b t = rule_of (not b) t
flip_rule true b t = rule_of b (not t)

rule_tip : (a b t : Bool) (s : List Presentation)
    → same_first (in_slot (rule6 (flip_rule a b t) s).slot) (in_slot (rule6 (rule_of b t) s).slot)
    ≡ not (matters a b t (λ (f : Option Presentation). same_first f (first_asked s)))
unfolding matters first_asked rule6 rule_of is_bare_side without_selector
rule_tip false false false [] = refl
rule_tip false false false (Text ∷ s) = refl
rule_tip false false false (Emoji ∷ s) = refl
rule_tip false false true [] = refl
rule_tip false false true (Text ∷ s) = refl
rule_tip false false true (Emoji ∷ s) = refl
rule_tip false true false [] = refl
rule_tip false true false (Text ∷ s) = refl
rule_tip false true false (Emoji ∷ s) = refl
rule_tip false true true [] = refl
rule_tip false true true (Text ∷ s) = refl
rule_tip false true true (Emoji ∷ s) = refl
rule_tip true false false [] = refl
rule_tip true false false (Text ∷ s) = refl
rule_tip true false false (Emoji ∷ s) = refl
rule_tip true false true [] = refl
rule_tip true false true (Text ∷ s) = refl
rule_tip true false true (Emoji ∷ s) = refl
rule_tip true true false [] = refl
rule_tip true true false (Text ∷ s) = refl
rule_tip true true false (Emoji ∷ s) = refl
rule_tip true true true [] = refl
rule_tip true true true (Text ∷ s) = refl
rule_tip true true true (Emoji ∷ s) = refl

-- ---- what occurs, cell by cell

shuffle : (w x y z : Bool) → (w || y) || (x || z) ≡ ((w || x) || (y || z))
shuffle true x y z = refl
shuffle false true true z = refl
shuffle false true false z = refl
shuffle false false y z = refl

matters-step : (a b t g : Bool) (r s : Option Presentation → Bool)
    → matters a b t (λ (f : Option Presentation). g && r f || s f) ≡ (g && matters a b t r || matters a b t s)
unfolding matters
matters-step false b true true r s = shuffle (r None) (r (Some Text)) (s None) (s (Some Text))
matters-step false b false true r s = shuffle (r None) (r (Some Emoji)) (s None) (s (Some Emoji))
matters-step false b true false r s = refl
matters-step false b false false r s = refl
matters-step true false t true r s = refl
matters-step true false t false r s = refl
matters-step true true t true r s = shuffle (r (Some Text)) (r (Some Emoji)) (s (Some Text)) (s (Some Emoji))
matters-step true true t false r s = refl

-- ---- a cell under the two policies

-- If two policies have the same rule for a base before the same class of character, they give the base the same outcome.
outcome-same : (p q : Policy) (c : ℕ) (k : Class) (s : List Presentation)
    → (by_modifier k ≡ false → by_tags k ≡ false → singleton_rule q c (by_keycap k) ≡ singleton_rule p c (by_keycap k))
    → outcome q c k s ≡ outcome p c k s
unfolding by_modifier by_tags by_keycap
outcome-same p q c k s h = go (has_variation_sequence c) refl
  where
    later : (k : Class) → (by_modifier k ≡ false → by_tags k ≡ false → singleton_rule q c (by_keycap k) ≡ singleton_rule p c (by_keycap k))
        → later_rules q c k s ≡ later_rules p c k s
    later selector h = ap (λ (r : SingletonRule). rule6 r s) (h refl refl)
    later link h = ap (λ (r : SingletonRule). rule6 r s) (h refl refl)
    later ri h = ap (λ (r : SingletonRule). rule6 r s) (h refl refl)
    later modifier h = refl
    later emoji h = ap (λ (r : SingletonRule). rule6 r s) (h refl refl)
    later keycap h = ap (λ (r : SingletonRule). rule6 r s) (h refl refl)
    later tag h = refl
    later other h = ap (λ (r : SingletonRule). rule6 r s) (h refl refl)

    go : (b : Bool) → has_variation_sequence c ≡ b → outcome q c k s ≡ outcome p c k s
    go true e = outcome_entry q c k s e ∙ later k h ∙ sym (outcome_entry p c k s e)
    go false e = outcome_no_entry q c k s e ∙ sym (outcome_no_entry p c k s e)

not_modifier : (k : Class) → by_modifier k ≡ false → k ≢ modifier
unfolding by_modifier
not_modifier k e f = true≢false (ap by_modifier (sym f) ∙ e)

not_tag : (k : Class) → by_tags k ≡ false → k ≢ tag
unfolding by_tags
not_tag k e f = true≢false (ap by_tags (sym f) ∙ e)

yes_not : (b : Bool) → b ≡ false → not b ≡ true
yes_not true e = absurd (true≢false e)
yes_not false e = refl

differ_not : (b : Bool) → differ b true ≡ not b
differ_not true = refl
differ_not false = refl

so_not : (b : Bool) → not b ≡ false → b ≡ true
so_not true e = refl
so_not false e = absurd (true≢false e)

not_not : (b : Bool) → not (not b) ≡ b
not_not true = refl
not_not false = refl

and_assoc : (x y z : Bool) → (x && y) && z ≡ x && (y && z)
and_assoc true y z = refl
and_assoc false y z = refl

nothing_seen : (a b t : Bool) → matters a b t (λ (f : Option Presentation). false) ≡ true → ⊥
unfolding matters
nothing_seen false b false e = false≢true e
nothing_seen false b true e = false≢true e
nothing_seen true false t e = false≢true e
nothing_seen true true t e = false≢true e

flipped_rule : (a b t x y : Bool) (e : Bool) → e ≡ true → x ≡ differ b (e && beq a false) → y ≡ differ t (e && beq a true)
    → rule_of x y ≡ flip_rule a b t
flipped_rule false b t x y e h f g = ap₂ rule_of (f ∙ ap (λ (z : Bool). differ b (z && true)) h ∙ differ_not b)
    (g ∙ ap (λ (z : Bool). differ t (z && false)) h ∙ differ_false t)
flipped_rule true b t x y e h f g = ap₂ rule_of (f ∙ ap (λ (z : Bool). differ b (z && false)) h ∙ differ_false b)
    (g ∙ ap (λ (z : Bool). differ t (z && true)) h ∙ differ_not t)

module _ (p : Policy) (six : SixWordSets p) (i : ℕ) (h : i < entry_count) (k a : Bool) where
  abbrev q : Policy
  q = flip_in a i k p

  abbrev C : ℕ
  C = get_or variation_entries i 0

  abbrev B : Bool
  B = holds_entry p.prefer_bare i k

  abbrev T : Bool
  T = holds_entry p.bare_as_text i k

  -- Another base, or the same one in the other domain, has the same rule under both.
  rule_other : (c : ℕ) (l : Bool) → (c ≡ C → l ≡ k → ⊥) → singleton_rule q c l ≡ singleton_rule p c l
  unfolding RuleWithoutEntry is_at entry_rule
  rule_other c l n = go (variation_sequence_index c) refl
    where
      go : (r : Option ℕ) → variation_sequence_index c ≡ r → singleton_rule q c l ≡ singleton_rule p c l
      go (Some j) e =
          let no : (x : Bool) → (eqb i j && (beq k l && x)) ≡ false =
          λ x. fails (eqb i j && (beq k l && x)) (λ t.
          let u = both_true (eqb i j) (beq k l && x) t in
          n (sym (index_has_place c j e).1 ∙ ap (λ (z : ℕ). get_or variation_entries z 0) (sym (eqb-true i j u.0)))
          (sym (beq_so k l (both_true (beq k l) x u.1).0))) in
          rule_by_entry q c j l e
          ∙ ap₂ rule_of (prefer_flip p six i h a k j l ∙ ap (differ (holds_entry p.prefer_bare j l)) (no (beq a false))
          ∙ differ_false (holds_entry p.prefer_bare j l))
          (text_flip p six i h a k j l ∙ ap (differ (holds_entry p.bare_as_text j l)) (no (beq a true))
          ∙ differ_false (holds_entry p.bare_as_text j l))
          ∙ sym (rule_by_entry p c j l e)
      go None e =
          let w = has_index c ∙ ap is_at e in
          rule_without_entry q c l w ∙ sym (rule_without_entry p c l w)

  -- This base, in this domain, has the rule with one membership flipped.
  rule_here : singleton_rule q C k ≡ flip_rule a B T
  unfolding entry_rule
  rule_here =
      let e = place-has_index i h in
      let yes : eqb i i && beq k k ≡ true = and_both (eqb i i) (beq k k) (eq-eqb i i refl) (so_beq k k refl) in
      rule_by_entry q C i k e
      ∙ flipped_rule a B T (holds_entry q.prefer_bare i k) (holds_entry q.bare_as_text i k) (eqb i i && beq k k) yes
      (prefer_flip p six i h a k i k ∙ ap (differ B) (sym (and_assoc (eqb i i) (beq k k) (beq a false))))
      (text_flip p six i h a k i k ∙ ap (differ T) (sym (and_assoc (eqb i i) (beq k k) (beq a true))))

  rule_before : singleton_rule p C k ≡ rule_of B T
  unfolding entry_rule
  rule_before = rule_by_entry p C i k (place-has_index i h)

  -- The selector written after a base is the same where the flip does not matter for the base, and only there.
  cell_tip : (c : ℕ) (n : Class) (s : List Presentation)
      → same_first (in_slot (outcome q c n s).slot) (in_slot (outcome p c n s).slot)
      ≡ not ((eqb c C && judged_in k n) && matters a B T (λ (f : Option Presentation). same_first f (first_asked s)))
  unfolding judged_in
  cell_tip c n s = go (eqb c C && judged_in k n) refl
    where
      here : eqb c C && judged_in k n ≡ true → same_first (in_slot (outcome q c n s).slot) (in_slot (outcome p c n s).slot)
          ≡ not (matters a B T (λ (f : Option Presentation). same_first f (first_asked s)))
      here e =
          let u = both_true (eqb c C) (judged_in k n) e in
          let v = both_true (not (by_modifier n)) (not (by_tags n) && beq (by_keycap n) k) u.1 in
          let w = both_true (not (by_tags n)) (beq (by_keycap n) k) v.1 in
          let at : c ≡ C = eqb-true c C u.0 in
          let dom : by_keycap n ≡ k = beq_so (by_keycap n) k w.1 in
          let has : has_variation_sequence c ≡ true = has_entry c i (ap variation_sequence_index at ∙ place-has_index i h) in
          let m = not_modifier n (not_so (by_modifier n) v.0) in
          let t = not_tag n (not_so (by_tags n) w.0) in
          let new : outcome q c n s ≡ rule6 (flip_rule a B T) s = by-policy q c n s has m t
          ∙ ap (λ (r : SingletonRule). rule6 r s) (ap₂ (singleton_rule q) at dom ∙ rule_here) in
          let old : outcome p c n s ≡ rule6 (rule_of B T) s = by-policy p c n s has m t
          ∙ ap (λ (r : SingletonRule). rule6 r s) (ap₂ (singleton_rule p) at dom ∙ rule_before) in
          ap₂ (λ (x y : Outcome). same_first (in_slot x.slot) (in_slot y.slot)) new old ∙ rule_tip a B T s

      there : eqb c C && judged_in k n ≡ false → outcome q c n s ≡ outcome p c n s
      there e =
          outcome-same p q c n s (λ m t. rule_other c (by_keycap n) (λ at dom. true≢false (
          sym (and_both (eqb c C) (judged_in k n) (eq-eqb c C at)
          (and_both (not (by_modifier n)) (not (by_tags n) && beq (by_keycap n) k) (yes_not (by_modifier n) m)
          (and_both (not (by_tags n)) (beq (by_keycap n) k) (yes_not (by_tags n) t) (so_beq (by_keycap n) k dom))))
          ∙ e)))

      go : (g : Bool) → eqb c C && judged_in k n ≡ g
          → same_first (in_slot (outcome q c n s).slot) (in_slot (outcome p c n s).slot)
          ≡ not ((eqb c C && judged_in k n) && matters a B T (λ (f : Option Presentation). same_first f (first_asked s)))
      go true e = here e ∙ ap (λ (g : Bool). not (g && matters a B T (λ (f : Option Presentation). same_first f (first_asked s)))) (sym e)
      go false e =
          ap (λ (x : Outcome). same_first (in_slot x.slot) (in_slot (outcome p c n s).slot)) (there e)
          ∙ first_self (in_slot (outcome p c n s).slot)
          ∙ ap (λ (g : Bool). not (g && matters a B T (λ (f : Option Presentation). same_first f (first_asked s)))) (sym e)

-- ---- all cells

renew_cons : (p : Policy) (x : Cell) (xs : List Cell)
    → renew p (x ∷ xs) [] ≡ record { char = x.char; after = run (in_slot (outcome_at p x xs).slot) } ∷ renew p xs []
unfolding renew
renew_cons p x xs =
    ap₂ (λ (l : List Presentation) (r : List Cell). record { char = x.char; after = l } ∷ r) (slot-run (outcome_at p x xs).slot)
    (ap (renew p xs) (remaining-none (outcome_at p x xs).slot))

abbrev first_after : List Cell → Option Presentation
first_after [] = None
first_after (x ∷ xs) = first_asked x.after

abbrev tail_of : List Cell → List Cell
tail_of [] = []
tail_of (x ∷ xs) = xs

first_run : (f : Option Presentation) → first_asked (run f) ≡ f
unfolding first_asked
first_run None = refl
first_run (Some q) = refl

module _ (p : Policy) (six : SixWordSets p) (i : ℕ) (h : i < entry_count) (k a : Bool) where
  abbrev M : List Cell → Bool
  M xs = matters a (B p six i h k a) (T p six i h k a) (occurs (C p six i h k a) k xs)

  step : (x : Cell) (xs : List Cell)
      → M (x ∷ xs) ≡ (not (same_first (in_slot (outcome_at (flip_in a i k p) x xs).slot) (in_slot (outcome_at p x xs).slot)) || M xs)
  unfolding occurs
  step x xs =
      matters-step a (B p six i h k a) (T p six i h k a) (eqb x.char (C p six i h k a) && judged_in k (following xs))
      (λ (f : Option Presentation). same_first f (first_asked x.after)) (occurs (C p six i h k a) k xs)
      ∙ ap (λ (b : Bool). b || M xs) (sym (ap not (cell_tip p six i h k a x.char (following xs) x.after)
      ∙ not_not ((eqb x.char (C p six i h k a) && judged_in k (following xs)) && matters a (B p six i h k a) (T p six i h k a)
      (λ (f : Option Presentation). same_first f (first_asked x.after)))))

  pub renew_same : (xs : List Cell) → M xs ≡ false → renew (flip_in a i k p) xs [] ≡ renew p xs []
  unfolding renew
  renew_same [] e = refl
  renew_same (x ∷ xs) e =
      let o = in_slot (outcome_at (flip_in a i k p) x xs).slot in
      let o' = in_slot (outcome_at p x xs).slot in
      let u = both_false (not (same_first o o')) (M xs) (sym (step x xs) ∙ e) in
      renew_cons (flip_in a i k p) x xs
      ∙ ap₂ (λ (f : Option Presentation) (r : List Cell). record { char = x.char; after = run f } ∷ r)
      (first_so o o' (so_not (same_first o o') u.0)) (renew_same xs u.1)
      ∙ sym (renew_cons p x xs)

  pub renew_differs : (xs : List Cell) → M xs ≡ true → renew (flip_in a i k p) xs [] ≡ renew p xs [] → ⊥
  unfolding matters occurs
  renew_differs [] e f = nothing_seen a (B p six i h k a) (T p six i h k a) e
  renew_differs (x ∷ xs) e f =
      let o = in_slot (outcome_at (flip_in a i k p) x xs).slot in
      let o' = in_slot (outcome_at p x xs).slot in
      let g = sym (renew_cons (flip_in a i k p) x xs) ∙ f ∙ renew_cons p x xs in
      let one : o ≡ o' = sym (first_run o) ∙ ap first_after g ∙ first_run o' in
      ⊎_elim
      (λ (w : not (same_first o o') ≡ true). true≢false (sym (ap (λ (z : Option Presentation). same_first z o') one ∙ first_self o')
      ∙ not_so (same_first o o') w))
      (λ (w : M xs ≡ true). renew_differs xs w (ap tail_of g))
      (either_true (not (same_first o o')) (M xs) (sym (step x xs) ∙ e))
