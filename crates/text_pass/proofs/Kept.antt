-- The selector that the code keeps after a base is the one that the rules leave, by the first selector and the class of the next character.
use Rattle.std.specs.Prelude.{Some, Option}
use mathlib.Core.Path.{◌≡◌, refl, ap, sym, ◌∙◌, subst}
use mathlib.Core.Bool.{Bool, cond}
use mathlib.Core.List.{List, [], ◌∷◌}
use Prim.Native.Nat.{ℕ, zero, suc, ◌+◌, ◌*◌, ◌/◌}
use native.Mathlib.Omega.{arith}
use types.Run.{OneOf}
use denote.Enum.Declared.{tag_of}
use lib.ListN.{drop, length}
use Rattle.utf8.specs.Rfc3629.{chars, packed, read_char}
use Rattle.utf8.proofs.Packed.{packed_step, packed_stop}
use Rattle.emoji.specs.Unicode.{is_emoji_default, is_emoji_modifier_base, variation_sequence_index}
use Rattle.emoji.specs.declared.presentation.Presentation.{Presentation}
use Rattle.policy.specs.Policy.{entry_rule, singleton_rule}
use Rattle.policy.specs.declared.Policy.{Policy}
use Rattle.policy.specs.declared.SingletonRule.{SingletonRule}
use Rattle.policy.proofs.ByEntry.{rule_by_entry}
use Rattle.scanner.specs.Classes.{class_of}
use Rattle.scanner.specs.declared.char_class.Class.{Class}
use Rattle.scanner.specs.declared.char_class.Class.TheVariants.{
  Selector as selector,
  Link as link,
  Ri as ri,
  Modifier as modifier,
  Emoji as emoji,
  Keycap as keycap,
  Tag as tag,
  Other as other,
}
use Rattle.scanner.proofs.Arms.{class_arm}
use Rattle.scanner.specs.contracts.char_class.Class.{the_type as the_class}
use Rattle.analysis.specs.Analysis.{chosen, following}
use Rattle.analysis.specs.CellView.{class_in_front}
use Rattle.analysis.specs.Cells.{Cell, cells, leading, split}
use Rattle.analysis.specs.Rules.{by_keycap, first_asked, outcome, rule4, rule5, rule6, run_with}
use Rattle.analysis.specs.declared.singleton.Outcome.{Outcome}
use Rattle.analysis.proofs.Cells.{front-char, split-char}
use Rattle.analysis.proofs.CellsAt.{split_at}
use Rattle.analysis.proofs.NumberRules.{by-numbers}
use Rattle.analysis.proofs.Rules.{has_entry, outcome_entry, rule23}
use Rattle.text_pass.specs.Changes.{SameRules, outcome_from}
use Rattle.text_pass.proofs.RuleClasses.{rules_before, same_outcome}

-- ---- the rule that applies

module _ (p : Policy) (c i : ℕ) (e : variation_sequence_index c ≡ Some i) (a r : Option Presentation) where
  by_rule : (k : Class) (n : ℕ) (o : Outcome) → outcome p c k (run_with a n) ≡ o → run_with r 1 ≡ chosen o.slot [] → run_with r 1
      ≡ chosen (outcome p c k (run_with a n)).slot []
  by_rule k n o f h = h ∙ ap (λ (x : Outcome). chosen x.slot []) (sym f)

  pub before_modifier_kept : (k : Class) → k ≡ modifier → ((b : Bool) (n : ℕ) → run_with r 1 ≡ chosen (rule23 b (run_with a n)).slot [])
      → (n : ℕ) → run_with r 1 ≡ chosen (outcome p c k (run_with a n)).slot []
  before_modifier_kept k f h n =
      by_rule k n (rule23 (is_emoji_modifier_base c) (run_with a n))
      (ap (λ (x : Class). outcome p c x (run_with a n)) f ∙ outcome_entry p c modifier (run_with a n) (has_entry c i e))
      (h (is_emoji_modifier_base c) n)

  pub before_tags_kept : (k : Class) (d : Bool) → k ≡ tag → d ≡ is_emoji_default c
      → ((s : List Presentation) → run_with r 1 ≡ chosen (cond d (rule4 s) (rule5 s)).slot []) → (n : ℕ) → run_with r 1
      ≡ chosen (outcome p c k (run_with a n)).slot []
  before_tags_kept k d f g h n =
      by_rule k n (cond (is_emoji_default c) (rule4 (run_with a n)) (rule5 (run_with a n)))
      (ap (λ (x : Class). outcome p c x (run_with a n)) f ∙ outcome_entry p c tag (run_with a n) (has_entry c i e))
      (h (run_with a n) ∙ ap (λ (x : Bool). chosen (cond x (rule4 (run_with a n)) (rule5 (run_with a n))).slot []) g)

  policy-kept : (k : Class) (b : Bool) → ((n : ℕ) → outcome p c k (run_with a n) ≡ rule6 (singleton_rule p c b) (run_with a n))
      → (s : SingletonRule) → s ≡ entry_rule p i b → ((n : ℕ) → run_with r 1 ≡ chosen (rule6 s (run_with a n)).slot [])
      → (n : ℕ) → run_with r 1 ≡ chosen (outcome p c k (run_with a n)).slot []
  policy-kept k b o s g h n =
      by_rule k n (rule6 (singleton_rule p c b) (run_with a n)) (o n)
      (h n ∙ ap (λ (x : SingletonRule). chosen (rule6 x (run_with a n)).slot []) (g ∙ sym (rule_by_entry p c i b e)))

  pub before_other_kept : (k : Class) (b : Bool) (s : SingletonRule) → OneOf (0 ∷ 1 ∷ 2 ∷ 4 ∷ 5 ∷ 7 ∷ []) (tag_of the_class k) → b
      ≡ by_keycap k → s ≡ entry_rule p i b
      → ((n : ℕ) → run_with r 1 ≡ chosen (rule6 s (run_with a n)).slot []) → (n : ℕ) → run_with r 1
      ≡ chosen (outcome p c k (run_with a n)).slot []
  unfolding by_keycap
  before_other_kept k b s o d =
      policy-kept k b (λ n. class_arm (0 ∷ 1 ∷ 2 ∷ 4 ∷ 5 ∷ 7 ∷ [])
      (λ (x : Class). outcome p c x (run_with a n) ≡ rule6 (singleton_rule p c (by_keycap x)) (run_with a n)) (
        outcome_entry p c selector (run_with a n) (has_entry c i e),
        outcome_entry p c link (run_with a n) (has_entry c i e),
        outcome_entry p c ri (run_with a n) (has_entry c i e),
        tt,
        outcome_entry p c emoji (run_with a n) (has_entry c i e),
        outcome_entry p c keycap (run_with a n) (has_entry c i e),
        tt,
        outcome_entry p c other (run_with a n) (has_entry c i e),
      ) k o ∙ ap (λ (x : Bool). rule6 (singleton_rule p c x) (run_with a n)) (sym d)) s

-- ---- the class of the next character

same_then : {i j k : Class} → SameRules i j → SameRules j k → SameRules i k
same_then a b = record { modifier = a.modifier ∙ b.modifier; tags = a.tags ∙ b.tags; keycap = a.keycap ∙ b.keycap }

same_back : {i j : Class} → SameRules i j → SameRules j i
same_back a = record { modifier = sym a.modifier; tags = sym a.tags; keycap = sym a.keycap }

-- The packed number is 0 where no character begins, and for the rules 0 has the class other.
pub class_in_front_lem : (text : List ℕ) (at n : ℕ) (k : Class) → n ≡ packed (read_char (drop at text)) → SameRules k (class_of (n / 8))
    → SameRules k (class_in_front (chars (drop at text)))
unfolding class_in_front
class_in_front_lem text at zero k e h =
    subst (λ (t : List ℕ). SameRules k (class_in_front t)) (sym (packed_stop text at zero e refl).chars_none)
    (same_then h (same_back (rules_before 0 (omega arith))))
class_in_front_lem text at (suc n) k e h =
    let s = packed_step text at (suc n) e (λ z. omega arith) in
    subst (λ (t : List ℕ). SameRules k (class_in_front t)) (sym s.chars_on) h

front_class : (u : List ℕ) → leading u ≡ [] → class_in_front u ≡ following (cells u)
unfolding class_in_front following split
front_class [] e = refl
front_class (c ∷ u) e = sym (ap (λ (a : List Presentation × List Cell). following a.1) (split-char c u (front-char c u e)))

-- ---- the outcome of the rules, as the code reads the text

module _ (p : Policy) (text : List ℕ) (base at : ℕ) where
  abbrev T : List ℕ
  T = chars (drop at text)

  pub follows : (end : ℕ) → end ≡ at + 3 * length (leading T) → class_in_front (chars (drop end text)) ≡ following (cells T)
  follows end e =
      let s = split_at text at e in
      front_class (chars (drop end text)) (ap (λ (a : List Presentation × List Cell). a.0) s)
      ∙ ap (λ (a : List Presentation × List Cell). following a.1) s

  pub outcome-read : (first : Option Presentation) (end : ℕ) (k : Class) → first ≡ first_asked (leading T)
      → end ≡ at + 3 * length (leading T)
      → SameRules k (class_in_front (chars (drop end text)))
      → outcome p base k (run_with first (length (leading T))) ≡ outcome_from p text base at
  outcome-read first end k f e h =
      same_outcome p base (run_with first (length (leading T))) (subst (SameRules k) (follows end e) h)
      ∙ ap (λ (x : Option Presentation). outcome p base (following (cells T)) (run_with x (length (leading T)))) f
      ∙ sym (by-numbers p base (following (cells T)) (leading T))
