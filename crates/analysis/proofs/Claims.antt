-- The proof of each statement of specs/Theorems.antt.
use mathlib.Core.Path.{◌≡◌, ap, ◌∙◌}
use mathlib.Core.Bool.{Bool, true, false, cond}
use mathlib.Core.List.{List, [], ◌∷◌}
use lib.ListN.{length}
use Rattle.emoji.specs.Unicode.{is_emoji_default}
use Rattle.emoji.specs.declared.presentation.Presentation.{Presentation}
use Rattle.emoji.specs.declared.presentation.Presentation.TheVariants.{Emoji, Text}
use Rattle.policy.specs.Policy.{singleton_rule}
use Rattle.policy.specs.declared.SingletonRule.{SingletonRule}
use Rattle.policy.specs.declared.SingletonRule.TheVariants.{BareToEmoji, BareToText, EmojiToBare, TextToBare}
use Rattle.scanner.specs.declared.char_class.Class.TheVariants.{Modifier as modifier, Tag as tag}
use Rattle.scanner.specs.Structure.{structure}
use Rattle.scanner.proofs.Reading.{item_derives}
use Rattle.analysis.specs.Analysis.{choices, choices_of, counts_of, non_canonicality, replacement, replacement_of}
use Rattle.analysis.specs.Components.{assemble, choices_in, elements, sequence_counts}
use Rattle.analysis.specs.Counts.{◌⊕◌, additional_defective, modifier_defective, total, unsanctioned}
use Rattle.analysis.specs.Rules.{
  bare,
  by_first,
  by_keycap,
  fixed,
  gives,
  is_bare_side,
  outcome,
  rule1,
  rule2,
  rule3,
  rule4,
  rule5,
  rule6,
  text_first,
  without_selector,
}
use Rattle.analysis.specs.declared.types.NonCanonicality.{NonCanonicality}
use Rattle.analysis.specs.Theorems.{
  AtMostFourTimes,
  BeforeModifier,
  BeforeTags,
  ByPolicy,
  ChoicesAreCounted,
  ChoicesAreWalked,
  ChoicesByStructure,
  CountsByStructure,
  DefaultDecisionsReplace,
  DefaultsAreChoices,
  NoCountKeepsSelectors,
  NoFindingNoChange,
  NoFindingNoCount,
  ReplacementBytes,
  ReplacementByStructure,
  ReplacementHasNoCount,
  ReplacementIsOneItem,
  ReplacementKeepsCharacters,
  ReplacementLength,
  RulesByNumbers,
  RulesLeaveNoCount,
  SelectorsAddUp,
  SumsAreWhole,
  WithoutEntry,
  ChoiceExamples,
  DecisionExamples,
  RuleExamples,
}
use Rattle.analysis.proofs.ChoiceWalk.{walk_item}
use Rattle.analysis.proofs.Choices.{choices_counted, decisions_defaults, replacement_defaults}
use Rattle.analysis.proofs.Components.{item_says, of_structured}
use Rattle.analysis.proofs.Counts.{empty-plus}
use Rattle.analysis.proofs.Items.{
  alone,
  balance_of,
  empty_no_finding,
  finding_false,
  replaced_no_count,
  replacement_derives,
  strip_of,
  unchanged,
}
use Rattle.analysis.proofs.Lengths.{bytes_of, four_times, length_of}
use Rattle.analysis.proofs.NumberRules.{by-numbers}
use Rattle.analysis.proofs.RuleLaws.{keeps, settles}
use Rattle.analysis.proofs.Rules.{by-policy, outcome_entry, outcome_no_entry}
use Rattle.analysis.proofs.Sums.{whole_sum}
use Rattle.analysis.proofs.Examples.{computed}

pub without_entry : WithoutEntry
unfolding WithoutEntry rule1
without_entry p c k s e = outcome_no_entry p c k s e

pub before_modifier : BeforeModifier
unfolding BeforeModifier rule2 rule3 by_first text_first
before_modifier p c s e = (
  outcome_entry p c modifier (Text ∷ s) e ∙ ap (λ (n : NonCanonicality). gives n (fixed Text)) (empty-plus (unsanctioned (length s))),
  outcome_entry p c modifier [] e,
  λ b. outcome_entry p c modifier (Emoji ∷ s) e
      ∙ ap (λ (b : Bool). gives (cond b modifier_defective additional_defective ⊕ unsanctioned (length s)) bare) b,
  λ b. outcome_entry p c modifier (Emoji ∷ s) e
      ∙ ap (λ (b : Bool). gives (cond b modifier_defective additional_defective ⊕ unsanctioned (length s)) bare) b,
)

pub before_tags : BeforeTags
unfolding BeforeTags rule4 rule5 by_first
before_tags p c s e =
    let on : (s : List Presentation) (b : Bool) → is_emoji_default c ≡ b → outcome p c tag s ≡ cond b (rule4 s) (rule5 s) =
    λ s b f. outcome_entry p c tag s e ∙ ap (λ (b : Bool). cond b (rule4 s) (rule5 s)) f in (
      λ f. (on [] true f, on (Emoji ∷ s) true f, on (Text ∷ s) true f),
      λ f. (
        on [] false f,
        on (Emoji ∷ s) false f
            ∙ ap (λ (n : NonCanonicality). gives n (fixed Emoji)) (empty-plus (unsanctioned (length s))),
        on (Text ∷ s) false f,
      ),
    )

pub by_the_policy : ByPolicy
unfolding ByPolicy rule6 without_selector is_bare_side
by_the_policy p c k s e m t =
    let on : (s : List Presentation) (r : SingletonRule) → singleton_rule p c (by_keycap k) ≡ r → outcome p c k s ≡ rule6 r s =
    λ s r f. by-policy p c k s e m t ∙ ap (λ (r : SingletonRule). rule6 r s) f in (
      λ f. (on [] TextToBare f, on (Text ∷ s) TextToBare f, on (Emoji ∷ s) TextToBare f),
      λ f. (on [] EmojiToBare f, on (Emoji ∷ s) EmojiToBare f, on (Text ∷ s) EmojiToBare f),
      λ f. (on [] BareToText f, λ q. on (q ∷ s) BareToText f),
      λ f. (on [] BareToEmoji f, λ q. on (q ∷ s) BareToEmoji f),
    )

pub rules_by_numbers : RulesByNumbers
unfolding RulesByNumbers
rules_by_numbers = by-numbers

pub sums_are_whole : SumsAreWhole
unfolding SumsAreWhole
sums_are_whole = whole_sum

pub rules_leave_no_count : RulesLeaveNoCount
unfolding RulesLeaveNoCount
rules_leave_no_count = settles

pub no_count_keeps_selectors : NoCountKeepsSelectors
unfolding NoCountKeepsSelectors
no_count_keeps_selectors p c k s e = keeps p c k s (ap total e)

pub no_finding_no_count : NoFindingNoCount
unfolding NoFindingNoCount
no_finding_no_count p x = (finding_false p x, empty_no_finding p x)

pub replacement_has_no_count : ReplacementHasNoCount
unfolding ReplacementHasNoCount
replacement_has_no_count p t x ds m = replaced_no_count p x (item_derives t x m) ds

pub replacement_keeps_characters : ReplacementKeepsCharacters
unfolding ReplacementKeepsCharacters replacement
replacement_keeps_characters p t x ds m = strip_of p (item_derives t x m) ds

pub replacement_is_one_item : ReplacementIsOneItem
unfolding ReplacementIsOneItem
replacement_is_one_item p t x ds m o = alone (replacement_derives p x o (item_derives t x m) ds)

pub no_finding_no_change : NoFindingNoChange
unfolding NoFindingNoChange
no_finding_no_change p t x m = unchanged p x (item_derives t x m)

pub selectors_add_up : SelectorsAddUp
unfolding SelectorsAddUp non_canonicality replacement
selectors_add_up p t x ds m = balance_of p (item_derives t x m) ds

pub replacement_length : ReplacementLength
unfolding ReplacementLength non_canonicality replacement
replacement_length p t x ds m = length_of p (item_derives t x m) ds

pub replacement_bytes_lem : ReplacementBytes
unfolding ReplacementBytes non_canonicality replacement
replacement_bytes_lem p t x ds m = bytes_of p (item_derives t x m) ds

pub at_most_four_times : AtMostFourTimes
unfolding AtMostFourTimes replacement
at_most_four_times p t x ds m = four_times p (item_derives t x m) ds

pub choices_are_counted : ChoicesAreCounted
unfolding ChoicesAreCounted
choices_are_counted = choices_counted

pub defaults_are_choices : DefaultsAreChoices
unfolding DefaultsAreChoices
defaults_are_choices = decisions_defaults

pub default_decisions_replace : DefaultDecisionsReplace
unfolding DefaultDecisionsReplace
default_decisions_replace = replacement_defaults

pub choices_are_walked : ChoicesAreWalked
unfolding ChoicesAreWalked
choices_are_walked = walk_item

pub counts_by_structure : CountsByStructure
unfolding CountsByStructure non_canonicality counts_of
counts_by_structure p t x m o =
    let h = (item_says p o (item_derives t x m)).counted in
    of_structured (λ k. counts_of p k x.chars) (sequence_counts p (structure x.chars)) o h h

pub replacement_by_structure : ReplacementByStructure
unfolding ReplacementByStructure replacement replacement_of
replacement_by_structure p t x ds m o =
    let h = (item_says p o (item_derives t x m)).written ds in
    of_structured (λ k. replacement_of p k x.chars ds) (assemble (elements p (structure x.chars)) ds) o h h

pub choices_by_structure : ChoicesByStructure
unfolding ChoicesByStructure choices choices_of
choices_by_structure p t x m o =
    let h = (item_says p o (item_derives t x m)).chooses in
    of_structured (λ k. choices_of p k x.chars) (choices_in (elements p (structure x.chars))) o h h

pub rule_examples : RuleExamples
unfolding RuleExamples
rule_examples = computed.0

pub choice_examples : ChoiceExamples
unfolding ChoiceExamples
choice_examples = computed.1

pub decision_examples : DecisionExamples
unfolding DecisionExamples
decision_examples = computed.2
