-- `text_pass::base_selectors::kept_number` meets its contract: the class decides which rule applies (`Kept`), and each helper gives what
-- that rule leaves.
use mathlib.Core.Path.{sym}
use mathlib.Core.Bool.{true}
use mathlib.Core.List.{[]}
use Rattle.policy.specs.PolicyBytes.{policy_of}
use Rattle.text_pass.specs.Changes.{selector_of}
use Rattle.text_pass.proofs.Kept.{before_modifier_kept, before_other_kept, before_tags_kept}
use Rattle.text_pass.proofs.NumberedSelectors.{number_selector}
use borrow.Enum.Refused.{opened}
use Rattle.text_pass.proofs.base_selectors.kept_number.Goals as goal

pub returns-in-Modifier : goal.returns-in-Modifier
returns-in-Modifier c =
    let x = c.args in
    let r = c.before_modifier in record {
      few = (r.ensures (selector_of x.first) (sym (number_selector x.first c.requires.1)) true 1).few;
      kept = λ f e. before_modifier_kept (policy_of x.policy.now) x.base x.index c.requires.0 f (selector_of r.result) x.next
          c.in-Modifier.is
          (λ b n. (r.ensures f e b n).left);
    }

pub returns-in-Tag : goal.returns-in-Tag
returns-in-Tag c =
    let x = c.args in
    let d = c.is_emoji_default_by_block in
    let r = c.before_tags in record {
      few = (r.ensures []).few;
      kept = λ f e. before_tags_kept (policy_of x.policy.now) x.base x.index c.requires.0 f (selector_of r.result) x.next d.result
          c.in-Tag.is d.ensures
          (λ t. (r.ensures t).left);
    }

pub returns-in_default : goal.returns-in_default
returns-in_default c =
    let x = c.args in
    let k = c.is_keycap in
    let u = c.rule_at in
    let r = c.by_policy in record {
      few = (r.ensures (selector_of x.first) (sym (number_selector x.first c.requires.1)) 1).few;
      kept = λ f e. before_other_kept (policy_of x.policy.now) x.base x.index c.requires.0 f (selector_of r.result) x.next k.result
          u.result (opened c.in_default.in_default-own.keys3) k.ensures u.ensures
          (λ n. (r.ensures f e n).left);
    }
