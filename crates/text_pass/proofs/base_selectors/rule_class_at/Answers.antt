-- `text_pass::base_selectors::rule_class_at` meets its contract, by the packed number that `decode` gives.
use Rattle.text_pass.proofs.Kept.{class_in_front_lem}
use Rattle.text_pass.proofs.base_selectors.rule_class_at.Goals as goal

pub returns : goal.returns
returns c =
    let x = c.args in
    class_in_front_lem x.text.now x.at c.decode.result c.rule_class.result c.decode.ensures
    c.rule_class.ensures
