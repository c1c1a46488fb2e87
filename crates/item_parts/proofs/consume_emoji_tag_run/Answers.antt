-- `item_parts::consume_emoji_tag_run` meets its contract: the selectors are read where the tags end.
use Rattle.item_parts.proofs.UnitsAt.{no_tags, some_tags}
use Rattle.item_parts.proofs.consume_emoji_tag_run.Goals as goal

pub returns-then-tags_end-at : goal.returns-then-tags_end-at
returns-then-tags_end-at c =
    let x = c.args in
    no_tags x.text.now x.at c.run_end-tags_end.ensures c.if-tags_end-at.true

pub returns : goal.returns
returns c =
    let x = c.args in
    some_tags x.text.now x.at c.run_end-tags_end.ensures c.if-tags_end-at.false
    c.consume_presentation_selectors-selectors.ensures
