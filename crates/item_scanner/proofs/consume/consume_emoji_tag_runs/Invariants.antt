-- `item_scanner::consume::consume_emoji_tag_runs` meets its contract. The invariant of both loops: the run of tags and selectors from `end`
-- on has the same end as the run from `at` on, and the tags before `end` led to `state` (TagsRead). The measure is the number of bytes
-- after `end`: it is less after each group, since a group that has selectors has at least one character.
use mathlib.Core.Path.{◌≡◌}
use mathlib.Core.Bool.{true}
use mathlib.Core.List.{List}
use Prim.Native.Nat.{ℕ, ◌+◌, ◌-◌, ◌≤◌, ◌<◌}
use lib.ListN.{drop, length}
use Rattle.utf8.specs.Rfc3629.{chars}
use Rattle.scanner.specs.Runs.{in_tags, run}
use Rattle.scanner.specs.Spans.{size, width}
use Rattle.item_scanner.specs.declared.consume.TagState.{TagState}
use Rattle.item_scanner.proofs.TagsRead.{TagsRead}
use Rattle.item_scanner.proofs.consume.consume_emoji_tag_runs.Given as goal

-- The run from `end` on has the same end as the run from `at` on, and the tags before `end` led to the state p.
abbrev pub Left : List ℕ → ℕ → ℕ → TagState → Type 0
Left text at end p =
    let rest = run in_tags (chars (drop end text)) in
    (at + size width (run in_tags (chars (drop at text))) ≡ end + size width rest)
    × TagsRead (run in_tags (chars (drop at text))) rest p

abbrev pub invariant-loop-next : goal.invariant-loop-next
invariant-loop-next l = (l.initial.end ≤ l.end) × (l.selectors ≡ true → l.initial.end < l.end) × Left l.text l.at l.end l.state

abbrev pub decreases-loop-next : goal.decreases-loop-next
decreases-loop-next l = length l.text - l.end

abbrev pub invariant-groups : goal.invariant-groups
invariant-groups l = Left l.text l.at l.end l.state

abbrev pub decreases-groups : goal.decreases-groups
decreases-groups l = length l.text - l.end
