-- The calls of a feed whose policy may change (document 02, xii): "An open feed may change policy between two pieces." A feed is the one
-- of crate feed. The policy in force and the policy that judges the held base are two of its fields, so a change leaves the held base as
-- it is: "A base is judged by the policy in force when its last byte was fed."
use Rattle.std.specs.Prelude.{cond, List, [], ◌∷◌, ℕ, ◌-◌, drop, get_or, length}
use Rattle.base.specs.Refusals.{or_else}
use Rattle.base.specs.declared.Refusal.TheVariants.{FeedEnded}
use Rattle.utf8.specs.Rfc3629.{encode}
use Rattle.policy.specs.PolicyBytes.{policy_of, policy_refusal}
use Rattle.policy.specs.declared.Policy.{Policy}
use Rattle.feed.specs.Feed.{Fed}
use Rattle.feed.specs.Calls.{Answer, Feed, after, answer, refused, wrote}
use Rattle.feed.specs.Calls as Feed

-- A piece with its output, the end with its output, or a change to the policy of these bytes.
pub data Call : Type 0 where
  piece : List ℕ → List ℕ → Call
  end : List ℕ → Call
  change : List ℕ → Call

-- The feed under another policy in force.
abbrev pub under : Policy → Feed → Feed
under p f = record { policy = p; pending = f.pending; rest = f.rest; totals = f.totals; len = f.len; ended = f.ended }

-- A piece and an end are answered as in crate feed. A change is tested for 9 and for the policy's own refusals, in this order: "A change
-- for a feed already ended gives 9."
unfoldable pub answer_to : Feed → Call → Answer
answer_to f (piece b out) = answer f (Feed.piece b out)
answer_to f (end out) = answer f (Feed.end out)
answer_to f (change policy) = cond f.ended (refused FeedEnded) (or_else (policy_refusal policy) refused (wrote []))

abbrev pub after_call : Feed → Call → Answer → Feed
after_call f (piece b out) a = after f (Feed.piece b out) a
after_call f (end out) a = after f (Feed.end out) a
after_call f (change policy) (wrote o) = under (policy_of policy) f
after_call f (change policy) (refused r) = f

-- The characters of a thread, each with the policy in force when its last byte was fed. The second list has the policies in force for the
-- bytes from the first of these characters on. The third argument is the policy that the feed began with; no character takes it from there,
-- since each byte has its policy.
unfoldable pub fed_with : List ℕ → List Policy → Policy → List Fed
fed_with [] ps p = []
fed_with (c ∷ cs) ps p =
    record { char = c; policy = get_or ps (length (encode c) - 1) p } ∷ fed_with cs (drop (length (encode c)) ps) p
