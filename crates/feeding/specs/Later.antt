-- Contracts of helper functions: a piece for a feed whose policy has changed since its held base was fed. The policy q judges this base,
-- and the policy p is in force.
use Rattle.std.specs.Prelude.{◌≡◌, cond, not, List, ℕ}
use Rattle.base.specs.Output.{PutAt}
use Rattle.utf8.specs.Rfc3629.{encode_all}
use Rattle.policy.specs.declared.Policy.{Policy}
use Rattle.scanner.specs.declared.char_class.Class.{Class}
use Rattle.analysis.specs.Counts.{◌⊕◌}
use Rattle.analysis.specs.declared.types.NonCanonicality.{NonCanonicality}
use Rattle.feed.specs.Bytes.{held_for, pending_of}
use Rattle.feed.specs.Feed.{Pending, fed_as, nothing, settle, take_chars}
use Rattle.feed.specs.declared.Held.{Held}
use Rattle.policy_change.specs.Bytes.{only_selectors}
use Rattle.feeding.specs.declared.Taken.{Taken}
use Rattle.feeding.specs.declared.later.Later.{Later}

-- The held base s is written at the front before a character of the class k, and counted. Nothing is held after it.
pub record HeldSettled (s : Pending) (k : Class) (n : NonCanonicality) (before after : List ℕ) (r : Taken) : Type 0 where
  pub text : PutAt before 0 (encode_all (settle s k).text) after r.end
  pub held : r.held ≡ held_for nothing
  pub counts : r.counts ≡ n ⊕ (settle s k).counts

-- The characters cs are taken one after the other, with h held and the counts n before them. If one of them is no selector, it has settled
-- the held base.
pub record TakenLater (q p : Policy) (h : Held) (n : NonCanonicality) (cs before after : List ℕ) (r : Later) : Type 0 where
  pub text : PutAt before 0 (encode_all (take_chars (pending_of q h) (fed_as p cs)).1.text) after r.taken.end
  pub held : pending_of (cond r.settled p q) r.taken.held ≡ (take_chars (pending_of q h) (fed_as p cs)).0
  pub counts : r.taken.counts ≡ n ⊕ (take_chars (pending_of q h) (fed_as p cs)).1.counts
  pub settled : r.settled ≡ not (only_selectors cs)
