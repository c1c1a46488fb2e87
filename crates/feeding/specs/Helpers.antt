-- Contracts of helper functions: the bytes that are left unfinished, and the characters that are taken one after the other. The calls
-- themselves are defined in crate feed, specs/Calls.antt and specs/Bytes.antt.
use Rattle.std.specs.Prelude.{◌≡◌, true, false, List, ℕ, ◌+◌, ◌*◌, ◌≤◌, drop, length}
use Rattle.base.specs.Output.{PutAt}
use Rattle.base.specs.Words.{number}
use Rattle.utf8.specs.Rfc3629.{encode_all, is_scalar}
use Rattle.utf8.specs.Subparts.{unfinished}
use Rattle.policy.specs.declared.Policy.{Policy}
use Rattle.analysis.specs.Counts.{◌⊕◌, total}
use Rattle.analysis.specs.declared.types.NonCanonicality.{NonCanonicality}
use Rattle.feed.specs.Bytes.{held_for, pending_of}
use Rattle.feed.specs.Feed.{Fed, nothing, take_chars}
use Rattle.feed.specs.declared.Held.{Held}
use Rattle.feed.specs.declared.State.{State}
use Rattle.feeding.specs.declared.Left.{Left}
use Rattle.feeding.specs.declared.Taken.{Taken}

-- The state of a feed that has ended.
abbrev pub ended_state : ℕ → NonCanonicality → State
ended_state len counts = record { ended = true; held = held_for nothing; rest_len = 0; rest = 0; len = len; counts = counts }

-- The state of a feed that goes on.
abbrev pub open_state : Held → ℕ → ℕ → ℕ → NonCanonicality → State
open_state h m r l n = record { ended = false; held = h; rest_len = m; rest = r; len = l; counts = n }

-- The bytes after an offset: whether they are unfinished, and then their number and the number that they encode.
pub record LeftAt (u : List ℕ) (at : ℕ) (r : Left) : Type 0 where
  pub good : r.good ≡ unfinished (drop at u)
  pub many : r.good ≡ true → r.len ≡ length (drop at u)
  pub bytes : r.good ≡ true → r.bytes ≡ number (drop at u)

-- The characters xs are taken one after the other, with h held and the counts n before them: the text is written at an offset, and the
-- result has the held base, the end of the text and the counts after them. The counts and the number of selectors stay small.
pub record TakenBy (p : Policy) (h : Held) (n : NonCanonicality) (xs : List Fed) (before : List ℕ) (at : ℕ) (after : List ℕ)
    (r : Taken) : Type 0 where
  pub text : PutAt before at (encode_all (take_chars (pending_of p h) xs).1.text) after r.end
  pub held : pending_of p r.held ≡ (take_chars (pending_of p h) xs).0
  pub counts : r.counts ≡ n ⊕ (take_chars (pending_of p h) xs).1.counts
  pub scalar : is_scalar r.held.base ≡ true
  pub few : total r.counts + r.held.count ≤ total n + h.count + 3 * length xs
