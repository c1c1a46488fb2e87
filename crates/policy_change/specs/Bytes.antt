-- A feed whose policy may change, in lent bytes: which bytes are one, and what each call answers and leaves, for any bytes. For a feed
-- begun new and handed on from call to call, specs/Theorems.antt (EveryChangingFeed) says what this amounts to.
use Rattle.base.specs.declared.Refusal.{Refusal}
use Rattle.std.specs.Prelude.{
  Bool,
  true,
  false,
  cond,
  not,
  ◌&&◌,
  ◌||◌,
  List,
  [],
  ◌∷◌,
  ◌++◌,
  ℕ,
  eqb,
  leb,
  drop,
  length,
  replicate,
  take,
  Ok,
  Err,
  Result,
}
use Rattle.base.specs.Refusals.{After, or_else, unwritten, written}
use Rattle.base.specs.Words.{number, word_bytes}
use Rattle.base.specs.declared.Refusal.TheVariants.{FeedEnded, OutputTooShort}
use Rattle.utf8.specs.Rfc3629.{chars}
use Rattle.emoji.specs.Presentation.{is_selector}
use Rattle.policy.specs.PolicyBytes.{is_policy, policy_of, policy_refusal}
use Rattle.policy.specs.declared.Policy.{Policy}
use Rattle.analysis.specs.Counts.{empty}
use Rattle.analysis.specs.declared.types.NonCanonicality.{NonCanonicality}
use Rattle.feed.specs.Calls.{Answer, Feed, refused, totals_now, wrote}
use Rattle.feed.specs.Bytes.{
  Called,
  bytes_for,
  feed_bytes,
  feed_of,
  is_feed,
  new_bytes,
  output_of,
  refuses,
  state_bytes,
  state_of,
}
use Rattle.policy_change.specs.Calls.{Call, after_call, answer_to, change, end, piece, under}

-- ---- the parts

-- The bytes of a feed of crate feed, a word, and the bytes of a policy. The word is 0, or 1 if a base is held that was fed before the
-- policy changed. Then the feed's own policy is the one that judges this base, and the policy after the word is the one in force.
abbrev pub changing_bytes : ℕ
changing_bytes = 528

abbrev pub feed_part : List ℕ → List ℕ
feed_part bs = take feed_bytes bs

abbrev pub is_changed : List ℕ → Bool
is_changed bs = not (eqb (number (take 8 (drop feed_bytes bs))) 0)

abbrev pub later_policy : List ℕ → List ℕ
later_policy bs = drop 328 bs

-- What the calls test. Every such feed that was begun new and handed on passes (EveryChangingFeed).
unfoldable pub is_changing : List ℕ → Bool
is_changing bs =
    eqb (length bs) changing_bytes && (is_feed (feed_part bs) && (not (is_changed bs) || is_policy (later_policy bs)))

-- The feed that bytes encode.
unfoldable pub changing_feed : List ℕ → Feed
changing_feed bs =
    under (cond (is_changed bs) (policy_of (later_policy bs)) (feed_of (feed_part bs)).policy) (feed_of (feed_part bs))

-- ---- the bytes after a call that is done

-- Every character is a selector: the base that was held before them is held after them.
unfoldable pub only_selectors : List ℕ → Bool
only_selectors [] = true
only_selectors (c ∷ cs) = is_selector c && only_selectors cs

-- After a piece whose characters settle a base that was fed before the change, the policy in force judges what is held.
abbrev pub piece_settles : List ℕ → List ℕ → Bool
piece_settles bs b = is_changed bs && not (only_selectors (chars ((changing_feed bs).rest ++ b)))

abbrev pub settled_bytes : List ℕ → Feed → List ℕ
settled_bytes bs f = bytes_for f (later_policy bs) ++ (word_bytes 0 ++ later_policy bs)

abbrev pub kept_bytes : List ℕ → Feed → List ℕ
kept_bytes bs f = bytes_for f (drop state_bytes (feed_part bs)) ++ drop feed_bytes bs

-- A change takes the place of both policies if nothing is held. Else the held base keeps its policy.
abbrev pub changed_bytes : List ℕ → List ℕ → List ℕ
changed_bytes bs policy =
    cond (eqb (state_of (feed_part bs)).held.base 0) (take state_bytes bs ++ (policy ++ (word_bytes 0 ++ policy)))
    (feed_part bs ++ (word_bytes 1 ++ policy))

abbrev pub bytes_after : List ℕ → Call → Feed → List ℕ
bytes_after bs (piece b out) f = cond (piece_settles bs b) (settled_bytes bs f) (kept_bytes bs f)
bytes_after bs (end out) f = kept_bytes bs f
bytes_after bs (change policy) f = changed_bytes bs policy

-- ---- the calls, on any bytes

-- The output of a call before it. A change has none.
abbrev pub out_of : Call → List ℕ
out_of (piece b out) = out
out_of (end out) = out
out_of (change policy) = []

abbrev pub leaves_after : List ℕ → Call → Feed → Answer → Called
leaves_after bs c f (wrote o) = record { answer = Ok (length o); feed = bytes_after bs c f; out = o ++ drop (length o) (out_of c) }
leaves_after bs c f (refused r) = refuses (Err r) bs (out_of c)

-- A call on bytes. If the bytes are no such feed, the answer is refusal 9.
unfoldable pub called_on : List ℕ → Call → Called
called_on bs c =
    let a = answer_to (changing_feed bs) c in
    cond (is_changing bs) (leaves_after bs c (after_call (changing_feed bs) c a) a) (refuses (Err FeedEnded) bs (out_of c))

-- The totals. Bytes that are no such feed have totals of 0.
unfoldable pub changing_totals : List ℕ → NonCanonicality
changing_totals bs = cond (is_changing bs) (totals_now (changing_feed bs)) empty

-- A new feed.
unfoldable pub new_changing : List ℕ → List ℕ
new_changing policy = new_bytes policy ++ (word_bytes 0 ++ policy)

unfoldable pub begun_changing : List ℕ → List ℕ → After (Result ℕ Refusal) ℕ
begun_changing policy feed =
    or_else (policy_refusal policy) (λ r. unwritten (Err r) feed)
    (cond (leb changing_bytes (length feed)) (written (Ok changing_bytes) (new_changing policy) feed)
    (unwritten (Err (OutputTooShort changing_bytes)) feed))

-- ---- lists of calls on a feed's bytes, which are handed on from call to call, refused calls included

unfoldable pub feed_after_calls : List ℕ → List Call → List ℕ
feed_after_calls bs [] = bs
feed_after_calls bs (c ∷ cs) = feed_after_calls (called_on bs c).feed cs

unfoldable pub joined_outputs : List ℕ → List Call → List ℕ
joined_outputs bs [] = []
joined_outputs bs (c ∷ cs) = output_of (called_on bs c) (called_on bs c).answer ++ joined_outputs (called_on bs c).feed cs

-- The thread: the pieces that were taken.
abbrev pub piece_taken : Call → Result ℕ Refusal → List ℕ
piece_taken (piece b out) (Ok n) = b
piece_taken (piece b out) (Err r) = []
piece_taken (end out) a = []
piece_taken (change policy) a = []

unfoldable pub thread_of : List ℕ → List Call → List ℕ
thread_of bs [] = []
thread_of bs (c ∷ cs) = piece_taken c (called_on bs c).answer ++ thread_of (called_on bs c).feed cs

-- The policy in force after a call, and for each byte of the thread the policy in force when it was fed.
abbrev pub policy_after : Call → Result ℕ Refusal → Policy → Policy
policy_after (piece b out) a p = p
policy_after (end out) a p = p
policy_after (change policy) (Ok n) p = policy_of policy
policy_after (change policy) (Err r) p = p

unfoldable pub policies_of : List ℕ → Policy → List Call → List Policy
policies_of bs p [] = []
policies_of bs p (c ∷ cs) =
    replicate (length (piece_taken c (called_on bs c).answer)) p
    ++ policies_of (called_on bs c).feed (policy_after c (called_on bs c).answer p) cs

-- Whether one of the calls ended the feed.
abbrev pub end_taken : Call → Result ℕ Refusal → Bool
end_taken (piece b out) a = false
end_taken (end out) (Ok n) = true
end_taken (end out) (Err r) = false
end_taken (change policy) a = false

unfoldable pub has_ended : List ℕ → List Call → Bool
has_ended bs [] = false
has_ended bs (c ∷ cs) = end_taken c (called_on bs c).answer || has_ended (called_on bs c).feed cs
