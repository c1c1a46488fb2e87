-- What is claimed of a feed whose policy may change. Each statement is proved in proofs/Claims.antt.
use Rattle.std.specs.Prelude.{◌≡◌, Bool, true, false, List, [], ◌∷◌, ◌++◌, ℕ, ◌≤◌, drop, length, replicate, Ok, Err, Some}
use Rattle.base.specs.Words.{all_bytes}
use Rattle.base.specs.declared.Refusal.{Refusal}
use Rattle.base.specs.declared.Refusal.TheVariants.{FeedEnded}
use Rattle.utf8.specs.Rfc3629.{WellFormed, chars, encode_all, valid_up_to_of}
use Rattle.policy.specs.PolicyBytes.{is_policy, policy_of, policy_refusal}
use Rattle.policy.specs.declared.Policy.{Policy}
use Rattle.scanner.specs.declared.char_class.Class.TheVariants.{Other as other}
use Rattle.formatter.specs.Findings.{text_totals}
use Rattle.formatter.specs.Format.{formatted}
use Rattle.feed.specs.Bytes.{Called, refuses}
use Rattle.feed.specs.Feed.{Pending, format_fed, settle, total_fed}
use Rattle.feed.specs.Theorems.{GoesOn, HeldLast, NextEnd, NextPiece}
use Rattle.policy_change.specs.Calls.{Call, change, end, fed_with, piece}
use Rattle.policy_change.specs.Bytes.{
  called_on,
  changing_feed,
  changing_totals,
  feed_after_calls,
  has_ended,
  is_changing,
  joined_outputs,
  new_changing,
  out_of,
  policies_of,
  thread_of,
}

-- The pieces and policies of these calls are bytes, as every lent slice is.
pub data OfBytes : List Call → Type 0 where
  no_call : OfBytes []
  and_piece : {b out : List ℕ} {cs : List Call} → all_bytes b ≡ true → OfBytes cs → OfBytes (piece b out ∷ cs)
  and_end : {out : List ℕ} {cs : List Call} → OfBytes cs → OfBytes (end out ∷ cs)
  and_change : {policy : List ℕ} {cs : List Call} → OfBytes cs → OfBytes (change policy ∷ cs)

-- The outcome r of a change to a policy. The tests are 9 and then the policy's own: 2, 15, 2. A refused change leaves the feed as it was.
pub record NextChange (B : List ℕ) (E : Bool) (policy : List ℕ) (r : Called) : Type 0 where
  -- "A change for a feed already ended gives 9."
  pub ended : E ≡ true → r ≡ refuses (Err FeedEnded) B []
  pub no_policy : E ≡ false → (f : Refusal) → policy_refusal policy ≡ Some f → r ≡ refuses (Err f) B []
  -- It is done: its value is 0, and the policy is the one in force.
  pub done : E ≡ false → is_policy policy ≡ true → (r.answer ≡ Ok 0) × ((changing_feed r.feed).policy ≡ policy_of policy)

-- "all but an unfinished character and a last base that has a variation entry, with its selectors": what is held after these characters.
-- The policy is the one that judges the held base; `open_text` below says which one that is.
pub record HoldsLast (cs : List ℕ) (h : Pending) : Type 0 where
  pub judge : Policy
  pub last : HeldLast judge cs h

-- What is claimed of a feed begun with a policy, after a list of calls: B are its bytes, T is the thread, P has for each byte of the
-- thread the policy in force when it was fed, W are the joined outputs, and E says whether it has ended.
pub record ChangingFeed (policy B T : List ℕ) (P : List Policy) (W : List ℕ) (E : Bool) : Type 0 where
  -- "In (iii) joined outputs and totals now equal those of a formatting that picks each base's policy so": by `fed_with` each character has
  -- the policy in force when its last byte was fed, and `format_fed` and `total_fed` (crate feed) judge each base by its policy.
  pub end_whole : E ≡ true → WellFormed T
  pub end_text : E ≡ true → W ≡ encode_all (format_fed (fed_with (chars T) P (policy_of policy)))
  pub totals : changing_totals B ≡ total_fed (fed_with (chars T) P (policy_of policy))
  -- Before the end, the joined outputs and the held base, written as if the thread ended there.
  pub open_text : E ≡ false
      → W ++ encode_all (settle (changing_feed B).pending other).text ≡ encode_all (format_fed (fed_with (chars T) P (policy_of policy)))
  -- Without a change this is the whole thread formatted in one call under the policy the feed began with.
  pub end_one : E ≡ true → P ≡ replicate (length T) (policy_of policy) → W ≡ formatted T policy
  pub totals_one : P ≡ replicate (length T) (policy_of policy) → changing_totals B ≡ text_totals T policy
  pub each_byte : length P ≡ length T
  -- What is not written yet: the last base, if it has a variation entry, and an unfinished character.
  pub held : E ≡ false → HoldsLast (chars T) (changing_feed B).pending
  pub rest : E ≡ false → (changing_feed B).rest ≡ drop (valid_up_to_of T) T
  -- The thread is within the length limit, and it can go on to be well-formed.
  pub within_limit_lem : length T ≤ 16777216
  pub goes_on : GoesOn T
  -- The bytes pass the test that every call makes, and the next call is answered as document 02 says.
  pub passes : is_changing B ≡ true
  pub next_piece : (b out : List ℕ) → NextPiece B T E b out (called_on B (piece b out))
  pub next_end : (out : List ℕ) → NextEnd B T E out (called_on B (end out))
  pub next_change : (policy : List ℕ) → NextChange B E policy (called_on B (change policy))

-- Every list of calls, refused ones included and changes of the policy among them, on a feed begun new with a policy and handed on from
-- call to call.
unfoldable pub EveryChangingFeed : Type 0
EveryChangingFeed =
    (policy : List ℕ) → is_policy policy ≡ true → (cs : List Call) → OfBytes cs
    → ChangingFeed policy (feed_after_calls (new_changing policy) cs) (thread_of (new_changing policy) cs)
    (policies_of (new_changing policy) (policy_of policy) cs) (joined_outputs (new_changing policy) cs) (has_ended (new_changing policy) cs)

-- Any bytes as a feed: "for any other the answer is the program's choice, within the lent buffers, and a refusal still writes nothing."
unfoldable pub RefusalsWriteNothing : Type 0
RefusalsWriteNothing =
    (bs : List ℕ) (c : Call) (r : Refusal) → (called_on bs c).answer ≡ Err r
    → ((called_on bs c).feed ≡ bs) × ((called_on bs c).out ≡ out_of c)
