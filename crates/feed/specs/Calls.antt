-- The calls of a feed: a piece and the end (document 02, iii). A call has its output as a list: what the lent buffer holds before. How a
-- feed stands in lent bytes is in specs/Bytes.antt.
use Rattle.std.specs.Prelude.{Bool, true, false, cond, not, List, [], ◌∷◌, ◌++◌, ℕ, ◌+◌, ◌-◌, eqb, leb, drop, length}
use Rattle.base.specs.Refusals.{text_limit}
use Rattle.base.specs.declared.Refusal.{Refusal}
use Rattle.base.specs.declared.Refusal.TheVariants.{FeedEnded, NotWellFormed, OutputTooShort, TextTooLong, UnfinishedCharacter}
use Rattle.utf8.specs.Rfc3629.{chars, encode_all, valid_up_to_of}
use Rattle.utf8.specs.Subparts.{unfinished}
use Rattle.policy.specs.declared.Policy.{Policy}
use Rattle.scanner.specs.declared.char_class.Class.TheVariants.{Other as other}
use Rattle.analysis.specs.Counts.{◌⊕◌, empty}
use Rattle.analysis.specs.declared.types.NonCanonicality.{NonCanonicality}
use Rattle.feed.specs.Feed.{Fed, Pending, fed_as, nothing, piece_room, settle, take_chars}

-- A feed: the policy, the held base, the bytes of an unfinished character, the totals without the held base, the number of bytes taken,
-- and whether it has ended.
pub record Feed : Type 0 where
  pub policy : Policy
  pub pending : Pending
  pub rest : List ℕ
  pub totals : NonCanonicality
  pub len : ℕ
  pub ended : Bool

abbrev pub new_feed : Policy → Feed
new_feed p = record { policy = p; pending = nothing; rest = []; totals = empty; len = 0; ended = false }

-- "Its eight totals can be read at any time: they are those of the whole characters fed so far, as if the thread ended there."
abbrev pub totals_now : Feed → NonCanonicality
totals_now f = f.totals ⊕ (settle f.pending other).counts

-- A piece with its output, or the end with its output.
pub data Call : Type 0 where
  piece : List ℕ → List ℕ → Call
  end : List ℕ → Call

-- The bytes that a call writes, or its refusal.
pub data Answer : Type 0 where
  wrote : List ℕ → Answer
  refused : Refusal → Answer

-- The characters that a piece completes, under the policy in force, and the bytes that are unfinished after it.
abbrev pub fed_by : Feed → List ℕ → List Fed
fed_by f b = fed_as f.policy (chars (f.rest ++ b))

abbrev pub rest_by : Feed → List ℕ → List ℕ
rest_by f b = drop (valid_up_to_of (f.rest ++ b)) (f.rest ++ b)

-- The feed after a piece that is taken.
abbrev pub after_piece : Feed → List ℕ → Feed
after_piece f b =
    let r = take_chars f.pending (fed_by f b) in
    record {
      policy = f.policy;
      pending = r.0;
      rest = rest_by f b;
      totals = f.totals ⊕ r.1.counts;
      len = f.len + length b;
      ended = false;
    }

-- The feed after its end.
abbrev pub after_end : Feed → Feed
after_end f = record {
  policy = f.policy;
  pending = nothing;
  rest = [];
  totals = totals_now f;
  len = f.len;
  ended = true;
}

-- The answer. A piece is tested for 9, 1, 3 and 8 in this order, the end for 9, 10 and 8. "Errors: 9, a piece or an end for a feed already
-- ended, tested before all else; 10, an end inside a character, tested after 9." "The length limit holds for the whole thread." "An
-- ill-formed place is reported by its offset from the thread's start." "A piece of n bytes that no other test refuses is taken if the
-- output holds 4n + 16 bytes, else refusal 8 gives that figure; the end counts as a piece of 0 bytes."
unfoldable pub answer : Feed → Call → Answer
answer f (piece b out) =
    cond f.ended (refused FeedEnded)
    (cond (not (leb (f.len + length b) text_limit)) (refused TextTooLong)
    (cond (not (unfinished (rest_by f b))) (refused (NotWellFormed (f.len - length f.rest + valid_up_to_of (f.rest ++ b))))
    (cond (not (leb (piece_room (length b)) (length out))) (refused (OutputTooShort (piece_room (length b))))
    (wrote (encode_all (take_chars f.pending (fed_by f b)).1.text)))))
answer f (end out) =
    cond f.ended (refused FeedEnded)
    (cond (not (eqb (length f.rest) 0)) (refused UnfinishedCharacter)
    (cond (not (leb (piece_room 0) (length out))) (refused (OutputTooShort (piece_room 0)))
    (wrote (encode_all (settle f.pending other).text))))

-- The feed after a call with that answer: "A refused call changes neither feed nor output."
abbrev pub after : Feed → Call → Answer → Feed
after f c (refused r) = f
after f (piece b out) (wrote o) = after_piece f b
after f (end out) (wrote o) = after_end f

abbrev pub next : Feed → Call → Feed
next f c = after f c (answer f c)

-- ---- lists of calls, refused ones included

unfoldable pub feed_after : Feed → List Call → Feed
feed_after f [] = f
feed_after f (c ∷ cs) = feed_after (next f c) cs

abbrev pub bytes_written : Answer → List ℕ
bytes_written (wrote o) = o
bytes_written (refused r) = []

-- The outputs, joined.
unfoldable pub outputs : Feed → List Call → List ℕ
outputs f [] = []
outputs f (c ∷ cs) = bytes_written (answer f c) ++ outputs (next f c) cs

-- The bytes of a piece that was taken.
abbrev pub bytes_taken : Call → Answer → List ℕ
bytes_taken (piece b out) (wrote o) = b
bytes_taken (piece b out) (refused r) = []
bytes_taken (end out) a = []

-- The thread: the pieces that were taken, joined.
unfoldable pub thread : Feed → List Call → List ℕ
thread f [] = []
thread f (c ∷ cs) = bytes_taken c (answer f c) ++ thread (next f c) cs

-- The characters that a call completes, each with the policy in force when its last byte was fed.
abbrev pub chars_taken : Feed → Call → Answer → List Fed
chars_taken f (piece b out) (wrote o) = fed_by f b
chars_taken f (piece b out) (refused r) = []
chars_taken f (end out) a = []

unfoldable pub all_fed : Feed → List Call → List Fed
all_fed f [] = []
all_fed f (c ∷ cs) = chars_taken f c (answer f c) ++ all_fed (next f c) cs
