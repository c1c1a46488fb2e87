-- A feed in lent bytes (document 02, iii): which bytes are a feed, and what each call answers and leaves in the lent buffers, for any
-- bytes. For a feed begun new and handed on from call to call, specs/Theorems.antt (EveryFeedInBytes) says what this amounts to.
use Rattle.emoji.specs.declared.presentation.Presentation.{Presentation}
use Rattle.base.specs.declared.Refusal.{Refusal}
use Rattle.std.specs.Prelude.{
  ◌≡◌,
  Bool,
  true,
  false,
  cond,
  not,
  ◌&&◌,
  ◌||◌,
  List,
  [],
  ◌∷◌,
  ◌++◌,
  ℕ,
  zero,
  suc,
  ◌%◌,
  eqb,
  leb,
  drop,
  length,
  take,
  Ok,
  Err,
  Some,
  None,
  Result,
  Option,
}
use Rattle.base.specs.Sums.{one_if}
use Rattle.base.specs.Answers.{Answers, answer_row}
use Rattle.base.specs.Refusals.{After, or_else, text_limit, unwritten, written}
use Rattle.base.specs.declared.Refusal.TheVariants.{FeedEnded, OutputTooShort}
use Rattle.base.specs.Words.{bytes_of, little_endian, number, word_at}
use Rattle.utf8.specs.Rfc3629.{is_scalar}
use Rattle.utf8.specs.Subparts.{unfinished}
use Rattle.emoji.specs.declared.presentation.Presentation.TheVariants.{Emoji, Text}
use Rattle.policy.specs.PolicyBytes.{is_policy, policy_of, policy_refusal}
use Rattle.policy.specs.declared.Policy.{Policy}
use Rattle.analysis.specs.Rules.{selector_number}
use Rattle.analysis.specs.Counts.{eight, empty}
use Rattle.analysis.specs.declared.types.NonCanonicality.{NonCanonicality}
use Rattle.formatter.specs.List.{count_numbers}
use Rattle.feed.specs.Feed.{Pending, base, nothing}
use Rattle.feed.specs.Calls.{Answer, Call, Feed, after, answer, end, new_feed, piece, refused, totals_now, wrote}
use Rattle.feed.specs.declared.Held.{Held}
use Rattle.feed.specs.declared.State.{State}

-- ---- the words

-- A feed is 15 words of 8 bytes, lowest byte first, and then the bytes of the policy.
abbrev pub state_bytes : ℕ
state_bytes = 120

abbrev pub feed_bytes : ℕ
feed_bytes = 320

-- The first selector as a word: 0 is none, 1 is Text, 2 is Emoji.
abbrev pub selector_of : ℕ → Option Presentation
selector_of w = cond (eqb w 0) None (cond (eqb w 1) (Some Text) (Some Emoji))

-- "Of the text it remembers only these: the base, its first selector, how many followed, and the unfinished character." The words are:
-- whether the feed has ended; the base, or 0 if none is held; its first selector; the number of its selectors; the number of unfinished
-- bytes; these bytes as a number; the number of bytes taken; the eight totals without the held base.
unfoldable pub held_of : List ℕ → Held
held_of bs = record { base = word_at 1 bs % 4294967296; first = selector_of (word_at 2 bs); count = word_at 3 bs }

unfoldable pub counts_of : List ℕ → NonCanonicality
counts_of bs =
    eight (word_at 7 bs) (word_at 8 bs) (word_at 9 bs) (word_at 10 bs) (word_at 11 bs) (word_at 12 bs) (word_at 13 bs) (word_at 14 bs)

unfoldable pub state_of : List ℕ → State
state_of bs = record {
  ended = not (eqb (word_at 0 bs) 0);
  held = held_of bs;
  rest_len = word_at 4 bs;
  rest = word_at 5 bs;
  len = word_at 6 bs;
  counts = counts_of bs;
}

unfoldable pub state_words : State → List ℕ
state_words s =
    one_if s.ended ∷ s.held.base ∷ selector_number s.held.first ∷ s.held.count ∷ s.rest_len ∷ s.rest ∷ s.len
    ∷ count_numbers s.counts

-- ---- the feed that bytes encode

abbrev pub pending_of : Policy → Held → Pending
pending_of p h = cond (eqb h.base 0) nothing (base p h.base h.first h.count)

abbrev pub rest_of : State → List ℕ
rest_of s = little_endian s.rest_len s.rest

abbrev pub policy_part : List ℕ → Policy
policy_part bs = policy_of (drop state_bytes bs)

unfoldable pub feed_of : List ℕ → Feed
feed_of bs = record {
  policy = policy_part bs;
  pending = pending_of (policy_part bs) (state_of bs).held;
  rest = rest_of (state_of bs);
  totals = (state_of bs).counts;
  len = (state_of bs).len;
  ended = (state_of bs).ended;
}

-- Each of the first k words is at most the length limit.
unfoldable pub small_to : ℕ → List ℕ → Bool
small_to zero bs = true
small_to (suc k) bs = leb (word_at k bs) text_limit && small_to k bs

-- What the calls test: the length of a feed; no word above the length limit; a base that is a scalar value; bytes that are unfinished; a
-- policy. Every feed that was begun new and handed on passes (EveryFeedInBytes).
unfoldable pub is_feed : List ℕ → Bool
is_feed bs =
    eqb (length bs) feed_bytes
    && (small_to 15 bs && (is_scalar (state_of bs).held.base && (unfinished (rest_of (state_of bs)) && is_policy (drop state_bytes bs))))

-- ---- the bytes that encode a feed

abbrev pub held_for : Pending → Held
held_for nothing = record { base = 0; first = None; count = 0 }
held_for (base p c f n) = record { base = c; first = f; count = n }

unfoldable pub state_for : Feed → State
state_for f = record {
  ended = f.ended;
  held = held_for f.pending;
  rest_len = length f.rest;
  rest = number f.rest;
  len = f.len;
  counts = f.totals;
}

-- The words of a feed, and then the given bytes of a policy.
unfoldable pub bytes_for : Feed → List ℕ → List ℕ
bytes_for f policy = bytes_of (state_words (state_for f)) ++ policy

-- ---- the calls, on any bytes

-- The answer of a piece or an end, and what both lent buffers hold after it.
pub record Called : Type 0 where
  pub answer : Result ℕ Refusal
  pub feed : List ℕ
  pub out : List ℕ

-- Contract of a piece and of an end: the answer that the definition gives, and both buffers as it says.
pub record EndsCalled (said : Called) (r : Result ℕ Refusal) (feed out : List ℕ) : Type 0 where
  pub answer : Answers answer_row said.answer r
  pub feed_bytes_lem : feed ≡ said.feed
  pub out_bytes : out ≡ said.out

-- "A refused call changes neither feed nor output."
abbrev pub refuses : Result ℕ Refusal → List ℕ → List ℕ → Called
refuses a bs out = record { answer = a; feed = bs; out = out }

abbrev pub leaves : List ℕ → List ℕ → Feed → Answer → Called
leaves bs out f (wrote o) =
    record { answer = Ok (length o); feed = bytes_for f (drop state_bytes bs); out = o ++ drop (length o) out }
leaves bs out f (refused r) = refuses (Err r) bs out

-- The output of a call before it.
abbrev pub out_of : Call → List ℕ
out_of (piece b out) = out
out_of (end out) = out

-- A call on bytes. If the bytes are no feed, the answer is refusal 9: "for any other the answer is the program's choice, within the lent
-- buffers, and a refusal still writes nothing."
unfoldable pub called : List ℕ → Call → Called
called bs c =
    let a = answer (feed_of bs) c in
    cond (is_feed bs) (leaves bs (out_of c) (after (feed_of bs) c a) a) (refuses (Err FeedEnded) bs (out_of c))

-- "Its eight totals can be read at any time". Bytes that are no feed have totals of 0.
unfoldable pub totals_of : List ℕ → NonCanonicality
totals_of bs = cond (is_feed bs) (totals_now (feed_of bs)) empty

-- A new feed. Its words and its policy are written at the front. Refusals 2 and 8, in this order.
unfoldable pub new_bytes : List ℕ → List ℕ
new_bytes policy = bytes_for (new_feed (policy_of policy)) policy

unfoldable pub begun : List ℕ → List ℕ → After (Result ℕ Refusal) ℕ
begun policy feed =
    or_else (policy_refusal policy) (λ r. unwritten (Err r) feed)
    (cond (leb feed_bytes (length feed)) (written (Ok feed_bytes) (new_bytes policy) feed)
    (unwritten (Err (OutputTooShort feed_bytes)) feed))

-- ---- lists of calls on a feed's bytes, which are handed on from call to call, refused calls included

unfoldable pub feed_after_calls : List ℕ → List Call → List ℕ
feed_after_calls bs [] = bs
feed_after_calls bs (c ∷ cs) = feed_after_calls (called bs c).feed cs

-- What a call wrote: the front of its output.
abbrev pub output_of : Called → Result ℕ Refusal → List ℕ
output_of r (Ok n) = take n r.out
output_of r (Err f) = []

unfoldable pub joined_outputs : List ℕ → List Call → List ℕ
joined_outputs bs [] = []
joined_outputs bs (c ∷ cs) = output_of (called bs c) (called bs c).answer ++ joined_outputs (called bs c).feed cs

-- The thread: the pieces that were taken.
abbrev pub piece_taken : Call → Result ℕ Refusal → List ℕ
piece_taken (piece b out) (Ok n) = b
piece_taken (piece b out) (Err r) = []
piece_taken (end out) a = []

unfoldable pub thread_of : List ℕ → List Call → List ℕ
thread_of bs [] = []
thread_of bs (c ∷ cs) = piece_taken c (called bs c).answer ++ thread_of (called bs c).feed cs

-- Whether one of the calls ended the feed.
abbrev pub end_taken : Call → Result ℕ Refusal → Bool
end_taken (piece b out) a = false
end_taken (end out) (Ok n) = true
end_taken (end out) (Err r) = false

unfoldable pub has_ended : List ℕ → List Call → Bool
has_ended bs [] = false
has_ended bs (c ∷ cs) = end_taken c (called bs c).answer || has_ended (called bs c).feed cs
