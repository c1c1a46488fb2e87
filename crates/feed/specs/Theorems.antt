-- What is claimed of a feed. Each statement is proved in proofs/Claims.antt, under the same name in snake case.
use Rattle.std.specs.Prelude.{◌≡◌, Bool, true, false, List, [], ◌∷◌, ◌++◌, map, ℕ, ◌+◌, ◌*◌, ◌≤◌, ◌<◌, drop, length, Ok, Err}
use Rattle.base.specs.Words.{all_bytes}
use Rattle.base.specs.declared.Refusal.{Refusal}
use Rattle.base.specs.declared.Refusal.TheVariants.{FeedEnded, NotWellFormed, OutputTooShort, TextTooLong, UnfinishedCharacter}
use Rattle.utf8.specs.Rfc3629.{WellFormed, chars, encode_all, valid_up_to_of}
use Rattle.emoji.specs.Presentation.{as_selector, is_selector}
use Rattle.emoji.specs.Unicode.{has_variation_sequence}
use Rattle.emoji.specs.declared.presentation.Presentation.{Presentation}
use Rattle.policy.specs.PolicyBytes.{is_policy, policy_of}
use Rattle.policy.specs.declared.Policy.{Policy}
use Rattle.scanner.specs.declared.char_class.Class.TheVariants.{Other as other}
use Rattle.formatter.specs.Findings.{text_totals}
use Rattle.formatter.specs.Format.{formatted}
use Rattle.analysis.specs.Rules.{first_asked}
use Rattle.feed.specs.Feed.{Pending, base, nothing, settle}
use Rattle.feed.specs.Calls.{Call, end, piece}
use Rattle.feed.specs.Bytes.{
  Called,
  called,
  feed_after_calls,
  feed_of,
  has_ended,
  is_feed,
  joined_outputs,
  new_bytes,
  out_of,
  refuses,
  thread_of,
  totals_of,
}

-- The pieces of these calls are bytes, as every lent slice is.
pub data OfBytes : List Call → Type 0 where
  no_call : OfBytes []
  and_piece : {b out : List ℕ} {cs : List Call} → all_bytes b ≡ true → OfBytes cs → OfBytes (piece b out ∷ cs)
  and_end : {out : List ℕ} {cs : List Call} → OfBytes cs → OfBytes (end out ∷ cs)

-- A call is done: it writes some bytes, at most the given number, at the front of its output, and leaves the bytes after them.
pub record Done (r : Called) (out : List ℕ) (most : ℕ) : Type 0 where
  pub bytes : List ℕ
  pub answer : r.answer ≡ Ok (length bytes)
  pub out_bytes : r.out ≡ bytes ++ drop (length bytes) out
  pub room : length bytes ≤ most

-- Some bytes after these make them well-formed.
abbrev pub GoesOn : List ℕ → Type 0
GoesOn s = (t : List ℕ) × WellFormed (s ++ t)

-- The outcome r of a piece b with the output out, on the feed's bytes B after the thread T. E says whether the feed has ended. The tests
-- are 9, 1, 3 and 8, in this order. "A refused call changes neither feed nor output."
pub record NextPiece (B T : List ℕ) (E : Bool) (b out : List ℕ) (r : Called) : Type 0 where
  -- "9, a piece or an end for a feed already ended, tested before all else"
  pub ended : E ≡ true → r ≡ refuses (Err FeedEnded) B out
  -- "The length limit holds for the whole thread."
  pub long : E ≡ false → 16777217 ≤ length T + length b → r ≡ refuses (Err TextTooLong) B out
  -- Refusal 3 exactly where no thread that goes on is well-formed. "An ill-formed place is reported by its offset from the thread's start."
  pub ill_formed : E ≡ false → length T + length b ≤ 16777216 → (GoesOn (T ++ b) → ⊥)
      → r ≡ refuses (Err (NotWellFormed (valid_up_to_of (T ++ b)))) B out
  -- "A piece of n bytes that no other test refuses is taken if the output holds 4n + 16 bytes, else refusal 8 gives that figure"
  pub short : E ≡ false → length T + length b ≤ 16777216 → GoesOn (T ++ b) → length out < 4 * length b + 16
      → r ≡ refuses (Err (OutputTooShort (4 * length b + 16))) B out
  pub taken : E ≡ false → length T + length b ≤ 16777216 → GoesOn (T ++ b) → 4 * length b + 16 ≤ length out
      → Done r out (4 * length b + 10)

-- The outcome r of the end with the output out. The tests are 9, 10 and 8, in this order.
pub record NextEnd (B T : List ℕ) (E : Bool) (out : List ℕ) (r : Called) : Type 0 where
  pub ended : E ≡ true → r ≡ refuses (Err FeedEnded) B out
  -- "10, an end inside a character, tested after 9"
  pub unfinished : E ≡ false → (WellFormed T → ⊥) → r ≡ refuses (Err UnfinishedCharacter) B out
  -- "the end counts as a piece of 0 bytes"
  pub short : E ≡ false → WellFormed T → length out < 16 → r ≡ refuses (Err (OutputTooShort 16)) B out
  pub taken : E ≡ false → WellFormed T → 16 ≤ length out → Done r out 7

-- What a feed holds after these characters: "a last base that has a variation entry, with its selectors". It is the last character that is
-- no selector, if it has a variation entry; only selectors follow it. The base is held also where the policy would leave it alone.
pub data HeldLast (p : Policy) (cs : List ℕ) : Pending → Type 0 where
  only_selectors_lem : (s : List Presentation) → cs ≡ map as_selector s → HeldLast p cs nothing
  last_without_entry : (before : List ℕ) (c : ℕ) (s : List Presentation) → cs ≡ before ++ (c ∷ map as_selector s)
      → is_selector c ≡ false → has_variation_sequence c ≡ false → HeldLast p cs nothing
  last_with_entry : (before : List ℕ) (c : ℕ) (s : List Presentation) → cs ≡ before ++ (c ∷ map as_selector s)
      → has_variation_sequence c ≡ true → HeldLast p cs (base p c (first_asked s) (length s))

-- What is claimed of a feed begun with a policy, after a list of calls: B are its bytes, T is the thread, W are the joined outputs, and E
-- says whether it has ended.
pub record FeedInBytes (policy B T W : List ℕ) (E : Bool) : Type 0 where
  -- "At the end, the joined outputs and the totals equal those of the whole thread formatted in one call under the policy the feed began
  -- with."
  pub end_whole : E ≡ true → WellFormed T
  pub end_text : E ≡ true → W ≡ formatted T policy
  pub end_totals : E ≡ true → totals_of B ≡ text_totals T policy
  -- "Its eight totals can be read at any time: they are those of the whole characters fed so far, as if the thread ended there."
  pub totals : totals_of B ≡ text_totals (encode_all (chars T)) policy
  -- Before the end, the joined outputs and the held base, written as if the thread ended there, are the whole characters formatted.
  pub open_text : E ≡ false → W ++ encode_all (settle (feed_of B).pending other).text ≡ formatted (encode_all (chars T)) policy
  -- "A feed .. writes all but an unfinished character and a last base that has a variation entry, with its selectors."
  pub held : E ≡ false → HeldLast (policy_of policy) (chars T) (feed_of B).pending
  pub rest : E ≡ false → (feed_of B).rest ≡ drop (valid_up_to_of T) T
  -- The thread is within the length limit, and it can go on to be well-formed.
  pub within_limit_lem : length T ≤ 16777216
  pub goes_on : GoesOn T
  -- The bytes pass the test that every call makes, and the next call is answered as document 02 says.
  pub passes : is_feed B ≡ true
  pub next_piece : (b out : List ℕ) → NextPiece B T E b out (called B (piece b out))
  pub next_end : (out : List ℕ) → NextEnd B T E out (called B (end out))

-- Every list of calls, refused ones included, on a feed begun new with a policy and handed on from call to call.
unfoldable pub EveryFeedInBytes : Type 0
EveryFeedInBytes =
    (policy : List ℕ) → is_policy policy ≡ true → (cs : List Call) → OfBytes cs
    → FeedInBytes policy (feed_after_calls (new_bytes policy) cs) (thread_of (new_bytes policy) cs) (joined_outputs (new_bytes policy) cs)
    (has_ended (new_bytes policy) cs)

-- Any bytes as a feed: "for any other the answer is the program's choice, within the lent buffers, and a refusal still writes nothing."
unfoldable pub RefusalsWriteNothing : Type 0
RefusalsWriteNothing =
    (bs : List ℕ) (c : Call) (r : Refusal) → (called bs c).answer ≡ Err r
    → ((called bs c).feed ≡ bs) × ((called bs c).out ≡ out_of c)
