-- The values of the answers of a feed's calls are small, for any bytes.
use Rattle.base.specs.declared.Refusal.{Refusal}
use Rattle.base.specs.Answers.{answer_row}
use Rattle.std.specs.Prelude.{Ok, Err, Result, Some, None}
use mathlib.Core.Path.{◌≡◌, refl, subst}
use mathlib.Core.Bool.{Bool, true, false, cond}
use mathlib.Core.List.{List, [], ◌++◌}
use Prim.Native.Nat.{ℕ, ◌≤◌}
use native.Mathlib.Omega.{arith}
use lib.Dec.{leb}
use lib.ListN.{length, length-append}
use Rattle.base.specs.Output.{answer_of}
use Rattle.base.specs.Refusals.{or_else, unwritten, written}
use Rattle.base.specs.Words.{bytes_of}
use Rattle.base.specs.declared.Refusal.TheVariants.{FeedEnded, OutputTooShort}
use Rattle.base.proofs.Numbers.{length_bytes_of_lem}
use Rattle.utf8.specs.Subparts.{unfinished}
use Rattle.utf8.proofs.Texts.{valid_up_to_le}
use Rattle.utf8.proofs.Unfinished.{unfinished-few}
use Rattle.policy.specs.PolicyBytes.{is_policy, policy_fault, policy_refusal}
use Rattle.policy.proofs.Refusals.{fault_value}
use Rattle.scanner.specs.declared.char_class.Class.TheVariants.{Other as other}
use Rattle.formatter.specs.List.{count_numbers}
use Rattle.feed.specs.Bytes.{feed_of, leaves, out_of, refuses}
use Rattle.feed.specs.Calls.{Answer, Call, Feed, after, answer, refused, wrote}
use Rattle.feed.specs.Calls as Feed
use Rattle.feed.proofs.Answered.{
  Answered,
  answered,
  end_10,
  end_8,
  end_9,
  end_taken_lem,
  piece_1,
  piece_3,
  piece_8,
  piece_9,
  piece_taken_lem,
}
use Rattle.feed.proofs.PieceRoom.{held-few, piece_bytes, settle_bytes}
use Rattle.policy_change.specs.Calls as Changes
use Rattle.policy_change.specs.Calls.{after_call, answer_to}
use Rattle.policy_change.specs.Bytes.{
  begun_changing,
  called_on,
  changing_feed,
  changing_totals,
  feed_part,
  is_changing,
  leaves_after,
  new_changing,
  out_of as out_before,
}
use Rattle.feeding.proofs.LaterPieces.{part-feed}
use Rattle.feeding.proofs.Settling.{feed_unfinished, short_len}
use Rattle.tilghorz.proofs.SmallAnswers.{most}

pub begun-small : (policy feed : List ℕ) → (answer_row (begun_changing policy feed).answer).value ≤ most
unfolding begun_changing answer_row policy_refusal
begun-small policy feed = go (is_policy policy) (leb 528 (length feed))
  where
    go : (a b : Bool) → (answer_row (or_else (cond a None (Some (policy_fault policy))) (λ r. unwritten (Err r) feed)
        (cond b (written (Ok 528) (new_changing policy) feed) (unwritten (Err (OutputTooShort 528)) feed))).answer).value ≤ most
    go true true = omega arith
    go true false = omega arith
    go false b = omega (arith, fault_value policy)

-- The answer of a feed whose rest is unfinished and whose length is within the limit.
answer-small : (f : Feed) → f.len ≤ 16777216 → unfinished f.rest ≡ true → (bs : List ℕ) {c : Call} {a : Answer} → Answered f c a
    → (answer_row (leaves bs (out_of c) (after f c a) a).answer).value ≤ most
unfolding answer_row
answer-small f l u bs (piece_9 h) = omega arith
answer-small f l u bs (piece_1 h m) = omega arith
answer-small f l u bs (piece_3 {b = b} h m n) =
    omega (arith, valid_up_to_le (f.rest ++ b), length-append f.rest b, unfinished-few f.rest u)
answer-small f l u bs (piece_8 h m n r) = omega arith
answer-small f l u bs (piece_taken_lem {b = b} h m n r) = omega (arith, piece_bytes f b u)
answer-small f l u bs (end_9 h) = omega arith
answer-small f l u bs (end_10 h n) = omega arith
answer-small f l u bs (end_8 h n r) = omega arith
answer-small f l u bs (end_taken_lem h n r) = omega (arith, settle_bytes f.pending other, held-few f.pending)

same_answer : (bs out : List ℕ) (c : Changes.Call) (f g : Feed) (a : Answer) → (leaves bs out f a).answer ≡ (leaves_after bs c g a).answer
same_answer bs out c f g (wrote o) = refl
same_answer bs out c f g (refused r) = refl

module _ (bs : List ℕ) (c : Changes.Call) where
  abbrev f : Feed
  f = changing_feed bs

  len : is_changing bs ≡ true → (changing_feed bs).len ≤ 16777216
  unfolding changing_feed feed_of
  len e = short_len (feed_part bs) (part-feed bs e)

  rest : is_changing bs ≡ true → unfinished (changing_feed bs).rest ≡ true
  unfolding changing_feed feed_of
  rest e = feed_unfinished (feed_part bs) (part-feed bs e)

  fed : is_changing bs ≡ true → (d : Call) (g : Feed) → (answer_row (leaves_after bs c g (answer f d)).answer).value ≤ most
  fed e d g =
      subst (λ (x : Result ℕ Refusal). (answer_row x).value ≤ most) (same_answer bs (out_of d) c (after f d (answer f d)) g (answer f d))
      (answer-small f (len e) (rest e) bs (answered f d))

  changed : (policy : List ℕ) (t o : Bool) (g : Feed) → (answer_row (leaves_after bs c g
      (cond t (refused FeedEnded) (or_else (cond o None (Some (policy_fault policy))) refused (wrote [])))).answer).value ≤ most
  unfolding answer_row
  changed policy true o g = omega arith
  changed policy false true g = omega arith
  changed policy false false g = omega (arith, fault_value policy)

  on : is_changing bs ≡ true → (d : Changes.Call) (g : Feed) → (answer_row (leaves_after bs c g (answer_to f d)).answer).value ≤ most
  unfolding answer_to policy_refusal
  on e (Changes.piece b out) g = fed e (Feed.piece b out) g
  on e (Changes.end out) g = fed e (Feed.end out) g
  on e (Changes.change policy) g = changed policy f.ended (is_policy policy) g

  tested : (t : Bool) → is_changing bs ≡ t
      → (answer_row (cond t (leaves_after bs c (after_call f c (answer_to f c)) (answer_to f c)) (refuses (Err FeedEnded) bs
      (out_before c))).answer).value ≤ most
  unfolding answer_row
  tested true e = on e c (after_call f c (answer_to f c))
  tested false e = omega arith

  pub called-small : (answer_row (called_on bs c).answer).value ≤ most
  unfolding called_on
  called-small = tested (is_changing bs) refl

pub totals-small : (feed out : List ℕ) → (answer_row (answer_of (bytes_of (count_numbers (changing_totals feed))) out)).value ≤ most
unfolding answer_of answer_row
totals-small feed out = go (leb (length B) (length out)) (length_bytes_of_lem (count_numbers (changing_totals feed)))
  where
    B : List ℕ
    B = bytes_of (count_numbers (changing_totals feed))

    go : (b : Bool) → length B ≡ 64 → (answer_row (cond b (Ok (length B)) (Err (OutputTooShort (length B))))).value ≤ most
    go true h = omega arith
    go false h = omega arith
