-- How a call is answered: which tests passed before, and which one failed.
use mathlib.Core.Path.{◌≡◌, refl}
use mathlib.Core.Bool.{Bool, true, false, cond, not}
use mathlib.Core.List.{List, ◌++◌}
use Prim.Native.Nat.{ℕ, ◌+◌, ◌-◌, ◌≤◌, ◌<◌}
use lib.Dec.{eqb, leb}
use lib.ListN.{length}
use borrow.Author.Tests.{eqb-false, eqb-true, leb-false, leb-true}
use Rattle.base.specs.Refusals.{text_limit}
use Rattle.base.specs.declared.Refusal.TheVariants.{FeedEnded, NotWellFormed, OutputTooShort, TextTooLong, UnfinishedCharacter}
use Rattle.utf8.specs.Rfc3629.{encode_all, valid_up_to_of}
use Rattle.utf8.specs.Subparts.{unfinished}
use Rattle.scanner.specs.declared.char_class.Class.TheVariants.{Other as other}
use Rattle.feed.specs.Feed.{piece_room, settle, take_chars}
use Rattle.feed.specs.Calls.{Answer, Call, Feed, answer, end, fed_by, piece, refused, rest_by, wrote}

pub data Answered (f : Feed) : Call → Answer → Type 0 where
  piece_9 : {b out : List ℕ} → f.ended ≡ true → Answered f (piece b out) (refused FeedEnded)
  piece_1 : {b out : List ℕ} → f.ended ≡ false → text_limit < f.len + length b → Answered f (piece b out) (refused TextTooLong)
  piece_3 : {b out : List ℕ} → f.ended ≡ false → f.len + length b ≤ text_limit → unfinished (rest_by f b) ≡ false
      → Answered f (piece b out) (refused (NotWellFormed (f.len - length f.rest + valid_up_to_of (f.rest ++ b))))
  piece_8 : {b out : List ℕ} → f.ended ≡ false → f.len + length b ≤ text_limit → unfinished (rest_by f b) ≡ true
      → length out < piece_room (length b) → Answered f (piece b out) (refused (OutputTooShort (piece_room (length b))))
  piece_taken_lem : {b out : List ℕ} → f.ended ≡ false → f.len + length b ≤ text_limit → unfinished (rest_by f b) ≡ true
      → piece_room (length b) ≤ length out
      → Answered f (piece b out) (wrote (encode_all (take_chars f.pending (fed_by f b)).1.text))
  end_9 : {out : List ℕ} → f.ended ≡ true → Answered f (end out) (refused FeedEnded)
  end_10 : {out : List ℕ} → f.ended ≡ false → (length f.rest ≡ 0 → ⊥) → Answered f (end out) (refused UnfinishedCharacter)
  end_8 : {out : List ℕ} → f.ended ≡ false → length f.rest ≡ 0 → length out < piece_room 0
      → Answered f (end out) (refused (OutputTooShort (piece_room 0)))
  end_taken_lem : {out : List ℕ} → f.ended ≡ false → length f.rest ≡ 0 → piece_room 0 ≤ length out
      → Answered f (end out) (wrote (encode_all (settle f.pending other).text))

pub answered : (f : Feed) (c : Call) → Answered f c (answer f c)
unfolding answer
answered f (piece b out) =
    go f.ended refl (leb (f.len + length b) text_limit) refl (unfinished (rest_by f b)) refl
    (leb (piece_room (length b)) (length out)) refl
  where
    go : (a : Bool) → f.ended ≡ a → (d : Bool) → leb (f.len + length b) text_limit ≡ d → (e : Bool) → unfinished (rest_by f b) ≡ e
        → (g : Bool)
        → leb (piece_room (length b)) (length out) ≡ g
        → Answered f (piece b out) (cond a (refused FeedEnded) (cond (not d) (refused TextTooLong)
        (cond (not e) (refused (NotWellFormed (f.len - length f.rest + valid_up_to_of (f.rest ++ b))))
        (cond (not g) (refused (OutputTooShort (piece_room (length b))))
        (wrote (encode_all (take_chars f.pending (fed_by f b)).1.text))))))
    go true h d i e j g k = piece_9 h
    go false h false i e j g k = piece_1 h (leb-false _ _ i)
    go false h true i false j g k = piece_3 h (leb-true _ _ i) j
    go false h true i true j false k = piece_8 h (leb-true _ _ i) j (leb-false _ _ k)
    go false h true i true j true k = piece_taken_lem h (leb-true _ _ i) j (leb-true _ _ k)
answered f (end out) = go f.ended refl (eqb (length f.rest) 0) refl (leb (piece_room 0) (length out)) refl
  where
    go : (a : Bool) → f.ended ≡ a → (d : Bool) → eqb (length f.rest) 0 ≡ d → (e : Bool) → leb (piece_room 0) (length out) ≡ e
        → Answered f (end out) (cond a (refused FeedEnded) (cond (not d) (refused UnfinishedCharacter)
        (cond (not e) (refused (OutputTooShort (piece_room 0))) (wrote (encode_all (settle f.pending other).text)))))
    go true h d i e j = end_9 h
    go false h false i e j = end_10 h (eqb-false _ _ i)
    go false h true i false j = end_8 h (eqb-true _ _ i) (leb-false _ _ j)
    go false h true i true j = end_taken_lem h (eqb-true _ _ i) (leb-true _ _ j)
