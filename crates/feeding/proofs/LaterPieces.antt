-- The outcomes of a piece for a feed whose policy has changed since its held base was fed, by its tests. The first 320 of the bytes are a
-- feed of crate feed, whose policy judges this base.
use Rattle.std.specs.Prelude.{Ok, Err}
use mathlib.Core.Path.{◌≡◌, refl, ap, ap₂, sym, ◌∙◌, subst}
use mathlib.Core.Bool.{Bool, true, false, cond, not, ◌&&◌, ◌||◌}
use mathlib.Core.List.{List, ◌++◌, append_assoc, append-nil}
use Prim.Native.Nat.{ℕ, ◌+◌, ◌-◌, ◌*◌, ◌%◌, ◌≤◌, ◌<◌}
use native.Mathlib.Omega.{arith}
use lib.Dec.{eqb}
use lib.ListN.{drop, length, length-append, length-drop, take, take-append-drop}
use lib.Seq.{drop-append-le, drop_at, drop-drop, drop-length, length-sets, length-take-le, sets, sets-eq, take-append-le, take_at}
use borrow.Author.Tests.{eqb-true, le-leb, lt-leb}
use Rattle.base.specs.Output.{PutAt, room_for}
use Rattle.base.specs.Refusals.{text_limit}
use Rattle.base.specs.Words.{bytes_of, has_room, number, word_at, word_bytes}
use Rattle.base.proofs.Tests.{both_true}
use Rattle.base.proofs.Output.{bytes_put}
use Rattle.base.proofs.Words.{length_word_bytes, word_put}
use Rattle.base.specs.declared.Refusal.TheVariants.{FeedEnded, NotWellFormed, OutputTooShort, TextTooLong}
use Rattle.utf8.specs.Rfc3629.{chars, encode_all, valid_up_to_of}
use Rattle.utf8.specs.Subparts.{unfinished}
use Rattle.policy.specs.PolicyBytes.{is_policy, policy_of}
use Rattle.policy.specs.declared.Policy.{Policy}
use Rattle.analysis.specs.Counts.{eight, total}
use Rattle.analysis.specs.declared.types.NonCanonicality.{NonCanonicality}
use Rattle.feed.specs.Feed.{fed_as, take_chars}
use Rattle.feed.specs.Calls.{Feed, after_piece, answer}
use Rattle.feed.specs.Bytes.{
  Called,
  bytes_for,
  counts_of,
  feed_of,
  held_for,
  held_of,
  is_feed,
  pending_of,
  policy_part,
  refuses,
  rest_of,
  selector_of,
  state_for,
  state_of,
  state_words,
}
use Rattle.feed.specs.declared.Held.{Held}
use Rattle.feed.specs.declared.State.{State}
use Rattle.feed.proofs.PieceRoom.{piece_bytes}
use Rattle.feed.proofs.Writing.{words_many}
use Rattle.policy_change.proofs.Testing.{policy-lent}
use Rattle.policy_change.specs.Calls.{after_call, answer_to, piece, under}
use Rattle.policy_change.specs.Bytes.{
  called_on,
  changing_feed,
  feed_part,
  is_changed,
  is_changing,
  kept_bytes,
  later_policy,
  leaves_after,
  only_selectors,
  settled_bytes,
}
use Rattle.feeding.specs.Helpers.{LeftAt, open_state}
use Rattle.feeding.specs.Later.{TakenLater}
use Rattle.feeding.specs.declared.Left.{Left}
use Rattle.feeding.specs.declared.later.Later.{Later}
use Rattle.feeding.proofs.Ending.{front, length_bytes_of}
use Rattle.feeding.proofs.Settling.{feed_unfinished, few-held, few-stored, short_len}

-- ---- bytes

-- Bytes in the middle are written anew.
pub seam : (a x c y : List ℕ) (n : ℕ) → length a ≡ n → length x ≡ length y → sets (a ++ (x ++ c)) n y ≡ a ++ (y ++ c)
seam a x c y n l m =
    sets-eq y (a ++ (x ++ c)) n (omega (arith, length-append a (x ++ c), length-append x c))
    ∙ append_assoc (take n (a ++ (x ++ c))) y (drop (n + length y) (a ++ (x ++ c)))
    ∙ ap₂ (λ (u v : List ℕ). u ++ (y ++ v)) (take_at a (x ++ c) n l)
    (sym (drop-drop (length y) n (a ++ (x ++ c))) ∙ ap (drop (length y)) (drop_at a (x ++ c) n l) ∙ drop_at x c (length y) m)

-- The policy in force is copied, and the word is 0.
pub adopted : (bs z : List ℕ) {x y b₁ b₂ : List ℕ} {t : Bool} → length bs ≡ 528 → length z ≡ 200 → x ≡ drop 328 bs
    → y ≡ cond (room_for x z 0) (sets z 0 x) z → b₁ ≡ cond (room_for y bs 120) (sets bs 120 y) bs
    → b₂ ≡ cond (has_room b₁ 320) (sets b₁ 320 (word_bytes 0)) b₁ → t ≡ true
    → b₂ ≡ cond t (sets (sets bs 120 (drop 328 bs)) 320 (word_bytes 0)) bs
adopted bs z {x} {y} {b₁} {b₂} {t} h l e a b c i =
    let P = drop 328 bs in
    let n : length P ≡ 200 = omega (arith, length-drop 328 bs) in
    let m : length x ≡ 200 = omega (arith, ap length e) in
    let w : 0 + length x ≡ length z = omega arith in
    let Y : y ≡ P =
    (bytes_put z y 0 x (omega arith) a).bytes ∙ sets-eq x z 0 (omega arith)
    ∙ ap (λ (k : ℕ). x ++ drop k z) w ∙ ap (λ (l : List ℕ). x ++ l) (drop-length z) ∙ append-nil x ∙ e in
    let B : b₁ ≡ sets bs 120 P = (bytes_put bs b₁ 120 y (omega (arith, ap length Y)) b).bytes ∙ ap (sets bs 120) Y in
    let k : length b₁ ≡ 528 = ap length B ∙ length-sets bs 120 P ∙ h in
    (word_put b₁ b₂ 320 0 (omega arith) c).bytes
    ∙ ap (λ (l : List ℕ). sets l 320 (word_bytes 0)) B
    ∙ sym (ap (λ (u : Bool). cond u (sets (sets bs 120 P) 320 (word_bytes 0)) bs) i)

module _ (bs : List ℕ) where
  abbrev A : List ℕ
  A = feed_part bs

  abbrev D : List ℕ
  D = drop 320 bs

  abbrev P : List ℕ
  P = later_policy bs

  abbrev S : State
  S = state_of (feed_part bs)

  module _ (e : is_changing bs ≡ true) where
    tests : (length bs ≡ 528) × (is_feed A ≡ true)
    unfolding is_changing
    tests =
        let a = both_true (eqb (length bs) 528) (is_feed A && (not (is_changed bs) || is_policy P)) e in
        (eqb-true (length bs) 528 a.0, (both_true (is_feed A) (not (is_changed bs) || is_policy P) a.1).0)

    pub changing-length : length bs ≡ 528
    changing-length = tests.0

    pub part-feed : is_feed (feed_part bs) ≡ true
    part-feed = tests.1

  module _ (h : length bs ≡ 528) where
    part_length : length A ≡ 320
    part_length = length-take-le 320 bs (omega arith)

    word-front : (k : ℕ) → k < 15 → word_at k bs ≡ word_at k A
    word-front k l =
        let m = part_length in
        ap (λ (x : List ℕ). number (take 8 (drop (8 * k) x))) (sym (take-append-drop 320 bs))
        ∙ ap (λ (x : List ℕ). number (take 8 x)) (drop-append-le (8 * k) A D (omega arith))
        ∙ ap number (take-append-le 8 (drop (8 * k) A) D (omega (arith, length-drop (8 * k) A)))

    state-front : state_of bs ≡ state_of (feed_part bs)
    unfolding state_of held_of counts_of
    state-front = λ i. record {
      ended = not (eqb (word-front 0 (omega arith) i) 0);
      held = record {
        base = word-front 1 (omega arith) i % 4294967296;
        first = selector_of (word-front 2 (omega arith) i);
        count = word-front 3 (omega arith) i;
      };
      rest_len = word-front 4 (omega arith) i;
      rest = word-front 5 (omega arith) i;
      len = word-front 6 (omega arith) i;
      counts = eight (word-front 7 (omega arith) i) (word-front 8 (omega arith) i) (word-front 9 (omega arith) i)
          (word-front 10 (omega arith) i) (word-front 11 (omega arith) i) (word-front 12 (omega arith) i) (word-front 13 (omega arith) i)
          (word-front 14 (omega arith) i);
    }

    after-words : drop 120 bs ≡ drop 120 A ++ D
    after-words =
        let m = part_length in
        ap (drop 120) (sym (take-append-drop 320 bs)) ∙ drop-append-le 120 A D (omega arith)

    -- The earlier policy, as it is lent to a function.
    own-lent : take (320 - 120) (drop 120 bs) ≡ drop 120 (feed_part bs)
    own-lent =
        let m = part_length in
        ap (take 200) after-words ∙ take_at (drop 120 A) D 200 (omega (arith, length-drop 120 A))

    tail-parted : D ≡ take 8 D ++ P
    tail-parted = sym (take-append-drop 8 D) ∙ ap (λ (l : List ℕ). take 8 D ++ l) (drop-drop 8 320 bs)

    -- The bytes after the words of a state were written, and after the policy in force took the place of the earlier one.
    module _ (f : Feed) {bs₁ : List ℕ} (w : bs₁ ≡ bytes_of (state_words (state_for f)) ++ drop 120 bs) where
      abbrev Ws : List ℕ
      Ws = bytes_of (state_words (state_for f))

      kept_is : bs₁ ≡ kept_bytes bs f
      unfolding bytes_for
      kept_is = w ∙ ap (λ (l : List ℕ). Ws ++ l) after-words ∙ sym (append_assoc Ws (drop 120 A) D)

      later_same : drop 328 bs₁ ≡ P
      later_same =
          sym (drop-drop 208 120 bs₁) ∙ ap (λ (l : List ℕ). drop 208 (drop 120 l)) w
          ∙ ap (drop 208) (drop_at Ws (drop 120 bs) 120 (words_many (state_for f))) ∙ drop-drop 208 120 bs

      settled_is : sets (sets bs₁ 120 (drop 328 bs₁)) 320 (word_bytes 0) ≡ settled_bytes bs f
      unfolding bytes_for
      settled_is =
          let m = part_length in
          let v = words_many (state_for f) in
          let Q = drop 120 A in
          let T = take 8 D in
          let lp : length P ≡ 200 = omega (arith, length-drop 328 bs) in
          let lq : length Q ≡ 200 = omega (arith, length-drop 120 A) in
          let lt : length T ≡ 8 = length-take-le 8 D (omega (arith, length-drop 320 bs)) in
          let vp : length (Ws ++ P) ≡ 320 = omega (arith, length-append Ws P) in
          ap₂ (λ (l y : List ℕ). sets (sets l 120 y) 320 (word_bytes 0)) (w ∙ ap (λ (l : List ℕ). Ws ++ l) after-words) later_same
          ∙ ap (λ (l : List ℕ). sets l 320 (word_bytes 0))
          (seam Ws Q D P 120 v (omega arith) ∙ ap (λ (l : List ℕ). Ws ++ (P ++ l)) tail-parted ∙ sym (append_assoc Ws P (T ++ P)))
          ∙ seam (Ws ++ P) T P (word_bytes 0) 320 vp (omega (arith, length_word_bytes 0))

      pub bytes_after : (t : Bool)
          → cond t (sets (sets bs₁ 120 (drop 328 bs₁)) 320 (word_bytes 0)) bs₁ ≡ cond t (settled_bytes bs f) (kept_bytes bs f)
      bytes_after true = settled_is
      bytes_after false = kept_is

  -- The state that was read from all the bytes.
  pub state-read : {s : State} → is_changing bs ≡ true → (120 ≤ length bs → s ≡ state_of bs) → s ≡ state_of (feed_part bs)
  state-read e f = let h = changing-length e in f (omega arith) ∙ state-front h

  -- ---- the tests of a piece

  abbrev p : Policy
  p = policy_of (later_policy bs)

  abbrev q : Policy
  q = policy_part (feed_part bs)

  -- Both policies, as they are lent.
  abbrev p_lent : Policy
  p_lent = policy_of (take (length bs - 328) (drop 328 bs))

  abbrev q_lent : Policy
  q_lent = policy_of (take (320 - 120) (drop 120 bs))

  q_is : is_changing bs ≡ true → q_lent ≡ q
  q_is e = ap policy_of (own-lent (changing-length e))

  p_is : p_lent ≡ p
  p_is = ap policy_of (policy-lent bs)

  pub lent-taken : {h : Held} {n : NonCanonicality} {cs ds o o' : List ℕ} {r : Later} → is_changing bs ≡ true → ds ≡ cs
      → TakenLater q_lent p_lent h n cs o o' r → TakenLater q p h n ds o o' r
  lent-taken {h} {n} {cs} {ds} {o} {o'} {r} e c t =
      subst (λ (y : Policy). TakenLater y p h n ds o o' r) (q_is e)
      (subst (λ (y : Policy). TakenLater q_lent y h n ds o o' r) p_is
      (subst (λ (l : List ℕ). TakenLater q_lent p_lent h n l o o' r) (sym c) t))

  module _ (b : List ℕ) where
    abbrev joined : State → List ℕ
    joined s = rest_of s ++ b

    abbrev U : List ℕ
    U = joined S

    pub few-later : {s : State} → is_feed (feed_part bs) ≡ true → s ≡ state_of (feed_part bs) → total s.counts + s.held.count ≤ 160000000
    few-later e i = omega (arith, ap (λ (y : State). total y.counts + y.held.count) i, few-stored A e, few-held A e)

    text-later : {s : State} → is_feed (feed_part bs) ≡ true → s ≡ state_of (feed_part bs)
        → length (encode_all (take_chars (pending_of q s.held) (fed_as p (chars (joined s)))).1.text) ≤ 4 * length b + 10
    unfolding feed_of
    text-later e i =
        subst
        (λ (y : State). length (encode_all (take_chars (pending_of q y.held) (fed_as p (chars (joined y)))).1.text) ≤ 4 * length b + 10)
        (sym i) (piece_bytes (under p (feed_of A)) b (feed_unfinished A e))

    pub lent-text : {s : State} {cs : List ℕ} → is_changing bs ≡ true → s ≡ state_of (feed_part bs) → chars (joined s) ≡ cs
        → length (encode_all (take_chars (pending_of q_lent s.held) (fed_as p_lent cs)).1.text) ≤ 4 * length b + 10
    lent-text {s} {cs} e i c =
        let m : length (encode_all (take_chars (pending_of q s.held) (fed_as p (chars (joined s)))).1.text)
        ≡ length (encode_all (take_chars (pending_of q_lent s.held) (fed_as p_lent cs)).1.text) =
        λ j. length (encode_all (take_chars (pending_of (sym (q_is e) j) s.held) (fed_as (sym p_is j) (c j))).1.text) in
        subst (λ (n : ℕ). n ≤ 4 * length b + 10) m (text-later (part-feed e) i)

    module _ (out : List ℕ) where
      pub later-9 : {s : State} → is_changing bs ≡ true → s ≡ state_of (feed_part bs) → s.ended ≡ true
          → refuses (Err FeedEnded) bs out ≡ called_on bs (piece b out)
      unfolding called_on answer_to answer changing_feed feed_of
      later-9 e i t = let d : S.ended ≡ true = ap (λ (y : State). y.ended) (sym i) ∙ t in sym (simp (e, d))

      pub later-1 : {s : State} → is_changing bs ≡ true → s ≡ state_of (feed_part bs) → s.ended ≡ false → 16777216 - s.len < length b
          → refuses (Err TextTooLong) bs out ≡ called_on bs (piece b out)
      unfolding called_on answer_to answer changing_feed feed_of
      later-1 {s} e i t h =
          let d : S.ended ≡ false = ap (λ (y : State). y.ended) (sym i) ∙ t in
          let l : text_limit < S.len + length b = omega (arith, ap (λ (y : State). y.len) i, short_len A (part-feed e)) in
          sym (simp (e, d, lt-leb (S.len + length b) text_limit l))

      three-is : is_changing bs ≡ true → S.ended ≡ false → length b ≤ 16777216 - S.len → unfinished (drop (valid_up_to_of U) U) ≡ false
          → refuses (Err (NotWellFormed (S.len - S.rest_len + valid_up_to_of U))) bs out ≡ called_on bs (piece b out)
      unfolding called_on answer_to answer changing_feed feed_of
      three-is e t h n =
          sym (simp (e, t, le-leb (S.len + length b) text_limit (omega (arith, short_len A (part-feed e))), n, length_bytes_of))

      pub later-3 : {s : State} {v m : ℕ} {l : Left} → is_changing bs ≡ true → s ≡ state_of (feed_part bs) → s.ended ≡ false
          → length b ≤ 16777216 - s.len → v ≡ valid_up_to_of (joined s) → LeftAt (joined s) v l → l.good ≡ false → m ≡ s.len - s.rest_len
          → refuses (Err (NotWellFormed (m + v))) bs out ≡ called_on bs (piece b out)
      later-3 {s} {v} {m} {l} e i t h j k g d =
          let Q : v ≡ valid_up_to_of U = j ∙ ap (λ (y : State). valid_up_to_of (joined y)) i in
          let M : m ≡ S.len - S.rest_len = d ∙ ap (λ (y : State). y.len - y.rest_len) i in
          let G : unfinished (drop (valid_up_to_of U) U) ≡ false =
          ap₂ (λ (n : ℕ) (y : State). unfinished (drop n (joined y))) (sym Q) (sym i) ∙ sym k.good ∙ g in
          ap₂ (λ (x y : ℕ). refuses (Err (NotWellFormed (x + y))) bs out) M Q
          ∙ three-is e (ap (λ (y : State). y.ended) (sym i) ∙ t) (omega (arith, ap (λ (y : State). y.len) i)) G

      good-at : {s : State} {v : ℕ} {l : Left} → s ≡ S → v ≡ valid_up_to_of (joined s) → LeftAt (joined s) v l → l.good ≡ true
          → unfinished (drop (valid_up_to_of U) U) ≡ true
      good-at {s} {v} i j k g =
          ap₂ (λ (n : ℕ) (y : State). unfinished (drop n (joined y))) (sym (j ∙ ap (λ (y : State). valid_up_to_of (joined y)) i)) (sym i)
          ∙ sym k.good ∙ g

      eight_is : is_changing bs ≡ true → S.ended ≡ false → length b ≤ 16777216 - S.len → unfinished (drop (valid_up_to_of U) U) ≡ true
          → length out < 4 * length b + 16 → refuses (Err (OutputTooShort (4 * length b + 16))) bs out ≡ called_on bs (piece b out)
      unfolding called_on answer_to answer changing_feed feed_of
      eight_is e t h n l =
          sym (simp (
            e,
            t,
            le-leb (S.len + length b) text_limit (omega (arith, short_len A (part-feed e))),
            n,
            lt-leb (4 * length b + 16) (length out) l,
          ))

      pub later-8 : {s : State} {v : ℕ} {l : Left} → is_changing bs ≡ true → s ≡ state_of (feed_part bs) → s.ended ≡ false
          → length b ≤ 16777216 - s.len → v ≡ valid_up_to_of (joined s) → LeftAt (joined s) v l → l.good ≡ true
          → length out < 4 * length b + 16 → refuses (Err (OutputTooShort (4 * length b + 16))) bs out ≡ called_on bs (piece b out)
      later-8 e i t h j k g l =
          eight_is e (ap (λ (y : State). y.ended) (sym i) ∙ t) (omega (arith, ap (λ (y : State). y.len) i)) (good-at i j k g) l

      -- ---- a piece that is taken

      abbrev W : List ℕ
      W = encode_all (take_chars (pending_of q S.held) (fed_as p (chars U))).1.text

      abbrev G₁ : Feed
      G₁ = under p (feed_of (feed_part bs))

      abbrev on : Feed → Called
      on f = leaves_after bs (piece b out) (after_call f (piece b out) (answer_to f (piece b out))) (answer_to f (piece b out))

      feed_is : is_changed bs ≡ true → changing_feed bs ≡ G₁
      unfolding changing_feed
      feed_is c = ap (λ (t : Bool). under (cond t p (feed_of A).policy) (feed_of A)) c

      on-changing : is_changing bs ≡ true → called_on bs (piece b out) ≡ on (changing_feed bs)
      unfolding called_on
      on-changing e = ap (λ (t : Bool). cond t (on (changing_feed bs)) (refuses (Err FeedEnded) bs out)) e

      done-is : S.ended ≡ false → S.len + length b ≤ text_limit → unfinished (drop (valid_up_to_of U) U) ≡ true
          → 4 * length b + 16 ≤ length out
          → on G₁ ≡ record {
            answer = Ok (length W);
            feed = cond (is_changed bs && not (only_selectors (chars ((changing_feed bs).rest ++ b)))) (settled_bytes bs (after_piece G₁ b))
                (kept_bytes bs (after_piece G₁ b));
            out = W ++ drop (length W) out;
          }
      unfolding answer_to answer feed_of
      done-is t h n l =
          simp (t, le-leb (S.len + length b) text_limit h, n, le-leb (4 * length b + 16) (length out) l)

      choice-is : is_changed bs ≡ true → is_changed bs && not (only_selectors (chars ((changing_feed bs).rest ++ b)))
          ≡ not (only_selectors (chars U))
      unfolding feed_of
      choice-is c =
          ap (λ (t : Bool). t && not (only_selectors (chars ((changing_feed bs).rest ++ b)))) c
          ∙ ap (λ (f : Feed). not (only_selectors (chars (f.rest ++ b)))) (feed_is c)

      -- The state after the piece.
      state-after : {k : Held} {l : Left} {r : Later} {out' : List ℕ} → LeftAt U (valid_up_to_of U) l → l.good ≡ true
          → TakenLater q p S.held S.counts (chars U) out out' r → k ≡ held_for (pending_of (cond r.settled p q) r.taken.held)
          → open_state k l.len l.bytes (S.len + length b) r.taken.counts ≡ state_for (after_piece G₁ b)
      unfolding state_for feed_of
      state-after {k} {l} {r} a g w j = λ i. record {
        ended = false;
        held = (j ∙ ap held_for w.held) i;
        rest_len = (a.many g) i;
        rest = (a.bytes g) i;
        len = S.len + length b;
        counts = w.counts i;
      }

      done_at : {k : Held} {l : Left} {r : Later} {bs₁ bs' out' : List ℕ} → is_changing bs ≡ true → is_changed bs ≡ true → S.ended ≡ false
          → length b ≤ 16777216 - S.len → LeftAt U (valid_up_to_of U) l → l.good ≡ true → 4 * length b + 16 ≤ length out
          → TakenLater q p S.held S.counts (chars U) out out' r → k ≡ held_for (pending_of (cond r.settled p q) r.taken.held)
          → PutAt bs 0 (bytes_of (state_words (open_state k l.len l.bytes (S.len + length b) r.taken.counts))) bs₁ 120
          → bs' ≡ cond r.settled (sets (sets bs₁ 120 (drop 328 bs₁)) 320 (word_bytes 0)) bs₁
          → ◌≡◌ {A = Called} (record { answer = Ok r.taken.end; feed = bs'; out = out' }) (called_on bs (piece b out))
      done_at {k} {l} {r} {bs₁} {bs'} {out'} e c t h a g z w j v y =
          let O = open_state k l.len l.bytes (S.len + length b) r.taken.counts in
          let N = changing-length e in
          let F = after_piece G₁ b in
          let fits = text-later (part-feed e) refl in
          let m : r.taken.end ≡ length W = let x = w.text.ends in omega arith in
          let o : out' ≡ W ++ drop (length W) out = front w.text (omega arith) in
          let x : bs₁ ≡ bytes_of (state_words (state_for F)) ++ drop 120 bs =
          front v (omega (arith, words_many O)) ∙ ap (λ (i : ℕ). bytes_of (state_words O) ++ drop i bs) (words_many O)
          ∙ ap (λ (s : State). bytes_of (state_words s) ++ drop 120 bs) (state-after a g w j) in
          let d : bs' ≡ cond (is_changed bs && not (only_selectors (chars ((changing_feed bs).rest ++ b)))) (settled_bytes bs F)
          (kept_bytes bs F) =
          y ∙ bytes_after N F x r.settled
          ∙ ap (λ (u : Bool). cond u (settled_bytes bs F) (kept_bytes bs F)) (w.settled ∙ sym (choice-is c)) in
          let n : unfinished (drop (valid_up_to_of U) U) ≡ true = sym a.good ∙ g in
          let sh : S.len + length b ≤ text_limit = omega (arith, short_len A (part-feed e)) in
          (λ i. record { answer = Ok (m i); feed = d i; out = o i })
          ∙ sym (on-changing e ∙ ap on (feed_is c) ∙ done-is t sh n z)

      pub later-done : {s : State} {i : ℕ} {k : Held} {l : Left} {r : Later} {bs₁ bs' out' : List ℕ} → is_changing bs ≡ true
          → is_changed bs ≡ true → s ≡ state_of (feed_part bs) → s.ended ≡ false → length b ≤ 16777216 - s.len
          → i ≡ valid_up_to_of (joined s)
          → LeftAt (joined s) i l → l.good ≡ true → 4 * length b + 16 ≤ length out
          → TakenLater q p s.held s.counts (chars (joined s)) out out' r
          → k ≡ held_for (pending_of (cond r.settled p q) r.taken.held)
          → PutAt bs 0 (bytes_of (state_words (open_state k l.len l.bytes (s.len + length b) r.taken.counts))) bs₁ 120
          → bs' ≡ cond r.settled (sets (sets bs₁ 120 (drop 328 bs₁)) 320 (word_bytes 0)) bs₁
          → ◌≡◌ {A = Called} (record { answer = Ok r.taken.end; feed = bs'; out = out' }) (called_on bs (piece b out))
      later-done {s} {i} {k} {l} {r} {bs₁} {bs'} {out'} e c x t h j a g z w y v u =
          done_at e c (ap (λ (y : State). y.ended) (sym x) ∙ t) (omega (arith, ap (λ (y : State). y.len) x))
          (subst (λ (y : State). LeftAt (joined y) (valid_up_to_of (joined y)) l) x (subst (λ (n : ℕ). LeftAt (joined s) n l) j a)) g z
          (subst (λ (y : State). TakenLater q p y.held y.counts (chars (joined y)) out out' r) x w) y
          (subst (λ (y : State). PutAt bs 0
          (bytes_of (state_words (open_state k l.len l.bytes (y.len + length b) r.taken.counts))) bs₁ 120) x v) u
