-- The outcomes of a piece, by its tests.
use Rattle.std.specs.Prelude.{Ok, Err, None}
use mathlib.Core.Path.{◌≡◌, refl, ap, ap₂, sym, ◌∙◌, subst}
use mathlib.Core.Bool.{Bool, true, false, cond}
use mathlib.Core.List.{List, ◌++◌}
use Prim.Native.Nat.{ℕ, ◌+◌, ◌-◌, ◌*◌, ◌≤◌, ◌<◌}
use native.Mathlib.Omega.{arith}
use lib.ListN.{drop, length}
use borrow.Author.Tests.{eq-eqb, le-leb, lt-leb, ne_eqb}
use Rattle.base.specs.Output.{PutAt}
use Rattle.base.specs.Refusals.{text_limit}
use Rattle.utf8.specs.Rfc3629.{chars, encode_all, is_scalar, valid_up_to_of}
use Rattle.base.specs.Words.{bytes_of}
use Rattle.policy.specs.PolicyBytes.{policy_of}
use Rattle.policy.specs.declared.Policy.{Policy}
use Rattle.analysis.specs.Counts.{total}
use Rattle.analysis.specs.declared.types.NonCanonicality.{NonCanonicality}
use Rattle.utf8.specs.Subparts.{unfinished}
use Rattle.utf8.proofs.Unfinished.{unfinished-few}
use Rattle.feed.specs.Feed.{base, nothing, take_chars}
use Rattle.feed.specs.Calls.{after_piece, answer, piece}
use Rattle.feed.proofs.PieceRoom.{piece_bytes}
use Rattle.feed.specs.declared.Held.{Held}
use Rattle.feeding.specs.declared.Left.{Left}
use Rattle.feed.specs.declared.State.{State}
use Rattle.feeding.specs.declared.Taken.{Taken}
use Rattle.base.specs.declared.Refusal.TheVariants.{FeedEnded, NotWellFormed, OutputTooShort, TextTooLong}
use Rattle.feed.specs.Bytes.{
  Called,
  bytes_for,
  called,
  feed_of,
  held_for,
  is_feed,
  pending_of,
  policy_part,
  refuses,
  rest_of,
  state_for,
  state_of,
  state_words,
}
use Rattle.feed.specs.Feed.{fed_as}
use Rattle.feeding.specs.Helpers.{LeftAt, TakenBy, open_state}
use Rattle.feeding.proofs.Settling.{feed_length, feed_scalar, feed_unfinished, few-held, few-stored, short_len}
use Rattle.feed.proofs.Writing.{words_many}
use Rattle.feeding.proofs.Ending.{front, length_bytes_of}

pub held_none : {k : Held} (h : Held) → h.base ≡ 0 → k ≡ record { base = 0; first = None; count = 0 } → (p : Policy) → k
    ≡ held_for (pending_of p h)
held_none h e q p = q ∙ sym (ap (λ (t : Bool). held_for (cond t nothing (base p h.base h.first h.count))) (eq-eqb h.base 0 e))

pub held-some : (h : Held) → (h.base ≡ 0 → ⊥) → (p : Policy) → h ≡ held_for (pending_of p h)
held-some h e p = sym (ap (λ (t : Bool). held_for (cond t nothing (base p h.base h.first h.count))) (ne_eqb h.base 0 e))

-- The same, with the policy's part of the feed as it is lent to a function.
pub lent : (cs : List ℕ) {l m : List ℕ} {h : Held} {n : NonCanonicality} {o o' : List ℕ} {at : ℕ} {r : Taken} → l ≡ m
    → TakenBy (policy_of l) h n (fed_as (policy_of l) cs) o at o' r
    → TakenBy (policy_of m) h n (fed_as (policy_of m) cs) o at o' r
lent cs {l} {m} {h} {n} {o} {o'} {at} {r} e t = subst (λ (k : List ℕ). TakenBy (policy_of k) h n (fed_as (policy_of k) cs) o at o' r) e t

module _ (bs b : List ℕ) where
  abbrev joined : State → List ℕ
  joined s = rest_of s ++ b

  -- What the functions require of the state.
  pub few-rest : {s : State} → is_feed bs ≡ true → s ≡ state_of bs → s.rest_len ≤ 3
  few-rest {s} e p =
      let S = state_of bs in
      omega (
        arith,
        ap (λ (y : State). y.rest_len) p,
        length_bytes_of S.rest_len S.rest,
        unfinished-few (rest_of S)
            (feed_unfinished bs e),
      )

  pub unfinished_rest : {s : State} → is_feed bs ≡ true → s ≡ state_of bs → unfinished (rest_of s) ≡ true
  unfinished_rest e p = ap (λ (y : State). unfinished (rest_of y)) p ∙ feed_unfinished bs e

  pub len_fits : {s : State} → is_feed bs ≡ true → s ≡ state_of bs → s.len ≤ 16777216
  len_fits e p = omega (arith, ap (λ (y : State). y.len) p, short_len bs e)

  pub scalar-held : {s : State} → is_feed bs ≡ true → s ≡ state_of bs → is_scalar s.held.base ≡ true
  scalar-held e p = ap (λ (y : State). is_scalar y.held.base) p ∙ feed_scalar bs e

  pub few_counts : {s : State} → is_feed bs ≡ true → s ≡ state_of bs → total s.counts + s.held.count ≤ 200000000
  few_counts e p = omega (arith, ap (λ (y : State). total y.counts + y.held.count) p, few-stored bs e, few-held bs e)

  pub text_fits : {s : State} → is_feed bs ≡ true → s ≡ state_of bs
      → length (encode_all (take_chars (pending_of (policy_part bs) s.held)
      (fed_as (policy_part bs) (chars (joined s)))).1.text) ≤ 4 * length b + 10
  unfolding feed_of
  text_fits {s} e p =
      subst (λ (y : State). length (encode_all
      (take_chars (pending_of (policy_part bs) y.held) (fed_as (policy_part bs) (chars (joined y)))).1.text) ≤ 4 * length b + 10) (sym p)
      (piece_bytes (feed_of bs) b (feed_unfinished bs e))

  module _ (out : List ℕ) where
    pub no-feed-piece : is_feed bs ≡ false → refuses (Err FeedEnded) bs out ≡ called bs (piece b out)
    unfolding called
    no-feed-piece e = sym (simp e)

    pub piece_9 : is_feed bs ≡ true → (state_of bs).ended ≡ true → refuses (Err FeedEnded) bs out ≡ called bs (piece b out)
    unfolding called answer feed_of
    piece_9 e t = sym (simp (e, t))

    pub piece_1 : {s : State} → is_feed bs ≡ true → s ≡ state_of bs → s.ended ≡ false → 16777216 - s.len < length b
        → refuses (Err TextTooLong) bs out ≡ called bs (piece b out)
    unfolding called answer feed_of
    piece_1 {s} e p t h =
        let d : (state_of bs).ended ≡ false = ap (λ (y : State). y.ended) (sym p) ∙ t in
        let l : text_limit < (state_of bs).len + length b = omega (arith, ap (λ (y : State). y.len) p, short_len bs e) in
        sym (simp (e, d, lt-leb ((state_of bs).len + length b) text_limit l))

    abbrev U : List ℕ
    U = joined (state_of bs)

    three-is : is_feed bs ≡ true → (state_of bs).ended ≡ false → length b ≤ 16777216 - (state_of bs).len
        → unfinished (drop (valid_up_to_of U) U)
        ≡ false
        → refuses (Err (NotWellFormed ((state_of bs).len - (state_of bs).rest_len + valid_up_to_of U))) bs out ≡ called bs (piece b out)
    unfolding called answer feed_of
    three-is e t h n =
        sym (simp (e, t, le-leb ((state_of bs).len + length b) text_limit (omega (arith, short_len bs e)), n, length_bytes_of))

    pub piece_3 : {s : State} {v m : ℕ} {l : Left} → is_feed bs ≡ true → s ≡ state_of bs → s.ended ≡ false → length b ≤ 16777216 - s.len
        → v ≡ valid_up_to_of (joined s)
        → LeftAt (joined s) v l → l.good ≡ false → m ≡ s.len - s.rest_len → refuses (Err (NotWellFormed (m + v))) bs out
        ≡ called bs (piece b out)
    piece_3 {s} {v} {m} {l} e p t h q k g d =
        let Q : v ≡ valid_up_to_of U = q ∙ ap (λ (y : State). valid_up_to_of (joined y)) p in
        let M : m ≡ (state_of bs).len - (state_of bs).rest_len = d ∙ ap (λ (y : State). y.len - y.rest_len) p in
        let G : unfinished (drop (valid_up_to_of U) U) ≡ false =
        ap₂ (λ (i : ℕ) (y : State). unfinished (drop i (joined y))) (sym Q) (sym p) ∙ sym k.good ∙ g in
        ap₂ (λ (i j : ℕ). refuses (Err (NotWellFormed (i + j))) bs out) M Q
        ∙ three-is e (ap (λ (y : State). y.ended) (sym p) ∙ t) (omega (arith, ap (λ (y : State). y.len) p)) G

    eight_is : is_feed bs ≡ true → (state_of bs).ended ≡ false → length b ≤ 16777216 - (state_of bs).len
        → unfinished (drop (valid_up_to_of U) U)
        ≡ true → length out < 4 * length b + 16
        → refuses (Err (OutputTooShort (4 * length b + 16))) bs out ≡ called bs (piece b out)
    unfolding called answer feed_of
    eight_is e t h n l =
        sym (simp (
          e,
          t,
          le-leb ((state_of bs).len + length b) text_limit (omega (arith, short_len bs e)),
          n,
          lt-leb (4 * length b + 16)
              (length out) l,
        ))

    good-at : {s : State} {v : ℕ} {l : Left} → s ≡ state_of bs → v ≡ valid_up_to_of (joined s) → LeftAt (joined s) v l → l.good ≡ true
        → unfinished (drop (valid_up_to_of U) U) ≡ true
    good-at {s} {v} p q k g =
        ap₂ (λ (i : ℕ) (y : State). unfinished (drop i (joined y))) (sym (q ∙ ap (λ (y : State). valid_up_to_of (joined y)) p)) (sym p)
        ∙ sym
        k.good ∙ g

    pub piece_8 : {s : State} {v : ℕ} {l : Left} → is_feed bs ≡ true → s ≡ state_of bs → s.ended ≡ false → length b ≤ 16777216 - s.len → v
        ≡ valid_up_to_of (joined s)
        → LeftAt (joined s) v l → l.good ≡ true → length out < 4 * length b + 16 → refuses
        (Err (OutputTooShort (4 * length b + 16))) bs out ≡ called bs (piece b out)
    piece_8 e p t h q k g l =
        eight_is e (ap (λ (y : State). y.ended) (sym p) ∙ t) (omega (arith, ap (λ (y : State). y.len) p)) (good-at p q k g) l

    abbrev W : List ℕ
    W = encode_all (take_chars (pending_of (policy_part bs) (state_of bs).held) (fed_as (policy_part bs) (chars U))).1.text

    taken_is : is_feed bs ≡ true → (state_of bs).ended ≡ false → length b ≤ 16777216 - (state_of bs).len
        → unfinished (drop (valid_up_to_of U) U)
        ≡ true → 4 * length b + 16 ≤ length out
        → called bs (piece b out) ≡ record {
          answer = Ok (length W);
          feed = bytes_for (after_piece (feed_of bs) b) (drop 120 bs);
          out =
              W ++ drop (length W) out;
        }
    unfolding called answer feed_of
    taken_is e t h n l =
        simp (
          e,
          t,
          le-leb ((state_of bs).len + length b) text_limit (omega (arith, short_len bs e)),
          n,
          le-leb (4 * length b + 16)
              (length out) l,
        )

    -- The state after the piece.
    state-after : {k : Held} {l : Left} {r : Taken} {out' : List ℕ} → LeftAt U (valid_up_to_of U) l → l.good ≡ true
        → TakenBy (policy_part bs) (state_of bs).held (state_of bs).counts (fed_as (policy_part bs) (chars U)) out 0 out' r
        → k ≡ held_for (pending_of (policy_part bs) r.held)
        → open_state k l.len l.bytes ((state_of bs).len + length b) r.counts ≡ state_for (after_piece (feed_of bs) b)
    unfolding state_for feed_of
    state-after {k} {l} {r} a g w q = λ i. record {
      ended = false;
      held = (q ∙ ap held_for w.held) i;
      rest_len = (a.many g) i;
      rest = (a.bytes g) i;
      len = (state_of bs).len + length b;
      counts = w.counts i;
    }

    done_at : {k : Held} {l : Left} {r : Taken} {bs' out' : List ℕ} → is_feed bs ≡ true → (state_of bs).ended ≡ false
        → length b ≤ 16777216 - (state_of bs).len
        → LeftAt U (valid_up_to_of U) l → l.good ≡ true → 4 * length b + 16 ≤ length out
        → TakenBy (policy_part bs) (state_of bs).held (state_of bs).counts (fed_as (policy_part bs) (chars U)) out 0 out' r
        → k ≡ held_for (pending_of (policy_part bs) r.held)
        → PutAt bs 0 (bytes_of (state_words (open_state k l.len l.bytes ((state_of bs).len + length b) r.counts))) bs' 120
        → ◌≡◌ {A = Called} (record { answer = Ok r.end; feed = bs'; out = out' }) (called bs (piece b out))
    unfolding bytes_for
    done_at {k} {l} {r} {bs'} {out'} e t h a g z w q v =
        let O = open_state k l.len l.bytes ((state_of bs).len + length b) r.counts in
        let f = text_fits e refl in
        let m : r.end ≡ length W = let y = w.text.ends in omega arith in
        let c : out' ≡ W ++ drop (length W) out = front w.text (omega arith) in
        let n = feed_length bs e in
        let x : bs' ≡ bytes_for (after_piece (feed_of bs) b) (drop 120 bs) =
        front v (omega (arith, words_many O)) ∙ ap (λ (i : ℕ). bytes_of (state_words O) ++ drop i bs) (words_many O)
        ∙ ap (λ (y : State). bytes_of (state_words y) ++ drop 120 bs) (state-after a g w q) in
        (λ i. record { answer = Ok (m i); feed = x i; out = c i }) ∙ sym (taken_is e t h (sym a.good ∙ g) z)

    pub piece-done : {s : State} {i : ℕ} {k : Held} {l : Left} {r : Taken} {bs' out' : List ℕ} → is_feed bs ≡ true → s ≡ state_of bs
        → s.ended ≡ false → length b ≤ 16777216 - s.len
        → i ≡ valid_up_to_of (joined s) → LeftAt (joined s) i l → l.good ≡ true → 4 * length b + 16 ≤ length out
        → TakenBy (policy_part bs) s.held s.counts (fed_as (policy_part bs) (chars (joined s))) out 0 out' r
        → k ≡ held_for (pending_of (policy_part bs) r.held)
        → PutAt bs 0 (bytes_of (state_words (open_state k l.len l.bytes (s.len + length b) r.counts))) bs' 120
        → ◌≡◌ {A = Called} (record { answer = Ok r.end; feed = bs'; out = out' }) (called bs (piece b out))
    piece-done {s} {i} {k} {l} {r} {bs'} {out'} e p t h j a g z w q v =
        done_at e (ap (λ (y : State). y.ended) (sym p) ∙ t) (omega (arith, ap (λ (y : State). y.len) p))
        (subst (λ (y : State). LeftAt (joined y) (valid_up_to_of (joined y)) l) p (subst (λ (n : ℕ). LeftAt (joined s) n l) j a)) g z
        (subst (λ (y : State). TakenBy (policy_part bs) y.held y.counts (fed_as (policy_part bs) (chars (joined y))) out 0 out' r) p w) q
        (subst (λ (y : State). PutAt bs 0
        (bytes_of (state_words (open_state k l.len l.bytes (y.len + length b) r.counts))) bs' 120) p v)
