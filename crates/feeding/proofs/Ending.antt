-- The totals, and the outcomes of the end, by its tests.
use Rattle.base.specs.declared.Refusal.{Refusal}
use Rattle.std.specs.Prelude.{Ok, Err, Result}
use mathlib.Core.Path.{◌≡◌, refl, ap, ap₂, sym, ◌∙◌, subst}
use mathlib.Core.Bool.{Bool, true, false, cond}
use mathlib.Core.List.{List, ◌++◌}
use Prim.Native.Nat.{ℕ, zero, suc, ◌+◌, ◌/◌, ◌≤◌, ◌<◌}
use native.Mathlib.Omega.{arith}
use lib.ListN.{drop, length}
use lib.Seq.{sets, sets-eq}
use borrow.Author.Tests.{eq-eqb, le-leb, leb-false, leb-true, lt-leb, ne_eqb}
use Rattle.base.specs.Output.{PutAt, WritesAt, Wrote, room_for}
use Rattle.base.proofs.Output.{bytes_put, too_short, wrote}
use Rattle.base.specs.Words.{little_endian, number}
use Rattle.base.specs.Words.{bytes_of}
use Rattle.base.proofs.Numbers.{length_bytes_of_lem}
use Rattle.base.specs.declared.Refusal.TheVariants.{FeedEnded, OutputTooShort, UnfinishedCharacter}
use Rattle.base.proofs.Answering.{answers}
use Rattle.utf8.specs.Rfc3629.{encode_all}
use Rattle.scanner.specs.declared.char_class.Class.TheVariants.{Other as other}
use Rattle.analysis.specs.Counts.{capped_sum, empty}
use Rattle.analysis.specs.declared.types.NonCanonicality.{NonCanonicality}
use Rattle.formatter.specs.List.{count_numbers}
use Rattle.feed.specs.Feed.{settle}
use Rattle.feed.specs.Calls.{after_end, answer, end, totals_now}
use Rattle.feed.proofs.PieceRoom.{held-few, settle_bytes}
use Rattle.feed.specs.declared.State.{State}
use Rattle.feed.specs.Bytes.{
  Called,
  EndsCalled,
  bytes_for,
  called,
  feed_of,
  is_feed,
  pending_of,
  policy_part,
  refuses,
  state_for,
  state_of,
  state_words,
  totals_of,
}
use Rattle.feed.proofs.Writing.{words_many}
use Rattle.feeding.specs.Helpers.{ended_state}
use Rattle.feeding.proofs.Settling.{feed_length, sum_now}

pub length_bytes_of : (n x : ℕ) → length (little_endian n x) ≡ n
unfolding little_endian
length_bytes_of zero x = refl
length_bytes_of (suc n) x = ap suc (length_bytes_of n (x / 256))

-- The answer and both buffers that the definition gives.
pub ends-called : {said : Called} {r : Result ℕ Refusal} {feed out : List ℕ}
    → ◌≡◌ {A = Called} (record { answer = r; feed = feed; out = out }) said
    → EndsCalled said r feed out
ends-called e = record {
  answer = answers (ap (λ (c : Called). c.answer) e);
  feed_bytes_lem = ap (λ (c : Called). c.feed) e;
  out_bytes = ap (λ (c : Called). c.out) e;
}

-- A buffer after bytes were written at its front.
pub front : {o o' xs : List ℕ} {r : ℕ} → PutAt o 0 xs o' r → length xs ≤ length o → o' ≡ xs ++ drop (length xs) o
front {o} {o'} {xs} p h =
    let z : 0 + length xs ≡ length xs = omega arith in
    p.bytes ∙ sets-eq xs o 0 (omega arith) ∙ ap (λ (i : ℕ). xs ++ drop i o) z

-- ---- the totals

pub totals-none : (bs : List ℕ) {r : NonCanonicality} → is_feed bs ≡ false → r ≡ empty → r ≡ totals_of bs
unfolding totals_of
totals-none bs e q = q ∙ sym (simp e)

pub totals-some : (bs : List ℕ) {s : State} {r h : NonCanonicality} → is_feed bs ≡ true → s ≡ state_of bs → h
    ≡ (settle (pending_of (policy_part bs) s.held) other).counts
    → r ≡ capped_sum s.counts h → r ≡ totals_of bs
unfolding totals_of feed_of
totals-some bs {s} {r} {h} e p q t =
    t ∙ ap (capped_sum s.counts) q
    ∙ ap (λ (y : State). capped_sum y.counts (settle (pending_of (policy_part bs) y.held) other).counts) p
    ∙ sum_now bs other e
    ∙ sym (ap (λ (b : Bool). cond b (totals_now (feed_of bs)) empty) e)

eight_bytes : (n : NonCanonicality) → length (bytes_of (count_numbers n)) ≡ 64
eight_bytes n = length_bytes_of_lem (count_numbers n)

module _ (n : NonCanonicality) {ws : List ℕ} (e : ws ≡ count_numbers n) (out out' : List ℕ) {r : Bool}
    (w : WritesAt (bytes_of ws) out 0 r out') where
  abbrev bytes : List ℕ
  bytes = bytes_of (count_numbers n)

  writes : WritesAt bytes out 0 r out'
  writes = subst (λ (l : List ℕ). WritesAt (bytes_of l) out 0 r out') e w

  pub totals-written : r ≡ true → Wrote bytes out out' (Ok 64)
  totals-written t =
      let l = leb-true (0 + length bytes) (length out) (sym writes.0 ∙ t) in
      let m = eight_bytes n in
      wrote (sym m) (omega arith) (bytes_put out out' 0 bytes (omega arith) writes.1)

  pub totals-short : r ≡ false → Wrote bytes out out' (Err (OutputTooShort 64))
  totals-short t =
      let f : room_for bytes out 0 ≡ false = sym writes.0 ∙ t in
      let l = leb-false (0 + length bytes) (length out) f in
      let m = eight_bytes n in
      let s : out' ≡ out = writes.1 ∙ ap (λ (b : Bool). cond b (sets out 0 bytes) out) f in
      subst (λ (o : List ℕ). Wrote bytes out o (Err (OutputTooShort 64))) (sym s) (too_short bytes (sym m) (omega arith))

-- ---- the end

module _ (bs out : List ℕ) where
  pub no_feed_end : is_feed bs ≡ false → refuses (Err FeedEnded) bs out ≡ called bs (end out)
  unfolding called
  no_feed_end e = sym (simp e)

  pub end_9 : is_feed bs ≡ true → (state_of bs).ended ≡ true → refuses (Err FeedEnded) bs out ≡ called bs (end out)
  unfolding called answer feed_of
  end_9 e t = sym (simp (e, t))

  pub end_10 : is_feed bs ≡ true → (state_of bs).ended ≡ false → ((state_of bs).rest_len ≡ 0 → ⊥)
      → refuses (Err UnfinishedCharacter) bs out ≡ called bs (end out)
  unfolding called answer feed_of
  end_10 e t n = sym (simp (e, t, length_bytes_of, ne_eqb (state_of bs).rest_len 0 n))

  pub end_8 : is_feed bs ≡ true → (state_of bs).ended ≡ false → (state_of bs).rest_len ≡ 0 → length out < 16
      → refuses (Err (OutputTooShort 16)) bs out ≡ called bs (end out)
  unfolding called answer feed_of
  end_8 e t n l = sym (simp (e, t, length_bytes_of, eq-eqb (state_of bs).rest_len 0 n, lt-leb 16 (length out) l))

  abbrev pub last : List ℕ
  last = encode_all (settle (pending_of (policy_part bs) (state_of bs).held) other).text

  pub last-few : length last ≤ 7
  last-few =
      let s = pending_of (policy_part bs) (state_of bs).held in
      omega (arith, settle_bytes s other, held-few s)

  end_is : is_feed bs ≡ true → (state_of bs).ended ≡ false → (state_of bs).rest_len ≡ 0 → 16 ≤ length out
      → called bs (end out) ≡ record {
        answer = Ok (length last);
        feed = bytes_for (after_end (feed_of bs)) (drop 120 bs);
        out =
            last ++ drop (length last) out;
      }
  unfolding called answer feed_of
  end_is e t n l = simp (e, t, length_bytes_of, eq-eqb (state_of bs).rest_len 0 n, le-leb 16 (length out) l)

  pub end_done : {s : State} {bs' out' : List ℕ} {r : ℕ} {h m : NonCanonicality} → is_feed bs ≡ true → s ≡ state_of bs → s.ended ≡ false
      → s.rest_len ≡ 0 → 16 ≤ length out
      → PutAt out 0 (encode_all (settle (pending_of (policy_part bs) s.held) other).text) out' r → h ≡ (settle
      (pending_of (policy_part bs) s.held) other).counts
      → m ≡ capped_sum s.counts h
      → PutAt bs 0 (bytes_of (state_words (ended_state s.len m))) bs' 120
      → ◌≡◌ {A = Called} (record { answer = Ok r; feed = bs'; out = out' }) (called bs (end out))
  unfolding bytes_for state_for feed_of number
  end_done {s} {bs'} {out'} {r} {h} {m} e p t n l u q w v =
      let S = state_of bs in
      let P : PutAt out 0 last out' r = subst
      (λ (y : State). PutAt out 0 (encode_all (settle (pending_of (policy_part bs) y.held) other).text) out' r) p u in
      let a : r ≡ length last = let z = P.ends in omega arith in
      let c : out' ≡ last ++ drop (length last) out = front P (omega (arith, last-few)) in
      let M : m ≡ totals_now (feed_of bs) =
      w ∙ ap (capped_sum s.counts) q ∙ ap
      (λ (y : State). capped_sum y.counts (settle (pending_of (policy_part bs) y.held) other).counts) p ∙ sum_now bs other e in
      let E : ended_state s.len m ≡ state_for (after_end (feed_of bs)) = ap₂ (λ (x : ℕ) (y : NonCanonicality). ended_state x y)
      (ap (λ (y : State). y.len) p) M in
      let k = feed_length bs e in
      let f : bs' ≡ bytes_of (state_words (ended_state s.len m)) ++ drop (length (bytes_of (state_words (ended_state s.len m)))) bs =
      front v (omega (arith, words_many (ended_state s.len m))) in
      let g : bs' ≡ bytes_for (after_end (feed_of bs)) (drop 120 bs) =
      f ∙ ap (λ (i : ℕ). bytes_of (state_words (ended_state s.len m)) ++ drop i bs) (words_many (ended_state s.len m))
      ∙ ap (λ (y : State). bytes_of (state_words y) ++ drop 120 bs) E in
      (λ i. record { answer = Ok (a i); feed = g i; out = c i })
      ∙ sym (end_is e (ap (λ (y : State). y.ended) (sym p) ∙ t) (ap (λ (y : State). y.rest_len) (sym p) ∙ n) l)
