-- A call on the first 320 bytes of a feed whose policy may change, and the call on all of it. They are the same for a piece, if the policy
-- has not changed since the held base was fed.
use Rattle.std.specs.Prelude.{Ok, Err, Result}
use mathlib.Core.Path.{◌≡◌, refl, ap, ap₂, sym, ◌∙◌, subst}
use mathlib.Core.Bool.{Bool, true, false, cond, not, ◌&&◌, ◌||◌}
use mathlib.Core.List.{List, ◌++◌}
use Prim.Native.Nat.{ℕ}
use lib.ListN.{drop, length, take, take-append-drop}
use borrow.Author.Tests.{eq-eqb, ne_eqb}
use Rattle.base.specs.Words.{number}
use Rattle.base.specs.declared.Refusal.{Refusal}
use Rattle.base.specs.declared.Refusal.TheVariants.{FeedEnded}
use Rattle.policy.specs.PolicyBytes.{is_policy, policy_of}
use Rattle.feed.specs.Calls.{Answer, Feed, after, answer, refused, wrote}
use Rattle.feed.specs.Calls as Feed
use Rattle.feed.specs.Bytes.{Called, EndsCalled, called, feed_of, is_feed, leaves, refuses}
use Rattle.policy_change.specs.Calls.{Call, answer_to, piece, under}
use Rattle.policy_change.specs.Bytes.{
  called_on,
  changing_feed,
  feed_part,
  is_changed,
  is_changing,
  kept_bytes,
  later_policy,
  leaves_after,
  only_selectors,
  out_of,
  settled_bytes,
}
use Rattle.utf8.specs.Rfc3629.{chars}

-- Whether the policy has changed, by the word.
pub changed_by : (bs : List ℕ) {w : ℕ} → w ≡ number (take 8 (drop 320 bs)) → (w ≡ 0 → ⊥) → is_changed bs ≡ true
changed_by bs e n = ap not (ne_eqb (number (take 8 (drop 320 bs))) 0 (λ z. n (e ∙ z)))

pub unchanged_by : (bs : List ℕ) {w : ℕ} → w ≡ number (take 8 (drop 320 bs)) → w ≡ 0 → is_changed bs ≡ false
unchanged_by bs e z = ap not (eq-eqb (number (take 8 (drop 320 bs))) 0 (sym e ∙ z))

and_true : (b : Bool) → (b && true) ≡ b
and_true true = refl
and_true false = refl

module _ (bs : List ℕ) where
  abbrev A : List ℕ
  A = feed_part bs

  pub no_feed : (c : Call) → is_changing bs ≡ false → refuses (Err FeedEnded) bs (out_of c) ≡ called_on bs c
  unfolding called_on
  no_feed c e = sym (simp e)

  abbrev pub glued : Called → Called
  glued r = record { answer = r.answer; feed = r.feed ++ drop 320 bs; out = r.out }

  pub glue_ends : {x said : Called} {r : Result ℕ Refusal} {ys out : List ℕ} → EndsCalled x r ys out → glued x ≡ said
      → EndsCalled said r (ys ++ drop 320 bs) out
  glue_ends {x} {said} {r} {ys} {out} h e =
      subst (λ (y : Called). EndsCalled y r (ys ++ drop 320 bs) out) e (record {
        answer = h.answer;
        feed_bytes_lem = ap (λ (l : List ℕ). l ++ drop 320 bs) h.feed_bytes_lem;
        out_bytes = h.out_bytes;
      })

  pub refused_glued : (r : Refusal) (out : List ℕ) → refuses (Err r) bs out ≡ glued (refuses (Err r) A out)
  refused_glued r out = ap (λ (l : List ℕ). refuses (Err r) l out) (sym (take-append-drop 320 bs))

  -- A piece, if the policy has not changed.
  module _ (h : length bs ≡ 528) (c : is_changed bs ≡ false) (b out : List ℕ) where
    same_test : is_changing bs ≡ is_feed A
    unfolding is_changing
    same_test =
        ap (λ (t : Bool). t && (is_feed A && (not (is_changed bs) || is_policy (later_policy bs)))) (eq-eqb (length bs) 528 h)
        ∙ ap (λ (t : Bool). is_feed A && (not t || is_policy (later_policy bs))) c ∙ and_true (is_feed A)

    same-feed : changing_feed bs ≡ feed_of A
    unfolding changing_feed
    same-feed = ap (λ (t : Bool). under (cond t (policy_of (later_policy bs)) (feed_of A).policy) (feed_of A)) c

    piece-same : (g : Feed) (a : Answer) → leaves_after bs (piece b out) (after g (Feed.piece b out) a) a
        ≡ glued (leaves A out (after g (Feed.piece b out) a) a)
    piece-same g (wrote o) =
        let f = after g (Feed.piece b out) (wrote o) in
        ap (λ (t : Bool). record {
          answer = Ok (length o);
          feed = cond (t && not (only_selectors (chars ((changing_feed bs).rest ++ b)))) (settled_bytes bs f) (kept_bytes bs f);
          out = o ++ drop (length o) out;
        }) c
    piece-same g (refused r) = refused_glued r out

    pub piece-glued : glued (called A (Feed.piece b out)) ≡ called_on bs (piece b out)
    unfolding called_on called answer_to
    piece-glued =
        sym (ap₂ (λ (t : Bool) (g : Feed). cond t (leaves_after bs (piece b out) (after g (Feed.piece b out) (answer g (Feed.piece b out)))
        (answer g (Feed.piece b out))) (refuses (Err FeedEnded) bs out)) same_test same-feed
        ∙ go (is_feed A) (answer (feed_of A) (Feed.piece b out)))
      where
        go : (t : Bool) (a : Answer) → cond t (leaves_after bs (piece b out) (after (feed_of A) (Feed.piece b out) a) a)
            (refuses (Err FeedEnded) bs out)
            ≡ glued (cond t (leaves A out (after (feed_of A) (Feed.piece b out) a) a) (refuses (Err FeedEnded) A out))
        go true a = piece-same (feed_of A) a
        go false a = refused_glued FeedEnded out
