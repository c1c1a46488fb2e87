-- Lists of calls: the bytes stand for a feed, whose characters have the policies in force when their last bytes were fed.
use Rattle.std.specs.Prelude.{Err, Some, None}
use mathlib.Core.Path.{◌≡◌, refl, ap, ap₂, sym, ◌∙◌, subst}
use mathlib.Core.Bool.{Bool, true, false, cond, ◌||◌}
use mathlib.Core.List.{List, [], ◌∷◌, ◌++◌, append_assoc, append-nil}
use Prim.Native.Nat.{ℕ, ◌+◌, ◌-◌}
use native.Mathlib.Omega.{arith}
use lib.ListN.{drop, length, length-append, length-replicate, replicate, take}
use lib.Seq.{take-append_seam}
use Rattle.base.proofs.Tests.{either-right, or_false}
use Rattle.base.specs.Refusals.{or_else}
use Rattle.base.specs.declared.Refusal.{Refusal}
use Rattle.base.specs.declared.Refusal.TheVariants.{FeedEnded, NotWellFormed, OutputTooShort, TextTooLong, UnfinishedCharacter}
use Rattle.utf8.specs.Rfc3629.{chars, encode_all, valid_up_to_of}
use Rattle.utf8.specs.Subparts.{unfinished}
use Rattle.policy.specs.PolicyBytes.{is_policy, policy_fault, policy_of, policy_refusal}
use Rattle.policy.specs.declared.Policy.{Policy}
use Rattle.scanner.specs.declared.char_class.Class.TheVariants.{Other as other}
use Rattle.feed.specs.Feed.{Fed, fed_as, piece_room, settle, take_chars}
use Rattle.feed.specs.Calls.{Answer, Feed, fed_by, new_feed, refused, wrote}
use Rattle.feed.specs.Calls as Calls
use Rattle.feed.specs.Bytes.{Called, new_bytes, output_of, refuses}
use Rattle.feed.proofs.Answered.{
  Answered,
  answered,
  end_10,
  end_8,
  end_9,
  end_taken_lem,
  piece_1,
  piece_3,
  piece_8,
  piece_9,
  piece_taken_lem,
}
use Rattle.feed.proofs.Calls.{Held, Inv, by_answer, done, going, same, start}
use Rattle.feed.proofs.Kept.{new_kept}
use Rattle.policy_change.specs.Calls.{Call, after_call, answer_to, change, end, fed_with, piece, under}
use Rattle.policy_change.specs.Bytes.{
  called_on,
  end_taken,
  feed_after_calls,
  has_ended,
  joined_outputs,
  leaves_after,
  new_changing,
  piece_taken,
  policies_of,
  policy_after,
  thread_of,
}
use Rattle.policy_change.specs.Theorems.{OfBytes, and_change, and_end, and_piece, no_call}
use Rattle.policy_change.proofs.Policies.{with_piece}
use Rattle.policy_change.proofs.Standing.{Stands, call_is}
use Rattle.policy_change.proofs.Steps.{PieceBytes, next_stands}

-- The bytes B after the thread T. P has the policy in force for each byte, W are the outputs, E says whether the feed has ended, and p is
-- the policy in force. The feed began with the policy b.
pub record At (b : Policy) (B T : List ℕ) (P : List Policy) (W : List ℕ) (E : Bool) (p : Policy) : Type 0 where
  pub feed : Feed
  pub fed : List Fed
  pub stands : Stands B feed
  pub inv : Inv feed T fed W
  pub tagged : fed ≡ fed_with (chars T) P b
  pub each : length P ≡ length T
  pub in_force : feed.policy ≡ p
  pub ended_is : feed.ended ≡ E

-- A change of policy leaves what was fed.
under_inv : (p : Policy) {f : Feed} {T : List ℕ} {X : List Fed} {W : List ℕ} → Inv f T X W → Inv (under p f) T X W
under_inv p {f} {T} {X} {W} i = record {
  characters = i.characters;
  left = i.left;
  length_is = i.length_is;
  bounded = i.bounded;
  state = go i.state;
}
  where
    go : Held f X W → Held (under p f) X W
    go (going w e t v) = going w e t v
    go (done e r n a c) = done e r n a c

-- What a call makes of it.
abbrev AfterCall : Policy → List ℕ → List Policy → List ℕ → Bool → Policy → Call → Called → Type 0
AfterCall b T P W E p c r =
    At b r.feed (T ++ piece_taken c r.answer) (P ++ replicate (length (piece_taken c r.answer)) p) (W ++ output_of r r.answer)
    (E || end_taken c r.answer) (policy_after c r.answer p)

module _ {b : Policy} {B T : List ℕ} {P : List Policy} {W : List ℕ} {E : Bool} {p : Policy} (a : At b B T P W E p) where
  abbrev f : Feed
  f = a.feed

  -- The characters when no byte was added.
  same_tagged : a.fed ++ [] ≡ fed_with (chars (T ++ [])) (P ++ []) b
  same_tagged =
      append-nil a.fed ∙ a.tagged ∙ ap₂ (λ (t : List ℕ) (l : List Policy). fed_with (chars t) l b) (sym (append-nil T))
      (sym (append-nil P))

  same_each : length (P ++ []) ≡ length (T ++ [])
  same_each = ap length (append-nil P) ∙ a.each ∙ ap length (sym (append-nil T))

  -- A feed and bytes after a call that adds no byte.
  idle : {B' : List ℕ} {g : Feed} {p' : Policy} {E' : Bool} (w : List ℕ) → Stands B' g → Inv g (T ++ []) (a.fed ++ []) (W ++ w)
      → g.policy ≡ p' → g.ended ≡ E' → At b B' (T ++ []) (P ++ []) (W ++ w) E' p'
  idle {B'} {g} {p'} {E'} w s i e d = record {
    feed = g;
    fed = a.fed ++ [];
    stands = s;
    inv = i;
    tagged = same_tagged;
    each = same_each;
    in_force = e;
    ended_is = d;
  }

  refused_piece : (x out : List ℕ) (r : Refusal) → AfterCall b T P W E p (piece x out) (refuses (Err r) B out)
  refused_piece x out r = idle [] a.stands (same a.inv) a.in_force (a.ended_is ∙ sym (or_false E))

  refused_end : (out : List ℕ) (r : Refusal) → AfterCall b T P W E p (end out) (refuses (Err r) B out)
  refused_end out r = idle [] a.stands (same a.inv) a.in_force (a.ended_is ∙ sym (or_false E))

  refused_change : (policy : List ℕ) (r : Refusal) → AfterCall b T P W E p (change policy) (refuses (Err r) B [])
  refused_change policy r = idle [] a.stands (same a.inv) a.in_force (a.ended_is ∙ sym (or_false E))

  abbrev L : Call → Answer → Called
  L c x = leaves_after B c (after_call f c x) x

  after_piece_lem : (x out : List ℕ) {y : Answer} → Answered f (Calls.piece x out) y
      → Stands (L (piece x out) y).feed (after_call f (piece x out) y) → AfterCall b T P W E p (piece x out) (L (piece x out) y)
  after_piece_lem x out (piece_9 h) s = refused_piece x out FeedEnded
  after_piece_lem x out (piece_1 h l) s = refused_piece x out TextTooLong
  after_piece_lem x out (piece_3 h l u) s =
      refused_piece x out (NotWellFormed (f.len - length f.rest + valid_up_to_of (f.rest ++ x)))
  after_piece_lem x out (piece_8 h l u r) s = refused_piece x out (OutputTooShort (piece_room (length x)))
  after_piece_lem x out (piece_taken_lem h l u r) s =
      let D = drop (valid_up_to_of T) T in
      let u₀ : unfinished D ≡ true = ap unfinished (sym a.inv.left) ∙ a.stands.kept.unfinished_rest in
      let o = encode_all (take_chars f.pending (fed_by f x)).1.text in
      let i = by_answer a.inv (piece_taken_lem {b = x} {out = out} h l u r) in
      record {
        feed = Calls.after_piece f x;
        fed = a.fed ++ fed_by f x;
        stands = s;
        inv =
            subst (λ (w : List ℕ). Inv (Calls.after_piece f x) (T ++ x) (a.fed ++ fed_by f x) (W ++ w))
            (sym (take-append_seam o (drop (length o) out))) i;
        tagged =
            ap₂ (λ (k m : List Fed). k ++ m) a.tagged
            (ap₂ (λ (q : Policy) (d : List ℕ). fed_as q (chars (d ++ x))) a.in_force a.inv.left)
            ∙ sym (with_piece T x P p b a.each u₀);
        each = omega (arith, length-append P (replicate (length x) p), length-replicate (length x) p, length-append T x, a.each);
        in_force = a.in_force;
        ended_is = sym h ∙ a.ended_is ∙ sym (or_false E);
      }

  after_end_lem : (out : List ℕ) {y : Answer} → Answered f (Calls.end out) y → Stands (L (end out) y).feed (after_call f (end out) y)
      → AfterCall b T P W E p (end out) (L (end out) y)
  after_end_lem out (end_9 h) s = refused_end out FeedEnded
  after_end_lem out (end_10 h l) s = refused_end out UnfinishedCharacter
  after_end_lem out (end_8 h l r) s = refused_end out (OutputTooShort (piece_room 0))
  after_end_lem out (end_taken_lem h l r) s =
      let o = encode_all (settle f.pending other).text in
      idle (take (length o) (o ++ drop (length o) out)) s
      (subst (λ (w : List ℕ). Inv (Calls.after_end f) (T ++ []) (a.fed ++ []) (W ++ w)) (sym (take-append_seam o (drop (length o) out)))
      (by_answer a.inv (end_taken_lem {out = out} h l r))) a.in_force (sym (either-right E true refl))

  after_change : (policy : List ℕ) → Stands (L (change policy) (answer_to f (change policy))).feed
      (after_call f (change policy) (answer_to f (change policy)))
      → AfterCall b T P W E p (change policy) (L (change policy) (answer_to f (change policy)))
  unfolding answer_to policy_refusal
  after_change policy s = go f.ended (is_policy policy) s
    where
      A : Bool → Bool → Answer
      A t o = cond t (refused FeedEnded) (or_else (cond o None (Some (policy_fault policy))) refused (wrote []))

      go : (t o : Bool) → Stands (L (change policy) (A t o)).feed (after_call f (change policy) (A t o))
          → AfterCall b T P W E p (change policy) (L (change policy) (A t o))
      go true o s = refused_change policy FeedEnded
      go false true s = idle [] s (under_inv (policy_of policy) (same a.inv)) refl (a.ended_is ∙ sym (or_false E))
      go false false s = refused_change policy (policy_fault policy)

  pub step : (c : Call) → PieceBytes c → AfterCall b T P W E p c (called_on B c)
  unfolding answer_to
  step (piece x out) e =
      subst (λ (r : Called). AfterCall b T P W E p (piece x out) r) (sym (call_is a.stands (piece x out)))
      (after_piece_lem x out (answered f (Calls.piece x out))
      (subst (λ (r : Called). Stands r.feed (after_call f (piece x out) (answer_to f (piece x out)))) (call_is a.stands (piece x out))
      (next_stands a.stands (piece x out) e)))
  step (end out) e =
      subst (λ (r : Called). AfterCall b T P W E p (end out) r) (sym (call_is a.stands (end out)))
      (after_end_lem out (answered f (Calls.end out))
      (subst (λ (r : Called). Stands r.feed (after_call f (end out) (answer_to f (end out)))) (call_is a.stands (end out))
      (next_stands a.stands (end out) e)))
  step (change policy) e =
      subst (λ (r : Called). AfterCall b T P W E p (change policy) r) (sym (call_is a.stands (change policy)))
      (after_change policy
      (subst (λ (r : Called). Stands r.feed (after_call f (change policy) (answer_to f (change policy))))
      (call_is a.stands (change policy))
      (next_stands a.stands (change policy) e)))

-- ---- a list of calls

pub record AtLast (b : Policy) (B T : List ℕ) (P : List Policy) (W : List ℕ) (E : Bool) : Type 0 where
  pub now : Policy
  pub at : At b B T P W E now

or_assoc : (x y z : Bool) → ((x || y) || z) ≡ (x || (y || z))
or_assoc true y z = refl
or_assoc false y z = refl

module _ {b : Policy} where
  one_more : (B T : List ℕ) (P : List Policy) (W : List ℕ) (E : Bool) (p : Policy) (c : Call) (cs : List Call)
      → let r = called_on B c in
      AtLast b (feed_after_calls r.feed cs) ((T ++ piece_taken c r.answer) ++ thread_of r.feed cs)
      ((P ++ replicate (length (piece_taken c r.answer)) p) ++ policies_of r.feed (policy_after c r.answer p) cs)
      ((W ++ output_of r r.answer) ++ joined_outputs r.feed cs) ((E || end_taken c r.answer) || has_ended r.feed cs)
      → AtLast b (feed_after_calls B (c ∷ cs)) (T ++ thread_of B (c ∷ cs)) (P ++ policies_of B p (c ∷ cs)) (W ++ joined_outputs B (c ∷ cs))
      (E || has_ended B (c ∷ cs))
  unfolding feed_after_calls thread_of policies_of joined_outputs has_ended
  one_more B T P W E p c cs k =
      let r = called_on B c in
      let t = piece_taken c r.answer in
      let F = feed_after_calls r.feed cs in
      let l = replicate (length t) p in
      let q = policies_of r.feed (policy_after c r.answer p) cs in
      let o = output_of r r.answer in
      let j = joined_outputs r.feed cs in
      let h = thread_of r.feed cs in
      let k₁ = subst (λ (x : List ℕ). AtLast b F x ((P ++ l) ++ q) ((W ++ o) ++ j) ((E || end_taken c r.answer) || has_ended r.feed cs))
      (append_assoc T t h) k in
      let k₂ = subst (λ (x : List Policy). AtLast b F (T ++ (t ++ h)) x ((W ++ o) ++ j)
      ((E || end_taken c r.answer) || has_ended r.feed cs))
      (append_assoc P l q) k₁ in
      let k₃ = subst (λ (x : List ℕ). AtLast b F (T ++ (t ++ h)) (P ++ (l ++ q)) x ((E || end_taken c r.answer) || has_ended r.feed cs))
      (append_assoc W o j) k₂ in
      subst (λ (x : Bool). AtLast b F (T ++ (t ++ h)) (P ++ (l ++ q)) (W ++ (o ++ j)) x)
      (or_assoc E (end_taken c r.answer) (has_ended r.feed cs)) k₃

  runs : {cs : List Call} → OfBytes cs → {B T : List ℕ} {P : List Policy} {W : List ℕ} {E : Bool} {p : Policy} → At b B T P W E p
      → AtLast b (feed_after_calls B cs) (T ++ thread_of B cs) (P ++ policies_of B p cs) (W ++ joined_outputs B cs) (E || has_ended B cs)
  unfolding feed_after_calls thread_of policies_of joined_outputs has_ended
  runs no_call {B = B} {T = T} {P = P} {W = W} {E = E} {p = p} a = record {
    now = p;
    at = record {
      feed = a.feed;
      fed = a.fed ++ [];
      stands = a.stands;
      inv = same a.inv;
      tagged = same_tagged a;
      each = same_each a;
      in_force = a.in_force;
      ended_is = a.ended_is ∙ sym (or_false E);
    };
  }
  runs (and_piece {b = x} {out = out} {cs = cs} e o) {B = B} {T = T} {P = P} {W = W} {E = E} {p = p} a =
      one_more B T P W E p (piece x out) cs (runs o (step a (piece x out) e))
  runs (and_end {out = out} {cs = cs} o) {B = B} {T = T} {P = P} {W = W} {E = E} {p = p} a =
      one_more B T P W E p (end out) cs (runs o (step a (end out) refl))
  runs (and_change {policy = policy} {cs = cs} o) {B = B} {T = T} {P = P} {W = W} {E = E} {p = p} a =
      one_more B T P W E p (change policy) cs (runs o (step a (change policy) refl))

-- ---- from a new feed

pub from_new : (policy : List ℕ) → is_policy policy ≡ true → {cs : List Call} → OfBytes cs
    → AtLast (policy_of policy) (feed_after_calls (new_changing policy) cs) (thread_of (new_changing policy) cs)
    (policies_of (new_changing policy) (policy_of policy) cs) (joined_outputs (new_changing policy) cs) (has_ended (new_changing policy) cs)
unfolding new_changing new_bytes fed_with
from_new policy ok o =
    let a : At (policy_of policy) (new_changing policy) [] [] [] false (policy_of policy) = record {
      feed = new_feed (policy_of policy);
      fed = [];
      stands = record {
        own = policy;
        later = policy;
        changed = false;
        own_policy = ok;
        later_policy_lem = ok;
        kept = new_kept (policy_of policy);
        bytes = refl;
        in_force = refl;
      };
      inv = start (policy_of policy);
      tagged = ap (λ (l : List ℕ). fed_with l [] (policy_of policy)) (start (policy_of policy)).characters;
      each = refl;
      in_force = refl;
      ended_is = refl;
    } in
    runs o a
