-- The claims on lists of calls, from what the bytes stand for.
use Rattle.std.specs.Prelude.{Ok, Err, Option, Some, None}
use mathlib.Core.Path.{◌≡◌, refl, ap, sym, ◌∙◌, subst}
use mathlib.Core.Bool.{Bool, true, false, cond, true≢false}
use mathlib.Core.List.{List, [], ◌++◌}
use Prim.Native.Nat.{ℕ}
use native.Mathlib.Omega.{arith}
use lib.ListN.{drop, length, replicate}
use Rattle.base.specs.Refusals.{or_else}
use Rattle.base.specs.declared.Refusal.{Refusal}
use Rattle.base.specs.declared.Refusal.TheVariants.{FeedEnded}
use Rattle.utf8.specs.Rfc3629.{chars, encode_all, valid_up_to_of}
use Rattle.utf8.specs.Subparts.{unfinished}
use Rattle.utf8.proofs.Texts.{length_encode_all_chars, valid_up_to_le}
use Rattle.utf8.proofs.Unfinished.{can_go_on}
use Rattle.policy.specs.PolicyBytes.{is_policy, policy_fault, policy_of, policy_refusal}
use Rattle.policy.specs.declared.Policy.{Policy}
use Rattle.scanner.specs.declared.char_class.Class.TheVariants.{Other as other}
use Rattle.formatter.proofs.CellView.{cell_view}
use Rattle.feed.specs.Feed.{Fed, Pending, fed_as, format_fed, nothing, settle, take_chars, total_fed}
use Rattle.feed.specs.Calls.{Answer, Feed, refused, wrote}
use Rattle.feed.specs.Calls as Calls
use Rattle.feed.specs.Bytes.{Called, leaves, refuses}
use Rattle.feed.specs.Theorems.{NextEnd, NextPiece}
use Rattle.feed.proofs.Answered.{answered}
use Rattle.feed.proofs.Calls.{FeedClaim, claim_of}
use Rattle.feed.proofs.InBytes.{end_outcome, piece_outcome}
use Rattle.feed.proofs.OneCall.{format_tag, total_tag}
use Rattle.policy_change.specs.Calls.{after_call, answer_to, change, end, fed_with, piece}
use Rattle.policy_change.specs.Bytes.{
  called_on,
  changing_feed,
  feed_after_calls,
  is_changing,
  joined_outputs,
  leaves_after,
  new_changing,
  out_of,
  policies_of,
  thread_of,
}
use Rattle.policy_change.specs.Theorems.{ChangingFeed, EveryChangingFeed, HoldsLast, NextChange, RefusalsWriteNothing}
use Rattle.policy_change.proofs.HeldBase.{all_held}
use Rattle.policy_change.proofs.Policies.{with_one}
use Rattle.policy_change.proofs.Runs.{At, from_new}
use Rattle.policy_change.proofs.Standing.{Stands, call_is, feed_is, passes, totals_are}
use Rattle.policy_change.proofs.Steps.{next_stands}

-- ---- the next call

no_refusal : {n : ℕ} {r : Refusal} {fe out : List ℕ} {bs o : List ℕ}
    → ◌≡◌ {A = Called} (record { answer = Ok n; feed = fe; out = out }) (refuses (Err r) bs o) → ⊥
no_refusal {n} {r} e = go (ap (λ (c : Called). c.answer) e)
  where
    go : Ok n ≡ Err r → ⊥
    go e = let z : ◌≡◌ {A = ℕ} 0 1 = cc in omega arith

module _ {B T : List ℕ} {E : Bool} (g h : Feed) where
  piece_other : (b out : List ℕ) (a : Answer) → NextPiece B T E b out (leaves B out g a)
      → NextPiece B T E b out (leaves_after B (piece b out) h a)
  piece_other b out (refused r) n = n
  piece_other b out (wrote o) n = record {
    ended = λ e. absurd (no_refusal (n.ended e));
    long = λ e l. absurd (no_refusal (n.long e l));
    ill_formed = λ e l w. absurd (no_refusal (n.ill_formed e l w));
    short = λ e l w s. absurd (no_refusal (n.short e l w s));
    taken = λ e l w s.
        let d = n.taken e l w s in
        record { bytes = d.bytes; answer = d.answer; out_bytes = d.out_bytes; room = d.room };
  }

  end_other : (out : List ℕ) (a : Answer) → NextEnd B T E out (leaves B out g a) → NextEnd B T E out (leaves_after B (end out) h a)
  end_other out (refused r) n = n
  end_other out (wrote o) n = record {
    ended = λ e. absurd (no_refusal (n.ended e));
    unfinished = λ e w. absurd (no_refusal (n.unfinished e w));
    short = λ e w s. absurd (no_refusal (n.short e w s));
    taken = λ e w s.
        let d = n.taken e w s in
        record { bytes = d.bytes; answer = d.answer; out_bytes = d.out_bytes; room = d.room };
  }

some_is : {x y : Refusal} → Some x ≡ Some y → x ≡ y
some_is e = cc

none-some : {x : Refusal} → ◌≡◌ {A = Option Refusal} None (Some x) → ⊥
none-some e = let z : ◌≡◌ {A = ℕ} 0 1 = cc in omega arith

module _ {B : List ℕ} {f : Feed} (s : Stands B f) where
  change_outcome : (policy : List ℕ) → NextChange B f.ended policy (called_on B (change policy))
  unfolding answer_to policy_refusal
  change_outcome policy =
      subst (λ (r : Called). NextChange B f.ended policy r) (sym (call_is s (change policy)))
      (go f.ended refl (is_policy policy) refl after_is)
    where
      A : Bool → Bool → Answer
      A t o = cond t (refused FeedEnded) (or_else (cond o None (Some (policy_fault policy))) refused (wrote []))

      L : Answer → Called
      L a = leaves_after B (change policy) (after_call f (change policy) a) a

      after_is : changing_feed (L (A f.ended (is_policy policy))).feed ≡ after_call f (change policy) (A f.ended (is_policy policy))
      after_is =
          ap (λ (r : Called). changing_feed r.feed) (sym (call_is s (change policy))) ∙ feed_is (next_stands s (change policy) refl)

      go : (t : Bool) → f.ended ≡ t → (o : Bool) → is_policy policy ≡ o → changing_feed (L (A t o)).feed ≡ after_call f (change policy)
          (A t o)
          → NextChange B t policy (L (A t o))
      go true e o h a = record {
        ended = λ d. refl;
        no_policy = λ d. absurd (true≢false d);
        done = λ d. absurd (true≢false d);
      }
      go false e true h a = record {
        ended = λ d. absurd (true≢false (sym d));
        no_policy = λ d r q. absurd (none-some (ap (λ (x : Bool). cond x None (Some (policy_fault policy))) (sym h) ∙ q));
        done = λ d q. (refl, ap (λ (x : Feed). x.policy) a);
      }
      go false e false h a = record {
        ended = λ d. absurd (true≢false (sym d));
        no_policy =
            λ d r q. ap (λ (x : Refusal). refuses (Err x) B []) (some_is
            (ap (λ (x : Bool). cond x None (Some (policy_fault policy))) (sym h) ∙ q));
        done = λ d q. absurd (true≢false (sym q ∙ h));
      }

-- ---- the claim

module _ (policy : List ℕ) {B T : List ℕ} {P : List Policy} {W : List ℕ} {E : Bool} {p : Policy}
    (a : At (policy_of policy) B T P W E p) where
  abbrev f : Feed
  f = a.feed

  abbrev p₀ : Policy
  p₀ = policy_of policy

  k : FeedClaim f T a.fed W
  k = claim_of a.inv

  unfinished-left : unfinished (drop (valid_up_to_of T) T) ≡ true
  unfinished-left = ap unfinished (sym a.inv.left) ∙ a.stands.kept.unfinished_rest

  -- Under one policy.
  one : P ≡ replicate (length T) p₀ → a.fed ≡ fed_as p₀ (chars T)
  one e =
      a.tagged ∙ ap (λ (l : List Policy). fed_with (chars T) l p₀) e
      ∙ with_one (chars T) (length T) p₀ p₀ (omega (arith, length_encode_all_chars T, valid_up_to_le T))

  next_piece_is : (b out : List ℕ)
      → NextPiece B T f.ended b out
      (leaves_after B (piece b out) (after_call f (piece b out) (answer_to f (piece b out))) (answer_to f (piece b out)))
  unfolding answer_to
  next_piece_is b out =
      let x = Calls.answer f (Calls.piece b out) in
      piece_other (Calls.after f (Calls.piece b out) x) (after_call f (piece b out) x) b out x
      (piece_outcome k a.stands.kept.unfinished_rest B b out (answered f (Calls.piece b out)))

  next_end_is : (out : List ℕ)
      → NextEnd B T f.ended out (leaves_after B (end out) (after_call f (end out) (answer_to f (end out))) (answer_to f (end out)))
  unfolding answer_to
  next_end_is out =
      let x = Calls.answer f (Calls.end out) in
      end_other (Calls.after f (Calls.end out) x) (after_call f (end out) x) out x
      (end_outcome k a.stands.kept.unfinished_rest B out (answered f (Calls.end out)))

  whole : ChangingFeed policy B T P W f.ended
  whole = record {
    end_whole = k.ended_whole;
    end_text = λ e. k.ended_text e ∙ ap (λ (x : List Fed). encode_all (format_fed x)) a.tagged;
    totals = totals_are a.stands ∙ k.totals ∙ ap total_fed a.tagged;
    open_text = λ e.
        ap (λ (g : Feed). W ++ encode_all (settle g.pending other).text) (feed_is a.stands) ∙ k.open_text e
        ∙ ap (λ (x : List Fed). encode_all (format_fed x)) a.tagged;
    end_one = λ e h.
        k.ended_text e ∙ ap (λ (x : List Fed). encode_all (format_fed x)) (one h) ∙ ap encode_all (format_tag p₀ (chars T))
        ∙ sym (cell_view T policy).0;
    totals_one = λ h. totals_are a.stands ∙ k.totals ∙ ap total_fed (one h) ∙ total_tag p₀ (chars T) ∙ sym (cell_view T policy).1;
    each_byte = a.each;
    held = λ e.
        subst (λ (g : Feed). HoldsLast (chars T) g.pending) (sym (feed_is a.stands))
        (subst (λ (s : Pending). HoldsLast (chars T) s) (k.pending_is e)
        (subst (λ (cs : List ℕ). HoldsLast cs (take_chars nothing a.fed).0) k.characters (all_held p₀ a.fed)));
    rest = λ e. ap (λ (g : Feed). g.rest) (feed_is a.stands) ∙ k.left;
    within_limit_lem = k.bounded;
    goes_on = can_go_on T unfinished-left;
    passes = passes a.stands;
    next_piece = λ b out.
        subst (λ (r : Called). NextPiece B T f.ended b out r) (sym (call_is a.stands (piece b out)))
        (next_piece_is b out);
    next_end = λ out. subst (λ (r : Called). NextEnd B T f.ended out r) (sym (call_is a.stands (end out))) (next_end_is out);
    next_change = change_outcome a.stands;
  }

pub every_changing : EveryChangingFeed
unfolding EveryChangingFeed
every_changing policy ok cs o =
    let r = from_new policy ok o in
    let n = new_changing policy in
    subst (λ (e : Bool). ChangingFeed policy (feed_after_calls n cs) (thread_of n cs) (policies_of n (policy_of policy) cs)
    (joined_outputs n cs) e)
    r.at.ended_is (whole policy r.at)

pub refused-writes-nothing : RefusalsWriteNothing
unfolding RefusalsWriteNothing called_on
refused-writes-nothing bs c r e = go (is_changing bs) (answer_to (changing_feed bs) c) e
  where
    R : Bool → Answer → Called
    R t a = cond t (leaves_after bs c (after_call (changing_feed bs) c a) a) (refuses (Err FeedEnded) bs (out_of c))

    go : (t : Bool) (a : Answer) → (R t a).answer ≡ Err r → ((R t a).feed ≡ bs) × ((R t a).out ≡ out_of c)
    go false a e = (refl, refl)
    go true (refused r) e = (refl, refl)
    go true (wrote o) e = let z : ◌≡◌ {A = ℕ} 0 1 = cc in absurd (omega arith)
