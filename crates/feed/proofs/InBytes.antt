-- Lists of calls on the bytes of a feed begun new: the bytes stay those of the feed, and the claims on the feed are claims on its bytes.
use Rattle.std.specs.Prelude.{Err}
use mathlib.Core.Path.{◌≡◌, refl, ap, ap₂, sym, ◌∙◌, subst}
use mathlib.Core.Bool.{Bool, true, false, cond, ◌||◌, true≢false}
use mathlib.Core.List.{List, ◌∷◌, ◌++◌}
use Prim.Native.Nat.{ℕ, ◌+◌, ◌-◌}
use native.Mathlib.Omega.{arith}
use lib.ListN.{drop, length, length-drop}
use lib.Seq.{take-append_seam}
use Rattle.base.proofs.Tests.{either-right, or_false}
use Rattle.base.specs.declared.Refusal.{Refusal}
use Rattle.base.specs.declared.Refusal.TheVariants.{FeedEnded, NotWellFormed}
use Rattle.utf8.specs.Rfc3629.{WellFormed, chars, encode_all, valid_up_to_of}
use Rattle.utf8.specs.Subparts.{unfinished}
use Rattle.utf8.proofs.Grammar.{well_formed_whole, whole_well_formed}
use Rattle.utf8.proofs.Texts.{length_encode_all_chars, valid_up_to_le}
use Rattle.utf8.proofs.Unfinished.{can_go_on, is_unfinished}
use Rattle.policy.specs.PolicyBytes.{is_policy, policy_of}
use Rattle.scanner.specs.declared.char_class.Class.TheVariants.{Other as other}
use Rattle.analysis.specs.Counts.{empty}
use Rattle.feed.specs.Feed.{Fed, settle, take_chars}
use Rattle.feed.specs.Calls.{
  Answer,
  Call,
  Feed,
  after,
  answer,
  bytes_taken,
  bytes_written,
  end,
  fed_by,
  feed_after,
  new_feed,
  next,
  outputs,
  piece,
  refused,
  rest_by,
  thread,
  totals_now,
  wrote,
}
use Rattle.feed.specs.Bytes.{
  Called,
  bytes_for,
  called,
  end_taken,
  feed_after_calls,
  feed_of,
  has_ended,
  is_feed,
  joined_outputs,
  leaves,
  new_bytes,
  out_of,
  output_of,
  piece_taken,
  refuses,
  thread_of,
  totals_of,
}
use Rattle.feed.specs.Theorems.{FeedInBytes, GoesOn, HeldLast, NextEnd, NextPiece, OfBytes, and_end, and_piece, no_call}
use Rattle.feed.proofs.Answered.{
  Answered,
  answered,
  end_10,
  end_8,
  end_9,
  end_taken_lem,
  piece_1,
  piece_3,
  piece_8,
  piece_9,
  piece_taken_lem,
}
use Rattle.feed.proofs.Back.{calls_agree, part-back, reads_back}
use Rattle.feed.proofs.Calls.{F, FeedClaim, T, claimed, rest-parted, valid_parted}
use Rattle.feed.proofs.Kept.{Kept, PieceBytes, kept-holds, kept-passes, new_kept, next-kept}
use Rattle.feed.proofs.OneCall.{keeps-policy, whole-formatted, whole-thread, whole-totals}
use Rattle.feed.proofs.PieceRoom.{held-few, piece_bytes, settle_bytes}

-- ---- one call

-- The feed is kept, and the policy's bytes are those that it began with.
record Good (policy : List ℕ) (f : Feed) : Type 0 where
  pub kept : Kept f
  pub same : policy_of policy ≡ f.policy

module _ (policy : List ℕ) (ok : is_policy policy ≡ true) (f : Feed) (g : Good policy f) where
  abbrev bs : List ℕ
  bs = bytes_for f policy

  passes : is_feed bs ≡ true
  passes = kept-passes g.kept policy g.same ok

  feed_is : feed_of bs ≡ f
  feed_is = reads_back f policy (kept-holds g.kept policy g.same)

  call_is : (c : Call) → called bs c ≡ leaves bs (out_of c) (next f c) (answer f c)
  call_is c = calls_agree f policy (kept-holds g.kept policy g.same) passes c

  after_feed : (c : Call) (a : Answer) → (leaves bs (out_of c) (after f c a) a).feed ≡ bytes_for (after f c a) policy
  after_feed c (wrote o) = ap (bytes_for (after f c (wrote o))) (part-back f policy)
  after_feed c (refused r) = refl

  next_bytes_lem : (c : Call) → (called bs c).feed ≡ bytes_for (next f c) policy
  next_bytes_lem c = ap (λ (r : Called). r.feed) (call_is c) ∙ after_feed c (answer f c)

  next_piece_taken : (c : Call) → piece_taken c (called bs c).answer ≡ bytes_taken c (answer f c)
  next_piece_taken c = ap (λ (r : Called). piece_taken c r.answer) (call_is c) ∙ go c (answer f c)
    where
      go : (c : Call) (a : Answer) → piece_taken c (leaves bs (out_of c) (after f c a) a).answer ≡ bytes_taken c a
      go (piece b out) (wrote o) = refl
      go (piece b out) (refused r) = refl
      go (end out) (wrote o) = refl
      go (end out) (refused r) = refl

  next_output : (c : Call) → output_of (called bs c) (called bs c).answer ≡ bytes_written (answer f c)
  next_output c = ap (λ (r : Called). output_of r r.answer) (call_is c) ∙ go (answer f c)
    where
      L : Answer → Called
      L a = leaves bs (out_of c) (after f c a) a

      go : (a : Answer) → output_of (leaves bs (out_of c) (after f c a) a) (leaves bs (out_of c) (after f c a) a).answer ≡ bytes_written a
      go (wrote o) = take-append_seam o (drop (length o) (out_of c))
      go (refused r) = refl

  next-ended : (c : Call) → (next f c).ended ≡ (f.ended || end_taken c (called bs c).answer)
  next-ended c = go (answered f c) ∙ ap (λ (r : Called). f.ended || end_taken c r.answer) (sym (call_is c))
    where
      go : {c : Call} {a : Answer} → Answered f c a → (after f c a).ended
          ≡ (f.ended || end_taken c (leaves bs (out_of c) (after f c a) a).answer)
      go (piece_9 h) = sym (or_false f.ended)
      go (piece_1 h l) = sym (or_false f.ended)
      go (piece_3 h l u) = sym (or_false f.ended)
      go (piece_8 h l u r) = sym (or_false f.ended)
      go (piece_taken_lem h l u r) = sym h ∙ sym (or_false f.ended)
      go (end_9 h) = sym (or_false f.ended)
      go (end_10 h l) = sym (or_false f.ended)
      go (end_8 h l r) = sym (or_false f.ended)
      go (end_taken_lem h l r) = sym (either-right f.ended true refl)

  next-good : (c : Call) → PieceBytes c → Good policy (next f c)
  next-good c e = record {
    kept = next-kept g.kept c e;
    same = sym (keeps-policy (policy_of policy) f (sym g.same) c (answer f c));
  }

-- ---- a list of calls

record Runs (policy : List ℕ) (f : Feed) (cs : List Call) : Type 0 where
  pub bytes : feed_after_calls (bytes_for f policy) cs ≡ bytes_for (feed_after f cs) policy
  pub thread_is : thread_of (bytes_for f policy) cs ≡ thread f cs
  pub outputs_are : joined_outputs (bytes_for f policy) cs ≡ outputs f cs
  pub ended_is : (feed_after f cs).ended ≡ (f.ended || has_ended (bytes_for f policy) cs)
  pub good : Good policy (feed_after f cs)

or_assoc : (a b c : Bool) → ((a || b) || c) ≡ (a || (b || c))
or_assoc true b c = refl
or_assoc false b c = refl

module _ (policy : List ℕ) (ok : is_policy policy ≡ true) where
  end_or : (b : Bool) → b ≡ (b || false)
  end_or true = refl
  end_or false = refl

  one_more : (f : Feed) → Good policy f → (c : Call) (cs : List Call) → Runs policy (next f c) cs → Runs policy f (c ∷ cs)
  unfolding feed_after_calls feed_after thread_of thread joined_outputs outputs has_ended
  one_more f g c cs r =
      let B = (called (bytes_for f policy) c).feed in
      let n = next_bytes_lem policy ok f g c in
      record {
        bytes = ap (λ (l : List ℕ). feed_after_calls l cs) n ∙ r.bytes;
        thread_is =
            ap₂ (λ (k l : List ℕ). k ++ l) (next_piece_taken policy ok f g c) (ap (λ (l : List ℕ). thread_of l cs) n ∙ r.thread_is);
        outputs_are =
            ap₂ (λ (k l : List ℕ). k ++ l) (next_output policy ok f g c) (ap (λ (l : List ℕ). joined_outputs l cs) n ∙ r.outputs_are);
        ended_is =
            r.ended_is
            ∙ ap₂ (λ (a b : Bool). a || b) (next-ended policy ok f g c) (ap (λ (l : List ℕ). has_ended l cs) (sym n))
            ∙ or_assoc f.ended (end_taken c (called (bytes_for f policy) c).answer) (has_ended B cs);
        good = r.good;
      }

  runs : {cs : List Call} → OfBytes cs → (f : Feed) → Good policy f → Runs policy f cs
  unfolding feed_after_calls feed_after thread_of thread joined_outputs outputs has_ended
  runs no_call f g = record { bytes = refl; thread_is = refl; outputs_are = refl; ended_is = end_or f.ended; good = g }
  runs (and_piece {b = b} {out = out} {cs = cs} e o) f g =
      one_more f g (piece b out) cs (runs o (next f (piece b out)) (next-good policy ok f g (piece b out) e))
  runs (and_end {out = out} {cs = cs} o) f g =
      one_more f g (end out) cs (runs o (next f (end out)) (next-good policy ok f g (end out) refl))

-- ---- the next call

module _ {f : Feed} {t : List ℕ} {X : List Fed} {W : List ℕ} (k : FeedClaim f t X W) (u₀ : unfinished f.rest ≡ true) (B : List ℕ) where
  len_is : f.len ≡ length t
  len_is = k.length_is

  rest_is : (b : List ℕ) → rest_by f b ≡ drop (valid_up_to_of (t ++ b)) (t ++ b)
  rest_is b = ap (λ (r : List ℕ). drop (valid_up_to_of (r ++ b)) (r ++ b)) k.left ∙ sym (rest-parted t b)

  offset_is : (b : List ℕ) → f.len - length f.rest + valid_up_to_of (f.rest ++ b) ≡ valid_up_to_of (t ++ b)
  offset_is b =
      omega (
        arith,
        k.length_is,
        ap length k.left,
        length-drop (valid_up_to_of t) t,
        valid_up_to_le t,
        length_encode_all_chars t,
        ap (λ (r : List ℕ). valid_up_to_of (r ++ b)) k.left,
        valid_parted t b,
      )

  -- Refusal 3 exactly where the thread with the piece cannot go on.
  stops : (b : List ℕ) → unfinished (rest_by f b) ≡ false → GoesOn (t ++ b) → ⊥
  stops b h w = true≢false (sym (is_unfinished (t ++ b) w.0 w.1) ∙ ap unfinished (sym (rest_is b)) ∙ h)

  can : (b : List ℕ) → unfinished (rest_by f b) ≡ true → GoesOn (t ++ b)
  can b h = can_go_on (t ++ b) (ap unfinished (sym (rest_is b)) ∙ h)

  pub piece_outcome : (b out : List ℕ) {a : Answer} → Answered f (piece b out) a
      → NextPiece B t f.ended b out (leaves B out (after f (piece b out) a) a)
  piece_outcome b out (piece_9 h) = record {
    ended = λ e. refl;
    long = λ e. absurd (true≢false (sym h ∙ e));
    ill_formed = λ e. absurd (true≢false (sym h ∙ e));
    short = λ e. absurd (true≢false (sym h ∙ e));
    taken = λ e. absurd (true≢false (sym h ∙ e));
  }
  piece_outcome b out (piece_1 h l) = record {
    ended = λ e. absurd (true≢false (sym e ∙ h));
    long = λ e m. refl;
    ill_formed = λ e m. absurd (omega (arith, len_is));
    short = λ e m. absurd (omega (arith, len_is));
    taken = λ e m. absurd (omega (arith, len_is));
  }
  piece_outcome b out (piece_3 h l u) = record {
    ended = λ e. absurd (true≢false (sym e ∙ h));
    long = λ e m. absurd (omega (arith, len_is));
    ill_formed = λ e m n. ap (λ (i : ℕ). refuses (Err (NotWellFormed i)) B out) (offset_is b);
    short = λ e m n. absurd (stops b u n);
    taken = λ e m n. absurd (stops b u n);
  }
  piece_outcome b out (piece_8 h l u r) = record {
    ended = λ e. absurd (true≢false (sym e ∙ h));
    long = λ e m. absurd (omega (arith, len_is));
    ill_formed = λ e m n. absurd (n (can b u));
    short = λ e m n o. refl;
    taken = λ e m n o. absurd (omega arith);
  }
  piece_outcome b out (piece_taken_lem h l u r) = record {
    ended = λ e. absurd (true≢false (sym e ∙ h));
    long = λ e m. absurd (omega (arith, len_is));
    ill_formed = λ e m n. absurd (n (can b u));
    short = λ e m n o. absurd (omega arith);
    taken = λ e m n o. record {
      bytes = encode_all (take_chars f.pending (fed_by f b)).1.text;
      answer = refl;
      out_bytes = refl;
      room = piece_bytes f b u₀;
    };
  }

  -- The thread is well-formed exactly if nothing is left.
  none_left : WellFormed t → length f.rest ≡ 0
  none_left w =
      omega (arith, ap length k.left, length-drop (valid_up_to_of t) t, well_formed_whole w)

  whole : length f.rest ≡ 0 → WellFormed t
  whole e = whole_well_formed t
      (omega (arith, ap length k.left, length-drop (valid_up_to_of t) t, valid_up_to_le t))

  pub end_outcome : (out : List ℕ) {a : Answer} → Answered f (end out) a
      → NextEnd B t f.ended out (leaves B out (after f (end out) a) a)
  end_outcome out (end_9 h) = record {
    ended = λ e. refl;
    unfinished = λ e. absurd (true≢false (sym h ∙ e));
    short = λ e. absurd (true≢false (sym h ∙ e));
    taken = λ e. absurd (true≢false (sym h ∙ e));
  }
  end_outcome out (end_10 h l) = record {
    ended = λ e. absurd (true≢false (sym e ∙ h));
    unfinished = λ e n. refl;
    short = λ e w. absurd (l (none_left w));
    taken = λ e w. absurd (l (none_left w));
  }
  end_outcome out (end_8 h l r) = record {
    ended = λ e. absurd (true≢false (sym e ∙ h));
    unfinished = λ e n. absurd (n (whole l));
    short = λ e w m. refl;
    taken = λ e w m. absurd (omega arith);
  }
  end_outcome out (end_taken_lem h l r) = record {
    ended = λ e. absurd (true≢false (sym e ∙ h));
    unfinished = λ e n. absurd (n (whole l));
    short = λ e w m. absurd (omega arith);
    taken = λ e w m. record {
      bytes = encode_all (settle f.pending other).text;
      answer = refl;
      out_bytes = refl;
      room = omega (arith, settle_bytes f.pending other, held-few f.pending);
    };
  }

module _ (policy : List ℕ) (cs : List Call) (g : Good policy (F (policy_of policy) cs)) (ok : is_policy policy ≡ true) where
  abbrev f : Feed
  f = F (policy_of policy) cs

  abbrev t : List ℕ
  t = T (policy_of policy) cs

  abbrev B : List ℕ
  B = bytes_for f policy

  totals_are : totals_of B ≡ totals_now f
  unfolding totals_of
  totals_are =
      ap (λ (x : Bool). cond x (totals_now (feed_of B)) empty) (passes policy ok f g) ∙ ap (λ (x : Feed). totals_now x)
      (feed_is policy ok f g)

  in_bytes : FeedInBytes policy B t (outputs (new_feed (policy_of policy)) cs) f.ended
  in_bytes =
      let k = claimed (policy_of policy) cs in
      let w = whole-thread policy cs in
      let z : unfinished (drop (valid_up_to_of t) t) ≡ true = ap unfinished (sym k.left) ∙ g.kept.unfinished_rest in
      record {
        end_whole = k.ended_whole;
        end_text = w.ended_text;
        end_totals = λ e. totals_are ∙ w.totals;
        totals = totals_are ∙ w.totals ∙ whole-totals t policy;
        open_text =
            λ e. ap (λ (x : Feed). outputs (new_feed (policy_of policy)) cs ++ encode_all (settle x.pending other).text)
            (feed_is policy ok f g)
            ∙ w.open_text e ∙ whole-formatted t policy;
        held = λ e. subst (λ (x : Feed). HeldLast (policy_of policy) (chars t) x.pending) (sym (feed_is policy ok f g)) (w.held e);
        rest = λ e. ap (λ (x : Feed). x.rest) (feed_is policy ok f g) ∙ k.left;
        within_limit_lem = k.bounded;
        goes_on = can_go_on t z;
        passes = passes policy ok f g;
        next_piece = λ b out. subst (λ (r : Called). NextPiece B t f.ended b out r) (sym (call_is policy ok f g (piece b out)))
            (piece_outcome (claimed (policy_of policy) cs) g.kept.unfinished_rest B b out (answered f (piece b out)));
        next_end = λ out. subst (λ (r : Called). NextEnd B t f.ended out r) (sym (call_is policy ok f g (end out)))
            (end_outcome (claimed (policy_of policy) cs) g.kept.unfinished_rest B out (answered f (end out)));
      }

-- ---- the claim on bytes

pub every_feed : (policy : List ℕ) → is_policy policy ≡ true → (cs : List Call) → OfBytes cs
    → FeedInBytes policy (feed_after_calls (new_bytes policy) cs) (thread_of (new_bytes policy) cs) (joined_outputs (new_bytes policy) cs)
    (has_ended (new_bytes policy) cs)
unfolding new_bytes
every_feed policy ok cs o =
    let N = new_feed (policy_of policy) in
    let r = runs policy ok o N (record { kept = new_kept (policy_of policy); same = refl }) in
    let i = in_bytes policy cs r.good ok in
    let n = new_bytes policy in
    let i₁ = subst (λ (b : List ℕ). FeedInBytes policy b (thread N cs) (outputs N cs) (feed_after N cs).ended) (sym r.bytes) i in
    let i₂ = subst (λ (t : List ℕ). FeedInBytes policy (feed_after_calls n cs) t (outputs N cs) (feed_after N cs).ended)
    (sym r.thread_is) i₁ in
    let i₃ = subst (λ (w : List ℕ). FeedInBytes policy (feed_after_calls n cs) (thread_of n cs) w (feed_after N cs).ended)
    (sym r.outputs_are) i₂ in
    subst (λ (e : Bool). FeedInBytes policy (feed_after_calls n cs) (thread_of n cs) (joined_outputs n cs) e) r.ended_is i₃

-- ---- any bytes

pub refusal_writes_nothing : (bs : List ℕ) (c : Call) (r : Refusal) → (called bs c).answer ≡ Err r
    → ((called bs c).feed ≡ bs) × ((called bs c).out ≡ out_of c)
unfolding called
refusal_writes_nothing bs c r e = go (is_feed bs) (answer (feed_of bs) c) e
  where
    R : Bool → Answer → Called
    R t a = cond t (leaves bs (out_of c) (after (feed_of bs) c a) a) (refuses (Err FeedEnded) bs (out_of c))

    go : (t : Bool) (a : Answer) → (R t a).answer ≡ Err r → ((R t a).feed ≡ bs) × ((R t a).out ≡ out_of c)
    go false a e = (refl, refl)
    go true (refused r) e = (refl, refl)
    go true (wrote o) e = let z : ◌≡◌ {A = ℕ} 0 1 = cc in absurd (omega arith)
