-- The end of a feed whose policy may change is the end of its first 320 bytes, and its totals are theirs. The outcomes of `begin` and of
-- a change, by their tests.
use Rattle.std.specs.Prelude.{Ok, Err, Result}
use mathlib.Core.Path.{◌≡◌, refl, ap, sym, ◌∙◌, subst}
use mathlib.Core.Bool.{Bool, true, false, cond}
use mathlib.Core.List.{List, [], ◌++◌, append_assoc, append-nil}
use Prim.Native.Nat.{ℕ, ◌+◌, ◌≤◌, ◌<◌}
use native.Mathlib.Omega.{arith}
use lib.Dec.{eqb}
use lib.ListN.{drop, length, length-append, length-drop, take, take-append-drop}
use lib.Seq.{drop-drop, length-sets, length-take-le, sets, sets-eq}
use borrow.Author.Tests.{eq-eqb, le-leb, lt-leb, ne_eqb}
use Rattle.base.specs.Output.{Wrote, room_for}
use Rattle.base.specs.Refusals.{After, unwritten}
use Rattle.base.specs.Words.{bytes_of, has_room, word_bytes}
use Rattle.base.specs.declared.Refusal.{Refusal}
use Rattle.base.specs.declared.Refusal.TheVariants.{FeedEnded, OutputTooShort}
use Rattle.base.proofs.Output.{bytes_put}
use Rattle.base.proofs.Words.{length_word_bytes, word_put}
use Rattle.policy.specs.PolicyBytes.{is_policy, policy_fault, policy_of, policy_refusal}
use Rattle.policy.specs.declared.Policy.{Policy}
use Rattle.analysis.specs.Counts.{empty}
use Rattle.analysis.specs.declared.types.NonCanonicality.{NonCanonicality}
use Rattle.formatter.specs.List.{count_numbers}
use Rattle.feed.specs.Calls.{Answer, Feed, after, answer, refused, totals_now, wrote}
use Rattle.feed.specs.Calls as Feed
use Rattle.feed.specs.Bytes.{
  Called,
  begun,
  bytes_for,
  called,
  feed_of,
  is_feed,
  leaves,
  new_bytes,
  refuses,
  state_for,
  state_of,
  state_words,
  totals_of,
}
use Rattle.feed.specs.declared.State.{State}
use Rattle.feed.proofs.Kept.{policy_length_lem}
use Rattle.feed.proofs.Writing.{words_many}
use Rattle.policy_change.specs.Calls.{answer_to, change, end, under}
use Rattle.policy_change.specs.Bytes.{
  begun_changing,
  called_on,
  changing_feed,
  changing_totals,
  feed_part,
  is_changed,
  is_changing,
  later_policy,
  leaves_after,
  new_changing,
}
use Rattle.feeding.proofs.FirstPart.{glued, refused_glued}
use Rattle.feeding.proofs.LaterPieces.{part-feed, seam}

-- Equal totals are written alike.
pub same-totals : {m n : NonCanonicality} {o o' : List ℕ} {r : Result ℕ Refusal} → m ≡ n → Wrote (bytes_of (count_numbers m)) o o' r
    → Wrote (bytes_of (count_numbers n)) o o' r
same-totals {m} {n} {o} {o'} {r} e w = subst (λ (k : NonCanonicality). Wrote (bytes_of (count_numbers k)) o o' r) e w

-- ---- the end

module _ (bs : List ℕ) where
  abbrev A : List ℕ
  A = feed_part bs

  abbrev D : List ℕ
  D = drop 320 bs

  module _ (out : List ℕ) where
    end_same : (p : Policy) (g : Feed) (a : Answer)
        → leaves_after bs (end out) (after (under p g) (Feed.end out) a) a ≡ glued bs (leaves A out (after g (Feed.end out) a) a)
    unfolding bytes_for state_for
    end_same p g (wrote o) = refl
    end_same p g (refused r) = refused_glued bs r out

    pub end-glued : is_changing bs ≡ true → glued bs (called A (Feed.end out)) ≡ called_on bs (end out)
    unfolding called_on called answer_to changing_feed answer
    end-glued e =
        let g = feed_of A in
        let a = answer g (Feed.end out) in
        let p = cond (is_changed bs) (policy_of (later_policy bs)) g.policy in
        ap (λ (t : Bool). glued bs (cond t (leaves A out (after g (Feed.end out) a) a) (refuses (Err FeedEnded) A out)))
        (part-feed bs e) ∙ sym (end_same p g a)
        ∙ sym (ap (λ (t : Bool). cond t (leaves_after bs (end out) (after (under p g) (Feed.end out) a) a)
        (refuses (Err FeedEnded) bs out)) e)

  -- ---- the totals

  pub totals-part : is_changing bs ≡ true → totals_of (feed_part bs) ≡ changing_totals bs
  unfolding totals_of changing_totals changing_feed
  totals-part e =
      ap (λ (t : Bool). cond t (totals_now (feed_of A)) empty) (part-feed bs e)
      ∙ sym (ap (λ (t : Bool). cond t (totals_now (feed_of A)) empty) e)

  pub totals-none : is_changing bs ≡ false → totals_of [] ≡ changing_totals bs
  unfolding totals_of changing_totals is_feed
  totals-none e = sym (ap (λ (t : Bool). cond t (totals_now (changing_feed bs)) empty) e)

  -- ---- a change

  module _ (policy : List ℕ) where
    pub change-9 : {s : State} → is_changing bs ≡ true → s ≡ state_of (feed_part bs) → s.ended ≡ true
        → refuses (Err FeedEnded) bs [] ≡ called_on bs (change policy)
    unfolding called_on answer_to changing_feed feed_of
    change-9 e i t = let d : (state_of A).ended ≡ true = ap (λ (y : State). y.ended) (sym i) ∙ t in sym (simp (e, d))

    pub change-2 : {s : State} {r : Refusal} → is_changing bs ≡ true → s ≡ state_of (feed_part bs) → s.ended ≡ false
        → is_policy policy ≡ false
        → r ≡ policy_fault policy → refuses (Err r) bs [] ≡ called_on bs (change policy)
    unfolding called_on answer_to changing_feed feed_of policy_refusal
    change-2 e i t o q =
        let d : (state_of A).ended ≡ false = ap (λ (y : State). y.ended) (sym i) ∙ t in
        ap (λ (x : Refusal). refuses (Err x) bs []) q ∙ sym (simp (e, d, o))

    abbrev changed : ℕ → List ℕ
    changed n = cond (eqb n 0) (take 120 bs ++ (policy ++ (word_bytes 0 ++ policy))) (feed_part bs ++ (word_bytes 1 ++ policy))

    pub change-done : {s : State} {bs' : List ℕ} → is_changing bs ≡ true → s ≡ state_of (feed_part bs) → s.ended ≡ false
        → is_policy policy ≡ true → bs' ≡ changed s.held.base
        → ◌≡◌ {A = Called} (record { answer = Ok 0; feed = bs'; out = [] }) (called_on bs (change policy))
    unfolding called_on answer_to changing_feed feed_of policy_refusal
    change-done e i t o w =
        let d : (state_of A).ended ≡ false = ap (λ (y : State). y.ended) (sym i) ∙ t in
        ap (λ (l : List ℕ). record { answer = Ok 0; feed = l; out = [] }) (w ∙ ap (λ (y : State). changed y.held.base) i)
        ∙ sym (simp (e, d, o))

    -- What is written.
    module _ (h : length bs ≡ 528) (l : length policy ≡ 200) where
      part_length : length A ≡ 320
      part_length = length-take-le 320 bs (omega arith)

      tail-parted : (w : List ℕ) → length w ≡ 8 → {b₁ : List ℕ} (X : List ℕ) → length X ≡ 320 → b₁ ≡ sets (X ++ D) 320 w
          → {b₂ : List ℕ} → b₂ ≡ sets b₁ 328 policy → b₂ ≡ X ++ (w ++ policy)
      tail-parted w m {b₁} X k e {b₂} g =
          let T = take 8 D in
          let P = drop 8 D in
          let ld : length D ≡ 208 = omega (arith, length-drop 320 bs) in
          let lt : length T ≡ 8 = length-take-le 8 D (omega arith) in
          let lp : length P ≡ 200 = omega (arith, length-drop 8 D) in
          let xw : length (X ++ w) ≡ 328 = omega (arith, length-append X w) in
          g ∙ ap (λ (y : List ℕ). sets y 328 policy)
          (e ∙ ap (λ (y : List ℕ). sets (X ++ y) 320 w) (sym (take-append-drop 8 D)) ∙ seam X T P w 320 k (omega arith)
          ∙ ap (λ (y : List ℕ). X ++ (w ++ y)) (sym (append-nil P)) ∙ sym (append_assoc X w (P ++ [])))
          ∙ seam (X ++ w) P [] policy 328 xw (omega arith)
          ∙ ap (λ (y : List ℕ). (X ++ w) ++ y) (append-nil policy) ∙ append_assoc X w policy

      pub held-put : {b₁ b₂ : List ℕ} {n : ℕ} → (n ≡ 0 → ⊥) → b₁ ≡ cond (has_room bs 320) (sets bs 320 (word_bytes 1)) bs
          → b₂ ≡ cond (room_for policy b₁ 328) (sets b₁ 328 policy) b₁ → b₂ ≡ changed n
      held-put {b₁} {b₂} {n} z e g =
          let a = (word_put bs b₁ 320 1 (omega arith) e).bytes in
          let k : length b₁ ≡ 528 = ap length a ∙ length-sets bs 320 (word_bytes 1) ∙ h in
          let b = (bytes_put b₁ b₂ 328 policy (omega arith) g).bytes in
          tail-parted (word_bytes 1) (length_word_bytes 1) A part_length
          (a ∙ ap (λ (y : List ℕ). sets y 320 (word_bytes 1)) (sym (take-append-drop 320 bs))) b
          ∙ sym (ap (λ (t : Bool). cond t (take 120 bs ++ (policy ++ (word_bytes 0 ++ policy))) (A ++ (word_bytes 1 ++ policy)))
          (ne_eqb n 0 z))

      pub none_put : {b₁ b₂ b₃ : List ℕ} {n : ℕ} → n ≡ 0 → b₁ ≡ cond (room_for policy bs 120) (sets bs 120 policy) bs
          → b₂ ≡ cond (has_room b₁ 320) (sets b₁ 320 (word_bytes 0)) b₁ → b₃ ≡ cond (room_for policy b₂ 328) (sets b₂ 328 policy) b₂
          → b₃ ≡ changed n
      none_put {b₁} {b₂} {b₃} {n} z e g y =
          let a = (bytes_put bs b₁ 120 policy (omega arith) e).bytes in
          let k : length b₁ ≡ 528 = ap length a ∙ length-sets bs 120 policy ∙ h in
          let b = (word_put b₁ b₂ 320 0 (omega arith) g).bytes in
          let m : length b₂ ≡ 528 = ap length b ∙ length-sets b₁ 320 (word_bytes 0) ∙ k in
          let d = (bytes_put b₂ b₃ 328 policy (omega arith) y).bytes in
          let W = take 120 bs in
          let lw : length W ≡ 120 = length-take-le 120 bs (omega arith) in
          let wp : length (W ++ policy) ≡ 320 = omega (arith, length-append W policy) in
          let f : sets bs 120 policy ≡ (W ++ policy) ++ D = sets-eq policy bs 120 (omega arith)
          ∙ ap (λ (i : ℕ). (W ++ policy) ++ drop i bs) (ap (λ (i : ℕ). 120 + i) l) in
          tail-parted (word_bytes 0) (length_word_bytes 0) (W ++ policy) wp (b ∙ ap (λ (y : List ℕ). sets y 320 (word_bytes 0)) (a ∙ f)) d
          ∙ append_assoc W policy (word_bytes 0 ++ policy)
          ∙ sym (ap (λ (t : Bool). cond t (W ++ (policy ++ (word_bytes 0 ++ policy))) (A ++ (word_bytes 1 ++ policy))) (eq-eqb n 0 z))

-- ---- a new feed

module _ (policy feed : List ℕ) where
  pub begin_2 : {r : Refusal} → is_policy policy ≡ false → r ≡ policy_fault policy
      → ◌≡◌ {A = After (Result ℕ Refusal) ℕ} (unwritten (Err r) feed) (begun_changing policy feed)
  unfolding begun_changing policy_refusal
  begin_2 e q = ap (λ (r : Refusal). unwritten (Err r) feed) q ∙ sym (simp e)

  pub begin_8 : is_policy policy ≡ true → length feed < 528
      → ◌≡◌ {A = After (Result ℕ Refusal) ℕ} (unwritten (Err (OutputTooShort 528)) feed) (begun_changing policy feed)
  unfolding begun_changing policy_refusal
  begin_8 e h = sym (simp (e, lt-leb 528 (length feed) h))

  new_length : is_policy policy ≡ true → length (new_bytes policy) ≡ 320
  unfolding new_bytes bytes_for
  new_length e =
      omega (
        arith,
        length-append (bytes_of (state_words (state_for (Feed.new_feed (policy_of policy))))) policy,
        words_many (state_for (Feed.new_feed (policy_of policy))),
        policy_length_lem policy e,
      )

  begun_is : is_policy policy ≡ true → 528 ≤ length feed → (begun policy feed).buffer
      ≡ new_bytes policy ++ drop (length (new_bytes policy)) feed
  unfolding begun policy_refusal
  begun_is e h = simp (e, le-leb 320 (length feed) (omega arith))

  pub begin_done : is_policy policy ≡ true → 528 ≤ length feed → {b₁ b₂ b₃ : List ℕ} → b₁ ≡ (begun policy feed).buffer
      → b₂ ≡ cond (has_room b₁ 320) (sets b₁ 320 (word_bytes 0)) b₁ → b₃ ≡ cond (room_for policy b₂ 328) (sets b₂ 328 policy) b₂
      → ◌≡◌ {A = After (Result ℕ Refusal) ℕ} (record { answer = Ok 528; buffer = b₃ }) (begun_changing policy feed)
  unfolding begun_changing policy_refusal new_changing
  begin_done e h {b₁} {b₂} {b₃} a b d =
      let N = new_bytes policy in
      let n = new_length e in
      let l = policy_length_lem policy e in
      let w = word_bytes 0 in
      let lw = length_word_bytes 0 in
      let R = drop 320 feed in
      let T = take 8 R in
      let P = take 200 (drop 8 R) in
      let Z = drop 200 (drop 8 R) in
      let lr : 208 ≤ length R = omega (arith, length-drop 320 feed) in
      let lt : length T ≡ 8 = length-take-le 8 R (omega arith) in
      let lq : length P ≡ 200 = length-take-le 200 (drop 8 R) (omega (arith, length-drop 8 R)) in
      let r : R ≡ T ++ (P ++ Z) = sym (take-append-drop 8 R) ∙ ap (λ (x : List ℕ). T ++ x) (sym (take-append-drop 200 (drop 8 R))) in
      let b₁_is : b₁ ≡ N ++ (T ++ (P ++ Z)) = a ∙ begun_is e h ∙ ap (λ (i : ℕ). N ++ drop i feed) n ∙ ap (λ (x : List ℕ). N ++ x) r in
      let k₁ : 528 ≤ length b₁ = omega (arith, ap length b₁_is, length-append N (T ++ (P ++ Z)), ap length r) in
      let x₂ = (word_put b₁ b₂ 320 0 (omega arith) b).bytes in
      let b₂_is : b₂ ≡ (N ++ w) ++ (P ++ Z) = x₂ ∙ ap (λ (x : List ℕ). sets x 320 w) b₁_is ∙ seam N T (P ++ Z) w 320 n (omega arith)
      ∙ sym (append_assoc N w (P ++ Z)) in
      let k₂ : length b₂ ≡ length b₁ = ap length x₂ ∙ length-sets b₁ 320 w in
      let nw : length (N ++ w) ≡ 328 = omega (arith, length-append N w) in
      let b₃_is : b₃ ≡ (N ++ w) ++ (policy ++ Z) = (bytes_put b₂ b₃ 328 policy (omega arith) d).bytes
      ∙ ap (λ (x : List ℕ). sets x 328 policy) b₂_is ∙ seam (N ++ w) P Z policy 328 nw (omega arith) in
      let M = N ++ (w ++ policy) in
      let lm : length M ≡ 528 = omega (arith, length-append N (w ++ policy), length-append w policy) in
      let z : Z ≡ drop (length M) feed = drop-drop 200 8 R ∙ drop-drop 208 320 feed ∙ ap (λ (i : ℕ). drop i feed) (sym lm) in
      let s : b₃ ≡ M ++ drop (length M) feed =
      b₃_is ∙ sym (append_assoc (N ++ w) policy Z) ∙ ap (λ (x : List ℕ). x ++ Z) (append_assoc N w policy)
      ∙ ap (λ (x : List ℕ). M ++ x) z in
      ap (λ (x : List ℕ). record { answer = Ok 528; buffer = x }) s ∙ sym (simp (e, le-leb 528 (length feed) h))
