-- A new feed: its bytes, and the outcome of `begin`.
use Rattle.std.specs.Prelude.{Ok, Err, None, Result}
use mathlib.Core.Path.{◌≡◌, ap, sym, ◌∙◌}
use mathlib.Core.Bool.{Bool, true, false, cond}
use mathlib.Core.List.{List, ◌++◌}
use Prim.Native.Nat.{ℕ, ◌+◌, ◌≤◌, ◌<◌}
use native.Mathlib.Omega.{arith}
use lib.Dec.{leb}
use lib.ListN.{drop, length, length-append}
use lib.Seq.{length-sets, sets, sets-eq}
use borrow.Author.Tests.{le-leb, lt-leb}
use Rattle.base.specs.Output.{PutAt, WritesAt, room_for}
use Rattle.base.specs.Refusals.{After, unwritten}
use Rattle.base.specs.Words.{bytes_of, number}
use Rattle.base.specs.declared.Refusal.{Refusal}
use Rattle.base.specs.declared.Refusal.TheVariants.{OutputTooShort}
use Rattle.base.proofs.Output.{bytes_put}
use Rattle.base.proofs.Writer.{sets_append}
use Rattle.policy.specs.PolicyBytes.{is_policy, policy_fault, policy_of, policy_refusal}
use Rattle.policy.specs.declared.Policy.{Policy}
use Rattle.analysis.specs.Counts.{empty}
use Rattle.analysis.specs.declared.types.NonCanonicality.{NonCanonicality}
use Rattle.feed.specs.Bytes.{begun, bytes_for, new_bytes, state_for, state_words}
use Rattle.feed.specs.Calls.{new_feed}
use Rattle.feed.specs.declared.State.{State}
use Rattle.feed.proofs.Kept.{policy_length_lem}
use Rattle.feed.proofs.Writing.{words_many}

pub new_state : (p : Policy) {n : NonCanonicality} → n ≡ empty
    → ◌≡◌ {A = State}
    (record { ended = false; held = record { base = 0; first = None; count = 0 }; rest_len = 0; rest = 0; len = 0; counts = n })
    (state_for (new_feed p))
unfolding state_for number
new_state p e =
    λ i. record {
      ended = false;
      held = record { base = 0; first = None; count = 0 };
      rest_len = 0;
      rest = 0;
      len = 0;
      counts =
          e i;
    }

-- The words of a state are written at the front of a feed.
pub state_put : (s : State) (o o' : List ℕ) (r : Bool) → 120 ≤ length o → WritesAt (bytes_of (state_words s)) o 0 r o'
    → PutAt o 0 (bytes_of (state_words s)) o' 120
state_put s o o' r h w =
    let n = words_many s in
    let p = bytes_put o o' 0 (bytes_of (state_words s)) (omega arith) w.1 in
    record { ends = omega arith; bytes = p.bytes }

module _ (policy feed : List ℕ) where
  pub begin_2 : {r : Refusal} → is_policy policy ≡ false → r ≡ policy_fault policy
      → ◌≡◌ {A = After (Result ℕ Refusal) ℕ} (unwritten (Err r) feed) (begun policy feed)
  unfolding begun policy_refusal
  begin_2 e q = ap (λ (r : Refusal). unwritten (Err r) feed) q ∙ sym (simp e)

  pub begin_8 : is_policy policy ≡ true → length feed < 320
      → ◌≡◌ {A = After (Result ℕ Refusal) ℕ} (unwritten (Err (OutputTooShort 320)) feed) (begun policy feed)
  unfolding begun policy_refusal
  begin_8 e h = sym (simp (e, lt-leb 320 (length feed) h))

  pub begin_done : is_policy policy ≡ true → 320 ≤ length feed → {o o' : List ℕ}
      → PutAt feed 0 (bytes_of (state_words (state_for (new_feed (policy_of policy))))) o 120
      → o' ≡ cond (room_for policy o 120) (sets o 120 policy) o
      → ◌≡◌ {A = After (Result ℕ Refusal) ℕ} (record { answer = Ok 320; buffer = o' }) (begun policy feed)
  unfolding begun policy_refusal new_bytes bytes_for
  begin_done e h {o} {o'} p q =
      let W = bytes_of (state_words (state_for (new_feed (policy_of policy)))) in
      let n = words_many (state_for (new_feed (policy_of policy))) in
      let l = policy_length_lem policy e in
      let m : length o ≡ length feed = ap length p.bytes ∙ length-sets feed 0 W in
      let r : leb (120 + length policy) (length o) ≡ true = le-leb (120 + length policy) (length o) (omega arith) in
      let k : length (W ++ policy) ≡ 320 = omega (arith, length-append W policy) in
      let b : o' ≡ sets o 120 policy = q ∙ ap (λ (t : Bool). cond t (sets o 120 policy) o) r in
      let z : 0 + length W ≡ 120 = omega arith in
      let d : o' ≡ sets feed 0 (W ++ policy) =
      b ∙ ap (λ (x : List ℕ). sets x 120 policy) p.bytes ∙ ap (λ (i : ℕ). sets (sets feed 0 W) i policy) (sym z)
      ∙ sym (sets_append feed 0 W policy) in
      let g : sets feed 0 (W ++ policy) ≡ (W ++ policy) ++ drop (0 + length (W ++ policy)) feed = sets-eq (W ++ policy) feed 0
      (omega arith) in
      let y : 0 + length (W ++ policy) ≡ length (W ++ policy) = omega arith in
      let a : o' ≡ (W ++ policy) ++ drop (length (W ++ policy)) feed = d ∙ g ∙ ap (λ (i : ℕ). (W ++ policy) ++ drop i feed) y in
      ap (λ (x : List ℕ). record { answer = Ok 320; buffer = x }) a ∙ sym (simp (e, le-leb 320 (length feed) h))
