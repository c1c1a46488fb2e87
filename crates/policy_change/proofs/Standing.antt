-- Which bytes stand for a feed whose policy may change, and what the test of the calls and the reading of these bytes give.
use Rattle.std.specs.Prelude.{Err}
use mathlib.Core.Path.{◌≡◌, refl, ap, ap₂, sym, ◌∙◌}
use mathlib.Core.Bool.{Bool, true, false, cond, not, ◌&&◌, ◌||◌}
use mathlib.Core.List.{List, ◌++◌}
use Prim.Native.Nat.{ℕ}
use native.Mathlib.Omega.{arith}
use lib.Dec.{eqb}
use lib.ListN.{drop, length, length-append, take}
use lib.Seq.{drop_at, drop-drop, take_at}
use borrow.Author.Tests.{eq-eqb}
use Rattle.base.specs.Sums.{one_if}
use Rattle.base.specs.Words.{bytes_of, little_endian, number, word_bytes}
use Rattle.base.specs.declared.Refusal.TheVariants.{FeedEnded}
use Rattle.base.proofs.Tests.{and_both}
use Rattle.base.proofs.Words.{length_word_bytes}
use Rattle.policy.specs.PolicyBytes.{is_policy, policy_of}
use Rattle.policy.specs.declared.Policy.{Policy}
use Rattle.analysis.specs.Counts.{empty}
use Rattle.feed.specs.Calls.{Feed, totals_now}
use Rattle.feed.specs.Bytes.{bytes_for, feed_of, is_feed, refuses, state_for, state_of, state_words}
use Rattle.feed.proofs.Back.{reads_back}
use Rattle.feed.proofs.Kept.{Kept, kept-holds, kept-passes, policy_length_lem, state_is}
use Rattle.feed.proofs.Writing.{words_many}
use Rattle.policy_change.specs.Calls.{Call, after_call, answer_to, under}
use Rattle.policy_change.specs.Bytes.{
  called_on,
  changing_feed,
  changing_totals,
  feed_part,
  is_changed,
  is_changing,
  later_policy,
  leaves_after,
  out_of,
}

-- The bytes B stand for the feed f: its words, the policy that judges the held base, whether the policy has changed since, and the policy
-- after that.
pub record Stands (B : List ℕ) (f : Feed) : Type 0 where
  pub own : List ℕ
  pub later : List ℕ
  pub changed : Bool
  pub own_policy : is_policy own ≡ true
  pub later_policy_lem : is_policy later ≡ true
  pub kept : Kept (under (policy_of own) f)
  pub bytes : B ≡ bytes_for f own ++ (word_bytes (one_if changed) ++ later)
  pub in_force : cond changed (policy_of later) (policy_of own) ≡ f.policy

pub feed_bytes_lem : (f : Feed) (p : List ℕ) → is_policy p ≡ true → length (bytes_for f p) ≡ 320
unfolding bytes_for
feed_bytes_lem f p e = omega (
  arith,
  length-append (bytes_of (state_words (state_for f))) p,
  words_many (state_for f),
  policy_length_lem p e,
)

-- The parts of such bytes.
module _ (f : Feed) (p q : List ℕ) (c : Bool) (ep : is_policy p ≡ true) (eq : is_policy q ≡ true) where
  abbrev B : List ℕ
  B = bytes_for f p ++ (word_bytes (one_if c) ++ q)

  pub part_is : feed_part B ≡ bytes_for f p
  part_is = take_at (bytes_for f p) (word_bytes (one_if c) ++ q) 320 (feed_bytes_lem f p ep)

  pub tail_is : drop 320 B ≡ word_bytes (one_if c) ++ q
  tail_is = drop_at (bytes_for f p) (word_bytes (one_if c) ++ q) 320 (feed_bytes_lem f p ep)

  flag_back : (c : Bool) → not (eqb (number (word_bytes (one_if c))) 0) ≡ c
  unfolding word_bytes little_endian number
  flag_back true = refl
  flag_back false = refl

  pub changed_is : is_changed B ≡ c
  changed_is =
      ap (λ (l : List ℕ). not (eqb (number (take 8 l)) 0)) tail_is
      ∙ ap (λ (l : List ℕ). not (eqb (number l) 0)) (take_at (word_bytes (one_if c)) q 8 (length_word_bytes (one_if c))) ∙ flag_back c

  pub later_is : later_policy B ≡ q
  later_is = sym (drop-drop 8 320 B) ∙ ap (drop 8) tail_is ∙ drop_at (word_bytes (one_if c)) q 8 (length_word_bytes (one_if c))

  pub length_is : length B ≡ 528
  length_is =
      omega (
        arith,
        length-append (bytes_for f p) (word_bytes (one_if c) ++ q),
        feed_bytes_lem f p ep,
        length-append (word_bytes (one_if c)) q,
        length_word_bytes (one_if c),
        policy_length_lem q eq,
      )

  module _ (k : Kept (under (policy_of p) f)) where
    pub part-passes : is_feed (feed_part B) ≡ true
    unfolding bytes_for state_for
    part-passes = ap is_feed part_is ∙ kept-passes k p refl ep

    pub part-feed : feed_of (feed_part B) ≡ under (policy_of p) f
    unfolding bytes_for state_for
    part-feed = ap feed_of part_is ∙ reads_back (under (policy_of p) f) p (kept-holds k p refl)

    pub part-state : state_of (feed_part B) ≡ state_for f
    unfolding bytes_for state_for
    part-state = ap state_of part_is ∙ state_is k p refl

    passing : is_changing B ≡ true
    unfolding is_changing
    passing =
        and_both (eqb (length B) 528) (is_feed (feed_part B) && (not (is_changed B) || is_policy (later_policy B)))
        (eq-eqb (length B) 528 length_is)
        (and_both (is_feed (feed_part B)) (not (is_changed B) || is_policy (later_policy B)) part-passes
        (ap (λ (l : List ℕ). not (is_changed B) || is_policy l) later_is ∙ ap (λ (t : Bool). not (is_changed B) || t) eq ∙ or_true
        (not (is_changed B))))
      where
        or_true : (t : Bool) → (t || true) ≡ true
        or_true true = refl
        or_true false = refl

    reading : cond c (policy_of q) (policy_of p) ≡ f.policy → changing_feed B ≡ f
    unfolding changing_feed
    reading e =
        ap₂ (λ (t : Bool) (l : List ℕ). under (cond t (policy_of l) (feed_of (feed_part B)).policy) (feed_of (feed_part B))) changed_is
        later_is
        ∙ ap (λ (g : Feed). under (cond c (policy_of q) g.policy) g) part-feed ∙ ap (λ (r : Policy). under r f) e

module _ {B : List ℕ} {f : Feed} (s : Stands B f) where
  pub passes : is_changing B ≡ true
  passes = ap is_changing s.bytes ∙ passing f s.own s.later s.changed s.own_policy s.later_policy_lem s.kept

  pub feed_is : changing_feed B ≡ f
  feed_is =
      ap changing_feed s.bytes ∙ reading f s.own s.later s.changed s.own_policy s.later_policy_lem s.kept s.in_force

  pub call_is : (c : Call) → called_on B c ≡ leaves_after B c (after_call f c (answer_to f c)) (answer_to f c)
  unfolding called_on
  call_is c =
      ap (λ (t : Bool). cond t (leaves_after B c (after_call (changing_feed B) c (answer_to (changing_feed B) c))
      (answer_to (changing_feed B) c))
      (refuses (Err FeedEnded) B (out_of c))) passes
      ∙ ap (λ (g : Feed). leaves_after B c (after_call g c (answer_to g c)) (answer_to g c)) feed_is

  pub totals_are : changing_totals B ≡ totals_now f
  unfolding changing_totals
  totals_are =
      ap (λ (t : Bool). cond t (totals_now (changing_feed B)) empty) passes ∙ ap (λ (g : Feed). totals_now g) feed_is
