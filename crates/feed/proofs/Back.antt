-- The bytes of a feed encode it: they are read back to the same feed.
use Rattle.emoji.specs.declared.presentation.Presentation.{Presentation}
use Rattle.std.specs.Prelude.{Err, Some, None, Option}
use mathlib.Core.Path.{◌≡◌, refl, ap, ap₂, sym, ◌∙◌}
use mathlib.Core.Bool.{Bool, true, false, cond, not}
use mathlib.Core.List.{List, [], ◌∷◌, ◌++◌, append_assoc}
use Prim.Native.Nat.{ℕ, zero, suc, ◌+◌, ◌*◌, ◌%◌, ◌^◌, ◌<◌}
use native.Mathlib.Omega.{arith}
use lib.Dec.{eqb}
use lib.ListN.{drop, get_or, length, take}
use lib.Seq.{drop_at, drop-drop, take_at}
use Rattle.base.specs.Sums.{one_if}
use Rattle.base.specs.Words.{all_bytes, number, word_at, word_bytes}
use Rattle.base.proofs.Words.{length_word_bytes, little_endian-number, number-little_endian}
use Rattle.base.specs.Words.{bytes_of}
use Rattle.base.specs.declared.Refusal.TheVariants.{FeedEnded}
use Rattle.emoji.specs.declared.presentation.Presentation.TheVariants.{Emoji, Text}
use Rattle.policy.specs.PolicyBytes.{policy_of}
use Rattle.policy.specs.declared.Policy.{Policy}
use Rattle.analysis.specs.Rules.{selector_number}
use Rattle.feed.specs.Calls.{Call, Feed, after, answer, next}
use Rattle.feed.specs.declared.State.{State}
use Rattle.feed.specs.Bytes.{
  bytes_for,
  called,
  counts_of,
  feed_of,
  selector_of,
  held_for,
  held_of,
  is_feed,
  leaves,
  out_of,
  pending_of,
  refuses,
  rest_of,
  state_for,
  state_of,
  state_words,
}
use Rattle.feed.proofs.Writing.{words_many}

-- A feed that bytes can encode: its numbers are words, and the policy that judges the held base is that of the feed.
pub record Holds (f : Feed) (policy : List ℕ) : Type 0 where
  pub policy_is : policy_of policy ≡ f.policy
  pub pending_is : pending_of f.policy (held_for f.pending) ≡ f.pending
  pub narrow : (held_for f.pending).base < 4294967296
  pub words : (k : ℕ) → get_or (state_words (state_for f)) k 0 < 256 ^ 8
  pub rest_bytes : all_bytes f.rest ≡ true

back : (x : ℕ) → x < 256 ^ 8 → number (word_bytes x) ≡ x
unfolding word_bytes
back x l = number-little_endian 8 x l

-- Word k of bytes that words make.
pub word_at_lem : (ws t : List ℕ) (k : ℕ) → k < length ws → get_or ws k 0 < 256 ^ 8 → word_at k (bytes_of ws ++ t) ≡ get_or ws k 0
unfolding bytes_of
word_at_lem [] t k h l = absurd (omega arith)
word_at_lem (w ∷ ws) t zero h l =
    ap (λ (y : List ℕ). number (take 8 y)) (append_assoc (word_bytes w) (bytes_of ws) t)
    ∙ ap number (take_at (word_bytes w) (bytes_of ws ++ t) 8 (length_word_bytes w)) ∙ back w l
word_at_lem (w ∷ ws) t (suc k) h l =
    let e : 8 * suc k ≡ 8 + 8 * k = omega arith in
    let m : k < length ws = omega arith in
    ap₂ (λ (i : ℕ) (y : List ℕ). number (take 8 (drop i y))) e (append_assoc (word_bytes w) (bytes_of ws) t)
    ∙ ap (λ (y : List ℕ). number (take 8 y)) (sym (drop-drop (8 * k) 8 (word_bytes w ++ (bytes_of ws ++ t))))
    ∙ ap (λ (y : List ℕ). number (take 8 (drop (8 * k) y))) (drop_at (word_bytes w) (bytes_of ws ++ t) 8 (length_word_bytes w))
    ∙ word_at_lem ws t k m l

ended-back : (b : Bool) → not (eqb (one_if b) 0) ≡ b
ended-back true = refl
ended-back false = refl

first_back : (f : Option Presentation) → selector_of (selector_number f) ≡ f
first_back None = refl
first_back (Some Text) = refl
first_back (Some Emoji) = refl

module _ (s : State) (t : List ℕ) (w : (k : ℕ) → get_or (state_words s) k 0 < 256 ^ 8) (n : s.held.base < 4294967296) where
  abbrev B : List ℕ
  B = bytes_of (state_words s) ++ t

  at : (k : ℕ) → k < 15 → word_at k B ≡ get_or (state_words s) k 0
  unfolding state_words
  at k h = word_at_lem (state_words s) t k h (w k)

  pub state-back : state_of B ≡ s
  unfolding state_of held_of counts_of state_words
  state-back =
      let b : s.held.base % 4294967296 ≡ s.held.base = omega arith in
      λ i. record {
        ended = (ap (λ (x : ℕ). not (eqb x 0)) (at 0 (omega arith)) ∙ ended-back s.ended) i;
        held = record {
          base = (ap (λ (x : ℕ). x % 4294967296) (at 1 (omega arith)) ∙ b) i;
          first = (ap selector_of (at 2 (omega arith)) ∙ first_back s.held.first) i;
          count = at 3 (omega arith) i;
        };
        rest_len = at 4 (omega arith) i;
        rest = at 5 (omega arith) i;
        len = at 6 (omega arith) i;
        counts = record {
          unsanctioned_selectors = at 7 (omega arith) i;
          modifier_defective_selectors = at 8 (omega arith) i;
          additional_defective_selectors = at 9 (omega arith) i;
          tag_conflicting_selectors = at 10 (omega arith) i;
          tag_forced_presentations = at 11 (omega arith) i;
          tag_redundant_selectors = at 12 (omega arith) i;
          policy_redundant_selectors = at 13 (omega arith) i;
          presentation_decisions = at 14 (omega arith) i;
        };
      }

-- The feed of a state and a policy.
abbrev fed_of : Policy → State → Feed
fed_of p s = record { policy = p; pending = pending_of p s.held; rest = rest_of s; totals = s.counts; len = s.len; ended = s.ended }

small : (f : Feed) → (held_for f.pending).base < 4294967296 → (state_for f).held.base < 4294967296
unfolding state_for
small f h = h

last : (f : Feed) (policy : List ℕ) → Holds f policy → fed_of f.policy (state_for f) ≡ f
unfolding state_for
last f policy h = λ i. record {
  policy = f.policy;
  pending = h.pending_is i;
  rest = little_endian-number f.rest h.rest_bytes i;
  totals = f.totals;
  len = f.len;
  ended = f.ended;
}

pub reads_back : (f : Feed) (policy : List ℕ) → Holds f policy → feed_of (bytes_for f policy) ≡ f
unfolding feed_of bytes_for
reads_back f policy h =
    ap₂ fed_of
    (ap policy_of (drop_at (bytes_of (state_words (state_for f))) policy 120 (words_many (state_for f))) ∙ h.policy_is)
    (state-back (state_for f) policy h.words (small f h.narrow))
    ∙ last f policy h

-- The policy stands after the words.
pub part-back : (f : Feed) (policy : List ℕ) → drop 120 (bytes_for f policy) ≡ policy
unfolding bytes_for
part-back f policy = drop_at (bytes_of (state_words (state_for f))) policy 120 (words_many (state_for f))

-- On the bytes of a feed a call does what the feed's own call does.
pub calls_agree : (f : Feed) (policy : List ℕ) → Holds f policy → is_feed (bytes_for f policy) ≡ true → (c : Call)
    → called (bytes_for f policy) c ≡ leaves (bytes_for f policy) (out_of c) (next f c) (answer f c)
unfolding called
calls_agree f policy h e c =
    let bs = bytes_for f policy in
    let a = answer (feed_of bs) c in
    ap (λ (t : Bool). cond t (leaves bs (out_of c) (after (feed_of bs) c a) a) (refuses (Err FeedEnded) bs (out_of c))) e
    ∙ ap (λ (g : Feed). leaves bs (out_of c) (after g c (answer g c)) (answer g c)) (reads_back f policy h)
