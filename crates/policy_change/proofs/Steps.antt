-- One call: the bytes after it stand for the feed after it.
use Rattle.std.specs.Prelude.{Some, None}
use mathlib.Core.Path.{◌≡◌, refl, ap, ap₂, sym, ◌∙◌, subst}
use mathlib.Core.Bool.{Bool, true, false, cond, not, ◌&&◌, true≢false}
use mathlib.Core.List.{List, [], ◌++◌, append_assoc}
use Prim.Native.Nat.{ℕ, ◌+◌, ◌≤◌}
use native.Mathlib.Omega.{arith}
use lib.Dec.{eqb}
use lib.ListN.{drop, length, length-map, length-replicate, replicate, take}
use lib.Seq.{take_at}
use borrow.Author.Tests.{ne_eqb}
use Rattle.base.specs.Sums.{one_if}
use Rattle.base.specs.Refusals.{or_else, text_limit}
use Rattle.base.specs.Words.{all_bytes, bytes_of, word_bytes}
use Rattle.base.specs.declared.Refusal.TheVariants.{FeedEnded}
use Rattle.base.proofs.Words.{all_bytes_drop}
use Rattle.utf8.specs.Rfc3629.{chars, valid_up_to_of}
use Rattle.utf8.specs.Subparts.{unfinished}
use Rattle.utf8.proofs.Texts.{chars-all_scalar}
use Rattle.policy.specs.PolicyBytes.{is_policy, policy_fault, policy_of, policy_refusal}
use Rattle.policy.specs.declared.Policy.{Policy}
use Rattle.analysis.specs.Counts.{◌⊕◌}
use Rattle.feed.specs.Feed.{Effect, Pending, base, fed_as, nothing, take_chars}
use Rattle.feed.specs.Calls.{Answer, Feed, after_end, after_piece, fed_by, refused, rest_by, wrote}
use Rattle.feed.specs.Calls as Calls
use Rattle.feed.specs.Bytes.{Called, bytes_for, held_for, state_for, state_of, state_words}
use Rattle.feed.specs.declared.State.{State}
use Rattle.feed.proofs.Answered.{
  Answered,
  answered,
  end_10,
  end_8,
  end_9,
  end_taken_lem,
  piece_1,
  piece_3,
  piece_8,
  piece_9,
  piece_taken_lem,
}
use Rattle.feed.proofs.Back.{part-back}
use Rattle.feed.proofs.Feeding.{whole-format}
use Rattle.feed.proofs.Kept.{HeldUnder, Kept, a_base, all_bytes_append, chars-few, chars-held, entry_some, next-kept, no_base}
use Rattle.feed.proofs.PieceRoom.{completed}
use Rattle.feed.proofs.Writing.{words_many}
use Rattle.policy_change.specs.Calls.{Call, after_call, answer_to, change, end, piece, under}
use Rattle.policy_change.specs.Bytes.{
  called_on,
  feed_part,
  is_changed,
  kept_bytes,
  leaves_after,
  only_selectors,
  settled_bytes,
}
use Rattle.policy_change.proofs.Selectors.{selectors_same, settled_under}
use Rattle.policy_change.proofs.Standing.{Stands, call_is, changed_is, feed_is, later_is, part_is, part-state, tail_is}

-- ---- a piece

-- The feed after a piece is kept, if the policy in force judges what is held.
piece_kept : (p : Policy) {f : Feed} → Kept (under p f) → (b : List ℕ) → all_bytes b ≡ true → f.len + length b ≤ text_limit
    → unfinished (rest_by f b) ≡ true → HeldUnder f.policy (take_chars f.pending (fed_by f b)).0 → Kept (after_piece f b)
piece_kept p {f} k b e l u h =
    let x = fed_by f b in
    let n : length x ≡ length (chars (f.rest ++ b)) = length-map (chars (f.rest ++ b))
    (λ (c : ℕ). record { char = c; policy = f.policy }) in
    record {
      sound = (whole-format f.pending k.sound x).sound;
      under = h;
      few_counts = omega (
        arith,
        k.few_counts,
        chars-few f.pending k.sound x,
        n,
        completed f.rest b k.unfinished_rest,
      );
      short = l;
      unfinished_rest = u;
      rest_bytes = all_bytes_drop (valid_up_to_of (f.rest ++ b)) (f.rest ++ b) (all_bytes_append f.rest b k.rest_bytes e);
    }

module _ {B : List ℕ} {f : Feed} (s : Stands B f) where
  abbrev p : List ℕ
  p = s.own

  abbrev q : List ℕ
  q = s.later

  abbrev P : Policy
  P = policy_of s.own

  -- The bytes after a call that leaves both policies.
  kept_is : (g : Feed) → kept_bytes B g ≡ bytes_for g p ++ (word_bytes (one_if s.changed) ++ q)
  kept_is g =
      ap (λ (l : List ℕ). kept_bytes l g) s.bytes
      ∙ ap₂ (λ (x y : List ℕ). bytes_for g x ++ y)
      (ap (drop 120) (part_is f p q s.changed s.own_policy s.later_policy_lem) ∙ part-back f p)
      (tail_is f p q s.changed s.own_policy s.later_policy_lem)

  settled_is : (g : Feed) → settled_bytes B g ≡ bytes_for g q ++ (word_bytes 0 ++ q)
  settled_is g =
      ap (λ (l : List ℕ). settled_bytes l g) s.bytes
      ∙ ap (λ (l : List ℕ). bytes_for g l ++ (word_bytes 0 ++ l)) (later_is f p q s.changed s.own_policy s.later_policy_lem)

  changed_at : is_changed B ≡ s.changed
  changed_at = ap is_changed s.bytes ∙ changed_is f p q s.changed s.own_policy s.later_policy_lem

  -- A feed that both policies stay with.
  stays : (g : Feed) → Kept (under P g) → g.policy ≡ f.policy → Stands (kept_bytes B g) g
  stays g k e = record {
    own = p;
    later = q;
    changed = s.changed;
    own_policy = s.own_policy;
    later_policy_lem = s.later_policy_lem;
    kept = k;
    bytes = kept_is g;
    in_force = s.in_force ∙ sym e;
  }

  module _ (b : List ℕ) (e : all_bytes b ≡ true) (l : f.len + length b ≤ text_limit) (u : unfinished (rest_by f b) ≡ true) where
    abbrev C : List ℕ
    C = chars (f.rest ++ b)

    -- The policy in force has taken the place of the other.
    settled : s.changed ≡ true → only_selectors C ≡ false → Stands (settled_bytes B (after_piece f b)) (after_piece f b)
    settled c o =
        let g : policy_of q ≡ f.policy = ap (λ (t : Bool). cond t (policy_of q) P) (sym c) ∙ s.in_force in
        let k : Kept (after_piece f b) = piece_kept P s.kept b e l u
        (settled_under f.policy f.pending C o (chars-all_scalar (f.rest ++ b))) in
        record {
          own = q;
          later = q;
          changed = false;
          own_policy = s.later_policy_lem;
          later_policy_lem = s.later_policy_lem;
          kept = subst (λ (r : Policy). Kept (under r (after_piece f b))) (sym g) k;
          bytes = settled_is (after_piece f b);
          in_force = g;
        }

    -- The characters are taken alike under the policy that judges the held base.
    taken-same : take_chars f.pending (fed_by f b) ≡ take_chars f.pending (fed_as P C) → Kept (after_piece (under P f) b)
        → Kept (under P (after_piece f b))
    taken-same t k = subst (λ (r : Pending × Effect). Kept (record {
      policy = P;
      pending = r.0;
      rest = rest_by f b;
      totals = f.totals ⊕ r.1.counts;
      len = f.len + length b;
      ended = false;
    })) (sym t) k

    held-under : Kept (after_piece (under P f) b)
    held-under = piece_kept P s.kept b e l u (chars-held P s.kept.under C (chars-all_scalar (f.rest ++ b)))

    unsettled : take_chars f.pending (fed_by f b) ≡ take_chars f.pending (fed_as P C) → Stands (kept_bytes B (after_piece f b))
        (after_piece f b)
    unsettled t = stays (after_piece f b) (taken-same t held-under) refl

    pub piece-stands : Stands (cond (is_changed B && not (only_selectors C)) (settled_bytes B (after_piece f b))
        (kept_bytes B (after_piece f b)))
        (after_piece f b)
    piece-stands = go s.changed refl (only_selectors C) refl
      where
        at : (c o : Bool) → s.changed ≡ c → only_selectors C ≡ o → cond (c && not o) (settled_bytes B (after_piece f b))
            (kept_bytes B (after_piece f b))
            ≡ cond (is_changed B && not (only_selectors C)) (settled_bytes B (after_piece f b)) (kept_bytes B (after_piece f b))
        at c o x y =
            ap₂ (λ (m n : Bool). cond (m && not n) (settled_bytes B (after_piece f b)) (kept_bytes B (after_piece f b)))
            (sym (changed_at ∙ x)) (sym y)

        go : (c : Bool) → s.changed ≡ c → (o : Bool) → only_selectors C ≡ o
            → Stands (cond (is_changed B && not (only_selectors C)) (settled_bytes B (after_piece f b)) (kept_bytes B (after_piece f b)))
            (after_piece f b)
        go true x false y = subst (λ (l : List ℕ). Stands l (after_piece f b)) (at true false x y) (settled x y)
        go true x true y = subst (λ (l : List ℕ). Stands l (after_piece f b)) (at true true x y)
            (unsettled (selectors_same f.policy P f.pending C y))
        go false x o y = subst (λ (l : List ℕ). Stands l (after_piece f b)) (at false o x y)
            (unsettled (ap (λ (r : Policy). take_chars f.pending (fed_as r C))
            (sym (ap (λ (t : Bool). cond t (policy_of q) P) (sym x) ∙ s.in_force))))

-- ---- the end

end_kept : {g : Feed} → Kept g → g.ended ≡ false → length g.rest ≡ 0 → Kept (after_end g)
end_kept {g} k e n = go (answered g (Calls.end out)) (next-kept k (Calls.end out) refl)
  where
    out : List ℕ
    out = replicate 16 0

    go : {a : Answer} → Answered g (Calls.end out) a → Kept (Calls.after g (Calls.end out) a) → Kept (after_end g)
    go (end_9 h) k = absurd (true≢false (sym h ∙ e))
    go (end_10 h z) k = absurd (z n)
    go (end_8 h z l) k = absurd (omega (arith, length-replicate {A = ℕ} 16 0))
    go (end_taken_lem h z l) k = k

-- ---- a change

module _ {B : List ℕ} {f : Feed} (s : Stands B f) (policy : List ℕ) (ok : is_policy policy ≡ true) where
  abbrev own : List ℕ
  own = s.own

  abbrev W : List ℕ
  W = bytes_of (state_words (state_for f))

  abbrev f' : Feed
  f' = under (policy_of policy) f

  words_front : take 120 B ≡ W
  unfolding bytes_for
  words_front =
      ap (take 120) (s.bytes ∙ append_assoc W own (word_bytes (one_if s.changed) ++ s.later))
      ∙ take_at W (own ++ (word_bytes (one_if s.changed) ++ s.later)) 120 (words_many (state_for f))

  base_is : (state_of (feed_part B)).held.base ≡ (held_for f.pending).base
  unfolding state_for
  base_is =
      ap (λ (l : List ℕ). (state_of (feed_part l)).held.base) s.bytes
      ∙ ap (λ (t : State). t.held.base) (part-state f own s.later s.changed s.own_policy s.later_policy_lem s.kept)

  abbrev both : List ℕ
  both = take 120 B ++ (policy ++ (word_bytes 0 ++ policy))

  abbrev one : List ℕ
  one = feed_part B ++ (word_bytes 1 ++ policy)

  none_held : f.pending ≡ nothing → Stands both f'
  unfolding bytes_for state_for
  none_held e = record {
    own = policy;
    later = policy;
    changed = false;
    own_policy = ok;
    later_policy_lem = ok;
    kept = record {
      sound = s.kept.sound;
      under = subst (λ (h : Pending). HeldUnder (policy_of policy) h) (sym e) no_base;
      few_counts = s.kept.few_counts;
      short = s.kept.short;
      unfinished_rest = s.kept.unfinished_rest;
      rest_bytes = s.kept.rest_bytes;
    };
    bytes = ap (λ (l : List ℕ). l ++ (policy ++ (word_bytes 0 ++ policy))) words_front
        ∙ sym (append_assoc W policy (word_bytes 0 ++ policy));
    in_force = refl;
  }

  base_held : Stands one f'
  unfolding bytes_for state_for
  base_held = record {
    own = own;
    later = policy;
    changed = true;
    own_policy = s.own_policy;
    later_policy_lem = ok;
    kept = s.kept;
    bytes = ap (λ (l : List ℕ). feed_part l ++ (word_bytes 1 ++ policy)) s.bytes
        ∙ ap (λ (l : List ℕ). l ++ (word_bytes 1 ++ policy)) (part_is f own s.later s.changed s.own_policy s.later_policy_lem);
    in_force = refl;
  }

  pub change_stands : Stands (cond (eqb (state_of (feed_part B)).held.base 0) both one) f'
  change_stands = go f.pending s.kept.under refl
    where
      by : (t : Bool) → eqb (state_of (feed_part B)).held.base 0 ≡ t → Stands (cond t both one) f'
          → Stands (cond (eqb (state_of (feed_part B)).held.base 0) both one) f'
      by t e h = subst (λ (x : Bool). Stands (cond x both one) f') (sym e) h

      go : (h : Pending) → HeldUnder (policy_of own) h → f.pending ≡ h → Stands
          (cond (eqb (state_of (feed_part B)).held.base 0) both one) f'
      go nothing no_base e = by true (ap (λ (n : ℕ). eqb n 0) (base_is ∙ ap (λ (h : Pending). (held_for h).base) e)) (none_held e)
      go (base p c x n) (a_base i v) e =
          by false (ap (λ (n : ℕ). eqb n 0) (base_is ∙ ap (λ (h : Pending). (held_for h).base) e) ∙ ne_eqb c 0 (entry_some c v)) base_held

-- ---- any call

-- The piece of a call is bytes.
abbrev pub PieceBytes : Call → Type 0
PieceBytes (piece b out) = all_bytes b ≡ true
PieceBytes (end out) = true ≡ true
PieceBytes (change policy) = true ≡ true

module _ {B : List ℕ} {f : Feed} (s : Stands B f) where
  by_piece : (b out : List ℕ) → all_bytes b ≡ true → {a : Answer} → Answered f (Calls.piece b out) a
      → Stands (leaves_after B (piece b out) (after_call f (piece b out) a) a).feed (after_call f (piece b out) a)
  by_piece b out e (piece_9 h) = s
  by_piece b out e (piece_1 h l) = s
  by_piece b out e (piece_3 h l u) = s
  by_piece b out e (piece_8 h l u r) = s
  by_piece b out e (piece_taken_lem h l u r) =
      subst (λ (g : Feed). Stands (cond (is_changed B && not (only_selectors (chars (g.rest ++ b)))) (settled_bytes B (after_piece f b))
      (kept_bytes B (after_piece f b))) (after_piece f b)) (sym (feed_is s)) (piece-stands s b e l u)

  by_end : (out : List ℕ) {a : Answer} → Answered f (Calls.end out) a
      → Stands (leaves_after B (end out) (after_call f (end out) a) a).feed (after_call f (end out) a)
  by_end out (end_9 h) = s
  by_end out (end_10 h l) = s
  by_end out (end_8 h l r) = s
  by_end out (end_taken_lem h l r) = stays s (after_end f) (end_kept s.kept h l) refl

  by_change : (policy : List ℕ)
      → Stands (leaves_after B (change policy) (after_call f (change policy) (answer_to f (change policy)))
      (answer_to f (change policy))).feed
      (after_call f (change policy) (answer_to f (change policy)))
  unfolding answer_to policy_refusal
  by_change policy = go f.ended (is_policy policy) refl
    where
      A : Bool → Bool → Answer
      A t o = cond t (refused FeedEnded) (or_else (cond o None (Some (policy_fault policy))) refused (wrote []))

      go : (t o : Bool) → is_policy policy ≡ o → Stands (leaves_after B (change policy) (after_call f (change policy) (A t o)) (A t o)).feed
          (after_call f (change policy) (A t o))
      go true o e = s
      go false true e = change_stands s policy e
      go false false e = s

  pub next_stands : (c : Call) → PieceBytes c → Stands (called_on B c).feed (after_call f c (answer_to f c))
  unfolding answer_to
  next_stands (piece b out) e =
      subst (λ (l : List ℕ). Stands l (after_call f (piece b out) (answer_to f (piece b out))))
      (sym (ap (λ (r : Called). r.feed) (call_is s (piece b out))))
      (by_piece b out e (answered f (Calls.piece b out)))
  next_stands (end out) e =
      subst (λ (l : List ℕ). Stands l (after_call f (end out) (answer_to f (end out))))
      (sym (ap (λ (r : Called). r.feed) (call_is s (end out))))
      (by_end out (answered f (Calls.end out)))
  next_stands (change policy) e =
      subst (λ (l : List ℕ). Stands l (after_call f (change policy) (answer_to f (change policy))))
      (sym (ap (λ (r : Called). r.feed) (call_is s (change policy))))
      (by_change policy)
