-- Lists of calls on a feed: it holds what taking the characters of the thread one after the other leaves.
use mathlib.Core.Path.{◌≡◌, refl, ap, ap₂, sym, ◌∙◌, subst}
use mathlib.Core.Bool.{true, false, true≢false}
use mathlib.Core.List.{List, [], ◌∷◌, ◌++◌, append_assoc, append-nil}
use Prim.Native.Nat.{ℕ, ◌+◌, ◌≤◌}
use native.Mathlib.Omega.{arith}
use lib.ListN.{drop, length, length-append, length-drop}
use lib.Seq.{drop-append_seam, drop-drop}
use Rattle.base.specs.Refusals.{text_limit}
use Rattle.utf8.specs.Rfc3629.{WellFormed, chars, encode_all, valid_up_to_of}
use Rattle.utf8.proofs.Folds.{chars_end, valid_up_to_end}
use Rattle.utf8.proofs.Fronts.{read_char_nil}
use Rattle.utf8.proofs.Grammar.{whole_well_formed}
use Rattle.utf8.proofs.Texts.{
  chars-all_scalar,
  chars-encode_all,
  encode_all_append,
  encode_all-chars-rest,
  valid_up_to-encode_all,
  valid_up_to_le,
}
use Rattle.policy.specs.declared.Policy.{Policy}
use Rattle.emoji.specs.Presentation.{from_selector}
use Rattle.scanner.specs.declared.char_class.Class.TheVariants.{Other as other}
use Rattle.analysis.specs.Counts.{◌⊕◌}
use Rattle.analysis.proofs.Counts.{empty-plus, plus_assoc, plus-empty}
use Rattle.feed.specs.Feed.{
  Effect,
  Fed,
  Pending,
  chars_of,
  fed_as,
  format_fed,
  join_effects,
  nothing,
  settle,
  take_char,
  take_chars,
  total_fed,
}
use Rattle.feed.specs.Calls.{
  Answer,
  Call,
  Feed,
  after,
  after_end,
  after_piece,
  all_fed,
  answer,
  bytes_taken,
  bytes_written,
  chars_taken,
  fed_by,
  feed_after,
  new_feed,
  next,
  outputs,
  thread,
  totals_now,
}
use Rattle.feed.proofs.Answered.{
  Answered,
  answered,
  end_10,
  end_8,
  end_9,
  end_taken_lem,
  piece_1,
  piece_3,
  piece_8,
  piece_9,
  piece_taken_lem,
}
use Rattle.feed.proofs.Feeding.{WholeFormat, none_held, whole-format}

-- ---- characters in two parts

abbrev pub R : Type 0
R = Pending × Effect

pub take_append : (s : Pending) (xs ys : List Fed)
    → take_chars s (xs ++ ys) ≡ (
      (take_chars (take_chars s xs).0 ys).0,
      join_effects (take_chars s xs).1 (take_chars (take_chars s xs).0 ys).1,
    )
unfolding take_chars
take_append s [] ys =
    λ i. ((take_chars s ys).0, record { text = (take_chars s ys).1.text; counts = sym (empty-plus (take_chars s ys).1.counts) i })
take_append s (x ∷ xs) ys =
    let r = take_char x.policy s x.char (from_selector x.char) in
    let a = take_chars r.0 xs in
    let b = take_chars a.0 ys in
    ap (λ (q : R). (q.0, join_effects r.1 q.1)) (take_append r.0 xs ys)
    ∙ (λ i. (
      b.0,
      record {
        text = sym (append_assoc r.1.text a.1.text b.1.text) i;
        counts = sym (plus_assoc r.1.counts a.1.counts b.1.counts) i;
      },
    ))

-- ---- bytes in two parts

module _ (t b : List ℕ) where
  abbrev E : List ℕ
  E = encode_all (chars t)

  abbrev D : List ℕ
  D = drop (valid_up_to_of t) t

  parted : t ++ b ≡ E ++ (D ++ b)
  parted = ap (λ (l : List ℕ). l ++ b) (sym (encode_all-chars-rest t)) ∙ append_assoc E D b

  pub chars-parted : chars (t ++ b) ≡ chars t ++ chars (D ++ b)
  chars-parted = ap chars parted ∙ chars-encode_all (chars t) (D ++ b) (chars-all_scalar t)

  pub valid_parted : valid_up_to_of (t ++ b) ≡ length E + valid_up_to_of (D ++ b)
  valid_parted = ap valid_up_to_of parted ∙ valid_up_to-encode_all (chars t) (D ++ b) (chars-all_scalar t)

  pub rest-parted : drop (valid_up_to_of (t ++ b)) (t ++ b) ≡ drop (valid_up_to_of (D ++ b)) (D ++ b)
  rest-parted =
      ap₂ (λ (n : ℕ) (l : List ℕ). drop n l) valid_parted parted
      ∙ sym (drop-drop (valid_up_to_of (D ++ b)) (length E) (E ++ (D ++ b)))
      ∙ ap (drop (valid_up_to_of (D ++ b))) (drop-append_seam E (D ++ b))

-- ---- the invariant

pub data Held (f : Feed) (X : List Fed) (W : List ℕ) : Type 0 where
  going : (w : List ℕ) → f.ended ≡ false → take_chars nothing X ≡ (f.pending, record { text = w; counts = f.totals }) → W ≡ encode_all w
      → Held f X W
  done : f.ended ≡ true → f.rest ≡ [] → f.pending ≡ nothing → encode_all (format_fed X) ≡ W → total_fed X ≡ f.totals → Held f X W

pub record Inv (f : Feed) (T : List ℕ) (X : List Fed) (W : List ℕ) : Type 0 where
  pub characters : chars_of X ≡ chars T
  pub left : f.rest ≡ drop (valid_up_to_of T) T
  pub length_is : f.len ≡ length T
  pub bounded : length T ≤ text_limit
  pub state : Held f X W

-- ---- one call

pub chars_tagged : (p : Policy) (cs : List ℕ) → chars_of (fed_as p cs) ≡ cs
chars_tagged p [] = refl
chars_tagged p (c ∷ cs) = ap (λ (l : List ℕ). c ∷ l) (chars_tagged p cs)

pub chars_of_append : (xs ys : List Fed) → chars_of (xs ++ ys) ≡ chars_of xs ++ chars_of ys
chars_of_append [] ys = refl
chars_of_append (x ∷ xs) ys = ap (λ (l : List ℕ). x.char ∷ l) (chars_of_append xs ys)

no_length : (l : List ℕ) → length l ≡ 0 → l ≡ []
no_length [] e = refl
no_length (x ∷ l) e = absurd (omega arith)

module _ {f : Feed} {T : List ℕ} {X : List Fed} {W : List ℕ} (h : Inv f T X W) where
  -- Nothing is added.
  pub same : Inv f (T ++ []) (X ++ []) (W ++ [])
  same =
      subst (λ (t : List ℕ). Inv f t (X ++ []) (W ++ [])) (sym (append-nil T))
      (subst (λ (x : List Fed). Inv f T x (W ++ [])) (sym (append-nil X)) (subst (λ (w : List ℕ). Inv f T X w) (sym (append-nil W)) h))

  step_piece : (b : List ℕ) → f.ended ≡ false → f.len + length b ≤ text_limit
      → Inv (after_piece f b) (T ++ b) (X ++ fed_by f b) (W ++ encode_all (take_chars f.pending (fed_by f b)).1.text)
  step_piece b e l = go h.state
    where
      Y : List Fed
      Y = fed_by f b

      go : Held f X W → Inv (after_piece f b) (T ++ b) (X ++ Y) (W ++ encode_all (take_chars f.pending Y).1.text)
      go (done e' _ _ _ _) = absurd (true≢false (sym e' ∙ e))
      go (going w _ t v) = record {
        characters =
            chars_of_append X Y ∙ ap₂ (λ (k l : List ℕ). k ++ l) h.characters
            (chars_tagged f.policy (chars (f.rest ++ b)) ∙ ap (λ (r : List ℕ). chars (r ++ b)) h.left)
            ∙ sym (chars-parted T b);
        left = ap (λ (r : List ℕ). drop (valid_up_to_of (r ++ b)) (r ++ b)) h.left ∙ sym (rest-parted T b);
        length_is = let m = h.length_is in omega (arith, length-append T b);
        bounded = let m = h.length_is in omega (arith, length-append T b);
        state =
            going (w ++ (take_chars f.pending Y).1.text) refl
            (take_append nothing X Y ∙ ap (λ (q : R). ((take_chars q.0 Y).0, join_effects q.1 (take_chars q.0 Y).1)) t)
            (ap (λ (l : List ℕ). l ++ encode_all (take_chars f.pending Y).1.text) v ∙ sym
            (encode_all_append w (take_chars f.pending Y).1.text));
      }

  step_end : f.ended ≡ false → length f.rest ≡ 0
      → Inv (after_end f) (T ++ []) (X ++ []) (W ++ encode_all (settle f.pending other).text)
  step_end e l = go h.state
    where
      go : Held f X W → Inv (after_end f) (T ++ []) (X ++ []) (W ++ encode_all (settle f.pending other).text)
      go (done e' _ _ _ _) = absurd (true≢false (sym e' ∙ e))
      go (going w _ t v) =
          let s : WholeFormat nothing X (f.pending, record { text = w; counts = f.totals }) = subst
          (λ (q : R). WholeFormat nothing X q) t (whole-format nothing none_held X) in
          subst (λ (y : List ℕ). Inv (after_end f) y (X ++ []) (W ++ encode_all (settle f.pending other).text)) (sym (append-nil T))
          (subst (λ (x : List Fed). Inv (after_end f) T x (W ++ encode_all (settle f.pending other).text)) (sym (append-nil X)) (record {
            characters = h.characters;
            left = sym (no_length f.rest l) ∙ h.left;
            length_is = h.length_is;
            bounded = h.bounded;
            state =
                done refl refl refl
                (ap encode_all s.text ∙ encode_all_append w (settle f.pending other).text ∙ ap
                (λ (k : List ℕ). k ++ encode_all (settle f.pending other).text) (sym v))
                s.counts;
          }))

  pub by_answer : {c : Call} {a : Answer} → Answered f c a
      → Inv (after f c a) (T ++ bytes_taken c a) (X ++ chars_taken f c a) (W ++ bytes_written a)
  by_answer (piece_9 e) = same
  by_answer (piece_1 e l) = same
  by_answer (piece_3 e l u) = same
  by_answer (piece_8 e l u r) = same
  by_answer (piece_taken_lem {b = b} e l u r) = step_piece b e l
  by_answer (end_9 e) = same
  by_answer (end_10 e l) = same
  by_answer (end_8 e l r) = same
  by_answer (end_taken_lem e l r) = step_end e l

-- ---- a list of calls

runs : {f : Feed} {T : List ℕ} {X : List Fed} {W : List ℕ} → Inv f T X W → (cs : List Call)
    → Inv (feed_after f cs) (T ++ thread f cs) (X ++ all_fed f cs) (W ++ outputs f cs)
unfolding feed_after thread all_fed outputs
runs h [] = same h
runs {f} {T} {X} {W} h (c ∷ cs) =
    let a = answer f c in
    let k = runs {f = next f c} {T = T ++ bytes_taken c a} {X = X ++ chars_taken f c a} {W = W ++ bytes_written a}
    (by_answer h (answered f c)) cs in
    subst (λ (t : List ℕ). Inv (feed_after (next f c) cs) t (X ++ (chars_taken f c a ++ all_fed (next f c) cs))
    (W ++ (bytes_written a ++ outputs (next f c) cs))) (append_assoc T (bytes_taken c a) (thread (next f c) cs))
    (subst (λ (x : List Fed). Inv (feed_after (next f c) cs) ((T ++ bytes_taken c a) ++ thread (next f c) cs) x
    (W ++ (bytes_written a ++ outputs (next f c) cs))) (append_assoc X (chars_taken f c a) (all_fed (next f c) cs))
    (subst (λ (w : List ℕ). Inv (feed_after (next f c) cs) ((T ++ bytes_taken c a) ++ thread (next f c) cs)
    ((X ++ chars_taken f c a) ++ all_fed (next f c) cs) w) (append_assoc W (bytes_written a) (outputs (next f c) cs)) k))

pub start : (p : Policy) → Inv (new_feed p) [] [] []
unfolding take_chars encode_all
start p = record {
  characters = sym (chars_end [] read_char_nil);
  left = ap (λ (n : ℕ). drop n []) (sym (valid_up_to_end [] read_char_nil));
  length_is = refl;
  bounded = omega arith;
  state = going [] refl refl refl;
}

-- ---- the claim on a list of calls

module _ (p : Policy) (cs : List Call) where
  abbrev pub F : Feed
  F = feed_after (new_feed p) cs

  abbrev pub T : List ℕ
  T = thread (new_feed p) cs

  abbrev pub X : List Fed
  X = all_fed (new_feed p) cs

-- The characters are those of the thread, the rest is what is unfinished, and the held base is that of taking these characters. Text and
-- totals are those of the characters formatted as a whole: after the end, and before it with the held base.
pub record FeedClaim (F : Feed) (T : List ℕ) (X : List Fed) (W : List ℕ) : Type 0 where
  pub characters : chars_of X ≡ chars T
  pub left : F.rest ≡ drop (valid_up_to_of T) T
  pub length_is : F.len ≡ length T
  pub bounded : length T ≤ text_limit
  pub pending_is : F.ended ≡ false → (take_chars nothing X).0 ≡ F.pending
  pub totals : totals_now F ≡ total_fed X
  pub ended_whole : F.ended ≡ true → WellFormed T
  pub ended_text : F.ended ≡ true → W ≡ encode_all (format_fed X)
  pub open_text : F.ended ≡ false → W ++ encode_all (settle F.pending other).text ≡ encode_all (format_fed X)

pub claim_of : {f : Feed} {thr : List ℕ} {x : List Fed} {W : List ℕ} → Inv f thr x W → FeedClaim f thr x W
unfolding settle
claim_of {f} {thr} {x} {W} k = go k.state
  where
    S : WholeFormat nothing x (take_chars nothing x)
    S = whole-format nothing none_held x

    go : Held f x W → FeedClaim f thr x W
    go (going w e t v) =
        let s : WholeFormat nothing x (f.pending, record { text = w; counts = f.totals }) = subst
        (λ (q : R). WholeFormat nothing x q) t S in
        record {
          characters = k.characters;
          left = k.left;
          length_is = k.length_is;
          bounded = k.bounded;
          pending_is = λ _. ap (λ (q : R). q.0) t;
          totals = sym s.counts;
          ended_whole = λ e'. absurd (true≢false (sym e' ∙ e));
          ended_text = λ e'. absurd (true≢false (sym e' ∙ e));
          open_text =
              λ _. ap (λ (l : List ℕ). l ++ encode_all (settle f.pending other).text) v ∙ sym
              (encode_all_append w (settle f.pending other).text) ∙ ap encode_all (sym s.text);
        }
    go (done e r n a b) = record {
      characters = k.characters;
      left = k.left;
      length_is = k.length_is;
      bounded = k.bounded;
      pending_is = λ e'. absurd (true≢false (sym e ∙ e'));
      totals = ap (λ (q : Pending). f.totals ⊕ (settle q other).counts) n ∙ plus-empty f.totals ∙ sym b;
      ended_whole =
          λ _. whole_well_formed thr (omega (arith, valid_up_to_le thr, ap length (sym k.left ∙ r), length-drop (valid_up_to_of thr) thr));
      ended_text = λ _. sym a;
      open_text = λ e'. absurd (true≢false (sym e ∙ e'));
    }

pub claimed : (p : Policy) (cs : List Call) → FeedClaim (F p cs) (T p cs) (X p cs) (outputs (new_feed p) cs)
claimed p cs = claim_of (runs (start p) cs)
