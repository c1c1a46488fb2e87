-- What every feed begun new and handed on keeps: its numbers are small, its rest is unfinished, and the held base has an entry and is
-- judged by the feed's policy. So its bytes encode it, and they pass the calls' test.
use Rattle.emoji.specs.declared.presentation.Presentation.{Presentation}
use Rattle.std.specs.Prelude.{Some, None, Option}
use mathlib.Core.Path.{◌≡◌, refl, ap, sym, ◌∙◌}
use mathlib.Core.Bool.{Bool, true, false, cond, ◌&&◌, true≢false}
use mathlib.Core.List.{List, [], ◌∷◌, ◌++◌}
use Prim.Native.Nat.{ℕ, zero, suc, ◌+◌, ◌-◌, ◌^◌, ◌≤◌, ◌<◌}
use native.Mathlib.Omega.{arith}
use lib.Dec.{leb}
use lib.ListN.{drop, get_or, length, length-append, length-map, length-replicate}
use borrow.Author.Tests.{le-leb, leb-true, ne_eqb}
use Rattle.base.specs.Sums.{one_if}
use Rattle.base.specs.Refusals.{text_limit}
use Rattle.base.specs.Words.{all_bytes, bytes_of, number, word_at}
use Rattle.base.proofs.Tests.{and_both, both_true}
use Rattle.base.proofs.Words.{all_bytes_drop, little_endian-number}
use Rattle.utf8.specs.Rfc3629.{all_scalar, chars, is_scalar, valid_up_to_of}
use Rattle.utf8.specs.Subparts.{unfinished}
use Rattle.utf8.proofs.Scalars.{is_scalar_le, is_scalar_low}
use Rattle.utf8.proofs.Texts.{chars-all_scalar}
use Rattle.utf8.proofs.Unfinished.{unfinished-few}
use Rattle.emoji.specs.Presentation.{from_selector}
use Rattle.emoji.specs.Tables.{member}
use Rattle.emoji.specs.Unicode.{has_variation_sequence}
use Rattle.emoji.specs.UnicodeData.{variation_entries}
use Rattle.policy_key_set.proofs.Below.{number_le}
use Rattle.policy_key_set.specs.Sets.{entry_count, word_count}
use Rattle.policy.specs.PolicyBytes.{is_policy, policy_of}
use Rattle.policy.proofs.Refusals.{policy_parts}
use Rattle.policy.specs.declared.Policy.{Policy}
use Rattle.scanner.specs.Classes.{class_of}
use Rattle.scanner.specs.declared.char_class.Class.{Class}
use Rattle.scanner.specs.declared.char_class.Class.TheVariants.{Other as other}
use Rattle.analysis.proofs.RuleLaws.{selector_small}
use Rattle.analysis.specs.Counts.{total}
use Rattle.analysis.specs.Rules.{run_with, selector_number}
use Rattle.analysis.specs.declared.types.NonCanonicality.{NonCanonicality}
use Rattle.analysis.proofs.Measuring.{few}
use Rattle.formatter.specs.List.{count_numbers}
use Rattle.feed.specs.Feed.{Fed, Pending, base, fed_as, held_after_of, nothing, settle, take_char, take_chars, take_selector}
use Rattle.feed.specs.Calls.{Answer, Call, Feed, after, after_end, after_piece, end, fed_by, new_feed, next, piece}
use Rattle.feed.specs.Bytes.{bytes_for, held_for, is_feed, pending_of, rest_of, small_to, state_for, state_of, state_words}
use Rattle.feed.specs.declared.State.{State}
use Rattle.feed.proofs.Answered.{
  Answered,
  answered,
  end_10,
  end_8,
  end_9,
  end_taken_lem,
  piece_1,
  piece_3,
  piece_8,
  piece_9,
  piece_taken_lem,
}
use Rattle.feed.proofs.Back.{Holds, part-back, state-back, word_at_lem}
use Rattle.feed.proofs.Feeding.{Sound, bare_held_lem, held, none_held, whole-format}
use Rattle.feed.proofs.PieceRoom.{completed}
use Rattle.feed.proofs.Testing.{feed-5}
use Rattle.feed.proofs.Writing.{words_many}

-- ---- counts and selectors are at most as many as characters

-- One for the held base, and one for each of its selectors.
unfoldable pub weight : Pending → ℕ
weight nothing = 0
weight (base p c f n) = suc n

settle-few : (s : Pending) → Sound s → (k : Class) → total (settle s k).counts ≤ weight s
unfolding settle weight run_with
settle-few nothing none_held k = omega arith
settle-few (base p c None zero) (bare_held_lem e) k = omega (arith, few p c k (run_with None 0))
settle-few (base p c (Some q) (suc n)) (held e) k =
    omega (arith, few p c k (run_with (Some q) (suc n)), length-replicate (suc n - 1) q)
settle-few (base p c (Some q) zero) x6 k = elim x6 [ ]
settle-few (base p c None (suc n)) x7 k = elim x7 [ ]

held-weight : (p : Policy) (c : ℕ) (b : Bool) → weight (held_after_of p c b) ≤ 1
unfolding weight
held-weight p c true = omega arith
held-weight p c false = omega arith

char-few : (p : Policy) (s : Pending) → Sound s → (c : ℕ) (y : Option Presentation)
    → total (take_char p s c y).1.counts + weight (take_char p s c y).0 ≤ weight s + 1
unfolding take_char take_selector weight
char-few p nothing h c (Some q) = omega arith
char-few p (base p' d f n) h c (Some q) = omega arith
char-few p s h c None = omega (arith, settle-few s h (class_of c), held-weight p c (has_variation_sequence c))

pub chars-few : (s : Pending) → Sound s → (xs : List Fed)
    → total (take_chars s xs).1.counts + weight (take_chars s xs).0 ≤ weight s + length xs
unfolding take_chars
chars-few s h [] = omega arith
chars-few s h (x ∷ xs) =
    let i = chars-few (take_char x.policy s x.char (from_selector x.char)).0 (whole-format s h (x ∷ [])).sound xs in
    omega (arith, char-few x.policy s h x.char (from_selector x.char))

-- ---- the held base

no_zero : has_variation_sequence 0 ≡ false
unfolding has_variation_sequence member variation_entries
no_zero = refl

pub entry_some : (c : ℕ) → has_variation_sequence c ≡ true → c ≡ 0 → ⊥
entry_some c e z = true≢false (sym e ∙ ap has_variation_sequence z ∙ no_zero)

-- A held base is a scalar value, has an entry, and is judged by the policy.
pub data HeldUnder (p : Policy) : Pending → Type 0 where
  no_base : HeldUnder p nothing
  a_base : {c n : ℕ} {f : Option Presentation} → is_scalar c ≡ true → has_variation_sequence c ≡ true → HeldUnder p (base p c f n)

char-held : (p : Policy) {s : Pending} → HeldUnder p s → (c : ℕ) (y : Option Presentation) → is_scalar c ≡ true
    → HeldUnder p (take_char p s c y).0
unfolding take_char take_selector
char-held p no_base c (Some q) i = no_base
char-held p (a_base j e) c (Some q) i = a_base j e
char-held p h c None i = go (has_variation_sequence c) refl
  where
    go : (b : Bool) → has_variation_sequence c ≡ b → HeldUnder p (held_after_of p c b)
    go true e = a_base i e
    go false e = no_base

pub chars-held : (p : Policy) {s : Pending} → HeldUnder p s → (cs : List ℕ) → all_scalar cs ≡ true
    → HeldUnder p (take_chars s (fed_as p cs)).0
unfolding take_chars all_scalar
chars-held p h [] e = h
chars-held p {s = s} h (c ∷ cs) e =
    let b = both_true (is_scalar c) (all_scalar cs) e in
    chars-held p {s = (take_char p s c (from_selector c)).0} (char-held p h c (from_selector c) b.0) cs b.1

-- ---- what is kept

pub all_bytes_append : (a b : List ℕ) → all_bytes a ≡ true → all_bytes b ≡ true → all_bytes (a ++ b) ≡ true
unfolding all_bytes
all_bytes_append [] b e h = h
all_bytes_append (x ∷ a) b e h =
    let t = both_true (leb x 255) (all_bytes a) e in
    and_both (leb x 255) (all_bytes (a ++ b)) t.0 (all_bytes_append a b t.1 h)

pub record Kept (f : Feed) : Type 0 where
  pub sound : Sound f.pending
  pub under : HeldUnder f.policy f.pending
  pub few_counts : total f.totals + weight f.pending ≤ f.len
  pub short : f.len ≤ text_limit
  pub unfinished_rest : unfinished f.rest ≡ true
  pub rest_bytes : all_bytes f.rest ≡ true

pub new_kept : (p : Policy) → Kept (new_feed p)
unfolding weight unfinished all_bytes
new_kept p = record {
  sound = none_held;
  under = no_base;
  few_counts = omega arith;
  short = omega arith;
  unfinished_rest = refl;
  rest_bytes = refl;
}

piece_kept : {f : Feed} → Kept f → (b : List ℕ) → all_bytes b ≡ true → f.len + length b ≤ text_limit
    → unfinished (drop (valid_up_to_of (f.rest ++ b)) (f.rest ++ b)) ≡ true → Kept (after_piece f b)
piece_kept {f} k b e l u =
    let x = fed_by f b in
    let n : length x ≡ length (chars (f.rest ++ b)) = length-map (chars (f.rest ++ b))
    (λ (c : ℕ). record { char = c; policy = f.policy }) in
    record {
      sound = (whole-format f.pending k.sound x).sound;
      under = chars-held f.policy k.under (chars (f.rest ++ b)) (chars-all_scalar (f.rest ++ b));
      few_counts = omega (
        arith,
        k.few_counts,
        chars-few f.pending k.sound x,
        n,
        completed f.rest b k.unfinished_rest,
      );
      short = l;
      unfinished_rest = u;
      rest_bytes = all_bytes_drop (valid_up_to_of (f.rest ++ b)) (f.rest ++ b) (all_bytes_append f.rest b k.rest_bytes e);
    }

end_kept : {f : Feed} → Kept f → Kept (after_end f)
unfolding weight unfinished all_bytes
end_kept {f} k = record {
  sound = none_held;
  under = no_base;
  few_counts = omega (arith, k.few_counts, settle-few f.pending k.sound other);
  short = k.short;
  unfinished_rest = refl;
  rest_bytes = refl;
}

-- The piece of a call is bytes.
abbrev pub PieceBytes : Call → Type 0
PieceBytes (piece b out) = all_bytes b ≡ true
PieceBytes (end out) = true ≡ true

answer-kept : {f : Feed} → Kept f → {c : Call} {a : Answer} → PieceBytes c → Answered f c a → Kept (after f c a)
answer-kept k e (piece_9 h) = k
answer-kept k e (piece_1 h l) = k
answer-kept k e (piece_3 h l u) = k
answer-kept k e (piece_8 h l u r) = k
answer-kept k e (piece_taken_lem {b = b} h l u r) = piece_kept k b e l u
answer-kept k e (end_9 h) = k
answer-kept k e (end_10 h l) = k
answer-kept k e (end_8 h l r) = k
answer-kept k e (end_taken_lem h l r) = end_kept k

pub next-kept : {f : Feed} → Kept f → (c : Call) → PieceBytes c → Kept (next f c)
next-kept {f} k c e = answer-kept k e (answered f c)

-- ---- its words

pub policy_length_lem : (bs : List ℕ) → is_policy bs ≡ true → length bs ≡ 200
unfolding word_count entry_count variation_entries
policy_length_lem bs e = (policy_parts bs e).0

few-number : (bs : List ℕ) → all_bytes bs ≡ true → length bs ≤ 3 → number bs ≤ 16777215
unfolding number all_bytes
few-number [] e l = omega arith
few-number (a ∷ []) e l = omega (arith, leb-true a 255 (both_true (leb a 255) true e).0)
few-number (a ∷ b ∷ []) e l =
    let p = both_true (leb a 255) (leb b 255 && true) e in
    omega (arith, leb-true a 255 p.0, leb-true b 255 (both_true (leb b 255) true p.1).0)
few-number (a ∷ b ∷ c ∷ []) e l =
    let p = both_true (leb a 255) (leb b 255 && (leb c 255 && true)) e in
    let q = both_true (leb b 255) (leb c 255 && true) p.1 in
    omega (arith, leb-true a 255 p.0, leb-true b 255 q.0, leb-true c 255 (both_true (leb c 255) true q.1).0)
few-number (a ∷ b ∷ c ∷ d ∷ bs) e l = absurd (omega arith)

pub base_scalar : {p : Policy} {s : Pending} → HeldUnder p s → is_scalar (held_for s).base ≡ true
base_scalar no_base = is_scalar_low 0 (omega arith)
base_scalar (a_base i e) = i

base_same : {p : Policy} {s : Pending} → HeldUnder p s → pending_of p (held_for s) ≡ s
base_same no_base = refl
base_same {p} (a_base {c = c} {n = n} {f = f} i e) = ap (λ (t : Bool). cond t nothing (base p c f n)) (ne_eqb c 0 (entry_some c e))

held-count : (s : Pending) → (held_for s).count ≤ weight s
unfolding weight
held-count nothing = omega arith
held-count (base p c f n) = omega arith

-- Every number of a list is at most the length limit.
abbrev AllSmall : List ℕ → Type 0
AllSmall [] = true ≡ true
AllSmall (w ∷ ws) = (w ≤ text_limit) × AllSmall ws

small_at : (ws : List ℕ) → AllSmall ws → (i : ℕ) → get_or ws i 0 ≤ text_limit
small_at [] s zero = omega arith
small_at [] s (suc i) = omega arith
small_at (w ∷ ws) s zero = s.0
small_at (w ∷ ws) s (suc i) = small_at ws s.1 i

module _ {f : Feed} (k : Kept f) (policy : List ℕ) (same : policy_of policy ≡ f.policy) where
  abbrev S : State
  S = state_for f

  abbrev bs : List ℕ
  bs = bytes_for f policy

  eight-small : (n : NonCanonicality) → total n ≤ text_limit → AllSmall (count_numbers n)
  eight-small n l =
      (omega arith, (omega arith, (omega arith, (omega arith, (omega arith, (omega arith, (omega arith, (omega arith, refl))))))))

  all_small : AllSmall (state_words S)
  unfolding state_words state_for
  all_small =
      let c = k.few_counts in
      let n = held-count f.pending in
      let l = k.short in
      let u = unfinished-few f.rest k.unfinished_rest in
      let a : one_if f.ended ≤ text_limit = omega (arith, number_le f.ended) in
      let b : (held_for f.pending).base ≤ text_limit =
      omega (arith, is_scalar_le (held_for f.pending).base (base_scalar k.under)) in
      let d : selector_number (held_for f.pending).first ≤ text_limit = omega (arith, selector_small (held_for f.pending).first) in
      let r : number f.rest ≤ text_limit = omega (arith, few-number f.rest k.rest_bytes u) in
      (a, (b, (d, (omega arith, (omega arith, (r, (l, eight-small f.totals (omega arith))))))))

  narrow : (held_for f.pending).base < 4294967296
  narrow = omega (arith, is_scalar_le (held_for f.pending).base (base_scalar k.under))

  words : (i : ℕ) → get_or (state_words S) i 0 < 256 ^ 8
  words i = omega (arith, small_at (state_words S) all_small i)

  pub kept-holds : Holds f policy
  kept-holds = record {
    policy_is = same;
    pending_is = base_same k.under;
    narrow = narrow;
    words = words;
    rest_bytes = k.rest_bytes;
  }

  pub state_is : state_of bs ≡ S
  unfolding bytes_for state_for
  state_is = state-back S policy words narrow

  small_to_lem : (n : ℕ) → n ≤ 15 → small_to n bs ≡ true
  unfolding small_to bytes_for state_words
  small_to_lem zero h = refl
  small_to_lem (suc n) h =
      let w : word_at n bs ≡ get_or (state_words S) n 0 = word_at_lem (state_words S) policy n (omega arith) (words n) in
      and_both (leb (word_at n bs) text_limit) (small_to n bs)
      (le-leb (word_at n bs) text_limit (omega (arith, small_at (state_words S) all_small n)))
      (small_to_lem n (omega arith))

  -- Its bytes pass the test.
  pub kept-passes : is_policy policy ≡ true → is_feed bs ≡ true
  unfolding bytes_for state_for
  kept-passes e =
      let l : length bs ≡ 320 = omega (arith, length-append (bytes_of (state_words S)) policy, words_many S, policy_length_lem policy e) in
      sym (feed-5 bs l (small_to_lem 15 (omega arith)) (ap (λ (s : State). is_scalar s.held.base) state_is ∙ base_scalar k.under)
      (ap (λ (s : State). unfinished (rest_of s)) state_is ∙ ap unfinished (little_endian-number f.rest k.rest_bytes)
      ∙ k.unfinished_rest)
      refl)
      ∙ ap is_policy (part-back f policy) ∙ e
