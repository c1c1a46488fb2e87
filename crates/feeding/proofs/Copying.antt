-- Pieces of ASCII that are copied: the words of a feed that copies ASCII, what such a feed does with ASCII, and its bytes after a piece.
use Rattle.std.specs.Prelude.{Ok, None}
use mathlib.Core.Path.{◌≡◌, refl, ap, ap₂, sym, ◌∙◌, subst}
use mathlib.Core.Logic.{◌⊎◌, ⊎_elim}
use mathlib.Core.Bool.{Bool, true, false, cond, not}
use mathlib.Core.List.{List, [], ◌∷◌, ◌++◌, append_assoc, append-nil, map}
use Prim.Native.Nat.{ℕ, zero, suc, ◌+◌, ◌-◌, ◌*◌, ◌%◌, ◌≤◌, ◌<◌}
use native.Mathlib.Omega.{arith}
use lib.Dec.{eqb, leb}
use lib.ListN.{drop, get_or, length, length-drop, take, take-append-drop}
use lib.Seq.{drop-drop, length-sets, length-take-le, sets, sets-eq}
use borrow.Author.Tests.{eq-eqb, eqb-false, eqb-true, le-leb, ne_eqb}
use Rattle.base.specs.Output.{PutAt}
use Rattle.base.specs.Refusals.{text_limit}
use Rattle.base.specs.Words.{all_bytes, bytes_of, has_room, little_endian, word_at, word_bytes}
use Rattle.base.proofs.Tests.{and_both, le_or_lt}
use Rattle.base.proofs.Words.{all_bytes_drop, word_read}
use Rattle.base.proofs.Writer.{put_as, put_then}
use Rattle.utf8.specs.Rfc3629.{all_scalar, chars, encode_all, is_scalar, valid_up_to_of}
use Rattle.utf8.specs.Subparts.{unfinished}
use Rattle.utf8.proofs.Encoding.{encode_1}
use Rattle.utf8.proofs.Texts.{chars-encode_all-alone, encode_all_append, encode_all-whole}
use Rattle.emoji.specs.Presentation.{as_selector, from_selector}
use Rattle.emoji.specs.Unicode.{has_variation_sequence}
use Rattle.emoji.specs.Tables.{member}
use Rattle.emoji.specs.UnicodeData.{variation_entries}
use Rattle.policy.specs.PolicyBytes.{ascii_keys_bare, is_policy, words_from}
use Rattle.policy.specs.declared.Policy.{Policy}
use Rattle.policy.specs.declared.SingletonRule.{SingletonRule}
use Rattle.policy.specs.declared.SingletonRule.TheVariants.{EmojiToBare, TextToBare}
use Rattle.policy.specs.Policy.{singleton_rule}
use Rattle.policy.proofs.ByEntry.{ascii_rule_bare}
use Rattle.policy.proofs.RoundTrips.{words_from_drop}
use Rattle.scanner.specs.Classes.{class_of}
use Rattle.scanner.specs.declared.char_class.Class.TheVariants.{Other as other}
use Rattle.analysis.specs.Analysis.{chosen}
use Rattle.analysis.specs.Counts.{empty}
use Rattle.analysis.specs.Rules.{outcome, rule1, rule6, run_with, without_selector}
use Rattle.analysis.specs.declared.singleton.Outcome.{Outcome}
use Rattle.analysis.proofs.Counts.{plus-empty}
use Rattle.analysis.proofs.Rules.{outcome_entry, outcome_no_entry}
use Rattle.text_pass.specs.Changes.{AsciiBare}
use Rattle.text_pass.proofs.PlainText.{ascii_other, other_plain}
use Rattle.text_pass.proofs.RuleClasses.{rules_before, same_outcome}
use Rattle.feed.specs.Bytes.{
  Called,
  called,
  counts_of,
  held_for,
  pending_of,
  policy_part,
  rest_of,
  selector_of,
  small_to,
  state_of,
  state_words,
}
use Rattle.feed.specs.Feed.{Effect, Pending, fed_as, held_after_of, join_effects, no_effect, settle, take_char, take_chars, written_alone}
use Rattle.feed.specs.Calls.{piece}
use Rattle.feed.specs.declared.State.{State}
use Rattle.feed.proofs.Calls.{R}
use Rattle.feed.proofs.Kept.{entry_some}
use Rattle.feed.proofs.Reading.{held-made, state-made}
use Rattle.feed.proofs.Testing.{feed-5}
use Rattle.feed.proofs.Writing.{words_many}
use Rattle.feeding.specs.Copied.{AllAscii, CopiedPiece, CopiesAscii, WordsFit, bare_held, copied_length, held_entry, held_list}
use Rattle.feeding.specs.Helpers.{TakenBy, open_state}
use Rattle.feeding.proofs.Joining.{left-none}
use Rattle.feeding.proofs.Pieces.{held_none, held-some, piece-done}
use Rattle.feeding.proofs.Settling.{feed_length, settle-none, settle-some}
use Rattle.feeding.proofs.Taking.{by, pending_some}

-- ---- a loop over words or bytes

-- One more of the numbers from `a` up to `k`.
pub and_next : (P : ℕ → Type 0) {a k : ℕ} → ((j : ℕ) → a ≤ j → j < k → P j) → P k → (j : ℕ) → a ≤ j → j < k + 1 → P j
and_next P {a} {k} f q j h l =
    ⊎_elim (λ m. let e : k ≡ j = omega arith in subst P e q) (λ m. f j h m) (le_or_lt k j)

-- ---- ASCII characters and bytes

no_selector : (c : ℕ) → c ≤ 0x7F → from_selector c ≡ None
unfolding from_selector
no_selector c h = simp (ne_eqb c 0xFE0E (λ e. omega arith), ne_eqb c 0xFE0F (λ e. omega arith))

pub ascii_scalar : (c : ℕ) → c ≤ 0x7F → is_scalar c ≡ true
unfolding is_scalar
ascii_scalar c h = simp (le-leb 0 c (omega arith), le-leb c 0xD7FF (omega arith))

all_scalar_lem : (cs : List ℕ) → AllAscii cs → all_scalar cs ≡ true
unfolding all_scalar
all_scalar_lem [] f = refl
all_scalar_lem (x ∷ xs) f =
    and_both (is_scalar x) (all_scalar xs) (ascii_scalar x (f 0 (omega arith))) (all_scalar_lem xs (λ k l. f (suc k) (omega arith)))

encode_all_ascii : (cs : List ℕ) → AllAscii cs → encode_all cs ≡ cs
unfolding encode_all
encode_all_ascii [] f = refl
encode_all_ascii (x ∷ xs) f =
    ap₂ (λ (a b : List ℕ). a ++ b) (encode_1 x (f 0 (omega arith))) (encode_all_ascii xs (λ k l. f (suc k) (omega arith)))

pub chars_ascii : (b : List ℕ) → AllAscii b → chars b ≡ b
chars_ascii b f = ap chars (sym (encode_all_ascii b f)) ∙ chars-encode_all-alone b (all_scalar_lem b f)

pub valid_ascii : (b : List ℕ) → AllAscii b → valid_up_to_of b ≡ length b
valid_ascii b f =
    ap valid_up_to_of (sym (encode_all_ascii b f)) ∙ encode_all-whole b (all_scalar_lem b f) ∙ ap length (encode_all_ascii b f)

-- ---- what a feed does with ASCII

bare_rule : (r : SingletonRule) → (r ≡ TextToBare) ⊎ (r ≡ EmojiToBare) → rule6 r [] ≡ rule6 TextToBare []
unfolding rule6 without_selector
bare_rule r h = ⊎_elim (λ e. rw e refl) (λ e. rw e refl) h

module _ (p : Policy) (bare : AsciiBare p) where
  -- An ASCII character stays bare before an ASCII character.
  outcome_ascii : (c x : ℕ) → c ≤ 0x7F → x ≤ 0x7F → outcome p c (class_of x) [] ≡ rule6 TextToBare []
  unfolding rule6 without_selector rule1
  outcome_ascii c x h l = go (has_variation_sequence c) refl
    where
      go : (t : Bool) → has_variation_sequence c ≡ t → outcome p c (class_of x) [] ≡ rule6 TextToBare []
      go true e =
          sym (same_outcome p c [] (rules_before x (omega arith))) ∙ outcome_entry p c other [] e
          ∙ bare_rule (singleton_rule p c false) (bare c h e)
      go false e = outcome_no_entry p c (class_of x) [] e

  abbrev held : ℕ → Pending
  held c = pending_of p (bare_held c)

  settled : (c x : ℕ) → c ≤ 0x7F → x ≤ 0x7F → settle (held c) (class_of x) ≡ record { text = held_list c; counts = empty }
  unfolding run_with rule6 without_selector
  settled c x h l = go (eqb c 0) refl
    where
      go : (t : Bool) → eqb c 0 ≡ t → settle (held c) (class_of x) ≡ record { text = held_list c; counts = empty }
      go true e =
          settle-none p (bare_held c) (class_of x) (eqb-true c 0 e)
          ∙ ap (λ (t : Bool). record { text = cond t [] (c ∷ []); counts = empty }) (sym e)
      go false e =
          settle-some p (bare_held c) (class_of x) (eqb-false c 0 e)
          ∙ ap (λ (o : Outcome). record { text = c ∷ map as_selector (chosen o.slot []); counts = o.counts }) (outcome_ascii c x h l)
          ∙ ap (λ (t : Bool). record { text = cond t [] (c ∷ []); counts = empty }) (sym e)

  held_after : (x : ℕ) → held_after_of p x (has_variation_sequence x) ≡ held (held_entry x)
  held_after x = go (has_variation_sequence x) refl
    where
      go : (t : Bool) → has_variation_sequence x ≡ t → held_after_of p x t ≡ held (cond t x 0)
      go true e = sym (pending_some p (bare_held x) (entry_some x e))
      go false e = refl

  one : (c x : ℕ) → c ≤ 0x7F → x ≤ 0x7F → take_char p (held c) x (from_selector x)
      ≡ (held (held_entry x), record { text = held_list c ++ written_alone x (has_variation_sequence x); counts = empty })
  unfolding take_char
  one c x h l =
      ap (take_char p (held c) x) (no_selector x l)
      ∙ ap₂ (λ (q : Pending) (s : Effect). (q, record { text = s.text ++ written_alone x (has_variation_sequence x); counts = s.counts }))
      (held_after x) (settled c x h l)

-- ---- what is held after ASCII, and what is written of it

-- What is held after a character and those after it.
abbrev pub last_entry_lem : ℕ → List ℕ → ℕ
last_entry_lem x [] = held_entry x
last_entry_lem x (y ∷ ys) = last_entry_lem y ys

-- What is written of them: all but a last base.
abbrev pub copied_of : ℕ → List ℕ → List ℕ
copied_of x [] = written_alone x (has_variation_sequence x)
copied_of x (y ∷ ys) = x ∷ copied_of y ys

entry_ascii : (x : ℕ) → x ≤ 0x7F → held_entry x ≤ 0x7F
entry_ascii x h = go (has_variation_sequence x)
  where
    go : (t : Bool) → cond t x 0 ≤ 0x7F
    go true = h
    go false = omega arith

-- A character is written at once, or held and written with the next one.
alone : (x : ℕ) → written_alone x (has_variation_sequence x) ++ held_list (held_entry x) ≡ x ∷ []
alone x = go (has_variation_sequence x) refl
  where
    go : (t : Bool) → has_variation_sequence x ≡ t → written_alone x t ++ held_list (cond t x 0) ≡ x ∷ []
    go true e = ap (λ (t : Bool). cond t [] (x ∷ [])) (ne_eqb x 0 (entry_some x e))
    go false e = refl

module _ (p : Policy) (bare : AsciiBare p) where
  takes : (c x : ℕ) (xs : List ℕ) → c ≤ 0x7F → AllAscii (x ∷ xs) → take_chars (pending_of p (bare_held c)) (fed_as p (x ∷ xs))
      ≡ (pending_of p (bare_held (last_entry_lem x xs)), record { text = held_list c ++ copied_of x xs; counts = empty })
  unfolding take_chars
  takes c x [] h f =
      ap (λ (r : R). (r.0, join_effects r.1 no_effect)) (one p bare c x h (f 0 (omega arith)))
      ∙ ap (λ (t : List ℕ). (pending_of p (bare_held (held_entry x)), record { text = t; counts = empty }))
      (append-nil (held_list c ++ written_alone x (has_variation_sequence x)))
  takes c x (y ∷ ys) h f =
      let l = f 0 (omega arith) in
      let W = written_alone x (has_variation_sequence x) in
      let H = held_list (held_entry x) in
      let B = copied_of y ys in
      let now : Effect = record { text = held_list c ++ W; counts = empty } in
      ap (λ (r : R). ((take_chars r.0 (fed_as p (y ∷ ys))).0, join_effects r.1 (take_chars r.0 (fed_as p (y ∷ ys))).1))
      (one p bare c x h l)
      ∙ ap (λ (r : R). (r.0, join_effects now r.1))
      (takes (held_entry x) y ys (entry_ascii x l) (λ k i. f (suc k) (omega arith)))
      ∙ ap (λ (t : List ℕ). (pending_of p (bare_held (last_entry_lem y ys)), record { text = t; counts = empty }))
      (append_assoc (held_list c) W (H ++ B) ∙ ap (λ (t : List ℕ). held_list c ++ t) (sym (append_assoc W H B) ∙ ap (λ (t : List ℕ). t ++ B)
      (alone x)))

length_more : (n last : ℕ) → 0 < n → copied_length (suc n) last ≡ suc (copied_length n last)
length_more n last h = go (eqb last 0)
  where
    go : (t : Bool) → cond t (suc n) (suc n - 1) ≡ suc (cond t n (n - 1))
    go true = refl
    go false = omega arith

copied_is : (x : ℕ) (xs : List ℕ) → copied_of x xs ≡ take (copied_length (length (x ∷ xs)) (last_entry_lem x xs)) (x ∷ xs)
copied_is x [] = go (has_variation_sequence x) refl
  where
    go : (t : Bool) → has_variation_sequence x ≡ t → written_alone x t ≡ take (copied_length 1 (cond t x 0)) (x ∷ [])
    go true e = ap (λ (t : Bool). take (cond t 1 0) (x ∷ [])) (sym (ne_eqb x 0 (entry_some x e)))
    go false e = refl
copied_is x (y ∷ ys) =
    ap (λ (t : List ℕ). x ∷ t) (copied_is y ys)
    ∙ ap (λ (k : ℕ). take k (x ∷ y ∷ ys)) (sym (length_more (length (y ∷ ys)) (last_entry_lem y ys) (omega arith)))

last_is : (x : ℕ) (xs : List ℕ) → last_entry_lem x xs ≡ held_entry (get_or (x ∷ xs) (length (x ∷ xs) - 1) 0)
last_is x [] = refl
last_is x (y ∷ ys) =
    let e : suc (length (y ∷ ys) - 1) ≡ length (x ∷ y ∷ ys) - 1 = omega arith in
    last_is y ys ∙ ap (λ (k : ℕ). held_entry (get_or (x ∷ y ∷ ys) k 0)) e

encode_copied : (x : ℕ) (xs : List ℕ) → AllAscii (x ∷ xs) → encode_all (copied_of x xs) ≡ copied_of x xs
unfolding encode_all
encode_copied x [] f = go (has_variation_sequence x)
  where
    go : (t : Bool) → encode_all (written_alone x t) ≡ written_alone x t
    go true = refl
    go false = ap (λ (l : List ℕ). l ++ []) (encode_1 x (f 0 (omega arith)))
encode_copied x (y ∷ ys) f =
    ap₂ (λ (a b : List ℕ). a ++ b) (encode_1 x (f 0 (omega arith))) (encode_copied y ys (λ k l. f (suc k) (omega arith)))

encode-held : (c : ℕ) → c ≤ 0x7F → encode_all (held_list c) ≡ held_list c
unfolding encode_all
encode-held c h = go (eqb c 0)
  where
    go : (t : Bool) → encode_all (cond t [] (c ∷ [])) ≡ cond t [] (c ∷ [])
    go true = refl
    go false = ap (λ (l : List ℕ). l ++ []) (encode_1 c h)

-- ---- a piece

module _ (bs : List ℕ) (k : CopiesAscii bs) (out out' : List ℕ) where
  abbrev p : Policy
  p = policy_part bs

  abbrev c : ℕ
  c = word_at 1 bs

  pub copied_taken : (b : List ℕ) {last e : ℕ} → 0 < length b → AllAscii b → last ≡ held_entry (get_or b (length b - 1) 0)
      → PutAt out 0 (held_list c ++ take (copied_length (length b) last) b) out' e
      → TakenBy p (bare_held c) (counts_of bs) (fed_as p (chars b)) out 0 out'
      (record { held = bare_held last; end = e; counts = counts_of bs })
  copied_taken [] s f q w = absurd (omega arith)
  copied_taken (x ∷ xs) {last} {e} s f q w =
      let L : last ≡ last_entry_lem x xs = q ∙ sym (last_is x xs) in
      let B = copied_of x xs in
      let text : held_list c ++ take (copied_length (length (x ∷ xs)) last) (x ∷ xs) ≡ encode_all (held_list c ++ B) =
      ap (λ (n : ℕ). held_list c ++ take (copied_length (length (x ∷ xs)) n) (x ∷ xs)) L ∙ ap (λ (t : List ℕ). held_list c ++ t)
      (sym (copied_is x xs))
      ∙ ap₂ (λ (a b : List ℕ). a ++ b) (sym (encode-held c k.base)) (sym (encode_copied x xs f))
      ∙ sym (encode_all_append (held_list c) B) in
      by p (bare_held c) (counts_of bs) (fed_as p (chars (x ∷ xs))) out 0 out'
      (record { held = bare_held last; end = e; counts = counts_of bs })
      (pending_of p (bare_held (last_entry_lem x xs)), record { text = held_list c ++ B; counts = empty })
      (ap (λ (cs : List ℕ). take_chars (pending_of p (bare_held c)) (fed_as p cs)) (chars_ascii (x ∷ xs) f)
      ∙ takes p (ascii_rule_bare (drop 120 bs) k.bare) c x xs k.base f)
      (put_as (encode_all (held_list c ++ B)) text w)
      (ap (λ (n : ℕ). pending_of p (bare_held n)) L)
      (sym (plus-empty (counts_of bs)))
      (ascii_scalar last (omega (arith, q, entry_ascii (get_or (x ∷ xs) (length (x ∷ xs) - 1) 0) (f (length (x ∷ xs) - 1) (omega arith)))))
      (omega arith)

-- ---- the words

small_all : (bs : List ℕ) (n : ℕ) → ((j : ℕ) → j < n → word_at j bs ≤ text_limit) → small_to n bs ≡ true
unfolding small_to
small_all bs zero f = refl
small_all bs (suc n) f =
    and_both (leb (word_at n bs) text_limit) (small_to n bs) (le-leb (word_at n bs) text_limit (f n (omega arith)))
    (small_all bs n (λ j l. f j (omega arith)))

module _ (bs : List ℕ) (w : WordsFit bs) where
  each_small : (j : ℕ) → j < 15 → word_at j bs ≤ text_limit
  each_small j l =
      let at : (i : ℕ) → i ≡ j → word_at i bs ≤ text_limit → word_at j bs ≤ text_limit =
      λ i e h. subst (λ (n : ℕ). word_at n bs ≤ text_limit) e h in
      ⊎_elim (λ m. w.totals j m l)
      (λ m. ⊎_elim (λ n. at 6 (omega arith) w.len)
      (λ n. ⊎_elim (λ o. omega (arith, w.no_selector_no_rest j o n))
      (λ o. ⊎_elim (λ q. at 1 (omega arith) (omega (arith, w.base))) (λ q. at 0 (omega arith) (omega (arith, w.goes_on)))
      (le_or_lt 1 j))
      (le_or_lt 2 j))
      (le_or_lt 6 j))
      (le_or_lt 7 j)

  state_is : state_of bs ≡ open_state (bare_held (word_at 1 bs)) 0 0 (word_at 6 bs) (counts_of bs)
  state_is =
      let b : word_at 1 bs ≡ word_at 1 bs % 4294967296 = omega (arith, w.base) in
      sym (state-made bs (sym (ap (λ (x : ℕ). not (eqb x 0)) w.goes_on))
      (held-made bs b (sym (ap (λ (x : ℕ). selector_of x) (w.no_selector_no_rest 2 (omega arith) (omega arith))))
      (sym (w.no_selector_no_rest 3 (omega arith) (omega arith))))
      (sym (w.no_selector_no_rest 4 (omega arith) (omega arith))) (sym (w.no_selector_no_rest 5 (omega arith) (omega arith))) refl refl)

  pub copies_if : length bs ≡ 320 → is_policy (drop 120 bs) ≡ true → ascii_keys_bare (drop 120 bs) ≡ true → all_bytes bs ≡ true
      → CopiesAscii bs
  unfolding unfinished little_endian
  copies_if h i b a = record {
    is_feed_lem = sym (feed-5 bs h (small_all bs 15 each_small)
        (ap (λ (s : State). is_scalar s.held.base) state_is ∙ ascii_scalar (word_at 1 bs) w.base)
        (ap (λ (s : State). unfinished (rest_of s)) state_is) refl) ∙ i;
    base = w.base;
    state = state_is;
    words = w;
    bare = b;
    are_bytes = a;
  }

-- ---- the bytes of a feed after a piece

-- Bytes are the words at their front, and the bytes after those.
words_front : (n : ℕ) (bs : List ℕ) → n * 8 ≤ length bs → all_bytes bs ≡ true → bs ≡ bytes_of (words_from n 0 bs) ++ drop (n * 8) bs
unfolding words_from bytes_of
words_front zero bs h t = refl
words_front (suc n) bs h t =
    let e : 8 + n * 8 ≡ suc n * 8 = omega arith in
    let W = take 8 bs in
    sym (take-append-drop 8 bs)
    ∙ ap (λ (l : List ℕ). W ++ l) (words_front n (drop 8 bs) (omega (arith, length-drop 8 bs)) (all_bytes_drop 8 bs t))
    ∙ ap₂ (λ (l r : List ℕ). W ++ (bytes_of l ++ r)) (sym (words_from_drop n 8 bs))
    (drop-drop (n * 8) 8 bs ∙ ap (λ (i : ℕ). drop i bs) e)
    ∙ sym (append_assoc W (bytes_of (words_from n 8 bs)) (drop (suc n * 8) bs))
    ∙ ap (λ (l : List ℕ). (l ++ bytes_of (words_from n 8 bs)) ++ drop (suc n * 8) bs) (sym (word_read bs 0 t (omega arith)))

-- Two of the words are written anew.
words_put : (a b c d e f g h i j k l m n o x y : ℕ) (t : List ℕ)
    → sets (sets (bytes_of (a ∷ b ∷ c ∷ d ∷ e ∷ f ∷ g ∷ h ∷ i ∷ j ∷ k ∷ l ∷ m ∷ n ∷ o ∷ []) ++ t) 8 (word_bytes x)) 48 (word_bytes y)
    ≡ bytes_of (a ∷ x ∷ c ∷ d ∷ e ∷ f ∷ y ∷ h ∷ i ∷ j ∷ k ∷ l ∷ m ∷ n ∷ o ∷ []) ++ t
unfolding bytes_of word_bytes little_endian
words_put a b c d e f g h i j k l m n o x y t = refl

module _ (bs : List ℕ) (w : WordsFit bs) (h : length bs ≡ 320) (t : all_bytes bs ≡ true) (last len : ℕ) where
  abbrev S : State
  S = open_state (bare_held last) 0 0 len (counts_of bs)

  new_words_lem : sets (sets bs 8 (word_bytes last)) 48 (word_bytes len) ≡ bytes_of (state_words S) ++ drop 120 bs
  unfolding words_from state_words counts_of
  new_words_lem =
      let W = w.no_selector_no_rest in
      ap (λ (l : List ℕ). sets (sets l 8 (word_bytes last)) 48 (word_bytes len)) (words_front 15 bs (omega arith) t)
      ∙ words_put (word_at 0 bs) (word_at 1 bs) (word_at 2 bs) (word_at 3 bs) (word_at 4 bs) (word_at 5 bs) (word_at 6 bs) (word_at 7 bs)
      (word_at 8 bs) (word_at 9 bs) (word_at 10 bs) (word_at 11 bs) (word_at 12 bs) (word_at 13 bs) (word_at 14 bs) last len (drop 120 bs)
      ∙ (λ i. bytes_of (w.goes_on i ∷ last ∷ W 2 (omega arith) (omega arith) i ∷ W 3 (omega arith) (omega arith) i
      ∷ W 4 (omega arith) (omega arith) i ∷ W 5 (omega arith) (omega arith) i ∷ len ∷ word_at 7 bs ∷ word_at 8 bs ∷ word_at 9 bs
      ∷ word_at 10 bs
      ∷ word_at 11 bs ∷ word_at 12 bs ∷ word_at 13 bs ∷ word_at 14 bs ∷ []) ++ drop 120 bs)

  many : 120 ≡ 0 + length (bytes_of (state_words S))
  many = omega (arith, words_many S)

  pub words_after : {bs' : List ℕ} → bs' ≡ sets (sets bs 8 (word_bytes last)) 48 (word_bytes len)
      → PutAt bs 0 (bytes_of (state_words S)) bs' 120
  words_after e = record {
    ends = many;
    bytes = e ∙ new_words_lem ∙ ap (λ (i : ℕ). bytes_of (state_words S) ++ drop i bs) many
        ∙ sym (sets-eq (bytes_of (state_words S)) bs 0 (omega (arith, words_many S)));
  }

-- ---- what the functions write

-- No held character.
pub base_none : (c : ℕ) (o : List ℕ) → c ≡ 0 → PutAt o 0 (held_list c) o 0
base_none c o e = put_as (held_list c) (sym (ap (λ (t : Bool). cond t [] (c ∷ [])) (eq-eqb c 0 e))) (record { ends = refl; bytes = refl })

-- A held character.
pub base_put : (c : ℕ) (o : List ℕ) {o' : List ℕ} {x : ℕ} → (c ≡ 0 → ⊥) → c ≤ 0x7F → x ≡ c % 256 → o' ≡ sets o 0 (x ∷ [])
    → PutAt o 0 (held_list c) o' 1
base_put c o {o'} {x} n h q e =
    let y : x ≡ c = omega arith in
    put_as (held_list c) (sym (ap (λ (t : Bool). cond t [] (c ∷ [])) (ne_eqb c 0 n)))
    (record { ends = refl; bytes = e ∙ ap (λ (z : ℕ). sets o 0 (z ∷ [])) y })

module _ (o piece : List ℕ) (c last : ℕ) {o₁ : List ℕ} {at n : ℕ} (w : PutAt o 0 (held_list c) o₁ at) (l : n ≤ length piece) where
  held-few : length (held_list c) ≤ 1
  held-few = go (eqb c 0)
    where
      go : (t : Bool) → length (cond t [] (c ∷ [])) ≤ 1
      go true = omega arith
      go false = omega arith

  part : take (n - 0) (drop 0 piece) ≡ take n piece
  part = let e : n - 0 ≡ n = omega arith in ap (λ (k : ℕ). take k piece) e

  part_length : length (take (n - 0) (drop 0 piece)) ≡ n
  part_length = ap length part ∙ length-take-le n piece l

  pub ascii_at : at ≤ 1
  ascii_at = omega (arith, w.ends, held-few)

  -- There is room for the piece after the held character.
  pub ascii_room : 1 + length piece ≤ length o → at + length (take (n - 0) (drop 0 piece)) ≤ length o₁
  ascii_room r = omega (arith, ascii_at, part_length, ap length w.bytes, length-sets o 0 (held_list c))

  -- The held character and the piece.
  pub ascii_put : {o₂ : List ℕ} → n ≡ copied_length (length piece) last → o₂ ≡ sets o₁ at (take (n - 0) (drop 0 piece))
      → PutAt o 0 (held_list c ++ take (copied_length (length piece) last) piece) o₂ (at + n)
  ascii_put q e =
      put_as (held_list c ++ take (copied_length (length piece) last) piece)
      (ap (λ (t : List ℕ). held_list c ++ t) (part ∙ ap (λ (k : ℕ). take k piece) q))
      (put_then w (record { ends = omega (arith, part_length); bytes = e }))

-- Both words fit into a feed.
pub both_put : (bs : List ℕ) (x y : ℕ) {m r : List ℕ} → length bs ≡ 320 → m ≡ cond (has_room bs 8) (sets bs 8 (word_bytes x)) bs
    → r ≡ cond (has_room m 48) (sets m 48 (word_bytes y)) m → r ≡ sets (sets bs 8 (word_bytes x)) 48 (word_bytes y)
both_put bs x y {m} {r} h p q =
    let M : m ≡ sets bs 8 (word_bytes x) =
    p ∙ ap (λ (t : Bool). cond t (sets bs 8 (word_bytes x)) bs) (le-leb (8 + 8) (length bs) (omega arith)) in
    let n : length m ≡ 320 = ap length M ∙ length-sets bs 8 (word_bytes x) ∙ h in
    q ∙ ap (λ (t : Bool). cond t (sets m 48 (word_bytes y)) m) (le-leb (48 + 8) (length m) (omega arith))
    ∙ ap (λ (l : List ℕ). sets l 48 (word_bytes y)) M

-- ---- which ASCII characters have a variation entry

pub ascii_entry : (c : ℕ) → c ≤ 0x7F → (c ≡ 0x23 → ⊥) → (c ≡ 0x2A → ⊥) → (0x30 ≤ c → c ≤ 0x39 → ⊥) → false ≡ has_variation_sequence c
ascii_entry c h a b d = sym (other_plain c (ascii_other c h a b d)).no_entry

pub entry_hash : (c : ℕ) → c ≡ 0x23 → true ≡ has_variation_sequence c
unfolding has_variation_sequence member variation_entries
entry_hash c e = hash ∙ ap has_variation_sequence (sym e)
  where
    hash : true ≡ has_variation_sequence 0x23
    hash = refl

pub by_star : (c : ℕ) → c ≤ 0x7F → (c ≡ 0x23 → ⊥) → (0x30 ≤ c → c ≤ 0x39 → ⊥) → eqb c 0x2A ≡ has_variation_sequence c
unfolding has_variation_sequence member variation_entries
by_star c h a d = go (eqb c 0x2A) refl
  where
    star : true ≡ has_variation_sequence 0x2A
    star = refl

    go : (t : Bool) → eqb c 0x2A ≡ t → t ≡ has_variation_sequence c
    go true e = star ∙ ap has_variation_sequence (sym (eqb-true c 0x2A e))
    go false e = ascii_entry c h a (eqb-false c 0x2A e) d

digit : (d : ℕ) → d < 10 → has_variation_sequence (0x30 + d) ≡ true
unfolding has_variation_sequence member variation_entries
digit zero h = refl
digit (suc zero) h = refl
digit (suc (suc zero)) h = refl
digit (suc (suc (suc zero))) h = refl
digit (suc (suc (suc (suc zero)))) h = refl
digit (suc (suc (suc (suc (suc zero))))) h = refl
digit (suc (suc (suc (suc (suc (suc zero)))))) h = refl
digit (suc (suc (suc (suc (suc (suc (suc zero))))))) h = refl
digit (suc (suc (suc (suc (suc (suc (suc (suc zero)))))))) h = refl
digit (suc (suc (suc (suc (suc (suc (suc (suc (suc zero))))))))) h = refl
digit (suc (suc (suc (suc (suc (suc (suc (suc (suc (suc d)))))))))) h = absurd (omega arith)

pub entry_digit : (c : ℕ) → 0x30 ≤ c → c ≤ 0x39 → true ≡ has_variation_sequence c
entry_digit c l h =
    let e : 0x30 + (c - 0x30) ≡ c = omega arith in
    sym (digit (c - 0x30) (omega arith)) ∙ ap has_variation_sequence e

-- ---- the call

held_kept : (last : ℕ) (p : Policy) → bare_held last ≡ held_for (pending_of p (bare_held last))
held_kept last p = go (eqb last 0) refl
  where
    go : (t : Bool) → eqb last 0 ≡ t → bare_held last ≡ held_for (pending_of p (bare_held last))
    go true e = held_none (bare_held last) (eqb-true last 0 e) (ap bare_held (eqb-true last 0 e)) p
    go false e = held-some (bare_held last) (eqb-false last 0 e) p

pub copy_done : (bs b out : List ℕ) {last len e : ℕ} {bs' out' : List ℕ} → CopiesAscii bs → CopiedPiece (word_at 6 bs) b (length out)
    → last ≡ held_entry (get_or b (length b - 1) 0)
    → PutAt out 0 (held_list (word_at 1 bs) ++ take (copied_length (length b) last) b) out' e
    → len ≡ word_at 6 bs → bs' ≡ sets (sets bs 8 (word_bytes last)) 48 (word_bytes (len + length b))
    → ◌≡◌ {A = Called} (record { answer = Ok e; feed = bs'; out = out' }) (called bs (piece b out))
unfolding little_endian
copy_done bs b out {last} {len} {e} {bs'} {out'} k q l w n v =
    piece-done bs b out k.is_feed_lem (sym k.state) refl q.short (sym (valid_ascii b q.ascii))
    (left-none 0 0 b (length b) (omega arith) (omega arith)) refl q.fits
    (copied_taken bs k out out' b q.some q.ascii l w) (held_kept last (policy_part bs))
    (words_after bs k.words (feed_length bs k.is_feed_lem) k.are_bytes last (word_at 6 bs + length b)
    (v ∙ ap (λ (m : ℕ). sets (sets bs 8 (word_bytes last)) 48 (word_bytes (m + length b))) n))

-- The same, with the words as they were read.
pub copied_as : {len n room : ℕ} {b : List ℕ} → len ≡ n → CopiedPiece len b room → CopiedPiece n b room
copied_as {len} {n} {room} {b} e q = subst (λ (m : ℕ). CopiedPiece m b room) e q

pub copied_base : (xs : List ℕ) {c d e : ℕ} {o o' : List ℕ} → c ≡ d → PutAt o 0 (held_list c ++ xs) o' e
    → PutAt o 0 (held_list d ++ xs) o' e
copied_base xs {c} {d} {e} {o} {o'} q w = subst (λ (k : ℕ). PutAt o 0 (held_list k ++ xs) o' e) q w
