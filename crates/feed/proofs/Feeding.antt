-- Characters that are taken one after the other are formatted and counted as a whole.
use Rattle.std.specs.Prelude.{Some, None, Option}
use mathlib.Core.Path.{◌≡◌, refl, ap, ap₂, sym, ◌∙◌, subst}
use mathlib.Core.Bool.{Bool, true, false, cond}
use mathlib.Core.List.{List, [], ◌∷◌, ◌++◌, append_assoc, append-nil, map}
use Prim.Native.Nat.{ℕ, zero, suc, ◌-◌}
use native.Mathlib.Omega.{arith}
use lib.ListN.{length, replicate, length-append, length-replicate}
use Rattle.emoji.specs.Presentation.{as_selector, from_selector, is_selector}
use Rattle.emoji.specs.Unicode.{has_variation_sequence}
use Rattle.emoji.specs.declared.presentation.Presentation.{Presentation}
use Rattle.policy.specs.declared.Policy.{Policy}
use Rattle.scanner.specs.Classes.{class_of}
use Rattle.scanner.specs.declared.char_class.Class.{Class}
use Rattle.scanner.specs.declared.char_class.Class.TheVariants.{Other as other}
use Rattle.scanner.proofs.SelectorChars.{CharIs, a_selector, char_is, from-other, from_selector_lem, no_selector, selector_is}
use Rattle.analysis.specs.Analysis.{chosen, following}
use Rattle.analysis.specs.Cells.{Cell, cells, leading, split}
use Rattle.analysis.specs.Counts.{◌⊕◌, empty, unsanctioned}
use Rattle.analysis.specs.Rules.{first_asked, outcome, rule1, run_with}
use Rattle.analysis.specs.declared.singleton.Outcome.{Outcome}
use Rattle.analysis.specs.declared.types.NonCanonicality.{NonCanonicality}
use Rattle.analysis.proofs.Cells.{split-char, split_selector, split_selectors}
use Rattle.analysis.proofs.Counts.{counts_path, empty-plus, plus_assoc, plus-empty}
use Rattle.analysis.proofs.NumberRules.{by-numbers}
use Rattle.analysis.proofs.Rules.{outcome_no_entry}
use Rattle.feed.specs.Feed.{
  Fed,
  Pending,
  Effect,
  written_alone,
  base,
  held_after_of,
  chars_of,
  count_fed,
  format_fed,
  judged,
  nothing,
  settle,
  take_char,
  take_chars,
  take_selector,
  total_fed,
  cell_before,
}

-- ---- the first character

abbrev P : Type 0
P = List Presentation × List Cell

format_selector : (q : Presentation) (p : Policy) (xs : List Fed) → format_fed (record { char = as_selector q; policy = p } ∷ xs)
    ≡ format_fed xs
unfolding format_fed
format_selector q p xs = simp (selector_is q)

format-char : (x : Fed) (xs : List Fed) → is_selector x.char ≡ false → format_fed (x ∷ xs) ≡ cell_before x xs (format_fed xs)
unfolding format_fed
format-char x xs e = simp e

total_selector : (q : Presentation) (p : Policy) (xs : List Fed) → total_fed (record { char = as_selector q; policy = p } ∷ xs)
    ≡ unsanctioned 1 ⊕ total_fed xs
unfolding total_fed count_fed
total_selector q p xs =
    ap₂ (λ (a : P) (b : Bool). unsanctioned (length a.0) ⊕ cond b (count_fed xs)
    ((judged (record { char = as_selector q; policy = p }) xs).counts ⊕ count_fed xs)) (split_selector q (chars_of xs)) (selector_is q)
    ∙ counts_path _ _ (omega arith) (omega arith) (omega arith) (omega arith) (omega arith) (omega arith) (omega arith) (omega arith)

total-char : (x : Fed) (xs : List Fed) → is_selector x.char ≡ false → total_fed (x ∷ xs) ≡ (judged x xs).counts ⊕ count_fed xs
unfolding total_fed count_fed
total-char x xs e =
    ap₂ (λ (a : P) (b : Bool). unsanctioned (length a.0) ⊕ cond b (count_fed xs) ((judged x xs).counts ⊕ count_fed xs))
    (split-char x.char (chars_of xs) e) e
    ∙ empty-plus ((judged x xs).counts ⊕ count_fed xs)

-- ---- a run of selectors

abbrev run : Policy → List Presentation → List Fed
run p s = map (λ (q : Presentation). record { char = as_selector q; policy = p }) s

format-run : (p : Policy) (s : List Presentation) (xs : List Fed) → format_fed (run p s ++ xs) ≡ format_fed xs
format-run p [] xs = refl
format-run p (q ∷ s) xs = format_selector q p (run p s ++ xs) ∙ format-run p s xs

count-run : (p : Policy) (s : List Presentation) (xs : List Fed) → count_fed (run p s ++ xs) ≡ count_fed xs
unfolding count_fed
count-run p [] xs = refl
count-run p (q ∷ s) xs =
    ap (λ (b : Bool). cond b (count_fed (run p s ++ xs))
    ((judged (record { char = as_selector q; policy = p }) (run p s ++ xs)).counts ⊕ count_fed (run p s ++ xs))) (selector_is q)
    ∙ count-run p s xs

chars-run : (p : Policy) (s : List Presentation) (xs : List Fed) → chars_of (run p s ++ xs) ≡ map as_selector s ++ chars_of xs
chars-run p [] xs = refl
chars-run p (q ∷ s) xs = ap (λ (l : List ℕ). as_selector q ∷ l) (chars-run p s xs)

split-run : (p : Policy) (s : List Presentation) (xs : List Fed) → split (chars_of (run p s ++ xs))
    ≡ (s ++ leading (chars_of xs), cells (chars_of xs))
split-run p s xs = ap split (chars-run p s xs) ∙ split_selectors s (chars_of xs)

-- ---- a base with selectors

module _ (p : Policy) (c : ℕ) (e : is_selector c ≡ false) where
  abbrev X : Fed
  X = record { char = c; policy = p }

  abbrev O : List Presentation → List Fed → Outcome
  O s xs = outcome p c (following (cells (chars_of xs))) (s ++ leading (chars_of xs))

  judged-run : (s : List Presentation) (xs : List Fed) → judged X (run p s ++ xs) ≡ O s xs
  judged-run s xs = ap (λ (a : P). outcome p c (following a.1) a.0) (split-run p s xs)

  format_base : (s : List Presentation) (xs : List Fed) → format_fed (X ∷ (run p s ++ xs))
      ≡ c ∷ (map as_selector (chosen (O s xs).slot []) ++ format_fed xs)
  format_base s xs =
      format-char X (run p s ++ xs) e
      ∙ ap₂ (λ (o : Outcome) (l : List ℕ). c ∷ (map as_selector (chosen o.slot []) ++ l)) (judged-run s xs) (format-run p s xs)

  total_base : (s : List Presentation) (xs : List Fed) → total_fed (X ∷ (run p s ++ xs)) ≡ (O s xs).counts ⊕ count_fed xs
  total_base s xs =
      total-char X (run p s ++ xs) e ∙ ap₂ (λ (o : Outcome) (n : NonCanonicality). o.counts ⊕ n) (judged-run s xs) (count-run p s xs)

-- The rules ask for the first selector and the number.
same_numbers : (p : Policy) (c : ℕ) (s t u : List Presentation) (xs : List Fed) → first_asked (s ++ u) ≡ first_asked (t ++ u) → length s
    ≡ length t → outcome p c (following (cells (chars_of xs))) (s ++ u) ≡ outcome p c (following (cells (chars_of xs))) (t ++ u)
same_numbers p c s t u xs f n =
    let k = following (cells (chars_of xs)) in
    by-numbers p c k (s ++ u)
    ∙ ap₂ (λ (a : Option Presentation) (m : ℕ). outcome p c k (run_with a m)) f (omega (arith, length-append s u, length-append t u))
    ∙ sym (by-numbers p c k (t ++ u))

-- ---- the held base

-- A held base has a first selector exactly if it has selectors.
pub data Sound : Pending → Type 0 where
  none_held : Sound nothing
  bare_held_lem : {p : Policy} {c : ℕ} → is_selector c ≡ false → Sound (base p c None 0)
  held : {p : Policy} {c n : ℕ} {q : Presentation} → is_selector c ≡ false → Sound (base p c (Some q) (suc n))

abbrev pub pending_fed : Pending → List Fed
pending_fed nothing = []
pending_fed (base p c f n) = record { char = c; policy = p } ∷ run p (run_with f n)

-- What taking characters writes and counts, with the base that is held at the end, is the formatting of the base that was held before and
-- the characters.
pub record WholeFormat (s : Pending) (xs : List Fed) (r : Pending × Effect) : Type 0 where
  pub sound : Sound r.0
  pub text : format_fed (pending_fed s ++ xs) ≡ r.1.text ++ (settle r.0 other).text
  pub counts : total_fed (pending_fed s ++ xs) ≡ r.1.counts ⊕ (settle r.0 other).counts

-- ---- one character

record Step (s : Pending) (x : Fed) (xs : List Fed) (r : Pending × Effect) : Type 0 where
  pub sound : Sound r.0
  pub text : format_fed (pending_fed s ++ (x ∷ xs)) ≡ r.1.text ++ format_fed (pending_fed r.0 ++ xs)
  pub counts : total_fed (pending_fed s ++ (x ∷ xs)) ≡ r.1.counts ⊕ total_fed (pending_fed r.0 ++ xs)

-- A character that is no selector, where nothing is held.
module _ (c : ℕ) (p : Policy) (xs : List Fed) (e : is_selector c ≡ false) where
  abbrev Y : Fed
  Y = record { char = c; policy = p }

  front_text : (b : Bool) → has_variation_sequence c ≡ b → format_fed (Y ∷ xs)
      ≡ written_alone c b ++ format_fed (pending_fed (held_after_of p c b) ++ xs)
  unfolding run_with rule1
  front_text true h = refl
  front_text false h =
      format-char Y xs e
      ∙ ap (λ (o : Outcome). c ∷ (map as_selector (chosen o.slot []) ++ format_fed xs))
      (outcome_no_entry p c (following (cells (chars_of xs))) (leading (chars_of xs)) h)

  front_counts : (b : Bool) → has_variation_sequence c ≡ b → total_fed (Y ∷ xs) ≡ total_fed (pending_fed (held_after_of p c b) ++ xs)
  unfolding run_with rule1 total_fed
  front_counts true h = refl
  front_counts false h =
      total-char Y xs e
      ∙ ap (λ (o : Outcome). o.counts ⊕ count_fed xs) (outcome_no_entry p c (following (cells (chars_of xs))) (leading (chars_of xs)) h)

  begun_sound : (b : Bool) → Sound (held_after_of p c b)
  begun_sound true = bare_held_lem e
  begun_sound false = none_held

-- Where no selector leads, the totals are the counts.
count-total : (d : ℕ) (q : Policy) (xs : List Fed) → is_selector d ≡ false → count_fed (record { char = d; policy = q } ∷ xs)
    ≡ total_fed (record { char = d; policy = q } ∷ xs)
unfolding total_fed
count-total d q xs g =
    let Z : List Fed = record { char = d; policy = q } ∷ xs in
    sym (empty-plus (count_fed Z)) ∙ ap (λ (a : P). unsanctioned (length a.0) ⊕ count_fed Z) (sym (split-char d (chars_of xs) g))

-- A held base before other characters.
module _ (p : Policy) (c : ℕ) (f : Option Presentation) (n : ℕ) (e : is_selector c ≡ false) where
  held_before : (d : ℕ) (q : Policy) (xs : List Fed) → is_selector d ≡ false
      → O p c e (run_with f n) (record { char = d; policy = q } ∷ xs) ≡ outcome p c (class_of d) (run_with f n)
  unfolding following
  held_before d q xs g =
      ap (λ (a : P). outcome p c (following a.1) (run_with f n ++ a.0)) (split-char d (chars_of xs) g)
      ∙ ap (outcome p c (class_of d)) (append-nil (run_with f n))

  held-last : O p c e (run_with f n) [] ≡ outcome p c other (run_with f n)
  unfolding following split
  held-last = ap (outcome p c other) (append-nil (run_with f n))

  settle_text : (d : ℕ) (q : Policy) (xs : List Fed) → is_selector d ≡ false
      → format_fed (pending_fed (base p c f n) ++ (record { char = d; policy = q } ∷ xs)) ≡ (settle (base p c f n)
      (class_of d)).text ++ format_fed (record { char = d; policy = q } ∷ xs)
  unfolding settle
  settle_text d q xs g =
      let Z : List Fed = record { char = d; policy = q } ∷ xs in
      format_base p c e (run_with f n) Z
      ∙ ap (λ (o : Outcome). c ∷ (map as_selector (chosen o.slot []) ++ format_fed Z)) (held_before d q xs g)

  settle_counts : (d : ℕ) (q : Policy) (xs : List Fed) → is_selector d ≡ false
      → total_fed (pending_fed (base p c f n) ++ (record { char = d; policy = q } ∷ xs)) ≡ (settle (base p c f n) (class_of d)).counts
      ⊕ total_fed (record { char = d; policy = q } ∷ xs)
  unfolding settle
  settle_counts d q xs g =
      let Y' : Fed = record { char = d; policy = q } in
      total_base p c e (run_with f n) (Y' ∷ xs)
      ∙ ap₂ (λ (o : Outcome) (m : NonCanonicality). o.counts ⊕ m) (held_before d q xs g) (count-total d q xs g)

  end_text : format_fed (pending_fed (base p c f n) ++ []) ≡ (settle (base p c f n) other).text
  unfolding settle format_fed
  end_text =
      format_base p c e (run_with f n) []
      ∙ ap (λ (o : Outcome). c ∷ (map as_selector (chosen o.slot []) ++ [])) held-last
      ∙ ap (λ (l : List ℕ). c ∷ l) (append-nil (map as_selector (chosen (outcome p c other (run_with f n)).slot [])))

  end_counts : total_fed (pending_fed (base p c f n) ++ []) ≡ (settle (base p c f n) other).counts
  unfolding settle count_fed
  end_counts =
      total_base p c e (run_with f n) [] ∙ ap (λ (o : Outcome). o.counts ⊕ empty) held-last ∙ plus-empty
      (outcome p c other (run_with f n)).counts

-- A selector after a held base.
module _ (p : Policy) (c : ℕ) (e : is_selector c ≡ false) (q : Presentation) (p' : Policy) (xs : List Fed) where
  abbrev Q : Fed
  Q = record { char = as_selector q; policy = p' }

  abbrev L : List Presentation
  L = leading (chars_of xs)

  abbrev K : Class
  K = following (cells (chars_of xs))

  before_selector : (s : List Presentation) → O p c e s (Q ∷ xs) ≡ outcome p c K (s ++ q ∷ L)
  before_selector s = ap (λ (a : P). outcome p c (following a.1) (s ++ a.0)) (split_selector q (chars_of xs))

  selector_text : (s t : List Presentation) → outcome p c K (s ++ q ∷ L) ≡ outcome p c K (t ++ L)
      → format_fed (X p c e ∷ (run p s ++ (Q ∷ xs))) ≡ format_fed (X p c e ∷ (run p t ++ xs))
  selector_text s t h =
      format_base p c e s (Q ∷ xs)
      ∙ ap₂ (λ (o : Outcome) (l : List ℕ). c ∷ (map as_selector (chosen o.slot []) ++ l)) (before_selector s ∙ h)
      (format_selector q p' xs)
      ∙ sym (format_base p c e t xs)

  selector_counts : (s t : List Presentation) → outcome p c K (s ++ q ∷ L) ≡ outcome p c K (t ++ L)
      → total_fed (X p c e ∷ (run p s ++ (Q ∷ xs))) ≡ total_fed (X p c e ∷ (run p t ++ xs))
  selector_counts s t h =
      total_base p c e s (Q ∷ xs)
      ∙ ap₂ (λ (o : Outcome) (m : NonCanonicality). o.counts ⊕ m) (before_selector s ∙ h) (count-run p' (q ∷ []) xs)
      ∙ sym (total_base p c e t xs)

  first_more : outcome p c K ([] ++ q ∷ L) ≡ outcome p c K (run_with (Some q) 1 ++ L)
  unfolding run_with
  first_more = refl

  one_more : (r : Presentation) (n : ℕ) → outcome p c K (run_with (Some r) (suc n) ++ q ∷ L)
      ≡ outcome p c K (run_with (Some r) (suc (suc n)) ++ L)
  unfolding run_with first_asked
  one_more r n =
      let s : List Presentation = r ∷ replicate (suc n - 1) r in
      let t : List Presentation = r ∷ replicate (suc (suc n) - 1) r in
      ap (outcome p c K) (sym (append_assoc s (q ∷ []) L))
      ∙ same_numbers p c (s ++ q ∷ []) t L xs refl
      (omega (arith, length-append s (q ∷ []), length-replicate (suc n - 1) r, length-replicate (suc (suc n) - 1) r))

-- ---- a step, and a list of characters

is_held : {p : Policy} {c n : ℕ} {f : Option Presentation} → Sound (base p c f n) → is_selector c ≡ false
is_held (bare_held_lem e) = e
is_held (held e) = e

step_selector : (s : Pending) → Sound s → (q : Presentation) (p' : Policy) (xs : List Fed)
    → Step s (record { char = as_selector q; policy = p' }) xs (take_selector s q)
unfolding take_selector run_with
step_selector nothing none_held q p' xs = record {
  sound = none_held;
  text = format_selector q p' xs;
  counts = total_selector q p' xs;
}
step_selector (base p c None zero) (bare_held_lem e) q p' xs = record {
  sound = held e;
  text = selector_text p c e q p' xs [] (run_with (Some q) 1) (first_more p c e q p' xs);
  counts = selector_counts p c e q p' xs [] (run_with (Some q) 1) (first_more p c e q p' xs) ∙ sym (empty-plus _);
}
step_selector (base p c (Some r) (suc n)) (held e) q p' xs = record {
  sound = held e;
  text = selector_text p c e q p' xs (run_with (Some r) (suc n)) (run_with (Some r) (suc (suc n))) (one_more p c e q p' xs r n);
  counts =
      selector_counts p c e q p' xs (run_with (Some r) (suc n)) (run_with (Some r) (suc (suc n))) (one_more p c e q p' xs r n) ∙ sym
      (empty-plus _);
}
step_selector (base p c (Some r) zero) x6 q p' xs = elim x6 [ ]
step_selector (base p c None (suc n)) x7 q p' xs = elim x7 [ ]

step-char : (s : Pending) → Sound s → (d : ℕ) (p' : Policy) (xs : List Fed) → is_selector d ≡ false
    → Step s (record { char = d; policy = p' }) xs (take_char p' s d None)
unfolding take_char settle
step-char nothing h d p' xs g =
    let b = has_variation_sequence d in
    record {
      sound = begun_sound d p' xs g b;
      text = front_text d p' xs g b refl;
      counts = front_counts d p' xs g b refl ∙ sym (empty-plus _);
    }
step-char (base p c f n) h d p' xs g =
    let b = has_variation_sequence d in
    let e = is_held h in
    record {
      sound = begun_sound d p' xs g b;
      text =
          settle_text p c f n e d p' xs g ∙ ap (λ (l : List ℕ). (settle (base p c f n) (class_of d)).text ++ l)
          (front_text d p' xs g b refl)
          ∙ sym (append_assoc (settle (base p c f n) (class_of d)).text (written_alone d b)
          (format_fed (pending_fed (held_after_of p' d b) ++ xs)));
      counts =
          settle_counts p c f n e d p' xs g ∙ ap (λ (m : NonCanonicality). (settle (base p c f n) (class_of d)).counts ⊕ m)
          (front_counts d p' xs g b refl);
    }

step : (s : Pending) → Sound s → (x : Fed) (xs : List Fed) → Step s x xs (take_char x.policy s x.char (from_selector x.char))
unfolding take_char
step s h x xs = go (char_is x.char)
  where
    go : CharIs x.char → Step s x xs (take_char x.policy s x.char (from_selector x.char))
    go (a_selector q e) =
        subst (λ (y : Fed). Step s y xs (take_char x.policy s x.char (from_selector x.char)))
        (λ i. record { char = sym e i; policy = x.policy })
        (subst (λ (f : Option Presentation). Step s (record { char = as_selector q; policy = x.policy }) xs (take_char x.policy s x.char f))
        (sym (ap from_selector e ∙ from_selector_lem q)) (step_selector s h q x.policy xs))
    go (no_selector e) =
        subst (λ (f : Option Presentation). Step s x xs (take_char x.policy s x.char f)) (sym (from-other x.char e))
        (step-char s h x.char x.policy xs e)

pub whole-format : (s : Pending) → Sound s → (xs : List Fed) → WholeFormat s xs (take_chars s xs)
unfolding take_chars settle format_fed total_fed count_fed split
whole-format nothing h [] = record { sound = h; text = refl; counts = refl }
whole-format (base p c f n) (bare_held_lem e) [] =
    record { sound = bare_held_lem e; text = end_text p c f n e; counts = end_counts p c f n e ∙ sym (empty-plus _) }
whole-format (base p c f n) (held e) [] =
    record { sound = held e; text = end_text p c f n e; counts = end_counts p c f n e ∙ sym (empty-plus _) }
whole-format s h (x ∷ xs) =
    let a = step s h x xs in
    let r = take_char x.policy s x.char (from_selector x.char) in
    let i = whole-format r.0 a.sound xs in
    let q = take_chars r.0 xs in
    record {
      sound = i.sound;
      text =
          a.text ∙ ap (λ (l : List ℕ). r.1.text ++ l) i.text ∙ sym
          (append_assoc r.1.text q.1.text (settle q.0 other).text);
      counts =
          a.counts ∙ ap (λ (m : NonCanonicality). r.1.counts ⊕ m) i.counts ∙ sym
          (plus_assoc r.1.counts q.1.counts (settle q.0 other).counts);
    }
