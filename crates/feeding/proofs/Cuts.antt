-- Characters taken in three parts: selectors, characters that are formatted by themselves, and a last base with its selectors.
use Rattle.std.specs.Prelude.{Some, None, Option}
use mathlib.Core.Path.{◌≡◌, refl, ap, ap₂, sym, ◌∙◌}
use mathlib.Core.Bool.{Bool, true, false}
use mathlib.Core.List.{List, [], ◌∷◌, ◌++◌, append_assoc, append-nil, map}
use Prim.Native.Nat.{ℕ, suc, ◌+◌}
use native.Mathlib.Nat.{zero-add}
use native.Mathlib.Omega.{arith}
use lib.ListN.{length, length-append}
use Rattle.emoji.specs.Presentation.{as_selector, is_selector}
use Rattle.emoji.specs.Unicode.{has_variation_sequence}
use Rattle.emoji.specs.declared.presentation.Presentation.{Presentation}
use Rattle.policy.specs.declared.Policy.{Policy}
use Rattle.scanner.specs.Classes.{class_of}
use Rattle.scanner.specs.declared.char_class.Class.{Class}
use Rattle.scanner.specs.declared.char_class.Class.TheVariants.{Emoji as emoji, Other as other}
use Rattle.scanner.proofs.Classes.{entry_class}
use Rattle.scanner.proofs.SelectorChars.{from-other, from_selector_lem}
use Rattle.analysis.specs.Analysis.{chosen, count_cells, render}
use Rattle.analysis.specs.CellView.{format_cells, total_cells}
use Rattle.analysis.specs.Cells.{Cell, cells, leading, unsplit}
use Rattle.analysis.specs.Counts.{◌⊕◌, empty, total, unsanctioned}
use Rattle.analysis.specs.Rules.{by_keycap, by_modifier, by_tags, first_asked, run_with}
use Rattle.analysis.specs.declared.singleton.Outcome.{Outcome}
use Rattle.analysis.proofs.Cells.{split_selectors, split-whole}
use Rattle.analysis.proofs.Counts.{empty-plus, plus-empty, total-empty}
use Rattle.analysis.proofs.Replacement.{renew_uncounted}
use Rattle.analysis.proofs.Rules.{outcome_unmodified}
use Rattle.feed.specs.Feed.{
  Effect,
  Fed,
  Pending,
  base,
  fed_as,
  first_of,
  held_after_of,
  join_effects,
  no_effect,
  nothing,
  settle,
  take_char,
  take_chars,
  take_selector,
  written_alone,
}
use Rattle.feed.proofs.Calls.{R, take_append}
use Rattle.feed.proofs.Feeding.{none_held, whole-format}
use Rattle.feed.proofs.OneCall.{format_tag, total_tag}

abbrev P : Type 0
P = List Presentation × List Cell

-- What formatting writes and counts of characters.
abbrev pub whole_effect : Policy → List ℕ → Effect
whole_effect p cs = record { text = format_cells p cs; counts = total_cells p cs }

effect_path : {a b : Effect} → a.text ≡ b.text → a.counts ≡ b.counts → a ≡ b
effect_path e f = λ i. record { text = e i; counts = f i }

pub fed_append : (p : Policy) (a b : List ℕ) → fed_as p (a ++ b) ≡ fed_as p a ++ fed_as p b
fed_append p [] b = refl
fed_append p (c ∷ a) b = ap (λ (l : List Fed). record { char = c; policy = p } ∷ l) (fed_append p a b)

module _ (p : Policy) where
  -- ---- a character that is no selector

  abbrev taking : Pending → ℕ → List ℕ → Option Presentation → R
  taking s x xs y =
      let r = take_char p s x y in
      let q = take_chars r.0 (fed_as p xs) in
      (q.0, join_effects r.1 q.1)

  -- It first settles what is held.
  pub settle-first : (s : Pending) (x : ℕ) (xs : List ℕ) → is_selector x ≡ false
      → take_chars s (fed_as p (x ∷ xs))
      ≡ ((take_chars nothing (fed_as p (x ∷ xs))).0, join_effects (settle s (class_of x)) (take_chars nothing (fed_as p (x ∷ xs))).1)
  unfolding take_chars take_char settle
  settle-first s x xs e =
      let f = from-other x e in
      let b = has_variation_sequence x in
      let q = take_chars (held_after_of p x b) (fed_as p xs) in
      let S = settle s (class_of x) in
      ap (taking s x xs) f
      ∙ (λ i. (
        q.0,
        record {
          text = append_assoc S.text (written_alone x b) q.1.text i;
          counts = S.counts ⊕ sym (empty-plus q.1.counts) i;
        },
      ))
      ∙ ap (λ (y : Option Presentation). ((taking nothing x xs y).0, join_effects S (taking nothing x xs y).1)) (sym f)

  -- ---- selectors

  pub selectors_alone : (qs : List Presentation)
      → take_chars nothing (fed_as p (map as_selector qs)) ≡ (nothing, record { text = []; counts = unsanctioned (length qs) })
  unfolding take_chars take_char take_selector
  selectors_alone [] = refl
  selectors_alone (q ∷ qs) =
      ap (taking nothing (as_selector q) (map as_selector qs)) (from_selector_lem q)
      ∙ ap (λ (r : R). (r.0, join_effects (record { text = []; counts = unsanctioned 1 }) r.1)) (selectors_alone qs)
      ∙ ap (λ (n : ℕ). (nothing, record { text = []; counts = unsanctioned n })) (one_more (length qs))
    where
      one_more : (n : ℕ) → 1 + n ≡ suc n
      one_more n = omega arith

  abbrev first_with : Option Presentation → List Presentation → Option Presentation
  first_with None qs = first_asked qs
  first_with (Some r) qs = Some r

  first_more : (f : Option Presentation) (q : Presentation) (qs : List Presentation) → first_with (first_of f q) qs ≡ first_with f (q ∷ qs)
  unfolding first_asked
  first_more None q qs = refl
  first_more (Some r) q qs = refl

  selectors_with : (c : ℕ) (f : Option Presentation) (n : ℕ) (qs : List Presentation)
      → take_chars (base p c f n) (fed_as p (map as_selector qs)) ≡ (base p c (first_with f qs) (n + length qs), no_effect)
  unfolding take_chars take_char take_selector first_asked
  selectors_with c None n [] = ap (λ (m : ℕ). (base p c None m, no_effect)) (omega arith)
  selectors_with c (Some r) n [] = ap (λ (m : ℕ). (base p c (Some r) m, no_effect)) (omega arith)
  selectors_with c f n (q ∷ qs) =
      ap (taking (base p c f n) (as_selector q) (map as_selector qs)) (from_selector_lem q)
      ∙ ap (λ (r : R). (r.0, join_effects no_effect r.1)) (selectors_with c (first_of f q) (suc n) qs)
      ∙ ap₂ (λ (g : Option Presentation) (m : ℕ). (base p c g m, no_effect)) (first_more f q qs) (omega arith)

  -- A base with its selectors, after nothing.
  base_alone : (c : ℕ) (qs : List Presentation) → is_selector c ≡ false → has_variation_sequence c ≡ true
      → take_chars nothing (fed_as p (c ∷ map as_selector qs)) ≡ (base p c (first_asked qs) (length qs), no_effect)
  unfolding take_chars take_char settle
  base_alone c qs e v =
      ap (taking nothing c (map as_selector qs)) (from-other c e)
      ∙ ap (λ (b : Bool). let q = take_chars (held_after_of p c b) (fed_as p (map as_selector qs)) in
      (q.0, join_effects (record { text = [] ++ written_alone c b; counts = empty }) q.1)) v
      ∙ ap (λ (r : R). (r.0, join_effects no_effect r.1)) (selectors_with c None 0 qs)
      ∙ ap (λ (n : ℕ). (base p c (first_asked qs) n, no_effect)) (zero-add (length qs))

  -- After a character without an entry, and selectors, nothing is held.
  none_after : (s : Pending) (c : ℕ) (qs : List Presentation) → is_selector c ≡ false → has_variation_sequence c ≡ false
      → (take_chars s (fed_as p (c ∷ map as_selector qs))).0 ≡ nothing
  unfolding take_chars take_char settle
  none_after s c qs e v =
      ap (λ (y : Option Presentation). (taking s c (map as_selector qs) y).0) (from-other c e)
      ∙ ap (λ (b : Bool). (take_chars (held_after_of p c b) (fed_as p (map as_selector qs))).0) v
      ∙ ap (λ (r : R). r.0) (selectors_alone qs)

  -- A base that is settled before a base with an entry is settled as at the end.
  settle_as_other : (s : Pending) (c : ℕ) → has_variation_sequence c ≡ true → settle s (class_of c) ≡ settle s other
  unfolding settle by_modifier by_tags by_keycap
  settle_as_other nothing c v = refl
  settle_as_other (base q d f n) c v =
      ap (λ (k : Class). settle (base q d f n) k) (entry_class c v)
      ∙ ap (λ (o : Outcome). record { text = d ∷ map as_selector (chosen o.slot []); counts = o.counts })
      (outcome_unmodified q d emoji (run_with f n) refl refl refl)

  -- ---- characters that are formatted by themselves

  -- What was taken, with what is held settled as at the end, is what formatting writes and counts.
  taken-whole : (ms : List ℕ) → let A = take_chars nothing (fed_as p ms) in join_effects A.1 (settle A.0 other) ≡ whole_effect p ms
  taken-whole ms =
      let w = whole-format nothing none_held (fed_as p ms) in
      effect_path (sym w.text ∙ format_tag p ms) (sym w.counts ∙ total_tag p ms)

  -- Up to a character without an entry, with its selectors.
  cut_after : (ms zs : List ℕ) (c : ℕ) (qs : List Presentation) → ms ≡ zs ++ (c ∷ map as_selector qs) → is_selector c ≡ false
      → has_variation_sequence c ≡ false → take_chars nothing (fed_as p ms) ≡ (nothing, whole_effect p ms)
  unfolding settle
  cut_after ms zs c qs m e v =
      let A = take_chars nothing (fed_as p ms) in
      let Z = take_chars nothing (fed_as p zs) in
      let none : A.0 ≡ nothing =
      ap (λ (l : List Fed). (take_chars nothing l).0) (ap (fed_as p) m ∙ fed_append p zs (c ∷ map as_selector qs))
      ∙ ap (λ (r : R). r.0) (take_append nothing (fed_as p zs) (fed_as p (c ∷ map as_selector qs))) ∙ none_after Z.0 c qs e v in
      let unsettled : settle A.0 other ≡ no_effect = ap (λ (s : Pending). settle s other) none in
      let same : A.1 ≡ whole_effect p ms =
      effect_path (sym (append-nil A.1.text)) (sym (plus-empty A.1.counts))
      ∙ ap (join_effects A.1) (sym unsettled) ∙ taken-whole ms in
      λ i. (none i, same i)

  -- Up to a base with an entry, which is held with its selectors.
  cut_before_lem : (ms : List ℕ) (c : ℕ) (qs : List Presentation) → is_selector c ≡ false → has_variation_sequence c ≡ true
      → take_chars nothing (fed_as p (ms ++ (c ∷ map as_selector qs))) ≡ (base p c (first_asked qs) (length qs), whole_effect p ms)
  cut_before_lem ms c qs e v =
      let A = take_chars nothing (fed_as p ms) in
      let S = settle A.0 (class_of c) in
      let same : join_effects A.1 (join_effects S no_effect) ≡ whole_effect p ms =
      ap (join_effects A.1) (effect_path (append-nil S.text) (plus-empty S.counts) ∙ settle_as_other A.0 c v) ∙ taken-whole ms in
      ap (take_chars nothing) (fed_append p ms (c ∷ map as_selector qs))
      ∙ take_append nothing (fed_as p ms) (fed_as p (c ∷ map as_selector qs))
      ∙ ap (λ (r : R). (r.0, join_effects A.1 r.1)) (settle-first A.0 c (map as_selector qs) e)
      ∙ ap (λ (r : R). (r.0, join_effects A.1 (join_effects S r.1))) (base_alone c qs e v)
      ∙ ap (λ (w : Effect). (base p c (first_asked qs) (length qs), w)) same

  -- ---- characters that begin with one that is no selector

  module _ (s : Pending) (x : ℕ) (xs : List ℕ) (e : is_selector x ≡ false) where
    begins : (r : Pending) (w : Effect) → take_chars nothing (fed_as p (x ∷ xs)) ≡ (r, w)
        → take_chars s (fed_as p (x ∷ xs)) ≡ (r, join_effects (settle s (class_of x)) w)
    begins r w h = settle-first s x xs e ∙ ap (λ (q : R). (q.0, join_effects (settle s (class_of x)) q.1)) h

    pub middle-held : (ms : List ℕ) (c : ℕ) (qs : List Presentation) → x ∷ xs ≡ ms ++ (c ∷ map as_selector qs) → is_selector c ≡ false
        → has_variation_sequence c ≡ true
        → take_chars s (fed_as p (x ∷ xs)) ≡ (
          base p c (first_asked qs) (length qs),
          join_effects (settle s (class_of x)) (whole_effect p ms),
        )
    middle-held ms c qs m f v =
        begins (base p c (first_asked qs) (length qs)) (whole_effect p ms)
        (ap (λ (l : List ℕ). take_chars nothing (fed_as p l)) m ∙ cut_before_lem ms c qs f v)

    pub middle-none : (zs : List ℕ) (c : ℕ) (qs : List Presentation) → x ∷ xs ≡ zs ++ (c ∷ map as_selector qs) → is_selector c ≡ false
        → has_variation_sequence c ≡ false
        → take_chars s (fed_as p (x ∷ xs)) ≡ (nothing, join_effects (settle s (class_of x)) (whole_effect p (x ∷ xs)))
    middle-none zs c qs m f v = begins nothing (whole_effect p (x ∷ xs)) (cut_after (x ∷ xs) zs c qs m f v)

  -- ---- characters in which nothing is counted

  -- They stay as they are.
  pub uncounted_same : (ms : List ℕ) → total (total_cells p ms) ≡ 0 → format_cells p ms ≡ ms
  unfolding format_cells total_cells render
  uncounted_same ms e =
      let none : leading ms ≡ [] = empty-list (leading ms) (omega arith) in
      ap unsplit (renew_uncounted p (cells ms) (omega arith))
      ∙ ap (λ (l : List Presentation). map as_selector l ++ unsplit (cells ms)) (sym none) ∙ split-whole ms
    where
      empty-list : (l : List Presentation) → length l ≡ 0 → l ≡ []
      empty-list [] h = refl
      empty-list (q ∷ l) h = absurd (omega arith)

  pub uncounted_empty : (ms : List ℕ) → total (total_cells p ms) ≡ 0 → total_cells p ms ≡ empty
  uncounted_empty ms e = total-empty (total_cells p ms) e

  -- Where nothing is counted in all characters, nothing is counted up to a base that is held.
  pub uncounted_before : (ms : List ℕ) (c : ℕ) (qs : List Presentation) → is_selector c ≡ false → has_variation_sequence c ≡ true
      → total (total_cells p (ms ++ (c ∷ map as_selector qs))) ≡ 0 → total (total_cells p ms) ≡ 0
  uncounted_before ms c qs e v z =
      let xs = ms ++ (c ∷ map as_selector qs) in
      let A = take_chars nothing (fed_as p xs) in
      let w = ap (λ (k : Effect). total k.counts) (taken-whole xs) in
      let same = ap (λ (r : R). total r.1.counts) (cut_before_lem ms c qs e v) in
      let both : total (A.1.counts ⊕ (settle A.0 other).counts) ≡ 0 = w ∙ z in
      omega arith

  -- Nor after selectors at the front.
  pub uncounted_after : (qs : List Presentation) (xs : List ℕ) → total (total_cells p (map as_selector qs ++ xs)) ≡ 0
      → total (total_cells p xs) ≡ 0
  unfolding total_cells
  uncounted_after qs xs z =
      let w = ap (λ (a : P). total (unsanctioned (length a.0) ⊕ count_cells p a.1)) (split_selectors qs xs) in
      omega (arith, length-append qs (leading xs))
