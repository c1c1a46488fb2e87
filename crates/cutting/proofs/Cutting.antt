-- Cells in two parts: the rules decide what stands before a cut as they do at the end of a text.
use mathlib.Core.Path.{◌≡◌, refl, ap, ap₂, sym, ◌∙◌}
use mathlib.Core.Bool.{Bool, true, false, true≢false}
use mathlib.Core.List.{List, [], ◌∷◌, ◌++◌, append_assoc, map}
use Prim.Native.Nat.{ℕ}
use lib.ListN.{length}
use Rattle.utf8.specs.Rfc3629.{WellFormed, chars, encode_all}
use Rattle.utf8.proofs.Folds.{chars_end}
use Rattle.utf8.proofs.Fronts.{read_char_nil}
use Rattle.utf8.proofs.Grammar.{well_formed_whole}
use Rattle.utf8.proofs.Texts.{chars-all_scalar, chars-encode_all, encode_all_append, encode_all-chars}
use Rattle.emoji.specs.Presentation.{as_selector, is_selector}
use Rattle.emoji.specs.declared.presentation.Presentation.{Presentation}
use Rattle.policy.specs.PolicyBytes.{policy_of}
use Rattle.policy.specs.declared.Policy.{Policy}
use Rattle.scanner.specs.Classes.{class_of}
use Rattle.scanner.specs.declared.char_class.Class.{Class}
use Rattle.scanner.specs.declared.char_class.Class.TheVariants.{
  Selector as selector,
  Link as link,
  Ri as ri,
  Modifier as modifier,
  Emoji as emoji,
  Keycap as keycap,
  Tag as tag,
  Other as other,
}
use Rattle.scanner.proofs.Classes.{class_selector}
use Rattle.analysis.specs.Analysis.{chosen, count_cells, following, outcome_at, remaining, render, renew}
use Rattle.analysis.specs.CellView.{format_cells, total_cells}
use Rattle.analysis.specs.Cells.{Cell, cells, leading, split, unsplit}
use Rattle.analysis.specs.Counts.{◌⊕◌, unsanctioned}
use Rattle.analysis.specs.declared.singleton.Outcome.{Outcome}
use Rattle.analysis.specs.Rules.{by_keycap, by_modifier, by_tags, outcome}
use Rattle.analysis.specs.declared.types.NonCanonicality.{NonCanonicality}
use Rattle.analysis.proofs.Cells.{split_append, split-char}
use Rattle.analysis.proofs.Counts.{empty-plus, plus_assoc}
use Rattle.analysis.proofs.Replacement.{remaining-none}
use Rattle.analysis.proofs.Rules.{outcome_unmodified}
use Rattle.formatter.proofs.CellView.{cell_view}
use Rattle.cutting.specs.Helpers.{class_may_begin}
use Rattle.cutting.specs.Theorems.{BeginsPart, Joins, begins, is_empty_lem}
use Rattle.cutting.proofs.Classes.{by_class}

-- ---- cells

-- Before a class that may begin the second part, the rules decide a base as at the end.
as_at_end : (p : Policy) (c : ℕ) (k : Class) (s : List Presentation) → class_may_begin k ≡ true → outcome p c k s ≡ outcome p c other s
unfolding by_modifier by_tags by_keycap
as_at_end p c selector s e = absurd (true≢false (sym e))
as_at_end p c link s e = outcome_unmodified p c link s refl refl refl
as_at_end p c ri s e = outcome_unmodified p c ri s refl refl refl
as_at_end p c modifier s e = absurd (true≢false (sym e))
as_at_end p c emoji s e = outcome_unmodified p c emoji s refl refl refl
as_at_end p c keycap s e = absurd (true≢false (sym e))
as_at_end p c tag s e = absurd (true≢false (sym e))
as_at_end p c other s e = refl

unsplit_append : (xs ys : List Cell) → unsplit (xs ++ ys) ≡ unsplit xs ++ unsplit ys
unsplit_append [] ys = refl
unsplit_append (x ∷ xs) ys =
    ap (λ (l : List ℕ). x.char ∷ (map as_selector x.after ++ l)) (unsplit_append xs ys)
    ∙ ap (λ (l : List ℕ). x.char ∷ l) (sym (append_assoc (map as_selector x.after) (unsplit xs) (unsplit ys)))

module _ (p : Policy) (ys : List Cell) (q : class_may_begin (following ys) ≡ true) where
  outcome_before : (x : Cell) (xs : List Cell) → outcome_at p x (xs ++ ys) ≡ outcome_at p x xs
  unfolding following
  outcome_before x [] = as_at_end p x.char (following ys) x.after q
  outcome_before x (y ∷ xs) = refl

  count_append : (xs : List Cell) → count_cells p (xs ++ ys) ≡ count_cells p xs ⊕ count_cells p ys
  unfolding count_cells
  count_append [] = sym (empty-plus (count_cells p ys))
  count_append (x ∷ xs) =
      ap₂ (λ (o : Outcome) (n : NonCanonicality). o.counts ⊕ n) (outcome_before x xs) (count_append xs)
      ∙ sym (plus_assoc (outcome_at p x xs).counts (count_cells p xs) (count_cells p ys))

  -- A cell with its slot written by default.
  abbrev written : Cell → Outcome → Cell
  written x o = record { char = x.char; after = chosen o.slot [] }

  renew_append : (xs : List Cell) → renew p (xs ++ ys) [] ≡ renew p xs [] ++ renew p ys []
  unfolding renew
  renew_append [] = refl
  renew_append (x ∷ xs) =
      let o = outcome_at p x xs in
      let none = remaining-none o.slot in
      ap (λ (o : Outcome). written x o ∷ renew p (xs ++ ys) (remaining o.slot [])) (outcome_before x xs)
      ∙ ap (λ (ds : List Presentation). written x o ∷ renew p (xs ++ ys) ds) none
      ∙ ap (λ (l : List Cell). written x o ∷ l) (renew_append xs)
      ∙ ap (λ (ds : List Presentation). written x o ∷ (renew p xs ds ++ renew p ys [])) (sym none)

  render_append : (xs : List Cell) → render p (xs ++ ys) [] ≡ render p xs [] ++ render p ys []
  unfolding render
  render_append xs = ap unsplit (renew_append xs) ∙ unsplit_append (renew p xs []) (renew p ys [])

-- ---- characters

abbrev Parts : Type 0
Parts = List Presentation × List Cell

module _ (p : Policy) (s t : List ℕ) (l : leading t ≡ []) (q : class_may_begin (following (cells t)) ≡ true) where
  abbrev in_two : split (s ++ t) ≡ (leading s, cells s ++ cells t)
  in_two = split_append s t l

  format_append : format_cells p (s ++ t) ≡ format_cells p s ++ format_cells p t
  unfolding format_cells
  format_append = ap (λ (a : Parts). render p a.1 []) in_two ∙ render_append p (cells t) q (cells s)

  total_append : total_cells p (s ++ t) ≡ total_cells p s ⊕ total_cells p t
  unfolding total_cells
  total_append =
      let u = unsanctioned (length (leading s)) in
      let m = count_cells p (cells s) in
      let n = count_cells p (cells t) in
      ap (λ (a : Parts). unsanctioned (length a.0) ⊕ count_cells p a.1) in_two
      ∙ ap (λ (n : NonCanonicality). u ⊕ n) (count_append p (cells t) q (cells s))
      ∙ sym (plus_assoc u m n)
      ∙ ap (λ (n : NonCanonicality). u ⊕ m ⊕ n)
      (sym (empty-plus n) ∙ ap (λ (a : List Presentation). unsanctioned (length a) ⊕ n) (sym l))

-- ---- texts

pub chars_append : (s t : List ℕ) → WellFormed s → chars (s ++ t) ≡ chars s ++ chars t
chars_append s t w =
    ap (λ (l : List ℕ). chars (l ++ t)) (sym (encode_all-chars s (well_formed_whole w))) ∙ chars-encode_all (chars s) t (chars-all_scalar s)

-- How the characters of a second part begin: no selector leads, and the first class may begin the part.
record Front (t : List ℕ) : Type 0 where
  pub none_leads : leading t ≡ []
  pub allowed : class_may_begin (following (cells t)) ≡ true

front-char : (c : ℕ) (t : List ℕ) → class_may_begin (class_of c) ≡ true → Front (c ∷ t)
unfolding following
front-char c t e = go (is_selector c) refl
  where
    go : (b : Bool) → is_selector c ≡ b → Front (c ∷ t)
    go true s = absurd (true≢false (sym e ∙ ap class_may_begin (class_selector c s)))
    go false s = record {
      none_leads = ap (λ (a : Parts). a.0) (split-char c t s);
      allowed = ap (λ (a : Parts). class_may_begin (following a.1)) (split-char c t s) ∙ e;
    }

front : {b : List ℕ} → BeginsPart b → Front (chars b)
unfolding split following
front is_empty_lem = record {
  none_leads = ap leading (chars_end [] read_char_nil);
  allowed = ap (λ (t : List ℕ). class_may_begin (following (cells t))) (chars_end [] read_char_nil);
}
front (begins {c} {t} e k) =
    let f = front-char c t (sym (by_class c) ∙ k) in
    record {
      none_leads = ap leading e ∙ f.none_leads;
      allowed = ap (λ (t : List ℕ). class_may_begin (following (cells t))) e ∙ f.allowed;
    }

pub joins : (policy a b : List ℕ) → WellFormed a → BeginsPart b → Joins policy a b
joins policy a b w k =
    let p = policy_of policy in
    let f = front k in
    let s = chars a in
    let t = chars b in
    let h = chars_append a b w in
    record {
      text =
          (cell_view (a ++ b) policy).0 ∙ ap (λ (l : List ℕ). encode_all (format_cells p l)) h
          ∙ ap encode_all (format_append p s t f.none_leads f.allowed) ∙ encode_all_append (format_cells p s) (format_cells p t)
          ∙ ap₂ (λ (x y : List ℕ). x ++ y) (sym (cell_view a policy).0) (sym (cell_view b policy).0);
      totals =
          (cell_view (a ++ b) policy).1 ∙ ap (total_cells p) h ∙ total_append p s t f.none_leads f.allowed
          ∙ ap₂ (λ (x y : NonCanonicality). x ⊕ y) (sym (cell_view a policy).1) (sym (cell_view b policy).1);
    }
