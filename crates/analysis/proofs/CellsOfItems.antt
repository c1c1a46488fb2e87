-- The cells of items in a row: their formatted characters and their totals are those of the items, since the result of the rules
-- for the last cell of an item does not depend on the text after the item.
use Rattle.std.specs.Prelude.{None}
use mathlib.Core.Path.{◌≡◌, refl, ap, sym, ◌∙◌, subst}
use mathlib.Core.Bool.{Bool, true, false, false≢true}
use mathlib.Core.List.{List, [], ◌∷◌, ◌++◌, append_assoc, map}
use Prim.Native.Nat.{ℕ, suc}
use native.Mathlib.Omega.{arith}
use lib.ListN.{length}
use Rattle.emoji.specs.Presentation.{as_selector, is_selector}
use Rattle.emoji.specs.Unicode.{has_variation_sequence}
use Rattle.emoji.specs.declared.presentation.Presentation.{Presentation}
use Rattle.policy.specs.declared.Policy.{Policy}
use Rattle.scanner.specs.Classes.{strip, class_of}
use Rattle.scanner.specs.declared.char_class.Class.{Class}
use Rattle.scanner.specs.declared.char_class.Class.TheVariants.{
  Selector as selector,
  Link as link,
  Ri as ri,
  Modifier as modifier,
  Emoji as emoji,
  Keycap as keycap,
  Tag as tag,
  Other as other,
}
use Rattle.scanner.specs.Items.{Item, start_state, items, join, kind_of, transition}
use Rattle.scanner.specs.declared.state.State.{State}
use Rattle.scanner.specs.declared.state.State.TheVariants.{Plain as plain, Unit as unit}
use Rattle.scanner.specs.declared.ScanKind.{ScanKind}
use Rattle.scanner.specs.declared.ScanKind.TheVariants.{EmojiHeaded, LinksOnly, Passthrough, UnsanctionedPresentationSelectors}
use Rattle.scanner.proofs.Classes.{class_selector, entry_class, selector_class}
use Rattle.scanner.proofs.States.{
  emoji_transition,
  inner,
  inner_not_plain,
  is_plain,
  kind_emoji,
  kind-links,
  kind_passthrough,
  kind_selector,
  plain_transition,
  not_plain_selector,
}
use Rattle.scanner.proofs.Tiling.{tiling}
use Rattle.scanner.proofs.Walk.{
  Chain,
  Walk,
  done,
  inner_no_selector,
  items-chain,
  merges,
  pass,
  stay,
  selectors_strip,
  stops,
  strip_selector,
  strip_walk,
  then,
  walk_inner,
  walk_plain,
}
use Rattle.analysis.specs.Analysis.{
  chosen,
  count_cells,
  counts_of,
  following,
  non_canonicality,
  outcome_at,
  render,
  renew,
  replacement,
  replacement_of,
}
use Rattle.analysis.specs.Cells.{Cell, cells, leading, split, unsplit}
use Rattle.analysis.specs.Counts.{◌⊕◌, empty, unsanctioned}
use Rattle.analysis.specs.declared.singleton.Outcome.{Outcome}
use Rattle.analysis.specs.Rules.{by_keycap, by_modifier, by_tags, outcome, rule1}
use Rattle.analysis.specs.declared.types.NonCanonicality.{NonCanonicality}
use Rattle.analysis.proofs.Cells.{chars_of, count-split, held_in, split_append, split-char, strip-split}
use Rattle.analysis.proofs.Counts.{empty-plus, plus_assoc}
use Rattle.analysis.proofs.Items.{counts_at, replacement_at}
use Rattle.analysis.proofs.Lengths.{length_parts}
use Rattle.analysis.proofs.Replacement.{remaining-none}
use Rattle.analysis.proofs.Rules.{outcome_no_entry, outcome_unmodified}
use Rattle.analysis.specs.CellView.{total_cells}
use Rattle.analysis.specs.Findings.{totals}

-- ---- cells with their outcomes

record Piece : Type 0 where
  pub char : ℕ
  pub out : Outcome

abbrev sum : List Piece → NonCanonicality
sum [] = empty
sum (x ∷ xs) = x.out.counts ⊕ sum xs

abbrev say : List Piece → List ℕ
say [] = []
say (x ∷ xs) = x.char ∷ (map as_selector (chosen x.out.slot []) ++ say xs)

sum_append : (a b : List Piece) → sum (a ++ b) ≡ sum a ⊕ sum b
sum_append [] b = sym (empty-plus (sum b))
sum_append (x ∷ a) b = ap (λ (n : NonCanonicality). x.out.counts ⊕ n) (sum_append a b) ∙ sym (plus_assoc x.out.counts (sum a) (sum b))

say_append : (a b : List Piece) → say (a ++ b) ≡ say a ++ say b
say_append [] b = refl
say_append (x ∷ a) b =
    ap (λ (l : List ℕ). x.char ∷ l)
    (ap (λ (l : List ℕ). map as_selector (chosen x.out.slot []) ++ l) (say_append a b)
    ∙ sym (append_assoc (map as_selector (chosen x.out.slot [])) (say a) (say b)))

-- The class of the first cell's character, or k if there is no cell.
abbrev next : Class → List Cell → Class
next k [] = k
next k (x ∷ xs) = class_of x.char

next-following : (xs : List Cell) → following xs ≡ next other xs
unfolding following
next-following [] = refl
next-following (x ∷ xs) = refl

no_cells : (xs : List Cell) → chars_of xs ≡ [] → xs ≡ []
no_cells [] e = refl
no_cells (x ∷ xs) e = let z : suc (length (chars_of xs)) ≡ 0 = ap length e in absurd (omega arith)

-- ---- the text after an item

data Stop (q : State) (k : Class) : Type 0 where
  at_end : k ≡ other → Stop q k
  before : transition q k ≡ None → Stop q k

record Head (q : State) (t : List ℕ) : Type 0 where
  pub lead : leading t ≡ []
  pub stop : Stop q (next other (cells t))

head-char : {q : State} (c : ℕ) (t : List ℕ) → is_plain q ≡ false → transition q (class_of c) ≡ None → Head q (c ∷ t)
head-char {q} c t i e = go (is_selector c) refl
  where
    go : (b : Bool) → is_selector c ≡ b → Head q (c ∷ t)
    go true s =
        let z = ap (transition q) (class_selector c s) ∙ not_plain_selector q i in
        let y : ◌≡◌ {A = ℕ} 0 1 = cc in absurd (omega arith)
    go false s = record {
      lead = ap (λ (a : List Presentation × List Cell). a.0) (split-char c t s);
      stop = subst (λ (a : List Presentation × List Cell). Stop q (next other a.1)) (sym (split-char c t s)) (before e);
    }

head_of : {q : State} {xs : List Item} → is_plain q ≡ false → Chain q xs → Head q (join xs)
unfolding split
head_of i done = record { lead = refl; stop = at_end refl }
head_of {q} i (then {xs = xs} c s (stops e) k l w h) = subst (λ (t : List ℕ). Head q (t ++ join xs)) (sym l)
    (head-char c (s ++ join xs) i e)
head_of i (then c s (merges e) k l w h) = absurd (false≢true (sym i ∙ ap is_plain e))

-- ---- items in a row

module _ (p : Policy) where
  abbrev outs : Class → List Cell → List Piece
  outs k [] = []
  outs k (x ∷ xs) = record { char = x.char; out = outcome p x.char (next k xs) x.after } ∷ outs k xs

  count_outs : (xs : List Cell) → count_cells p xs ≡ sum (outs other xs)
  unfolding count_cells
  count_outs [] = refl
  count_outs (x ∷ xs) =
      ap (λ (k : Class). (outcome p x.char k x.after).counts ⊕ count_cells p xs) (next-following xs)
      ∙ ap (λ (n : NonCanonicality). (outcome p x.char (next other xs) x.after).counts ⊕ n) (count_outs xs)

  abbrev written : Cell → Class → List ℕ → List ℕ
  written x k l = x.char ∷ (map as_selector (chosen (outcome p x.char k x.after).slot []) ++ l)

  pub render_outs : (xs : List Cell) → render p xs [] ≡ say (outs other xs)
  unfolding render renew
  render_outs [] = refl
  render_outs (x ∷ xs) =
      ap (λ (ds : List Presentation). written x (following xs) (unsplit (renew p xs ds))) (remaining-none (outcome_at p x xs).slot)
      ∙ ap (λ (k : Class). written x k (unsplit (renew p xs []))) (next-following xs)
      ∙ ap (written x (next other xs)) (render_outs xs)

  outs_append : (k : Class) (xs ys : List Cell) → outs k (xs ++ ys) ≡ outs (next k ys) xs ++ outs k ys
  outs_append k [] ys = refl
  outs_append k (x ∷ []) ys = refl
  outs_append k (x ∷ (y ∷ xs)) ys =
      ap (λ (l : List Piece). record { char = x.char; out = outcome p x.char (class_of y.char) x.after } ∷ l)
      (outs_append k (y ∷ xs) ys)

  -- After a complete stem the item ends only where no modification follows.
  unit_ends : (c : ℕ) (k : Class) (s : List Presentation) → transition unit k ≡ None → outcome p c k s ≡ outcome p c other s
  unfolding transition by_modifier by_tags by_keycap
  unit_ends c selector s e = cc
  unit_ends c link s e = cc
  unit_ends c ri s e = outcome_unmodified p c ri s refl refl refl
  unit_ends c modifier s e = cc
  unit_ends c emoji s e = outcome_unmodified p c emoji s refl refl refl
  unit_ends c keycap s e = cc
  unit_ends c tag s e = cc
  unit_ends c other s e = refl

  last-cell : (c : ℕ) (s : List Presentation) (q : State) (k : Class) → (has_variation_sequence c ≡ true → q ≡ unit) → transition q k ≡ None
      → outcome p c k s ≡ outcome p c other s
  last-cell c s q k f e = go (has_variation_sequence c) refl
    where
      go : (b : Bool) → has_variation_sequence c ≡ b → outcome p c k s ≡ outcome p c other s
      go true v = unit_ends c k s (ap (λ (q : State). transition q k) (sym (f v)) ∙ e)
      go false v = outcome_no_entry p c k s v ∙ sym (outcome_no_entry p c other s v)

  outs_same : {q r : State} (x : Cell) (xs : List Cell) (k : Class) → (has_variation_sequence x.char ≡ true → q ≡ unit)
      → Walk q (chars_of xs) r → transition r k ≡ None
      → outs k (x ∷ xs) ≡ outs other (x ∷ xs)
  outs_same {q} x [] k f stay e = ap (λ (o : Outcome). record { char = x.char; out = o } ∷ []) (last-cell x.char x.after q k f e)
  outs_same {q} x (y ∷ ys) k f (pass {q = r} s w) e =
      ap (λ (l : List Piece). record { char = x.char; out = outcome p x.char (class_of y.char) x.after } ∷ l)
      (outs_same y ys k (λ v. emoji_transition q r (ap (transition q) (sym (entry_class y.char v)) ∙ s)) w e)

  outs_same_text : {q : State} (c : ℕ) (s : List ℕ) (k : Class) → inner (start_state (class_of c)) ≡ true
      → Walk (start_state (class_of c)) s q
      → Stop q k
      → outs k (cells (c ∷ s)) ≡ outs other (cells (c ∷ s))
  unfolding start_state
  outs_same_text c s k i w (at_end e) = ap (λ (k : Class). outs k (cells (c ∷ s))) e
  outs_same_text {q} c s k i w (before e) =
      let f = split-char c s (inner_no_selector c i) in
      let v = subst (λ (l : List ℕ). Walk (start_state (class_of c)) l q) (strip-split s) (strip_walk i w) in
      subst (λ (a : List Presentation × List Cell). outs k a.1 ≡ outs other a.1) (sym f)
      (outs_same (record { char = c; after = leading s }) (cells s) k (λ z. ap start_state (entry_class c z)) v e)

  -- ---- the cells of items in a row

  abbrev pub cell_text : List ℕ → List ℕ
  cell_text t = say (outs other (cells t))

  abbrev pub cell_sum : List ℕ → NonCanonicality
  cell_sum t = unsanctioned (length (leading t)) ⊕ sum (outs other (cells t))

  -- The default replacements of all items, one after the other.
  abbrev pub replace_all : List Item → List ℕ
  replace_all [] = []
  replace_all (x ∷ xs) = replacement p x [] ++ replace_all xs

  pub record ByCells (xs : List Item) : Type 0 where
    pub said : cell_text (join xs) ≡ replace_all xs
    pub summed : cell_sum (join xs) ≡ totals p xs

  plain_char : (c : ℕ) (t : List ℕ) → start_state (class_of c) ≡ plain
      → (cell_text (c ∷ t) ≡ c ∷ cell_text t) × (cell_sum (c ∷ t) ≡ cell_sum t)
  unfolding start_state rule1
  plain_char c t e = (
    ap (λ (a : List Presentation × List Cell). say (outs other a.1)) f
        ∙ ap (λ (o : Outcome). c ∷ (map as_selector (chosen o.slot []) ++ say (outs other Y))) v,
    ap (λ (a : List Presentation × List Cell). unsanctioned (length a.0) ⊕ sum (outs other a.1)) f
        ∙ ap (λ (o : Outcome). empty ⊕ (o.counts ⊕ sum (outs other Y))) v ∙ empty-plus (cell_sum t),
  )
    where
      sel-go : (b : Bool) → is_selector c ≡ b → is_selector c ≡ false
      sel-go true s = absurd (false≢true (sym (ap (λ (k : Class). is_plain (start_state k)) (class_selector c s)) ∙ ap is_plain e))
      sel-go false s = s

      var-go : (b : Bool) → has_variation_sequence c ≡ b → has_variation_sequence c ≡ false
      var-go true s = absurd (false≢true (sym (ap (λ (k : Class). is_plain (start_state k)) (entry_class c s)) ∙ ap is_plain e))
      var-go false s = s

      Y : List Cell
      Y = cells t

      f : split (c ∷ t) ≡ ([], record { char = c; after = leading t } ∷ Y)
      f = split-char c t (sel-go (is_selector c) refl)

      v : outcome p c (next other Y) (leading t) ≡ rule1 (leading t)
      v = outcome_no_entry p c (next other Y) (leading t) (var-go (has_variation_sequence c) refl)

  plain_walk : {q r : State} {s : List ℕ} (t : List ℕ) → q ≡ plain → Walk q s r → (cell_text (s ++ t) ≡ s ++ cell_text t)
      × (cell_sum (s ++ t) ≡ cell_sum t)
  plain_walk t e stay = (refl, refl)
  plain_walk t e (pass {p = q} {q = r} {c = c} {t = s} f w) =
      let b = plain_transition (class_of c) r (ap (λ (q : State). transition q (class_of c)) (sym e) ∙ f) in
      let i = plain_walk t b.0 w in
      let o = plain_char c (s ++ t) b.1 in
      (o.0 ∙ ap (λ (l : List ℕ). c ∷ l) i.0, o.1 ∙ i.1)

  by_plain : {q : State} (x : Item) {xs : List Item} (c : ℕ) (s : List ℕ) → x.kind ≡ Passthrough → x.chars ≡ c ∷ s
      → start_state (class_of c) ≡ plain
      → Walk (start_state (class_of c)) s q → ByCells xs → ByCells (x ∷ xs)
  unfolding replacement_of counts_of totals
  by_plain x {xs} c s k l b w i =
      let o = plain_char c (s ++ join xs) b in
      let r = plain_walk (join xs) b w in
      record {
        said =
            ap (λ (t : List ℕ). cell_text (t ++ join xs)) l ∙ o.0
            ∙ ap (λ (t : List ℕ). c ∷ t) (r.0 ∙ ap (λ (t : List ℕ). s ++ t) i.said)
            ∙ ap (λ (t : List ℕ). t ++ replace_all xs) (sym (replacement_at p x [] Passthrough k ∙ l));
        summed =
            ap (λ (t : List ℕ). cell_sum (t ++ join xs)) l ∙ o.1 ∙ r.1 ∙ i.summed ∙ sym (empty-plus (totals p xs))
            ∙ ap (λ (n : NonCanonicality). n ⊕ totals p xs) (sym (counts_at p x Passthrough k));
      }

  -- The sum over the cells of items is the totals of the items, if no selector leads them.
  sum-after : {xs : List Item} → leading (join xs) ≡ [] → ByCells xs → sum (outs other (cells (join xs))) ≡ totals p xs
  sum-after {xs} e i =
      let Y = outs other (cells (join xs)) in
      sym (empty-plus (sum Y)) ∙ ap (λ (l : List Presentation). unsanctioned (length l) ⊕ sum Y) (sym e) ∙ i.summed

  by_selectors : {q : State} (x : Item) {xs : List Item} (c : ℕ) (s : List ℕ) → x.kind ≡ UnsanctionedPresentationSelectors → x.chars
      ≡ c ∷ s → class_of c ≡ selector
      → Walk (start_state (class_of c)) s q → leading (join xs) ≡ [] → ByCells xs → ByCells (x ∷ xs)
  unfolding replacement_of counts_of totals start_state
  by_selectors x {xs} c s k l z w e i =
      let none-else : strip x.chars ≡ [] = ap strip l ∙ strip_selector c s (selector_class c z) ∙ selectors_strip (ap start_state z) w in
      let X : cells x.chars ≡ [] = no_cells (cells x.chars) (sym (strip-split x.chars) ∙ none-else) in
      let n : length (leading x.chars) ≡ length x.chars =
      omega (arith, length_parts x.chars, ap length none-else, count-split x.chars, ap held_in X) in
      let Y = cells (join xs) in
      let f : split (join (x ∷ xs)) ≡ (leading x.chars, cells x.chars ++ Y) = split_append x.chars (join xs) e in
      record {
        said =
            ap (λ (a : List Presentation × List Cell). say (outs other a.1)) f ∙ ap (λ (l : List Cell). say (outs other (l ++ Y))) X
            ∙ i.said
            ∙ ap (λ (t : List ℕ). t ++ replace_all xs) (sym (replacement_at p x [] UnsanctionedPresentationSelectors k));
        summed =
            ap (λ (a : List Presentation × List Cell). unsanctioned (length a.0) ⊕ sum (outs other a.1)) f
            ∙ ap (λ (m : ℕ). unsanctioned m ⊕ sum (outs other (cells x.chars ++ Y))) n
            ∙ ap (λ (l : List Cell). unsanctioned (length x.chars) ⊕ sum (outs other (l ++ Y))) X
            ∙ ap (λ (m : NonCanonicality). unsanctioned (length x.chars) ⊕ m) (sum-after {xs = xs} e i)
            ∙ ap (λ (m : NonCanonicality). m ⊕ totals p xs) (sym (counts_at p x UnsanctionedPresentationSelectors k));
      }

  by-inner : {q : State} (x : Item) {xs : List Item} (c : ℕ) (s : List ℕ) → non_canonicality p x ≡ count_cells p (cells x.chars)
      → replacement p x [] ≡ render p (cells x.chars) [] → x.chars ≡ c ∷ s → inner (start_state (class_of c)) ≡ true
      → Walk (start_state (class_of c)) s q
      → Head q (join xs) → ByCells xs → ByCells (x ∷ xs)
  unfolding totals
  by-inner {q} x {xs} c s n r l j w d i =
      let X = cells x.chars in
      let Y = cells (join xs) in
      let y : leading x.chars ≡ [] = ap leading l
      ∙ ap (λ (a : List Presentation × List Cell). a.0) (split-char c s (inner_no_selector c j)) in
      let f : split (join (x ∷ xs)) ≡ ([], X ++ Y) = split_append x.chars (join xs) d.lead
      ∙ ap (λ (l : List Presentation). (l, X ++ Y)) y in
      let b : outs (next other Y) X ≡ outs other X =
      subst (λ (t : List ℕ). outs (next other Y) (cells t) ≡ outs other (cells t)) (sym l)
      (outs_same_text c s (next other Y) j w d.stop) in
      let o : outs other (X ++ Y) ≡ outs other X ++ outs other Y = outs_append other X Y ∙ ap (λ (a : List Piece). a ++ outs other Y) b in
      record {
        said =
            ap (λ (a : List Presentation × List Cell). say (outs other a.1)) f ∙ ap say o ∙ say_append (outs other X) (outs other Y)
            ∙ ap (λ (t : List ℕ). t ++ say (outs other Y)) (sym (r ∙ render_outs X))
            ∙ ap (λ (t : List ℕ). replacement p x [] ++ t) i.said;
        summed =
            ap (λ (a : List Presentation × List Cell). unsanctioned (length a.0) ⊕ sum (outs other a.1)) f
            ∙ empty-plus (sum (outs other (X ++ Y))) ∙ ap sum o
            ∙ sum_append (outs other X) (outs other Y) ∙ ap (λ (m : NonCanonicality). m ⊕ sum (outs other Y)) (sym (n ∙ count_outs X))
            ∙ ap (λ (m : NonCanonicality). non_canonicality p x ⊕ m) (sum-after {xs = xs} d.lead i);
      }

  by_one : {q : State} (x : Item) {xs : List Item} (j : ScanKind) (c : ℕ) (s : List ℕ) → x.kind ≡ j → x.kind
      ≡ kind_of (start_state (class_of c)) → x.chars ≡ c ∷ s
      → Walk (start_state (class_of c)) s q → Chain q xs → ByCells xs → ByCells (x ∷ xs)
  unfolding replacement_of counts_of start_state
  by_one x Passthrough c s e k l w d i = by_plain x c s e l (kind_passthrough (class_of c) (sym k ∙ e)) w i
  by_one {q} x UnsanctionedPresentationSelectors c s e k l w d i =
      let z = kind_selector (class_of c) (sym k ∙ e) in
      by_selectors x c s e l z w (head_of (sym (walk_plain w) ∙ ap (λ (k : Class). is_plain (start_state k)) z) d).lead i
  by_one {q} x LinksOnly c s e k l w d i =
      let j = kind-links (class_of c) (sym k ∙ e) in
      by-inner x c s (counts_at p x LinksOnly e) (replacement_at p x [] LinksOnly e) l j w
      (head_of (inner_not_plain q (sym (walk_inner w) ∙ j)) d) i
  by_one {q} x EmojiHeaded c s e k l w d i =
      let j = kind_emoji (class_of c) (sym k ∙ e) in
      by-inner x c s (counts_at p x EmojiHeaded e) (replacement_at p x [] EmojiHeaded e) l j w
      (head_of (inner_not_plain q (sym (walk_inner w) ∙ j)) d) i

  pub by-cells : {q : State} {xs : List Item} → Chain q xs → ByCells xs
  unfolding split totals
  by-cells done = record { said = refl; summed = refl }
  by-cells (then {x = x} c s en k l w d) = by_one x x.kind c s refl k l w d (by-cells d)

  -- ---- the first item and the items after it

  pub total-cells : (t : List ℕ) → total_cells p t ≡ cell_sum t
  unfolding total_cells
  total-cells t = ap (λ (m : NonCanonicality). unsanctioned (length (leading t)) ⊕ m) (count_outs (cells t))

  -- The sum of the counts of the first item and the totals of the other items.
  abbrev first_and_rest_lem : List Item → NonCanonicality
  first_and_rest_lem [] = empty
  first_and_rest_lem (x ∷ xs) = non_canonicality p x ⊕ total_cells p (join xs)

  total-chain : {q : State} {xs : List Item} → Chain q xs → total_cells p (join xs) ≡ first_and_rest_lem xs
  unfolding totals split
  total-chain done = total-cells []
  total-chain (then {x = x} {xs = xs} c s en k l w d) =
      total-cells (join (x ∷ xs)) ∙ (by_one x x.kind c s refl k l w d (by-cells d)).summed
      ∙ ap (λ (m : NonCanonicality). non_canonicality p x ⊕ m) (sym (total-cells (join xs) ∙ (by-cells d).summed))

  pub total_first : (t : List ℕ) (x : Item) (xs : List Item) → items t ≡ x ∷ xs → total_cells p t
      ≡ non_canonicality p x ⊕ total_cells p (join xs)
  total_first t x xs e = ap (total_cells p) (sym (tiling t)) ∙ total-chain (items-chain t) ∙ ap first_and_rest_lem e
