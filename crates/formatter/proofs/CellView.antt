-- The formatted text and the totals of a text can be computed from its cells. `CellsOfItems` of the crate analysis says so for a chain of
-- items, and the items of a text are one.
use mathlib.Core.Path.{◌≡◌, refl, ap, sym, ◌∙◌}
use mathlib.Core.Bool.{Bool, true, false, cond}
use mathlib.Core.List.{List, [], ◌∷◌, ◌++◌}
use Prim.Native.Nat.{ℕ, ◌+◌}
use Rattle.policy.specs.PolicyBytes.{policy_of}
use Rattle.policy.specs.declared.Policy.{Policy}
use Rattle.utf8.specs.Rfc3629.{chars, encode_all}
use Rattle.scanner.specs.Items.{Item, items}
use Rattle.scanner.specs.declared.state.State.{State}
use Rattle.scanner.specs.Spans.{Found, found, size, width}
use Rattle.scanner.proofs.Tiling.{tiling}
use Rattle.scanner.proofs.Walk.{Chain, done, items-chain, then}
use Rattle.analysis.specs.Analysis.{is_finding, non_canonicality, replacement}
use Rattle.analysis.specs.Cells.{cells}
use Rattle.analysis.specs.Counts.{◌⊕◌}
use Rattle.analysis.specs.declared.types.NonCanonicality.{NonCanonicality}
use Rattle.analysis.proofs.Counts.{empty-plus}
use Rattle.analysis.proofs.Items.{finding_false, unchanged, walked_derives}
use Rattle.analysis.specs.CellView.{format_cells, total_cells}
use Rattle.analysis.specs.Findings.{totals}
use Rattle.formatter.specs.Findings.{findings, text_totals}
use Rattle.formatter.specs.Format.{format_items, formatted}
use Rattle.formatter.proofs.Marks.{found_totals}
use Rattle.analysis.proofs.CellsOfItems.{by-cells, cell_sum, cell_text, render_outs, replace_all, total-cells}

module _ (p : Policy) where
  -- Formatting items is replacing all of them by default, since an item that is no finding is its own replacement.
  format_replaces : {q : State} {xs : List Item} → Chain q xs → format_items p xs ≡ replace_all p xs
  unfolding format_items
  format_replaces done = refl
  format_replaces (then {x = x} {xs = xs} c s en k l w d) =
      go (is_finding p x) refl ∙ ap (λ (t : List ℕ). replacement p x [] ++ t) (format_replaces d)
    where
      go : (f : Bool) → is_finding p x ≡ f → cond (is_finding p x) (replacement p x []) x.chars ++ format_items p xs ≡ replacement p x []
          ++ format_items p xs
      go true e = ap (λ (f : Bool). cond f (replacement p x []) x.chars ++ format_items p xs) e
      go false e =
          ap (λ (f : Bool). cond f (replacement p x []) x.chars ++ format_items p xs) e
          ∙ ap (λ (t : List ℕ). t ++ format_items p xs) (sym ((unchanged p x (walked_derives x c s k l w)).0 e))

  found_all : (n : ℕ) (xs : List Item) → found_totals p (found (is_finding p) width n xs) ≡ totals p xs
  unfolding found totals
  found_all n [] = refl
  found_all n (x ∷ xs) = go (is_finding p x) refl (found_all (n + size width x.chars) xs)
    where
      F : List Found
      F = found (is_finding p) width (n + size width x.chars) xs

      go : (f : Bool) → is_finding p x ≡ f → found_totals p F ≡ totals p xs
          → found_totals p (cond (is_finding p x) (record { start = n; item = x } ∷ F) F) ≡ non_canonicality p x ⊕ totals p xs
      go true e i =
          ap (λ (f : Bool). found_totals p (cond f (record { start = n; item = x } ∷ F) F)) e
          ∙ ap (λ (m : NonCanonicality). non_canonicality p x ⊕ m) i
      go false e i =
          ap (λ (f : Bool). found_totals p (cond f (record { start = n; item = x } ∷ F) F)) e ∙ i ∙ sym (empty-plus (totals p xs))
          ∙ ap (λ (m : NonCanonicality). m ⊕ totals p xs) (sym (finding_false p x e))

  pub format-by-cells : (t : List ℕ) → format_items p (items t) ≡ format_cells p t
  unfolding format_cells
  format-by-cells t =
      let h = items-chain t in
      format_replaces h ∙ sym (by-cells p h).said ∙ ap (cell_text p) (tiling t) ∙ sym (render_outs p (cells t))

  pub totals-by-cells : (t : List ℕ) → found_totals p (found (is_finding p) width 0 (items t)) ≡ total_cells p t
  totals-by-cells t =
      found_all 0 (items t) ∙ sym (by-cells p (items-chain t)).summed ∙ ap (cell_sum p) (tiling t) ∙ sym (total-cells p t)

pub cell_view : (text policy : List ℕ)
    → (formatted text policy ≡ encode_all (format_cells (policy_of policy) (chars text)))
    × (text_totals text policy ≡ total_cells (policy_of policy) (chars text))
unfolding formatted text_totals findings
cell_view text policy = (ap encode_all (format-by-cells (policy_of policy) (chars text)), totals-by-cells (policy_of policy) (chars text))
