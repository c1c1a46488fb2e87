-- The first book of a text: no item is mended, and the book's text is the text itself.
use mathlib.Core.Path.{◌≡◌, refl, ap, sym, ◌∙◌, subst}
use mathlib.Core.List.{List, [], ◌∷◌, map, Memᴰ}
use Prim.Native.Nat.{ℕ, ◌+◌, ◌≤◌}
use native.Mathlib.Omega.{arith}
use lib.ListN.{length}
use Rattle.utf8.specs.Rfc3629.{all_scalar, chars, encode_all}
use Rattle.utf8.proofs.Grammar.{well_formed_whole}
use Rattle.utf8.proofs.Texts.{chars-all_scalar, encode_all-chars}
use Rattle.policy.specs.declared.Policy.{Policy}
use Rattle.policy.specs.PolicyBytes.{policy_of}
use Rattle.scanner.specs.Items.{Item, items, join}
use Rattle.scanner.specs.declared.state.State.TheVariants.{Plain as plain}
use Rattle.scanner.specs.Spans.{found, size, width}
use Rattle.scanner.proofs.Reading.{item_derives}
use Rattle.scanner.proofs.Tiling.{Filled, filled, tiling}
use Rattle.scanner.proofs.Walk.{Chain, items-chain}
use Rattle.analysis.specs.Analysis.{is_finding}
use Rattle.formatter.specs.Book.{Entry, at_place, book_text, first_book, fresh, items_of, open_findings, untouched}
use Rattle.formatter.specs.Demand3.{Accepted, Each, and_each, mended_from, no_more}
use Rattle.formatter.specs.Findings.{findings, text_totals}
use Rattle.formatter.specs.Format.{format_items, formatted}
use Rattle.formatter.proofs.Marks.{Rights, cond_length, found_totals, opens}
use Rattle.formatter.proofs.Mending.{Derived, open_found}
use Rattle.formatter.proofs.Calls.{InRow, Sound}
use Rattle.formatter.proofs.Splicing.{fresh-chars, fresh-items, openings_are}

each_of : {A : Type 0} (Q : A → Type 0) (l : List A) → ((x : A) → Memᴰ x l → Q x) → Each Q l
each_of Q [] h = no_more
each_of Q (x ∷ l) h = and_each (h x (Memᴰ.head refl)) (each_of Q l (λ y m. h y (Memᴰ.tail m)))

module _ (policy : List ℕ) where
  abbrev P : Policy
  P = policy_of policy

  pub whole : (b : List ℕ) → Accepted policy b → encode_all (chars b) ≡ b
  whole b a = encode_all-chars b (well_formed_whole a.well_formed)

  pub first_text : (b : List ℕ) → Accepted policy b → book_text policy (first_book policy b) ≡ b
  first_text b a = ap encode_all (fresh-chars P (items (chars b)) ∙ tiling (chars b)) ∙ whole b a

  first-join : (b : List ℕ) → join (items_of (first_book policy b)) ≡ chars b
  first-join b = ap join (fresh-items (items (chars b))) ∙ tiling (chars b)

  pub first-row : (b : List ℕ) → InRow policy (first_book policy b)
  first-row b = record {
    row = subst (λ (l : List Item). Chain plain l) (sym (fresh-items (items (chars b)))) (items-chain (chars b));
    derived = subst (λ (l : List Item). Each Derived l) (sym (fresh-items (items (chars b))))
        (each_of Derived (items (chars b)) (item_derives (chars b)));
    scalar = ap all_scalar (first-join b) ∙ chars-all_scalar b;
    full = subst (λ (l : List Item). Filled l) (sym (fresh-items (items (chars b)))) (filled (chars b));
  }

  fresh-right : (xs : List Item) → Rights P (fresh xs)
  fresh-right [] = no_more
  fresh-right (x ∷ xs) = and_each {x = record { item = x; mark = untouched }} tt (fresh-right xs)

  pub first_sound : (b : List ℕ) → Accepted policy b → length b ≤ 4194304 → Sound policy (first_book policy b)
  first_sound b a h = record {
    base = first-row b;
    small = omega (arith, ap (λ (t : List ℕ). length (encode_all t)) (first-join b), ap length (whole b a), h);
    right = fresh-right (items (chars b));
  }

  pub fresh_log : (n : ℕ) (xs : List Item) → mended_from n (fresh xs) ≡ []
  unfolding mended_from
  fresh_log n [] = refl
  fresh_log n (x ∷ xs) = fresh_log (n + size width x.chars) xs

  pub fresh-number : (n : ℕ) (xs : List Item) → length (found (is_finding P) width n xs) ≡ opens P (fresh xs)
  unfolding found
  fresh-number n [] = refl
  fresh-number n (x ∷ xs) =
      cond_length P (is_finding P x) (record { start = n; item = x }) (found (is_finding P) width (n + size width x.chars) xs)
      (opens P (fresh xs)) (fresh-number (n + size width x.chars) xs)

  pub first_found : (b : List ℕ) → findings b policy ≡ found (is_finding P) width 0 (items (chars b))
  unfolding findings
  first_found b = refl

  pub totals_is : (b : List ℕ) → text_totals b policy ≡ found_totals P (findings b policy)
  unfolding text_totals
  totals_is b = refl

  pub format_as : (b : List ℕ) → encode_all (format_items P (items (chars b))) ≡ formatted b policy
  unfolding formatted
  format_as b = refl

  pub open_none : (es : List Entry) → open_findings policy es ≡ [] → open_found P 0 es ≡ []
  open_none es e = sym (openings_are P 0 0 0 es (omega arith)) ∙ ap (map at_place) e
