-- The proof of the claim on a formatted text (`FormattedClaim` of specs/Demand3.antt).
use Rattle.base.specs.declared.Refusal.{Refusal}
use Rattle.std.specs.Prelude.{Ok, None, Result, Option}
use mathlib.Core.Path.{◌≡◌, refl, ap, sym, ◌∙◌, subst}
use mathlib.Core.Bool.{Bool, true, false}
use mathlib.Core.List.{List, [], map}
use Prim.Native.Nat.{ℕ, ◌+◌, ◌*◌, ◌≤◌, ◌<◌}
use native.Mathlib.Omega.{arith}
use lib.Dec.{leb}
use lib.ListN.{length}
use borrow.Author.Tests.{le-leb, lt-leb}
use Rattle.base.specs.Tables.{fill_table}
use Rattle.utf8.specs.Rfc3629.{WellFormed, chars, encode_all}
use Rattle.utf8.proofs.Grammar.{well_formed_whole}
use Rattle.utf8.proofs.Texts.{encode_all-chars}
use Rattle.policy.specs.declared.Policy.{Policy}
use Rattle.policy.specs.PolicyBytes.{is_policy, policy_of}
use Rattle.scanner.specs.Classes.{strip}
use Rattle.scanner.specs.Items.{Item, items, join}
use Rattle.scanner.specs.Spans.{Found, found, width}
use Rattle.scanner.proofs.Tiling.{tiling}
use Rattle.analysis.specs.Analysis.{is_finding}
use Rattle.analysis.specs.Cells.{selector_count}
use Rattle.analysis.specs.Counts.{◌⊕◌, adding, removing}
use Rattle.analysis.specs.declared.types.NonCanonicality.{NonCanonicality}
use Rattle.analysis.proofs.Counts.{empty-plus}
use Rattle.formatter.specs.Book.{Entry, book_chars, book_text, first_book, items_of}
use Rattle.formatter.specs.Demand3.{Accepted, FormattedClaim, all_mended, mended_items}
use Rattle.analysis.specs.Findings.{totals}
use Rattle.formatter.specs.Findings.{finding_row, findings, text_totals}
use Rattle.formatter.specs.Format.{format, formatted, same_bytes}
use Rattle.base.specs.Refusals.{After}
use Rattle.formatter.proofs.Books.{balance_book, strip_book}
use Rattle.formatter.proofs.Formatting.{
  all_chars,
  all_items,
  all_none,
  all_right,
  format_is,
  format-none,
  format_tests,
  same_self,
  same_true,
  says_unchanged,
}
use Rattle.formatter.specs.List.{row_bytes, row_numbers}
use Rattle.formatter.proofs.Listing.{list_bytes_is, list_is, list_rows, room-rows}
use Rattle.base.proofs.TableBytes.{no_rows}
use Rattle.formatter.proofs.RowBytes.{length_row}
use Rattle.formatter.proofs.Marks.{found_totals, split-totals}
use Rattle.formatter.proofs.Calls.{InRow, decoded-book, findings-book, formed-book, four-book, row_same}
use Rattle.formatter.proofs.Splicing.{fresh-items}
use Rattle.formatter.proofs.FirstBook.{first_found, first-row, first_text, format_as, totals_is, whole}

module _ (policy : List ℕ) where
  abbrev P : Policy
  P = policy_of policy

  -- ---- formatted texts

  -- A text without a finding is its own formatted text.
  same_none : (b : List ℕ) → Accepted policy b → findings b policy ≡ [] → formatted b policy ≡ b
  same_none b a e = sym (format_as policy b)
      ∙ ap encode_all (format-none P 0 (items (chars b)) (sym (first_found policy b) ∙ e) ∙ tiling (chars b)) ∙ whole policy b a

  kept-none : (b out : List ℕ) → Accepted policy b → findings b policy ≡ [] → format b policy out
      ≡ record { answer = Ok None; buffer = out }
  kept-none b out a e =
      let F = formatted b policy in
      format_is policy b out a ∙ ap (λ (q : Bool). format_tests q (leb (length F) (length out)) F out)
      (ap (λ (t : List ℕ). same_bytes F t) (sym (same_none b a e)) ∙ same_self F)

  module _ (b : List ℕ) (a : Accepted policy b) where
    fit : is_policy policy ≡ true
    fit = a.is_policy_lem

    abbrev F : List ℕ
    F = formatted b policy

    abbrev X : List Item
    X = items (chars b)

    abbrev E : List Entry
    E = all_mended P X

    all_row : InRow policy E
    all_row = row_same policy fit (first_book policy b) E (all_items P X ∙ sym (fresh-items X)) (first-row policy b)

    all_join : join (items_of E) ≡ chars b
    all_join = ap join (all_items P X) ∙ tiling (chars b)

    after_all : F ≡ book_text policy E
    after_all = sym (format_as policy b) ∙ ap encode_all (sym (all_chars P X))

    formed-all : WellFormed F
    formed-all = subst WellFormed (sym after_all) (formed-book policy fit E all_row)

    decoded-all : chars F ≡ book_chars P E
    decoded-all = ap chars after_all ∙ decoded-book policy fit E all_row

    none-all : findings F policy ≡ []
    none-all = ap (λ (t : List ℕ). findings t policy) after_all ∙ findings-book policy fit E all_row ∙ all_none P 0 X

    totals-all : text_totals F policy ⊕ totals P (mended_items E) ≡ text_totals b policy
    totals-all =
        ap (λ (n : NonCanonicality). n ⊕ totals P (mended_items E))
        (totals_is policy F ∙ ap (found_totals P) (none-all ∙ sym (all_none P 0 X)))
        ∙ split-totals P 0 0 (all_right P X) ∙ ap (λ (l : List Item). found_totals P (found (is_finding P) width 0 l)) (all_items P X)
        ∙ ap (found_totals P) (sym (first_found policy b)) ∙ sym (totals_is policy b)

    all-totals : totals P (mended_items E) ≡ text_totals b policy
    unfolding totals
    all-totals =
        sym (empty-plus (totals P (mended_items E)))
        ∙ ap (λ (n : NonCanonicality). n ⊕ totals P (mended_items E)) (sym (totals_is policy F ∙ ap (found_totals P) none-all)) ∙ totals-all

    none-same : F ≡ b → findings b policy ≡ []
    none-same e = ap (λ (t : List ℕ). findings t policy) (sym e) ∙ none-all

    four-all : length F ≤ 4 * length b
    four-all =
        omega (
          arith,
          ap length after_all,
          four-book policy fit E all_row,
          ap (λ (t : List ℕ). length (encode_all t)) all_join,
          ap length
              (whole policy b a),
        )

    short-all : length F ≤ 16777216 → Accepted policy F
    short-all h = record { short = h; is_policy_lem = fit; well_formed = formed-all }

    not_same : 0 < length (findings b policy) → same_bytes F b ≡ false
    not_same h = go (same_bytes F b) refl
      where
        go : (q : Bool) → same_bytes F b ≡ q → q ≡ false
        go true e = let y = ap length (none-same (same_true F b e)) in absurd (omega arith)
        go false e = refl

    changed-tests : (out : List ℕ) (r : Bool) → 0 < length (findings b policy) → leb (length F) (length out) ≡ r → format b policy out
        ≡ format_tests false r F out
    changed-tests out r h e =
        format_is policy b out a ∙ ap (λ (q : Bool). format_tests q (leb (length F) (length out)) F out) (not_same h)
        ∙ ap (λ (r : Bool). format_tests false r F out) e

    -- Formatting a formatted text changes nothing.
    again-all : formatted F policy ≡ F
    again-all =
        sym (format_as policy F) ∙ ap encode_all
        (format-none P 0 (items (chars F)) (sym (first_found policy F) ∙ none-all) ∙ tiling (chars F))
        ∙ encode_all-chars F (well_formed_whole formed-all)

    pub formatted-claim : FormattedClaim policy b
    formatted-claim = record {
      at_first = first_text policy b a;
      after = after_all;
      well_formed = formed-all;
      none_left = none-all;
      none-listed = λ table h.
          list_is policy F table (short-all h) ∙ ap (λ (l : List Found). list_rows (map (finding_row P F) l) table) none-all
          ∙ room-rows [] table 0 refl (omega arith);
      none-listed-bytes = λ table h.
          list_bytes_is policy F table (short-all h)
          ∙ ap (λ (l : List Found). fill_table row_numbers row_bytes (map (finding_row P F) l) table) none-all
          ∙ sym (no_rows row_numbers row_bytes length_row (omega arith) [] table refl refl);
      again = again-all;
      again-unchanged = λ out h. kept-none F out (short-all h) none-all;
      eight-totals = totals-all;
      selectors-number =
          ap (λ (t : List ℕ). selector_count t + removing (text_totals b policy)) decoded-all
          ∙ subst (λ (c : NonCanonicality). selector_count (book_chars P E) + removing c ≡ selector_count (join (items_of E)) + adding c)
          all-totals (balance_book P E all_row.derived)
          ∙ ap (λ (t : List ℕ). selector_count t + adding (text_totals b policy)) all_join;
      others = ap strip decoded-all ∙ strip_book P E all_row.derived ∙ ap strip all_join;
      four_times = four-all;
      no_change = (none-same, same_none b a);
      unchanged-said = λ out. (
        (λ e. none-same (same_true F b (says_unchanged (same_bytes F b) (leb (length F) (length out)) F out
            (ap (λ (x : After (Result (Option ℕ) Refusal) ℕ). x.answer) (sym (format_is policy b out a)) ∙ e)))),
        (λ z. ap (λ (x : After (Result (Option ℕ) Refusal) ℕ). x.answer) (kept-none b out a z)),
      );
      unchanged-kept = λ out z. kept-none b out a z;
      changed_written = λ out h i. changed-tests out true h (le-leb (length F) (length out) i);
      changed-short = λ out h i. changed-tests out false h (lt-leb (length F) (length out) i);
    }
