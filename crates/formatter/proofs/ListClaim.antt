-- The proof of the claim on a list of mending calls (`ListClaim` of specs/Demand3.antt).
use Rattle.base.specs.declared.Refusal.{Refusal}
use Rattle.std.specs.Prelude.{Ok, Result}
use mathlib.Core.Path.{◌≡◌, ap, sym, ◌∙◌, subst}
use mathlib.Core.Bool.{Bool, true, false, cond}
use mathlib.Core.List.{List, [], ◌∷◌, ◌++◌, append-nil, map, Memᴰ}
use Prim.Native.Nat.{ℕ, ◌+◌, ◌≤◌}
use native.Mathlib.Omega.{arith}
use lib.ListN.{length-map, drop, length}
use Rattle.base.proofs.TableBytes.{filled, not-filled}
use Rattle.utf8.specs.Rfc3629.{chars, encode_all}
use Rattle.policy.specs.declared.Policy.{Policy}
use Rattle.policy.specs.PolicyBytes.{is_policy, policy_of}
use Rattle.scanner.specs.Classes.{strip}
use Rattle.scanner.specs.Items.{Item, items, join}
use Rattle.scanner.specs.Spans.{found, width}
use Rattle.scanner.proofs.Tiling.{tiling}
use Rattle.analysis.specs.Analysis.{is_finding}
use Rattle.analysis.specs.Cells.{selector_count}
use Rattle.analysis.specs.Counts.{◌⊕◌, adding, removing}
use Rattle.analysis.specs.declared.types.NonCanonicality.{NonCanonicality}
use Rattle.formatter.specs.Book.{Mending, at_first_of, at_place, book_step, book_text, first_book, items_of, marked, mends, open_findings}
use Rattle.formatter.specs.Demand3.{
  Accepted,
  Alike,
  FirstRefusal,
  ListClaim,
  accepted_calls,
  book,
  given,
  is_mended,
  mended_from,
  mended_items,
  mendings,
  open_row,
  call_outcome,
  seen,
  text,
}
use Rattle.analysis.specs.Findings.{totals}
use Rattle.formatter.specs.Findings.{findings, text_totals}
use Rattle.formatter.specs.Format.{format_items}
use Rattle.formatter.specs.List.{row_bytes, row_numbers}
use Rattle.formatter.specs.Mend.{Call, mend_call, outcomes, text_after}
use Rattle.base.specs.Refusals.{After}
use Rattle.formatter.proofs.Books.{balance_book, strip_book}
use Rattle.formatter.proofs.Formatting.{default_book}
use Rattle.formatter.proofs.Judging.{book_outcome}
use Rattle.formatter.proofs.Listing.{first-finding, list_book, list_book_bytes, room-rows, seen_same, short-rows}
use Rattle.formatter.proofs.RowBytes.{length_row}
use Rattle.formatter.proofs.Marks.{found_totals, open_number, split-totals}
use Rattle.formatter.proofs.Alike.{alike_of, alike_sym, alike_trans}
use Rattle.formatter.proofs.Order.{places_add, same_chars}
use Rattle.formatter.proofs.Acceptance.{names_iff, refusal_first, refusal_kept}
use Rattle.formatter.proofs.Calls.{
  Sound,
  accepted-book,
  accepted-same,
  book-writes,
  call_same,
  decoded-book,
  findings-book,
  findings-open,
}
use Rattle.formatter.proofs.Runs.{book_append, list-items, list_log, list-number, list_sound, list_text, one_book}
use Rattle.formatter.proofs.Splicing.{fresh-items, openings_are}
use Rattle.formatter.proofs.FirstBook.{
  first_found,
  first_sound,
  first_text,
  format_as,
  fresh_log,
  fresh-number,
  open_none,
  totals_is,
  whole,
}

module _ (policy : List ℕ) where
  abbrev P : Policy
  P = policy_of policy

  -- ---- the claim on a list

  module _ (b : List ℕ) (a : Accepted policy b) (h : length b ≤ 4194304) where
    ok : is_policy policy ≡ true
    ok = a.is_policy_lem

    text_is : (cs : List Call) → text policy b cs ≡ book_text policy (book policy b cs)
    text_is cs = ap (λ (t : List ℕ). text_after t policy cs) (sym (first_text policy b a))
        ∙ list_text policy ok (first_book policy b) cs (first_sound policy b a h)

    sound-is : (cs : List Call) → Sound policy (book policy b cs)
    sound-is cs = list_sound policy ok (first_book policy b) cs (first_sound policy b a h)

    items_are : (cs : List Call) → items_of (book policy b cs) ≡ items (chars b)
    items_are cs = list-items policy ok (first_book policy b) cs ∙ fresh-items (items (chars b))

    join_is : (cs : List Call) → join (items_of (book policy b cs)) ≡ chars b
    join_is cs = ap join (items_are cs) ∙ tiling (chars b)

    call_is : (before : List Call) (c : Call) → call_outcome policy b before c ≡ book_outcome policy (book policy b before) c
    call_is before c = ap (λ (t : List ℕ). mend_call t policy c) (text_is before)
        ∙ call_same policy ok (book policy b before) c (sound-is before)

    accepted-is : (before : List Call) (c : Call) → is_mended (call_outcome policy b before c).answer
        ≡ mends policy (book policy b before) c
    accepted-is before c =
        ap (λ (t : List ℕ). is_mended (mend_call t policy c).answer) (text_is before)
        ∙ accepted-same policy ok (book policy b before) c (sound-is before)

    log_is : (cs : List Call) → Alike (mended_from 0 (book policy b cs)) (given policy b cs)
    log_is cs =
        let B = first_book policy b in
        subst (λ (t : List ℕ). Alike (mended_from 0 (book policy b cs)) (mendings policy t B cs)) (first_text policy b a)
        (alike_trans (list_log policy ok B cs (first_sound policy b a h))
        (alike_of (ap (λ (l : List Mending). mendings policy (book_text policy B) B cs ++ l) (fresh_log policy 0 (items (chars b)))
        ∙ append-nil (mendings policy (book_text policy B) B cs))))

    step-book : (before : List Call) (c : Call) → book policy b (before ++ c ∷ []) ≡ book_step policy (book policy b before) c
    step-book before c = book_append policy ok (first_book policy b) before (c ∷ []) ∙ one_book policy ok (book policy b before) c

    step-text : (before : List Call) (c : Call) → text policy b (before ++ c ∷ [])
        ≡ book_text policy (book_step policy (book policy b before) c)
    step-text before c = text_is (before ++ c ∷ []) ∙ ap (book_text policy) (step-book before c)

    pub list-claim : (cs : List Call) → ListClaim policy b cs
    list-claim cs =
        let E = book policy b cs in
        let S = sound-is cs in
        let O = open_findings policy E in
        record {
          accepted = λ before c e.
              let n = names_iff policy ok (book policy b before) c (sound-is before).base in (
                (λ i. n.0 (sym (accepted-is before c) ∙ i)),
                (λ i. accepted-is before c ∙ n.1 i),
              );
          writes = λ before c e i.
              let D = book policy b before in
              let m : mends policy D c ≡ true = sym (accepted-is before c) ∙ i in
              let t : text policy b (before ++ c ∷ []) ≡ book_text policy (marked policy D c) = step-text before c
              ∙ ap (λ (q : Bool). book_text policy (cond q (marked policy D c) D)) m in
              call_is before c ∙ book-writes policy ok D c m
              ∙ ap (λ (t : List ℕ). record { answer = Ok (length t); buffer = t ++ drop (length t) c.out }) (sym t);
          turned-back = λ before c e i.
              let D = book policy b before in
              let m : mends policy D c ≡ false = sym (accepted-is before c) ∙ i in
              let s : book policy b (before ++ c ∷ []) ≡ D = step-book before c ∙ ap (λ (q : Bool). cond q (marked policy D c) D) m in (
                subst (λ (x : After (Result ℕ Refusal) ℕ). FirstRefusal policy D c x.answer) (sym (call_is before c))
                    (refusal_first policy ok D c (sound-is before).base m),
                ap (λ (x : After (Result ℕ Refusal) ℕ). x.buffer) (call_is before c) ∙ refusal_kept policy ok D c m,
                s,
                text_is (before ++ c ∷ []) ∙ ap (book_text policy) s ∙ sym (text_is before),
              );
          at_first = first_text policy b a;
          after = text_is cs;
          same-items = items_are cs;
          only-findings = S.right;
          as-given = log_is cs;
          places = places_add P 0 0 0 E (omega arith);
          listed = λ table r. list_book policy ok E table S (text_is cs)
              ∙ room-rows (map (open_row P (text policy b cs)) O) table (length O) (length-map O (open_row P (text policy b cs))) r;
          unlisted = λ table r. list_book policy ok E table S (text_is cs)
              ∙ short-rows (map (open_row P (text policy b cs)) O) table (length O) (length-map O (open_row P (text policy b cs))) r;
          listed-bytes = λ table r.
              list_book_bytes policy ok E table S (text_is cs)
              ∙ filled row_numbers row_bytes length_row (omega arith) (map (open_row P (text policy b cs)) O) table
              (sym (length-map O (open_row P (text policy b cs)))) r;
          unlisted-bytes = λ table r.
              list_book_bytes policy ok E table S (text_is cs)
              ∙ not-filled row_numbers row_bytes length_row (omega arith) (map (open_row P (text policy b cs)) O) table
              (sym (length-map O (open_row P (text policy b cs)))) r;
          were-findings = λ o i. subst (Memᴰ (at_first_of o))
              (ap (found (is_finding P) width 0) (items_are cs) ∙ sym (first_found policy b)) (first-finding P 0 0 0 E o i);
          unaltered =
              ap (λ (t : List ℕ). map (seen P t) (findings t policy)) (text_is cs) ∙ seen_same policy ok E S.base
              ∙ ap (λ (t : List ℕ). map (seen P t) (map at_first_of O)) (ap encode_all (join_is cs) ∙ whole policy b a);
          eight-totals =
              ap (λ (t : List ℕ). text_totals t policy ⊕ totals P (mended_items E)) (text_is cs)
              ∙ ap (λ (n : NonCanonicality). n ⊕ totals P (mended_items E))
              (totals_is policy (book_text policy E) ∙ ap (found_totals P) (findings-book policy ok E S.base))
              ∙ split-totals P 0 0 S.right ∙ ap (λ (l : List Item). found_totals P (found (is_finding P) width 0 l)) (items_are cs)
              ∙ ap (found_totals P) (sym (first_found policy b)) ∙ sym (totals_is policy b);
          number =
              omega (
                arith,
                ap (λ (t : List ℕ). accepted_calls (outcomes t policy cs)) (first_text policy b a),
                list-number policy ok (first_book policy b) cs (first_sound policy b a h),
                fresh-number policy 0 (items (chars b)),
                open_number P 0 E,
                ap length (openings_are P 0 0 0 E (omega arith)),
                length-map O at_place,
                ap length (first_found policy b),
              );
          any_order = λ ds i.
              text_is cs ∙ ap encode_all (same_chars P E (book policy b ds) (items_are cs ∙ sym (items_are ds)) S.base.full
              (alike_trans (log_is cs) (alike_trans i (alike_sym (log_is ds)))))
              ∙ sym (text_is ds);
          none_left = λ z. ap (λ (t : List ℕ). findings t policy) (text_is cs) ∙ findings-open policy ok E S.base ∙ ap (map at_place) z;
          by_default = λ z d. text_is cs ∙ ap encode_all
              (default_book P 0 (open_none policy E z) S.right d ∙ ap (format_items P) (items_are cs)) ∙ format_as policy b;
          selectors-number =
              ap (λ (t : List ℕ). selector_count t + removing (totals P (mended_items E)))
              (ap chars (text_is cs) ∙ decoded-book policy ok E S.base)
              ∙ balance_book P E S.base.derived ∙ ap (λ (t : List ℕ). selector_count t + adding (totals P (mended_items E))) (join_is cs);
          others =
              ap (λ (t : List ℕ). strip (chars t)) (text_is cs) ∙ ap strip (decoded-book policy ok E S.base)
              ∙ strip_book P E S.base.derived ∙ ap strip (join_is cs);
          bounded = λ before later e. subst (Accepted policy) (sym (text_is before))
              (accepted-book policy ok (book policy b before) (sound-is before));
        }
