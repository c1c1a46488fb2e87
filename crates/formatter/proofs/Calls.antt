-- A call on a book's text has the outcome of the same call on the book, and the text after it is that of the next book.
use Rattle.std.specs.Prelude.{Ok, Err, Result, Option, Some, None}
use mathlib.Core.Path.{◌≡◌, refl, ap, sym, ◌∙◌, subst}
use mathlib.Core.Bool.{Bool, true, false, cond, true≢false}
use mathlib.Core.List.{List, ◌++◌, map}
use Prim.Native.Nat.{ℕ, ◌+◌, ◌*◌, ◌≤◌}
use native.Mathlib.Omega.{arith}
use lib.ListN.{length-map, drop, length, take}
use lib.Seq.{take-append_seam}
use borrow.Author.Tests.{eq-eqb, le-leb}
use Rattle.utf8.specs.Rfc3629.{WellFormed, all_scalar, chars, encode_all, valid_up_to_of}
use Rattle.utf8.proofs.Grammar.{well_formed_whole, whole_well_formed}
use Rattle.utf8.proofs.Texts.{chars-encode_all-alone, encode_all-whole}
use Rattle.policy.specs.declared.Policy.{Policy}
use Rattle.policy.specs.PolicyBytes.{is_policy, policy_of}
use Rattle.scanner.specs.Items.{Item, items, join}
use Rattle.scanner.specs.declared.state.State.TheVariants.{Plain as plain}
use Rattle.scanner.specs.Spans.{Found, found, width}
use Rattle.scanner.proofs.Bytes.{size-width}
use Rattle.scanner.proofs.Tiling.{Filled}
use Rattle.scanner.proofs.Walk.{Chain}
use Rattle.analysis.specs.Analysis.{is_finding, replacement}
use Rattle.formatter.specs.Book.{Entry, at_place, book_chars, book_step, book_text, items_of, marked, mends, open_findings}
use Rattle.formatter.specs.Demand3.{Accepted, is_mended, Each}
use Rattle.formatter.specs.Findings.{findings}
use Rattle.analysis.specs.Decisions.{decisions_refusal, judge, meaning}
use Rattle.analysis.specs.Findings.{finding_at}
use Rattle.formatter.specs.Mend.{Call, exchanged, mend, mend_call, next_from, next_text}
use Rattle.base.specs.Refusals.{After, unwritten, or_else, written}
use Rattle.formatter.specs.Intake.{intake_refusal}
use Rattle.base.specs.declared.Refusal.{Refusal}
use Rattle.formatter.proofs.Books.{scalar_book, size_book}
use Rattle.formatter.proofs.Judging.{Passes, book_outcome, mended_passes, mended_written, mends_is}
use Rattle.formatter.proofs.Marks.{Rights, right_mark}
use Rattle.formatter.proofs.Mending.{Derived, mending, open_found}
use Rattle.formatter.proofs.Passing.{intake_is}
use Rattle.formatter.proofs.Splicing.{mark_items, mark_at, marks_are, openings_are, spliced}

next-kept : (b : List ℕ) (a : Result ℕ Refusal) (o : List ℕ) → is_mended a ≡ false → next_from b a o ≡ b
next-kept b (Ok n) o e = absurd (true≢false e)
next-kept b (Err r) o e = refl

module _ (policy : List ℕ) where
  -- An accepted text passes the tests 1, 2 and 3.
  pub pass_intake : (b : List ℕ) → Accepted policy b → intake_refusal b policy ≡ None
  pass_intake b h =
      intake_is b policy (le-leb (length b) 16777216 h.short) h.is_policy_lem
      (eq-eqb (valid_up_to_of b) (length b) (well_formed_whole h.well_formed))

  abbrev P : Policy
  P = policy_of policy

  -- The items of a book are as the grammar says, and each continues where the last one ended.
  pub record InRow (es : List Entry) : Type 0 where
    pub row : Chain plain (items_of es)
    pub derived : Each Derived (items_of es)
    pub scalar : all_scalar (join (items_of es)) ≡ true
    pub full : Filled (items_of es)

  -- Also, the book's first text is within the limit of a list, and only findings are mended.
  pub record Sound (es : List Entry) : Type 0 where
    pub base : InRow es
    pub small : length (encode_all (join (items_of es))) ≤ 4194304
    pub right : Rights P es

  module _ (ok : is_policy policy ≡ true) where
    pub decoded-book : (es : List Entry) → InRow es → chars (book_text policy es) ≡ book_chars P es
    decoded-book es h = chars-encode_all-alone (book_chars P es) (scalar_book P es h.derived h.scalar)

    pub formed-book : (es : List Entry) → InRow es → WellFormed (book_text policy es)
    formed-book es h = whole_well_formed (book_text policy es) (encode_all-whole (book_chars P es) (scalar_book P es h.derived h.scalar))

    pub four-book : (es : List Entry) → InRow es → length (book_text policy es) ≤ 4 * length (encode_all (join (items_of es)))
    four-book es h = omega (arith, size-width (book_chars P es), size-width (join (items_of es)), size_book P es h.derived)

    pub accepted-book : (es : List Entry) → Sound es → Accepted policy (book_text policy es)
    accepted-book es h = record {
      short = omega (arith, four-book es h.base, h.small);
      is_policy_lem = ok;
      well_formed =
          formed-book es h.base;
    }

    -- The findings of the book's text are the open findings.
    pub findings-book : (es : List Entry) → InRow es → findings (book_text policy es) policy ≡ open_found P 0 es
    unfolding findings
    findings-book es h = ap (λ (t : List ℕ). found (is_finding P) width 0 (items t)) (decoded-book es h) ∙ mending P es h.row

    pub findings-open : (es : List Entry) → InRow es → findings (book_text policy es) policy ≡ map at_place (open_findings policy es)
    findings-open es h = findings-book es h ∙ sym (openings_are P 0 0 0 es (omega arith))

    -- ---- a call

    pub marked-is : (es : List Entry) (c : Call) → marked policy es c ≡ mark_at P 0 c.offset (map meaning c.decisions) es
    marked-is es c = marks_are P 0 0 0 c.offset (map meaning c.decisions) es (omega arith)

    judge-same : (es : List Entry) (c : Call) (o : Option Item) → finding_at c.offset (open_found P 0 es) ≡ o
        → judge P o c.decisions (exchanged (book_text policy es) P c.offset (map meaning c.decisions) o) c.out
        ≡ judge P o c.decisions (book_text policy (marked policy es c)) c.out
    unfolding judge decisions_refusal
    judge-same es c None e = refl
    judge-same es c (Some x) e =
        let ds = map meaning c.decisions in
        let s = spliced P 0 c.offset ds es x e in
        let j : s.offset ≡ c.offset = omega (arith, s.there) in
        ap (λ (r : List ℕ). judge P (Some x) c.decisions r c.out)
        (subst (λ (i : ℕ). take i (book_text policy es) ++ encode_all (replacement P x ds)
        ++ drop (i + length (encode_all x.chars)) (book_text policy es) ≡ book_text policy (mark_at P 0 c.offset ds es)) j s.same
        ∙ ap (book_text policy) (sym (marked-is es c)))

    pub call_same : (es : List Entry) (c : Call) → Sound es → mend_call (book_text policy es) policy c ≡ book_outcome policy es c
    unfolding mend
    call_same es c h =
        let b = book_text policy es in
        let f : Option Item → After (Result ℕ Refusal) ℕ = λ o. judge P o c.decisions (exchanged b P c.offset (map meaning c.decisions) o)
        c.out in
        ap (λ (o : Option Refusal). or_else o (λ (r : Refusal). unwritten (Err r) c.out)
        (f (finding_at c.offset (findings b policy)))) (pass_intake b (accepted-book es h))
        ∙ ap (λ (l : List Found). f (finding_at c.offset l)) (findings-book es h.base)
        ∙ judge-same es c _ refl
        ∙ ap (λ (l : List Found). judge P (finding_at c.offset l) c.decisions (book_text policy (marked policy es c)) c.out)
        (sym (openings_are P 0 0 0 es (omega arith)))

    -- A call is accepted exactly when the book says so.
    pub accepted-same : (es : List Entry) (c : Call) → Sound es → is_mended (mend_call (book_text policy es) policy c).answer
        ≡ mends policy es c
    accepted-same es c h = ap (λ (a : After (Result ℕ Refusal) ℕ). is_mended a.answer) (call_same es c h) ∙ sym (mends_is policy es c)

    -- What an accepted call on the book writes.
    pub book-writes : (es : List Entry) (c : Call) → mends policy es c ≡ true
        → book_outcome policy es c ≡ written (Ok (length (book_text policy (marked policy es c))))
        (book_text policy (marked policy es c))
        c.out
    book-writes es c e =
        mended_written P (finding_at c.offset (map at_place (open_findings policy es))) c.decisions
        (book_text policy (marked policy es c)) c.out (sym (mends_is policy es c) ∙ e)

    next-same : (es : List Entry) (c : Call) (b : Bool) → mends policy es c ≡ b → next_text (book_text policy es) (book_outcome policy es c)
        ≡ book_text policy (cond b (marked policy es c) es)
    next-same es c true e =
        let r = book_text policy (marked policy es c) in
        ap (λ (a : After (Result ℕ Refusal) ℕ). next_text (book_text policy es) a) (book-writes es c e)
        ∙ take-append_seam r (drop (length r) c.out)
    next-same es c false e = next-kept (book_text policy es) (book_outcome policy es c).answer (book_outcome policy es c).buffer
        (sym (mends_is policy es c) ∙ e)

    pub next-text : (es : List Entry) (c : Call) → Sound es → next_text (book_text policy es) (mend_call (book_text policy es) policy c)
        ≡ book_text policy (book_step policy es c)
    next-text es c h = ap (λ (a : After (Result ℕ Refusal) ℕ). next_text (book_text policy es) a) (call_same es c h)
        ∙ next-same es c (mends policy es c) refl

    marked-items : (es : List Entry) (c : Call) → items_of (marked policy es c) ≡ items_of es
    marked-items es c = ap items_of (marked-is es c) ∙ mark_items P 0 c.offset (map meaning c.decisions) es

    pub step-items : (es : List Entry) (c : Call) → items_of (book_step policy es c) ≡ items_of es
    step-items es c = go (mends policy es c)
      where
        go : (b : Bool) → items_of (cond b (marked policy es c) es) ≡ items_of es
        go true = marked-items es c
        go false = refl

    pub row_same : (es fs : List Entry) → items_of fs ≡ items_of es → InRow es → InRow fs
    row_same es fs e h = record {
      row = subst (λ (l : List Item). Chain plain l) (sym e) h.row;
      derived = subst (λ (l : List Item). Each Derived l) (sym e) h.derived;
      scalar = subst (λ (l : List Item). all_scalar (join l) ≡ true) (sym e) h.scalar;
      full = subst (λ (l : List Item). Filled l) (sym e) h.full;
    }

    -- An accepted call finds an open finding, and its decisions and its output pass the tests.
    pub found_at : (es : List Entry) (c : Call) → mends policy es c ≡ true
        → Passes P (finding_at c.offset (map at_place (open_findings policy es))) c.decisions (book_text policy (marked policy es c))
        c.out
    found_at es c e =
        mended_passes P (finding_at c.offset (map at_place (open_findings policy es))) c.decisions (book_text policy (marked policy es c))
        c.out (sym (mends_is policy es c) ∙ e)

    pub found-open : (es : List Entry) (c : Call) (e : mends policy es c ≡ true) → finding_at c.offset (open_found P 0 es)
        ≡ Some (found_at es c e).item
    found-open es c e = ap (finding_at c.offset) (sym (openings_are P 0 0 0 es (omega arith))) ∙ (found_at es c e).found_it

    step_right : (es : List Entry) (c : Call) (b : Bool) → mends policy es c ≡ b → Rights P es → Rights P (cond b (marked policy es c) es)
    step_right es c true e h =
        subst (Rights P) (sym (marked-is es c))
        (right_mark P 0 c.offset (map meaning c.decisions) (found_at es c e).item (found-open es c e)
        (length-map c.decisions meaning ∙ (found_at es c e).as_many) h)
    step_right es c false e h = h

    pub step-sound : (es : List Entry) (c : Call) → Sound es → Sound (book_step policy es c)
    step-sound es c h = record {
      base = row_same es (book_step policy es c) (step-items es c) h.base;
      small = subst (λ (l : List Item). length (encode_all (join l)) ≤ 4194304) (sym (step-items es c)) h.small;
      right = step_right es c (mends policy es c) refl h.right;
    }
