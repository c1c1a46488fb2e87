-- A call on the book is accepted exactly as document 01 says, and else gets the first refusal that fits.
use Rattle.std.specs.Prelude.{Err, Result, Option, Some, None}
use mathlib.Core.Path.{◌≡◌, refl, ap, sym, ◌∙◌, subst}
use mathlib.Core.Logic.{◌↔◌}
use mathlib.Core.Bool.{Bool, true, false, true≢false}
use mathlib.Core.List.{List, map, Memᴰ}
use Prim.Native.Nat.{ℕ}
use native.Mathlib.Omega.{arith}
use native.Mathlib.Nat.{zero-add}
use lib.Dec.{eqb, leb}
use lib.ListN.{length}
use borrow.Author.Tests.{eqb-false, eqb-true, leb-false}
use Rattle.policy.specs.declared.Policy.{Policy}
use Rattle.policy.specs.PolicyBytes.{is_policy, policy_of}
use Rattle.scanner.specs.Items.{Item}
use Rattle.formatter.specs.Book.{Entry, OpenFinding, at_place, book_text, marked, mends, open_finding_at, open_findings, place}
use Rattle.formatter.specs.Demand3.{OpenAt, FirstRefusal, MendsOpenFinding, above-one, few-or-many, is_mended, no_finding_lem, no_room}
use Rattle.analysis.specs.Decisions.{bad_decision, decisions_refusal, judge, wanted}
use Rattle.analysis.specs.Findings.{finding_at}
use Rattle.formatter.specs.Mend.{Call}
use Rattle.base.specs.Refusals.{After}
use Rattle.base.specs.declared.Refusal.{Refusal}
use Rattle.base.specs.declared.Refusal.TheVariants.{BadDecision}
use Rattle.formatter.proofs.Judging.{
  Passes,
  bad-none,
  book_outcome,
  item_at,
  mends_is,
  opening-finding,
  passes-written,
  refused-kept,
  some-bad,
  tested,
}
use Rattle.formatter.proofs.Order.{Hit, opening_hit, opening-place}
use Rattle.formatter.proofs.Calls.{InRow, found_at}

module _ (policy : List ℕ) (ok : is_policy policy ≡ true) where
  abbrev P : Policy
  P = policy_of policy

  -- ---- acceptance and refusals

  opening_of : (es : List Entry) (o : OpenFinding) → InRow policy es → Memᴰ o (open_findings policy es)
      → open_finding_at (place o) (open_findings policy es) ≡ Some o
  opening_of es o h m = opening-place P 0 0 0 es o (omega arith) h.full m

  pub names_iff : (es : List Entry) (c : Call) → InRow policy es → (mends policy es c ≡ true) ↔ MendsOpenFinding policy es c
  names_iff es c h = (there, back)
    where
      O : List OpenFinding
      O = open_findings policy es

      hit : (o : Option OpenFinding) → open_finding_at c.offset O ≡ o → (x : Item) → item_at o ≡ Some x → (y : OpenFinding)
          × Hit c.offset O y × (y.item ≡ x)
      hit None e x i = let z : ◌≡◌ {A = ℕ} 0 1 = cc in absurd (omega arith)
      hit (Some y) e x i = let z : y.item ≡ x = cc in (y, opening_hit c.offset O y e, z)

      there : mends policy es c ≡ true → MendsOpenFinding policy es c
      there e =
          let a = found_at policy ok es c e in
          let i = hit (open_finding_at c.offset O) refl a.item (sym (opening-finding c.offset O) ∙ a.found_it) in
          record {
            finding = i.0;
            at = record { is_open = i.1.among; there = sym i.1.there };
            as_many = a.as_many ∙ ap (λ (x : Item). wanted P x) (sym i.2);
            valid = a.valid;
            room = a.fits;
          }

      back : MendsOpenFinding policy es c → mends policy es c ≡ true
      back n =
          let q : finding_at c.offset (map at_place O) ≡ Some n.finding.item =
          opening-finding c.offset O ∙ ap (λ (o : ℕ). item_at (open_finding_at o O)) n.at.there
          ∙ ap item_at (opening_of es n.finding h n.at.is_open) in
          let z : Passes P (finding_at c.offset (map at_place O)) c.decisions (book_text policy (marked policy es c)) c.out =
          record { item = n.finding.item; found_it = q; as_many = n.as_many; valid = n.valid; fits = n.room } in
          mends_is policy es c ∙ ap (λ (a : After (Result ℕ Refusal) ℕ). is_mended a.answer) (passes-written P z)

  late : (es : List Entry) (c : Call) → InRow policy es → (o : Option OpenFinding) → open_finding_at c.offset (open_findings policy es) ≡ o
      → is_mended (judge P (item_at o) c.decisions (book_text policy (marked policy es c)) c.out).answer ≡ false
      → FirstRefusal policy es c (judge P (item_at o) c.decisions (book_text policy (marked policy es c)) c.out).answer
  unfolding judge decisions_refusal
  late es c h None e i =
      no_finding_lem (λ o q.
      let y : open_finding_at c.offset (open_findings policy es) ≡ Some o = ap (λ (n : ℕ). open_finding_at n (open_findings policy es))
      q.there ∙ opening_of es o h q.is_open in
      let z : ◌≡◌ {A = ℕ} 0 1 = cc in
      omega arith)
  late es c h (Some o) e i = go (eqb (length ds) n) (bad_decision 0 ds) (leb (length r) (length c.out)) refl refl refl i
    where
      ds : List ℕ
      ds = c.decisions

      r : List ℕ
      r = book_text policy (marked policy es c)

      n : ℕ
      n = wanted P o.item

      there : OpenAt policy es c o
      there = let H = opening_hit c.offset (open_findings policy es) o e in record { is_open = H.among; there = sym H.there }

      go : (a : Bool) (q : Option Refusal) (b : Bool) → eqb (length ds) n ≡ a → bad_decision 0 ds ≡ q → leb (length r) (length c.out) ≡ b
          → is_mended (tested a n q b r c.out).answer ≡ false → FirstRefusal policy es c (tested a n q b r c.out).answer
      go true None true f j l i = absurd (true≢false i)
      go true None false f j l i = no_room o there (eqb-true (length ds) n f) (bad-none 0 ds j) (leb-false (length r) (length c.out) l)
      go true (Some m) b f j l i =
          let d = some-bad 0 ds m j in
          let z : m ≡ BadDecision (length d.before) = d.index ∙ ap BadDecision (zero-add (length d.before)) in
          subst (λ (m : Refusal). FirstRefusal policy es c (Err m)) (sym z)
          (above-one o there (eqb-true (length ds) n f) d.before d.after d.bad d.whole d.fine d.above)
      go false q b f j l i = few-or-many o there (eqb-false (length ds) n f)

  pub refusal_first : (es : List Entry) (c : Call) → InRow policy es → mends policy es c ≡ false
      → FirstRefusal policy es c (book_outcome policy es c).answer
  refusal_first es c h i =
      let J : Option Item → After (Result ℕ Refusal) ℕ = λ o. judge P o c.decisions (book_text policy (marked policy es c)) c.out in
      let q = opening-finding c.offset (open_findings policy es) in
      subst (λ (o : Option Item). FirstRefusal policy es c (J o).answer) (sym q)
      (late es c h (open_finding_at c.offset (open_findings policy es)) refl
      (ap (λ (o : Option Item). is_mended (J o).answer) (sym q) ∙ sym (mends_is policy es c) ∙ i))

  pub refusal_kept : (es : List Entry) (c : Call) → mends policy es c ≡ false → (book_outcome policy es c).buffer ≡ c.out
  refusal_kept es c i =
      refused-kept P (finding_at c.offset (map at_place (open_findings policy es))) c.decisions (book_text policy (marked policy es c))
      c.out (sym (mends_is policy es c) ∙ i)
