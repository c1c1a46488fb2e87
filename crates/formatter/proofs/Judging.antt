-- The tests 5, 6 and 8 of a mending call: what a call that passes them writes, and that the book's test of a call is the same.
use Rattle.std.specs.Prelude.{Ok, Err, Result, Option, Some, None}
use mathlib.Core.Path.{◌≡◌, refl, ap, sym, ◌∙◌}
use mathlib.Core.Bool.{Bool, true, false, cond, not, ◌&&◌, true≢false, false≢true}
use mathlib.Core.List.{List, [], ◌∷◌, ◌++◌, map}
use Prim.Native.Nat.{ℕ, suc, ◌+◌, ◌≤◌, ◌<◌}
use native.Mathlib.Omega.{arith}
use lib.Dec.{eqb, leb}
use lib.ListN.{length}
use borrow.Author.Tests.{eq-eqb, eqb-true, le-leb, leb-false, leb-true}
use Rattle.policy.specs.declared.Policy.{Policy}
use Rattle.policy.specs.PolicyBytes.{policy_of}
use Rattle.scanner.specs.Items.{Item}
use Rattle.formatter.specs.Book.{
  Entry,
  OpenFinding,
  all_binary,
  at_place,
  book_text,
  marked,
  mends,
  mends_finding,
  open_finding_at,
  open_findings,
  place,
}
use Rattle.formatter.specs.Demand3.{Each, and_each, is_mended, no_more}
use Rattle.analysis.specs.Decisions.{bad_decision, decisions_refusal, judge, wanted}
use Rattle.analysis.specs.Findings.{finding_at}
use Rattle.formatter.specs.Mend.{Call}
use Rattle.base.specs.Refusals.{After, unwritten, or_else, written}
use Rattle.base.specs.declared.Refusal.{Refusal}
use Rattle.base.specs.declared.Refusal.TheVariants.{BadDecision, OutputTooShort, WrongNumberOfDecisions}

-- ---- decisions

pub bad-none : (n : ℕ) (ds : List ℕ) → bad_decision n ds ≡ None → Each (λ (d : ℕ). d ≤ 1) ds
unfolding bad_decision
bad-none n [] e = no_more
bad-none n (d ∷ ds) e = go (leb d 1) refl e (bad-none (suc n) ds)
  where
    go : (b : Bool) → leb d 1 ≡ b → cond b (bad_decision (suc n) ds) (Some (BadDecision n)) ≡ None
        → (bad_decision (suc n) ds ≡ None → Each (λ (d : ℕ). d ≤ 1) ds) → Each (λ (d : ℕ). d ≤ 1) (d ∷ ds)
    go true f e h = and_each (leb-true d 1 f) (h e)
    go false f e h = let z : ◌≡◌ {A = ℕ} 0 1 = cc in absurd (omega arith)

none-bad : (n : ℕ) {ds : List ℕ} → Each (λ (d : ℕ). d ≤ 1) ds → bad_decision n ds ≡ None
unfolding bad_decision
none-bad n no_more = refl
none-bad n (and_each {x = d} {xs = ds} h hs) =
    ap (λ (b : Bool). cond b (bad_decision (suc n) ds) (Some (BadDecision n))) (le-leb d 1 h) ∙ none-bad (suc n) hs

-- There is a decision above 1, and all decisions before it are 0 or 1.
pub record Bad (n : ℕ) (ds : List ℕ) (r : Refusal) : Type 0 where
  pub before : List ℕ
  pub bad : ℕ
  pub after : List ℕ
  pub whole : ds ≡ before ++ bad ∷ after
  pub fine : Each (λ (d : ℕ). d ≤ 1) before
  pub above : 1 < bad
  pub index : r ≡ BadDecision (n + length before)

pub some-bad : (n : ℕ) (ds : List ℕ) (r : Refusal) → bad_decision n ds ≡ Some r → Bad n ds r
unfolding bad_decision
some-bad n [] r e = let z : ◌≡◌ {A = ℕ} 0 1 = cc in absurd (omega arith)
some-bad n (d ∷ ds) r e = go (leb d 1) refl e (some-bad (suc n) ds r)
  where
    go : (b : Bool) → leb d 1 ≡ b → cond b (bad_decision (suc n) ds) (Some (BadDecision n)) ≡ Some r
        → (bad_decision (suc n) ds ≡ Some r → Bad (suc n) ds r) → Bad n (d ∷ ds) r
    go true f e h =
        let i = h e in
        record {
          before = d ∷ i.before;
          bad = i.bad;
          after = i.after;
          whole = ap (λ (l : List ℕ). d ∷ l) i.whole;
          fine = and_each (leb-true d 1 f) i.fine;
          above = i.above;
          index = i.index ∙ ap BadDecision (omega arith);
        }
    go false f e h =
        let z : BadDecision n ≡ r = cc in
        let i : n ≡ n + 0 = omega arith in
        record { before = []; bad = d; after = ds; whole = refl; fine = no_more; above = leb-false d 1 f; index = sym z ∙ ap BadDecision i }

-- ---- a call that passes

pub record Passes (p : Policy) (o : Option Item) (ds r out : List ℕ) : Type 0 where
  pub item : Item
  pub found_it : o ≡ Some item
  pub as_many : length ds ≡ wanted p item
  pub valid : Each (λ (d : ℕ). d ≤ 1) ds
  pub fits : length r ≤ length out

-- The outcome of a call, by the answers of the tests 5, 6 and 8.
abbrev pub tested : Bool → ℕ → Option Refusal → Bool → List ℕ → List ℕ → After (Result ℕ Refusal) ℕ
tested a n q b r out =
    or_else (cond (not a) (Some (WrongNumberOfDecisions n)) q) (λ (f : Refusal). unwritten (Err f) out)
    (cond b (written (Ok (length r)) r out) (unwritten (Err (OutputTooShort (length r))) out))

module _ (p : Policy) where
  pub passes-written : {o : Option Item} {ds r out : List ℕ} → Passes p o ds r out → judge p o ds r out ≡ written (Ok (length r)) r out
  unfolding judge decisions_refusal
  passes-written {o} {ds} {r} {out} h =
      let n = wanted p h.item in
      ap (λ (o : Option Item). judge p o ds r out) h.found_it
      ∙ ap (λ (a : Bool). tested a n (bad_decision 0 ds) (leb (length r) (length out)) r out) (eq-eqb (length ds) n h.as_many)
      ∙ ap (λ (q : Option Refusal). tested true n q (leb (length r) (length out)) r out) (none-bad 0 h.valid)
      ∙ ap (λ (b : Bool). tested true n None b r out) (le-leb (length r) (length out) h.fits)

  pub mended_passes : (o : Option Item) (ds r out : List ℕ) → is_mended (judge p o ds r out).answer ≡ true → Passes p o ds r out
  unfolding judge decisions_refusal
  mended_passes None ds r out e = absurd (false≢true e)
  mended_passes (Some x) ds r out e = go (eqb (length ds) (wanted p x)) (bad_decision 0 ds) (leb (length r) (length out)) refl refl refl e
    where
      go : (a : Bool) (q : Option Refusal) (b : Bool) → eqb (length ds) (wanted p x) ≡ a → bad_decision 0 ds ≡ q
          → leb (length r) (length out) ≡ b
          → is_mended (tested a (wanted p x) q b r out).answer ≡ true → Passes p (Some x) ds r out
      go true None true f g h e = record {
        item = x;
        found_it = refl;
        as_many = eqb-true _ _ f;
        valid = bad-none 0 ds g;
        fits =
            leb-true _ _ h;
      }
      go true None false f g h e = absurd (false≢true e)
      go true (Some i) b f g h e = absurd (false≢true e)
      go false q b f g h e = absurd (false≢true e)

  -- An accepted call writes the text `r`.
  pub mended_written : (o : Option Item) (ds r out : List ℕ) → is_mended (judge p o ds r out).answer ≡ true → judge p o ds r out
      ≡ written (Ok (length r)) r out
  mended_written o ds r out e = passes-written (mended_passes o ds r out e)

  -- A refused call leaves its buffer as it was.
  pub refused-kept : (o : Option Item) (ds r out : List ℕ) → is_mended (judge p o ds r out).answer ≡ false → (judge p o ds r out).buffer
      ≡ out
  unfolding judge decisions_refusal
  refused-kept None ds r out e = refl
  refused-kept (Some x) ds r out e = go (eqb (length ds) (wanted p x)) (bad_decision 0 ds) (leb (length r) (length out)) e
    where
      go : (a : Bool) (q : Option Refusal) (b : Bool) → is_mended (tested a (wanted p x) q b r out).answer ≡ false
          → (tested a (wanted p x) q b r out).buffer ≡ out
      go true None true e = absurd (true≢false e)
      go true None false e = refl
      go true (Some i) b e = refl
      go false q b e = refl

-- ---- the book's test

abbrev pub item_at : Option OpenFinding → Option Item
item_at None = None
item_at (Some o) = Some o.item

pub opening-finding : (o : ℕ) (os : List OpenFinding) → finding_at o (map at_place os) ≡ item_at (open_finding_at o os)
unfolding finding_at open_finding_at
opening-finding o [] = refl
opening-finding o (x ∷ os) = go (eqb (place x) o) (opening-finding o os)
  where
    go : (b : Bool) → finding_at o (map at_place os) ≡ item_at (open_finding_at o os)
        → cond b (Some x.item) (finding_at o (map at_place os)) ≡ item_at (cond b (Some x) (open_finding_at o os))
    go true h = refl
    go false h = h

abbrev is_none : Option Refusal → Bool
is_none None = true
is_none (Some r) = false

binary_none : (n : ℕ) (ds : List ℕ) → all_binary ds ≡ is_none (bad_decision n ds)
unfolding all_binary bad_decision
binary_none n [] = refl
binary_none n (d ∷ ds) = go (leb d 1) (binary_none (suc n) ds)
  where
    go : (b : Bool) → all_binary ds ≡ is_none (bad_decision (suc n) ds) → b && all_binary ds
        ≡ is_none (cond b (bad_decision (suc n) ds) (Some (BadDecision n)))
    go true h = h
    go false h = refl

module _ (policy : List ℕ) where
  -- The outcome of a call on the book, by the tests.
  abbrev pub book_outcome : List Entry → Call → After (Result ℕ Refusal) ℕ
  book_outcome es c =
      judge (policy_of policy) (finding_at c.offset (map at_place (open_findings policy es))) c.decisions
      (book_text policy (marked policy es c)) c.out

  mends_at : (es : List Entry) (c : Call) (o : Option OpenFinding)
      → mends_finding policy es c o ≡ is_mended
      (judge (policy_of policy) (item_at o) c.decisions (book_text policy (marked policy es c)) c.out).answer
  unfolding mends_finding judge decisions_refusal
  mends_at es c None = refl
  mends_at es c (Some o) =
      let a = eqb (length c.decisions) (wanted (policy_of policy) o.item) in
      let b = leb (length (book_text policy (marked policy es c))) (length c.out) in
      ap (λ (t : Bool). a && (t && b)) (binary_none 0 c.decisions)
      ∙ go a (bad_decision 0 c.decisions) b (wanted (policy_of policy) o.item)
    where
      go : (a : Bool) (q : Option Refusal) (b : Bool) (n : ℕ)
          → a && (is_none q && b) ≡ is_mended (tested a n q b (book_text policy (marked policy es c)) c.out).answer
      go true None true n = refl
      go true None false n = refl
      go true (Some r) b n = refl
      go false q b n = refl

  -- The book says that a call mends exactly if the tests accept the call.
  pub mends_is : (es : List Entry) (c : Call) → mends policy es c ≡ is_mended (book_outcome es c).answer
  mends_is es c =
      mends_at es c (open_finding_at c.offset (open_findings policy es))
      ∙ ap (λ (o : Option Item). is_mended
      (judge (policy_of policy) o c.decisions (book_text policy (marked policy es c)) c.out).answer)
      (sym (opening-finding c.offset (open_findings policy es)))
