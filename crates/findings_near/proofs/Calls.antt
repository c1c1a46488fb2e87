-- The two calls by the refusal of the intake, and the claims on them.
use Rattle.std.specs.Prelude.{Ok, Err, Result, Option, Some, None}
use mathlib.Core.Path.{◌≡◌, refl, ap, ap₂, sym, ◌∙◌}
use mathlib.Core.Bool.{Bool, true, false, cond}
use mathlib.Core.List.{List}
use Prim.Native.Nat.{ℕ, ◌/◌, ◌^◌, ◌≤◌, ◌<◌}
use native.Mathlib.Omega.{arith}
use lib.Dec.{leb}
use lib.ListN.{length}
use borrow.Author.Tests.{le-leb, lt-leb}
use Rattle.base.specs.Lists.{filter}
use Rattle.base.specs.Refusals.{After, or_else, text_limit, unwritten, written}
use Rattle.base.specs.Tables.{rows_bytes}
use Rattle.base.specs.declared.Refusal.{Refusal}
use Rattle.base.specs.declared.Refusal.TheVariants.{TableTooShort}
use Rattle.analysis.specs.declared.types.Finding.{Finding}
use Rattle.formatter.specs.Findings.{listed}
use Rattle.formatter.specs.Intake.{intake_refusal}
use Rattle.formatter.specs.List.{row_bytes, row_numbers}
use Rattle.formatter.proofs.Passing.{passed-accepted}
use Rattle.findings_near.specs.Around.{AfterBoth, fill_both, inside, inside_of, list_around, only_shares, refuses, sharing_of, stretch_end}
use Rattle.findings_near.specs.declared.ListedAround.{ListedAround}
use Rattle.findings_near.specs.Nearest.{give_nearest, nearest, nearest_bytes, write_nearest}
use Rattle.findings_near.specs.Theorems.{AroundCall, IsNearest, NearestCall}
use Rattle.findings_near.proofs.Distances.{best_nearest}
use Rattle.findings_near.proofs.Order.{few-listed, text_ordered}

-- ---- around a stretch

abbrev inside_said : Result ListedAround Refusal → ℕ
inside_said (Ok a) = a.inside
inside_said (Err r) = 0

abbrev sharing_said : Result ListedAround Refusal → ℕ
sharing_said (Ok a) = a.sharing
sharing_said (Err r) = 0

module _ (text policy : List ℕ) (from to : ℕ) (inner outer : List ℕ) where
  abbrev filled_by : Option Refusal → AfterBoth
  filled_by o = or_else o (refuses inner outer) (fill_both (inside_of text policy from to) (sharing_of text policy from to) inner outer)

  pub around_refused : (r : Refusal) → intake_refusal text policy ≡ Some r
      → refuses inner outer r ≡ list_around text policy from to inner outer
  unfolding list_around
  around_refused r e = sym (ap filled_by e)

  pub around_passed : intake_refusal text policy ≡ None
      → fill_both (inside_of text policy from to) (sharing_of text policy from to) inner outer ≡ list_around text policy from to inner outer
  unfolding list_around
  around_passed e = sym (ap filled_by e)

  -- The stretch is cut at the end of the text first.
  pub cut_end : {end : ℕ} → end ≡ stretch_end text to
      → fill_both (filter (inside from end) (listed text policy)) (filter (only_shares from end) (listed text policy)) inner outer
      ≡ fill_both (inside_of text policy from to) (sharing_of text policy from to) inner outer
  unfolding inside_of sharing_of
  cut_end e =
      let R = listed text policy in
      ap (λ (n : ℕ). fill_both (filter (inside from n) R) (filter (only_shares from n) R) inner outer) e

-- A small value: a number of findings of a text within the limit.
pub few-inside : (text policy : List ℕ) (from to : ℕ) → length (inside_of text policy from to) ≤ length text
unfolding inside_of
few-inside text policy from to = few-listed text policy (inside from (stretch_end text to))

pub few_sharing : (text policy : List ℕ) (from to : ℕ) → length (sharing_of text policy from to) ≤ length text
unfolding sharing_of
few_sharing text policy from to = few-listed text policy (only_shares from (stretch_end text to))

module _ (text policy : List ℕ) (from to : ℕ) (inner outer : List ℕ) where
  abbrev I : List Finding
  I = inside_of text policy from to

  abbrev S : List Finding
  S = sharing_of text policy from to

  -- The outcome after the intake, by the tests of the two tables.
  abbrev filled_if : Bool → Bool → AfterBoth
  filled_if a b =
      cond a
      (cond b
      (record {
        answer = Ok (record { inside = (length I); sharing = (length S) });
        inner = (written (length I) (rows_bytes row_numbers I) inner).buffer;
        outer = (written (length S) (rows_bytes row_numbers S) outer).buffer;
      })
      (refuses inner outer (TableTooShort (length S))))
      (refuses inner outer (TableTooShort (length I)))

  filled_is : {a b : Bool} → intake_refusal text policy ≡ None → leb (length I) (length inner / row_bytes) ≡ a
      → leb (length S) (length outer / row_bytes) ≡ b → list_around text policy from to inner outer ≡ filled_if a b
  unfolding fill_both
  filled_is e f g = sym (around_passed text policy from to inner outer e) ∙ ap₂ filled_if f g

  small-listed : (n k : ℕ) → (list_around text policy from to inner outer).answer ≡ Ok (record { inside = n; sharing = k })
      → (n < 2 ^ 28) × (k < 2 ^ 28)
  small-listed n k e = go (intake_refusal text policy) refl
    where
      listed_small : (a b : Bool) → length text ≤ text_limit → (filled_if a b).answer ≡ Ok (record { inside = n; sharing = k })
          → (n < 2 ^ 28) × (k < 2 ^ 28)
      listed_small true true h z =
          let i : length I ≡ n = ap inside_said z in
          let s : length S ≡ k = ap sharing_said z in
          (omega (arith, few-inside text policy from to), omega (arith, few_sharing text policy from to))
      listed_small true false h z = let y : ◌≡◌ {A = ℕ} 0 1 = cc in absurd (omega arith)
      listed_small false b h z = let y : ◌≡◌ {A = ℕ} 0 1 = cc in absurd (omega arith)

      go : (o : Option Refusal) → intake_refusal text policy ≡ o → (n < 2 ^ 28) × (k < 2 ^ 28)
      go (Some r) f =
          let z : ◌≡◌ {A = Result ListedAround Refusal} (Err r) (Ok (record { inside = n; sharing = k })) =
          ap (λ (a : AfterBoth). a.answer) (around_refused text policy from to inner outer r f) ∙ e in
          let y : ◌≡◌ {A = ℕ} 0 1 = cc in
          absurd (omega arith)
      go None f =
          listed_small (leb (length I) (length inner / row_bytes)) (leb (length S) (length outer / row_bytes))
          (passed-accepted text policy f).short (ap (λ (a : AfterBoth). a.answer) (sym (filled_is f refl refl)) ∙ e)

  pub around_call : AroundCall text policy from to inner outer
  around_call = record {
    intake = λ r e. sym (around_refused text policy from to inner outer r e);
    inner_short = λ e h. filled_is e (lt-leb (length I) (length inner / row_bytes) h) refl;
    outer_short = λ e h k. filled_is e (le-leb (length I) (length inner / row_bytes) h) (lt-leb (length S) (length outer / row_bytes) k);
    done = λ e h k. filled_is e (le-leb (length I) (length inner / row_bytes) h) (le-leb (length S) (length outer / row_bytes) k);
    small = small-listed;
  }

-- ---- the nearest finding

module _ (text policy : List ℕ) (o : ℕ) (row : List ℕ) where
  abbrev given_by : Option Refusal → After (Result (Option ℕ) Refusal) ℕ
  given_by x = or_else x (λ (r : Refusal). unwritten (Err r) row) (write_nearest o (nearest o (listed text policy)) row)

  pub near_refused : (r : Refusal) → intake_refusal text policy ≡ Some r
      → unwritten (Err r) row ≡ give_nearest text policy o row
  unfolding give_nearest
  near_refused r e = sym (ap given_by e)

  pub near_passed : intake_refusal text policy ≡ None → {g : Option Finding} → g ≡ nearest o (listed text policy)
      → write_nearest o g row ≡ give_nearest text policy o row
  unfolding give_nearest
  near_passed e h = ap (λ (g : Option Finding). write_nearest o g row) h ∙ sym (ap given_by e)

  -- The nearest finding is the one that the definition gives.
  is_given : (f : Finding) → IsNearest text policy o f → Some f ≡ nearest o (listed text policy)
  is_given f n =
      sym (best_nearest o (text_ordered text policy) f (record { among = n.a_finding; least = n.least; earliest = n.earliest }))

  pub nearest-call : NearestCall text policy o row
  unfolding nearest write_nearest
  nearest-call = record {
    intake = λ r e. sym (near_refused r e);
    no_finding_lem = λ e h. sym (near_passed e (sym (ap (nearest o) h)));
    short = λ f e n h. sym (near_passed e (is_given f n)) ∙ simp (lt-leb nearest_bytes (length row) h);
    done = λ f e n h. sym (near_passed e (is_given f n)) ∙ simp (le-leb nearest_bytes (length row) h);
  }
