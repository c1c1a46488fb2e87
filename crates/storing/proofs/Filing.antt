-- Filing by formatting's answer and a charge: the outcome in each case.
use Rattle.std.specs.Option.{is_some, unwrap_or}
use Rattle.std.specs.Prelude.{Ok, Err, Some, None, Result, Option, ⊤}
use mathlib.Core.Path.{◌≡◌, refl, ap, sym, ◌∙◌}
use mathlib.Core.Bool.{Bool, true, false, cond, ◌&&◌, true≢false}
use mathlib.Core.List.{List, ◌++◌}
use Prim.Native.Nat.{ℕ, ◌+◌, ◌≤◌}
use native.Mathlib.Omega.{arith}
use lib.Dec.{eqb, leb, ltb}
use lib.ListN.{drop, length}
use borrow.Author.Tests.{le-leb, leb-true, lt-ltb}
use Rattle.base.proofs.Answering.{answers}
use Rattle.base.proofs.Output.{wrote}
use Rattle.base.specs.Answers.{EndsAs, check_row}
use Rattle.base.specs.Output.{PutAt, buffer_of}
use Rattle.base.specs.Refusals.{After, checked, or_else, text_limit}
use Rattle.base.specs.Sums.{most}
use Rattle.base.specs.declared.Refusal.{Refusal}
use Rattle.base.specs.declared.Refusal.TheVariants.{BadClientOrNumber, DoesNotFit}
use Rattle.utf8.specs.Rfc3629.{valid_up_to_of}
use Rattle.policy.specs.PolicyBytes.{is_policy, policy_of}
use Rattle.text_pass.specs.Changes.{formatted_from}
use Rattle.formatter.specs.Format.{format, formatted, same_bytes}
use Rattle.formatter.proofs.CellView.{cell_view}
use Rattle.formatter.proofs.Passing.{checked-passed, checked_refused}
use Rattle.store.specs.Bytes.{
  EndsFiled,
  Filing,
  charge,
  charge_call,
  charge_refusal,
  file_answer_of,
  file_bytes,
  file_call,
  is_bad,
  left_of,
}
use Rattle.store.specs.Calls.{after_format, charge_of, is_refusal, output_by}
use Rattle.store.proofs.Formats.{changed_means, format_small, format_tests_lem, tests, unchanged_means}

-- After formatting, the answer is that of the charge, or formatting's own.
after-charge : (fa : Result (Option ℕ) Refusal) (bad fits : Bool) (l : ℕ) → is_refusal fa ≡ false
    → after_format bad fits l fa ≡ or_else (cond bad (Some BadClientOrNumber) (cond fits None (Some (DoesNotFit l)))) Err fa
after-charge (Ok None) true fits l h = refl
after-charge (Ok None) false true l h = refl
after-charge (Ok None) false false l h = refl
after-charge (Ok (Some n)) true fits l h = refl
after-charge (Ok (Some n)) false true l h = refl
after-charge (Ok (Some n)) false false l h = refl
after-charge (Err r) bad fits l h = absurd (true≢false h)

charged_store : (c n k : ℕ) (bs : List ℕ) (a : Result (Option ℕ) Refusal) → is_refusal a ≡ false → charge c n k bs ≡ file_bytes c n k bs a
charged_store c n k bs (Ok None) h = refl
charged_store c n k bs (Ok (Some l)) h = refl
charged_store c n k bs (Err r) h = absurd (true≢false h)

written_output : (o out : List ℕ) (a : Result (Option ℕ) Refusal) → is_refusal a ≡ false → o ≡ output_by o out a
written_output o out (Ok None) h = refl
written_output o out (Ok (Some l)) h = refl
written_output o out (Err r) h = absurd (true≢false h)

ok-accepted : (m : Option ℕ) → is_refusal (Ok m) ≡ false
ok-accepted None = refl
ok-accepted (Some l) = refl

-- ---- what `write_formatted` writes

module _ (text policy out : List ℕ) where
  abbrev F : List ℕ
  F = formatted text policy

  abbrev cells : List ℕ
  cells = formatted_from (policy_of policy) text 0

  cells_are : cells ≡ F
  cells_are = sym (cell_view text policy).0

  -- If formatting changes the text, the text is within the limit, the formatted text fits, and the output has it at its front.
  pub record Written : Type 0 where
    pub short : length text ≤ text_limit
    pub fits : length cells ≤ length out
    pub buffer : (format text policy out).buffer ≡ F ++ drop (length F) out

  pub changed_written : (l : ℕ) → (format text policy out).answer ≡ Ok (Some l) → Written
  changed_written l e =
      go (leb (length text) text_limit) refl (is_policy policy) (eqb (valid_up_to_of text) (length text)) (same_bytes F text)
      (leb (length F) (length out)) refl (format_tests_lem text policy out)
    where
      go : (a : Bool) → leb (length text) text_limit ≡ a → (b f same fits : Bool) → leb (length F) (length out) ≡ fits
          → format text policy out ≡ tests text policy a b f same fits out → Written
      go false p b f same fits q h = let z : ◌≡◌ {A = ℕ} 0 1 = cc in absurd (omega arith)
      go true p false f same fits q h = let z : ◌≡◌ {A = ℕ} 0 1 = cc in absurd (omega arith)
      go true p true false same fits q h = let z : ◌≡◌ {A = ℕ} 0 1 = cc in absurd (omega arith)
      go true p true true true fits q h = let z : ◌≡◌ {A = ℕ} 0 1 = cc in absurd (omega arith)
      go true p true true false true q h = record {
        short = leb-true (length text) text_limit p;
        fits = omega (arith, leb-true (length F) (length out) q, ap length cells_are);
        buffer = ap (λ (x : After (Result (Option ℕ) Refusal) ℕ). x.buffer) h;
      }
      go true p true true false false q h = let z : ◌≡◌ {A = ℕ} 0 1 = cc in absurd (omega arith)

  pub put_written : Written → (out' : List ℕ) (r : ℕ) → PutAt out 0 cells out' r → out' ≡ (format text policy out).buffer
  unfolding buffer_of
  put_written w out' r p =
      (wrote refl w.fits p).buffer
      ∙ ap (λ (t : Bool). cond t (cells ++ drop (length cells) out) out) (le-leb (length cells) (length out) w.fits)
      ∙ ap (λ (xs : List ℕ). xs ++ drop (length xs) out) cells_are ∙ sym w.buffer

-- ---- the outcome

module _ (bs text policy : List ℕ) (c n : ℕ) (out : List ℕ) where
  abbrev fa : Result (Option ℕ) Refusal
  fa = (format text policy out).answer

  abbrev k : ℕ
  k = charge_of text policy

  abbrev outcome : Result (Option ℕ) Refusal → Filing
  outcome a = record { answer = a; store = file_bytes c n k bs a; out = output_by (format text policy out).buffer out a }

  -- The contract, from the answer of the filing.
  ends : (a : Result (Option ℕ) Refusal) → a ≡ file_answer_of bs text policy c n out → {bs' out' : List ℕ} → bs' ≡ (outcome a).store
      → out' ≡ (outcome a).out → EndsFiled (file_call bs text policy c n out) a bs' out'
  unfolding file_call
  ends a q y z =
      let f = ap outcome q in
      record { answer = answers q; store_bytes_lem = y ∙ ap Filing.store f; out_bytes = z ∙ ap Filing.out f }

  -- Formatting refuses.
  pub file_refused : (r : Refusal) → Err r ≡ fa → EndsFiled (file_call bs text policy c n out) (Err r) bs out
  unfolding file_answer_of
  file_refused r e = ends (Err r) (ap (after_format (is_bad bs c n) (leb k (left_of bs c)) (left_of bs c)) e) refl refl

  module _ (m : Result (Option ℕ) Refusal) (em : m ≡ fa) (accepted : is_refusal m ≡ false) {b : ℕ} (same-charge : b ≡ k)
      {r : Result ⊤ Refusal} {bs' : List ℕ}
      (g : EndsAs check_row (charge_call bs c n b) r bs') where
    abbrev o : Option Refusal
    o = charge_refusal bs c n k

    answered : or_else o Err m ≡ file_answer_of bs text policy c n out
    unfolding file_answer_of charge_refusal
    answered =
        sym (after-charge m (is_bad bs c n) (leb k (left_of bs c)) (left_of bs c) accepted
        ∙ ap
        (λ (t : Bool). or_else (cond (is_bad bs c n) (Some BadClientOrNumber) (cond t None (Some (DoesNotFit (left_of bs c))))) Err m)
        (fits (leb k (left_of bs c))))
        ∙ ap (after_format (is_bad bs c n) (leb k (left_of bs c)) (left_of bs c)) em
      where
        fits : (t : Bool) → t ≡ (t && ltb k most)
        fits true = sym (lt-ltb k most (omega (arith, format_small text policy out (ap is_refusal (sym em) ∙ accepted))))
        fits false = refl

    abbrev charged : After (Result ⊤ Refusal) ℕ
    charged = record { answer = checked o; buffer = or_else o (λ (x : Refusal). bs) (charge c n k bs) }

    charge_is : charge_call bs c n b ≡ charged
    unfolding charge_call
    charge_is = ap (charge_call bs c n) same-charge

    said : r ≡ checked o
    said = g.answer.same ∙ ap (λ (x : After (Result ⊤ Refusal) ℕ). x.answer) charge_is

    left : bs' ≡ or_else o (λ (x : Refusal). bs) (charge c n k bs)
    left = g.buffer ∙ ap (λ (x : After (Result ⊤ Refusal) ℕ). x.buffer) charge_is

    -- The charge is refused.
    not-charged : (x : Refusal) → r ≡ Err x → EndsFiled (file_call bs text policy c n out) (Err x) bs' out
    not-charged x q =
        let s = checked_refused o x (sym said ∙ q) in
        ends (Err x) (sym (ap (λ (y : Option Refusal). or_else y Err m) s) ∙ answered)
        (left ∙ ap (λ (y : Option Refusal). or_else y (λ (x : Refusal). bs) (charge c n k bs)) s) refl

    -- The charge is made, and the output is formatting's.
    is-filed : r ≡ Ok tt → (out' : List ℕ) → out' ≡ (format text policy out).buffer
        → EndsFiled (file_call bs text policy c n out) m bs' out'
    is-filed q out' y =
        let s = checked-passed o (sym said ∙ q) in
        ends m (sym (ap (λ (y : Option Refusal). or_else y Err m) s) ∙ answered)
        (left ∙ ap (λ (y : Option Refusal). or_else y (λ (x : Refusal). bs) (charge c n k bs)) s ∙ charged_store c n k bs m accepted)
        (y ∙ written_output (format text policy out).buffer out m accepted)

  -- The length that is charged, from formatting's answer.
  length_is : (m : Option ℕ) → Ok m ≡ fa → unwrap_or m (length text) ≡ k
  length_is None e = (unchanged_means text policy out (sym e)).0
  length_is (Some l) e = changed_means text policy out l (sym e)

  pub charge-refused : (m : Option ℕ) → Ok m ≡ fa → {b : ℕ} → b ≡ unwrap_or m (length text) → {r : Result ⊤ Refusal} {bs' : List ℕ}
      → EndsAs check_row (charge_call bs c n b) r bs' → (x : Refusal) → r ≡ Err x
      → EndsFiled (file_call bs text policy c n out) (Err x) bs' out
  charge-refused m e q g = not-charged (Ok m) e (ok-accepted m) (q ∙ length_is m e) g

  -- The text needs no change.
  pub filed-unchanged : (m : Option ℕ) → Ok m ≡ fa → {b : ℕ} → b ≡ unwrap_or m (length text) → {r : Result ⊤ Refusal} {bs' : List ℕ}
      → EndsAs check_row (charge_call bs c n b) r bs' → r ≡ Ok tt → false ≡ is_some m
      → EndsFiled (file_call bs text policy c n out) (Ok m) bs' out
  filed-unchanged None e q g h s =
      is-filed (Ok None) e refl (q ∙ length_is None e) g h out (sym (unchanged_means text policy out (sym e)).1)
  filed-unchanged (Some l) e q g h s = absurd (true≢false (sym s))

  -- The text changes.
  pub filed-changed : (m : Option ℕ) → Ok m ≡ fa → {b : ℕ} → b ≡ unwrap_or m (length text) → {r : Result ⊤ Refusal} {bs' : List ℕ}
      → EndsAs check_row (charge_call bs c n b) r bs' → r ≡ Ok tt → true ≡ is_some m → (out' : List ℕ) (t : ℕ)
      → (length text ≤ text_limit → 0 + length (cells text policy out) ≤ length out → PutAt out 0 (cells text policy out) out' t)
      → EndsFiled (file_call bs text policy c n out) (Ok m) bs' out'
  filed-changed None e q g h s out' t p = absurd (true≢false s)
  filed-changed (Some l) e q g h s out' t p =
      let w = changed_written text policy out l (sym e) in
      is-filed (Ok (Some l)) e refl (q ∙ length_is (Some l) e) g h out'
      (put_written text policy out w out' t (p w.short (omega (arith, w.fits))))
