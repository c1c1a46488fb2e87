-- The three outcomes of `repair`, the bounds of its numbers, and the laws that the proofs of the functions use.
use Rattle.std.specs.Prelude.{Ok, Err, Result}
use mathlib.Core.Path.{◌≡◌, refl, sym, ap, ap₂, ◌∙◌, subst}
use mathlib.Core.Bool.{Bool, true, false, cond}
use mathlib.Core.List.{List, ◌++◌}
use Prim.Native.Nat.{ℕ, ◌+◌, ◌^◌, ◌<◌, ◌≤◌}
use native.Mathlib.Nat.{zero-add}
use native.Mathlib.Omega.{arith}
use lib.ListN.{drop, length, take}
use lib.Seq.{sets, sets-eq, take-append_seam}
use lib.Dec.{leb}
use borrow.Author.Tests.{le-leb, leb-true, lt-leb}
use Rattle.base.specs.Output.{PutAt, room_for}
use Rattle.base.specs.Refusals.{After, refusal_row, text_limit, unwritten, written}
use Rattle.base.specs.declared.Refusal.{Refusal}
use Rattle.base.specs.declared.Refusal.TheVariants.{OutputTooShort, TextTooLong}
use Rattle.repair.specs.Repair.{repair}
use Rattle.repair.specs.Repaired.{repaired, replacements}
use Rattle.repair.specs.Theorems.{RepairCall}
use Rattle.repair.specs.declared.Repaired.{Repaired}
use Rattle.base.proofs.Output.{bytes_put}
use Rattle.repair.proofs.Repairing.{none-bad, stretches, times, well_formed_is}

-- ---- the call as a whole

abbrev by_tests : List ℕ → List ℕ → Bool → Bool → After (Result Repaired Refusal) ℕ
by_tests text out a b =
    cond a
    (cond b (written (Ok (record { len = (length (repaired text)); replaced = (replacements text) })) (repaired text) out)
    (unwritten (Err (OutputTooShort (length (repaired text)))) out))
    (unwritten (Err TextTooLong) out)

repair_is : (text out : List ℕ) {a b : Bool} → leb (length text) text_limit ≡ a → leb (length (repaired text)) (length out) ≡ b
    → repair text out ≡ by_tests text out a b
unfolding repair
repair_is text out p q = ap₂ (λ (a b : Bool). by_tests text out a b) p q

-- The two counts of an answer.
counts : {n k m l : ℕ} → ◌≡◌ {A = Result Repaired Refusal} (Ok (record { len = n; replaced = k })) (Ok (record { len = m; replaced = l }))
    → (n ≡ m) × (k ≡ l)
counts {n} {k} {m} {l} e =
    let r : ◌≡◌ {A = Repaired} (record { len = n; replaced = k }) (record { len = m; replaced = l }) = cc in
    (ap (λ (x : Repaired). x.len) r, ap (λ (x : Repaired). x.replaced) r)

small : (text : List ℕ) (a b : Bool) (out : List ℕ) → leb (length text) text_limit ≡ a → (n k : ℕ)
    → (by_tests text out a b).answer ≡ Ok (record { len = n; replaced = k }) → (n < 2 ^ 28) × (k < 2 ^ 28)
small text true true out p n k e =
    let x = counts e in
    omega (arith, x.0, x.1, leb-true (length text) text_limit p, times (stretches text))
small text true false out p n k e = let z : ◌≡◌ {A = ℕ} 0 1 = cc in absurd (omega arith)
small text false b out p n k e = let z : ◌≡◌ {A = ℕ} 0 1 = cc in absurd (omega arith)

small_refusal : (text : List ℕ) (a b : Bool) (out : List ℕ) → leb (length text) text_limit ≡ a → (r : Refusal)
    → (by_tests text out a b).answer ≡ Err r → (refusal_row r).value < 2 ^ 28
small_refusal text true true out p r e = let z : ◌≡◌ {A = ℕ} 0 1 = cc in absurd (omega arith)
small_refusal text true false out p r e =
    let x : OutputTooShort (length (repaired text)) ≡ r = cc in
    subst (λ (s : Refusal). (refusal_row s).value < 2 ^ 28) x (omega (arith, leb-true (length text) text_limit p, times (stretches text)))
small_refusal text false b out p r e =
    let x : TextTooLong ≡ r = cc in
    subst (λ (s : Refusal). (refusal_row s).value < 2 ^ 28) x (omega arith)

front : (text : List ℕ) (a b : Bool) (out : List ℕ) (n k : ℕ) → (by_tests text out a b).answer ≡ Ok (record { len = n; replaced = k })
    → take n (by_tests text out a b).buffer ≡ repaired text
front text true true out n k e =
    let x = (counts e).0 in
    let rest = drop (length (repaired text)) out in
    ap (λ (m : ℕ). take m (repaired text ++ rest)) (sym x) ∙ take-append_seam (repaired text) rest
front text true false out n k e = let z : ◌≡◌ {A = ℕ} 0 1 = cc in absurd (omega arith)
front text false b out n k e = let z : ◌≡◌ {A = ℕ} 0 1 = cc in absurd (omega arith)

pub the_call : (text out : List ℕ) → RepairCall text out
the_call text out = record {
  long = λ h. repair_is text out (lt-leb (length text) text_limit h) refl;
  short = λ h l. repair_is text out (le-leb (length text) text_limit h) (lt-leb (length (repaired text)) (length out) l);
  done = λ h l. repair_is text out (le-leb (length text) text_limit h) (le-leb (length (repaired text)) (length out) l);
  small = λ n k e. small text (leb (length text) text_limit) (leb (length (repaired text)) (length out)) out refl n k
      (ap (λ (x : After (Result Repaired Refusal) ℕ). x.answer) (sym (repair_is text out refl refl)) ∙ e);
  small_refusal = λ r e. small_refusal text (leb (length text) text_limit) (leb (length (repaired text)) (length out)) out refl r
      (ap (λ (x : After (Result Repaired Refusal) ℕ). x.answer) (sym (repair_is text out refl refl)) ∙ e);
  room = λ h l. ap (λ (x : After (Result Repaired Refusal) ℕ). x.answer)
      (repair_is text out (le-leb (length text) text_limit h)
      (le-leb (length (repaired text)) (length out) (omega (arith, times (stretches text)))));
}

-- The bytes that a call has written.
pub wrote : (text out : List ℕ) (n k : ℕ) → (repair text out).answer ≡ Ok (record { len = n; replaced = k })
    → take n (repair text out).buffer ≡ repaired text
wrote text out n k e =
    let is = repair_is text out refl refl in
    ap (λ (x : After (Result Repaired Refusal) ℕ). take n x.buffer) is
    ∙ front text (leb (length text) text_limit) (leb (length (repaired text)) (length out)) out n k
    (ap (λ (x : After (Result Repaired Refusal) ℕ). x.answer) (sym is) ∙ e)

-- ---- for the proofs of the functions: each outcome, with the numbers that the code has

pub too_long : (text out : List ℕ) → text_limit < length text → record { answer = Err TextTooLong; buffer = out } ≡ repair text out
too_long text out h = sym ((the_call text out).long h)

module _ (text out : List ℕ) (h : length text ≤ text_limit) where
  pub too_short : (n : ℕ) → n ≡ length (repaired text) → length out < n
      → record { answer = Err (OutputTooShort n); buffer = out } ≡ repair text out
  too_short n e l =
      ap (λ (k : ℕ). unwritten (Err (OutputTooShort k)) out) e ∙ sym ((the_call text out).short h (omega arith))

  pub done : (n k : ℕ) → n ≡ length (repaired text) → k ≡ replacements text → n ≤ length out → {after : List ℕ} {r : ℕ}
      → PutAt out 0 (repaired text) after r → record { answer = Ok (record { len = n; replaced = k }); buffer = after } ≡ repair text out
  done n k e q l {after} p =
      let a : Ok (record { len = n; replaced = k }) ≡ Ok (record { len = (length (repaired text)); replaced = (replacements text) }) =
      ap₂ (λ (x y : ℕ). Ok (record { len = x; replaced = y })) e q in
      let b : after ≡ repaired text ++ drop (length (repaired text)) out =
      p.bytes ∙ sets-eq (repaired text) out 0 (omega arith)
      ∙ ap (λ (k : ℕ). repaired text ++ drop k out) (zero-add (length (repaired text))) in
      (λ i. record { answer = a i; buffer = b i }) ∙ sym ((the_call text out).done h (omega arith))

  -- the text has no bad place, and is copied
  pub copied : (n k : ℕ) → n ≡ length (repaired text) → k ≡ replacements text → k ≡ 0 → n ≤ length out → {after : List ℕ}
      → after ≡ cond (room_for text out 0) (sets out 0 text) out
      → record { answer = Ok (record { len = n; replaced = k }); buffer = after } ≡ repair text out
  copied n k e q z l {after} w =
      let s : text ≡ repaired text = (well_formed_is (none-bad (stretches text) (sym q ∙ z))).text in
      let p = bytes_put out after 0 text (omega (arith, ap length s)) w in
      done n k e q l (subst (λ (t : List ℕ). PutAt out 0 t after (0 + length text)) s p)
