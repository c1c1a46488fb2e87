-- Mending and the call that writes a replacement alone agree: on the finding, on the tests before that of the output, and on the bytes.
use Rattle.std.specs.Prelude.{Ok, Err, Result, Option, Some, None}
use mathlib.Core.Path.{◌≡◌, refl, ap, sym, ◌∙◌}
use mathlib.Core.Bool.{Bool, true, false, cond}
use mathlib.Core.List.{List, ◌++◌, map}
use Prim.Native.Nat.{ℕ, ◌+◌, ◌≤◌}
use native.Mathlib.Omega.{arith}
use lib.Dec.{eqb, leb}
use lib.ListN.{drop, length, take}
use lib.Seq.{take-append_seam}
use Rattle.base.specs.Refusals.{After, unwritten, or_else, refusal_table, text_limit, written}
use Rattle.base.specs.declared.Refusal.{Refusal}
use Rattle.base.specs.declared.Refusal.TheVariants.{OutputTooShort}
use Rattle.utf8.specs.Rfc3629.{encode_all, valid_up_to_of}
use Rattle.policy.specs.declared.Policy.{Policy}
use Rattle.policy.specs.PolicyBytes.{is_policy, policy_fault, policy_of}
use Rattle.scanner.specs.Items.{Item}
use Rattle.scanner.specs.TextCheck.{text_refusal}
use Rattle.scanner.proofs.TextTests.{text_is}
use Rattle.analysis.specs.Analysis.{replacement}
use Rattle.analysis.specs.Decisions.{decisions_refusal, judge, meaning, wanted, write_out}
use Rattle.analysis.specs.Findings.{finding_at}
use Rattle.analysis.specs.ItemAt.{replace_at, replacement_bytes}
use Rattle.formatter.specs.Demand3.{is_mended}
use Rattle.formatter.specs.Findings.{findings}
use Rattle.formatter.specs.Intake.{intake_refusal}
use Rattle.formatter.specs.Mend.{exchanged, mend}
use Rattle.formatter.specs.Theorems.{MendsByReplacement, MendsTestAlike}
use Rattle.formatter.proofs.Judging.{mended_written}
use Rattle.formatter.proofs.Passing.{intake_is, with_policy}

-- ---- what a successful call writes

-- A successful call has passed the first tests.
passed_tests : (o : Option Refusal) (out : List ℕ) (next : After (Result ℕ Refusal) ℕ) {n : ℕ}
    → (or_else o (λ (r : Refusal). unwritten (Err r) out) next).answer ≡ Ok n
    → or_else o (λ (r : Refusal). unwritten (Err r) out) next ≡ next
passed_tests None out next e = refl
passed_tests (Some r) out next e = let z : ◌≡◌ {A = ℕ} 0 1 = cc in absurd (omega arith)

-- The front of a successful call's buffer is the text that it had to write.
front-written : (p : Policy) (x : Option Item) (ds r out : List ℕ) {n : ℕ} {a : After (Result ℕ Refusal) ℕ}
    → a ≡ judge p x ds r out → a.answer ≡ Ok n → take n a.buffer ≡ r
front-written p x ds r out {n} {a} j e =
    let w : a ≡ written (Ok (length r)) r out =
    j ∙ mended_written p x ds r out (ap (λ (b : After (Result ℕ Refusal) ℕ). is_mended b.answer) (sym j) ∙ ap is_mended e) in
    let m : Ok n ≡ Ok (length r) = sym e ∙ ap (λ (b : After (Result ℕ Refusal) ℕ). b.answer) w in
    let l : n ≡ length r = cc in
    ap (λ (k : ℕ). take k a.buffer) l ∙ ap (λ (b : After (Result ℕ Refusal) ℕ). take (length r) b.buffer) w
    ∙ take-append_seam r (drop (length r) out)

pub by_replacement : MendsByReplacement
unfolding MendsByReplacement mend replace_at findings replacement_bytes
by_replacement text policy offset decisions out room x n m f e g =
    let p = policy_of policy in
    let ds = map meaning decisions in
    let R = encode_all (replacement p x ds) in
    let E = exchanged text p offset ds (Some x) in
    let by : Option Item → After (Result ℕ Refusal) ℕ = λ y. judge p y decisions (exchanged text p offset ds y) out in
    let alone : Option Item → After (Result ℕ Refusal) ℕ = λ y. judge p y decisions (replacement_bytes p y ds) room in
    let whole = passed_tests (intake_refusal text policy) out (by (finding_at offset (findings text policy))) e ∙ ap by f in
    let part = passed_tests (text_refusal text) room (alone (finding_at offset (findings text policy))) g ∙ ap alone f in
    let a : take m (replace_at p text offset decisions room).buffer ≡ R = front-written p (Some x) decisions R room part g in
    front-written p (Some x) decisions E out whole e
    ∙ ap (λ (l : List ℕ). take offset text ++ l ++ drop (offset + length (encode_all x.chars)) text) (sym a)

-- ---- the tests

-- If the policy is accepted, the first tests are those of the text.
text_tests : (text policy : List ℕ) → is_policy policy ≡ true → intake_refusal text policy ≡ text_refusal text
text_tests text policy q =
    let a = leb (length text) text_limit in
    let f = eqb (valid_up_to_of text) (length text) in
    intake_is text policy {a = a} {f = f} refl q refl ∙ with_policy a f (policy_fault policy) text ∙ sym (text_is text refl refl)

module _ (p : Policy) (r : Refusal) (h : (refusal_table r).number ≤ 6) where
  -- A refusal other than 8 does not depend on the output, nor on the text to be written.
  judged-alike : (x : Option Item) (ds a b out room : List ℕ) → (judge p x ds a out).answer ≡ Err r
      → (judge p x ds b room).answer ≡ Err r
  unfolding judge
  judged-alike None ds a b out room e = e
  judged-alike (Some x) ds a b out room e = go (decisions_refusal (wanted p x) ds) e
    where
      fits : (t : Bool) → (cond t (written (Ok (length a)) a out) (unwritten (Err (OutputTooShort (length a))) out)).answer
          ≡ Err r
          → ⊥
      fits true e = let z : ◌≡◌ {A = ℕ} 0 1 = cc in omega arith
      fits false e = let z : OutputTooShort (length a) ≡ r = cc in omega (arith, ap (λ (f : Refusal). (refusal_table f).number) z)

      go : (q : Option Refusal) → (or_else q (λ (f : Refusal). unwritten (Err f) out) (write_out a out)).answer ≡ Err r
          → (or_else q (λ (f : Refusal). unwritten (Err f) room) (write_out b room)).answer ≡ Err r
      go (Some f) e = e
      go None e = absurd (fits (leb (length a) (length out)) e)

  tested-alike : (o : Option Refusal) (x : Option Item) (ds a b out room : List ℕ)
      → (or_else o (λ (f : Refusal). unwritten (Err f) out) (judge p x ds a out)).answer ≡ Err r
      → (or_else o (λ (f : Refusal). unwritten (Err f) room) (judge p x ds b room)).answer ≡ Err r
  tested-alike (Some f) x ds a b out room e = e
  tested-alike None x ds a b out room e = judged-alike x ds a b out room e

pub test_alike : MendsTestAlike
unfolding MendsTestAlike mend replace_at findings
test_alike text policy offset decisions out room r q h =
    let p = policy_of policy in
    let x = finding_at offset (findings text policy) in
    let ds = map meaning decisions in
    let W = exchanged text p offset ds x in
    let R = replacement_bytes p x ds in
    let by : Option Refusal → After (Result ℕ Refusal) ℕ = λ o. or_else o (λ (f : Refusal). unwritten (Err f) out)
    (judge p x decisions W out) in
    let t = ap (λ (o : Option Refusal). (by o).answer) (text_tests text policy q) in (
      λ e. tested-alike p r h (text_refusal text) x decisions W R out room (sym t ∙ e),
      λ e. t ∙ tested-alike p r h (text_refusal text) x decisions R W room out e,
    )
