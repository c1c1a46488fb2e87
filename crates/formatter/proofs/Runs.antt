-- A list of calls on a text agrees with the same list on its book: on the texts, on the number of accepted calls and on the mendings.
use mathlib.Core.Path.{◌≡◌, refl, ap, sym, ◌∙◌}
use mathlib.Core.Bool.{Bool, true, false, cond}
use mathlib.Core.List.{List, [], ◌∷◌, ◌++◌, append_assoc, map}
use Prim.Native.Nat.{ℕ, suc, ◌+◌}
use native.Mathlib.Omega.{arith}
use native.Mathlib.Nat.{zero-add}
use Rattle.policy.specs.declared.Policy.{Policy}
use Rattle.policy.specs.PolicyBytes.{is_policy, policy_of}
use Rattle.formatter.specs.Book.{
  Entry,
  Mending,
  book_after,
  book_step,
  book_text,
  items_of,
  marked,
  mending_of,
  mends,
  open_finding_at,
  open_findings,
}
use Rattle.formatter.specs.Demand3.{Alike, accepted_calls, is_mended, mended_from, mendings}
use Rattle.analysis.specs.Decisions.{meaning}
use Rattle.formatter.specs.Mend.{Call, mend_call, outcomes, text_after}
use Rattle.formatter.proofs.Marks.{opens, opens_mark}
use Rattle.formatter.proofs.Alike.{alike-join, alike_of, alike_refl, alike-swap, alike_trans}
use Rattle.formatter.proofs.Order.{log_mark}
use Rattle.formatter.proofs.Calls.{Sound, accepted-same, found_at, found-open, marked-is, next-text, step-items, step-sound}

module _ (policy : List ℕ) (ok : is_policy policy ≡ true) where
  abbrev P : Policy
  P = policy_of policy

  -- ---- a list of calls

  pub list_text : (es : List Entry) (cs : List Call) → Sound policy es → text_after (book_text policy es) policy cs
      ≡ book_text policy (book_after policy es cs)
  unfolding text_after book_after
  list_text es [] h = refl
  list_text es (c ∷ cs) h = ap (λ (t : List ℕ). text_after t policy cs) (next-text policy ok es c h)
      ∙ list_text (book_step policy es c) cs (step-sound policy ok es c h)

  pub list-items : (es : List Entry) (cs : List Call) → items_of (book_after policy es cs) ≡ items_of es
  unfolding book_after
  list-items es [] = refl
  list-items es (c ∷ cs) = list-items (book_step policy es c) cs ∙ step-items policy ok es c

  pub list_sound : (es : List Entry) (cs : List Call) → Sound policy es → Sound policy (book_after policy es cs)
  unfolding book_after
  list_sound es [] h = h
  list_sound es (c ∷ cs) h = list_sound (book_step policy es c) cs (step-sound policy ok es c h)

  step_opens : (es : List Entry) (c : Call) (b : Bool) → mends policy es c ≡ b
      → cond b (suc (opens P (cond b (marked policy es c) es))) (opens P (cond b (marked policy es c) es)) ≡ opens P es
  step_opens es c true e =
      ap (λ (l : List Entry). suc (opens P l)) (marked-is policy ok es c)
      ∙ sym (opens_mark P 0 c.offset (map meaning c.decisions) es (found_at policy ok es c e).item (found-open policy ok es c e))
  step_opens es c false e = refl

  pub list-number : (es : List Entry) (cs : List Call) → Sound policy es
      → accepted_calls (outcomes (book_text policy es) policy cs) + opens P
      (book_after policy es cs) ≡ opens P es
  unfolding outcomes book_after
  list-number es [] h = zero-add (opens P es)
  list-number es (c ∷ cs) h =
      let m = mends policy es c in
      let n = accepted_calls (outcomes (book_text policy (book_step policy es c)) policy cs) in
      let a : accepted_calls (outcomes (book_text policy es) policy (c ∷ cs)) ≡ cond m (suc n) n =
      ap (λ (t : List ℕ). cond (is_mended (mend_call (book_text policy es) policy c).answer) (suc (accepted_calls (outcomes t policy cs)))
      (accepted_calls (outcomes t policy cs))) (next-text policy ok es c h)
      ∙ ap (λ (b : Bool). cond b (suc n) n) (accepted-same policy ok es c h) in
      ap (λ (k : ℕ). k + opens P (book_after policy (book_step policy es c) cs)) a
      ∙ add m n (opens P (book_after policy (book_step policy es c) cs)) (opens P (book_step policy es c))
      (list-number (book_step policy es c) cs (step-sound policy ok es c h))
      ∙ step_opens es c m refl
    where
      add : (b : Bool) (n m k : ℕ) → n + m ≡ k → cond b (suc n) n + m ≡ cond b (suc k) k
      add true n m k e = omega arith
      add false n m k e = e

  -- After one call, the mendings of the book are those before it, with that of the call if it was accepted.
  step_log : (es : List Entry) (c : Call) (b : Bool)
      → Alike (mended_from 0 (cond b (marked policy es c) es))
      (cond b (mending_of (map meaning c.decisions) (open_finding_at c.offset (open_findings policy es))) [] ++ mended_from 0 es)
  step_log es c true = log_mark P 0 0 0 c.offset (map meaning c.decisions) es
  step_log es c false = alike_refl (mended_from 0 es)

  pub list_log : (es : List Entry) (cs : List Call) → Sound policy es
      → Alike (mended_from 0 (book_after policy es cs)) (mendings policy (book_text policy es) es cs ++ mended_from 0 es)
  unfolding book_after mendings
  list_log es [] h = alike_refl (mended_from 0 es)
  list_log es (c ∷ cs) h =
      let fs = book_step policy es c in
      let named = mending_of (map meaning c.decisions) (open_finding_at c.offset (open_findings policy es)) in
      let a = cond (mends policy es c) named [] in
      let r = mendings policy (book_text policy fs) fs cs in
      let m = mended_from 0 es in
      let e : a ++ r ≡ mendings policy (book_text policy es) es (c ∷ cs) =
      sym (ap (λ (t : List ℕ). cond (is_mended (mend_call (book_text policy es) policy c).answer) named [] ++ mendings policy t fs cs)
      (next-text policy ok es c h)
      ∙ ap (λ (b : Bool). cond b named [] ++ r) (accepted-same policy ok es c h)) in
      alike_trans (list_log fs cs (step-sound policy ok es c h))
      (alike_trans (alike-join r r (mended_from 0 fs) (a ++ m) (alike_refl r) (step_log es c (mends policy es c)))
      (alike_trans (alike_of (sym (append_assoc r a m)))
      (alike_trans (alike-join (r ++ a) (a ++ r) m m (alike-swap r a) (alike_refl m)) (alike_of (ap (λ (l : List Mending). l ++ m) e)))))

  -- ---- a list made of two

  pub book_append : (es : List Entry) (cs ds : List Call) → book_after policy es (cs ++ ds) ≡ book_after policy (book_after policy es cs) ds
  unfolding book_after
  book_append es [] ds = refl
  book_append es (c ∷ cs) ds = book_append (book_step policy es c) cs ds

  pub one_book : (es : List Entry) (c : Call) → book_after policy es (c ∷ []) ≡ book_step policy es c
  unfolding book_after
  one_book es c = refl
