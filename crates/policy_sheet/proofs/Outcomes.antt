-- The outcomes of the two calls, answer by answer.
use Rattle.base.specs.Answers.{answer_row}
use Rattle.std.specs.Prelude.{Ok, Err, Some, None}
use mathlib.Core.Path.{◌≡◌, refl, ap, ◌∙◌}
use mathlib.Core.Bool.{Bool, true, false, cond}
use mathlib.Core.List.{List}
use Prim.Native.Nat.{ℕ, ◌≤◌, ◌<◌}
use native.Mathlib.Omega.{arith}
use lib.Dec.{leb}
use lib.ListN.{length}
use borrow.Author.Tests.{le-leb, leb-true, lt-leb}
use Rattle.base.specs.Output.{answer_of, buffer_of}
use Rattle.base.specs.Refusals.{or_else, text_limit, unwritten, written}
use Rattle.base.specs.declared.Refusal.{Refusal}
use Rattle.base.specs.declared.Refusal.TheVariants.{OutputTooShort, TextTooLong}
use Rattle.policy.specs.PolicyBytes.{is_policy, policy_bytes, policy_fault, policy_of, policy_refusal}
use Rattle.policy.specs.declared.Policy.{Policy}
use Rattle.policy.proofs.Refusals.{fault_value}
use Rattle.policy_sheet.specs.Calls.{after_reading, read_call, write_call, write_result}
use Rattle.policy_sheet.specs.Reader.{SheetReading, is_read, not_a_sheet, not_an_entry, read_sheet}
use Rattle.policy_sheet.specs.Writer.{write_sheet}
use Rattle.policy_sheet.proofs.Lengths.{sheet_few}

-- ---- writing a result

pub result-short : (n : ℕ) (result out : List ℕ) → length result ≡ n → length out < n
    → write_result result out ≡ unwritten (Err (OutputTooShort n)) out
unfolding answer_of buffer_of
result-short n result out e h =
    let t : write_result result out ≡ unwritten (Err (OutputTooShort (length result))) out
    = simp (lt-leb (length result) (length out) (omega arith)) in
    t ∙ ap (λ (k : ℕ). unwritten (Err (OutputTooShort k)) out) e

pub result-done : (n : ℕ) (result out : List ℕ) → length result ≡ n → n ≤ length out
    → write_result result out ≡ written (Ok n) result out
unfolding answer_of buffer_of
result-done n result out e h =
    let t : write_result result out ≡ written (Ok (length result)) result out
    = simp (le-leb (length result) (length out) (omega arith)) in
    t ∙ ap (λ (k : ℕ). written (Ok k) result out) e

result-small : (n : ℕ) (result out : List ℕ) → length result ≤ n → (answer_row (write_result result out).answer).value ≤ n
unfolding answer_of answer_row
result-small n result out h = go (leb (length result) (length out))
  where
    go : (t : Bool) → (answer_row (cond t (Ok (length result)) (Err (OutputTooShort (length result))))).value ≤ n
    go true = h
    go false = h

-- ---- reading

module _ (sheet out : List ℕ) where
  pub read_long : 16777217 ≤ length sheet → read_call sheet out ≡ unwritten (Err TextTooLong) out
  unfolding read_call
  read_long h = simp (lt-leb (length sheet) text_limit (omega arith))

  pub read_as : (a : SheetReading) → length sheet ≤ 16777216 → read_sheet sheet ≡ a → read_call sheet out ≡ after_reading a out
  unfolding read_call
  read_as a h e =
      let t : read_call sheet out ≡ after_reading (read_sheet sheet) out = simp (le-leb (length sheet) text_limit h) in
      t ∙ ap (λ (a : SheetReading). after_reading a out) e

  pub read_small : ((n : ℕ) → read_sheet sheet ≡ not_a_sheet n → n ≤ length sheet)
      → ((n : ℕ) → read_sheet sheet ≡ not_an_entry n → n ≤ length sheet)
      → ((p : Policy) → read_sheet sheet ≡ is_read p → length (policy_bytes p) ≡ 200)
      → (answer_row (read_call sheet out).answer).value ≤ 16777216
  unfolding read_call answer_row
  read_small f g h = go (leb (length sheet) text_limit) (read_sheet sheet) refl refl
    where
      go : (t : Bool) (a : SheetReading) → leb (length sheet) text_limit ≡ t → read_sheet sheet ≡ a
          → (answer_row (cond t (after_reading a out) (unwritten (Err TextTooLong) out)).answer).value ≤ 16777216
      go false a e q = omega arith
      go true (is_read p) e q = result-small 16777216 (policy_bytes p) out (omega (arith, h p q))
      go true (not_a_sheet n) e q = omega (arith, f n q, leb-true (length sheet) text_limit e)
      go true (not_an_entry n) e q = omega (arith, g n q, leb-true (length sheet) text_limit e)

-- ---- writing

module _ (policy out : List ℕ) where
  pub write-refused : (r : Refusal) → policy_refusal policy ≡ Some r → write_call policy out ≡ unwritten (Err r) out
  unfolding write_call
  write-refused r e = simp e

  pub write-result : is_policy policy ≡ true → write_call policy out ≡ write_result (write_sheet (policy_of policy)) out
  unfolding write_call policy_refusal
  write-result e = simp e

  pub write-small : (answer_row (write_call policy out).answer).value ≤ 9916
  unfolding write_call policy_refusal answer_row
  write-small = go (is_policy policy)
    where
      go : (t : Bool) → (answer_row (or_else (cond t None (Some (policy_fault policy))) (λ (r : Refusal). unwritten (Err r) out)
          (write_result (write_sheet (policy_of policy)) out)).answer).value ≤ 9916
      go true = result-small 9916 (write_sheet (policy_of policy)) out (sheet_few (policy_of policy))
      go false = omega (arith, fault_value policy)
