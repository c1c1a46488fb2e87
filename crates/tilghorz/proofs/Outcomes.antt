-- If a call ends with an outcome, its word and its buffer are those of the outcome.
use Rattle.base.specs.declared.Refusal.{Refusal}
use Rattle.std.specs.Prelude.{Result, Option}
use mathlib.Core.Path.{◌≡◌, ap, ◌∙◌}
use mathlib.Core.List.{List}
use Prim.Native.Nat.{ℕ}
use Rattle.base.specs.Answers.{EndsAs, answer_row, optional_row}
use Rattle.base.specs.Refusals.{After, RefusalRow}
use Rattle.feed.specs.Bytes.{Called, EndsCalled}
use Rattle.findings_near.specs.Around.{AfterBoth, EndsAround, around_row}
use Rattle.findings_near.specs.declared.ListedAround.{ListedAround}
use Rattle.store.specs.Bytes.{EndsFiled, Filing}
use Rattle.tilghorz.specs.AnswerWord.{capped_row, word}

pub outcome : {R : Type 0} (row : R → RefusalRow) {r : R} {out : List ℕ} {a : After R ℕ} {w : ℕ} → EndsAs row a r out → w ≡ word (row r)
    → (w ≡ word (row a.answer)) × (out ≡ a.buffer)
outcome row e f = (f ∙ ap word e.answer.same_row, e.buffer)

-- The same for a call of a feed, which has two buffers.
pub feed_outcome : {r : Result ℕ Refusal} {feed out : List ℕ} {a : Called} {w : ℕ} → EndsCalled a r feed out → w ≡ word (answer_row r)
    → (w ≡ word (answer_row a.answer)) × ((feed ≡ a.feed) × (out ≡ a.out))
feed_outcome e f = (f ∙ ap word e.answer.same_row, (e.feed_bytes_lem, e.out_bytes))

-- The same for the call around a stretch, which has two tables.
pub around_outcome : {r : Result ListedAround Refusal} {inner outer : List ℕ} {a : AfterBoth} {w : ℕ} → EndsAround a r inner outer
    → w ≡ word (around_row r)
    → (w ≡ word (around_row a.answer)) × ((inner ≡ a.inner) × (outer ≡ a.outer))
around_outcome e f = (f ∙ ap word e.answer.same_row, (e.inner_table, e.outer_table))

-- The same for a filing, which has two buffers.
pub file_outcome : {r : Result (Option ℕ) Refusal} {store out : List ℕ} {a : Filing} {w : ℕ} → EndsFiled a r store out
    → w ≡ word (optional_row r)
    → (w ≡ word (optional_row a.answer)) × ((store ≡ a.store) × (out ≡ a.out))
file_outcome e f = (f ∙ ap word e.answer.same_row, (e.store_bytes_lem, e.out_bytes))

-- The same for the other calls of a store, whose values are capped.
pub store_outcome : {r : Result ℕ Refusal} {store : List ℕ} {a : After (Result ℕ Refusal) ℕ} {w : ℕ} → EndsAs answer_row a r store
    → w ≡ word (capped_row (answer_row r)) → (w ≡ word (capped_row (answer_row a.answer))) × (store ≡ a.buffer)
store_outcome e f = (f ∙ ap (λ (x : RefusalRow). word (capped_row x)) e.answer.same_row, e.buffer)
