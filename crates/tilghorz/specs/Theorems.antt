-- The theorems about the answer words. They are proved in proofs/Claims.antt.
use Rattle.std.specs.Prelude.{◌≡◌, List, ℕ, ◌/◌, ◌%◌, ◌^◌, ◌<◌, take, Ok}
use Rattle.base.specs.Output.{answer_of}
use Rattle.base.specs.Words.{bytes_of}
use Rattle.base.specs.Refusals.{RefusalRow}
use Rattle.base.specs.Answers.{done, answer_row, found_row, optional_row}
use Rattle.emoji.specs.Unicode.{variation_entry}
use Rattle.emoji.specs.UnicodeData.{unicode_version}
use Rattle.policy.specs.DefaultPolicy.{default_policy}
use Rattle.policy.specs.PolicyBytes.{policy_bytes}
use Rattle.repair.specs.Repair.{repair, repair_row}
use Rattle.policy_sheet.specs.Calls.{read_call, write_call}
use Rattle.policy_migration.specs.Carry.{carry_call}
use Rattle.formatter.specs.Format.{format}
use Rattle.formatter.specs.List.{count_numbers, list_bytes, list_items}
use Rattle.formatter.specs.Mend.{Call, mend_call}
use Rattle.cutting.specs.Cut.{cut_before}
use Rattle.store.specs.Bytes.{begin_call, bytes_after, file_call, release_call, store_bytes, used_call}
use Rattle.store.specs.Calls as Store
use Rattle.policy_change.specs.Bytes.{begun_changing, called_on, changing_totals}
use Rattle.policy_change.specs.Calls as Feed
use Rattle.membership_flips.specs.Flips.{list_tips}
use Rattle.findings_near.specs.Around.{around_row, list_around}
use Rattle.findings_near.specs.Nearest.{give_nearest}
use Rattle.tilghorz.specs.AnswerWord.{HeldBytes, capped_row, word}

-- The words of a C function determine its answers: if two calls return the same word, their answers are equal, whatever the arguments. The
-- top 8 bits of a word are the answer's number, and its low 56 bits are the answer's value.
pub record WordsDetermine {I A : Type 0} (row : A → RefusalRow) (answer : I → A) : Type 0 where
  pub same : (i j : I) → word (row (answer i)) ≡ word (row (answer j)) → answer i ≡ answer j
  pub number : (i : I) → word (row (answer i)) / 2 ^ 56 ≡ (row (answer i)).number
  pub value : (i : I) → word (row (answer i)) % 2 ^ 56 ≡ (row (answer i)).value

-- The words of each C function determine its answers. In order: formatting, listing findings, mending, listing items, the default policy,
-- a variation entry, repairing, beginning a feed, a piece or an end of a feed or a change of its policy, the totals of a feed, reading a
-- sheet, writing a sheet, listing the flips that tip a text, the findings around a stretch, the nearest finding, filing into a store,
-- carrying a policy over, the largest cut at or below an offset.
unfoldable pub WordsDetermineAnswers : Type 0
WordsDetermineAnswers =
    WordsDetermine optional_row (λ (c : List ℕ × List ℕ × List ℕ). (format c.0 c.1 c.2).answer)
    × WordsDetermine answer_row (λ (c : List ℕ × List ℕ × List ℕ). (list_bytes c.0 c.1 c.2).answer)
    × WordsDetermine answer_row (λ (c : List ℕ × List ℕ × Call). (mend_call c.0 c.1 c.2).answer)
    × WordsDetermine answer_row (λ (c : List ℕ × List ℕ). (list_items c.0 c.1).answer)
    × WordsDetermine answer_row (λ (out : List ℕ). answer_of (policy_bytes default_policy) out)
    × WordsDetermine found_row variation_entry
    × WordsDetermine repair_row (λ (c : List ℕ × List ℕ). (repair c.0 c.1).answer)
    × WordsDetermine answer_row (λ (c : List ℕ × List ℕ). (begun_changing c.0 c.1).answer)
    × WordsDetermine answer_row (λ (c : List ℕ × Feed.Call). (called_on c.0 c.1).answer)
    × WordsDetermine answer_row (λ (c : List ℕ × List ℕ). answer_of (bytes_of (count_numbers (changing_totals c.0))) c.1)
    × WordsDetermine answer_row (λ (c : List ℕ × List ℕ). (read_call c.0 c.1).answer)
    × WordsDetermine answer_row (λ (c : List ℕ × List ℕ). (write_call c.0 c.1).answer)
    × WordsDetermine answer_row (λ (c : List ℕ × List ℕ × List ℕ). (list_tips c.0 c.1 c.2).answer)
    × WordsDetermine around_row
    (λ (c : List ℕ × List ℕ × ℕ × ℕ × List ℕ × List ℕ). (list_around c.0 c.1 c.2 c.3 c.4 c.5).answer)
    × WordsDetermine optional_row (λ (c : List ℕ × List ℕ × ℕ × List ℕ). (give_nearest c.0 c.1 c.2 c.3).answer)
    × WordsDetermine optional_row
    (λ (c : List ℕ × List ℕ × List ℕ × ℕ × ℕ × List ℕ). (file_call c.0 c.1 c.2 c.3 c.4 c.5).answer)
    × WordsDetermine answer_row (λ (c : List ℕ × List ℕ × List ℕ). (carry_call c.0 c.1 c.2).answer)
    × WordsDetermine found_row (λ (c : HeldBytes × ℕ). cut_before c.0.bytes c.1)

-- The low 28 bits of a word are the first value, and the bits above them are the second. Both are below 2^28.
abbrev pub HasBothValues : ℕ → ℕ → ℕ → Type 0
HasBothValues w first second = (first < 2 ^ 28) × (second < 2 ^ 28) × (w % 2 ^ 28 ≡ first) × (w / 2 ^ 28 ≡ second)

-- A word with two values has both: the length of a repaired text and the number of replacements; the number of findings inside a stretch
-- and of those that only share a byte with it.
unfoldable pub WordsHaveBothValues : Type 0
WordsHaveBothValues =
    ((text out : List ℕ) (len replaced : ℕ) → (repair text out).answer ≡ Ok (record { len = len; replaced = replaced })
    → HasBothValues (word (repair_row (repair text out).answer)) len replaced)
    × ((text policy : List ℕ) (from to : ℕ) (inner outer : List ℕ) (inside sharing : ℕ)
    → (list_around text policy from to inner outer).answer ≡ Ok (record { inside = inside; sharing = sharing })
    → HasBothValues (word (around_row (list_around text policy from to inner outer).answer)) inside sharing)

-- A word has the number and the value of a row.
pub record HasRow (w : ℕ) (r : RefusalRow) : Type 0 where
  pub number : w / 2 ^ 56 ≡ r.number
  pub value : w % 2 ^ 56 ≡ r.value

-- The words of a store's other calls have the numbers and values of their answers: of beginning a store of less than 2^56 bytes; of a
-- release, and of what a client uses, after every list of calls on a store begun new.
unfoldable pub StoreWordsHaveValues : Type 0
StoreWordsHaveValues =
    ((capacity : ℕ) (reserves store : List ℕ) → capacity < 2 ^ 56
    → HasRow (word (capped_row (answer_row (begin_call capacity reserves store).answer)))
    (answer_row (begin_call capacity reserves store).answer))
    × ((capacity : ℕ) (reserves store : List ℕ) → capacity < 2 ^ 64 → (begin_call capacity reserves store).answer ≡ Ok store_bytes
    → (xs : List Store.Call)
    → let bs = bytes_after (take store_bytes (begin_call capacity reserves store).buffer) xs in
    ((c : ℕ) → HasRow (word (capped_row (answer_row (used_call bs c)))) (answer_row (used_call bs c)))
    × ((c n : ℕ) → HasRow (word (capped_row (answer_row (release_call bs c n).answer))) (answer_row (release_call bs c n).answer)))

-- The word of the tables' version: its number is 0, "done", and its value is the version.
unfoldable pub WordHasVersion : Type 0
WordHasVersion = (word (done unicode_version) / 2 ^ 56 ≡ 0) × (word (done unicode_version) % 2 ^ 56 ≡ unicode_version)
