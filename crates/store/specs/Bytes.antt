-- A store in lent bytes: its words, and what each call answers and leaves in the lent buffers, for any bytes. For a store begun new and
-- handed on from call to call, specs/Theorems.antt (EveryStoreInBytes) says what this amounts to.
use Rattle.std.specs.Prelude.{
  ◌≡◌,
  Bool,
  cond,
  not,
  ◌&&◌,
  ◌||◌,
  List,
  [],
  ◌∷◌,
  ◌++◌,
  ℕ,
  ◌+◌,
  ◌*◌,
  ◌-◌,
  ◌%◌,
  ◌^◌,
  ◌<◌,
  eqb,
  leb,
  ltb,
  get_or,
  length,
  replicate,
  Ok,
  Err,
  Some,
  None,
  Result,
  Option,
  ⊤,
}
use Rattle.std.proofs.lemmas.List.Edits.{sets}
use Rattle.base.specs.Answers.{Answers, optional_row}
use Rattle.base.specs.Refusals.{After, checked, or_else, unwritten, written}
use Rattle.base.specs.Sums.{most, sum_below}
use Rattle.base.specs.declared.Refusal.{Refusal}
use Rattle.base.specs.declared.Refusal.TheVariants.{BadClientOrNumber, DoesNotFit, OutputTooShort}
use Rattle.base.specs.Words.{bytes_of, word_at, word_bytes}
use Rattle.policy.specs.PolicyBytes.{numbers_of}
use Rattle.formatter.specs.Format.{format}
use Rattle.store.specs.Store.{Filed, Store, clients, is_at, is_place, reserve, used}
use Rattle.store.specs.Calls.{Answer, Call, after_format, charge_of, file, of_file, of_release, output_by, release}

-- ---- the words

-- A store is 4,129 words of 8 bytes, lowest byte first: the capacity; the 16 reserves; what each of the 16 clients uses; for each client
-- 256 words, one for each number: 0 if it is not in use, else the charge and 1.
abbrev pub store_bytes : ℕ
store_bytes = 33032

abbrev pub reserve_word : ℕ → ℕ
reserve_word c = 1 + c

abbrev pub used_word : ℕ → ℕ
used_word c = 17 + c

abbrev pub place_word : ℕ → ℕ → ℕ
place_word c n = 33 + 256 * c + n

abbrev pub put_word : ℕ → ℕ → List ℕ → List ℕ
put_word k w bs = sets bs (8 * k) (word_bytes w)

-- ---- what is left, by the words

abbrev pub overflow_of : List ℕ → ℕ → ℕ
overflow_of bs c = word_at (used_word c) bs - word_at (reserve_word c) bs

abbrev pub common_left_of : List ℕ → ℕ
common_left_of bs = (word_at 0 bs - sum_below clients (λ (c : ℕ). word_at (reserve_word c) bs)) - sum_below clients (overflow_of bs)

abbrev pub left_of : List ℕ → ℕ → ℕ
left_of bs c = (word_at (reserve_word c) bs - word_at (used_word c) bs) + common_left_of bs

-- The bytes have the length of a store, and client and number are within their limits.
abbrev pub has_place : List ℕ → ℕ → ℕ → Bool
has_place bs c n = eqb (length bs) store_bytes && is_place c n

abbrev pub is_taken : List ℕ → ℕ → ℕ → Bool
is_taken bs c n = not (eqb (word_at (place_word c n) bs) 0)

-- Test 13 of a filing.
abbrev pub is_bad : List ℕ → ℕ → ℕ → Bool
is_bad bs c n = not (has_place bs c n) || is_taken bs c n

-- ---- a charge

-- A charge of k bytes under a number: the word of the number, and the word of what the client uses.
abbrev pub charge : ℕ → ℕ → ℕ → List ℕ → List ℕ
charge c n k bs = put_word (place_word c n) (k + 1) (put_word (used_word c) (word_at (used_word c) bs + k) bs)

-- The refusal of a charge: 13, and then 14. A charge of 2^64 - 1 bytes does not fit a word; no text has this length.
unfoldable pub charge_refusal : List ℕ → ℕ → ℕ → ℕ → Option Refusal
charge_refusal bs c n k =
    cond (is_bad bs c n) (Some BadClientOrNumber) (cond (leb k (left_of bs c) && ltb k most) None (Some (DoesNotFit (left_of bs c))))

-- A charge as a call of its own: the second half of a filing.
unfoldable pub charge_call : List ℕ → ℕ → ℕ → ℕ → After (Result ⊤ Refusal) ℕ
charge_call bs c n k =
    record { answer = checked (charge_refusal bs c n k); buffer = or_else (charge_refusal bs c n k) (λ r. bs) (charge c n k bs) }

-- ---- filing

unfoldable pub file_answer_of : List ℕ → List ℕ → List ℕ → ℕ → ℕ → List ℕ → Result (Option ℕ) Refusal
file_answer_of bs text policy c n out =
    after_format (is_bad bs c n) (leb (charge_of text policy) (left_of bs c)) (left_of bs c) (format text policy out).answer

-- "A refused call changes nothing in the store or the output."
abbrev pub file_bytes : ℕ → ℕ → ℕ → List ℕ → Result (Option ℕ) Refusal → List ℕ
file_bytes c n k bs (Ok None) = charge c n k bs
file_bytes c n k bs (Ok (Some l)) = charge c n k bs
file_bytes c n k bs (Err r) = bs

-- The answer of a filing, and what both lent buffers hold after it.
pub record Filing : Type 0 where
  pub answer : Result (Option ℕ) Refusal
  pub store : List ℕ
  pub out : List ℕ

unfoldable pub file_call : List ℕ → List ℕ → List ℕ → ℕ → ℕ → List ℕ → Filing
file_call bs text policy c n out =
    let a = file_answer_of bs text policy c n out in
    record { answer = a; store = file_bytes c n (charge_of text policy) bs a; out = output_by (format text policy out).buffer out a }

-- Contract of filing: the answer that the definition gives, and both buffers as it says.
pub record EndsFiled (said : Filing) (r : Result (Option ℕ) Refusal) (store out : List ℕ) : Type 0 where
  pub answer : Answers optional_row said.answer r
  pub store_bytes_lem : store ≡ said.store
  pub out_bytes : out ≡ said.out

-- ---- releasing

unfoldable pub release_answer_of : List ℕ → ℕ → ℕ → Result ℕ Refusal
release_answer_of bs c n =
    cond (not (has_place bs c n && is_taken bs c n)) (Err BadClientOrNumber) (Ok (word_at (place_word c n) bs - 1))

abbrev pub give_back : ℕ → ℕ → ℕ → List ℕ → List ℕ
give_back c n k bs = put_word (place_word c n) 0 (put_word (used_word c) (word_at (used_word c) bs - k) bs)

abbrev pub release_bytes : ℕ → ℕ → List ℕ → Result ℕ Refusal → List ℕ
release_bytes c n bs (Ok k) = give_back c n k bs
release_bytes c n bs (Err r) = bs

unfoldable pub release_call : List ℕ → ℕ → ℕ → After (Result ℕ Refusal) ℕ
release_call bs c n = let a = release_answer_of bs c n in record { answer = a; buffer = release_bytes c n bs a }

-- ---- beginning, and what a client uses

-- The words and the bytes of a new store. "Each has a reserve, 0 if none is named"
abbrev pub new_words : ℕ → List ℕ → List ℕ
new_words capacity reserves = capacity ∷ (reserves ++ replicate (4128 - length reserves) 0)

unfoldable pub new_bytes : ℕ → List ℕ → List ℕ
new_bytes capacity reserves = bytes_of (new_words capacity reserves)

-- A new store is written at the front of a lent buffer. Refusals 8; 13, for reserves of more than 16 clients or bytes that are no whole
-- number; and 14, "a new store's reserves pass C, with C". The numbers of the bytes are the reserves, from client 0 on.
unfoldable pub begin_call : ℕ → List ℕ → List ℕ → After (Result ℕ Refusal) ℕ
begin_call capacity reserves store =
    cond (not (leb store_bytes (length store))) (unwritten (Err (OutputTooShort store_bytes)) store)
    (cond (not (eqb (length reserves % 8) 0 && leb (length reserves) 128)) (unwritten (Err BadClientOrNumber) store)
    (cond (not (leb (sum_below clients (λ (c : ℕ). get_or (numbers_of reserves) c 0)) capacity))
    (unwritten (Err (DoesNotFit capacity)) store)
    (written (Ok store_bytes) (new_bytes capacity (numbers_of reserves)) store)))

-- The bytes charged to a client.
unfoldable pub used_call : List ℕ → ℕ → Result ℕ Refusal
used_call bs c = cond (eqb (length bs) store_bytes && ltb c clients) (Ok (word_at (used_word c) bs)) (Err BadClientOrNumber)

-- ---- lists of calls on a store's bytes, which are handed on from call to call, refused calls included

abbrev pub answer_of : List ℕ → Call → Answer
answer_of bs (file text policy c n out) = of_file (file_call bs text policy c n out).answer
answer_of bs (release c n) = of_release (release_call bs c n).answer

abbrev pub next_bytes : List ℕ → Call → List ℕ
next_bytes bs (file text policy c n out) = (file_call bs text policy c n out).store
next_bytes bs (release c n) = (release_call bs c n).buffer

-- The output after a call. A release has none.
abbrev pub out_after : List ℕ → Call → List ℕ
out_after bs (file text policy c n out) = (file_call bs text policy c n out).out
out_after bs (release c n) = []

unfoldable pub bytes_after : List ℕ → List Call → List ℕ
bytes_after bs [] = bs
bytes_after bs (x ∷ xs) = bytes_after (next_bytes bs x) xs

-- ---- the store that bytes represent

-- The word of a number: 0 if it is not in use, else the charge and 1.
unfoldable pub slot : ℕ → ℕ → List Filed → ℕ
slot c n [] = 0
slot c n (m ∷ ms) = cond (is_at c n m) (m.charge + 1) (slot c n ms)

-- The bytes are those of a store.
pub record Represents (bs : List ℕ) (s : Store) : Type 0 where
  pub size : length bs ≡ store_bytes
  pub wide : s.capacity < 2 ^ 64
  pub capacity : word_at 0 bs ≡ s.capacity
  pub reserves : (c : ℕ) → c < clients → word_at (reserve_word c) bs ≡ reserve s c
  pub sums : (c : ℕ) → c < clients → word_at (used_word c) bs ≡ used s c
  pub places : (c n : ℕ) → c < clients → n < 256 → word_at (place_word c n) bs ≡ slot c n s.filed
