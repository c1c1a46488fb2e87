-- What is claimed of a store. Each statement is proved in proofs/Claims.antt, under the same name in snake case.
use Rattle.std.specs.Prelude.{◌≡◌, true, false, cond, List, ℕ, ◌+◌, ◌*◌, ◌-◌, ◌^◌, ◌≤◌, ◌<◌, leb, take, Ok, Err}
use Rattle.base.specs.Sums.{sum_below}
use Rattle.base.specs.Refusals.{text_limit}
use Rattle.base.specs.declared.Refusal.{Refusal}
use Rattle.base.specs.declared.Refusal.TheVariants.{BadClientOrNumber, DoesNotFit}
use Rattle.policy.specs.PolicyBytes.{numbers_of}
use Rattle.formatter.specs.Format.{format}
use Rattle.store.specs.Store.{Sound, Store, clients, common_left, in_use, is_place, left, new_store, overflow, reserve, reserve_left, used}
use Rattle.store.specs.Calls.{
  Call,
  Change,
  answer,
  bad_file,
  changes,
  charge_of,
  client_of,
  file,
  file_answer,
  file_output,
  is_refusal,
  is_refused,
  next,
  out_of,
  output_after,
  outstanding,
  outstanding_in_all,
  release,
  release_answer,
  store_after,
}
use Rattle.store.specs.Bytes.{Represents, answer_of, begin_call, bytes_after, file_call, out_after, release_call, store_bytes, used_call}

-- ---- one call on a store

pub record CallClaim (s : Store) (x : Call) : Type 0 where
  -- "A refused call changes nothing in the store or the output."
  pub refused : is_refused (answer s x) ≡ true → (next s x ≡ s) × (output_after s x ≡ out_of x)
  -- "no matter what the others filed or released": only a client's own calls change what it uses and which numbers it uses.
  pub others : (c : ℕ) → (client_of x ≡ c → ⊥)
      → (used (next s x) c ≡ used s c) × ((n : ℕ) → in_use c n (next s x).filed ≡ in_use c n s.filed)

pub record FileClaim (s : Store) (text policy : List ℕ) (c n : ℕ) (out : List ℕ) : Type 0 where
  -- "Filing formats a message as before", "Formatting itself doesn't depend on the store": an accepted filing answers and writes what
  -- formatting answers and writes.
  pub as_format_lem : is_refusal (file_answer s text policy c n out) ≡ false
      → (file_answer s text policy c n out ≡ (format text policy out).answer)
      × (file_output s text policy c n out ≡ (format text policy out).buffer)
  -- Filing gives each refusal of formatting where formatting gives it, and no refusal but 13 and 14 anywhere else: "Errors, after 8".
  pub format_first : (r : Refusal) → (format text policy out).answer ≡ Err r → file_answer s text policy c n out ≡ Err r
  pub format_only : (r : Refusal) → (r ≡ BadClientOrNumber → ⊥) → ((l : ℕ) → r ≡ DoesNotFit l → ⊥)
      → file_answer s text policy c n out ≡ Err r → (format text policy out).answer ≡ Err r
  -- "13, client above 15 or number above 255, filing under a number in use", for a text that formatting takes.
  pub bad_place : is_refusal (format text policy out).answer ≡ false → bad_file s c n ≡ true
      → file_answer s text policy c n out ≡ Err BadClientOrNumber
  pub bad_only : file_answer s text policy c n out ≡ Err BadClientOrNumber → bad_file s c n ≡ true
  -- "14, tested after 13, the charge doesn't fit, with the number of bytes that would"
  pub no_room : is_refusal (format text policy out).answer ≡ false → bad_file s c n ≡ false → left s c < charge_of text policy
      → file_answer s text policy c n out ≡ Err (DoesNotFit (left s c))
  pub would_fit : (l : ℕ) → file_answer s text policy c n out ≡ Err (DoesNotFit l) → (l ≡ left s c) × (l < charge_of text policy)
  -- "A client still within its reserve, with a number unused, never gets 14 for a charge up to what is left of it": it gets what formatting
  -- answers.
  pub guaranteed : is_place c n ≡ true → in_use c n s.filed ≡ false → used s c ≤ reserve s c → charge_of text policy ≤ reserve_left s c
      → file_answer s text policy c n out ≡ (format text policy out).answer

-- The smaller of two numbers.
abbrev pub least : ℕ → ℕ → ℕ
least a b = cond (leb a b) a b

-- A filing of k bytes: "What a client uses beyond its reserve comes out of the common part".
pub record TakesFrom (s after : Store) (c k : ℕ) : Type 0 where
  pub bytes : used after c ≡ used s c + k
  pub from_reserve : reserve_left s c ≡ reserve_left after c + least k (reserve_left s c)
  pub from_common : common_left s ≡ common_left after + (k - least k (reserve_left s c))

-- A release of k bytes: "releasing a filed message gives its bytes back, overflow first".
pub record GivesBack (s after : Store) (c k : ℕ) : Type 0 where
  pub bytes : used after c + k ≡ used s c
  pub to_common : common_left after ≡ common_left s + least k (overflow s c)
  pub to_reserve : reserve_left after c ≡ reserve_left s c + (k - least k (overflow s c))

-- ---- a store after a list of calls

-- s is a store that was begun with this capacity and these reserves, and history are the changes that the calls made.
pub record StoreClaim (capacity : ℕ) (reserves : List ℕ) (history : List Change) (s : Store) : Type 0 where
  pub same_capacity : s.capacity ≡ capacity
  pub same_reserves : s.reserves ≡ reserves
  -- The common part holds what all clients use beyond their reserves, and a client uses a number for one message at a time.
  pub sound : Sound s
  -- "the bytes charged equal the lengths filed and not yet released", for each client and in all
  pub charges : (c : ℕ) → used s c ≡ outstanding c history
  pub in_all : sum_below clients (used s) ≡ outstanding_in_all history
  -- All clients together use at most C bytes, and one client at most 256 formatted texts of the greatest length.
  pub within_capacity : sum_below clients (used s) ≤ capacity
  pub small_use : (c : ℕ) → used s c ≤ 256 * (4 * text_limit)
  -- The next call.
  pub calls : (x : Call) → CallClaim s x
  pub files : (text policy : List ℕ) (c n : ℕ) (out : List ℕ) → FileClaim s text policy c n out
  pub takes : (text policy : List ℕ) (c n : ℕ) (out : List ℕ) → is_refusal (file_answer s text policy c n out) ≡ false
      → TakesFrom s (next s (file text policy c n out)) c (charge_of text policy)
  pub releases : (c n k : ℕ) → release_answer s c n ≡ Ok k → GivesBack s (next s (release c n)) c k

-- The bytes B are those of the store s, and the next call answers and writes what that store's call does.
pub record InBytes (B : List ℕ) (s : Store) : Type 0 where
  pub represents : Represents B s
  pub answers : (x : Call) → answer_of B x ≡ answer s x
  pub outputs : (x : Call) → out_after B x ≡ output_after s x
  pub uses : (c : ℕ) → c < clients → used_call B c ≡ Ok (used s c)

-- Every list of calls, refused ones included, on a store begun new with a capacity and reserves and handed on from call to call.
unfoldable pub EveryStoreInBytes : Type 0
EveryStoreInBytes =
    (capacity : ℕ) (reserves store : List ℕ) → capacity < 2 ^ 64 → (begin_call capacity reserves store).answer ≡ Ok store_bytes
    → (xs : List Call)
    → InBytes (bytes_after (take store_bytes (begin_call capacity reserves store).buffer) xs)
    (store_after (new_store capacity (numbers_of reserves)) xs)
    × StoreClaim capacity (numbers_of reserves) (changes (new_store capacity (numbers_of reserves)) xs)
    (store_after (new_store capacity (numbers_of reserves)) xs)

-- Any bytes as a store: "for any other the answer is the program's choice, within the lent buffers, and a refusal still writes nothing."
unfoldable pub RefusalsWriteNothing : Type 0
RefusalsWriteNothing =
    (bs : List ℕ)
    → ((text policy : List ℕ) (c n : ℕ) (out : List ℕ) (r : Refusal) → (file_call bs text policy c n out).answer ≡ Err r
    → ((file_call bs text policy c n out).store ≡ bs) × ((file_call bs text policy c n out).out ≡ out))
    × ((c n : ℕ) (r : Refusal) → (release_call bs c n).answer ≡ Err r → (release_call bs c n).buffer ≡ bs)
    × ((capacity : ℕ) (reserves : List ℕ) (r : Refusal) → (begin_call capacity reserves bs).answer ≡ Err r
    → (begin_call capacity reserves bs).buffer ≡ bs)
