-- What a store holds, and what is left of it: document 02, (x), "Storage shared by clients".
use Rattle.std.specs.Prelude.{◌≡◌, Bool, false, cond, ◌&&◌, ◌||◌, List, [], ◌∷◌, ℕ, ◌+◌, ◌-◌, ◌≤◌, ◌<◌, eqb, ltb, get_or, length}
use Rattle.base.specs.Sums.{sum_below}

-- "Up to 16 clients"
abbrev pub clients : ℕ
clients = 16

-- "a number from 0 to 255"
abbrev pub numbers : ℕ
numbers = 256

-- A message that is filed: its client, its number, and the bytes charged for it.
pub record Filed : Type 0 where
  pub client : ℕ
  pub number : ℕ
  pub charge : ℕ

-- "one store of C bytes": C, the reserves from client 0 on, and the messages that are filed and not released, the last one first.
pub record Store : Type 0 where
  pub capacity : ℕ
  pub reserves : List ℕ
  pub filed : List Filed

-- A new store holds no message.
abbrev pub new_store : ℕ → List ℕ → Store
new_store capacity reserves = record { capacity = capacity; reserves = reserves; filed = [] }

-- ---- what is charged and what is left

-- "Each has a reserve, 0 if none is named"
abbrev pub reserve : Store → ℕ → ℕ
reserve s c = get_or s.reserves c 0

-- The bytes charged to a client for these messages.
unfoldable pub charged : ℕ → List Filed → ℕ
charged c [] = 0
charged c (m ∷ ms) = cond (eqb m.client c) m.charge 0 + charged c ms

-- What a client uses.
abbrev pub used : Store → ℕ → ℕ
used s c = charged c s.filed

-- "What a client uses beyond its reserve"; 0 if it is within its reserve.
abbrev pub overflow : Store → ℕ → ℕ
overflow s c = used s c - reserve s c

-- What is left of a client's reserve; 0 if the client uses all of it.
abbrev pub reserve_left : Store → ℕ → ℕ
reserve_left s c = reserve s c - used s c

-- "the common part, C less all reserves"
abbrev pub common : Store → ℕ
common s = s.capacity - sum_below clients (reserve s)

-- What is left of the common part: "What a client uses beyond its reserve comes out of the common part".
abbrev pub common_left : Store → ℕ
common_left s = common s - sum_below clients (overflow s)

-- "what is left of the client's reserve and of the common part together"
abbrev pub left : Store → ℕ → ℕ
left s c = reserve_left s c + common_left s

-- ---- numbers in use

-- The message is filed under this number of this client.
abbrev pub is_at : ℕ → ℕ → Filed → Bool
is_at c n m = eqb m.client c && eqb m.number n

-- The client uses the number.
unfoldable pub in_use : ℕ → ℕ → List Filed → Bool
in_use c n [] = false
in_use c n (m ∷ ms) = is_at c n m || in_use c n ms

-- The bytes charged for the message under the number; 0 if there is none.
unfoldable pub charge_at : ℕ → ℕ → List Filed → ℕ
charge_at c n [] = 0
charge_at c n (m ∷ ms) = cond (is_at c n m) m.charge (charge_at c n ms)

-- The messages without the one under the number.
unfoldable pub without : ℕ → ℕ → List Filed → List Filed
without c n [] = []
without c n (m ∷ ms) = cond (is_at c n m) (without c n ms) (m ∷ without c n ms)

-- Client and number are within their limits: not "client above 15 or number above 255".
unfoldable pub is_place : ℕ → ℕ → Bool
is_place c n = ltb c clients && ltb n numbers

-- ---- what every store is

-- A client uses a number for one message at a time, and every client and number is within its limit.
pub data Placed : List Filed → Type 0 where
  none_filed : Placed []
  one_more : {m : Filed} {ms : List Filed} → in_use m.client m.number ms ≡ false → m.client < clients → m.number < numbers
      → Placed ms → Placed (m ∷ ms)

-- The invariant of a store that was begun new and handed on.
pub record Sound (s : Store) : Type 0 where
  pub few : length s.reserves ≤ clients
  -- "the reserves sum to at most C"
  pub reserved : sum_below clients (reserve s) ≤ s.capacity
  -- The common part holds what all clients use beyond their reserves.
  pub holds : sum_below clients (overflow s) ≤ common s
  pub placed : Placed s.filed
