-- The calls of a store: their answers, with the refusals in order, and what they change (document 02, x).
use Rattle.base.specs.declared.Refusal.{Refusal}
use Rattle.std.specs.Prelude.{
  Bool,
  true,
  false,
  cond,
  not,
  ◌&&◌,
  ◌||◌,
  List,
  [],
  ◌∷◌,
  ℕ,
  ◌+◌,
  eqb,
  leb,
  length,
  Ok,
  Err,
  Some,
  None,
  Result,
  Option,
}
use Rattle.base.specs.declared.Refusal.TheVariants.{BadClientOrNumber, DoesNotFit}
use Rattle.formatter.specs.Format.{format, formatted}
use Rattle.store.specs.Store.{Filed, Store, charge_at, in_use, is_at, is_place, left, without}

-- ---- a call and its answer

-- The calls that change a store: filing a text under a policy for a client and a number, with a lent output, and the release of a number.
pub data Call : Type 0 where
  file : (text policy : List ℕ) (client number : ℕ) (out : List ℕ) → Call
  release : (client number : ℕ) → Call

-- Filing answers as formatting does; a release answers with the bytes given back, or with a refusal.
pub data Answer : Type 0 where
  of_file : Result (Option ℕ) Refusal → Answer
  of_release : Result ℕ Refusal → Answer

-- "charges its formatted length"
abbrev pub charge_of : List ℕ → List ℕ → ℕ
charge_of text policy = length (formatted text policy)

-- "13, client above 15 or number above 255, filing under a number in use"
abbrev pub bad_file : Store → ℕ → ℕ → Bool
bad_file s c n = not (is_place c n) || in_use c n s.filed

-- "client above 15 or number above 255 .. or releasing one not in use"
abbrev pub bad_release : Store → ℕ → ℕ → Bool
bad_release s c n = not (is_place c n && in_use c n s.filed)

-- "Errors, after 8: 13 ..; 14, tested after 13, the charge doesn't fit, with the number of bytes that would". l is that number.
abbrev pub tested : (bad fits : Bool) → ℕ → Result (Option ℕ) Refusal → Result (Option ℕ) Refusal
tested bad fits l a = cond bad (Err BadClientOrNumber) (cond fits a (Err (DoesNotFit l)))

-- "Filing formats a message as before": formatting's refusals 1, 2, 3 and 8 come first.
abbrev pub after_format : (bad fits : Bool) → ℕ → Result (Option ℕ) Refusal → Result (Option ℕ) Refusal
after_format bad fits l (Ok None) = tested bad fits l (Ok None)
after_format bad fits l (Ok (Some n)) = tested bad fits l (Ok (Some n))
after_format bad fits l (Err r) = Err r

-- "Filing is accepted if the charge fits what is left of the client's reserve and of the common part together."
unfoldable pub file_answer : Store → List ℕ → List ℕ → ℕ → ℕ → List ℕ → Result (Option ℕ) Refusal
file_answer s text policy c n out =
    after_format (bad_file s c n) (leb (charge_of text policy) (left s c)) (left s c) (format text policy out).answer

-- "releasing a filed message gives its bytes back"
unfoldable pub release_answer : Store → ℕ → ℕ → Result ℕ Refusal
release_answer s c n = cond (bad_release s c n) (Err BadClientOrNumber) (Ok (charge_at c n s.filed))

abbrev pub answer : Store → Call → Answer
answer s (file text policy c n out) = of_file (file_answer s text policy c n out)
answer s (release c n) = of_release (release_answer s c n)

-- ---- what a call changes

-- A call files a message, takes away the one under a client's number, or changes nothing.
pub data Change : Type 0 where
  adds : Filed → Change
  takes : ℕ → ℕ → Change
  nothing : Change

abbrev pub file_change : Filed → Result (Option ℕ) Refusal → Change
file_change m (Ok None) = adds m
file_change m (Ok (Some l)) = adds m
file_change m (Err r) = nothing

abbrev pub release_change : ℕ → ℕ → Result ℕ Refusal → Change
release_change c n (Ok k) = takes c n
release_change c n (Err r) = nothing

-- "charges its formatted length to its client, under a number .. that this client isn't using; its release names client and number"
abbrev pub change_by : Store → Call → Change
change_by s (file text policy c n out) =
    file_change (record { client = c; number = n; charge = charge_of text policy }) (file_answer s text policy c n out)
change_by s (release c n) = release_change c n (release_answer s c n)

abbrev pub changed_filed : List Filed → Change → List Filed
changed_filed ms (adds m) = m ∷ ms
changed_filed ms (takes c n) = without c n ms
changed_filed ms nothing = ms

abbrev pub with_filed : Store → List Filed → Store
with_filed s ms = record { capacity = s.capacity; reserves = s.reserves; filed = ms }

-- The store after a call.
abbrev pub next : Store → Call → Store
next s call = with_filed s (changed_filed s.filed (change_by s call))

-- The output after a filing with this answer: what formatting leaves there, or the output as it was.
abbrev pub output_by : List ℕ → List ℕ → Result (Option ℕ) Refusal → List ℕ
output_by formatted out (Ok None) = formatted
output_by formatted out (Ok (Some l)) = formatted
output_by formatted out (Err r) = out

unfoldable pub file_output : Store → List ℕ → List ℕ → ℕ → ℕ → List ℕ → List ℕ
file_output s text policy c n out = output_by (format text policy out).buffer out (file_answer s text policy c n out)

-- The output after a call. A release has none.
abbrev pub output_after : Store → Call → List ℕ
output_after s (file text policy c n out) = file_output s text policy c n out
output_after s (release c n) = []

-- The output before a call.
abbrev pub out_of : Call → List ℕ
out_of (file text policy c n out) = out
out_of (release c n) = []

-- The client that a call names.
abbrev pub client_of : Call → ℕ
client_of (file text policy c n out) = c
client_of (release c n) = c

-- Whether an answer is a refusal.
abbrev pub is_refusal : Result (Option ℕ) Refusal → Bool
is_refusal (Ok None) = false
is_refusal (Ok (Some l)) = false
is_refusal (Err r) = true

abbrev pub is_refused : Answer → Bool
is_refused (of_file a) = is_refusal a
is_refused (of_release (Ok k)) = false
is_refused (of_release (Err r)) = true

-- ---- lists of calls on a store that is handed on from call to call, refused calls included

unfoldable pub store_after : Store → List Call → Store
store_after s [] = s
store_after s (x ∷ xs) = store_after (next s x) xs

-- The history: the change that each call made.
unfoldable pub changes : Store → List Call → List Change
changes s [] = []
changes s (x ∷ xs) = change_by s x ∷ changes (next s x) xs

-- Whether one of these changes is the release of the message's client and number.
unfoldable pub released_in : List Change → Filed → Bool
released_in [] m = false
released_in (adds x ∷ xs) m = released_in xs m
released_in (takes c n ∷ xs) m = is_at c n m || released_in xs m
released_in (nothing ∷ xs) m = released_in xs m

-- "the lengths filed and not yet released", of one client, by the history alone.
unfoldable pub outstanding : ℕ → List Change → ℕ
outstanding c [] = 0
outstanding c (adds m ∷ xs) = cond (released_in xs m) 0 (cond (eqb m.client c) m.charge 0) + outstanding c xs
outstanding c (takes d n ∷ xs) = outstanding c xs
outstanding c (nothing ∷ xs) = outstanding c xs

-- The same in all.
unfoldable pub outstanding_in_all : List Change → ℕ
outstanding_in_all [] = 0
outstanding_in_all (adds m ∷ xs) = cond (released_in xs m) 0 m.charge + outstanding_in_all xs
outstanding_in_all (takes d n ∷ xs) = outstanding_in_all xs
outstanding_in_all (nothing ∷ xs) = outstanding_in_all xs
