-- The runs of a set cover exactly its entries.
use mathlib.Core.Path.{◌≡◌, refl, ap, sym, ◌∙◌, subst}
use mathlib.Core.Bool.{Bool, true, false, ◌&&◌, ◌||◌, true≢false}
use mathlib.Core.List.{List, [], ◌∷◌}
use Prim.Native.Nat.{ℕ, zero, suc, ◌+◌, ◌≤◌, ◌<◌}
use native.Mathlib.Omega.{arith}
use lib.Dec.{leb}
use lib.ListN.{get_or, length}
use borrow.Author.Tests.{le-leb}
use Rattle.base.specs.Ranges.{within}
use Rattle.base.proofs.Tests.{within-above, within-below, within_true}
use Rattle.policy_sheet.specs.Meaning.{Each, each_and, each_none}
use Rattle.policy_sheet.specs.Writer.{Run, first_in, joined, runs_from, with_entry}

-- The code point is in a run.
unfoldable pub covers : List Run → ℕ → Bool
covers [] x = false
covers (r ∷ rs) x = within r.first r.last x || covers rs x

abbrev pub Up : List ℕ → Type 0
Up cs = (i j : ℕ) → i < j → j < length cs → get_or cs i 0 < get_or cs j 0

pub up_tail : {c : ℕ} (cs : List ℕ) → Up (c ∷ cs) → Up cs
up_tail cs u i j h l = u (suc i) (suc j) (omega arith) (omega arith)

-- A run begins and ends with entries of a list, in order.
pub record Among (cs : List ℕ) (r : Run) : Type 0 where
  pub from : ℕ
  pub to : ℕ
  pub first_is : r.first ≡ get_or cs from 0
  pub last_is : r.last ≡ get_or cs to 0
  pub in_order : from ≤ to
  pub in_list : to < length cs

one_on : {c : ℕ} {cs : List ℕ} {r : Run} → Among cs r → Among (c ∷ cs) r
one_on a = record {
  from = suc a.from;
  to = suc a.to;
  first_is = a.first_is;
  last_is = a.last_is;
  in_order = omega (arith, a.in_order);
  in_list = omega (arith, a.in_list);
}

all_on : {c : ℕ} {cs : List ℕ} {rs : List Run} → Each (Among cs) rs → Each (Among (c ∷ cs)) rs
all_on each_none = each_none
all_on (each_and h hs) = each_and (one_on h) (all_on hs)

here : (c : ℕ) (cs : List ℕ) → Among (c ∷ cs) (record { first = c; last = c })
here c cs = record { from = 0; to = 0; first_is = refl; last_is = refl; in_order = omega arith; in_list = omega arith }

stretched : {c : ℕ} {cs : List ℕ} {r : Run} → Among cs r → Among (c ∷ cs) (record { first = c; last = r.last })
stretched a = record {
  from = 0;
  to = suc a.to;
  first_is = refl;
  last_is = a.last_is;
  in_order = omega arith;
  in_list = omega (arith, a.in_list);
}

with_among : (c : ℕ) (cs : List ℕ) (b n : Bool) (rs : List Run) → Each (Among cs) rs → Each (Among (c ∷ cs)) (with_entry c b n rs)
unfolding with_entry joined
with_among c cs false n rs h = all_on h
with_among c cs true false rs h = each_and (here c cs) (all_on h)
with_among c cs true true [] h = each_and (here c cs) each_none
with_among c cs true true (r ∷ rs) (each_and h hs) = each_and (stretched h) (all_on hs)

pub runs-among : (p : ℕ → Bool) (i : ℕ) (cs : List ℕ) → Each (Among cs) (runs_from p i cs)
unfolding runs_from
runs-among p i [] = each_none
runs-among p i (c ∷ cs) = with_among c cs (p i) (first_in p (suc i) cs) (runs_from p (suc i) cs) (runs-among p (suc i) cs)

-- A code point below every entry is in no run.
below_none : (cs : List ℕ) (x : ℕ) (rs : List Run) → ((k : ℕ) → k < length cs → x < get_or cs k 0) → Each (Among cs) rs
    → covers rs x ≡ false
unfolding covers
below_none cs x [] h each_none = refl
below_none cs x (r ∷ rs) h (each_and a as') =
    rw (
      within-below r.first r.last x (omega (arith, a.first_is, h a.from (omega (arith, a.in_order, a.in_list)))),
      below_none cs x rs h as',
    )

-- If the first entry is in the set, the first run begins with it.
data Starts (c : ℕ) : List Run → Type 0 where
  starts : {l : ℕ} {rs : List Run} → Starts c (record { first = c; last = l } ∷ rs)

with_starts : (c : ℕ) (n : Bool) (rs : List Run) → Starts c (with_entry c true n rs)
unfolding with_entry joined
with_starts c false rs = starts
with_starts c true [] = starts
with_starts c true (r ∷ rs) = starts

head_starts : (p : ℕ → Bool) (i : ℕ) (cs : List ℕ) → first_in p i cs ≡ true → (0 < length cs) × Starts (get_or cs 0 0) (runs_from p i cs)
unfolding first_in runs_from
head_starts p i [] e = absurd (true≢false (sym e))
head_starts p i (c ∷ cs) e = (
  omega arith,
  subst (λ (b : Bool). Starts c (with_entry c b (first_in p (suc i) cs) (runs_from p (suc i) cs))) (sym e)
      (with_starts c (first_in p (suc i) cs) (runs_from p (suc i) cs)),
)

within-one : (c x : ℕ) → c < x → within c c x ≡ false
within-one c x h = within-above c c x h

-- The range now starts at c, and x is not below its old start.
stretch-same : (c a l x : ℕ) → c ≤ a → a ≤ x → within c l x ≡ within a l x
stretch-same c a l x h g = ap (λ (b : Bool). b && leb x l) (le-leb c x (omega arith) ∙ sym (le-leb a x g))

module _ (c : ℕ) (cs : List ℕ) (up : Up (c ∷ cs)) where
  above : (k : ℕ) → k < length cs → c < get_or cs k 0
  above k l = up 0 (suc k) (omega arith) (omega arith)

  head_le : (k : ℕ) → k < length cs → get_or cs 0 0 ≤ get_or cs k 0
  head_le zero l = omega arith
  head_le (suc k) l = omega (arith, up_tail cs up 0 (suc k) (omega arith) l)

  at_head : (b n : Bool) (rs : List Run) → Each (Among cs) rs → covers (with_entry c b n rs) c ≡ b
  unfolding covers with_entry joined
  at_head false n rs h = below_none cs c rs above h
  at_head true false rs h = rw (within_true c c c (omega arith) (omega arith))
  at_head true true [] h = rw (within_true c c c (omega arith) (omega arith))
  at_head true true (r ∷ rs) (each_and a hs) = rw (within_true c r.last c (omega arith)
      (omega (arith, a.last_is, above a.to a.in_list)))

  at_tail : (b n : Bool) (rs : List Run) (k : ℕ) → k < length cs → (n ≡ true → Starts (get_or cs 0 0) rs)
      → covers (with_entry c b n rs) (get_or cs k 0) ≡ covers rs (get_or cs k 0)
  unfolding covers with_entry joined
  at_tail false n rs k l f = refl
  at_tail true false rs k l f = rw (within-one c (get_or cs k 0) (above k l))
  at_tail true true rs k l f = go (f refl)
    where
      go : {rs : List Run} → Starts (get_or cs 0 0) rs → covers (joined c rs) (get_or cs k 0) ≡ covers rs (get_or cs k 0)
      go (starts {l = m} {rs}) =
          ap (λ (b : Bool). b || covers rs (get_or cs k 0)) (stretch-same c (get_or cs 0 0) m (get_or cs k 0)
          (omega (arith, above 0 (omega arith))) (head_le k l))

-- An entry is in a run exactly if it passes the test.
pub runs_cover : (p : ℕ → Bool) (j : ℕ) (cs : List ℕ) → Up cs → (i : ℕ) → i < length cs
    → covers (runs_from p j cs) (get_or cs i 0) ≡ p (j + i)
unfolding runs_from
runs_cover p j [] up i h = absurd (omega arith)
runs_cover p j (c ∷ cs) up zero h =
    at_head c cs up (p j) (first_in p (suc j) cs) (runs_from p (suc j) cs) (runs-among p (suc j) cs) ∙ ap p (omega arith)
runs_cover p j (c ∷ cs) up (suc i) h =
    at_tail c cs up (p j) (first_in p (suc j) cs) (runs_from p (suc j) cs) i (omega arith) (λ e. (head_starts p (suc j) cs e).1)
    ∙ runs_cover p (suc j) cs (up_tail cs up) i (omega arith) ∙ ap p (omega arith)
