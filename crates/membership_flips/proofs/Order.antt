-- The list of all memberships is complete and in order. So is the list of those that pass a test.
use mathlib.Core.Path.{◌≡◌, refl, ap, subst, sym}
use mathlib.Core.Logic.{⊎_elim}
use mathlib.Core.Bool.{Bool, true, false, cond}
use mathlib.Core.List.Memᴰ
use mathlib.Core.List.{List, ◌∷◌, Memᴰ}
use Prim.Native.Nat.{ℕ, zero, suc, ◌+◌, ◌<◌, ◌≤◌}
use native.Mathlib.Omega.{arith}
use lib.ListN.{length}
use Rattle.base.proofs.Lists.{in-passed}
use Rattle.base.specs.Lists.{filter}
use Rattle.base.proofs.Tests.{le_or_lt}
use Rattle.emoji.specs.UnicodeData.{variation_entries}
use Rattle.emoji.proofs.Ascent.{ascending_lt}
use Rattle.emoji.proofs.InOrder.{variation_entries_ascend}
use Rattle.policy_key_set.specs.Sets.{entry_count}
use Rattle.policy_key_set.proofs.Members.{decide}
use Rattle.membership_flips.specs.Flips.{Membership, and_four, code_point, memberships, memberships_from}
use Rattle.membership_flips.specs.Theorems.{Before, InOrder, and_then, no_more, ordinary_first, prefer_bare_first, smaller_code_point}

pub filtered_ordered : (test : Membership → Bool) {l : List Membership} → InOrder l → InOrder (filter test l)
unfolding filter
filtered_ordered test no_more = no_more
filtered_ordered test (and_then {m} {l} before o) = go (test m) (filtered_ordered test o)
  where
    go : (b : Bool) → InOrder (filter test l) → InOrder (cond b (m ∷ filter test l) (filter test l))
    go true h = and_then (λ n k. before n (in-passed test n l k).1) h
    go false h = h

-- ---- every membership

of_four : (i : ℕ) (k a : Bool) (l : List Membership) → Memᴰ (record { entry = i; keycap = k; as_text = a }) (and_four i l)
of_four i false false l = Memᴰ.head refl
of_four i false true l = Memᴰ.tail (Memᴰ.head refl)
of_four i true false l = Memᴰ.tail (Memᴰ.tail (Memᴰ.head refl))
of_four i true true l = Memᴰ.tail (Memᴰ.tail (Memᴰ.tail (Memᴰ.head refl)))

all_from : (n i : ℕ) (m : Membership) → i ≤ m.entry → m.entry < i + n → Memᴰ m (memberships_from n i)
unfolding memberships_from
all_from zero i m g h = absurd (omega arith)
all_from (suc n) i m g h = ⊎_elim
    (λ (e : m.entry ≡ i). Memᴰ.cast (moved e) (of_four i m.keycap m.as_text (memberships_from n (suc i))))
    (λ (e : m.entry ≡ i → ⊥). Memᴰ.tail (Memᴰ.tail
    (Memᴰ.tail (Memᴰ.tail (all_from n (suc i) m (later e) (omega arith))))))
    (decide m.entry i)
  where
    moved : m.entry ≡ i → m ≡ record { entry = i; keycap = m.keycap; as_text = m.as_text }
    moved e = ap (λ (j : ℕ). record { entry = j; keycap = m.keycap; as_text = m.as_text }) e

    later : (m.entry ≡ i → ⊥) → suc i ≤ m.entry
    later f = ⊎_elim (λ (x : suc i ≤ m.entry). x) (λ (x : m.entry < suc i). absurd (f (omega arith))) (le_or_lt (suc i) m.entry)

-- A membership of the list is one of the four of an entry, or one of those after them.
four_cases : (P : Membership → Type 0) (i : ℕ) (l : List Membership)
    → ((k a : Bool) → P (record { entry = i; keycap = k; as_text = a })) → ((m : Membership) → Memᴰ m l → P m)
    → (m : Membership) → Memᴰ m (and_four i l) → P m
four_cases P i l f g m h =
    let is : (k a : Bool) → m ≡ record { entry = i; keycap = k; as_text = a } → P m = λ k a e. subst P (sym e) (f k a) in
    ⊎_elim (is false false) (λ (h : Memᴰ m _).
    ⊎_elim (is false true) (λ (h : Memᴰ m _).
    ⊎_elim (is true false) (λ (h : Memᴰ m _).
    ⊎_elim (is true true) (g m)
    (Memᴰ.cases_cons h)) (Memᴰ.cases_cons h)) (Memᴰ.cases_cons h)) (Memᴰ.cases_cons h)

from-within : (n i : ℕ) (m : Membership) → Memᴰ m (memberships_from n i) → (i ≤ m.entry) × (m.entry < i + n)
unfolding memberships_from
from-within zero i m h = absurd (Memᴰ.not-nil h)
from-within (suc n) i m h =
    four_cases (λ (m : Membership). (i ≤ m.entry) × (m.entry < i + suc n)) i (memberships_from n (suc i))
    (λ k a. (omega arith, omega arith)) (λ m h. let w = from-within n (suc i) m h in (omega arith, omega arith)) m h

-- The memberships after the four of entry i have greater code points.
module _ (i n : ℕ) (h : i + suc n ≤ length variation_entries) where
  rest : (k a : Bool) (m : Membership) → Memᴰ m (memberships_from n (suc i)) → Before (record { entry = i; keycap = k; as_text = a }) m
  rest k a m x =
      let w = from-within n (suc i) m x in
      smaller_code_point (ascending_lt variation_entries variation_entries_ascend i m.entry (omega arith) (omega arith))

  four_ordered : InOrder (memberships_from n (suc i)) → InOrder (and_four i (memberships_from n (suc i)))
  four_ordered o =
      and_then (λ m x. ⊎_elim (to-text m false) (λ (x : Memᴰ m _). ⊎_elim (to-keycap m false false)
      (λ (x : Memᴰ m _). ⊎_elim (to-keycap m false true) (rest false false m) (Memᴰ.cases_cons x)) (Memᴰ.cases_cons x))
      (Memᴰ.cases_cons x))
      (and_then (λ m x. ⊎_elim (to-keycap m true false) (λ (x : Memᴰ m _). ⊎_elim (to-keycap m true true) (rest false true m)
      (Memᴰ.cases_cons x)) (Memᴰ.cases_cons x))
      (and_then (λ m x. ⊎_elim (to-text m true) (rest true false m) (Memᴰ.cases_cons x))
      (and_then (λ m x. rest true true m x) o)))
    where
      to-text : (m : Membership) (k : Bool) → m ≡ record { entry = i; keycap = k; as_text = true }
          → Before (record { entry = i; keycap = k; as_text = false }) m
      to-text m k e = prefer_bare_first (ap code_point (sym e)) (ap (λ (x : Membership). x.keycap) (sym e)) refl
          (ap (λ (x : Membership). x.as_text) e)

      to-keycap : (m : Membership) (a b : Bool) → m ≡ record { entry = i; keycap = true; as_text = b }
          → Before (record { entry = i; keycap = false; as_text = a }) m
      to-keycap m a b e = ordinary_first (ap code_point (sym e)) refl (ap (λ (x : Membership). x.keycap) e)

from-ordered : (n i : ℕ) → i + n ≤ length variation_entries → InOrder (memberships_from n i)
unfolding memberships_from
from-ordered zero i h = no_more
from-ordered (suc n) i h = four_ordered i n h (from-ordered n (suc i) (omega arith))

pub every_membership : (m : Membership) → m.entry < entry_count → Memᴰ m memberships
unfolding memberships
every_membership m h = all_from entry_count 0 m (omega arith) (omega arith)

pub no_other_membership : (m : Membership) → Memᴰ m memberships → m.entry < entry_count
unfolding memberships
no_other_membership m h = let w = from-within entry_count 0 m h in omega arith

pub memberships-ordered : InOrder memberships
unfolding memberships entry_count
memberships-ordered = from-ordered (length variation_entries) 0 (omega arith)
