-- Lists of mendings that have the same members: `Alike` is an equivalence, and lists can be joined and reordered.
use mathlib.Core.Path.{◌≡◌, sym, subst}
use mathlib.Core.Logic.{◌↔◌, ◌⊎◌, inl, inr}
use mathlib.Core.List.Memᴰ
use mathlib.Core.List.{List, [], ◌∷◌, ◌++◌, append_assoc, Memᴰ}
use Rattle.formatter.specs.Book.{Mending}
use Rattle.formatter.specs.Demand3.{Alike}

pub alike_refl : (k : List Mending) → Alike k k
alike_refl k m = ((λ h. h), (λ h. h))

pub alike_of : {k l : List Mending} → k ≡ l → Alike k l
alike_of {k} e = subst (Alike k) e (alike_refl k)

pub alike_sym : {k l : List Mending} → Alike k l → Alike l k
alike_sym h m = ((h m).1, (h m).0)

pub alike_trans : {j k l : List Mending} → Alike j k → Alike k l → Alike j l
alike_trans h i m = ((λ x. (i m).0 ((h m).0 x)), (λ x. (h m).1 ((i m).1 x)))

within : (m : Mending) (k l : List Mending) → Memᴰ m (k ++ l) ↔ (Memᴰ m k ⊎ Memᴰ m l)
within m k l = (Memᴰ.append_cases k, back)
  where
    back : Memᴰ m k ⊎ Memᴰ m l → Memᴰ m (k ++ l)
    back (inl h) = Memᴰ.append_left l h
    back (inr h) = Memᴰ.append_right k h

pub alike-join : (i j k l : List Mending) → Alike i j → Alike k l → Alike (i ++ k) (j ++ l)
alike-join i j k l a b m = ((λ h. (within m j l).1 (go ((within m i k).0 h))), (λ h. (within m i k).1 (back ((within m j l).0 h))))
  where
    go : Memᴰ m i ⊎ Memᴰ m k → Memᴰ m j ⊎ Memᴰ m l
    go (inl h) = inl ((a m).0 h)
    go (inr h) = inr ((b m).0 h)

    back : Memᴰ m j ⊎ Memᴰ m l → Memᴰ m i ⊎ Memᴰ m k
    back (inl h) = inl ((a m).1 h)
    back (inr h) = inr ((b m).1 h)

pub alike-swap : (k l : List Mending) → Alike (k ++ l) (l ++ k)
alike-swap k l m = ((λ h. (within m l k).1 (go ((within m k l).0 h))), (λ h. (within m k l).1 (back ((within m l k).0 h))))
  where
    go : Memᴰ m k ⊎ Memᴰ m l → Memᴰ m l ⊎ Memᴰ m k
    go (inl h) = inr h
    go (inr h) = inl h

    back : Memᴰ m l ⊎ Memᴰ m k → Memᴰ m k ⊎ Memᴰ m l
    back (inl h) = inr h
    back (inr h) = inl h

-- An element from the middle can be moved to the front.
pub alike_move : (a : Mending) (k l : List Mending) → Alike (a ∷ (k ++ l)) (k ++ a ∷ l)
alike_move a k l =
    alike_trans (alike_of (sym (append_assoc (a ∷ []) k l)))
    (alike_trans (alike-join ((a ∷ []) ++ k) (k ++ (a ∷ [])) l l (alike-swap (a ∷ []) k) (alike_refl l))
    (alike_of (append_assoc k (a ∷ []) l)))
