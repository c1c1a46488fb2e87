-- Lists: the elements that pass a test, and lists of zeros.
use mathlib.Core.Path.{◌≡◌, refl, ap, sym, ◌∙◌}
use mathlib.Core.Logic.{⊎_elim}
use mathlib.Core.Bool.{Bool, true, false, cond, false≢true}
use mathlib.Core.List.Memᴰ
use mathlib.Core.List.{List, [], ◌∷◌, Memᴰ}
use Prim.Native.Nat.{ℕ, zero, suc}
use lib.ListN.{get_or, replicate}
use Rattle.base.specs.Lists.{filter}

module _ {A : Type 0} (test : A → Bool) where
  pub passed_in : (x : A) (l : List A) → Memᴰ x l → test x ≡ true → Memᴰ x (filter test l)
  unfolding filter
  passed_in x [] m e = absurd (Memᴰ.not-nil m)
  passed_in x (y ∷ l) m e = go (test y) refl (passed_in x l)
    where
      go : (b : Bool) → test y ≡ b → (Memᴰ x l → test x ≡ true → Memᴰ x (filter test l))
          → Memᴰ x (cond b (y ∷ filter test l) (filter test l))
      go true f h = ⊎_elim (λ (g : x ≡ y). Memᴰ.head g) (λ (n : Memᴰ x l). Memᴰ.tail (h n e)) (Memᴰ.cases_cons m)
      go false f h = ⊎_elim (λ (g : x ≡ y). absurd (false≢true (sym f ∙ ap test (sym g) ∙ e))) (λ (n : Memᴰ x l). h n e)
          (Memᴰ.cases_cons m)

  pub in-passed : (x : A) (l : List A) → Memᴰ x (filter test l) → (test x ≡ true) × Memᴰ x l
  unfolding filter
  in-passed x [] m = absurd (Memᴰ.not-nil m)
  in-passed x (y ∷ l) m = go (test y) refl (in-passed x l) m
    where
      go : (b : Bool) → test y ≡ b → (Memᴰ x (filter test l) → (test x ≡ true) × Memᴰ x l)
          → Memᴰ x (cond b (y ∷ filter test l) (filter test l)) → (test x ≡ true) × Memᴰ x (y ∷ l)
      go true f h n = ⊎_elim
          (λ (g : x ≡ y). (ap test g ∙ f, Memᴰ.head g))
          (λ (k : Memᴰ x (filter test l)). ((h k).0, Memᴰ.tail (h k).1))
          (Memᴰ.cases_cons n)
      go false f h n = ((h n).0, Memᴰ.tail (h n).1)

pub zeros : (n k : ℕ) → ◌≡◌ {A = ℕ} (get_or (replicate n 0) k 0) 0
zeros zero k = refl
zeros (suc n) zero = refl
zeros (suc n) (suc k) = zeros n k
