-- The nearest finding has the least distance of all, and is the earliest of those.
use Rattle.std.specs.Prelude.{Some, None, Option}
use mathlib.Core.Path.{◌≡◌, refl, ap, subst, sym, ◌∙◌}
use mathlib.Core.Logic.{◌⊎◌, inl, inr, ⊎_elim}
use mathlib.Core.Bool.{Bool, true, false, ◌&&◌, cond}
use mathlib.Core.List.Memᴰ
use mathlib.Core.List.{List, [], ◌∷◌, Memᴰ}
use Prim.Native.Nat.{ℕ, ◌-◌, ◌<◌, ◌≤◌, min}
use native.Mathlib.Omega.{arith}
use lib.Dec.{leb, ltb}
use borrow.Author.Tests.{le-leb, le-ltb, leb-false, leb-true, lt-leb, lt-ltb}
use Rattle.analysis.specs.declared.types.Finding.{Finding}
use Rattle.findings_near.specs.Nearest.{difference, distance, nearer, nearest}
use Rattle.findings_near.specs.Theorems.{DistanceClaim, InTextOrder, and_then, no_more}

-- ---- the distance

pub distance_is : (o : ℕ) (f : Finding) → f.start < f.end → DistanceClaim o f
unfolding distance
distance_is o f b = record {
  before = λ h.
      ap (λ (x : Bool). cond (x && ltb o f.end) 0 (min (difference o f.start) (difference o (f.end - 1)))) (lt-leb f.start o h)
      ∙ early h;
  within = λ g h.
      ap (λ (x : Bool). cond (x && ltb o f.end) 0 (min (difference o f.start) (difference o (f.end - 1)))) (le-leb f.start o g)
      ∙ ap (λ (x : Bool). cond x 0 (min (difference o f.start) (difference o (f.end - 1)))) (lt-ltb o f.end h);
  after = λ h.
      ap (λ (x : Bool). cond (leb f.start o && x) 0 (min (difference o f.start) (difference o (f.end - 1)))) (le-ltb o f.end h)
      ∙ ap (λ (x : Bool). cond x 0 (min (difference o f.start) (difference o (f.end - 1)))) (and_no (leb f.start o))
      ∙ late h;
}
  where
    and_no : (x : Bool) → x && false ≡ false
    and_no true = refl
    and_no false = refl

    early : o < f.start → min (difference o f.start) (difference o (f.end - 1)) ≡ f.start - o
    early h = omega arith

    late : f.end ≤ o → min (difference o f.start) (difference o (f.end - 1)) ≡ o - (f.end - 1)
    late h = omega arith

-- ---- the nearest of a list

module _ (o : ℕ) where
  pub record Best (l : List Finding) (f : Finding) : Type 0 where
    pub among : Memᴰ f l
    pub least : (g : Finding) → Memᴰ g l → distance o f ≤ distance o g
    pub earliest : (g : Finding) → Memᴰ g l → distance o g ≡ distance o f → f.start ≤ g.start

  pub none-nearest : (l : List Finding) → nearest o l ≡ None → l ≡ []
  unfolding nearest
  none-nearest [] e = refl
  none-nearest (f ∷ l) e = let z : ◌≡◌ {A = ℕ} 0 1 = cc in absurd (omega arith)

  -- The first finding is the best if no other is nearer.
  first_best : (f : Finding) (l : List Finding) → ((g : Finding) → Memᴰ g l → (distance o f ≤ distance o g) × (f.start ≤ g.start))
      → Best (f ∷ l) f
  first_best f l h = record {
    among = Memᴰ.head refl;
    least = λ g m. ⊎_elim (λ (e : g ≡ f). omega (arith, ap (distance o) e)) (λ (k : Memᴰ g l). (h g k).0) (Memᴰ.cases_cons m);
    earliest =
        λ g m d. ⊎_elim (λ (e : g ≡ f). omega (arith, ap (λ (x : Finding). x.start) e)) (λ (k : Memᴰ g l). (h g k).1)
        (Memᴰ.cases_cons m);
  }

  -- The best of the findings after the first is the best if it is nearer than the first.
  later_best : (f g : Finding) (l : List Finding) → distance o g < distance o f → Best l g → Best (f ∷ l) g
  later_best f g l n b = record {
    among = Memᴰ.tail b.among;
    least = λ x m. ⊎_elim (λ (e : x ≡ f). omega (arith, ap (distance o) e)) (λ (k : Memᴰ x l). b.least x k) (Memᴰ.cases_cons m);
    earliest =
        λ x m d. ⊎_elim (λ (e : x ≡ f). absurd (omega (arith, ap (distance o) e))) (λ (k : Memᴰ x l). b.earliest x k d)
        (Memᴰ.cases_cons m);
  }

  is_some : {A : Type 0} {x y : A} → Some x ≡ Some y → x ≡ y
  is_some e = cc

  pub nearest_best : {l : List Finding} → InTextOrder l → (f : Finding) → nearest o l ≡ Some f → Best l f
  unfolding nearest nearer
  nearest_best no_more f e = let z : ◌≡◌ {A = ℕ} 0 1 = cc in absurd (omega arith)
  nearest_best (and_then {f = h} {l} full before ord) f e = go (nearest o l) refl (nearest_best ord) e
    where
      pick : (g : Finding) (b : Bool) → leb (distance o h) (distance o g) ≡ b → Best l g → cond b h g ≡ f → Best (h ∷ l) f
      pick g true t b e =
          subst (Best (h ∷ l)) e (first_best h l
          (λ x m. let d = b.least x m in let s = before x m in let c = leb-true (distance o h) (distance o g) t in
          (omega arith, omega arith)))
      pick g false t b e = subst (Best (h ∷ l)) e (later_best h g l (omega (arith, leb-false (distance o h) (distance o g) t)) b)

      go : (r : Option Finding) → nearest o l ≡ r → ((g : Finding) → nearest o l ≡ Some g → Best l g) → Some (nearer o h r) ≡ Some f
          → Best (h ∷ l) f
      go None n k e =
          subst (Best (h ∷ l)) (is_some e) (first_best h l (λ x m. absurd (Memᴰ.not-nil (subst (Memᴰ x) (none-nearest l n) m))))
      go (Some g) n k e = pick g (leb (distance o h) (distance o g)) refl (k g n) (is_some e)

-- ---- there is only one

same_start : {l : List Finding} → InTextOrder l → (f g : Finding) → Memᴰ f l → Memᴰ g l → f.start ≡ g.start → f ≡ g
same_start no_more f g m n e = absurd (Memᴰ.not-nil m)
same_start (and_then {f = h} {l} full before ord) f g m n e =
    go (Memᴰ.cases_cons m) (Memᴰ.cases_cons n) (same_start ord f g)
  where
    go : (f ≡ h) ⊎ Memᴰ f l → (g ≡ h) ⊎ Memᴰ g l → (Memᴰ f l → Memᴰ g l → f.start ≡ g.start → f ≡ g) → f ≡ g
    go (inl a) (inl b) k = a ∙ sym b
    go (inl a) (inr b) k = absurd (omega (arith, before g b, ap (λ (x : Finding). x.start) a))
    go (inr a) (inl b) k = absurd (omega (arith, before f a, ap (λ (x : Finding). x.start) b))
    go (inr a) (inr b) k = k a b e

pub only_best : (o : ℕ) {l : List Finding} → InTextOrder l → (f g : Finding) → Best o l f → Best o l g → f ≡ g
only_best o ord f g a b =
    let c = a.least g b.among in
    let d = b.least f a.among in
    let e = a.earliest g b.among (omega arith) in
    let h = b.earliest f a.among (omega arith) in
    same_start ord f g a.among b.among (omega arith)

pub best_nearest : (o : ℕ) {l : List Finding} → InTextOrder l → (f : Finding) → Best o l f → nearest o l ≡ Some f
best_nearest o {l} ord f b = go (nearest o l) refl
  where
    go : (r : Option Finding) → nearest o l ≡ r → nearest o l ≡ Some f
    go None e = absurd (Memᴰ.not-nil (subst (Memᴰ f) (none-nearest o l e) b.among))
    go (Some g) e = e ∙ ap Some (only_best o ord g f (nearest_best o ord g e) b)
