-- A loop that writes a list piece by piece into a lent buffer: its invariant `Writing`, and the laws that keep it. `begin` is the start
-- of the loop. `pass` is a turn that writes nothing, and `room` and `put` are a turn that writes a piece. `finish` is the end.
use mathlib.Core.Path.{◌≡◌, refl, sym, ap, ap₂, ◌∙◌, subst}
use mathlib.Core.Bool.{Bool, cond, false}
use mathlib.Core.List.{List, [], ◌∷◌, ◌++◌}
use Prim.Native.Nat.{ℕ, suc, ◌+◌, ◌<◌, ◌≤◌}
use native.Mathlib.Nat.{add-suc, add-zero, suc-add}
use native.Mathlib.Omega.{arith}
use lib.ListN.{length, length-append, set}
use lib.Seq.{length-sets, sets}
use Rattle.base.specs.Output.{PutAt}

pub sets_append : (o : List ℕ) (j : ℕ) (xs ys : List ℕ) → sets o j (xs ++ ys) ≡ sets (sets o j xs) (j + length xs) ys
sets_append o j [] ys = ap (λ (n : ℕ). sets o n ys) (sym (add-zero j))
sets_append o j (x ∷ xs) ys =
    sets_append (set o j x) (suc j) xs ys
    ∙ ap (λ (n : ℕ). sets (sets (set o j x) (suc j) xs) n ys) (suc-add j (length xs) ∙ sym (add-suc j (length xs)))

-- The buffer was o₀ and is o. The list `all` is written from the offset `from` on; of it, `rest` is still to be written, at the offset
-- j.
pub record Writing (all : List ℕ) (from : ℕ) (o₀ rest o : List ℕ) (j : ℕ) : Type 0 where
  pub same : length o ≡ length o₀
  pub ahead : j + length rest ≡ from + length all
  pub fits : from + length all ≤ length o₀
  pub bytes : sets o j rest ≡ sets o₀ from all

module _ (all : List ℕ) (from : ℕ) (o₀ : List ℕ) where
  pub begin : from + length all ≤ length o₀ → Writing all from o₀ all o₀ from
  begin h = record { same = refl; ahead = refl; fits = h; bytes = refl }

  pub pass : {o : List ℕ} {j : ℕ} (rest rest' : List ℕ) → Writing all from o₀ rest o j → rest ≡ rest' → Writing all from o₀ rest' o j
  pass {o} {j} rest rest' w e = subst (λ (r : List ℕ). Writing all from o₀ r o j) e w

  -- The invariant for an equal buffer and an equal offset.
  pub moved : {o o' : List ℕ} {j j' : ℕ} (rest : List ℕ) → o' ≡ o → j' ≡ j → Writing all from o₀ rest o j → Writing all from o₀ rest o' j'
  moved {o} {o'} {j} {j'} rest p q w =
      subst (λ (b : List ℕ). Writing all from o₀ rest b j') (sym p) (subst (λ (n : ℕ). Writing all from o₀ rest o n) (sym q) w)

  pub room : {o : List ℕ} {j : ℕ} (rest xs rest' : List ℕ) → Writing all from o₀ rest o j → rest ≡ xs ++ rest' → j + length xs ≤ length o
  room rest xs rest' w e =
      let p = w.same in
      let q = w.ahead in
      let r = w.fits in
      omega (arith, ap length e, length-append xs rest')

  pub put : {o o' xs : List ℕ} {j j' : ℕ} (rest rest' : List ℕ) → Writing all from o₀ rest o j → PutAt o j xs o' j' → rest ≡ xs ++ rest'
      → Writing all from o₀ rest' o' j'
  put {o} {o'} {xs} {j} {j'} rest rest' w p e = record {
    same = ap length p.bytes ∙ length-sets o j xs ∙ w.same;
    ahead = let r = w.ahead in let q = p.ends in omega (arith, ap length e, length-append xs rest');
    fits = w.fits;
    bytes = ap₂ (λ (b : List ℕ) (n : ℕ). sets b n rest') p.bytes p.ends ∙ sym (sets_append o j xs rest') ∙ ap (sets o j) (sym e)
        ∙ w.bytes;
  }

  -- A turn that writes one byte: the byte fits, and writing it keeps the invariant.
  pub byte-room : {o : List ℕ} {j x : ℕ} (rest : List ℕ) {rest' : List ℕ} → Writing all from o₀ rest o j → rest ≡ x ∷ rest' → j < length o
  byte-room {x = x} rest {rest'} w e = omega (arith, room rest (x ∷ []) rest' w e)

  pub byte_put : {o : List ℕ} {j x : ℕ} (rest : List ℕ) {rest' : List ℕ} → Writing all from o₀ rest o j → rest ≡ x ∷ rest'
      → Writing all from o₀ rest' (set o j x) (j + 1)
  byte_put {x = x} rest {rest'} w e = put {xs = x ∷ []} rest rest' w (record { ends = refl; bytes = refl }) e

  pub finish : {o : List ℕ} {j : ℕ} (rest : List ℕ) → Writing all from o₀ rest o j → rest ≡ [] → PutAt o₀ from all o j
  finish {o} {j} rest w e = record {
    ends = let r = w.ahead in omega (arith, ap length e);
    bytes = ap (sets o j) (sym e) ∙ w.bytes;
  }

-- Two writes, the second where the first ends, are one write.
pub put_then : {o o₁ o₂ xs ys : List ℕ} {s i r : ℕ} → PutAt o s xs o₁ i → PutAt o₁ i ys o₂ r → PutAt o s (xs ++ ys) o₂ r
put_then {o} {o₁} {o₂} {xs} {ys} {s} {i} {r} p q = record {
  ends = let e = p.ends in let f = q.ends in omega (arith, length-append xs ys);
  bytes = q.bytes ∙ ap (λ (b : List ℕ). sets b i ys) p.bytes ∙ ap (λ (n : ℕ). sets (sets o s xs) n ys) p.ends
      ∙ sym (sets_append o s xs ys);
}

-- A write of an equal list.
pub put_as : {o o₁ xs : List ℕ} {s r : ℕ} (ys : List ℕ) → xs ≡ ys → PutAt o s xs o₁ r → PutAt o s ys o₁ r
put_as {o} {o₁} {xs} {s} {r} ys e p = subst (λ (zs : List ℕ). PutAt o s zs o₁ r) e p

-- Nothing is put if nothing is wanted.
pub put_no : (o : List ℕ) (s : ℕ) (xs : List ℕ) {wanted : Bool} → wanted ≡ false → PutAt o s (cond wanted xs []) o s
put_no o s xs e = subst (λ (b : Bool). PutAt o s (cond b xs []) o s) (sym e) (record { ends = omega arith; bytes = refl })
