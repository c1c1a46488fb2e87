-- A pass that keeps the nearest of the findings so far, and what the call writes.
use Rattle.std.specs.Prelude.{Ok, Err, Some, None, Option}
use mathlib.Core.Path.{◌≡◌, refl, ap, subst, sym, ◌∙◌}
use mathlib.Core.Bool.{Bool, true, false, cond}
use mathlib.Core.List.{List, [], ◌∷◌, ◌++◌}
use Prim.Native.Nat.{ℕ, ◌+◌, ◌<◌, ◌≤◌}
use native.Mathlib.Omega.{arith}
use lib.Dec.{leb}
use lib.ListN.{drop, length}
use borrow.Author.Tests.{le-leb, leb-false, leb-true, lt-leb}
use Rattle.base.specs.Output.{PutAt}
use Rattle.base.specs.Refusals.{unwritten}
use Rattle.base.specs.Words.{bytes_of}
use Rattle.base.specs.declared.Refusal.TheVariants.{TableTooShort}
use Rattle.base.proofs.Numbers.{length_both, length_bytes_of_lem}
use Rattle.utf8.specs.Rfc3629.{valid_up_to_of}
use Rattle.policy.specs.declared.Policy.{Policy}
use Rattle.positions.specs.Positions.{AtPosition}
use Rattle.positions.specs.declared.TextCount.{TextCount}
use Rattle.analysis.specs.declared.types.Finding.{Finding}
use Rattle.formatter.specs.List.{row_numbers}
use Rattle.formatter.proofs.RowBytes.{length_row}
use Rattle.findings_near.specs.Helpers.{HasByte, IsLast, IsNext, closer, end_of, rows_from}
use Rattle.findings_near.specs.Nearest.{distance, nearer, nearest, nearest_bytes, nearest_numbers, write_nearest}
use Rattle.findings_near.proofs.NextRows.{front}

-- The nearer of three, from either side.
nearer-three : (o : ℕ) (b f : Finding) (r : Option Finding) → nearer o b (Some (nearer o f r)) ≡ nearer o (nearer o b (Some f)) r
unfolding nearer
nearer-three o b f None = refl
nearer-three o b f (Some g) = go (leb (d b) (d f)) (leb (d f) (d g)) refl refl
  where
    d : Finding → ℕ
    d x = distance o x

    go : (s t : Bool) → leb (d b) (d f) ≡ s → leb (d f) (d g) ≡ t
        → cond (leb (d b) (d (cond t f g))) b (cond t f g) ≡ cond (leb (d (cond s b f)) (d g)) (cond s b f) g
    go true true a c =
        let x = leb-true (d b) (d f) a in
        let y = leb-true (d f) (d g) c in
        ap (λ (z : Bool). cond z b f) a ∙ sym (ap (λ (z : Bool). cond z b g) (le-leb (d b) (d g) (omega arith)))
    go true false a c = refl
    go false true a c = ap (λ (z : Bool). cond z b f) a ∙ sym (ap (λ (z : Bool). cond z f g) c)
    go false false a c =
        let x = leb-false (d b) (d f) a in
        let y = leb-false (d f) (d g) c in
        ap (λ (z : Bool). cond z b g) (lt-leb (d b) (d g) (omega arith)) ∙ sym (ap (λ (z : Bool). cond z f g) c)

-- The nearest of the findings so far, with the nearest of the others.
abbrev pub both : ℕ → Option Finding → Option Finding → Option Finding
both o None r = r
both o (Some b) r = Some (nearer o b r)

both-on : (o : ℕ) (b : Option Finding) (f : Finding) (r : Option Finding)
    → both o b (Some (nearer o f r)) ≡ Some (nearer o (closer o b f) r)
unfolding closer
both-on o None f r = refl
both-on o (Some b) f r = ap Some (nearer-three o b f r)

both-none : (o : ℕ) (b : Option Finding) → both o b None ≡ b
unfolding nearer
both-none o None = refl
both-none o (Some b) = refl

closer-some : (o : ℕ) (b : Option Finding) (f : Finding) → HasByte b → f.start < f.end → (closer o b f).start < (closer o b f).end
unfolding closer nearer
closer-some o None f h k = k
closer-some o (Some b) f h k = go (leb (distance o b) (distance o f))
  where
    go : (t : Bool) → (cond t b f).start < (cond t b f).end
    go true = h
    go false = k

-- ---- the pass

module _ (p : Policy) (text : List ℕ) (o : ℕ) where
  pub record Nearing (best : Option Finding) (at : ℕ) (before : TextCount) : Type 0 where
    pub some_byte : HasByte best
    pub nearest-is : both o best (nearest o (rows_from p text at)) ≡ nearest o (rows_from p text 0)
    pub valid : valid_up_to_of text ≡ at + valid_up_to_of (drop at text)
    pub position : AtPosition text at before

  pub nearing_begin : {before : TextCount} → AtPosition text 0 before → Nearing None 0 before
  nearing_begin a = record { some_byte = tt; nearest-is = refl; valid = omega arith; position = a }

  module _ {best : Option Finding} {at : ℕ} {before : TextCount} (s : Nearing best at before) where
    pub nearing-on : {f : Finding} → IsNext p text at f → {b : Finding} → b ≡ closer o best f → Nearing (Some b) f.end (end_of f)
    unfolding nearest
    nearing-on {f} n {b} e =
        let rest = nearest o (rows_from p text f.end) in
        record {
          some_byte = subst (λ (x : Finding). x.start < x.end) (sym e) (closer-some o best f s.some_byte n.some);
          nearest-is =
              ap (λ (x : Finding). Some (nearer o x rest)) e ∙ sym (both-on o best f rest)
              ∙ ap (λ (l : List Finding). both o best (nearest o l)) (sym n.rows) ∙ s.nearest-is;
          valid = omega (arith, s.valid, n.valid, n.on, n.some);
          position = n.after;
        }

    pub nearing-end : {stop : ℕ} → IsLast p text at stop → (best ≡ nearest o (rows_from p text 0)) × (stop ≡ valid_up_to_of text)
    unfolding nearest
    nearing-end l = (
      sym (both-none o best) ∙ ap (λ (l : List Finding). both o best (nearest o l)) (sym l.rows) ∙ s.nearest-is,
      omega (arith, s.valid, l.valid),
    )

-- ---- the nearer of two, by the code's branches

module _ (o : ℕ) (f : Finding) {best : Option Finding} where
  pub closer-first : best ≡ None → f ≡ closer o best f
  unfolding closer
  closer-first e = ap (λ (x : Option Finding). closer o x f) (sym e)

  module _ (b : Finding) (e : best ≡ Some b) {old new : ℕ} (x : old ≡ distance o b) (y : new ≡ distance o f) where
    pub closer-old : old ≤ new → b ≡ closer o best f
    unfolding closer nearer
    closer-old h =
        sym (ap (λ (x : Option Finding). closer o x f) e
        ∙ ap (λ (x : Bool). cond x b f) (le-leb (distance o b) (distance o f) (omega arith)))

    pub closer-new : new < old → f ≡ closer o best f
    unfolding closer nearer
    closer-new h =
        sym (ap (λ (x : Option Finding). closer o x f) e
        ∙ ap (λ (x : Bool). cond x b f) (lt-leb (distance o b) (distance o f) (omega arith)))

-- ---- what is written

pub length_nearest : (o : ℕ) (f : Finding) → length (bytes_of (nearest_numbers o f)) ≡ nearest_bytes
length_nearest o f =
    omega (arith, length_both (row_numbers f) (distance o f ∷ []), length_row f, length_bytes_of_lem (distance o f ∷ []))

pub none-given : (o : ℕ) (row : List ℕ) {found : Option Finding} → found ≡ None → unwritten (Ok None) row ≡ write_nearest o found row
unfolding write_nearest
none-given o row e = ap (λ (x : Option Finding). write_nearest o x row) (sym e)

module _ (o : ℕ) (f : Finding) (row : List ℕ) {found : Option Finding} where
  pub row-short : found ≡ Some f → length row < nearest_bytes
      → unwritten (Err (TableTooShort 1)) row ≡ write_nearest o found row
  unfolding write_nearest
  row-short e h = sym (ap (λ (x : Option Finding). write_nearest o x row) e ∙ simp (lt-leb nearest_bytes (length row) h))

  pub row-given : found ≡ Some f → nearest_bytes ≤ length row → {d r : ℕ} {after : List ℕ} → d ≡ distance o f
      → PutAt row 0 (bytes_of (row_numbers f ++ (d ∷ []))) after r
      → record { answer = (Ok (Some 1)); buffer = after } ≡ write_nearest o found row
  unfolding write_nearest
  row-given e h {d} {r} {after} g p =
      let b = bytes_of (nearest_numbers o f) in
      let q : PutAt row 0 b after r = subst (λ (n : ℕ). PutAt row 0 (bytes_of (row_numbers f ++ (n ∷ []))) after r) g p in
      ap (λ (x : List ℕ). record { answer = (Ok (Some 1)); buffer = x }) (front row b (omega (arith, length_nearest o f)) q.bytes)
      ∙ sym (ap (λ (x : Option Finding). write_nearest o x row) e ∙ simp (le-leb nearest_bytes (length row) h))
