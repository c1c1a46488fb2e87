-- The word of a row with a small value determines the row, and a row determines its answer.
use Rattle.base.specs.Answers.{found_row, optional_row}
use Rattle.std.specs.Prelude.{Ok, Err, None, Option, Result, Some}
use mathlib.Core.Path.{◌≡◌, refl, ap, ap₂, sym, ◌∙◌}
use mathlib.Core.Bool.{Bool, cond}
use Prim.Native.Nat.{ℕ, ◌/◌, ◌%◌, ◌^◌, ◌≤◌, ◌<◌}
use native.Mathlib.Omega.{arith}
use lib.Dec.{leb}
use borrow.Author.Tests.{le-leb, lt-leb}
use Rattle.base.specs.Refusals.{RefusalRow, refusal_row}
use Rattle.base.specs.declared.Refusal.{Refusal}
use Rattle.base.proofs.Rows.{num, refusal_numbers, refusals, val}
use Rattle.findings_near.specs.Around.{around_row}
use Rattle.findings_near.specs.declared.ListedAround.{ListedAround}
use Rattle.repair.specs.Repair.{repair_row}
use Rattle.repair.specs.declared.Repaired.{Repaired}
use Rattle.tilghorz.specs.AnswerWord.{capped_row, most_value, word}
use Rattle.tilghorz.specs.Theorems.{HasBothValues, HasRow, WordsDetermine}

-- ---- words

number_of : (r : RefusalRow) → r.value < 2 ^ 56 → word r / 2 ^ 56 ≡ r.number
number_of r h = omega arith

value_of : (r : RefusalRow) → r.value < 2 ^ 56 → word r % 2 ^ 56 ≡ r.value
value_of r h = omega arith

same_row : (r s : RefusalRow) → r.value < 2 ^ 56 → s.value < 2 ^ 56 → word r ≡ word s → r ≡ s
same_row r s h k e =
    let n : r.number ≡ s.number = omega (arith, e) in
    let v : r.value ≡ s.value = omega (arith, e) in
    λ i. record { number = n i; value = v i }

pub words_determine : {I A : Type 0} (row : A → RefusalRow) (answer : I → A) → ((i : I) → (row (answer i)).value < 2 ^ 56)
    → ((i j : I) → row (answer i) ≡ row (answer j) → answer i ≡ answer j) → WordsDetermine row answer
words_determine row answer small rows = record {
  same = λ i j e. rows i j (same_row (row (answer i)) (row (answer j)) (small i) (small j) e);
  number = λ i. number_of (row (answer i)) (small i);
  value = λ i. value_of (row (answer i)) (small i);
}

-- ---- words of a store's calls, whose values are capped

capped-row : (n v m : ℕ) → cond (leb v most_value) v most_value ≡ m
    → word (record { number = n; value = m }) ≡ word (capped_row (record { number = n; value = v }))
capped-row n v m e = ap (λ (k : ℕ). word (record { number = n; value = k })) (sym e)

pub above_most : (n v : ℕ) → most_value < v
    → word (record { number = n; value = most_value }) ≡ word (capped_row (record { number = n; value = v }))
above_most n v h = capped-row n v most_value (ap (λ (t : Bool). cond t v most_value) (lt-leb v most_value h))

pub within-most : (n v : ℕ) → v ≤ most_value
    → word (record { number = n; value = v }) ≡ word (capped_row (record { number = n; value = v }))
within-most n v h = capped-row n v v (ap (λ (t : Bool). cond t v most_value) (le-leb v most_value h))

-- The word of a row with a small value has that value.
pub has-row : (r : RefusalRow) → r.value < 2 ^ 56 → HasRow (word (capped_row r)) r
has-row r h =
    let e = within-most r.number r.value (omega arith) in
    record {
      number = ap (λ (w : ℕ). w / 2 ^ 56) (sym e) ∙ number_of r h;
      value = ap (λ (w : ℕ). w % 2 ^ 56) (sym e) ∙ value_of r h;
    }

-- The row of a call that finds a number is that of a call that finds it without a refusal.
pub found-optional : (found : Option ℕ) → found_row found ≡ optional_row (Ok found)
unfolding found_row optional_row
found-optional None = refl
found-optional (Some n) = refl

-- ---- two values below 2^28 in one

-- Both values of an answer are below 2^28.
abbrev pub BothSmall : Result Repaired Refusal → Type 0
BothSmall a = (n k : ℕ) → a ≡ Ok (record { len = n; replaced = k }) → (n < 2 ^ 28) × (k < 2 ^ 28)

pub repair-rows : (a b : Result Repaired Refusal) → BothSmall a → BothSmall b → repair_row a ≡ repair_row b → a ≡ b
unfolding repair_row
repair-rows (Ok v) (Ok w) p q e =
    let x = p v.len v.replaced refl in
    let y = q w.len w.replaced refl in
    let f : v.len ≡ w.len = omega (arith, val e) in
    let g : v.replaced ≡ w.replaced = omega (arith, val e) in
    ap₂ (λ (i j : ℕ). Ok (record { len = i; replaced = j })) f g
repair-rows (Ok v) (Err r) p q e = absurd (omega (arith, num e, refusal_numbers r))
repair-rows (Err r) (Ok v) p q e = absurd (omega (arith, num e, refusal_numbers r))
repair-rows (Err r) (Err s) p q e = ap Err (refusals r s e)

-- The value of the row is below 2^56.
pub repair-small : (a : Result Repaired Refusal) → BothSmall a → ((r : Refusal) → a ≡ Err r → (refusal_row r).value < 2 ^ 28)
    → (repair_row a).value < 2 ^ 56
unfolding repair_row
repair-small (Ok v) p q = let x = p v.len v.replaced refl in omega arith
repair-small (Err r) p q = omega (arith, q r refl)

both : (n k : ℕ) → (n < 2 ^ 28) × (k < 2 ^ 28)
    → (word (repair_row (Ok (record { len = n; replaced = k }))) % 2 ^ 28 ≡ n)
    × (word (repair_row (Ok (record { len = n; replaced = k }))) / 2 ^ 28 ≡ k)
unfolding repair_row
both n k h = (omega arith, omega arith)

pub both_values : (a : Result Repaired Refusal) → BothSmall a → (n k : ℕ) → a ≡ Ok (record { len = n; replaced = k })
    → HasBothValues (word (repair_row a)) n k
both_values a p n k e =
    let h = p n k e in
    let b = both n k h in (
      h.0,
      h.1,
      ap (λ (a : Result Repaired Refusal). word (repair_row a) % 2 ^ 28) e ∙ b.0,
      ap (λ (a : Result Repaired Refusal). word (repair_row a) / 2 ^ 28) e
          ∙ b.1,
    )

-- The same for the findings around a stretch.
abbrev pub BothFew : Result ListedAround Refusal → Type 0
BothFew a = (n k : ℕ) → a ≡ Ok (record { inside = n; sharing = k }) → (n < 2 ^ 28) × (k < 2 ^ 28)

pub around_rows : (a b : Result ListedAround Refusal) → BothFew a → BothFew b → around_row a ≡ around_row b → a ≡ b
unfolding around_row
around_rows (Ok v) (Ok w) p q e =
    let x = p v.inside v.sharing refl in
    let y = q w.inside w.sharing refl in
    let f : v.inside ≡ w.inside = omega (arith, val e) in
    let g : v.sharing ≡ w.sharing = omega (arith, val e) in
    ap₂ (λ (i j : ℕ). Ok (record { inside = i; sharing = j })) f g
around_rows (Ok v) (Err r) p q e = absurd (omega (arith, num e, refusal_numbers r))
around_rows (Err r) (Ok v) p q e = absurd (omega (arith, num e, refusal_numbers r))
around_rows (Err r) (Err s) p q e = ap Err (refusals r s e)

pub around_small : (a : Result ListedAround Refusal) → BothFew a → ((r : Refusal) → a ≡ Err r → (refusal_row r).value < 2 ^ 28)
    → (around_row a).value < 2 ^ 56
unfolding around_row
around_small (Ok v) p q = let x = p v.inside v.sharing refl in omega arith
around_small (Err r) p q = omega (arith, q r refl)

both_near : (n k : ℕ) → (n < 2 ^ 28) × (k < 2 ^ 28)
    → (word (around_row (Ok (record { inside = n; sharing = k }))) % 2 ^ 28 ≡ n)
    × (word (around_row (Ok (record { inside = n; sharing = k }))) / 2 ^ 28 ≡ k)
unfolding around_row
both_near n k h = (omega arith, omega arith)

pub both-numbers : (a : Result ListedAround Refusal) → BothFew a → (n k : ℕ) → a ≡ Ok (record { inside = n; sharing = k })
    → HasBothValues (word (around_row a)) n k
both-numbers a p n k e =
    let h = p n k e in
    let b = both_near n k h in (
      h.0,
      h.1,
      ap (λ (a : Result ListedAround Refusal). word (around_row a) % 2 ^ 28) e ∙ b.0,
      ap (λ (a : Result ListedAround Refusal). word (around_row a) / 2 ^ 28) e ∙ b.1,
    )
