-- Rows as bytes: their length, and a table of bytes that has or has not room for them.
use Rattle.std.specs.Prelude.{Ok, Err}
use mathlib.Core.Path.{◌≡◌, refl, ap, ap₂, sym, ◌∙◌, subst}
use mathlib.Core.Bool.{cond}
use mathlib.Core.List.{List, [], ◌∷◌, ◌++◌, append_assoc}
use Prim.Native.Nat.{ℕ, zero, suc, ◌+◌, ◌*◌, ◌/◌, ◌≤◌, ◌<◌}
use native.Mathlib.Nat.{div-lt_iff_lt-mul, le-div_iff_mul-le, suc-mul, zero-add, zero-mul}
use native.Mathlib.Omega.{arith}
use lib.ListN.{drop, length, length-append}
use lib.Seq.{drop-append-add, drop-nil, sets, sets-eq}
use borrow.Author.Tests.{le-leb, lt-leb}
use Rattle.base.specs.Output.{PutAt, room_for}
use Rattle.base.specs.Refusals.{unwritten}
use Rattle.base.specs.Tables.{fill_table, rows_bytes}
use Rattle.base.specs.Words.{bytes_of}
use Rattle.base.specs.declared.Refusal.TheVariants.{TableTooShort}
use Rattle.base.proofs.Output.{bytes_put}

module _ {A : Type 0} (numbers : A → List ℕ) (k : ℕ) (each : (x : A) → length (bytes_of (numbers x)) ≡ k) where
  pub length_rows : (xs : List A) → length (rows_bytes numbers xs) ≡ length xs * k
  unfolding rows_bytes
  length_rows [] = sym (zero-mul k)
  length_rows (x ∷ xs) =
      let h = length_rows xs in
      omega (arith, length-append (bytes_of (numbers x)) (rows_bytes numbers xs), each x, suc-mul (length xs) k)

  -- ---- a table of bytes

  module _ (some_bytes : 0 < k) (rows : List A) (table : List ℕ) {n : ℕ} (e : n ≡ length rows) where
    -- A table with fewer places than rows is refused.
    pub rows-refused : length table / k < n → unwritten (Err (TableTooShort n)) table ≡ fill_table numbers k rows table
    unfolding fill_table
    rows-refused h = ap (λ (m : ℕ). unwritten (Err (TableTooShort m)) table) e
        ∙ simp (lt-leb (length rows) (length table / k) (omega arith))

    -- With a place for each row, the bytes of the rows fit into the table.
    pub rows-room : n ≤ length table / k → length (rows_bytes numbers rows) ≤ length table
    rows-room h = omega (arith, length_rows rows, (le-div_iff_mul-le some_bytes).0 (subst (λ (m : ℕ). m ≤ length table / k) e h))

    pub rows_written : n ≤ length table / k → {after : List ℕ} {r : ℕ} → PutAt table 0 (rows_bytes numbers rows) after r
        → record { answer = Ok n; buffer = after } ≡ fill_table numbers k rows table
    unfolding fill_table
    rows_written h {after} p =
        let b = rows_bytes numbers rows in
        let w : after ≡ b ++ drop (length b) table =
        p.bytes ∙ sets-eq b table 0 (omega (arith, rows-room h)) ∙ ap (λ (k : ℕ). b ++ drop k table) (zero-add (length b)) in
        ap₂ (λ (m : ℕ) (o : List ℕ). record { answer = Ok m; buffer = o }) e w
        ∙ simp (le-leb (length rows) (length table / k) (omega arith))

    -- A table with room holds the rows' bytes at its front.
    pub filled : n * k ≤ length table → fill_table numbers k rows table
        ≡ record { answer = Ok n; buffer = rows_bytes numbers rows ++ drop (n * k) table }
    unfolding fill_table
    filled h =
        let b = rows_bytes numbers rows in
        let l : length b ≡ n * k = length_rows rows ∙ ap (λ (m : ℕ). m * k) (sym e) in
        simp (le-leb (length rows) (length table / k) (subst (λ (m : ℕ). m ≤ length table / k) e ((le-div_iff_mul-le some_bytes).1 h)))
        (ap₂ (λ (m d : ℕ). record { answer = Ok m; buffer = b ++ drop d table }) (sym e) l)

    pub not-filled : length table < n * k → fill_table numbers k rows table ≡ record { answer = Err (TableTooShort n); buffer = table }
    not-filled h = sym (rows-refused ((div-lt_iff_lt-mul some_bytes).1 h))

module _ {A : Type 0} (numbers : A → List ℕ) where
  pub rows_append : (xs ys : List A) → rows_bytes numbers (xs ++ ys) ≡ rows_bytes numbers xs ++ rows_bytes numbers ys
  unfolding rows_bytes
  rows_append [] ys = refl
  rows_append (x ∷ xs) ys =
      ap (λ (l : List ℕ). bytes_of (numbers x) ++ l) (rows_append xs ys)
      ∙ sym (append_assoc (bytes_of (numbers x)) (rows_bytes numbers xs) (rows_bytes numbers ys))

  module _ (k : ℕ) (each : (x : A) → length (bytes_of (numbers x)) ≡ k) where
    pub rows_drop : (n : ℕ) (xs : List A) → drop (n * k) (rows_bytes numbers xs) ≡ rows_bytes numbers (drop n xs)
    unfolding rows_bytes
    rows_drop zero xs = ap (λ (m : ℕ). drop m (rows_bytes numbers xs)) (zero-mul k)
    rows_drop (suc n) [] = drop-nil (suc n * k)
    rows_drop (suc n) (x ∷ xs) =
        let b = bytes_of (numbers x) in
        let e : suc n * k ≡ length b + n * k = omega (arith, each x, suc-mul n k) in
        ap (λ (m : ℕ). drop m (b ++ rows_bytes numbers xs)) e ∙ drop-append-add b (rows_bytes numbers xs) (n * k) ∙ rows_drop n xs

    -- Without rows, nothing is written.
    pub no_rows : 0 < k → (rows : List A) (table : List ℕ) {n : ℕ} → n ≡ length rows → n ≡ 0
        → record { answer = Ok n; buffer = table } ≡ fill_table numbers k rows table
    unfolding rows_bytes
    no_rows some [] table e z =
        ap (λ (m : ℕ). record { answer = Ok m; buffer = table }) z
        ∙ sym (filled numbers k each some [] table refl (omega (arith, zero-mul k))
        ∙ ap (λ (m : ℕ). record { answer = Ok 0; buffer = drop m table }) (zero-mul k))
    no_rows some (x ∷ xs) table e z = absurd (omega arith)

-- ---- a row

-- The numbers of a row that fits are written, and the row's bytes end after them.
pub row_put : {ns ms : List ℕ} {k : ℕ} (o o' : List ℕ) (at : ℕ) → ns ≡ ms → length (bytes_of ms) ≡ k → at + k ≤ length o
    → o' ≡ cond (room_for (bytes_of ns) o at) (sets o at (bytes_of ns)) o → PutAt o at (bytes_of ms) o' (at + k)
row_put {ns} {ms} {k} o o' at e l h w =
    let leaves : List ℕ → List ℕ = λ xs. cond (room_for (bytes_of xs) o at) (sets o at (bytes_of xs)) o in
    subst (λ (n : ℕ). PutAt o at (bytes_of ms) o' (at + n)) l (bytes_put o o' at (bytes_of ms) (omega arith) (w ∙ ap leaves e))
