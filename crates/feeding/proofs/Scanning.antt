-- The tests of a piece: the completed character, and the well-formed bytes after it.
use mathlib.Core.Path.{◌≡◌, refl, ap, sym, ◌∙◌}
use mathlib.Core.Logic.{⊎_elim}
use mathlib.Core.Bool.{Bool, true, false, cond, not}
use mathlib.Core.List.{List, [], ◌∷◌, ◌++◌}
use Prim.Native.Nat.{ℕ, ◌+◌, ◌/◌, ◌%◌, ◌≤◌}
use native.Mathlib.Nat.{zero-add}
use native.Mathlib.Omega.{arith}
use lib.ListN.{drop, length, length-append, take}
use lib.Seq.{drop-append-add, drop-length, take-append-le, take_at}
use borrow.Author.Tests.{eq-eqb, ne_eqb}
use Rattle.base.specs.Words.{little_endian}
use Rattle.base.proofs.Tests.{le_or_lt}
use Rattle.utf8.specs.Rfc3629.{chars, encode, is_scalar, utf8_char, valid_up_to_of}
use Rattle.utf8.specs.Subparts.{unfinished}
use Rattle.utf8.proofs.Decoding.{utf8_char_encode}
use Rattle.utf8.proofs.Folds.{chars_end}
use Rattle.utf8.proofs.Fronts.{read_char_nil}
use Rattle.utf8.proofs.Packed.{packed_step, packed_stop}
use Rattle.utf8.proofs.Places.{Step}
use Rattle.utf8.proofs.Texts.{valid_up_to_le}
use Rattle.utf8.proofs.Unfinished.{unfinished_no_char}
use Rattle.policy.specs.declared.Policy.{Policy}
use Rattle.analysis.specs.Analysis.{count_cells}
use Rattle.analysis.specs.CellView.{total_cells}
use Rattle.analysis.specs.Cells.{split}
use Rattle.analysis.specs.Counts.{total}
use Rattle.text_pass.specs.Changes.{Advances, NextChange}
use Rattle.text_pass.specs.declared.Change.{Change}
use Rattle.feeding.specs.Parts.{FirstChar, JoinedValid, PieceFrom, Scanned, char_of}
use Rattle.feeding.specs.declared.scan.PieceScan.{PieceScan}
use Rattle.feeding.proofs.Ending.{length_bytes_of}
use Rattle.feeding.proofs.Joining.{joined_length}

-- ---- the character that the piece completes

module _ (n : ℕ) where
  pub char-none : n ≡ 0 → char_of n ≡ []
  char-none z = ap (λ (t : Bool). cond t [] (n / 8 ∷ [])) (eq-eqb n 0 z)

  pub char-some : (n ≡ 0 → ⊥) → char_of n ≡ n / 8 ∷ []
  char-some z = ap (λ (t : Bool). cond t [] (n / 8 ∷ [])) (ne_eqb n 0 z)

-- It does not end before the unfinished bytes do.
completes : (r b : List ℕ) (v w : ℕ) → unfinished r ≡ true → Step (r ++ b) 0 v w → length r ≤ w
completes r b v w e s =
    ⊎_elim
    (λ h.
    let t : take w r ≡ encode v =
    sym (take-append-le w r b h) ∙ ap (take w) (sym s.bytes) ∙ take_at (encode v) (drop (0 + w) (r ++ b)) w s.width in
    absurd (unfinished_no_char r e w (ap utf8_char t ∙ utf8_char_encode v s.is_scalar_lem)))
    (λ h. omega arith)
    (le_or_lt w (length r))

module _ (n rest : ℕ) (b : List ℕ) where
  abbrev U : List ℕ
  U = little_endian n rest ++ b

  pub first_fits : {first : ℕ} → unfinished (little_endian n rest) ≡ true → FirstChar n U first → (n ≡ 0 → ⊥) → (first ≡ 0 → ⊥)
      → n ≤ first % 8
  first_fits {first} e f h z =
      let s = packed_step U 0 first (f.with_rest h) z in
      omega (arith, completes (little_endian n rest) b (first / 8) (first % 8) e s, length_bytes_of n rest)

  after-rest : (k w : ℕ) → n + k ≡ w → drop w U ≡ drop k b
  after-rest k w e =
      let l : w ≡ length (little_endian n rest) + k = omega (arith, length_bytes_of n rest) in
      ap (λ (m : ℕ). drop m U) l ∙ drop-append-add (little_endian n rest) b k

  joined_all : (l : List ℕ) → n ≡ 0 → little_endian n rest ++ l ≡ l
  unfolding little_endian
  joined_all l e = ap (λ (m : ℕ). little_endian m rest ++ l) e

  -- What the two functions before the scan say together.
  pub record Joint (first from : ℕ) : Type 0 where
    pub chars_are : chars U ≡ char_of first ++ chars (drop from b)
    pub is_scalar_lem : (first ≡ 0 → ⊥) → is_scalar (first / 8) ≡ true
    pub inside : from ≤ length b
    pub valid_is : (end valid : ℕ) → end ≡ from + valid_up_to_of (drop from b) → JoinedValid n first end valid → valid ≡ valid_up_to_of U

  pub joint : {first from : ℕ} → unfinished (little_endian n rest) ≡ true → FirstChar n U first → PieceFrom n first (length b) from
      → Joint first from
  joint {first} {from} e f g =
      ⊎_elim (λ h. at_front (omega arith))
      (λ h. ⊎_elim (λ z. stopped (λ k. omega arith) (omega arith)) (λ z. goes_on (λ k. omega arith) (λ k. omega arith)) (le_or_lt first 0))
      (le_or_lt n 0)
    where
      at_front : n ≡ 0 → Joint first from
      at_front h =
          let z = f.no_rest h in
          let k = g.no_rest h in
          let same : U ≡ drop from b = joined_all b h ∙ ap (λ (m : ℕ). drop m b) (sym k) in
          record {
            chars_are = ap chars same ∙ ap (λ (l : List ℕ). l ++ chars (drop from b)) (sym (char-none first z));
            is_scalar_lem = λ w. absurd (w z);
            inside = omega arith;
            valid_is = λ end valid q j.
                j.no_rest h ∙ q ∙ ap (λ (m : ℕ). m + valid_up_to_of (drop from b)) k ∙ zero-add (valid_up_to_of (drop from b))
                ∙ ap valid_up_to_of (sym same);
          }

      stopped : (n ≡ 0 → ⊥) → first ≡ 0 → Joint first from
      stopped h z =
          let s = packed_stop U 0 first (f.with_rest h) z in
          let k = g.none_complete h z in
          let gone : drop from b ≡ [] = ap (λ (m : ℕ). drop m b) k ∙ drop-length b in
          record {
            chars_are = s.chars_none ∙ sym (chars_end [] read_char_nil) ∙ ap chars (sym gone)
                ∙ ap (λ (l : List ℕ). l ++ chars (drop from b)) (sym (char-none first z));
            is_scalar_lem = λ w. absurd (w z);
            inside = omega arith;
            valid_is = λ end valid q j. j.none_complete h z ∙ sym s.valid_up_to_zero;
          }

      goes_on : (n ≡ 0 → ⊥) → (first ≡ 0 → ⊥) → Joint first from
      goes_on h z =
          let s = packed_step U 0 first (f.with_rest h) z in
          let k = g.complete h z in
          let after : drop (0 + first % 8) U ≡ drop from b = after-rest from (0 + first % 8) (omega arith) in
          record {
            chars_are = s.chars_on ∙ ap (λ (l : List ℕ). first / 8 ∷ chars l) after
                ∙ ap (λ (l : List ℕ). l ++ chars (drop from b)) (sym (char-some first z));
            is_scalar_lem = λ w. s.is_scalar_lem;
            inside = omega (arith, s.room, length-append (little_endian n rest) b, length_bytes_of n rest);
            valid_is = λ end valid q j. let d = j.complete h z in omega (arith, s.valid_up_to_on, ap valid_up_to_of after);
          }

-- ---- the search for a change

none-counted : (p : Policy) (text : List ℕ) (at : ℕ) → chars (drop at text) ≡ [] → total (total_cells p (chars (drop at text))) ≡ 0
unfolding total_cells split count_cells
none-counted p text at e = ap (λ (t : List ℕ). total (total_cells p t)) e

module _ {p : Policy} {text : List ℕ} {from : ℕ} {c : Change} (k : NextChange p text from c) where
  moved : Advances text from c.end
  moved = go c.present refl
    where
      go : (b : Bool) → c.present ≡ b → Advances text from c.end
      go true e = (k.0 e).advances
      go false e = (k.1 e).stays.advances

  pub change_valid : {end : ℕ} → end ≡ c.end + valid_up_to_of (drop c.end text) → end ≡ from + valid_up_to_of (drop from text)
  change_valid e = let o = moved.on in omega (arith, moved.valid)

  pub change_none : c.present ≡ false → total (total_cells p (chars (drop from text))) ≡ 0
  change_none e = let n = k.1 e in n.stays.counted ∙ none-counted p text c.end n.ends

pub scanned : {p : Policy} {n rest : ℕ} {b : List ℕ} {first from end valid : ℕ} {plain : Bool} {c : Change} → Joint n rest b first from
    → NextChange p b from c → end ≡ c.end + valid_up_to_of (drop c.end b) → JoinedValid n first end valid → plain ≡ not c.present
    → Scanned p n rest b (record { first = first; from = from; end = end; valid = valid; plain = plain })
scanned {p} {n} {rest} {b} {first} {from} {end} {valid} {plain} {c} j k e v q =
    let d = change_valid k e in
    record {
      fits = record {
        is_scalar_lem = j.is_scalar_lem;
        inside = j.inside;
        end_is = d;
        plain_is = λ t. change_none k (unpresent c.present (sym q ∙ t));
      };
      chars_are = j.chars_are;
      valid_is = j.valid_is end valid d v;
    }
  where
    unpresent : (b : Bool) → not b ≡ true → b ≡ false
    unpresent true e = sym e
    unpresent false e = refl

-- ---- the offset that was found

pub valid_inside : {p : Policy} {n x : ℕ} {b : List ℕ} {r : PieceScan} → Scanned p n x b r → r.valid ≤ n + length b
valid_inside {n = n} {x = x} {b = b} s = omega (arith, s.valid_is, valid_up_to_le (little_endian n x ++ b), joined_length n x b)
