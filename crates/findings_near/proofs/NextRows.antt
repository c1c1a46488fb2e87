-- What the answer of `next_finding` says of the listed findings from an offset on, and the bytes of rows that pass a test.
use mathlib.Core.Path.{◌≡◌, refl, ap, subst, sym, ◌∙◌}
use mathlib.Core.Bool.{Bool, true, false, cond}
use mathlib.Core.List.{List, [], ◌∷◌, ◌++◌, map}
use Prim.Native.Nat.{ℕ, ◌+◌, ◌≤◌}
use native.Mathlib.Nat.{zero-add}
use native.Mathlib.Omega.{arith}
use lib.ListN.{drop, length}
use lib.Seq.{sets, sets-eq}
use Rattle.std.specs.Int.{from_bool}
use Rattle.base.specs.Lists.{filter}
use Rattle.base.specs.Output.{PutAt}
use Rattle.base.specs.Tables.{rows_bytes}
use Rattle.base.specs.Words.{bytes_of}
use Rattle.positions.specs.Positions.{AtPosition, capped_plus, count_between, position_at}
use Rattle.positions.specs.declared.TextCount.{TextCount}
use Rattle.policy.specs.declared.Policy.{Policy}
use Rattle.scanner.specs.Spans.{size, width}
use Rattle.scanner.proofs.Bytes.{size-chars}
use Rattle.analysis.specs.declared.types.Finding.{Finding}
use Rattle.text_pass.specs.Changes.{Advances}
use Rattle.text_pass.specs.Findings.{NextFinding}
use Rattle.text_pass.specs.declared.findings.FindingSpan.{FindingSpan}
use Rattle.text_pass.proofs.Passing.{item_valid, over_finding, over_none}
use Rattle.text_pass.proofs.Staying.{advances_on}
use Rattle.formatter.specs.Findings.{finding_row}
use Rattle.formatter.specs.List.{row_numbers}
use Rattle.formatter.proofs.Steps.{none_found, row_by}
use Rattle.listing.proofs.NextFindings.{finds_ahead, finds_positions, finds_row, next_row}
use Rattle.findings_near.specs.Helpers.{IsLast, IsNext}

-- ---- the next finding

module _ {p : Policy} {text : List ℕ} {at : ℕ} {r : FindingSpan} (n : NextFinding p text 0 at r) where
  -- A finding that is present, with the positions of its start and its end counted on from the offset.
  pub is_next : r.present ≡ true → {before m first k last : TextCount} → AtPosition text at before → m ≡ count_between text at r.start
      → first ≡ capped_plus before m → k ≡ count_between text r.start r.end → last ≡ capped_plus first k
      → IsNext p text at (row_by r.start r.end r.counts first last)
  is_next e {before} {m} {first} {k} {last} a hm hf hk hl =
      let f = (n.1 e).2 (omega arith) in
      let v = (over_none n.0).advances in
      let o = finds_positions (over_none n.0) f.finds a hm hf hk hl in
      let h = finds_ahead f.finds in
      let w = item_valid p text r.start r.end f.finds.items_are f.finds.end_is in
      record {
        rows = next_row (over_none n.0) (finds_row f o.0 o.1);
        on = v.on;
        some = h.some;
        room = h.room;
        valid = omega (arith, v.valid, v.on, h.some, w);
        after = o.1;
      }

  -- The same with the positions that the text has.
  pub is_next_in : r.present ≡ true → AtPosition text at (position_at text at)
      → IsNext p text at (row_by r.start r.end r.counts (capped_plus (position_at text at) (count_between text at r.start))
      (capped_plus (capped_plus (position_at text at) (count_between text at r.start)) (count_between text r.start r.end)))
  is_next_in e a = is_next e a refl refl refl refl

  pub is_last : r.present ≡ false → IsLast p text at r.start
  is_last e =
      let s = (n.2 e).0 in
      let v = (over_none n.0).advances in
      record {
        rows = ap (map (finding_row p text)) ((over_none n.0).same ∙ none_found p text r.start s);
        valid = omega (arith, v.valid, v.on, size-chars (drop r.start text), ap (size width) s);
      }

-- A search reads up to the end of the finding that it returns, and the text is well-formed up to there.
pub span_advances : {p : Policy} {text : List ℕ} {limit at : ℕ} {r : FindingSpan} → NextFinding p text limit at r
    → Advances text at r.end
span_advances {text = text} {at = at} {r = r} n = go r.present refl
  where
    go : (b : Bool) → r.present ≡ b → Advances text at r.end
    go true e = advances_on n.0.advances (over_finding (n.1 e).1 {limit = r.end} (omega arith)).advances
    go false e = subst (Advances text at) (sym (n.2 e).1) n.0.advances

-- The position that a count says is that of the text.
pub at_own : {text : List ℕ} {n : ℕ} {c : TextCount} → AtPosition text n c → AtPosition text n (position_at text n)
at_own {text} {n} a = subst (AtPosition text n) a.position a

-- ---- one finding more

-- A test as a number.
pub from_bool_is : (b : Bool) → from_bool b ≡ cond b 1 0
from_bool_is false = refl
from_bool_is true = refl

pub from_bool_small : (b : Bool) → from_bool b ≤ 1
from_bool_small false = omega arith
from_bool_small true = omega arith

module _ (test : Finding → Bool) (f : Finding) (l : List Finding) where
  pub count-one : {a : Bool} {n : ℕ} → a ≡ test f → n ≡ cond a 1 0 → length (filter test (f ∷ l)) ≡ n + length (filter test l)
  unfolding filter
  count-one {a} {n} e h = go a (sym e) h
    where
      go : (b : Bool) → test f ≡ b → n ≡ cond b 1 0
          → length (cond (test f) (f ∷ filter test l) (filter test l)) ≡ n + length (filter test l)
      go true g h = ap (λ (b : Bool). length (cond b (f ∷ filter test l) (filter test l))) g ∙ omega arith
      go false g h = ap (λ (b : Bool). length (cond b (f ∷ filter test l) (filter test l))) g ∙ omega arith

  pub write-one : {a : Bool} → a ≡ test f
      → rows_bytes row_numbers (filter test (f ∷ l)) ≡ cond a (bytes_of (row_numbers f)) [] ++ rows_bytes row_numbers (filter test l)
  unfolding filter rows_bytes
  write-one {a} e = go a (sym e)
    where
      R : Bool → List ℕ
      R b = rows_bytes row_numbers (cond b (f ∷ filter test l) (filter test l))

      go : (b : Bool) → test f ≡ b → R (test f) ≡ cond b (bytes_of (row_numbers f)) [] ++ rows_bytes row_numbers (filter test l)
      go true g = ap R g
      go false g = ap R g

-- ---- a row that is wanted or not

pub put_yes : {o o' xs : List ℕ} {s r : ℕ} {wanted : Bool} → wanted ≡ true → PutAt o s xs o' r → PutAt o s (cond wanted xs []) o' r
put_yes {o} {o'} {xs} {s} {r} e p = subst (λ (b : Bool). PutAt o s (cond b xs []) o' r) (sym e) p

-- A table after bytes were written at its front.
pub front : (table : List ℕ) {after : List ℕ} (result : List ℕ) → length result ≤ length table → after ≡ sets table 0 result
    → after ≡ result ++ drop (length result) table
front table result h e = e ∙ sets-eq result table 0 (omega arith) ∙ ap (λ (k : ℕ). result ++ drop k table) (zero-add (length result))
