-- A pass that counts both lists of a stretch by two searches. The first passes the findings that end before the stretch, and the second
-- those that lie inside it.
use mathlib.Core.Path.{◌≡◌, refl, ap, sym, ◌∙◌}
use mathlib.Core.Bool.{Bool, true, false, ◌&&◌, cond}
use mathlib.Core.List.{List, [], map, Memᴰ}
use Prim.Native.Nat.{ℕ, ◌+◌, ◌≤◌}
use native.Mathlib.Omega.{arith}
use lib.Dec.{ltb}
use lib.ListN.{drop, length}
use Rattle.base.specs.Lists.{filter}
use Rattle.utf8.specs.Rfc3629.{chars}
use Rattle.policy.specs.declared.Policy.{Policy}
use Rattle.scanner.specs.Items.{items}
use Rattle.scanner.specs.Spans.{Found}
use Rattle.analysis.specs.declared.types.Finding.{Finding}
use Rattle.text_pass.specs.Findings.{Finds, NextFinding, SkipsFindings, none_skipped, one_skipped}
use Rattle.text_pass.specs.declared.findings.FindingSpan.{FindingSpan}
use Rattle.text_pass.proofs.Passing.{finds_here}
use Rattle.formatter.specs.Findings.{finding_row}
use Rattle.formatter.proofs.Steps.{none_found}
use Rattle.findings_near.specs.Around.{holds, inside, meets, only_shares}
use Rattle.findings_near.specs.Helpers.{rows_from}
use Rattle.findings_near.proofs.AroundPass.{
  NoneLeft,
  early_holds,
  early_meets,
  held,
  held-apart,
  past-holds,
  past-meets,
  stops,
}
use Rattle.findings_near.proofs.NextRows.{count-one}
use Rattle.findings_near.proofs.Order.{has-byte, none_pass, ordered-from, starts_from}
use Rattle.findings_near.proofs.Stretches.{starts_after}

module _ (p : Policy) (text : List ℕ) (from to : ℕ) where
  abbrev row : Found → Finding
  row = finding_row p text

  -- The numbers of findings of a list that lie inside the stretch, and that only share a byte with it.
  abbrev inner : List Finding → ℕ
  inner l = length (filter (inside from to) l)

  abbrev outer : List Finding → ℕ
  outer l = length (filter (only_shares from to) l)

  -- ---- findings that are passed

  -- Findings that do not end after the start of the stretch are in neither list.
  skip_before : {n : ℕ} {fs gs : List Found} → SkipsFindings from fs n gs
      → (inner (map row fs) ≡ inner (map row gs)) × (outer (map row fs) ≡ outer (map row gs))
  unfolding finding_row
  skip_before none_skipped = (refl, refl)
  skip_before (one_skipped {f} {fs} h k s) =
      let r = skip_before s in
      let c = count-one (inside from to) (row f) (map row fs) (early_holds from to f.start (row f).end h) refl in
      let d = count-one (only_shares from to) (row f) (map row fs) (early_meets from to f.start (row f).end k) refl in
      (omega (arith, c, r.0), omega (arith, d, r.1))

  -- Findings that start in the stretch and do not end after it lie inside it.
  skip_inside : {n : ℕ} {fs gs : List Found} → SkipsFindings to fs n gs → ((g : Finding) → Memᴰ g (map row fs) → from ≤ g.start)
      → (inner (map row fs) ≡ n + inner (map row gs)) × (outer (map row fs) ≡ outer (map row gs))
  unfolding finding_row
  skip_inside none_skipped b = (omega arith, refl)
  skip_inside (one_skipped {f} {fs} h k s) b =
      let l = b (row f) (Memᴰ.head refl) in
      let r = skip_inside s (λ x y. b x (Memᴰ.tail y)) in
      let c = count-one (inside from to) (row f) (map row fs) (held from to f.start (row f).end l h k) refl in
      let d = count-one (only_shares from to) (row f) (map row fs) (held-apart from to f.start (row f).end l h k) refl in
      (omega (arith, c, r.0), omega (arith, d, r.1))

  -- ---- a finding at which a search stops

  module _ {start end : ℕ} (f : Finds p text start end) {a b : Bool} {x y : ℕ} (e : a ≡ holds from to start end) (g : x ≡ cond a 1 0)
      (h : b ≡ meets from to start end) (k : y ≡ cond b 1 0) where
    count-found : (inner (rows_from p text start) ≡ x + inner (rows_from p text end))
        × (outer (rows_from p text start) ≡ y + outer (rows_from p text end))
    unfolding finding_row
    count-found =
        let r = ap (map row) (finds_here f) in
        let o = row (record { start = start; item = f.item }) in
        let z = ap (holds from to start) f.end_is in
        let w = ap (meets from to start) f.end_is in (
          ap inner r ∙ count-one (inside from to) o (rows_from p text end) (e ∙ z) g,
          ap outer r ∙ count-one (only_shares from to) o (rows_from p text end) (h ∙ w) k,
        )

  -- ---- findings after the stretch

  -- Findings that do not start before the end of the stretch are in neither list.
  none-later : (at : ℕ) → to ≤ at → NoneLeft p text from to at
  none-later at h =
      let none : (g : Finding) → Memᴰ g (rows_from p text at) → (inside from to g ≡ false) × (only_shares from to g ≡ false) =
      λ g m.
      let s = starts_from p text (items (chars (drop at text))) at g m in
      starts_after from to g (has-byte (ordered-from p text at) g m) (omega arith) in
      record {
        inner = none_pass (inside from to) (rows_from p text at) (λ g m. (none g m).0);
        outer = none_pass (only_shares from to) (rows_from p text at) (λ g m. (none g m).1);
      }

  -- Where no character begins, no finding is left.
  none-ended : {at : ℕ} → chars (drop at text) ≡ [] → NoneLeft p text from to at
  unfolding filter
  none-ended {at} e =
      let z = ap (map row) (none_found p text at e) in
      record { inner = ap (filter (inside from to)) z; outer = ap (filter (only_shares from to)) z }

  -- ---- both lists

  -- The first finding that ends after the start of the stretch.
  module _ {a : FindingSpan} (n : NextFinding p text from 0 a) where
    -- It is not there, or does not start before the end of the stretch.
    pub none-around : {x : Bool} → x ≡ (a.present && ltb a.start to) → x ≡ false
        → (0 ≡ inner (rows_from p text 0)) × (0 ≡ outer (rows_from p text 0))
    none-around e f =
        let l = stops a.start to e f (λ z. none-ended (n.2 z).0) (λ z h. none-later a.start h) in
        let s = skip_before n.0.skips in
        (omega (arith, s.0, ap length l.inner), omega (arith, s.1, ap length l.outer))

    -- It is there, and a second search passes the findings inside the stretch after it.
    module _ (e : a.present ≡ true) {b : FindingSpan} (m : NextFinding p text to a.end b) where
      later : from ≤ b.start
      later = omega (arith, (n.1 e).0, m.0.advances.on)

      -- The finding at which the second search stops ends after the stretch.
      last_found : {x : Bool} {y : ℕ} → x ≡ (b.present && ltb b.start to) → y ≡ cond x 1 0
          → (inner (rows_from p text b.start) ≡ 0) × (outer (rows_from p text b.start) ≡ y)
      last_found {x} {y} g h = go b.present refl (h ∙ ap (λ (x : Bool). cond x 1 0) g)
        where
          go : (x : Bool) → b.present ≡ x → y ≡ cond (x && ltb b.start to) 1 0
              → (inner (rows_from p text b.start) ≡ 0) × (outer (rows_from p text b.start) ≡ y)
          go false z k = let l = none-ended (m.2 z).0 in (ap length l.inner, ap length l.outer ∙ sym k)
          go true z k =
              let f = m.1 z in
              let l = none-later b.end (let o = f.0 in omega arith) in
              let c = count-found f.1 (past-holds from to b.start b.end later f.0) refl
              (past-meets from to b.start b.end later f.0) k in
              (omega (arith, c.0, ap length l.inner), omega (arith, c.1, ap length l.outer))

      pub some-around : {v w x : Bool} {i j k : ℕ} → v ≡ holds from to a.start a.end → i ≡ cond v 1 0
          → w ≡ meets from to a.start a.end → j ≡ cond w 1 0 → x ≡ (b.present && ltb b.start to) → k ≡ cond x 1 0
          → (i + b.passed ≡ inner (rows_from p text 0)) × (j + k ≡ outer (rows_from p text 0))
      some-around g i h j x k =
          let s = skip_before n.0.skips in
          let c = count-found (n.1 e).1 g i h j in
          let r = skip_inside m.0.skips (λ y z.
          let o = starts_from p text (items (chars (drop a.end text))) a.end y z in
          omega (arith, (n.1 e).0)) in
          let l = last_found x k in
          (omega (arith, s.0, c.0, r.0, l.0), omega (arith, s.1, c.1, r.1, l.1))
