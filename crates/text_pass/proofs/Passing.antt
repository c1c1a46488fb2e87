-- Stretches of a text in which no finding starts or in which findings are passed, and items that are findings.
use mathlib.Core.Path.{◌≡◌, refl, ap, sym, ◌∙◌, subst}
use mathlib.Core.Bool.{Bool, true, false, cond, not}
use mathlib.Core.List.{List, ◌∷◌}
use Prim.Native.Nat.{ℕ, suc, ◌+◌, ◌-◌, ◌≤◌, ◌<◌}
use native.Mathlib.Omega.{arith}
use lib.ListN.{drop, length}
use borrow.Author.Tests.{eq-eqb, ne_eqb}
use Rattle.utf8.specs.Rfc3629.{chars, valid_up_to_of}
use Rattle.utf8.proofs.Places.{Step}
use Rattle.policy.specs.PolicyBytes.{ascii_keys_bare, policy_of}
use Rattle.policy.specs.declared.Policy.{Policy}
use Rattle.policy.proofs.ByEntry.{ascii_rule_bare}
use Rattle.scanner.specs.Classes.{class_of}
use Rattle.scanner.specs.Items.{Item, start_state, split_from, items, join, kind_of}
use Rattle.scanner.specs.Spans.{Found, found, size, width}
use Rattle.scanner.specs.declared.char_class.Class.TheVariants.{Other as other}
use Rattle.scanner.specs.declared.state.State.{State}
use Rattle.scanner.specs.declared.state.State.TheVariants.{Plain as plain}
use Rattle.scanner.proofs.Bytes.{size-chars}
use Rattle.scanner.proofs.Rescan.{found-items, found_none, found_skip, size_append}
use Rattle.scanner.proofs.ItemAt.{ItemAt, item_at_lem}
use Rattle.analysis.specs.Analysis.{is_finding, non_canonicality}
use Rattle.analysis.specs.CellView.{total_cells}
use Rattle.analysis.specs.Counts.{◌⊕◌, total}
use Rattle.analysis.specs.Findings.{findings_from}
use Rattle.analysis.specs.declared.types.NonCanonicality.{NonCanonicality}
use Rattle.analysis.proofs.Counts.{plus_cancel}
use Rattle.analysis.proofs.Items.{passthrough_no_finding}
use Rattle.text_pass.specs.Changes.{AsciiBare, total_from}
use Rattle.text_pass.specs.Findings.{
  Counted,
  Finds,
  SkipsFindings,
  NoFindingBetween,
  FindingsBetween,
  PlainBetween,
  none_skipped,
  one_skipped,
}
use Rattle.analysis.proofs.CellsOfItems.{total_first}
use Rattle.text_pass.proofs.PlainText.{other_plain, stays_plain}
use Rattle.text_pass.proofs.Staying.{advances_here, advances_on, stays_here, stays_on, step_advances}

-- ---- stretches without a finding

module _ {p : Policy} {text : List ℕ} where
  pub passes-here : (i : ℕ) → NoFindingBetween p text i i
  passes-here i = record { advances = advances_here i; same = refl }

  pub passes_on : {i j k : ℕ} → NoFindingBetween p text i j → NoFindingBetween p text j k → NoFindingBetween p text i k
  passes_on a b = record { advances = advances_on a.advances b.advances; same = a.same ∙ b.same }

-- ---- stretches with findings that do not end after a limit

skips_findings_append : {limit m n : ℕ} {fs gs hs : List Found} → SkipsFindings limit fs m gs → SkipsFindings limit gs n hs
    → SkipsFindings limit fs (m + n) hs
skips_findings_append {limit} {n = n} {fs} {hs = hs} none_skipped b = let z : n
    ≡ 0 + n = omega arith in subst (λ (k : ℕ). SkipsFindings limit fs k hs) z b
skips_findings_append {limit} {n = n} {fs} {hs = hs} (one_skipped {n = m} h k a) b = let z : suc (m + n)
    ≡ suc m + n = omega arith in subst (λ (k : ℕ). SkipsFindings limit fs k hs) z (one_skipped h k (skips_findings_append a b))

-- A list of findings is as long as the number of skipped findings and the list of the others together.
pub skips_findings_length : {limit n : ℕ} {fs gs : List Found} → SkipsFindings limit fs n gs → length fs ≡ n + length gs
skips_findings_length none_skipped = omega arith
skips_findings_length (one_skipped h k a) = let e = skips_findings_length a in omega arith

skips_findings_none : {n : ℕ} {fs gs : List Found} → SkipsFindings 0 fs n gs → fs ≡ gs
skips_findings_none none_skipped = refl
skips_findings_none (one_skipped h k a) = absurd (omega arith)

module _ {p : Policy} {text : List ℕ} {limit : ℕ} where
  pub over_here : (i : ℕ) → FindingsBetween p text limit i i 0
  over_here i = record { advances = advances_here i; few = omega arith; skips = none_skipped }

  pub over_on : {i j k m n : ℕ} → FindingsBetween p text limit i j m → FindingsBetween p text limit j k n
      → FindingsBetween p text limit i k (m + n)
  over_on a b =
      let l = a.advances.on in
      let m = b.advances.on in
      let f = a.few in
      let g = b.few in
      record {
        advances = advances_on a.advances b.advances;
        few = omega arith;
        skips = skips_findings_append a.skips b.skips;
      }

  -- A stretch in which findings are passed, followed by a stretch without a finding.
  pub over_passes : {i j k n : ℕ} → FindingsBetween p text limit i j n → NoFindingBetween p text j k → FindingsBetween p text limit i k n
  over_passes {i} {n = n} a b =
      let l = a.advances.on in
      let m = b.advances.on in
      let f = a.few in
      record {
        advances = advances_on a.advances b.advances;
        few = omega arith;
        skips = subst (λ (l : List Found). SkipsFindings limit (findings_from p text i) n l) b.same a.skips;
      }

-- No finding starts before offset 0, so that with this limit none is passed.
pub over_none : {p : Policy} {text : List ℕ} {i j n : ℕ} → FindingsBetween p text 0 i j n → NoFindingBetween p text i j
over_none a = record { advances = a.advances; same = skips_findings_none a.skips }

-- ---- an item, and the totals from its start and from its end on

module _ (p : Policy) (text : List ℕ) (at end : ℕ) {x : Item} {xs : List Item} (e : items (chars (drop at text)) ≡ x ∷ xs)
    (f : end ≡ at + size width x.chars) where
  h : ItemAt text at x xs
  h = item_at_lem text at e

  pub item_counts : total_cells p (chars (drop at text)) ≡ non_canonicality p x ⊕ total_cells p (chars (drop end text))
  item_counts =
      total_first p (chars (drop at text)) x xs e
      ∙ ap (λ (t : List ℕ). non_canonicality p x ⊕ total_cells p t) (sym h.text_after_lem ∙ ap (λ (n : ℕ). chars (drop n text)) (sym f))

  pub item_valid : valid_up_to_of (drop at text) ≡ (end - at) + valid_up_to_of (drop end text)
  item_valid =
      omega (
        arith,
        f,
        size-chars (drop at text),
        size-chars (drop (at + size width x.chars) text),
        ap (size width) h.bytes,
        ap
            (size width) h.text_after_lem,
        size_append width x.chars (join xs),
        ap (λ (n : ℕ). valid_up_to_of (drop n text)) f,
      )

  pub uncounted_item : total_from p text at ≡ total_from p text end → NoFindingBetween p text at end
  uncounted_item q =
      let z : total (non_canonicality p x) ≡ 0 = omega (arith, ap total item_counts) in
      let n : is_finding p x ≡ false = ap not (eq-eqb _ 0 z) in
      let s = h.some in
      let r = h.room in
      record {
        advances = record { on = omega arith; inside = λ _. omega arith; valid = item_valid };
        same =
            ap (found (is_finding p) width at) e ∙ found_none (is_finding p) width at x xs n
            ∙ ap (found (is_finding p) width (at + size width x.chars)) (sym h.after)
            ∙ ap (findings_from p text) (sym f);
      }

  pub counted-item : (m : NonCanonicality) → 1 ≤ total m → total_cells p (chars (drop at text)) ≡ m ⊕ total_cells p (chars (drop end text))
      → Counted p text at end m
  counted-item m l q =
      let c : m ≡ non_canonicality p x = plus_cancel m (non_canonicality p x) (total_cells p (chars (drop end text)))
      (sym q ∙ item_counts) in
      record {
        finds = record {
          item = x;
          after = xs;
          items_are = e;
          end_is = f;
          is-finding = ap not (ne_eqb (total (non_canonicality p x)) 0 (λ z. omega (arith, ap total c)));
        };
        counts_are = c;
      }

-- ---- an item that is a finding

module _ {p : Policy} {text : List ℕ} {start end : ℕ} (f : Finds p text start end) where
  here : ItemAt text start f.item f.after
  here = item_at_lem text start f.items_are

  pub finds_here : findings_from p text start ≡ record { start = start; item = f.item } ∷ findings_from p text end
  unfolding found
  finds_here =
      let n = start + size width f.item.chars in
      let l = found (is_finding p) width n f.after in
      ap (found (is_finding p) width start) f.items_are
      ∙ ap (λ (b : Bool). cond b (record { start = start; item = f.item } ∷ l) l) f.is-finding
      ∙ ap (λ (k : List Found). record { start = start; item = f.item } ∷ k)
      (ap (found (is_finding p) width n) (sym here.after) ∙ ap (findings_from p text) (sym f.end_is))

  pub finds_some : start < end
  finds_some = let e = f.end_is in let s = here.some in omega arith

  pub finds_room : end ≤ length text
  finds_room = let e = f.end_is in let r = here.room in omega arith

  -- A finding that does not end after the limit is passed.
  pub over_finding : {limit : ℕ} → end ≤ limit → FindingsBetween p text limit start end 1
  over_finding {limit} l =
      let s = finds_some in
      let r = finds_room in
      record {
        advances = record { on = omega arith; inside = λ _. r; valid = item_valid p text start end f.items_are f.end_is };
        few = omega arith;
        skips = subst (λ (k : List Found). SkipsFindings limit k 1 (findings_from p text end)) (sym finds_here)
            (one_skipped (omega arith) (omega (arith, f.end_is)) none_skipped);
      }

-- ---- plain characters

pub step-width : {text : List ℕ} {at v w : ℕ} → Step text at v w → width v ≡ w
step-width {text} {at} {v} {w} s =
    omega (arith, size-chars (drop at text), size-chars (drop (at + w) text), ap (size width) s.chars_on, s.valid_up_to_on)

-- No finding starts at a character of passthrough.
pub passes_plain : (p : Policy) {text : List ℕ} {at v w : ℕ} → Step text at v w → start_state (class_of v)
    ≡ plain → NoFindingBetween p text at (at + w)
unfolding items kind_of
passes_plain p {text} {at} {v} {w} s b =
    let t = chars (drop (at + w) text) in
    let x : Item = record { kind = kind_of (start_state (class_of v)); chars = v ∷ (split_from (start_state (class_of v)) t).0 } in
    let n : at + size width (v ∷ (split_from plain t).0) ≡ at + w + size width (split_from plain t).0 = omega (arith, step-width s) in
    record {
      advances = step_advances s;
      same =
          ap (λ (l : List ℕ). found (is_finding p) width at (items l)) s.chars_on
          ∙ found_skip (is_finding p) width (passthrough_no_finding p) at x (split_from (start_state (class_of v)) t).1 (ap kind_of b)
          ∙ ap (λ (q : State). found (is_finding p) width (at + size width (v ∷ (split_from q t).0)) (split_from q t).1) b
          ∙ ap (λ (m : ℕ). found (is_finding p) width m (split_from plain t).1) n
          ∙ sym (found-items (is_finding p) width (passthrough_no_finding p) (at + w) t);
    }

-- ---- plain text, which formatting also keeps

module _ {p : Policy} {text : List ℕ} where
  pub skips_here : (i : ℕ) → PlainBetween p text i i
  skips_here i = (stays_here i, passes-here i)

  pub skips_on : {i j k : ℕ} → PlainBetween p text i j → PlainBetween p text j k → PlainBetween p text i k
  skips_on a b = (stays_on a.0 b.0, passes_on a.1 b.1)

pub skips_other : (p : Policy) {text : List ℕ} {at v w : ℕ} → Step text at v w → class_of v ≡ other → PlainBetween p text at (at + w)
unfolding start_state
skips_other p {v = v} s e = (stays_plain p s (other_plain v e), passes_plain p s (ap start_state e))

-- The code skips plain text by what the policy's bytes say of the ASCII bases.
pub passed : (policy text : List ℕ) {at to : ℕ} {bare : Bool} → bare ≡ ascii_keys_bare policy
    → ((p : Policy) → (bare ≡ true → AsciiBare p) → PlainBetween p text at to)
    → NoFindingBetween (policy_of policy) text at to
passed policy text e s = (s (policy_of policy) (λ t. ascii_rule_bare policy (sym e ∙ t))).1

pub passes_skip : (policy text : List ℕ) {limit from at to n : ℕ} {bare : Bool} → bare ≡ ascii_keys_bare policy
    → FindingsBetween (policy_of policy) text limit from at n
    → ((p : Policy) → (bare ≡ true → AsciiBare p) → PlainBetween p text at to) → FindingsBetween (policy_of policy) text limit from to n
passes_skip policy text e a s = over_passes a (passed policy text e s)
