-- The finding that starts at an offset, if there is one, is the first that ends after the offset.
use Rattle.std.specs.Prelude.{Some}
use mathlib.Core.Path.{◌≡◌, refl, ap, sym, ◌∙◌}
use mathlib.Core.Bool.{Bool, true, false, cond, true≢false}
use mathlib.Core.List.{List}
use Prim.Native.Nat.{ℕ, ◌+◌}
use native.Mathlib.Omega.{arith}
use lib.Dec.{eqb}
use lib.ListN.{drop}
use borrow.Author.Tests.{eq-eqb, eqb-true, ne_eqb}
use Rattle.utf8.specs.Rfc3629.{chars, valid_up_to_of}
use Rattle.policy.specs.declared.Policy.{Policy}
use Rattle.scanner.specs.Items.{items}
use Rattle.scanner.specs.Spans.{Found, size, width}
use Rattle.analysis.specs.Findings.{finding_at, findings_from}
use Rattle.text_pass.specs.Findings.{Finds, SkipsFindings, NextFinding, none_skipped, one_skipped}
use Rattle.text_pass.specs.declared.findings.FindingSpan.{FindingSpan}
use Rattle.mending.specs.Parts.{FindingStarting, Starts}
use Rattle.text_pass.proofs.Passing.{finds_here}
use Rattle.analysis.proofs.StartingItems.{no_finding-past}
use Rattle.formatter.proofs.Steps.{none_found}

-- Findings that do not end after the limit o do not change which finding starts at o.
skips_findings_at : (o : ℕ) {n : ℕ} {fs gs : List Found} → SkipsFindings o fs n gs → finding_at o fs ≡ finding_at o gs
unfolding finding_at
skips_findings_at o none_skipped = refl
skips_findings_at o (one_skipped {f} {fs} h k a) =
    ap (λ (b : Bool). cond b (Some f.item) (finding_at o fs)) (ne_eqb f.start o (λ e. omega arith)) ∙ skips_findings_at o a

module _ {p : Policy} {text : List ℕ} where
  module _ (o : ℕ) {start end : ℕ} (h : Finds p text start end) where
    -- The finding at the offset o is this one if it starts there, else one of the findings after it.
    finding-by : {b : Bool} → eqb start o ≡ b → finding_at o (findings_from p text start)
        ≡ cond b (Some h.item) (finding_at o (findings_from p text end))
    unfolding finding_at
    finding-by e = ap (finding_at o) (finds_here h) ∙ ap (λ (b : Bool). cond b (Some h.item) (finding_at o (findings_from p text end))) e

    starts-here : start ≡ o → finding_at o (findings_from p text 0) ≡ finding_at o (findings_from p text start) → Starts p text o end
    starts-here e i = record {
      finds = record {
        item = h.item;
        after = h.after;
        items_are = ap (λ (k : ℕ). items (chars (drop k text))) (sym e) ∙ h.items_are;
        end_is = h.end_is ∙ ap (λ (k : ℕ). k + size width h.item.chars) e;
        is-finding = h.is-finding;
      };
      found = i ∙ finding-by (eq-eqb start o e);
    }

  -- The next finding that ends after the offset.
  module _ (o : ℕ) {r : FindingSpan} (n : NextFinding p text o 0 r) where
    next-same : finding_at o (findings_from p text 0) ≡ finding_at o (findings_from p text r.start)
    next-same = skips_findings_at o n.0.skips

    -- No finding is present.
    pub none-further : r.present ≡ false → FindingStarting p text o (record { end = r.end; present = false })
    unfolding finding_at
    none-further m = (λ t. absurd (true≢false (sym t)), λ _. next-same ∙ ap (finding_at o) (none_found p text r.start (n.2 m).0))

    -- A finding is present: at the offset, across it or after it.
    pub none_before : r.present ≡ true
        → FindingStarting p text o (record { end = r.end; present = eqb r.start o })
    none_before m = (
      λ t. starts-here o (n.1 m).1 (eqb-true r.start o t) next-same,
      λ f. next-same ∙ finding-by o (n.1 m).1 f ∙ no_finding-past p o r.end (items (chars (drop r.end text))) (n.1 m).0,
    )

    pub next-valid : r.start + valid_up_to_of (drop r.start text) ≡ valid_up_to_of text
    next-valid = let v = n.0.advances.valid in omega arith
