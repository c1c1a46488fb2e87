-- A mending call by its parts: the text that it writes, and the tests of the decisions for the finding at the offset.
use Rattle.std.specs.Prelude.{Ok, Err, Result, Option, Some, None}
use mathlib.Core.Path.{◌≡◌, refl, ap, ap₂, sym, ◌∙◌}
use mathlib.Core.List.{List, [], ◌∷◌, ◌++◌, append-nil, map}
use Prim.Native.Nat.{ℕ, ◌+◌, ◌*◌, ◌-◌, ◌≤◌, ◌<◌}
use native.Mathlib.Omega.{arith}
use lib.ListN.{drop, length, length-append, length-drop, take, take-append-drop}
use lib.Seq.{drop-length, length-sets, length-take-le, sets}
use borrow.Author.Tests.{le-leb}
use Rattle.base.specs.Refusals.{After, unwritten, or_else, text_limit}
use Rattle.base.specs.declared.Refusal.{Refusal}
use Rattle.base.specs.declared.Refusal.TheVariants.{NoFinding, OutputTooShort}
use Rattle.utf8.specs.Rfc3629.{chars, encode_all}
use Rattle.utf8.proofs.Texts.{valid_up_to_le}
use Rattle.emoji.specs.declared.presentation.Presentation.{Presentation}
use Rattle.policy.specs.PolicyBytes.{policy_of}
use Rattle.policy.specs.declared.Policy.{Policy}
use Rattle.scanner.specs.Items.{Item}
use Rattle.scanner.proofs.Bytes.{size-chars, size-width}
use Rattle.analysis.specs.Analysis.{non_canonicality, render, replacement}
use Rattle.analysis.specs.CellView.{total_cells}
use Rattle.analysis.specs.Cells.{cells}
use Rattle.analysis.specs.Decisions.{decisions_refusal, judge, meaning, within_limit, write_out}
use Rattle.analysis.specs.declared.types.NonCanonicality.{NonCanonicality}
use Rattle.analysis.specs.Findings.{finding_at, findings_from}
use Rattle.analysis.proofs.Items.{finding_no_passthrough}
use Rattle.analysis.proofs.ItemsAt.{item-totals}
use Rattle.analysis.proofs.Lengths.{render_bytes}
use Rattle.analysis.proofs.Replacing.{item-written, out_short, out_written, part, part-within, part-written}
use Rattle.formatter.specs.Demand3.{Accepted}
use Rattle.formatter.specs.Findings.{findings}
use Rattle.formatter.specs.Mend.{exchanged, mend}
use Rattle.mending.specs.Parts.{Starts, cells_written, with_cells_written}
use Rattle.mending.proofs.Around.{between}
use Rattle.formatter.proofs.Calls.{pass_intake}

-- ---- the text that is written

-- The bytes written for the cells of a part are at most four times as many as the text has.
pub cells-few : (p : Policy) (text : List ℕ) (start end : ℕ) (ds : List Presentation)
    → length (cells_written p text start end ds) ≤ 4 * length text
cells-few p text start end ds =
    let raw = part text start end in
    let t = chars raw in
    omega (arith, render_bytes p t ds, size-width (render p (cells t) ds), size-chars raw, valid_up_to_le raw, part-within text start end)

-- The text, with the part from start up to end exchanged for its written cells, which have n bytes.
module _ (p : Policy) (text : List ℕ) (start : ℕ) (decisions : List ℕ) {end n : ℕ} (s : start ≤ end) (e : end ≤ length text)
    (h : length text ≤ text_limit) (g : n ≡ length (cells_written p text start end (map meaning decisions))) (out : List ℕ) where
  abbrev B : List ℕ
  B = cells_written p text start end (map meaning decisions)

  abbrev R : List ℕ
  R = with_cells_written p text start end (map meaning decisions)

  start_length : length (take start text) ≡ start
  start_length = length-take-le start text (omega arith)

  wanted_is : start + n + (length text - end) ≡ length R
  wanted_is = omega (
    arith,
    start_length,
    length-append (take start text ++ B) (drop end text),
    length-append (take start text) B,
    length-drop end text,
  )

  pub exchange_short : length out < start + n + (length text - end)
      → unwritten (Err (OutputTooShort (start + n + (length text - end)))) out ≡ write_out R out
  exchange_short l = out_short R out _ wanted_is l

  -- Written into a buffer of their own length, the cells fill it.
  part_filled : (a : List ℕ) → length a ≡ n → (write_out B a).buffer ≡ B
  part_filled a l =
      let t = le-leb (length B) (length a) (omega arith) in
      let b : B ++ drop (length B) a ≡ B = ap (λ (k : ℕ). B ++ drop k a) (sym (l ∙ g)) ∙ ap (λ (l : List ℕ). B ++ l) (drop-length a)
      ∙ append-nil B in
      sym (simp t) ∙ b

  -- The bytes before and after the part are put into the output, and the cells are written between them.
  pub exchange_written : start + n + (length text - end) ≤ length out → {k : ℕ} → k ≡ n
      → {o : List ℕ} → o ≡ sets (sets out 0 (take start text)) (start + n) (drop end text)
      → {w : Result ℕ Refusal} {b : List ℕ} → record { answer = w; buffer = b }
      ≡ within_limit (part text start end) (take k (drop start o)) (write_out B (take k (drop start o)))
      → record { answer = Ok (start + n + (length text - end)); buffer = take start o ++ (b ++ drop k (drop start o)) }
      ≡ write_out R out
  exchange_written l {k} f {o} c {w} {b} r =
      let a = take start text in
      let d = drop end text in
      let q = take k (drop start o) in
      let whole : length o ≡ length out = ap length c ∙ length-sets (sets out 0 a) (start + n) d ∙ length-sets out 0 a in
      let filled : length q ≡ n = length-take-le k (drop start o) (omega (arith, length-drop start o)) ∙ f in
      let m : b ≡ B = ap (λ (a : After (Result ℕ Refusal) ℕ). a.buffer) (part-written text q start end h r) ∙ part_filled q filled in
      let z = between a B d out start_length (sym g) (omega (arith, length-drop end text)) in
      let v : take start o ++ (b ++ drop k (drop start o)) ≡ R ++ drop (length R) out =
      ap₂ (λ (b : List ℕ) (k : ℕ). take start o ++ (b ++ drop k (drop start o))) m f
      ∙ ap (λ (o : List ℕ). take start o ++ (B ++ drop n (drop start o))) c ∙ z in
      out_written R out _ wanted_is _ l v

  -- If the written cells have no bytes, the output has only the bytes before and after the part.
  pub exchange_nothing : n ≡ 0 → start + n + (length text - end) ≤ length out → {o : List ℕ} → o
      ≡ sets (sets out 0 (take start text)) (start + n) (drop end text)
      → record { answer = Ok (start + n + (length text - end)); buffer = o } ≡ write_out R out
  exchange_nothing f l {o} c =
      let b : B ≡ [] = nothing B (sym g ∙ f) in
      let z = between (take start text) B (drop end text) out start_length (sym g) (omega (arith, length-drop end text)) in
      let v : o ≡ R ++ drop (length R) out =
      sym (take-append-drop start o) ∙ ap₂ (λ (b : List ℕ) (k : ℕ). take start o ++ (b ++ drop k (drop start o))) (sym b) (sym f)
      ∙ ap (λ (o : List ℕ). take start o ++ (B ++ drop n (drop start o))) c ∙ z in
      out_written R out _ wanted_is _ l v
    where
      nothing : (b : List ℕ) → length b ≡ 0 → b ≡ []
      nothing [] e = refl
      nothing (x ∷ b) e = absurd (omega arith)

-- ---- the call

module _ (policy text : List ℕ) (acc : Accepted policy text) (offset : ℕ) (decisions : List ℕ) where
  abbrev P : Policy
  P = policy_of policy

  abbrev ds : List Presentation
  ds = map meaning decisions

  -- The outcome of the call after the intake, by the finding at the offset.
  mend-by : {x : Option Item} → finding_at offset (findings_from P text 0) ≡ x
      → (out : List ℕ) → mend text policy offset decisions out ≡ judge P x decisions (exchanged text P offset ds x) out
  unfolding mend findings
  mend-by e out =
      let f : Option Item → After (Result ℕ Refusal) ℕ = λ x. judge P x decisions (exchanged text P offset ds x) out in
      ap (λ (o : Option Refusal). or_else o (λ (r : Refusal). unwritten (Err r) out) (f (finding_at offset (findings text policy))))
      (pass_intake policy text acc)
      ∙ ap f e

  pub mend-nothing : finding_at offset (findings_from P text 0) ≡ None → (out : List ℕ) → unwritten (Err NoFinding) out
      ≡ mend text policy offset decisions out
  unfolding judge
  mend-nothing e out = sym (mend-by e out)

  -- A finding starts at the offset and ends at `end`. The counts of its bytes decide how many decisions it wants.
  pub mend-tested : {end : ℕ} → Starts P text offset end → {q : Policy} → q ≡ P → {n : NonCanonicality} → n
      ≡ total_cells q (chars (part text offset end))
      → {t : Option Refusal} → decisions_refusal n.presentation_decisions decisions ≡ t → (out : List ℕ) {a : After (Result ℕ Refusal) ℕ}
      → a ≡ or_else t (λ (r : Refusal). unwritten (Err r) out)
      (write_out (with_cells_written q text offset end ds) out)
      → a ≡ mend text policy offset decisions out
  unfolding judge
  mend-tested {end} s {q} r {n} c {t} d out e =
      let h = s.finds in
      let x = h.item in
      let o = finding_no_passthrough P x h.is-finding in
      let m : n ≡ non_canonicality P x = c ∙ ap (λ (q : Policy). total_cells q (chars (part text offset end))) r
      ∙ item-totals P text offset h.items_are o h.end_is in
      let w : cells_written q text offset end ds ≡ encode_all (replacement P x ds) =
      ap (λ (q : Policy). cells_written q text offset end ds) r ∙ item-written P text offset h.items_are o h.end_is ds in
      let k : end ≡ offset + length (encode_all x.chars) = omega (arith, h.end_is, size-width x.chars) in
      e ∙ ap₂ (λ (b : List ℕ) (k : ℕ). or_else t (λ (r : Refusal). unwritten (Err r) out)
      (write_out (take offset text ++ b ++ drop k text) out)) w k
      ∙ ap (λ (t : Option Refusal). or_else t (λ (r : Refusal). unwritten (Err r) out)
      (write_out (exchanged text P offset ds (Some x)) out))
      (sym d ∙ ap (λ (n : NonCanonicality). decisions_refusal n.presentation_decisions decisions) m)
      ∙ sym (mend-by s.found out)
