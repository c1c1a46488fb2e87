-- The calls that write a replacement: the result of each, by its tests, and that the written bytes of a finding are its
-- replacement.
use Rattle.std.specs.Prelude.{Ok, Err, Result, Option, ⊤, Some, None}
use mathlib.Core.Path.{◌≡◌, refl, ap, sym, ◌∙◌, subst}
use mathlib.Core.Logic.{◌≢◌}
use mathlib.Core.Bool.{Bool, true, false, cond, true≢false}
use mathlib.Core.List.{List, [], ◌∷◌, ◌++◌, map}
use Prim.Native.Nat.{ℕ, ◌+◌, ◌-◌, ◌<◌, ◌≤◌}
use native.Mathlib.Omega.{arith}
use lib.Dec.{leb}
use lib.ListN.{drop, length, length-drop, length-take, take}
use borrow.Author.Tests.{le-leb, leb-true, lt-leb}
use types.Run.{OneOf, miss}
use denote.Enum.Declared.{tag_of}
use Rattle.base.specs.Output.{PutAt, buffer_of}
use Rattle.base.specs.Refusals.{After, checked, unwritten, or_else, text_limit}
use Rattle.base.specs.declared.Refusal.{Refusal}
use Rattle.base.specs.declared.Refusal.TheVariants.{NoFinding, OutputTooShort, TextTooLong}
use Rattle.base.proofs.Output.{wrote}
use Rattle.utf8.specs.Rfc3629.{chars, encode_all}
use Rattle.emoji.specs.declared.presentation.Presentation.{Presentation}
use Rattle.policy.specs.declared.Policy.{Policy}
use Rattle.scanner.specs.Grammar.{Derives, headed_by_emoji, only_links, passthrough, selector_and, run_of_selectors}
use Rattle.scanner.specs.Items.{Item, items}
use Rattle.positions.specs.Positions.{no_count}
use Rattle.scanner.specs.Spans.{scan, size, width}
use Rattle.scanner.specs.TextCheck.{text_refusal}
use Rattle.scanner.specs.declared.ScanKind.{ScanKind}
use Rattle.scanner.specs.declared.ScanKind.TheVariants.{Passthrough}
use Rattle.scanner.proofs.TextTests.{text_is}
use Rattle.analysis.specs.contracts.ItemAnalysis.{the_type as the-analysis}
use Rattle.analysis.specs.Analysis.{is_finding, non_canonicality, render, renew, replacement, replacement_of}
use Rattle.analysis.specs.Cells.{Cell, cells}
use Rattle.analysis.specs.Decisions.{decisions_refusal, judge, meaning, within_limit, write_out}
use Rattle.analysis.specs.Helpers.{starting_analysis, starts_at}
use Rattle.analysis.specs.ItemAt.{
  analysis_at,
  analysis_of,
  canonical_of,
  finding_of,
  finding_starting,
  replace_at,
  replace_by_default,
  replacement_bytes,
  write_found,
}
use Rattle.analysis.specs.declared.ItemAnalysis.{ItemAnalysis}
use Rattle.analysis.specs.declared.ItemAnalysis.TheVariants.{End, NonCanonical}
use Rattle.analysis.specs.declared.types.Finding.{Finding}
use Rattle.analysis.specs.declared.types.NonCanonicality.{NonCanonicality}
use Rattle.analysis.proofs.Items.{finding_no_passthrough}
use Rattle.analysis.proofs.ItemsAt.{item-chars, item_derived, item-within}
use Rattle.analysis.proofs.StartingItems.{finding-starting, head_finding}
use Rattle.analysis.proofs.Units.{split_S}

-- ---- writing out

module _ (result out : List ℕ) (len : ℕ) (e : len ≡ length result) where
  -- If the result does not fit, the buffer is as it was.
  pub out_short : length out < len → unwritten (Err (OutputTooShort len)) out ≡ write_out result out
  out_short h =
      let t = lt-leb (length result) (length out) (omega arith) in
      ap (λ (n : ℕ). unwritten (Err (OutputTooShort n)) out) e ∙ simp t

  -- If the result fits, it stands at the front of the buffer.
  pub out_written : (after : List ℕ) → len ≤ length out → after ≡ result ++ drop (length result) out
      → record { answer = Ok len; buffer = after } ≡ write_out result out
  out_written after h b = let t = le-leb (length result) (length out) (omega arith) in (λ i. record { answer = Ok (e i); buffer = b i })
      ∙ simp t

  pub out_put : (after : List ℕ) (r : ℕ) → len ≤ length out → PutAt out 0 result after r → record { answer = Ok len; buffer = after }
      ≡ write_out result out
  unfolding buffer_of
  out_put after r h p = let t = le-leb (length result) (length out) (omega arith) in out_written after h ((wrote e h p).buffer ∙ simp t)

-- ---- the limit

module _ (text out : List ℕ) (next : After (Result ℕ Refusal) ℕ) where
  pub too_long : text_limit < length text → unwritten (Err TextTooLong) out ≡ within_limit text out next
  too_long h = simp (lt-leb (length text) text_limit h)

  pub not_too_long : length text ≤ text_limit → next ≡ within_limit text out next
  not_too_long h = simp (le-leb (length text) text_limit h)

-- ---- the finding at an offset

-- The bytes of a text from an offset up to an end.
abbrev pub part : List ℕ → ℕ → ℕ → List ℕ
part text at end = take (end - at) (drop at text)

pub part-within : (text : List ℕ) (at end : ℕ) → length (part text at end) ≤ length text
part-within text at end = omega (arith, length-take (end - at) (drop at text), length-drop at text)

-- A part of a text within the limit is within the limit: the test of its length passes.
pub part-written : (text out : List ℕ) (at end : ℕ) → length text ≤ text_limit → {a next : After (Result ℕ Refusal) ℕ} → a
    ≡ within_limit (part text at end) out next → a ≡ next
part-written text out at end l e = e ∙ sym (not_too_long (part text at end) out _ (omega (arith, part-within text at end)))

-- The finding that starts at an offset.
pub record FoundAt (p : Policy) (text : List ℕ) (at : ℕ) (f : Finding) : Type 0 where
  pub item : Item
  pub after : List Item
  pub items_are : items (chars (drop at text)) ≡ item ∷ after
  pub starting : finding_starting p text at ≡ Some item
  pub found : is_finding p item ≡ true
  pub end_is : f.end ≡ at + size width item.chars
  pub counts_are : f.counts ≡ non_canonicality p item

-- The bytes of the finding's renewed cells under decisions.
abbrev cells_written : Policy → List ℕ → ℕ → Finding → List Presentation → List ℕ
cells_written p text at f ds = encode_all (render p (cells (chars (part text at f.end))) ds)

-- The test of the decisions for the finding.
abbrev test_of : Finding → List ℕ → Option Refusal
test_of f decisions = decisions_refusal f.counts.presentation_decisions decisions

module _ (p : Policy) (text : List ℕ) (at : ℕ) where
  -- The finding that starts at the offset, by whether an item starts there, and by the items from there on.
  starting_by : {b : Bool} → starts_at at (scan text) ≡ b → {l : List Item} → items (chars (drop at text)) ≡ l
      → finding_starting p text at ≡ cond b (head_finding p l) None
  starting_by {b} s {l} i =
      finding-starting p text at ∙ ap (λ (b : Bool). cond b (head_finding p (items (chars (drop at text)))) None) s
      ∙ ap (λ (l : List Item). cond b (head_finding p l) None) i

  pub found_at : (f : Finding) → starting_analysis p text at ≡ NonCanonical f → FoundAt p text at f
  unfolding analysis_at analysis_of
  found_at f e = starts (starts_at at (scan text)) refl e
    where
      go : starts_at at (scan text) ≡ true → (l : List Item) → items (chars (drop at text)) ≡ l
          → analysis_of p at no_count l ≡ NonCanonical f
          → FoundAt p text at f
      go s [] i g = absurd (true≢false cc)
      go s (x ∷ xs) i g = by (is_finding p x) refl g
        where
          by : (b : Bool) → is_finding p x ≡ b
              → cond b (NonCanonical (finding_of p at no_count x)) (canonical_of p at no_count x) ≡ NonCanonical f
              → FoundAt p text at f
          by true h k = record {
            item = x;
            after = xs;
            items_are = i;
            starting = starting_by s i ∙ ap (λ (b : Bool). cond b (Some x) None) h;
            found = h;
            end_is = cc;
            counts_are = cc;
          }
          by false h k = absurd (true≢false cc)

      starts : (b : Bool) → starts_at at (scan text) ≡ b → cond b (analysis_at p text at no_count) End ≡ NonCanonical f
          → FoundAt p text at f
      starts true s g = go s (items (chars (drop at text))) refl g
      starts false s g = absurd (true≢false cc)

  -- The arm for the answers that are no finding.
  pub none_found : (a : ItemAnalysis) → OneOf (0 ∷ 1 ∷ []) (tag_of the-analysis a) → a ≡ starting_analysis p text at
      → finding_starting p text at ≡ None
  unfolding analysis_at analysis_of
  none_found a o e = starts (starts_at at (scan text)) refl e
    where
      no : (f : Finding) → a ≡ NonCanonical f → ⊥
      no f g = miss (0 ∷ 1 ∷ []) 2 tt (subst (λ (y : ItemAnalysis). OneOf (0 ∷ 1 ∷ []) (tag_of the-analysis y)) g o)

      go : (l : List Item) → a ≡ analysis_of p at no_count l → head_finding p l ≡ None
      go [] g = refl
      go (x ∷ xs) g = by (is_finding p x) refl g
        where
          by : (b : Bool) → is_finding p x ≡ b
              → a ≡ cond b (NonCanonical (finding_of p at no_count x)) (canonical_of p at no_count x)
              → cond b (Some x) None ≡ None
          by true h k = absurd (no _ k)
          by false h k = refl

      starts : (b : Bool) → starts_at at (scan text) ≡ b → a ≡ cond b (analysis_at p text at no_count) End
          → finding_starting p text at ≡ None
      starts true s g = starting_by s refl ∙ go (items (chars (drop at text))) g
      starts false s g = starting_by s refl

  -- ---- the bytes of the finding's replacement

  rendered : {k : ScanKind} {t : List ℕ} → k ≢ Passthrough → Derives k t → (ds : List Presentation) → render p (cells t) ds
      ≡ replacement_of p k t ds
  unfolding replacement_of render renew
  rendered n (only_links a l) ds = refl
  rendered n (run_of_selectors e s) ds = ap (λ (xs : List Cell). render p xs ds) (split_S (selector_and e s)).0
  rendered n (headed_by_emoji v j l) ds = refl
  rendered n (passthrough h s) ds = absurd (n refl)

  -- The renewed cells of an item's bytes are its replacement.
  pub item-written : {x : Item} {xs : List Item} → items (chars (drop at text)) ≡ x ∷ xs → x.kind ≢ Passthrough → {end : ℕ} → end
      ≡ at + size width x.chars
      → (ds : List Presentation) → encode_all (render p (cells (chars (part text at end))) ds) ≡ encode_all (replacement p x ds)
  unfolding replacement
  item-written {x} {xs} e o f ds =
      ap (λ (n : ℕ). encode_all (render p (cells (chars (part text at n))) ds)) f
      ∙ ap (λ (t : List ℕ). encode_all (render p (cells t) ds)) (item-chars text at x xs e)
      ∙ ap encode_all (rendered o (item_derived text at x xs e) ds)

  module _ {f : Finding} (h : FoundAt p text at f) where
    pub found_from : at ≤ f.end
    found_from = omega (arith, h.end_is)

    pub found_within : f.end ≤ length text
    found_within = omega (arith, h.end_is, item-within text at h.item h.after h.items_are)

    written_out : (ds : List Presentation) → cells_written p text at f ds ≡ encode_all (replacement p h.item ds)
    written_out ds = item-written h.items_are (finding_no_passthrough p h.item h.found) h.end_is ds

-- ---- the call with decisions

refused_is : {r : Refusal} (o : Option Refusal) → Err r ≡ checked o → o ≡ Some r
refused_is None e = absurd (true≢false cc)
refused_is (Some s) e = cc

passed_is : (o : Option Refusal) → Ok tt ≡ checked o → o ≡ None
passed_is None e = refl
passed_is (Some s) e = absurd (true≢false cc)

-- The answer of the text's tests.
pub text_refused : (text : List ℕ) {r : Refusal} {k : Result ⊤ Refusal} → k ≡ checked (text_refusal text) → k ≡ Err r
    → text_refusal text ≡ Some r
text_refused text c e = refused_is (text_refusal text) (sym e ∙ c)

pub text_passed : (text : List ℕ) {k : Result ⊤ Refusal} → k ≡ checked (text_refusal text) → k ≡ Ok tt → text_refusal text ≡ None
text_passed text c e = passed_is (text_refusal text) (sym e ∙ c)

-- A text that passes the tests is within the limit.
pub text_within : (text : List ℕ) → text_refusal text ≡ None → length text ≤ text_limit
text_within text e = go (leb (length text) text_limit) refl
  where
    go : (b : Bool) → leb (length text) text_limit ≡ b → length text ≤ text_limit
    go true l = leb-true (length text) text_limit l
    go false l = let z : ◌≡◌ {A = Option Refusal} (Some TextTooLong) None = sym (text_is text l refl) ∙ e in absurd (true≢false cc)

-- The result of the call, by the answer of the text's tests.
after_tests : (text out : List ℕ) {o : Option Refusal} (next : After (Result ℕ Refusal) ℕ) → text_refusal text ≡ o
    → or_else o (λ (r : Refusal). unwritten (Err r) out) next
    ≡ or_else (text_refusal text) (λ (r : Refusal). unwritten (Err r) out) next
after_tests text out next e = ap (λ (o : Option Refusal). or_else o (λ (r : Refusal). unwritten (Err r) out) next) (sym e)

module _ (p : Policy) (text : List ℕ) (at : ℕ) (decisions out : List ℕ) where
  pub replace_turned_back : {r : Refusal} → text_refusal text ≡ Some r → unwritten (Err r) out ≡ replace_at p text at decisions out
  unfolding replace_at
  replace_turned_back e = after_tests text out _ e

  module _ (l : text_refusal text ≡ None) where
    judged : (x : Option Item) → finding_starting p text at ≡ x
        → judge p x decisions (replacement_bytes p x (map meaning decisions)) out ≡ replace_at p text at decisions out
    unfolding replace_at
    judged x e =
        ap (λ (o : Option Item). judge p o decisions (replacement_bytes p o (map meaning decisions)) out) (sym e) ∙ after_tests text out _ l

    pub replace-none : finding_starting p text at ≡ None → unwritten (Err NoFinding) out ≡ replace_at p text at decisions out
    unfolding judge
    replace-none e = judged None e

    module _ {f : Finding} (h : FoundAt p text at f) where
      judged-found : (o : Option Refusal) → test_of f decisions ≡ o
          → or_else o (λ (r : Refusal). unwritten (Err r) out) (write_out (cells_written p text at f (map meaning decisions)) out)
          ≡ replace_at p text at decisions out
      unfolding judge replacement_bytes
      judged-found o e =
          let ds = map meaning decisions in
          let b = encode_all (replacement p h.item ds) in
          let t = sym e ∙ ap (λ (n : NonCanonicality). decisions_refusal n.presentation_decisions decisions) h.counts_are in
          ap (λ (y : List ℕ). or_else o (λ (r : Refusal). unwritten (Err r) out) (write_out y out)) (written_out p text at h ds)
          ∙ ap (λ (q : Option Refusal). or_else q (λ (r : Refusal). unwritten (Err r) out) (write_out b out)) t
          ∙ judged (Some h.item) h.starting

      pub replace-refused : (r : Refusal) (k : Result ⊤ Refusal) → k ≡ checked (test_of f decisions) → k ≡ Err r
          → unwritten (Err r) out ≡ replace_at p text at decisions out
      replace-refused r k c e = judged-found (Some r) (refused_is (test_of f decisions) (sym e ∙ c))

      pub replace-written : (k : Result ⊤ Refusal) (a : After (Result ℕ Refusal) ℕ) → k ≡ checked (test_of f decisions) → k ≡ Ok tt
          → a ≡ write_out (cells_written p text at f (map meaning decisions)) out → a ≡ replace_at p text at decisions out
      replace-written k a c e w = w ∙ judged-found None (passed_is (test_of f decisions) (sym e ∙ c))

-- ---- the call by default

module _ (p : Policy) (text : List ℕ) (at : ℕ) (out : List ℕ) where
  pub default_turned_back : {r : Refusal} → text_refusal text ≡ Some r → unwritten (Err r) out ≡ replace_by_default p text at out
  unfolding replace_by_default
  default_turned_back e = after_tests text out _ e

  module _ (l : text_refusal text ≡ None) where
    found-written : (x : Option Item) → finding_starting p text at ≡ x → write_found p x out ≡ replace_by_default p text at out
    unfolding replace_by_default
    found-written x e = ap (λ (o : Option Item). write_found p o out) (sym e) ∙ after_tests text out _ l

    pub default_none : finding_starting p text at ≡ None → unwritten (Err NoFinding) out ≡ replace_by_default p text at out
    unfolding write_found
    default_none e = found-written None e

    pub default_written : {f : Finding} → FoundAt p text at f → (a : After (Result ℕ Refusal) ℕ)
        → a ≡ write_out (cells_written p text at f []) out → a ≡ replace_by_default p text at out
    unfolding write_found
    default_written {f} h a w =
        w ∙ ap (λ (r : List ℕ). write_out r out) (written_out p text at h []) ∙ found-written (Some h.item) h.starting
