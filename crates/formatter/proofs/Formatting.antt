-- The formatted text is the text of the book with every finding mended by default. A text without a finding is its own formatted text.
use Rattle.std.specs.Prelude.{Ok, Err, Some, None, Result, Option}
use mathlib.Core.Path.{◌≡◌, refl, ap, sym, ◌∙◌}
use mathlib.Core.Bool.{Bool, true, false, cond, ◌&&◌, false≢true}
use mathlib.Core.List.{List, [], ◌∷◌, ◌++◌}
use Prim.Native.Nat.{ℕ, ◌+◌}
use native.Mathlib.Omega.{arith}
use lib.Dec.{eqb, leb}
use lib.ListN.{length}
use borrow.Author.Tests.{eq-eqb, eqb-true}
use Rattle.policy.specs.declared.Policy.{Policy}
use Rattle.scanner.specs.Items.{Item, join}
use Rattle.scanner.specs.Spans.{Found, found, size, width}
use Rattle.analysis.specs.Analysis.{default_decisions, is_finding, replacement}
use Rattle.analysis.proofs.Choices.{replacement_defaults}
use Rattle.formatter.specs.Book.{Entry, Mark, book_chars, entry_chars, is_open, items_of, mended, untouched}
use Rattle.formatter.specs.Demand3.{Accepted, ByDefault, Each, ValidMark, all_mended, and_each, no_more}
use Rattle.formatter.specs.Format.{format, format_items, formatted, same_bytes}
use Rattle.base.specs.Refusals.{After, unwritten, or_else, written}
use Rattle.base.specs.declared.Refusal.{Refusal}
use Rattle.base.specs.declared.Refusal.TheVariants.{OutputTooShort}
use Rattle.formatter.proofs.Replacements.{default_number}
use Rattle.formatter.proofs.Marks.{Rights}
use Rattle.formatter.proofs.Mending.{open_found}
use Rattle.formatter.proofs.Calls.{pass_intake}

-- ---- equal bytes

pub same_true : (s t : List ℕ) → same_bytes s t ≡ true → s ≡ t
unfolding same_bytes
same_true [] [] e = refl
same_true [] (d ∷ t) e = absurd (false≢true e)
same_true (c ∷ s) [] e = absurd (false≢true e)
same_true (c ∷ s) (d ∷ t) e = go (eqb c d) refl e (same_true s t)
  where
    go : (b : Bool) → eqb c d ≡ b → b && same_bytes s t ≡ true → (same_bytes s t ≡ true → s ≡ t) → c ∷ s ≡ d ∷ t
    go true f e h = ap (λ (n : ℕ). n ∷ s) (eqb-true c d f) ∙ ap (λ (l : List ℕ). d ∷ l) (h e)
    go false f e h = absurd (false≢true e)

pub same_self : (s : List ℕ) → same_bytes s s ≡ true
unfolding same_bytes
same_self [] = refl
same_self (c ∷ s) = ap (λ (b : Bool). b && same_bytes s s) (eq-eqb c c refl) ∙ same_self s

-- ---- the call

-- The outcome of formatting after the intake, by the answers of its two tests.
abbrev pub format_tests : Bool → Bool → List ℕ → List ℕ → After (Result (Option ℕ) Refusal) ℕ
format_tests same fits r out =
    cond same (unwritten (Ok None) out)
    (cond fits (written (Ok (Some (length r))) r out) (unwritten (Err (OutputTooShort (length r))) out))

pub format_is : (policy b out : List ℕ) → Accepted policy b
    → format b policy out ≡ format_tests (same_bytes (formatted b policy) b) (leb (length (formatted b policy)) (length out))
    (formatted b policy) out
unfolding format
format_is policy b out a =
    let r = formatted b policy in
    ap (λ (o : Option Refusal). or_else o (λ (f : Refusal). unwritten (Err f) out)
    (format_tests (same_bytes r b) (leb (length r) (length out)) r out)) (pass_intake policy b a)

pub says_unchanged : (same fits : Bool) (r out : List ℕ) → (format_tests same fits r out).answer ≡ Ok None → same ≡ true
says_unchanged true fits r out e = refl
says_unchanged false true r out e = let z : ◌≡◌ {A = ℕ} 0 1 = cc in absurd (omega arith)
says_unchanged false false r out e = let z : ◌≡◌ {A = ℕ} 0 1 = cc in absurd (omega arith)

-- ---- formatted items

module _ (p : Policy) where
  -- Formatting leaves items without a finding as they are.
  pub format-none : (n : ℕ) (xs : List Item) → found (is_finding p) width n xs ≡ [] → format_items p xs ≡ join xs
  unfolding found format_items
  format-none n [] e = refl
  format-none n (x ∷ xs) e = go (is_finding p x) e (format-none (n + size width x.chars) xs)
    where
      F : List Found
      F = found (is_finding p) width (n + size width x.chars) xs

      go : (b : Bool) → cond b (record { start = n; item = x } ∷ F) F ≡ [] → (F ≡ [] → format_items p xs ≡ join xs)
          → cond b (replacement p x []) x.chars ++ format_items p xs ≡ x.chars ++ join xs
      go true e h = let z : ◌≡◌ {A = ℕ} 0 1 = cc in absurd (omega arith)
      go false e h = ap (λ (l : List ℕ). x.chars ++ l) (h e)

  abbrev default_mark : Bool → Item → Mark
  default_mark b x = cond b (mended (default_decisions p x)) untouched

  pub all_items : (xs : List Item) → items_of (all_mended p xs) ≡ xs
  all_items [] = refl
  all_items (x ∷ xs) = ap (λ (l : List Item). x ∷ l) (all_items xs)

  pub all_none : (n : ℕ) (xs : List Item) → open_found p n (all_mended p xs) ≡ []
  unfolding open_found
  all_none n [] = refl
  all_none n (x ∷ xs) =
      let N = n + size width (entry_chars p (default_mark (is_finding p x) x) x) in
      ap (λ (f : Bool). cond f (record { start = n; item = x } ∷ open_found p N (all_mended p xs)) (open_found p N (all_mended p xs)))
      (go (is_finding p x)) ∙ all_none N xs
    where
      go : (f : Bool) → is_open (default_mark f x) && f ≡ false
      go true = refl
      go false = refl

  pub all_chars : (xs : List Item) → book_chars p (all_mended p xs) ≡ format_items p xs
  unfolding book_chars format_items
  all_chars [] = refl
  all_chars (x ∷ xs) =
      ap (λ (l : List ℕ). entry_chars p (default_mark (is_finding p x) x) x ++ l) (all_chars xs)
      ∙ ap (λ (l : List ℕ). l ++ format_items p xs) (go (is_finding p x))
    where
      go : (f : Bool) → entry_chars p (default_mark f x) x ≡ cond f (replacement p x []) x.chars
      go true = replacement_defaults p x
      go false = refl

  pub all_right : (xs : List Item) → Rights p (all_mended p xs)
  all_right [] = no_more
  all_right (x ∷ xs) = and_each {x = record { item = x; mark = default_mark (is_finding p x) x }} (go (is_finding p x) refl) (all_right xs)
    where
      go : (f : Bool) → is_finding p x ≡ f → ValidMark p (default_mark f x) x
      go true e = record { is-finding = e; as_many = default_number p x }
      go false e = tt

  -- If no finding of a book is open and all are mended by default, the book's text is the formatted text.
  pub default_book : (n : ℕ) {es : List Entry} → open_found p n es ≡ [] → Rights p es
      → Each (λ (e : Entry). ByDefault p e.mark e.item) es → book_chars p es ≡ format_items p (items_of es)
  unfolding open_found book_chars format_items
  default_book n z no_more no_more = refl
  default_book n z (and_each {x = e} {xs = es} r rs) (and_each d ds) =
      go e.mark (is_finding p e.item) refl r d z (λ i. default_book (n + size width (entry_chars p e.mark e.item)) i rs ds)
    where
      x : Item
      x = e.item

      O : List Found
      O = open_found p (n + size width (entry_chars p e.mark x)) es

      go : (m : Mark) (f : Bool) → is_finding p x ≡ f → ValidMark p m x → ByDefault p m x
          → cond (is_open m && f) (record { start = n; item = x } ∷ O) O ≡ []
          → (O ≡ [] → book_chars p es ≡ format_items p (items_of es)) → entry_chars p m x ++ book_chars p es
          ≡ cond f (replacement p x []) x.chars ++ format_items p (items_of es)
      go untouched true f r d z ih = let y : ◌≡◌ {A = ℕ} 0 1 = cc in absurd (omega arith)
      go untouched false f r d z ih = ap (λ (t : List ℕ). x.chars ++ t) (ih z)
      go (mended ds) true f r d z ih =
          ap (λ (t : List ℕ). t ++ book_chars p es) (ap (replacement p x) d ∙ replacement_defaults p x)
          ∙ ap (λ (t : List ℕ). replacement p x [] ++ t) (ih z)
      go (mended ds) false f r d z ih = absurd (false≢true (sym f ∙ r.is-finding))
