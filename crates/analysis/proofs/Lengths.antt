-- The length of a replacement in characters and in bytes: the item's, less the selectors removed, plus those added; and at most
-- four times the item's bytes.
use mathlib.Core.Path.{◌≡◌, refl, ap}
use mathlib.Core.List.{List, [], ◌∷◌}
use Prim.Native.Nat.{ℕ, ◌+◌, ◌*◌, ◌≤◌}
use native.Mathlib.Omega.{arith}
use lib.ListN.{length}
use Rattle.emoji.specs.Presentation.{as_selector}
use Rattle.emoji.specs.declared.presentation.Presentation.{Presentation}
use Rattle.policy.specs.declared.Policy.{Policy}
use Rattle.scanner.specs.Classes.{strip}
use Rattle.scanner.specs.Grammar.{Derives, headed_by_emoji, only_links, passthrough, run_of_selectors}
use Rattle.scanner.specs.Spans.{size, width}
use Rattle.scanner.specs.declared.ScanKind.{ScanKind}
use Rattle.scanner.proofs.Bytes.{width_some}
use Rattle.scanner.proofs.SelectorChars.{selector_is, width_selector}
use Rattle.scanner.proofs.Walk.{strip-char, strip_selector}
use Rattle.analysis.specs.Analysis.{chosen, counts_of, remaining, outcome_at, render, renew, replacement_of}
use Rattle.analysis.specs.Cells.{Cell, cells, selector_count}
use Rattle.analysis.specs.Counts.{adding, removing}
use Rattle.analysis.specs.Rules.{Slot, bare, decided, fixed}
use Rattle.analysis.proofs.Cells.{
  by-chars,
  chars_of,
  count-char,
  count_selector,
  count-unsplit,
  held_in,
  selector_free_cells,
  strip-split,
}
use Rattle.analysis.proofs.Items.{balance_of, strip_of}
use Rattle.analysis.proofs.Replacement.{selector_free_renew, strip_render}

-- ---- selectors and the other characters

pub length_parts : (t : List ℕ) → length t ≡ length (strip t) + selector_count t
unfolding strip selector_count
length_parts =
    by-chars (λ t. length t ≡ length (strip t) + selector_count t) refl
    (λ q t h. omega (arith, count_selector (as_selector q) t (selector_is q), ap length (strip_selector (as_selector q) t (selector_is q))))
    (λ c t e h. omega (arith, count-char c t e, ap length (strip-char c t e)))

pub bytes_parts : (t : List ℕ) → size width t ≡ size width (strip t) + 3 * selector_count t
unfolding strip selector_count
bytes_parts =
    by-chars (λ t. size width t ≡ size width (strip t) + 3 * selector_count t) refl
    (λ q t h. omega (
      arith,
      width_selector q,
      count_selector (as_selector q) t (selector_is q),
      ap (size width)
          (strip_selector (as_selector q) t (selector_is q)),
    ))
    (λ c t e h. omega (arith, count-char c t e, ap (size width) (strip-char c t e)))

pub bytes_some : (t : List ℕ) → length t ≤ size width t
bytes_some [] = omega arith
bytes_some (c ∷ t) = omega (arith, width_some c, bytes_some t)

module _ (p : Policy) where
  -- A renewed cell holds at most one selector.
  at_most_one : (xs : List Cell) (ds : List Presentation) → held_in (renew p xs ds) ≤ length (chars_of xs)
  unfolding renew
  at_most_one [] ds = omega arith
  at_most_one (x ∷ xs) ds = omega (arith, one (outcome_at p x xs).slot, at_most_one xs (remaining (outcome_at p x xs).slot ds))
    where
      one : (o : Slot) → length (chosen o ds) ≤ 1
      one bare = omega arith
      one (fixed q) = omega arith
      one (decided d) = omega arith

  pub render_bytes : (t : List ℕ) (ds : List Presentation) → size width (render p (cells t) ds) ≤ 4 * size width t
  unfolding render
  render_bytes t ds =
      let r = render p (cells t) ds in
      let a = bytes_parts r in
      let b = ap (size width) (strip_render p t ds) in
      let c = bytes_parts t in
      let d = bytes_some (strip t) in
      let e = at_most_one (cells t) ds in
      let f = ap length (strip-split t) in
      let g = count-unsplit (selector_free_renew p (selector_free_cells t) ds) in
      omega arith

  pub length_of : {k : ScanKind} {t : List ℕ} → Derives k t → (ds : List Presentation)
      → length (replacement_of p k t ds) + removing (counts_of p k t) ≡ length t + adding (counts_of p k t)
  length_of {k} {t} d ds =
      omega (arith, length_parts (replacement_of p k t ds), ap length (strip_of p d ds), length_parts t, balance_of p d ds)

  pub bytes_of : {k : ScanKind} {t : List ℕ} → Derives k t → (ds : List Presentation)
      → size width (replacement_of p k t ds) + 3 * removing (counts_of p k t) ≡ size width t + 3 * adding (counts_of p k t)
  bytes_of {k} {t} d ds =
      omega (arith, bytes_parts (replacement_of p k t ds), ap (size width) (strip_of p d ds), bytes_parts t, balance_of p d ds)

  pub four_times : {k : ScanKind} {t : List ℕ} → Derives k t → (ds : List Presentation)
      → size width (replacement_of p k t ds) ≤ 4 * size width t
  unfolding replacement_of
  four_times {k} {t} (only_links a l) ds = render_bytes t ds
  four_times {k} {t} (run_of_selectors e s) ds = omega arith
  four_times {k} {t} (headed_by_emoji v j l) ds = render_bytes t ds
  four_times {k} {t} (passthrough h s) ds = omega arith
