-- A scanner as an iterator over the items that it has left: a call of `next` gives the first of them, and the n-th is found by n more
-- calls.
use Rattle.std.specs.Prelude.{Some, None, Option}
use Rattle.std.specs.List.{slice_get}
use Rattle.std.specs.Option.{option_map}
use Rattle.std.specs.Iterator.{YieldsFirst, MakesProgress, item_count}
use Rattle.std.proofs.Common.{rules, arith}
use mathlib.Core.Path.{◌≡◌, refl, ap, sym, ◌∙◌, subst}
use mathlib.Core.List.{List, [], ◌∷◌}
use Prim.Native.Nat.{ℕ, zero, suc}
use lib.ListN.{drop}
use lib.Seq.{drop-nil}
use Rattle.scanner.specs.Spans.{first_of, scan_at}
use Rattle.scanner.specs.declared.ScanItem.{ScanItem}
use Rattle.scanner.proofs.Spans.{scan-after}
use Rattle.text_scanner.specs.Scanner.{answer_at, at_place, items_left, place_after_step, place_of}
use Rattle.text_scanner.specs.declared.Scanner.{Scanner}

-- The step of a scanner, for the items that are left.
abbrev Step : Scanner → Option ScanItem → Type 0
Step s r = YieldsFirst items_left s r (at_place s (place_after_step r (place_of s)))

step : (s : Scanner) → Step s (answer_at s.text.now (place_of s))
unfolding scan_at first_of
step s = go (items_left s) refl
  where
    go : (xs : List ScanItem) → items_left s ≡ xs → Step s (first_of xs)
    go [] e = (e, e)
    go (x ∷ xs) e = e ∙ ap (λ (l : List ScanItem). x ∷ l) (sym (scan-after s.text.now s.offset _ [] x xs e))

pub yields : (s t : Scanner) (r : Option ScanItem) → r ≡ answer_at s.text.now (place_of s)
    → t ≡ at_place s (place_after_step r (place_of s)) → YieldsFirst items_left s r t
yields s t r a b = subst (λ (u : Scanner). YieldsFirst items_left s r u) (sym b) (subst (Step s) (sym a) (step s))

pub progress : (s t : Scanner) (r : Option ScanItem) → YieldsFirst items_left s r t
    → MakesProgress (λ _. Unit {0}) (item_count items_left) s r t
progress s t None y = search rules
progress s t (Some x) y = grind (arith, y)

get_is_first : (xs : List ScanItem) (n : ℕ) → slice_get xs n ≡ first_of (drop n xs)
unfolding first_of
get_is_first [] n = ap first_of (sym (drop-nil n))
get_is_first (x ∷ xs) zero = refl
get_is_first (x ∷ xs) (suc n) = get_is_first xs n

pub nth_is : (r : Option ScanItem) (xs : List ScanItem) (n : ℕ) → option_map (λ (x : ScanItem). x) r ≡ slice_get xs n
    → r ≡ first_of (drop n xs)
nth_is None xs n e = e ∙ get_is_first xs n
nth_is (Some x) xs n e = e ∙ get_is_first xs n
