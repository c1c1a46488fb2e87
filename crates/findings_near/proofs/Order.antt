-- The listed findings are in text order, and so are those of them that pass a test.
use mathlib.Core.Path.{◌≡◌, refl, ap, subst, sym, ◌∙◌}
use mathlib.Core.Logic.{⊎_elim}
use mathlib.Core.Bool.{Bool, true, false, cond}
use mathlib.Core.List.Memᴰ
use mathlib.Core.List.{List, [], ◌∷◌, map, Memᴰ}
use Prim.Native.Nat.{ℕ, ◌+◌, ◌<◌, ◌≤◌}
use native.Mathlib.Omega.{arith}
use lib.ListN.{drop, length, length-map}
use Rattle.base.proofs.Lists.{in-passed}
use Rattle.base.specs.Lists.{filter}
use Rattle.utf8.specs.Rfc3629.{chars}
use Rattle.utf8.proofs.Texts.{valid_up_to_le}
use Rattle.policy.specs.PolicyBytes.{policy_of}
use Rattle.policy.specs.declared.Policy.{Policy}
use Rattle.scanner.specs.Items.{Item, items, join}
use Rattle.scanner.specs.Spans.{Found, found, size, width}
use Rattle.scanner.proofs.Bytes.{size-chars, width_some}
use Rattle.scanner.proofs.Rescan.{size_append}
use Rattle.scanner.proofs.Tiling.{Filled, and_item, filled, no_item, tiling}
use Rattle.analysis.specs.Analysis.{is_finding}
use Rattle.analysis.specs.declared.types.Finding.{Finding}
use Rattle.formatter.specs.Findings.{finding_row, findings, listed}
use Rattle.findings_near.specs.Helpers.{rows_from}
use Rattle.findings_near.specs.Theorems.{InTextOrder, and_then, no_more}

-- ---- the elements that pass a test

module _ {A : Type 0} (test : A → Bool) where
  pub none_pass : (l : List A) → ((x : A) → Memᴰ x l → test x ≡ false) → filter test l ≡ []
  unfolding filter
  none_pass [] h = refl
  none_pass (x ∷ l) h =
      ap (λ (b : Bool). cond b (x ∷ filter test l) (filter test l)) (h x (Memᴰ.head refl))
      ∙ none_pass l (λ y m. h y (Memᴰ.tail m))

  few-pass : (l : List A) → length (filter test l) ≤ length l
  unfolding filter
  few-pass [] = omega arith
  few-pass (x ∷ l) = go (test x) (few-pass l)
    where
      go : (b : Bool) → length (filter test l) ≤ length l → length (cond b (x ∷ filter test l) (filter test l)) ≤ length (x ∷ l)
      go true h = omega arith
      go false h = omega arith

pub filter-ordered : (test : Finding → Bool) {l : List Finding} → InTextOrder l → InTextOrder (filter test l)
unfolding filter
filter-ordered test no_more = no_more
filter-ordered test (and_then {f} {l} some before o) = go (test f) (filter-ordered test o)
  where
    go : (b : Bool) → InTextOrder (filter test l) → InTextOrder (cond b (f ∷ filter test l) (filter test l))
    go true h = and_then some (λ n k. before n (in-passed test n l k).1) h
    go false h = h

-- ---- the findings of items

module _ (p : Policy) (text : List ℕ) where
  abbrev rows : ℕ → List Item → List Finding
  rows n xs = map (finding_row p text) (found (is_finding p) width n xs)

  pub starts_from : (xs : List Item) (n : ℕ) (f : Finding) → Memᴰ f (rows n xs) → n ≤ f.start
  unfolding found finding_row
  starts_from [] n f m = absurd (Memᴰ.not-nil m)
  starts_from (x ∷ xs) n f m = go (is_finding p x) (starts_from xs (n + size width x.chars) f) m
    where
      l : List Found
      l = found (is_finding p) width (n + size width x.chars) xs

      go : (b : Bool) → (Memᴰ f (map (finding_row p text) l) → n + size width x.chars ≤ f.start)
          → Memᴰ f (map (finding_row p text) (cond b (record { start = n; item = x } ∷ l) l)) → n ≤ f.start
      go true h m = ⊎_elim
          (λ (e : f ≡ finding_row p text (record { start = n; item = x })). omega (arith, ap (λ (g : Finding). g.start) e))
          (λ (k : Memᴰ f (map (finding_row p text) l)). omega (arith, h k)) (Memᴰ.cases_cons m)
      go false h m = omega (arith, h m)

  rows-ordered : {xs : List Item} (n : ℕ) → Filled xs → InTextOrder (rows n xs)
  unfolding found finding_row
  rows-ordered n no_item = no_more
  rows-ordered n (and_item {x = x} {xs = xs} c s l h) = go (is_finding p x) (rows-ordered (n + size width x.chars) h)
    where
      fs : List Found
      fs = found (is_finding p) width (n + size width x.chars) xs

      some : n < n + size width x.chars
      some = let k = width_some c in omega (arith, ap (size width) l)

      go : (b : Bool) → InTextOrder (map (finding_row p text) fs)
          → InTextOrder (map (finding_row p text) (cond b (record { start = n; item = x } ∷ fs) fs))
      go true o = and_then some (λ g m. starts_from xs (n + size width x.chars) g m) o
      go false o = o

  pub ordered-from : (at : ℕ) → InTextOrder (rows_from p text at)
  ordered-from at = rows-ordered at (filled (chars (drop at text)))

pub text_ordered : (text policy : List ℕ) → InTextOrder (listed text policy)
unfolding findings
text_ordered text policy = ordered-from (policy_of policy) text 0

-- Every finding has a byte.
pub has-byte : {l : List Finding} → InTextOrder l → (f : Finding) → Memᴰ f l → f.start < f.end
has-byte no_more f m = absurd (Memᴰ.not-nil m)
has-byte (and_then {f = g} {l} some before o) f m =
    ⊎_elim (λ (e : f ≡ g). subst (λ (x : Finding). x.start < x.end) (sym e) some) (λ (k : Memᴰ f l). has-byte o f k)
    (Memᴰ.cases_cons m)

-- The first finding of a list starts before all others, or where they do.
pub first_starts : {f : Finding} {l : List Finding} → InTextOrder (f ∷ l) → (g : Finding) → Memᴰ g (f ∷ l) → f.start ≤ g.start
first_starts (and_then {f} {l} some before o) g m =
    ⊎_elim (λ (e : g ≡ f). omega (arith, ap (λ (x : Finding). x.start) e)) (λ (k : Memᴰ g l). let b = before g k in omega arith)
    (Memᴰ.cases_cons m)

-- ---- there are at most as many findings as bytes

module _ (p : Policy) where
  few-found : {xs : List Item} (n : ℕ) → Filled xs → length (found (is_finding p) width n xs) ≤ size width (join xs)
  unfolding found
  few-found n no_item = omega arith
  few-found n (and_item {x = x} {xs = xs} c s l h) = go (is_finding p x) (few-found (n + size width x.chars) h)
    where
      fs : List Found
      fs = found (is_finding p) width (n + size width x.chars) xs

      some : 1 ≤ size width x.chars
      some = let k = width_some c in omega (arith, ap (size width) l)

      go : (b : Bool) → length fs ≤ size width (join xs)
          → length (cond b (record { start = n; item = x } ∷ fs) fs) ≤ size width (join (x ∷ xs))
      go true k = let w = some in omega (arith, size_append width x.chars (join xs))
      go false k = let w = some in omega (arith, size_append width x.chars (join xs))

pub few-listed : (text policy : List ℕ) (test : Finding → Bool) → length (filter test (listed text policy)) ≤ length text
unfolding findings
few-listed text policy test =
    let t = chars text in
    let p = policy_of policy in
    omega (
      arith,
      few-pass test (map (finding_row p text) (found (is_finding p) width 0 (items t))),
      length-map (found (is_finding p) width 0 (items t)) (finding_row p text),
      few-found p 0 (filled t),
      ap (size width) (tiling t),
      size-chars text,
      valid_up_to_le text,
    )
