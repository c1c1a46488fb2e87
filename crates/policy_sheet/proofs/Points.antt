-- What the tests on the pieces of a sheet mean.
use Rattle.std.specs.Prelude.{Some, None, Option}
use mathlib.Core.Path.{◌≡◌, refl, ap, sym, ◌∙◌, subst}
use mathlib.Core.Bool.{Bool, true, false, cond, true≢false}
use mathlib.Core.List.{List, [], ◌∷◌, ◌++◌}
use Prim.Native.Nat.{ℕ}
use native.Mathlib.Omega.{arith}
use lib.Dec.{ltb}
use borrow.Author.Tests.{le-ltb, ltb-false}
use Rattle.emoji.specs.Unicode.{has_variation_sequence}
use Rattle.policy_sheet.specs.Grammar.{Piece, Point}
use Rattle.policy_sheet.specs.Meaning.{AllEntries, Each, FirstNonEntry, IsEntry, Rising, each_and, each_none, points}
use Rattle.policy_sheet.specs.Reader.{first_descending, first_non_entry}

-- ---- ranges that run down

pub rising_none : (xs : List Piece) → Rising xs → first_descending xs ≡ None
unfolding first_descending
rising_none [] each_none = refl
rising_none (x ∷ xs) (each_and h hs) = rw (le-ltb x.last.value x.first.value h, rising_none xs hs)

pub none_rising : (xs : List Piece) → first_descending xs ≡ None → Rising xs
unfolding first_descending
none_rising [] e = each_none
none_rising (x ∷ xs) e = go (ltb x.last.value x.first.value) refl e (none_rising xs)
  where
    go : (t : Bool) → ltb x.last.value x.first.value ≡ t → cond t (Some x.first.at) (first_descending xs) ≡ None
        → (first_descending xs ≡ None → Rising xs)
        → Rising (x ∷ xs)
    go true p e f = let z : ◌≡◌ {A = ℕ} 0 1 = cc in absurd (omega arith)
    go false p e f = each_and (ltb-false x.last.value x.first.value p) (f e)

-- ---- code points that are no entries

pub entries_none : (xs : List Piece) → AllEntries xs → first_non_entry xs ≡ None
unfolding first_non_entry points
entries_none [] h = refl
entries_none (x ∷ xs) (each_and h (each_and g hs)) = rw (h, g, entries_none xs hs)

pub none_entries : (xs : List Piece) → first_non_entry xs ≡ None → AllEntries xs
unfolding first_non_entry points
none_entries [] e = each_none
none_entries (x ∷ xs) e = go (has_variation_sequence x.first.value) (has_variation_sequence x.last.value) refl refl e (none_entries xs)
  where
    go : (t u : Bool) → has_variation_sequence x.first.value ≡ t → has_variation_sequence x.last.value ≡ u
        → cond t (cond u (first_non_entry xs) (Some x.last.at)) (Some x.first.at) ≡ None
        → (first_non_entry xs ≡ None → Each IsEntry (points xs))
        → Each IsEntry (x.first ∷ (x.last ∷ points xs))
    go true true p q e f = each_and p (each_and q (f e))
    go true false p q e f = let z : ◌≡◌ {A = ℕ} 0 1 = cc in absurd (omega arith)
    go false u p q e f = let z : ◌≡◌ {A = ℕ} 0 1 = cc in absurd (omega arith)

pub some_non_entry : (n : ℕ) (xs : List Piece) → first_non_entry xs ≡ Some n → FirstNonEntry xs n
unfolding first_non_entry points
some_non_entry n [] e = let z : ◌≡◌ {A = ℕ} 0 1 = cc in absurd (omega arith)
some_non_entry n (x ∷ xs) e = go (has_variation_sequence x.first.value) (has_variation_sequence x.last.value) refl refl e
    (some_non_entry n xs)
  where
    go : (t u : Bool) → has_variation_sequence x.first.value ≡ t → has_variation_sequence x.last.value ≡ u
        → cond t (cond u (first_non_entry xs) (Some x.last.at)) (Some x.first.at) ≡ Some n
        → (first_non_entry xs ≡ Some n → FirstNonEntry xs n)
        → FirstNonEntry (x ∷ xs) n
    go true true p q e f =
        let r = f e in
        record {
          earlier = x.first ∷ (x.last ∷ r.earlier);
          later = r.later;
          other = r.other;
          split = ap (λ (l : List Point). x.first ∷ (x.last ∷ l)) r.split;
          entries = each_and p (each_and q r.entries);
          no_entry = r.no_entry;
          offset = r.offset;
        }
    go true false p q e f = record {
      earlier = x.first ∷ [];
      later = points xs;
      other = x.last;
      split = refl;
      entries = each_and p each_none;
      no_entry = q;
      offset = cc;
    }
    go false u p q e f = record {
      earlier = [];
      later = x.last ∷ points xs;
      other = x.first;
      split = refl;
      entries = each_none;
      no_entry = p;
      offset = cc;
    }

-- In a list of code points, the first one that is no entry is unique.
same-other : (us vs : List Point) (x y : Point) (cs ds : List Point) → Each IsEntry us → Each IsEntry vs
    → has_variation_sequence x.value ≡ false → has_variation_sequence y.value ≡ false → us ++ (x ∷ cs) ≡ vs ++ (y ∷ ds) → x ≡ y
same-other [] [] x y cs ds h g p q e = cc
same-other [] (b ∷ vs) x y cs ds h (each_and g gs) p q e = let t : x ≡ b = cc in absurd (true≢false (sym g
    ∙ ap (λ (z : Point). has_variation_sequence z.value) (sym t) ∙ p))
same-other (a ∷ us) [] x y cs ds (each_and h hs) g p q e = let t : a ≡ y = cc in absurd (true≢false (sym h
    ∙ ap (λ (z : Point). has_variation_sequence z.value) t ∙ q))
same-other (a ∷ us) (b ∷ vs) x y cs ds (each_and h hs) (each_and g gs) p q e = same-other us vs x y cs ds hs gs p q (cc)

all_but : (us : List Point) (x : Point) (cs : List Point) → Each IsEntry (us ++ (x ∷ cs)) → has_variation_sequence x.value ≡ false → ⊥
all_but [] x cs (each_and h hs) p = true≢false (sym h ∙ p)
all_but (a ∷ us) x cs (each_and h hs) p = all_but us x cs hs p

pub non_entry_some : (n : ℕ) (xs : List Piece) → FirstNonEntry xs n → first_non_entry xs ≡ Some n
non_entry_some n xs r = go (first_non_entry xs) refl
  where
    go : (o : Option ℕ) → first_non_entry xs ≡ o → o ≡ Some n
    go None e = absurd (all_but r.earlier r.other r.later (subst (λ (l : List Point). Each IsEntry l) r.split
        (none_entries xs e)) r.no_entry)
    go (Some m) e =
        let q = some_non_entry m xs e in
        let t = same-other q.earlier r.earlier q.other r.other q.later r.later q.entries r.entries q.no_entry
        r.no_entry (sym q.split ∙ r.split) in
        ap Some (sym q.offset ∙ ap (λ (z : Point). z.at) t ∙ r.offset)
