-- The two tests of a finding, by its bytes, and the two lists of a stretch.
use mathlib.Core.Path.{◌≡◌, refl, ap, sym, ◌∙◌}
use mathlib.Core.Logic.{◌⊎◌, inl, inr, ⊎_elim}
use mathlib.Core.Bool.{Bool, true, false, ◌&&◌, cond, not, true≢false}
use mathlib.Core.List.{List, [], ◌∷◌, Memᴰ}
use Prim.Native.Nat.{ℕ, ◌-◌, ◌<◌, ◌≤◌}
use native.Mathlib.Omega.{arith}
use lib.Dec.{leb, ltb}
use lib.ListN.{length}
use borrow.Author.Tests.{le-leb, leb-true, lt-ltb, ltb-true}
use Rattle.base.proofs.Lists.{in-passed, passed_in}
use Rattle.base.specs.Lists.{filter}
use Rattle.base.proofs.Tests.{and_both, both_true, fails, le_or_lt, not_so}
use Rattle.analysis.specs.declared.types.Finding.{Finding}
use Rattle.formatter.specs.Findings.{listed}
use Rattle.findings_near.specs.Around.{holds, inside, inside_of, meets, only_shares, sharing_of, stretch_end}
use Rattle.findings_near.specs.Theorems.{Apart, InTextOrder, Inside, Marked, Shares, StretchClaim, and_then, no_more}
use Rattle.findings_near.proofs.Order.{filter-ordered, first_starts, has-byte, none_pass, text_ordered}

-- ---- tests as facts

record In (from to : ℕ) (f : Finding) : Type 0 where
  pub some : from < to
  pub low : from ≤ f.start
  pub high : f.end ≤ to

in_so : (from to : ℕ) (f : Finding) → inside from to f ≡ true → In from to f
unfolding holds
in_so from to f e =
    let u = both_true (ltb from to) (leb from f.start && leb f.end to) e in
    let v = both_true (leb from f.start) (leb f.end to) u.1 in
    record { some = ltb-true from to u.0; low = leb-true from f.start v.0; high = leb-true f.end to v.1 }

so_in : (from to : ℕ) (f : Finding) → In from to f → inside from to f ≡ true
unfolding holds
so_in from to f h =
    and_both (ltb from to) (leb from f.start && leb f.end to) (lt-ltb from to h.some)
    (and_both (leb from f.start) (leb f.end to) (le-leb from f.start h.low) (le-leb f.end to h.high))

record On (from to : ℕ) (f : Finding) : Type 0 where
  pub some : from < to
  pub low : f.start < to
  pub high : from < f.end
  pub not_in : inside from to f ≡ false

on_so : (from to : ℕ) (f : Finding) → only_shares from to f ≡ true → On from to f
unfolding meets
on_so from to f e =
    let u = both_true (ltb from to && (ltb f.start to && ltb from f.end)) (not (inside from to f)) e in
    let v = both_true (ltb from to) (ltb f.start to && ltb from f.end) u.0 in
    let w = both_true (ltb f.start to) (ltb from f.end) v.1 in
    record {
      some = ltb-true from to v.0;
      low = ltb-true f.start to w.0;
      high = ltb-true from f.end w.1;
      not_in = not_so (inside from to f) u.1;
    }

so_on : (from to : ℕ) (f : Finding) → On from to f → only_shares from to f ≡ true
unfolding meets
so_on from to f h =
    and_both (ltb from to && (ltb f.start to && ltb from f.end)) (not (inside from to f))
    (and_both (ltb from to) (ltb f.start to && ltb from f.end) (lt-ltb from to h.some)
    (and_both (ltb f.start to) (ltb from f.end) (lt-ltb f.start to h.low) (lt-ltb from f.end h.high)))
    (ap not h.not_in)

-- ---- bytes

module _ (text : List ℕ) (from to : ℕ) (f : Finding) (b : f.start < f.end) where
  abbrev end : ℕ
  end = stretch_end text to

  -- A byte before the end of the stretch.
  end_of : {k : ℕ} → k < end → (k < to) × (k < length text)
  end_of h = (omega arith, omega arith)

  of_end : {k : ℕ} → k < to → k < length text → k < end
  of_end g h = omega arith

  marked : (k : ℕ) → from ≤ k → k < end → Marked text from to k
  marked k l h = let e = end_of h in record { low = l; high = e.0; there = e.1 }

  inside_bytes : inside from end f ≡ true → Inside text from to f
  inside_bytes e k o =
      let h = in_so from end f e in
      let s = h.low in
      let t = h.high in
      marked k (omega (arith, o.low)) (omega (arith, o.high))

  bytes_inside : Inside text from to f → inside from end f ≡ true
  bytes_inside h =
      let x = h f.start (record { low = omega arith; high = b }) in
      let y = h (f.end - 1) (record { low = omega arith; high = omega arith }) in
      let z = of_end y.high y.there in
      let w = of_end x.high x.there in
      so_in from end f (record { some = omega (arith, x.low); low = x.low; high = omega arith })

  -- A finding that shares a byte and is not inside has a byte that is not marked.
  shares_bytes : only_shares from end f ≡ true → Shares text from to f
  shares_bytes e = ⊎_elim
      (λ (s : from ≤ f.start). ⊎_elim
      (λ (t : f.end ≤ end). absurd (true≢false (sym (so_in from end f (record { some = h.some; low = s; high = t })) ∙ h.not_in)))
      (λ (t : end < f.end).
      record {
        shared = f.start;
        shared_of = record { low = omega arith; high = b };
        marked = marked f.start s h.low;
        other = f.end - 1;
        other_of = record { low = omega arith; high = omega arith };
        not_marked = λ m. let z = of_end m.high m.there in omega arith;
      })
      (le_or_lt f.end end))
      (λ (s : f.start < from).
      record {
        shared = from;
        shared_of = record { low = omega arith; high = h.high };
        marked = marked from (omega arith) h.some;
        other = f.start;
        other_of = record { low = omega arith; high = b };
        not_marked = λ m. omega (arith, m.low);
      })
      (le_or_lt from f.start)
    where
      h : On from end f
      h = on_so from end f e

  not_inside : Shares text from to f → inside from end f ≡ false
  not_inside s = fails (inside from end f) (λ e. s.not_marked (inside_bytes e s.other s.other_of))

  bytes_shares : Shares text from to f → only_shares from end f ≡ true
  bytes_shares s =
      let m = s.marked in
      let o = s.shared_of in
      let z = of_end m.high m.there in
      so_on from end f (record {
        some = omega (arith, m.low);
        low = omega (arith, o.low);
        high = omega (arith, m.low, o.high);
        not_in = not_inside s;
      })

  neither-apart : inside from end f ≡ false → only_shares from end f ≡ false → Apart text from to f
  neither-apart g h k o m =
      let z = of_end m.high m.there in
      true≢false (sym (so_on from end f (record {
        some = omega (arith, m.low);
        low = omega (arith, o.low);
        high = omega (arith, m.low, o.high);
        not_in = g;
      })) ∙ h)

-- ---- tests that fail

module _ (from to : ℕ) (f : Finding) where
  -- An empty stretch has neither.
  pub none_in : to ≤ from → inside from to f ≡ false
  none_in l = fails (inside from to f) (λ e. let h = (in_so from to f e).some in omega arith)

  pub none-on : to ≤ from → only_shares from to f ≡ false
  none-on l = fails (only_shares from to f) (λ e. let h = (on_so from to f e).some in omega arith)

  -- A finding that starts at the end of the stretch or after it is in neither list.
  pub starts_after : f.start < f.end → to ≤ f.start → (inside from to f ≡ false) × (only_shares from to f ≡ false)
  starts_after b l = (
    fails (inside from to f) (λ e. let h = (in_so from to f e).high in omega arith),
    fails (only_shares from to f) (λ e. let h = (on_so from to f e).low in omega arith),
  )

  -- A finding in the second list that does not start before the stretch ends after it.
  ends-after : only_shares from to f ≡ true → from ≤ f.start → to < f.end
  ends-after e l =
      let h = on_so from to f e in
      ⊎_elim (λ (t : f.end ≤ to). absurd (true≢false (sym (so_in from to f (record { some = h.some; low = l; high = t })) ∙ h.not_in)))
      (λ (t : to < f.end). t) (le_or_lt f.end to)

-- The findings of a list of which the first starts at the end of the stretch or after it are in neither list.
pub rest-apart : (from to : ℕ) {f : Finding} {l : List Finding} → InTextOrder (f ∷ l) → to ≤ f.start
    → (filter (inside from to) (f ∷ l) ≡ []) × (filter (only_shares from to) (f ∷ l) ≡ [])
rest-apart from to {f} {l} o h =
    let none : (g : Finding) → Memᴰ g (f ∷ l) → (inside from to g ≡ false) × (only_shares from to g ≡ false) =
    λ g m. starts_after from to g (has-byte o g m) (let s = first_starts o g m in omega arith) in
    (none_pass (inside from to) (f ∷ l) (λ g m. (none g m).0), none_pass (only_shares from to) (f ∷ l) (λ g m. (none g m).1))

-- ---- at most two findings only share a byte

module _ (from to : ℕ) where
  abbrev S : Finding → Bool
  S = only_shares from to

  -- Of findings that start at an offset after the stretch, none does.
  none_share : (l : List Finding) → InTextOrder l → ((g : Finding) → Memᴰ g l → to ≤ g.start) → length (filter S l) ≡ 0
  none_share l o h = ap length (none_pass S l (λ g m. (starts_after from to g (has-byte o g m) (h g m)).1))

  -- Of findings that do not start before the stretch, at most one does.
  one-shares : {l : List Finding} → InTextOrder l → ((g : Finding) → Memᴰ g l → from ≤ g.start) → length (filter S l) ≤ 1
  unfolding filter
  one-shares no_more h = omega arith
  one-shares (and_then {f} {l} some before o) h = go (S f) refl (one-shares o)
    where
      go : (b : Bool) → S f ≡ b → (((g : Finding) → Memᴰ g l → from ≤ g.start) → length (filter S l) ≤ 1)
          → length (cond b (f ∷ filter S l) (filter S l)) ≤ 1
      go true e ih =
          let t = ends-after from to f e (h f (Memᴰ.head refl)) in
          let z = none_share l o (λ g m. let k = before g m in omega arith) in
          omega arith
      go false e ih =
          let s = h f (Memᴰ.head refl) in
          ih (λ g m. let k = before g m in omega arith)

  two_share : {l : List Finding} → InTextOrder l → length (filter S l) ≤ 2
  unfolding filter
  two_share no_more = omega arith
  two_share (and_then {f} {l} some before o) = go (S f) refl (two_share o)
    where
      go : (b : Bool) → S f ≡ b → length (filter S l) ≤ 2 → length (cond b (f ∷ filter S l) (filter S l)) ≤ 2
      go true e ih =
          let t = (on_so from to f e).high in
          let z = one-shares o (λ g m. let k = before g m in omega arith) in
          omega arith
      go false e ih = ih

-- ---- the two lists

pub stretch_claim : (text policy : List ℕ) (from to : ℕ) → StretchClaim text policy from to
unfolding inside_of sharing_of
stretch_claim text policy from to = record {
  inside = λ f. (
    (λ m. let w = in-passed I f R m in (w.1, inside_bytes text from to f (byte f w.1) w.0)),
    (λ h. passed_in I f R h.0 (bytes_inside text from to f (byte f h.0) h.1)),
  );
  sharing = λ f. (
    (λ m. let w = in-passed O f R m in (w.1, shares_bytes text from to f (byte f w.1) w.0)),
    (λ h. passed_in O f R h.0 (bytes_shares text from to f (byte f h.0) h.1)),
  );
  each = λ f m. part f m (I f) (O f) refl refl;
  not_both = λ f m n.
      let i = (in-passed I f R m).0 in
      let s = (on_so from (stretch_end text to) f (in-passed O f R n).0).not_in in
      true≢false (sym i ∙ s);
  empty = λ h.
      let e : stretch_end text to ≤ from = ⊎_elim (λ (x : to ≤ from). omega arith) (λ (x : length text ≤ from). omega arith) h in
      (none_pass I R (λ f m. none_in from (stretch_end text to) f e), none_pass O R (λ f m. none-on from (stretch_end text to) f e));
  inside_ordered = filter-ordered I (text_ordered text policy);
  sharing_ordered = filter-ordered O (text_ordered text policy);
  two_share = two_share from (stretch_end text to) (text_ordered text policy);
}
  where
    R : List Finding
    R = listed text policy

    I : Finding → Bool
    I = inside from (stretch_end text to)

    O : Finding → Bool
    O = only_shares from (stretch_end text to)

    byte : (f : Finding) → Memᴰ f R → f.start < f.end
    byte f m = has-byte (text_ordered text policy) f m

    part : (f : Finding) → Memᴰ f R → (i s : Bool) → I f ≡ i → O f ≡ s
        → Memᴰ f (inside_of text policy from to) ⊎ (Memᴰ f (sharing_of text policy from to) ⊎ Apart text from to f)
    part f m true s g h = inl (passed_in I f R m g)
    part f m false true g h = inr (inl (passed_in O f R m h))
    part f m false false g h = inr (inr (neither-apart text from to f (byte f m) g h))
