-- One call: a store stays sound, and what the claims on one call say.
use Rattle.std.specs.Prelude.{Ok, Err, Some, None, Result, Option}
use mathlib.Core.Path.{◌≡◌, refl, ap, ap₂, sym, ◌∙◌, subst}
use mathlib.Core.Bool.{Bool, true, false, cond, not, ◌&&◌, ◌||◌, true≢false}
use mathlib.Core.List.{List, [], ◌∷◌}
use Prim.Native.Nat.{ℕ, ◌+◌, ◌-◌, ◌≤◌, ◌<◌}
use native.Mathlib.Omega.{arith}
use lib.Dec.{leb, ltb}
use borrow.Author.Tests.{eq-eqb, le-leb, leb-false, leb-true, lt-leb, ltb-true, ne_eqb, not-false}
use Rattle.base.specs.Sums.{sum_below}
use Rattle.base.proofs.Tests.{both_false, both_true}
use Rattle.base.specs.declared.Refusal.{Refusal}
use Rattle.base.specs.declared.Refusal.TheVariants.{BadClientOrNumber, DoesNotFit}
use Rattle.formatter.specs.Format.{format}
use Rattle.store.proofs.Slots.{message}
use Rattle.store.specs.Store.{
  Filed,
  Sound,
  Store,
  charge_at,
  charged,
  clients,
  common,
  common_left,
  in_use,
  is_place,
  left,
  numbers,
  one_more,
  overflow,
  reserve,
  reserve_left,
  used,
  without,
}
use Rattle.store.specs.Calls.{
  Call,
  after_format,
  bad_file,
  bad_release,
  changed_filed,
  charge_of,
  file,
  file_answer,
  file_change,
  file_output,
  is_refusal,
  is_refused,
  next,
  of_release,
  output_by,
  release,
  release_answer,
  release_change,
  with_filed,
}
use Rattle.store.specs.Theorems.{CallClaim, FileClaim, GivesBack, TakesFrom}
use Rattle.store.proofs.Sums.{sum_at}
use Rattle.store.proofs.Formats.{not_of_store}
use Rattle.store.proofs.Messages.{charged-other, charged-without, in_use-other, placed-without}

-- ---- a message more, a message less

pub charged-more : (c n k : ℕ) (ms : List Filed) → charged c (message c n k ∷ ms) ≡ charged c ms + k
unfolding charged
charged-more c n k ms = rw (eq-eqb c c refl) (omega arith)

pub charged_beside : (c n k : ℕ) (ms : List Filed) (d : ℕ) → (c ≡ d → ⊥) → charged d (message c n k ∷ ms) ≡ charged d ms
unfolding charged
charged_beside c n k ms d h = rw (ne_eqb c d h) (omega arith)

module _ (s : Store) (h : Sound s) (c : ℕ) (lc : c < clients) (ms : List Filed)
    (beside : (d : ℕ) → (d ≡ c → ⊥) → charged d ms ≡ used s d) where
  abbrev S' : Store
  S' = with_filed s ms

  -- All clients' overflow, when one client's messages change.
  pub moved : sum_below clients (overflow S') + overflow s c ≡ sum_below clients (overflow s) + overflow S' c
  moved = sum_at clients (overflow S') (overflow s) c lc (λ d e. ap (λ (k : ℕ). k - reserve s d) (beside d e))

pub sound_more : (s : Store) → Sound s → (c n k : ℕ) → c < clients → n < numbers → in_use c n s.filed ≡ false → k ≤ left s c
    → Sound (with_filed s (message c n k ∷ s.filed))
sound_more s h c n k lc ln u f =
    let ms = message c n k ∷ s.filed in
    let e : charged c ms ≡ used s c + k = charged-more c n k s.filed in
    let m = moved s h c lc ms (λ d q. charged_beside c n k s.filed d (λ p. q (sym p))) in
    let r = h.reserved in
    let o = h.holds in
    record { few = h.few; reserved = r; holds = omega arith; placed = one_more u lc ln h.placed }

-- A client that uses k bytes more, with less than that left of its reserve: what it uses beyond the reserve, all overflow, and the common
-- part.
overflow-more : (u r k : ℕ) → r - u ≤ k → (u + k) - r ≡ (u - r) + (k - (r - u))
overflow-more u r k h = omega arith

overflow-within : (u r k : ℕ) → k ≤ r - u → (u + k) - r ≡ (u - r) + (k - k)
overflow-within u r k h = omega arith

none_more : (k x : ℕ) → k - k ≤ x
none_more k x = omega arith

sum_more : (o o' b b' d : ℕ) → o' + b ≡ o + b' → b' ≡ b + d → o' ≡ o + d
sum_more o o' b b' d e f = omega arith

beyond : (k a x : ℕ) → k ≤ a + x → k - a ≤ x
beyond k a x h = omega arith

common-less : (C o o' d : ℕ) → o' ≡ o + d → d ≤ C - o → C - o ≡ (C - o') + d
common-less C o o' d e h = omega arith

takes_from : (s : Store) → Sound s → (c n k : ℕ) → c < clients → k ≤ left s c
    → TakesFrom s (with_filed s (message c n k ∷ s.filed)) c k
takes_from s h c n k lc f =
    let ms = message c n k ∷ s.filed in
    let e : charged c ms ≡ used s c + k = charged-more c n k s.filed in
    let m = moved s h c lc ms (λ d q. charged_beside c n k s.filed d (λ p. q (sym p))) in
    record {
      bytes = e;
      from_reserve = reserve' (leb k (reserve_left s c)) refl e;
      from_common = common' (leb k (reserve_left s c)) refl e m;
    }
  where
    reserve' : (t : Bool) → leb k (reserve_left s c) ≡ t → charged c (message c n k ∷ s.filed) ≡ used s c + k
        → reserve_left s c ≡ reserve_left (with_filed s (message c n k ∷ s.filed)) c + cond t k (reserve_left s c)
    reserve' true q e = let l = leb-true k (reserve_left s c) q in omega arith
    reserve' false q e = let l = leb-false k (reserve_left s c) q in omega arith

    common' : (t : Bool) → leb k (reserve_left s c) ≡ t → charged c (message c n k ∷ s.filed) ≡ used s c + k
        → sum_below clients (overflow (with_filed s (message c n k ∷ s.filed))) + overflow s c
        ≡ sum_below clients (overflow s) + overflow (with_filed s (message c n k ∷ s.filed)) c
        → common_left s ≡ common_left (with_filed s (message c n k ∷ s.filed)) + (k - cond t k (reserve_left s c))
    common' true q e m =
        let l = leb-true k (reserve_left s c) q in
        let over = ap (λ (u : ℕ). u - reserve s c) e ∙ overflow-within (used s c) (reserve s c) k l in
        let all = sum_more (sum_below clients (overflow s))
        (sum_below clients (overflow (with_filed s (message c n k ∷ s.filed)))) _ _ _ m over in
        common-less (common s) (sum_below clients (overflow s)) _ (k - k) all (none_more k (common_left s))
    common' false q e m =
        let l : reserve s c - used s c < k = leb-false k (reserve_left s c) q in
        let d = k - reserve_left s c in
        let over = ap (λ (u : ℕ). u - reserve s c) e ∙ overflow-more (used s c) (reserve s c) k (omega arith) in
        let all = sum_more (sum_below clients (overflow s))
        (sum_below clients (overflow (with_filed s (message c n k ∷ s.filed)))) _ _ d m over in
        common-less (common s) (sum_below clients (overflow s)) _ d all (beyond k (reserve_left s c) (common_left s) f)

module _ (s : Store) (h : Sound s) (c n : ℕ) (lc : c < clients) where
  abbrev less : Store
  less = with_filed s (without c n s.filed)

  abbrev K : ℕ
  K = charge_at c n s.filed

  abbrev own : charged c (without c n s.filed) + K ≡ used s c
  own = charged-without c n s.filed h.placed

  abbrev sums : sum_below clients (overflow less) + overflow s c ≡ sum_below clients (overflow s) + overflow less c
  sums = moved s h c lc (without c n s.filed) (λ d q. charged-other c n d q s.filed)

  pub sound_less : Sound less
  sound_less =
      let a = own in
      let b = sums in
      let r = h.reserved in
      let o = h.holds in
      record { few = h.few; reserved = r; holds = omega arith; placed = placed-without c n s.filed h.placed }

  pub back : GivesBack s less c K
  back =
      let a = own in
      let b = sums in
      let o = h.holds in
      record { bytes = a; to_common = common' (leb K (overflow s c)) refl a b o; to_reserve = reserve' (leb K (overflow s c)) refl a }
    where
      common' : (t : Bool) → leb K (overflow s c) ≡ t → charged c (without c n s.filed) + K ≡ used s c
          → sum_below clients (overflow less) + overflow s c ≡ sum_below clients (overflow s) + overflow less c
          → sum_below clients (overflow s) ≤ common s → common_left less ≡ common_left s + cond t K (overflow s c)
      common' true e a b o = let l = leb-true K (overflow s c) e in omega arith
      common' false e a b o = let l = leb-false K (overflow s c) e in omega arith

      reserve' : (t : Bool) → leb K (overflow s c) ≡ t → charged c (without c n s.filed) + K ≡ used s c
          → reserve_left less c ≡ reserve_left s c + (K - cond t K (overflow s c))
      reserve' true e a = let l = leb-true K (overflow s c) e in omega arith
      reserve' false e a = let l = leb-false K (overflow s c) e in omega arith

-- ---- answers

pub accepted_means : (fa : Result (Option ℕ) Refusal) (bad fits : Bool) (l : ℕ) → is_refusal (after_format bad fits l fa) ≡ false
    → (bad ≡ false) × (fits ≡ true) × (after_format bad fits l fa ≡ fa)
accepted_means (Ok None) true fits l e = absurd (true≢false e)
accepted_means (Ok None) false true l e = (refl, refl, refl)
accepted_means (Ok None) false false l e = absurd (true≢false e)
accepted_means (Ok (Some n)) true fits l e = absurd (true≢false e)
accepted_means (Ok (Some n)) false true l e = (refl, refl, refl)
accepted_means (Ok (Some n)) false false l e = absurd (true≢false e)
accepted_means (Err r) bad fits l e = absurd (true≢false e)

-- The three outcomes of tests 13 and 14.
passes : (fa : Result (Option ℕ) Refusal) (l : ℕ) → after_format false true l fa ≡ fa
passes (Ok None) l = refl
passes (Ok (Some n)) l = refl
passes (Err r) l = refl

bad-refused : (fa : Result (Option ℕ) Refusal) (fits : Bool) (l : ℕ) → is_refusal fa ≡ false
    → after_format true fits l fa ≡ Err BadClientOrNumber
bad-refused (Ok None) fits l e = refl
bad-refused (Ok (Some n)) fits l e = refl
bad-refused (Err r) fits l e = absurd (true≢false e)

short-refused : (fa : Result (Option ℕ) Refusal) (l : ℕ) → is_refusal fa ≡ false → after_format false false l fa ≡ Err (DoesNotFit l)
short-refused (Ok None) l e = refl
short-refused (Ok (Some n)) l e = refl
short-refused (Err r) l e = absurd (true≢false e)

-- Where a refusal comes from: from formatting, or from test 13 or test 14.
data From (fa : Result (Option ℕ) Refusal) (bad fits : Bool) (l : ℕ) (r : Refusal) : Type 0 where
  from_format : fa ≡ Err r → From fa bad fits l r
  from_place : r ≡ BadClientOrNumber → bad ≡ true → From fa bad fits l r
  from_room : r ≡ DoesNotFit l → fits ≡ false → From fa bad fits l r

comes_from : (fa : Result (Option ℕ) Refusal) (bad fits : Bool) (l : ℕ) (r : Refusal) → after_format bad fits l fa ≡ Err r
    → From fa bad fits l r
comes_from (Ok None) true fits l r e = let q : r ≡ BadClientOrNumber = cc in from_place q refl
comes_from (Ok None) false true l r e = from_format e
comes_from (Ok None) false false l r e = let q : r ≡ DoesNotFit l = cc in from_room q refl
comes_from (Ok (Some n)) true fits l r e = let q : r ≡ BadClientOrNumber = cc in from_place q refl
comes_from (Ok (Some n)) false true l r e = from_format e
comes_from (Ok (Some n)) false false l r e = let q : r ≡ DoesNotFit l = cc in from_room q refl
comes_from (Err q) bad fits l r e = from_format e

output_accepted : (a : Result (Option ℕ) Refusal) (o out : List ℕ) → is_refusal a ≡ false → output_by o out a ≡ o
output_accepted (Ok None) o out e = refl
output_accepted (Ok (Some l)) o out e = refl
output_accepted (Err r) o out e = absurd (true≢false e)

pub place_means : (c n : ℕ) → is_place c n ≡ true → (c < clients) × (n < numbers)
unfolding is_place
place_means c n e =
    let p = both_true (ltb c clients) (ltb n numbers) e in
    (ltb-true c clients p.0, ltb-true n numbers p.1)

-- ---- a filing

module _ (s : Store) (text policy : List ℕ) (c n : ℕ) (out : List ℕ) where
  abbrev fa : Result (Option ℕ) Refusal
  fa = (format text policy out).answer

  abbrev k : ℕ
  k = charge_of text policy

  -- An accepted filing: the place is free, and the charge fits.
  pub record Free : Type 0 where
    pub place : is_place c n ≡ true
    pub unused : in_use c n s.filed ≡ false
    pub room : k ≤ left s c

  abbrev L : ℕ
  L = left s c

  pub free : is_refusal (file_answer s text policy c n out) ≡ false → Free
  unfolding file_answer
  free e =
      let a = accepted_means fa (bad_file s c n) (leb k L) L e in
      let b = both_false (not (is_place c n)) (in_use c n s.filed) a.0 in
      record { place = not-false (is_place c n) b.0; unused = b.1; room = leb-true k L a.1 }

  from : (r : Refusal) → file_answer s text policy c n out ≡ Err r → From fa (bad_file s c n) (leb k L) L r
  unfolding file_answer
  from r e = comes_from fa (bad_file s c n) (leb k L) L r e

  pub file_claim : FileClaim s text policy c n out
  unfolding file_answer file_output
  file_claim = record {
    as_format_lem = λ e. (
      (accepted_means fa (bad_file s c n) (leb k L) L e).2,
      output_accepted (file_answer s text policy c n out) (format text policy out).buffer out e,
    );
    format_first = λ r e. ap (after_format (bad_file s c n) (leb k L) L) e;
    format_only = λ r p q e. only r p q (from r e);
    bad_place = λ h b. ap (λ (x : Bool). after_format x (leb k L) L fa) b ∙ bad-refused fa (leb k L) L h;
    bad_only = λ e. bad (from BadClientOrNumber e);
    no_room = λ h b l.
        ap₂ (λ (x y : Bool). after_format x y L fa) b (lt-leb k L l) ∙ short-refused fa L h;
    would_fit = λ l e. room l (from (DoesNotFit l) e);
    guaranteed = λ p u w l. within p u (le-leb k L (omega arith));
  }
    where
      only : (r : Refusal) → (r ≡ BadClientOrNumber → ⊥) → ((l : ℕ) → r ≡ DoesNotFit l → ⊥) → From fa (bad_file s c n) (leb k L) L r
          → fa ≡ Err r
      only r p q (from_format e) = e
      only r p q (from_place e b) = absurd (p e)
      only r p q (from_room e f) = absurd (q L e)

      bad : From fa (bad_file s c n) (leb k L) L BadClientOrNumber → bad_file s c n ≡ true
      bad (from_format e) = absurd ((not_of_store text policy out BadClientOrNumber e).0 refl)
      bad (from_place e b) = b
      bad (from_room e f) = let z : ◌≡◌ {A = ℕ} 0 1 = cc in absurd (omega arith)

      room : (l : ℕ) → From fa (bad_file s c n) (leb k L) L (DoesNotFit l) → (l ≡ L) × (l < k)
      room l (from_format e) = absurd ((not_of_store text policy out (DoesNotFit l) e).1 l refl)
      room l (from_place e b) = let z : ◌≡◌ {A = ℕ} 0 1 = cc in absurd (omega arith)
      room l (from_room e f) =
          let q : l ≡ L = cc in
          (q, omega (arith, leb-false k L f))

      within : is_place c n ≡ true → in_use c n s.filed ≡ false → leb k L ≡ true → after_format (bad_file s c n) (leb k L) L fa ≡ fa
      within p u l =
          let b : bad_file s c n ≡ false = ap (λ (x : Bool). not x || in_use c n s.filed) p ∙ u in
          ap₂ (λ (x y : Bool). after_format x y L fa) b l ∙ passes fa L

  -- The store after it.
  sound_file : Sound s → Sound (next s (file text policy c n out))
  sound_file h = go (file_answer s text policy c n out) free
    where
      more : Free → Sound (with_filed s (message c n k ∷ s.filed))
      more f = let p = place_means c n f.place in sound_more s h c n k p.0 p.1 f.unused f.room

      go : (a : Result (Option ℕ) Refusal) → (is_refusal a ≡ false → Free)
          → Sound (with_filed s (changed_filed s.filed (file_change (message c n k) a)))
      go (Ok None) f = more (f refl)
      go (Ok (Some l)) f = more (f refl)
      go (Err r) f = h

  -- Where the bytes of an accepted filing come from.
  pub takes : Sound s → is_refusal (file_answer s text policy c n out) ≡ false → TakesFrom s (next s (file text policy c n out)) c k
  takes h e = go (file_answer s text policy c n out) e (free e)
    where
      go : (a : Result (Option ℕ) Refusal) → is_refusal a ≡ false → Free
          → TakesFrom s (with_filed s (changed_filed s.filed (file_change (message c n k) a))) c k
      go (Ok None) r f = takes_from s h c n k (place_means c n f.place).0 f.room
      go (Ok (Some l)) r f = takes_from s h c n k (place_means c n f.place).0 f.room
      go (Err r) q f = absurd (true≢false q)

-- ---- a release

abbrev pub released_or : Bool → ℕ → Result ℕ Refusal
released_or bad k = cond bad (Err BadClientOrNumber) (Ok k)

release_means : (t : Bool) (k m : ℕ) → released_or t k ≡ Ok m → (t ≡ false) × (m ≡ k)
release_means true k m e = let z : ◌≡◌ {A = ℕ} 0 1 = cc in absurd (omega arith)
release_means false k m e = (refl, cc)

module _ (s : Store) (c n : ℕ) where
  pub released : (m : ℕ) → release_answer s c n ≡ Ok m
      → (is_place c n ≡ true) × (in_use c n s.filed ≡ true) × (m ≡ charge_at c n s.filed)
  unfolding release_answer
  released m e =
      let r = release_means (bad_release s c n) (charge_at c n s.filed) m e in
      let p = both_true (is_place c n) (in_use c n s.filed) (not-false (is_place c n && in_use c n s.filed) r.0) in
      (p.0, p.1, r.1)

  sound_release : Sound s → Sound (next s (release c n))
  sound_release h = go (release_answer s c n) refl
    where
      go : (a : Result ℕ Refusal) → release_answer s c n ≡ a → Sound (with_filed s (changed_filed s.filed (release_change c n a)))
      go (Ok m) e = sound_less s h c n (place_means c n (released m e).0).0
      go (Err r) e = h

  pub gives_back : Sound s → (m : ℕ) → release_answer s c n ≡ Ok m → GivesBack s (next s (release c n)) c m
  gives_back h m e =
      let r = released m e in
      subst (λ (a : Result ℕ Refusal). GivesBack s (with_filed s (changed_filed s.filed (release_change c n a))) c m) (sym e)
      (subst (λ (j : ℕ). GivesBack s (with_filed s (without c n s.filed)) c j) (sym r.2)
      (back s h c n (place_means c n r.0).0))

-- ---- a call

pub sound_next : (s : Store) → Sound s → (x : Call) → Sound (next s x)
sound_next s h (file text policy c n out) = sound_file s text policy c n out h
sound_next s h (release c n) = sound_release s c n h

abbrev Others : Store → Store → ℕ → Type 0
Others s t d = (used t d ≡ used s d) × ((n : ℕ) → in_use d n t.filed ≡ in_use d n s.filed)

in_use_beside : (c n k : ℕ) (ms : List Filed) (d : ℕ) → (c ≡ d → ⊥) → (j : ℕ) → in_use d j (message c n k ∷ ms) ≡ in_use d j ms
unfolding in_use
in_use_beside c n k ms d h j = rw (ne_eqb c d h)

pub call_claim : (s : Store) (x : Call) → CallClaim s x
unfolding file_output
call_claim s (file text policy c n out) =
    record { refused = go (file_answer s text policy c n out); others = λ d h. by d h (file_answer s text policy c n out) }
  where
    k : ℕ
    k = charge_of text policy

    go : (a : Result (Option ℕ) Refusal) → is_refusal a ≡ true
        → (with_filed s (changed_filed s.filed (file_change (message c n k) a)) ≡ s)
        × (output_by (format text policy out).buffer out a ≡ out)
    go (Ok None) e = absurd (true≢false (sym e))
    go (Ok (Some l)) e = absurd (true≢false (sym e))
    go (Err r) e = (refl, refl)

    by : (d : ℕ) → (c ≡ d → ⊥) → (a : Result (Option ℕ) Refusal)
        → Others s (with_filed s (changed_filed s.filed (file_change (message c n k) a))) d
    by d h (Ok None) = (charged_beside c n k s.filed d h, in_use_beside c n k s.filed d h)
    by d h (Ok (Some l)) = (charged_beside c n k s.filed d h, in_use_beside c n k s.filed d h)
    by d h (Err r) = (refl, λ j. refl)
call_claim s (release c n) = record { refused = go (release_answer s c n); others = λ d h. by d h (release_answer s c n) }
  where
    go : (a : Result ℕ Refusal) → is_refused (of_release a) ≡ true
        → (with_filed s (changed_filed s.filed (release_change c n a)) ≡ s) × (◌≡◌ {A = List ℕ} [] [])
    go (Ok m) e = absurd (true≢false (sym e))
    go (Err r) e = (refl, refl)

    by : (d : ℕ) → (c ≡ d → ⊥) → (a : Result ℕ Refusal) → Others s (with_filed s (changed_filed s.filed (release_change c n a))) d
    by d h (Ok m) = (charged-other c n d (λ q. h (sym q)) s.filed, λ j. in_use-other c n d j h s.filed)
    by d h (Err r) = (refl, λ j. refl)
