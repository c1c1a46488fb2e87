-- A scan of the characters of items that stand in a row gives the same items that pass a test, at the same starts, if no
-- passthrough passes the test.
use Rattle.std.specs.Prelude.{Some, None, Option}
use mathlib.Core.Path.{◌≡◌, refl, ap, sym, ◌∙◌, subst}
use mathlib.Core.Bool.{Bool, true, false, cond, true≢false}
use mathlib.Core.List.{List, [], ◌∷◌, ◌++◌, append-nil}
use Prim.Native.Nat.{ℕ, ◌+◌}
use native.Mathlib.Omega.{arith}
use native.Mathlib.Nat.{add-zero}
use Rattle.scanner.specs.Classes.{class_of}
use Rattle.scanner.specs.Items.{State, plain, transition, start_state, kind_of, Item, join, split_from, items}
use Rattle.scanner.specs.Spans.{Found, size, found}
use Rattle.scanner.specs.declared.ScanKind.{ScanKind}
use Rattle.scanner.specs.declared.ScanKind.TheVariants.{Passthrough}
use Rattle.scanner.proofs.States.{is_plain, kind_plain, plain_transition}
use Rattle.scanner.proofs.Tiling.{first, after, split_from-some, split_from-none}
use Rattle.scanner.proofs.Walk.{Walk, walk_plain, split_from_walk, stops, merges, Chain, done, then}

module _ (w : ℕ → ℕ) where
  pub size_append : (s t : List ℕ) → size w (s ++ t) ≡ size w s + size w t
  size_append [] t = omega arith
  size_append (c ∷ s) t = let h = size_append s t in omega arith

module _ (test : Item → Bool) (w : ℕ → ℕ) where
  pub found_none : (n : ℕ) (x : Item) (xs : List Item) → test x ≡ false → found test w n (x ∷ xs) ≡ found test w (n + size w x.chars) xs
  unfolding found
  found_none n x xs e =
      let l = found test w (n + size w x.chars) xs in
      ap (λ (b : Bool). cond b (record { start = n; item = x } ∷ l) l) e

  pub found-tail : (n : ℕ) (x : Item) (xs ys : List Item)
      → found test w (n + size w x.chars) xs ≡ found test w (n + size w x.chars) ys → found test w n (x ∷ xs)
      ≡ found test w n (x ∷ ys)
  unfolding found
  found-tail n x xs ys e = ap (λ (l : List Found). cond (test x) (record { start = n; item = x } ∷ l) l) e

-- A test that no passthrough passes.
module _ (test : Item → Bool) (w : ℕ → ℕ) (plain-fails : (x : Item) → x.kind ≡ Passthrough → test x ≡ false) where
  pub found_skip : (n : ℕ) (x : Item) (xs : List Item) → x.kind ≡ Passthrough → found test w n (x ∷ xs)
      ≡ found test w (n + size w x.chars) xs
  found_skip n x xs e = found_none test w n x xs (plain-fails x e)

  pub record Again (p : State) (xs : List Item) : Type 0 where
    pub same : (n : ℕ) → found test w (n + size w (split_from p (join xs)).0) (split_from p (join xs)).1 ≡ found test w n xs
    pub whole : is_plain p ≡ false → (split_from p (join xs)).0 ≡ []

  -- The item that the scan finds for x: it has the characters of x and those of the items after x that continue it.
  abbrev next : Item → List Item → State → ℕ → List ℕ → Item
  next x xs q c s = record { kind = x.kind; chars = c ∷ (s ++ (split_from q (join xs)).0) }

  split_from-next : (p : State) {q : State} (x : Item) (xs : List Item) (c : ℕ) (s : List ℕ) → transition p (class_of c) ≡ None → x.kind
      ≡ kind_of (start_state (class_of c)) → x.chars ≡ c ∷ s → Walk (start_state (class_of c)) s q
      → split_from p (join (x ∷ xs)) ≡ ([], next x xs q c s ∷ (split_from q (join xs)).1)
  split_from-next p {q} x xs c s e k l wk =
      ap (λ (t : List ℕ). split_from p (t ++ join xs)) l ∙ split_from-none p c (s ++ join xs) e
      ∙ ap (λ (a : List ℕ × List Item). ([], record { kind = kind_of (start_state (class_of c)); chars = c ∷ a.0 } ∷ a.1))
      (split_from_walk wk (join xs))
      ∙ ap (λ (i : ScanKind). ([], record { kind = i; chars = c ∷ (s ++ (split_from q (join xs)).0) } ∷ (split_from q (join xs)).1)) (sym k)

  again_plain : {q : State} (x : Item) {xs : List Item} (c : ℕ) (s : List ℕ) → x.kind ≡ Passthrough → x.chars ≡ c ∷ s → Again q xs
      → (n : ℕ) → found test w (n + size w (c ∷ (s ++ (split_from q (join xs)).0))) (split_from q (join xs)).1 ≡ found test w n (x ∷ xs)
  again_plain {q} x {xs} c s k l h n =
      let R = split_from q (join xs) in
      let a : n + size w (c ∷ (s ++ R.0)) ≡ n + size w x.chars + size w R.0 = omega (arith, size_append w s R.0, ap (size w) l) in
      ap (λ (m : ℕ). found test w m R.1) a ∙ h.same (n + size w x.chars) ∙ sym (found_skip n x xs k)

  again_not_plain : {q : State} (x : Item) {xs : List Item} (c : ℕ) (s : List ℕ) → x.chars ≡ c ∷ s → (split_from q (join xs)).0 ≡ []
      → Again q xs
      → (n : ℕ) → found test w n (next x xs q c s ∷ (split_from q (join xs)).1) ≡ found test w n (x ∷ xs)
  again_not_plain {q} x {xs} c s l z h n =
      let R = split_from q (join xs) in
      let y : next x xs q c s ≡ x = λ i.
      record { kind = x.kind; chars = (ap (λ (r : List ℕ). c ∷ (s ++ r)) z ∙ ap (λ (r : List ℕ). c ∷ r) (append-nil s) ∙ sym l) i } in
      let a : n + size w x.chars + size w R.0 ≡ n + size w x.chars = omega (arith, ap (size w) z) in
      ap (λ (i : Item). found test w n (i ∷ R.1)) y
      ∙ found-tail test w n x R.1 xs (ap (λ (m : ℕ). found test w m R.1) (sym a) ∙ h.same (n + size w x.chars))

  -- The case in which the scan begins a new item at x.
  again_none : {p q : State} {x : Item} {xs : List Item} (c : ℕ) (s : List ℕ) → transition p (class_of c) ≡ None → x.kind
      ≡ kind_of (start_state (class_of c)) → x.chars ≡ c ∷ s → Walk (start_state (class_of c)) s q → Again q xs → Again p (x ∷ xs)
  again_none {p} {q} {x} {xs} c s e k l wk h = record {
    same = λ n. rw (split_from-next p x xs c s e k l wk) (go (is_plain (start_state (class_of c))) refl n);
    whole = λ _. ap (λ (a : List ℕ × List Item). a.0) (split_from-next p x xs c s e k l wk);
  }
    where
      go : (b : Bool) → is_plain (start_state (class_of c)) ≡ b → (n : ℕ)
          → found test w (n + 0) (next x xs q c s ∷ (split_from q (join xs)).1)
          ≡ found test w n (x ∷ xs)
      go true i n =
          let kp : x.kind ≡ Passthrough = k ∙ kind_plain (start_state (class_of c)) i in
          found_skip (n + 0) (next x xs q c s) (split_from q (join xs)).1 kp ∙ rw (add-zero n) (again_plain x c s kp l h n)
      go false i n = rw (add-zero n) (again_not_plain x c s l (h.whole (sym (walk_plain wk) ∙ i)) h n)

  -- The case in which the passthrough before x goes on with x.
  again_some : {q : State} {x : Item} {xs : List Item} (c : ℕ) (s : List ℕ) (r : State) → transition plain (class_of c) ≡ Some r → x.kind
      ≡ kind_of (start_state (class_of c)) → x.chars ≡ c ∷ s → Walk (start_state (class_of c)) s q → Again q xs → Again plain (x ∷ xs)
  unfolding kind_of
  again_some {q} {x} {xs} c s r e k l wk h =
      let b = plain_transition (class_of c) r e in
      let kp : x.kind ≡ Passthrough = k ∙ ap kind_of b.1 in
      let f : split_from plain (join (x ∷ xs)) ≡ (c ∷ (s ++ (split_from q (join xs)).0), (split_from q (join xs)).1) =
      ap (λ (t : List ℕ). split_from plain (t ++ join xs)) l ∙ split_from-some plain r c (s ++ join xs) e
      ∙ ap (λ (a : List ℕ × List Item). (c ∷ a.0, a.1))
      (ap (λ (p : State). split_from p (s ++ join xs)) (b.0 ∙ sym b.1) ∙ split_from_walk wk (join xs)) in
      record { same = λ n. rw f (again_plain x c s kp l h n); whole = λ i. absurd (true≢false i) }

  again_both : {q : State} {x : Item} {xs : List Item} (c : ℕ) (s : List ℕ) (o : Option State) → transition plain (class_of c) ≡ o → x.kind
      ≡ kind_of (start_state (class_of c)) → x.chars ≡ c ∷ s → Walk (start_state (class_of c)) s q → Again q xs → Again plain (x ∷ xs)
  again_both c s None e = again_none c s e
  again_both c s (Some r) e = again_some c s r e

  pub rescan : {p : State} {xs : List Item} → Chain p xs → Again p xs
  unfolding split_from found
  rescan done = record { same = λ n. refl; whole = λ e. refl }
  rescan (then c s (stops e) k l wk h) = again_none c s e k l wk (rescan h)
  rescan (then {p = p} {x = x} {xs = xs} c s (merges e) k l wk h) = subst (λ (p : State). Again p (x ∷ xs)) (sym e)
      (again_both c s (transition plain (class_of c)) refl k l wk (rescan h))

  -- At the start of a text the items that pass the test are the same as after passthrough.
  pub found-items : (n : ℕ) (t : List ℕ) → found test w n (items t)
      ≡ found test w (n + size w (split_from plain t).0) (split_from plain t).1
  unfolding items split_from found kind_of
  found-items n [] = refl
  found-items n (c ∷ t) = go (transition plain (class_of c)) refl
    where
      go : (o : Option State) → transition plain (class_of c) ≡ o
          → found test w n (first c t ∷ after c t) ≡ found test w (n + size w (split_from plain (c ∷ t)).0) (split_from plain (c ∷ t)).1
      go None e = rw (split_from-none plain c t e) (ap (λ (m : ℕ). found test w m (first c t ∷ after c t)) (sym (add-zero n)))
      go (Some q) e =
          let b = plain_transition (class_of c) q e in
          found_skip n (first c t) (after c t) (ap kind_of b.1)
          ∙ ap (λ (p : State). found test w (n + size w (c ∷ (split_from p t).0)) (split_from p t).1) (b.1 ∙ sym b.0)
          ∙ sym (ap (λ (a : List ℕ × List Item). found test w (n + size w a.0) a.1) (split_from-some plain q c t e))

  -- A scan of the characters of items in a row gives the items that pass the test.
  pub found_again : {xs : List Item} → Chain plain xs → (n : ℕ) → found test w n (items (join xs)) ≡ found test w n xs
  found_again {xs} h n = found-items n (join xs) ∙ (rescan h).same n
