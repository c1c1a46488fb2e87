-- The states to which a list of characters leads, and items in a row. A scan of the characters of items in a row gives these items,
-- except that adjacent passthroughs become one.
use Rattle.std.specs.Prelude.{Some, None, Option}
use mathlib.Core.Path.{◌≡◌, refl, ap, sym, ◌∙◌, subst}
use mathlib.Core.Bool.{Bool, true, false, false≢true}
use mathlib.Core.List.{List, [], ◌∷◌, ◌++◌}
use Prim.Native.Nat.{ℕ}
use Rattle.base.proofs.Tests.{fails}
use Rattle.emoji.specs.Presentation.{is_selector}
use Rattle.scanner.specs.Classes.{Class, class_of, strip}
use Rattle.scanner.specs.Items.{State, plain, selectors, transition, start_state, kind_of, Item, split_from, items}
use Rattle.scanner.proofs.Classes.{class_selector, selector_class}
use Rattle.scanner.proofs.Tiling.{split_from-some, split_from-none}
use Rattle.scanner.proofs.States.{is_plain, same_side, inner, inner-transition, inner_selector, selectors_transition}

-- ---- a walk from state to state

-- The characters lead from one state to another within one item.
pub data Walk : State → List ℕ → State → Type 0 where
  stay : {p : State} → Walk p [] p
  pass : {p q r : State} {c : ℕ} {t : List ℕ} → transition p (class_of c) ≡ Some q → Walk q t r → Walk p (c ∷ t) r

pub walk_append : {p q r : State} {s t : List ℕ} → Walk p s q → Walk q t r → Walk p (s ++ t) r
walk_append stay v = v
walk_append (pass e w) v = pass e (walk_append w v)

pub walk_plain : {p q : State} {t : List ℕ} → Walk p t q → is_plain p ≡ is_plain q
walk_plain stay = refl
walk_plain (pass {p = p} {q = q} {c = c} e w) = same_side p q (class_of c) e ∙ walk_plain w

pub walk_inner : {p q : State} {t : List ℕ} → Walk p t q → inner p ≡ inner q
walk_inner stay = refl
walk_inner (pass {p = p} {q = q} {c = c} e w) = inner-transition p q (class_of c) e ∙ walk_inner w

-- The characters of a walk belong to the item.
pub split_from_walk : {p q : State} {s : List ℕ} → Walk p s q → (t : List ℕ)
    → split_from p (s ++ t) ≡ (s ++ (split_from q t).0, (split_from q t).1)
split_from_walk stay t = refl
split_from_walk (pass {p = p} {q = q} {r = r} {c = c} {t = s} e w) t = split_from-some p q c (s ++ t) e
    ∙ ap (λ (a : List ℕ × List Item). (c ∷ a.0, a.1)) (split_from_walk w t)

-- ---- items in a row

-- The item at state p may end before a character of class k: the automaton ends it there, or the item is passthrough.
pub data Ends (p : State) (k : Class) : Type 0 where
  stops : transition p k ≡ None → Ends p k
  merges : p ≡ plain → Ends p k

pub data Chain : State → List Item → Type 0 where
  done : {p : State} → Chain p []
  then : {p q : State} {x : Item} {xs : List Item} (c : ℕ) (s : List ℕ) → Ends p (class_of c)
      → x.kind ≡ kind_of (start_state (class_of c)) → x.chars ≡ c ∷ s → Walk (start_state (class_of c)) s q → Chain q xs → Chain p (x ∷ xs)

pub record Rest (p : State) (t : List ℕ) : Type 0 where
  pub end : State
  pub walked : Walk p (split_from p t).0 end
  pub chain : Chain end (split_from p t).1

pub rest : (p : State) (t : List ℕ) → Rest p t
unfolding split_from
rest p [] = record { end = p; walked = stay; chain = done }
rest p (c ∷ t) = go (transition p (class_of c)) refl (λ q. rest q t)
  where
    go : (o : Option State) → transition p (class_of c) ≡ o → ((q : State) → Rest q t) → Rest p (c ∷ t)
    go (Some q) e h = record {
      end = (h q).end;
      walked = rw (split_from-some p q c t e) (pass e (h q).walked);
      chain = rw (split_from-some p q c t e)
          (h q).chain;
    }
    go None e h = record {
      end = p;
      walked = rw (split_from-none p c t e) stay;
      chain = rw (split_from-none p c t e)
          (then c _ (stops e) refl refl (h (start_state (class_of c))).walked (h (start_state (class_of c))).chain);
    }

pub items-chain : (t : List ℕ) → Chain plain (items t)
unfolding items
items-chain [] = done
items-chain (c ∷ t) = then c _ (merges refl) refl refl (rest (start_state (class_of c)) t).walked (rest (start_state (class_of c)) t).chain

-- After passthrough, and at the start of a text, any item may stand.
pub weaken : {p : State} {xs : List Item} → Chain p xs → Chain plain xs
weaken done = done
weaken (then c s e k l w h) = then c s (merges refl) k l w h

-- ---- selectors within links or units do not change the state

pub strip_selector : (c : ℕ) (t : List ℕ) → is_selector c ≡ true → strip (c ∷ t) ≡ strip t
unfolding strip
strip_selector c t e = simp e

pub strip-char : (c : ℕ) (t : List ℕ) → is_selector c ≡ false → strip (c ∷ t) ≡ c ∷ strip t
unfolding strip
strip-char c t e = simp e

pub strip_walk : {p q : State} {t : List ℕ} → inner p ≡ true → Walk p t q → Walk p (strip t) q
unfolding strip
strip_walk i stay = stay
strip_walk i (pass {p = p} {q = q} {r = r} {c = c} {t = t} e w) = go (is_selector c) refl
    (strip_walk (sym (inner-transition p q (class_of c) e) ∙ i) w)
  where
    go : (b : Bool) → is_selector c ≡ b → Walk q (strip t) r → Walk p (strip (c ∷ t)) r
    go true s h =
        let m : transition p (class_of c) ≡ Some p = rw (class_selector c s) (inner_selector p i) in
        let n : q ≡ p = cc in
        rw (strip_selector c t s) (subst (λ (x : State). Walk x (strip t) r) n h)
    go false s h = rw (strip-char c t s) (pass e h)

pub walk_cons : {p q : State} {c : ℕ} {t : List ℕ} → Walk p (c ∷ t) q → (r : State) × (transition p (class_of c) ≡ Some r) × Walk r t q
walk_cons (pass {q = q} s w) = (q, s, w)

pub fill_walk : {p q : State} (t : List ℕ) → inner p ≡ true → Walk p (strip t) q → Walk p t q
unfolding strip
fill_walk {p} {q} [] i w = w
fill_walk {p} {q} (c ∷ t) i w = go (is_selector c) refl (λ x j v. fill_walk {p = x} t j v)
  where
    go : (b : Bool) → is_selector c ≡ b → ((x : State) → inner x ≡ true → Walk x (strip t) q → Walk x t q) → Walk p (c ∷ t) q
    go true s h = let m : transition p (class_of c) ≡ Some p = rw (class_selector c s) (inner_selector p i) in pass m
        (h p i (rw (strip_selector c t s) at w))
    go false s h = let v = walk_cons (rw (strip-char c t s) at w) in pass v.1
        (h v.0 (sym (inner-transition p v.0 (class_of c) v.1) ∙ i) v.2)

-- Two lists with the same characters other than selectors lead from a state of links or units to the same state.
pub same_walk : {p q : State} (s t : List ℕ) → inner p ≡ true → strip s ≡ strip t → Walk p s q → Walk p t q
same_walk {p} {q} s t i e w = fill_walk t i (subst (λ (l : List ℕ). Walk p l q) e (strip_walk i w))

-- The first character of a links-only or emoji-headed item is no selector.
pub inner_no_selector : (c : ℕ) → inner (start_state (class_of c)) ≡ true → is_selector c ≡ false
unfolding start_state
inner_no_selector c i = fails (is_selector c) (λ e. false≢true (sym (ap (λ (k : Class). inner (start_state k)) (class_selector c e)) ∙ i))

-- A run of selectors contains no other character.
pub selectors_strip : {p q : State} {s : List ℕ} → p ≡ selectors → Walk p s q → strip s ≡ []
unfolding strip
selectors_strip e stay = refl
selectors_strip e (pass {q = q} {c = c} {t = t} f w) =
    let k = selectors_transition (class_of c) q (ap (λ (p : State). transition p (class_of c)) (sym e) ∙ f) in
    strip_selector c t (selector_class c k.0) ∙ selectors_strip k.1 w
