-- Characters that are taken one after the other.
use Rattle.std.specs.Prelude.{None, Option}
use mathlib.Core.Path.{◌≡◌, refl, ap, ap₂, sym, ◌∙◌, subst}
use mathlib.Core.Bool.{Bool, true, false, cond}
use mathlib.Core.List.{List, [], ◌∷◌, ◌++◌, append-nil}
use Prim.Native.Nat.{ℕ, suc, ◌+◌, ◌*◌, ◌≤◌}
use native.Mathlib.Omega.{arith}
use lib.ListN.{length, length-append}
use lib.Seq.{length-sets}
use borrow.Author.Tests.{eq-eqb, ne_eqb}
use Rattle.base.specs.Output.{PutAt}
use Rattle.base.proofs.Writer.{put_as, put_then}
use Rattle.utf8.specs.Rfc3629.{encode, encode_all, is_scalar}
use Rattle.utf8.proofs.Texts.{encode_all_append}
use Rattle.emoji.specs.Presentation.{as_selector, from_selector}
use Rattle.emoji.specs.Unicode.{has_variation_sequence}
use Rattle.emoji.specs.declared.presentation.Presentation.{Presentation}
use Rattle.policy.specs.declared.Policy.{Policy}
use Rattle.scanner.specs.Classes.{class_of}
use Rattle.scanner.proofs.SelectorChars.{from_selector_lem}
use Rattle.analysis.specs.Counts.{◌⊕◌, capped_sum, total, unsanctioned}
use Rattle.analysis.specs.declared.types.NonCanonicality.{NonCanonicality}
use Rattle.analysis.proofs.Counts.{plus_assoc, plus-empty}
use Rattle.analysis.proofs.Sums.{whole_sum}
use Rattle.feed.specs.Feed as F
use Rattle.feed.specs.Feed.{
  Fed,
  Pending,
  Effect,
  written_alone,
  base,
  held_after_of,
  join_effects,
  nothing,
  settle,
  no_effect,
  take_char,
  take_chars,
  take_selector,
}
use Rattle.feed.proofs.Calls.{R, take_append}
use Rattle.feed.proofs.Kept.{entry_some}
use Rattle.feed.specs.declared.Held.{Held}
use Rattle.feeding.specs.declared.Taken.{Taken}
use Rattle.feed.specs.Bytes.{pending_of}
use Rattle.feed.specs.Feed.{fed_as}
use Rattle.feeding.specs.Helpers.{TakenBy}
use Rattle.feeding.proofs.Settling.{settle-few}

-- ---- one character

pub take_one : (s : Pending) (x : Fed) → take_chars s (x ∷ []) ≡ take_char x.policy s x.char (from_selector x.char)
unfolding take_chars
take_one s x =
    let r = take_char x.policy s x.char (from_selector x.char) in
    λ i. (r.0, record { text = append-nil r.1.text i; counts = plus-empty r.1.counts i })

pub one_selector : (p : Policy) (s : Pending) (q : Presentation) → take_chars s (fed_as p (as_selector q ∷ [])) ≡ take_selector s q
unfolding take_char
one_selector p s q =
    take_one s (record { char = as_selector q; policy = p })
    ∙ ap (λ (y : Option Presentation). take_char p s (as_selector q) y) (from_selector_lem q)

abbrev otherwise : Policy → Pending → ℕ → Bool → R
otherwise p s c b =
    (held_after_of p c b, record { text = (settle s (class_of c)).text ++ written_alone c b; counts = (settle s (class_of c)).counts })

pub one-other : (p : Policy) (s : Pending) (c : ℕ) → from_selector c ≡ None → take_chars s (fed_as p (c ∷ []))
    ≡ otherwise p s c (has_variation_sequence c)
unfolding take_char
one-other p s c e = take_one s (record { char = c; policy = p }) ∙ ap (λ (y : Option Presentation). take_char p s c y) e

pub pending_none : (p : Policy) (h : Held) → h.base ≡ 0 → pending_of p h ≡ nothing
pending_none p h e = ap (λ (t : Bool). cond t nothing (base p h.base h.first h.count)) (eq-eqb h.base 0 e)

pub pending_some : (p : Policy) (h : Held) → (h.base ≡ 0 → ⊥) → pending_of p h ≡ base p h.base h.first h.count
pending_some p h e = ap (λ (t : Bool). cond t nothing (base p h.base h.first h.count)) (ne_eqb h.base 0 e)

-- ---- how a function's proof builds `TakenBy`

pub by : (p : Policy) (h : Held) (n : NonCanonicality) (xs : List Fed) (o : List ℕ) (at : ℕ) (o' : List ℕ) (r : Taken) (q : R)
    → take_chars (pending_of p h) xs ≡ q → PutAt o at (encode_all q.1.text) o' r.end → pending_of p r.held ≡ q.0 → r.counts ≡ n
    ⊕ q.1.counts
    → is_scalar r.held.base ≡ true → total r.counts + r.held.count ≤ total n + h.count + 3 * length xs → TakenBy p h n xs o at o' r
by p h n xs o at o' r q e t s c i f = record {
  text = put_as (encode_all (take_chars (pending_of p h) xs).1.text) (ap (λ (y : R). encode_all y.1.text) (sym e)) t;
  held = s ∙ ap (λ (y : R). y.0) (sym e);
  counts = c ∙ ap (λ (y : R). n ⊕ y.1.counts) (sym e);
  scalar = i;
  few = f;
}

pub nothing_put : (o : List ℕ) (at : ℕ) → PutAt o at [] o at
nothing_put o at = record { ends = omega arith; bytes = refl }

module _ (t : Taken) (q : Presentation) (i : is_scalar t.held.base ≡ true) (b : total t.counts + t.held.count ≤ 1000000000000) where
  pub selector_alone : {u m : NonCanonicality} → t.held.base ≡ 0 → u ≡ unsanctioned 1 → m ≡ capped_sum t.counts u
      → (p : Policy) (o : List ℕ)
      → TakenBy p t.held t.counts (fed_as p (as_selector q ∷ [])) o t.end o (record { held = t.held; end = t.end; counts = m })
  unfolding take_selector encode_all
  selector_alone {u} {m} z e c p o =
      let s : m ≡ t.counts ⊕ unsanctioned 1 = c ∙ ap (capped_sum t.counts) e ∙ whole_sum t.counts (unsanctioned 1) (omega arith) in
      by p t.held t.counts (fed_as p (as_selector q ∷ [])) o t.end o (record { held = t.held; end = t.end; counts = m })
      (nothing, record { text = []; counts = unsanctioned 1 })
      (one_selector p (pending_of p t.held) q ∙ ap (λ (y : Pending). take_selector y q) (pending_none p t.held z))
      (nothing_put o t.end) (pending_none p t.held z) s i
      (omega (arith, ap total s))

  pub selector_after : {f : Option Presentation} → (t.held.base ≡ 0 → ⊥) → f ≡ F.first_of t.held.first q → (p : Policy) (o : List ℕ)
      → TakenBy p t.held t.counts (fed_as p (as_selector q ∷ [])) o t.end o
      (record { held = record { base = t.held.base; first = f; count = t.held.count + 1 }; end = t.end; counts = t.counts })
  unfolding take_selector encode_all
  selector_after {f} z e p o =
      let h = t.held in
      let k : Held = record { base = h.base; first = f; count = h.count + 1 } in
      let one : h.count + 1 ≡ suc h.count = omega arith in
      by p h t.counts (fed_as p (as_selector q ∷ [])) o t.end o (record { held = k; end = t.end; counts = t.counts })
      (base p h.base (F.first_of h.first q) (suc h.count), no_effect)
      (one_selector p (pending_of p h) q ∙ ap (λ (y : Pending). take_selector y q) (pending_some p h z)) (nothing_put o t.end)
      (pending_some p k z ∙ ap₂ (λ (y : Option Presentation) (j : ℕ). base p h.base y j) e one) (sym (plus-empty t.counts)) i
      (omega arith)

module _ (p : Policy) (t : Taken) (c : ℕ) (e : from_selector c ≡ None) where
  abbrev S : Effect
  S = settle (pending_of p t.held) (class_of c)

  -- The bytes that are written.
  pub other-room : length (encode_all (take_chars (pending_of p t.held) (fed_as p (c ∷ []))).1.text)
      ≡ length (encode_all S.text) + length (encode_all (written_alone c (has_variation_sequence c)))
  other-room =
      ap (λ (y : R). length (encode_all y.1.text)) (one-other p (pending_of p t.held) c e)
      ∙ ap length (encode_all_append S.text (written_alone c (has_variation_sequence c)))
      ∙ length-append (encode_all S.text) (encode_all (written_alone c (has_variation_sequence c)))

  pub alone-room : has_variation_sequence c ≡ false → length (encode_all (written_alone c (has_variation_sequence c))) ≡ length (encode c)
  unfolding encode_all
  alone-room v = ap (λ (b : Bool). length (encode_all (written_alone c b))) v ∙ ap length (append-nil (encode c))

  module _ (b : total t.counts + t.held.count ≤ 1000000000000) {l m : NonCanonicality} (g : l ≡ S.counts)
      (s : m ≡ capped_sum t.counts l) where
    sum : m ≡ t.counts ⊕ S.counts
    sum = s ∙ ap (capped_sum t.counts) g ∙ whole_sum t.counts S.counts (omega (arith, settle-few p t.held (class_of c)))

    pub other-held : {o o' : List ℕ} {r : ℕ} {k : Held} → is_scalar c ≡ true → has_variation_sequence c ≡ true
        → PutAt o t.end (encode_all S.text) o' r
        → k ≡ record { base = c; first = None; count = 0 } → TakenBy p t.held t.counts (fed_as p (c ∷ [])) o t.end o'
        (record { held = k; end = r; counts = m })
    other-held {o} {o'} {r} {k} i v u w =
        let K : Held = record { base = c; first = None; count = 0 } in
        let z : k.base ≡ c = ap (λ (y : Held). y.base) w in
        let d : k.count ≡ 0 = ap (λ (y : Held). y.count) w in
        by p t.held t.counts (fed_as p (c ∷ [])) o t.end o' (record { held = k; end = r; counts = m })
        (otherwise p (pending_of p t.held) c true)
        (one-other p (pending_of p t.held) c e ∙ ap (otherwise p (pending_of p t.held) c) v)
        (put_as (encode_all (S.text ++ [])) (ap encode_all (sym (append-nil S.text))) u)
        (ap (λ (y : Held). pending_of p y) w ∙ pending_some p K (entry_some c v)) sum (ap is_scalar z ∙ i)
        (omega (arith, ap total sum, settle-few p t.held (class_of c)))

    pub other-alone : {o o₁ o' : List ℕ} {r₁ r : ℕ} {k : Held} → has_variation_sequence c ≡ false
        → PutAt o t.end (encode_all S.text) o₁ r₁ → PutAt o₁ r₁ (encode c) o' r
        → k ≡ record { base = 0; first = None; count = 0 } → TakenBy p t.held t.counts (fed_as p (c ∷ [])) o t.end o'
        (record { held = k; end = r; counts = m })
    unfolding encode_all is_scalar
    other-alone {o} {o₁} {o'} {r₁} {r} {k} v u x w =
        let K : Held = record { base = 0; first = None; count = 0 } in
        let z : k.base ≡ 0 = ap (λ (y : Held). y.base) w in
        let d : k.count ≡ 0 = ap (λ (y : Held). y.count) w in
        by p t.held t.counts (fed_as p (c ∷ [])) o t.end o' (record { held = k; end = r; counts = m })
        (otherwise p (pending_of p t.held) c false)
        (one-other p (pending_of p t.held) c e ∙ ap (otherwise p (pending_of p t.held) c) v)
        (put_as (encode_all (S.text ++ (c ∷ [])))
        (ap (λ (y : List ℕ). encode_all S.text ++ y) (sym (append-nil (encode c))) ∙ sym (encode_all_append S.text (c ∷ [])))
        (put_then u x))
        (pending_none p k z) sum (ap is_scalar z)
        (omega (arith, ap total sum, settle-few p t.held (class_of c)))

-- ---- characters after characters

module _ {p : Policy} {h : Held} {n : NonCanonicality} {xs : List Fed} {o o₁ : List ℕ} {at : ℕ} {t : Taken}
    (a : TakenBy p h n xs o at o₁ t) where
  pub and_then : {ys : List Fed} {o₂ : List ℕ} {r : Taken} → TakenBy p t.held t.counts ys o₁ t.end o₂ r
      → TakenBy p h n (xs ++ ys) o at o₂ r
  and_then {ys} {o₂} {r} b =
      let s = pending_of p h in
      let A = take_chars s xs in
      let B = take_chars A.0 ys in
      let same : take_chars (pending_of p t.held) ys ≡ B = ap (λ (y : Pending). take_chars y ys) a.held in
      by p h n (xs ++ ys) o at o₂ r (B.0, join_effects A.1 B.1) (take_append s xs ys)
      (put_as (encode_all (A.1.text ++ B.1.text))
      (ap (λ (y : R). encode_all A.1.text ++ encode_all y.1.text) same ∙ sym (encode_all_append A.1.text B.1.text))
      (put_then a.text b.text))
      (b.held ∙ ap (λ (y : R). y.0) same)
      (b.counts ∙ ap₂ (λ (y : NonCanonicality) (z : R). y ⊕ z.1.counts) a.counts same ∙ plus_assoc n A.1.counts B.1.counts)
      b.scalar
      (omega (arith, a.few, b.few, length-append xs ys))

  -- The room that is left is enough for the next characters.
  pub next-room : (ys zs : List Fed) {X : List Fed} → X ≡ xs ++ (ys ++ zs)
      → at + length (encode_all (take_chars (pending_of p h) X).1.text) ≤ length o
      → t.end + length (encode_all (take_chars (pending_of p t.held) ys).1.text) ≤ length o₁
  next-room ys zs {X} e l =
      let s = pending_of p h in
      let A = take_chars s xs in
      let B = take_chars A.0 ys in
      let C = take_chars B.0 zs in
      let same : take_chars (pending_of p t.held) ys ≡ B = ap (λ (y : Pending). take_chars y ys) a.held in
      let E : (take_chars s X).1.text ≡ A.1.text ++ (B.1.text ++ C.1.text) =
      ap (λ (y : List Fed). (take_chars s y).1.text) e ∙ ap (λ (y : R). y.1.text) (take_append s xs (ys ++ zs))
      ∙ ap (λ (y : R). A.1.text ++ y.1.text) (take_append A.0 ys zs) in
      let N = ap (λ (y : List ℕ). length (encode_all y)) E ∙ ap length (encode_all_append A.1.text (B.1.text ++ C.1.text)) in
      let M = ap length (encode_all_append B.1.text C.1.text) in
      let q = a.text.ends in
      omega (
        arith,
        N,
        M,
        length-append (encode_all A.1.text) (encode_all (B.1.text ++ C.1.text)),
        length-append (encode_all B.1.text) (encode_all C.1.text),
        ap (λ (y : R). length (encode_all y.1.text)) same,
        ap length a.text.bytes,
        length-sets o at (encode_all A.1.text),
      )

-- Nothing is taken of no characters.
pub taken_none : (p : Policy) (h : Held) (n : NonCanonicality) (o : List ℕ) (at : ℕ) → is_scalar h.base ≡ true
    → TakenBy p h n [] o at o (record { held = h; end = at; counts = n })
unfolding take_chars encode_all
taken_none p h n o at i =
    by p h n [] o at o (record { held = h; end = at; counts = n }) (pending_of p h, no_effect) refl (nothing_put o at) refl
    (sym (plus-empty n)) i (omega arith)

-- Equal characters are taken in the same way.
pub taken_as : {p : Policy} {h : Held} {n : NonCanonicality} {cs ds o o' : List ℕ} {at : ℕ} {r : Taken} → cs ≡ ds
    → TakenBy p h n (fed_as p cs) o at o' r → TakenBy p h n (fed_as p ds) o at o' r
taken_as {p} {h} {n} {cs} {ds} {o} {o'} {at} {r} e t = subst (λ (l : List ℕ). TakenBy p h n (fed_as p l) o at o' r) e t
