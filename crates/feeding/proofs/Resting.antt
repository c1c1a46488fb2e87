-- The characters of a piece after its first selectors: what is held is settled, the middle is formatted by itself, the tail is held.
use Rattle.std.specs.Prelude.{None}
use mathlib.Core.Path.{◌≡◌, refl, ap, ap₂, sym, ◌∙◌, subst}
use mathlib.Core.Bool.{true, false}
use mathlib.Core.List.{List, [], ◌∷◌, ◌++◌, append-nil, map}
use Prim.Native.Nat.{ℕ, ◌+◌, ◌-◌, ◌/◌, ◌<◌, ◌≤◌}
use native.Mathlib.Omega.{arith}
use lib.ListN.{drop, length, length-append, length-drop, length-map, length-take, take}
use lib.Seq.{length-sets, length-take-le}
use Rattle.base.specs.Output.{PutAt}
use Rattle.base.proofs.Tests.{and_both, both_true}
use Rattle.base.proofs.Writer.{put_as, put_then}
use Rattle.utf8.specs.Rfc3629.{all_scalar, chars, encode, encode_all, is_scalar, packed, read_char, valid_up_to_of}
use Rattle.utf8.proofs.Places.{step}
use Rattle.utf8.proofs.Texts.{
  chars-all_scalar,
  chars-encode_all-alone,
  encode_all_append,
  encode_all-chars,
  encode_all-whole,
  length_encode_all_chars,
  valid_up_to_le,
}
use Rattle.emoji.specs.Presentation.{as_selector, is_selector}
use Rattle.emoji.specs.Unicode.{has_variation_sequence}
use Rattle.policy.specs.declared.Policy.{Policy}
use Rattle.scanner.specs.Classes.{class_of}
use Rattle.scanner.specs.SelectorRun.{first_selector}
use Rattle.scanner.specs.declared.char_class.Class.{Class}
use Rattle.scanner.proofs.Bytes.{take_chars_lem}
use Rattle.scanner.proofs.SelectorChars.{other_value}
use Rattle.analysis.specs.CellView.{format_cells, total_cells}
use Rattle.analysis.specs.Counts.{◌⊕◌, capped_sum, empty, total}
use Rattle.analysis.specs.Rules.{first_asked}
use Rattle.analysis.specs.declared.types.NonCanonicality.{NonCanonicality}
use Rattle.analysis.proofs.Counts.{plus_assoc, plus-empty}
use Rattle.analysis.proofs.Sums.{whole_sum}
use Rattle.feed.specs.Bytes.{pending_of}
use Rattle.feed.specs.Feed.{Effect, Fed, Pending, base, fed_as, join_effects, no_effect, nothing, settle, take_chars}
use Rattle.feed.specs.declared.Held.{Held}
use Rattle.feed.proofs.Calls.{R}
use Rattle.feed.proofs.PieceRoom.{count_le}
use Rattle.feeding.specs.Helpers.{TakenBy}
use Rattle.feeding.specs.Parts.{BaseFrom, Between, TailFrom, none_held, one_held}
use Rattle.feeding.specs.declared.tail.HeldTail.{HeldTail}
use Rattle.feeding.proofs.Cuts.{middle-held, middle-none, uncounted_before, uncounted_empty, uncounted_same, whole_effect}
use Rattle.feeding.proofs.Settling.{settle-few}
use Rattle.feeding.proofs.Summing.{total-few}
use Rattle.feeding.proofs.Tails.{first_read, packed_value, valid_between}
use Rattle.feed.proofs.Kept.{entry_some}
use Rattle.feeding.proofs.Taking.{by, pending_none, pending_some}

-- ---- a part between two offsets

scalar_before : (vs us : List ℕ) → all_scalar (vs ++ us) ≡ true → all_scalar vs ≡ true
unfolding all_scalar
scalar_before [] us e = refl
scalar_before (v ∷ vs) us e =
    let b = both_true (is_scalar v) (all_scalar (vs ++ us)) e in and_both (is_scalar v) (all_scalar vs) b.0 (scalar_before vs us b.1)

module _ {text : List ℕ} {from to : ℕ} (b : Between text from to) where
  abbrev part : List ℕ
  part = take (to - from) (drop from text)

  part_bytes : part ≡ encode_all b.passed
  part_bytes =
      let n : to - from ≡ length (encode_all b.passed) = omega (arith, b.to_is) in
      ap (λ (k : ℕ). take k (drop from text)) n ∙ take_chars_lem (drop from text) b.passed (chars (drop to text)) b.chars_are

  part-scalar : all_scalar b.passed ≡ true
  part-scalar =
      scalar_before b.passed (chars (drop to text)) (ap all_scalar (sym b.chars_are) ∙ chars-all_scalar (drop from text))

  part-chars : chars part ≡ b.passed
  part-chars = ap chars part_bytes ∙ chars-encode_all-alone b.passed part-scalar

  part-whole : valid_up_to_of part ≡ length part
  part-whole = ap valid_up_to_of part_bytes ∙ encode_all-whole b.passed part-scalar ∙ ap length (sym part_bytes)

-- ---- what is taken of the rest

module _ (p : Policy) (text : List ℕ) (at to : ℕ) (t : HeldTail) where
  abbrev M : List ℕ
  M = take (t.start - at) (drop at text)

  abbrev C : List ℕ
  C = chars (drop at text)

  pub record Rest : Type 0 where
    pub first : ℕ
    pub more : List ℕ
    pub chars_are : C ≡ first ∷ more
    pub no_selector : is_selector first ≡ false
    pub on : at ≤ t.start
    pub inside : t.start ≤ to
    pub whole : valid_up_to_of M ≡ length M
    pub taken : (s : Pending)
        → take_chars s (fed_as p C) ≡ (pending_of p t.held, join_effects (settle s (class_of first)) (whole_effect p (chars M)))
    pub uncounted : total (total_cells p C) ≡ 0 → total (total_cells p (chars M)) ≡ 0
    pub scalar : is_scalar t.held.base ≡ true
    pub few : length (chars M) + t.held.count ≤ length C

  -- The first character.
  record FirstOf : Type 0 where
    first : ℕ
    more : List ℕ
    chars_are : C ≡ first ∷ more
    no_selector : is_selector first ≡ false

  first_of : at < to → to ≡ at + valid_up_to_of (drop at text) → first_selector C ≡ None → FirstOf
  unfolding encode_all first_selector
  first_of l e f = go C refl
    where
      go : (cs : List ℕ) → C ≡ cs → FirstOf
      go [] q = absurd (omega (arith, length_encode_all_chars (drop at text), ap (λ (cs : List ℕ). length (encode_all cs)) q))
      go (x ∷ xs) q = record { first = x; more = xs; chars_are = q; no_selector = other_value x (sym (ap first_selector q) ∙ f) }

  module _ (f : FirstOf) where
    begins : (s : Pending) {r : R} → take_chars s (fed_as p (f.first ∷ f.more)) ≡ r → take_chars s (fed_as p C) ≡ r
    begins s e = ap (λ (cs : List ℕ). take_chars s (fed_as p cs)) f.chars_are ∙ e

    rest-held : (b : BaseFrom text at to t.start) → has_variation_sequence b.value ≡ true
        → t.held ≡ record { base = b.value; first = first_asked b.selectors; count = length b.selectors } → Rest
    rest-held b v q =
        let w = step text t.start b.value b.width b.reads in
        let qs = b.selectors in
        let ms = b.passed.passed in
        let tail : chars (drop t.start text) ≡ b.value ∷ map as_selector qs =
        w.chars_on ∙ ap (λ (l : List ℕ). b.value ∷ l) b.after in
        let whole : C ≡ ms ++ (b.value ∷ map as_selector qs) = b.passed.chars_are ∙ ap (λ (l : List ℕ). ms ++ l) tail in
        let same = part-chars b.passed in
        let pending : pending_of p t.held ≡ base p b.value (first_asked qs) (length qs) =
        ap (λ (h : Held). pending_of p h) q
        ∙ pending_some p (record { base = b.value; first = first_asked qs; count = length qs }) (entry_some b.value v) in
        record {
          first = f.first;
          more = f.more;
          chars_are = f.chars_are;
          no_selector = f.no_selector;
          on = omega (arith, b.passed.to_is);
          inside = omega (arith, b.ends);
          whole = part-whole b.passed;
          taken = λ s.
              begins s
              (middle-held p s f.first f.more f.no_selector ms b.value qs (sym f.chars_are ∙ whole) b.no_selector v
              ∙ ap₂ (λ (x : Pending) (cs : List ℕ). (x, join_effects (settle s (class_of f.first)) (whole_effect p cs))) (sym pending)
              (sym same));
          uncounted = λ z.
              ap (λ (cs : List ℕ). total (total_cells p cs)) same
              ∙ uncounted_before p ms b.value qs b.no_selector v (ap (λ (cs : List ℕ). total (total_cells p cs)) (sym whole) ∙ z);
          scalar = ap (λ (h : Held). is_scalar h.base) q ∙ w.is_scalar_lem;
          few = omega (
            arith,
            ap length same,
            ap length whole,
            length-append ms (b.value ∷ map as_selector qs),
            length-map qs as_selector,
            ap (λ (h : Held). h.count) q,
          );
        }

    rest-none : {start : ℕ} (b : BaseFrom text at to start) → has_variation_sequence b.value ≡ false → t.start ≡ to
        → t.held ≡ record { base = 0; first = None; count = 0 } → to ≡ at + valid_up_to_of (drop at text) → Rest
    unfolding is_scalar
    rest-none {start} b v z q e =
        let w = step text start b.value b.width b.reads in
        let qs = b.selectors in
        let zs = b.passed.passed in
        let tail : chars (drop start text) ≡ b.value ∷ map as_selector qs = w.chars_on ∙ ap (λ (l : List ℕ). b.value ∷ l) b.after in
        let whole : C ≡ zs ++ (b.value ∷ map as_selector qs) = b.passed.chars_are ∙ ap (λ (l : List ℕ). zs ++ l) tail in
        let all = (valid_between text at to e).0 in
        let none = (valid_between text at to e).1 in
        let part_is : M ≡ take (to - at) (drop at text) = ap (λ (k : ℕ). take (k - at) (drop at text)) z in
        let same : chars M ≡ C = ap chars part_is ∙ part-chars all
        ∙ sym (append-nil all.passed) ∙ ap (λ (l : List ℕ). all.passed ++ l) (sym none) ∙ sym all.chars_are in
        let zero : t.held.base ≡ 0 = ap (λ (h : Held). h.base) q in
        record {
          first = f.first;
          more = f.more;
          chars_are = f.chars_are;
          no_selector = f.no_selector;
          on = omega arith;
          inside = omega arith;
          whole = ap valid_up_to_of part_is ∙ part-whole all ∙ ap length (sym part_is);
          taken = λ s.
              begins s
              (middle-none p s f.first f.more f.no_selector zs b.value qs (sym f.chars_are ∙ whole) b.no_selector v
              ∙ ap₂ (λ (x : Pending) (cs : List ℕ). (x, join_effects (settle s (class_of f.first)) (whole_effect p cs)))
              (sym (pending_none p t.held zero)) (sym (same ∙ f.chars_are)));
          uncounted = λ y. ap (λ (cs : List ℕ). total (total_cells p cs)) same ∙ y;
          scalar = ap is_scalar zero;
          few = omega (arith, ap length same, ap (λ (h : Held). h.count) q);
        }

  pub rest_of : at < to → to ≡ at + valid_up_to_of (drop at text) → first_selector C ≡ None → TailFrom text at to t → Rest
  rest_of l e f (one_held b v q) = rest-held (first_of l e f) b v q
  rest_of l e f (none_held b v z q) = rest-none (first_of l e f) b v z q e

  -- ---- by what the functions write

  module _ (r : Rest) (h : Held) (n : NonCanonicality) where
    abbrev S : Effect
    S = settle (pending_of p h) (class_of r.first)

    -- The class of the first character is that of the character that was read.
    pub first_is : (k : ℕ) → k ≡ packed (read_char (drop at text)) → k / 8 ≡ r.first
    first_is k e =
        packed_value (drop at text) r.first (length (encode r.first)) k (first_read text at r.first r.more r.chars_are) e

    written : encode_all (take_chars (pending_of p h) (fed_as p C)).1.text ≡ encode_all S.text ++ encode_all (format_cells p (chars M))
    written =
        ap (λ (q : R). encode_all q.1.text) (r.taken (pending_of p h)) ∙ encode_all_append S.text (format_cells p (chars M))

    written-length : length (encode_all (take_chars (pending_of p h) (fed_as p C)).1.text)
        ≡ length (encode_all S.text) + length (encode_all (format_cells p (chars M)))
    written-length = ap length written ∙ length-append (encode_all S.text) (encode_all (format_cells p (chars M)))

    module _ (o : List ℕ) (e : ℕ) (room : e + length (encode_all (take_chars (pending_of p h) (fed_as p C)).1.text) ≤ length o) where
      pub held-room : e + length (encode_all S.text) ≤ length o
      held-room = omega (arith, written-length)

      pub middle-room : {o₁ : List ℕ} {e₁ : ℕ} → PutAt o e (encode_all S.text) o₁ e₁
          → e₁ + length (encode_all (format_cells p (chars M))) ≤ length o₁
      middle-room {o₁} {e₁} w =
          let q = w.ends in
          omega (arith, written-length, ap length w.bytes, length-sets o e (encode_all S.text))

    pub rest-taken : {o o₁ o₂ : List ℕ} {e e₁ e₂ : ℕ} {a b m k : NonCanonicality} → total n + h.count ≤ 1000000000000
        → length text ≤ 16777216 → PutAt o e (encode_all S.text) o₁ e₁ → a ≡ S.counts
        → PutAt o₁ e₁ (encode_all (format_cells p (chars M))) o₂ e₂ → b ≡ total_cells p (chars M) → m ≡ capped_sum n a → k ≡ capped_sum m b
        → TakenBy p h n (fed_as p C) o e o₂ (record { held = t.held; end = e₂; counts = k })
    rest-taken {o} {o₁} {o₂} {e} {e₁} {e₂} {a} {b} {m} {k} few short x ax y by-cells ms ks =
        let T = total_cells p (chars M) in
        let short-c : length C ≤ 16777216 =
        omega (arith, count_le C, length_encode_all_chars (drop at text), valid_up_to_le (drop at text), length-drop at text) in
        let one : ℕ → Fed = λ (c : ℕ). record { char = c; policy = p } in
        let u = settle-few p h (class_of r.first) in
        let v = total-few p (chars M) in
        let ns : m ≡ n ⊕ S.counts = ms ∙ ap (capped_sum n) ax ∙ whole_sum n S.counts (omega (arith, u)) in
        let ls : k ≡ n ⊕ (S.counts ⊕ T) =
        ks ∙ ap₂ capped_sum ns by-cells ∙ whole_sum (n ⊕ S.counts) T (omega (arith, u, v, r.few)) ∙ plus_assoc n S.counts T in
        by p h n (fed_as p C) o e o₂ (record { held = t.held; end = e₂; counts = k })
        (pending_of p t.held, join_effects S (whole_effect p (chars M))) (r.taken (pending_of p h))
        (put_as (encode_all (S.text ++ format_cells p (chars M))) (sym (encode_all_append S.text (format_cells p (chars M))))
        (put_then x y))
        refl ls r.scalar
        (omega (arith, ap total ls, u, v, r.few, length-map C one, ap length r.chars_are))

    -- Where nothing is held and nothing is counted, the middle is copied.
    module _ (z : h.base ≡ 0) (uncounted-all : total (total_cells p C) ≡ 0) where
      abbrev none : pending_of p h ≡ nothing
      none = pending_none p h z

      copied : encode_all (format_cells p (chars M)) ≡ M
      copied = ap encode_all (uncounted_same p (chars M) (r.uncounted uncounted-all)) ∙ encode_all-chars M r.whole

      nothing-settled : S ≡ no_effect
      unfolding settle
      nothing-settled = ap (λ (s : Pending). settle s (class_of r.first)) none

      pub copied-room : (o : List ℕ) (e : ℕ) → e + length (encode_all (take_chars (pending_of p h) (fed_as p C)).1.text) ≤ length o
          → to ≤ length text → e + (t.start - at) ≤ length o
      copied-room o e l i =
          let a = length-take-le (t.start - at) (drop at text) (omega (arith, length-drop at text, r.inside)) in
          omega (arith, written-length, ap length copied)

      pub rest-copied : {o o₁ : List ℕ} {e e₁ : ℕ} → PutAt o e M o₁ e₁
          → TakenBy p h n (fed_as p C) o e o₁ (record { held = t.held; end = e₁; counts = n })
      unfolding encode_all
      rest-copied {o} {o₁} {e} {e₁} w =
          let one : ℕ → Fed = λ (c : ℕ). record { char = c; policy = p } in
          let taken : take_chars (pending_of p h) (fed_as p C) ≡ (pending_of p t.held, join_effects no_effect (whole_effect p (chars M))) =
          r.taken (pending_of p h) ∙ ap (λ (s : Effect). (
            pending_of p t.held,
            join_effects s (whole_effect p
                (chars M)),
          )) nothing-settled in
          by p h n (fed_as p C) o e o₁ (record { held = t.held; end = e₁; counts = n })
          (pending_of p t.held, join_effects no_effect (whole_effect p (chars M))) taken
          (put_as (encode_all (format_cells p (chars M))) (sym copied) w) refl
          (sym (ap (λ (m : NonCanonicality). n ⊕ (empty ⊕ m)) (uncounted_empty p (chars M) (r.uncounted uncounted-all)) ∙ plus-empty n))
          r.scalar
          (omega (arith, r.few, length-map C one))

  pub part_length : length M ≤ length text
  part_length = omega (arith, length-take (t.start - at) (drop at text), length-drop at text)

-- What is written of the held base before a class is what is written before an equal class.
pub put_before : (s : Pending) {k l : Class} {o o' : List ℕ} {at r : ℕ} → k ≡ l → PutAt o at (encode_all (settle s k).text) o' r
    → PutAt o at (encode_all (settle s l).text) o' r
put_before s {k} {l} {o} {o'} {at} {r} e w = subst (λ (y : Class). PutAt o at (encode_all (settle s y).text) o' r) e w
