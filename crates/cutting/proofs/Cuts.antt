-- The largest cut below an offset, and the two parts of a well-formed text at a cut.
use Rattle.std.specs.Prelude.{Some, None, Option}
use mathlib.Core.Path.{◌≡◌, refl, ap, sym, ◌∙◌, subst}
use mathlib.Core.Logic.{◌↔◌, ⊎_elim}
use mathlib.Core.Bool.{Bool, true, false, cond, ◌||◌, true≢false}
use mathlib.Core.List.{List, [], ◌∷◌, ◌++◌}
use Prim.Native.Nat.{ℕ, zero, suc, ◌+◌, ◌-◌, ◌≤◌, ◌<◌}
use native.Mathlib.Omega.{arith}
use lib.ListN.{drop, drop_of_length-le, get_or, length, length-drop, take, take-append-drop}
use lib.Seq.{get_or-drop, take_all}
use borrow.Author.Tests.{eq-eqb, ne_eqb}
use Rattle.base.proofs.Tests.{le_or_lt}
use Rattle.utf8.specs.Rfc3629.{WellFormed, none, chars}
use Rattle.utf8.proofs.Encoding.{char_begins}
use Rattle.utf8.proofs.Folds.{Reading, chars_end, chars_ill_formed, read_end, read_ill_formed, read_more, reading}
use Rattle.utf8.proofs.Fronts.{read_char_nil}
use Rattle.positions.specs.Positions.{is_lead}
use Rattle.positions.proofs.Boundaries.{boundary_means}
use Rattle.positions.proofs.Counting.{char-count, rest_well_formed}
use Rattle.cutting.specs.Cut.{cut_before, cut_below, first_may_begin, is_cut}
use Rattle.cutting.specs.Theorems.{BeginsPart, InTwo, IsLargest, begins, is_empty_lem}

-- ---- one offset

no_char_at_end : (text : List ℕ) (n : ℕ) → length text ≤ n → first_may_begin (chars (drop n text)) ≡ false
unfolding first_may_begin
no_char_at_end text n h =
    ap (λ (s : List ℕ). first_may_begin (chars s)) (drop_of_length-le text h) ∙ ap first_may_begin (chars_end [] read_char_nil)

-- Before the text's end, the character there decides.
cut_inside : (text : List ℕ) (n : ℕ) → n < length text → is_cut text n ≡ first_may_begin (chars (drop n text))
unfolding is_cut
cut_inside text n h = ap (λ (b : Bool). b || first_may_begin (chars (drop n text))) (ne_eqb n (length text) (λ e. omega arith))

cut_at_end : (text : List ℕ) → is_cut text (length text) ≡ true
unfolding is_cut
cut_at_end text = ap (λ (b : Bool). b || first_may_begin (chars (drop (length text) text))) (eq-eqb (length text) (length text) refl)

no_cut_past : (text : List ℕ) (n : ℕ) → length text < n → is_cut text n ≡ false
unfolding is_cut
no_cut_past text n h =
    ap (λ (b : Bool). b || first_may_begin (chars (drop n text))) (ne_eqb n (length text) (λ e. omega arith))
    ∙ no_char_at_end text n (omega arith)

-- ---- one step of the search

here : (text : List ℕ) (n : ℕ) → is_cut text n ≡ true → cut_below text (suc n) ≡ Some n
unfolding cut_below
here text n e = ap (λ (b : Bool). cond b (Some n) (cut_below text n)) e

below : (text : List ℕ) (n : ℕ) → is_cut text n ≡ false → cut_below text (suc n) ≡ cut_below text n
unfolding cut_below
below text n e = ap (λ (b : Bool). cond b (Some n) (cut_below text n)) e

-- A step of the loop, from the offset k to k - 1.
pub step-here : (text : List ℕ) (k : ℕ) → 0 < k → k ≤ length text → first_may_begin (chars (drop (k - 1) text)) ≡ true
    → cut_below text k ≡ Some (k - 1)
step-here text zero h l e = absurd (omega arith)
step-here text (suc n) h l e =
    let z : n ≡ suc n - 1 = omega arith in
    here text n (cut_inside text n (omega arith) ∙ ap (λ (i : ℕ). first_may_begin (chars (drop i text))) z ∙ e) ∙ ap Some z

pub step-below : (text : List ℕ) (k : ℕ) → 0 < k → k ≤ length text → first_may_begin (chars (drop (k - 1) text)) ≡ false
    → cut_below text k ≡ cut_below text (k - 1)
step-below text zero h l e = absurd (omega arith)
step-below text (suc n) h l e =
    let z : n ≡ suc n - 1 = omega arith in
    below text n (cut_inside text n (omega arith) ∙ ap (λ (i : ℕ). first_may_begin (chars (drop i text))) z ∙ e) ∙ ap (cut_below text) z

-- Below an offset after the text's end, the text's length is the largest cut.
past_end : (text : List ℕ) (n : ℕ) → length text < n → cut_below text n ≡ Some (length text)
past_end text zero h = absurd (omega arith)
past_end text (suc n) h =
    ⊎_elim (λ l. below text n (no_cut_past text n l) ∙ past_end text n l)
    (λ l. let e : n ≡ length text = omega arith in
    here text n (ap (is_cut text) e ∙ cut_at_end text) ∙ ap Some e)
    (le_or_lt (suc (length text)) n)

pub from_end : (text : List ℕ) (offset : ℕ) → length text ≤ offset → cut_before text offset ≡ Some (length text)
unfolding cut_before
from_end text offset h = past_end text (suc offset) (omega arith)

-- ---- the largest

cut_within : (text : List ℕ) (n : ℕ) → is_cut text n ≡ true → n ≤ length text
cut_within text n e =
    ⊎_elim (λ l. l) (λ l. absurd (true≢false (sym e ∙ no_cut_past text n l))) (le_or_lt n (length text))

-- The answer below an offset: the largest cut there.
pub data Below (text : List ℕ) (k : ℕ) : Option ℕ → Type 0 where
  found : (n : ℕ) → n < k → is_cut text n ≡ true → ((m : ℕ) → n < m → m < k → is_cut text m ≡ false) → Below text k (Some n)
  none_found : ((m : ℕ) → m < k → is_cut text m ≡ false) → Below text k None

one_more : {text : List ℕ} {k : ℕ} {c : Option ℕ} → is_cut text k ≡ false → Below text k c → Below text (suc k) c
one_more {text} {k} e (found n l a h) =
    found n (omega arith) a
    (λ m p q. ⊎_elim (λ r. h m p r) (λ r. ap (is_cut text) (let z : m ≡ k = omega arith in z) ∙ e) (le_or_lt (suc m) k))
one_more {text} {k} e (none_found h) =
    none_found (λ m q. ⊎_elim (λ r. h m r) (λ r. ap (is_cut text) (let z : m ≡ k = omega arith in z) ∙ e) (le_or_lt (suc m) k))

cut_below_lem : (text : List ℕ) (k : ℕ) → Below text k (cut_below text k)
unfolding cut_below
cut_below_lem text zero = none_found (λ m h. absurd (omega arith))
cut_below_lem text (suc k) = go (is_cut text k) refl (cut_below_lem text k)
  where
    go : (b : Bool) → is_cut text k ≡ b → Below text k (cut_below text k) → Below text (suc k) (cut_below text (suc k))
    go true e h = subst (Below text (suc k)) (sym (here text k e)) (found k (omega arith) e (λ m p q. absurd (omega arith)))
    go false e h = subst (Below text (suc k)) (sym (below text k e)) (one_more e h)

as_largest : {text : List ℕ} {offset : ℕ} {c : Option ℕ} → Below text (suc offset) c → IsLargest text offset c
as_largest {text} {offset} (found k l a h) = record {
  at_or_below = λ n e. let x : k ≡ n = cc in omega arith;
  within_text = λ n e. let x : k ≡ n = cc in subst (λ (i : ℕ). i ≤ length text) x (cut_within text k a);
  allowed = λ n e. let x : k ≡ n = cc in subst (λ (i : ℕ). is_cut text i ≡ true) x a;
  none_larger = λ n m e p q. let x : k ≡ n = cc in h m (omega arith) (omega arith);
  none = λ e. absurd (true≢false cc);
}
as_largest {text} {offset} (none_found h) = record {
  at_or_below = λ n e. absurd (true≢false cc);
  within_text = λ n e. absurd (true≢false cc);
  allowed = λ n e. absurd (true≢false cc);
  none_larger = λ n m e p q. absurd (true≢false cc);
  none = λ e m q. h m (omega arith);
}

pub largest : (text : List ℕ) (offset : ℕ) → IsLargest text offset (cut_before text offset)
unfolding cut_before
largest text offset = as_largest (cut_below_lem text (suc offset))

-- ---- the two parts of a well-formed text

-- Where a character begins, the byte is outside 80..BF.
first_byte : {s : List ℕ} → Reading s → first_may_begin (chars s) ≡ true → is_lead (get_or s 0 0) ≡ 1
unfolding first_may_begin
first_byte {s} (read_end e) k = absurd (true≢false (sym k ∙ ap first_may_begin (chars_end s e)))
first_byte {s} (read_ill_formed e) k = absurd (true≢false (sym k ∙ ap first_may_begin (chars_ill_formed s e)))
first_byte {s} (read_more v w e r) k =
    let b = char_begins s v w e in
    let z = char-count v in
    ap (λ (t : List ℕ). is_lead (get_or t 0 0)) (sym b.bytes ∙ ap (λ (t : List ℕ). t ++ drop w s) z.bytes) ∙ z.begins

begins_here : (s t : List ℕ) → chars s ≡ t → first_may_begin t ≡ true → BeginsPart s
unfolding first_may_begin
begins_here s [] e k = absurd (true≢false (sym k))
begins_here s (c ∷ t) e k = begins {c = c} {t = t} e k

first_of : {s : List ℕ} → BeginsPart s → 0 < length s → first_may_begin (chars s) ≡ true
unfolding first_may_begin
first_of is_empty_lem h = absurd (omega arith)
first_of (begins {c} {t} e k) h = ap first_may_begin e ∙ k

begins_at : (text : List ℕ) (n : ℕ) → is_cut text n ≡ true → BeginsPart (drop n text)
begins_at text n e =
    ⊎_elim (λ h. subst BeginsPart (sym (drop_of_length-le text h)) is_empty_lem)
    (λ h. begins_here (drop n text) (chars (drop n text)) refl (sym (cut_inside text n h) ∙ e))
    (le_or_lt (length text) n)

pub cut_means : (text : List ℕ) (n : ℕ) → n ≤ length text → (is_cut text n ≡ true) ↔ BeginsPart (drop n text)
cut_means text n l = (
  begins_at text n,
  λ b. ⊎_elim (λ h. ap (is_cut text) (let z : n ≡ length text = omega arith in z) ∙ cut_at_end text)
      (λ h. cut_inside text n h ∙ first_of b (omega (arith, length-drop n text))) (le_or_lt (length text) n),
)

in_two-inside : (text : List ℕ) (n : ℕ) → WellFormed text → n < length text → is_cut text n ≡ true → InTwo text n
in_two-inside text n w h e =
    let k : first_may_begin (chars (drop n text)) ≡ true = sym (cut_inside text n h) ∙ e in
    let i : n + 0 ≡ n = omega arith in
    let l : is_lead (get_or text n 0) ≡ 1 =
    ap is_lead (sym (get_or-drop n text 0 0 ∙ ap (λ (j : ℕ). get_or text j 0) i)) ∙ first_byte (reading (drop n text)) k in
    let b = (boundary_means text n w h).1 l in
    record {
      first = b.well_formed;
      second = rest_well_formed (take n text) (drop n text) b.well_formed (subst WellFormed (sym (take-append-drop n text)) w);
      whole = take-append-drop n text;
      begins_part = begins_at text n e;
    }

in_two_end : (text : List ℕ) (n : ℕ) → WellFormed text → length text ≤ n → InTwo text n
in_two_end text n w h =
    let d = drop_of_length-le text h in
    record {
      first = subst WellFormed (sym (take_all n text h)) w;
      second = subst WellFormed (sym d) none;
      whole = take-append-drop n text;
      begins_part = subst BeginsPart (sym d) is_empty_lem;
    }

pub in_two : (text : List ℕ) (n : ℕ) → WellFormed text → is_cut text n ≡ true → InTwo text n
in_two text n w e = ⊎_elim (λ h. in_two_end text n w h) (λ h. in_two-inside text n w h e) (le_or_lt (length text) n)
