-- The words of a state, read one after the other.
use Rattle.emoji.specs.declared.presentation.Presentation.{Presentation}
use Rattle.std.specs.Prelude.{Option}
use mathlib.Core.Path.{◌≡◌, ap, sym, ◌∙◌}
use mathlib.Core.Bool.{Bool, false, not, ◌&&◌}
use mathlib.Core.List.{List}
use Prim.Native.Nat.{ℕ, zero, suc, ◌-◌, ◌%◌, ◌≤◌, ◌<◌}
use native.Mathlib.Omega.{arith}
use lib.Dec.{eqb, leb}
use lib.ListN.{drop, length, length-drop, take}
use lib.Seq.{take-length}
use borrow.Author.Tests.{le-leb, lt-leb}
use Rattle.base.specs.Words.{word_at}
use Rattle.base.specs.Refusals.{text_limit}
use Rattle.analysis.specs.declared.types.NonCanonicality.{NonCanonicality}
use Rattle.feed.specs.declared.Held.{Held}
use Rattle.feed.specs.declared.State.{State}
use Rattle.feed.specs.Bytes.{counts_of, selector_of, held_of, small_to, state_of}

pub held-made : (bs : List ℕ) {b n : ℕ} {f : Option Presentation} → b ≡ word_at 1 bs % 4294967296 → f ≡ selector_of (word_at 2 bs)
    → n ≡ word_at 3 bs
    → ◌≡◌ {A = Held} (record { base = b; first = f; count = n }) (held_of bs)
unfolding held_of
held-made bs p q r = λ i. record { base = p i; first = q i; count = r i }

pub state-made : (bs : List ℕ) {e : Bool} {h : Held} {m r l : ℕ} {n : NonCanonicality} → e ≡ not (eqb (word_at 0 bs) 0) → h ≡ held_of bs → m
    ≡ word_at 4 bs
    → r ≡ word_at 5 bs → l ≡ word_at 6 bs → n ≡ counts_of bs
    → ◌≡◌ {A = State} (record { ended = e; held = h; rest_len = m; rest = r; len = l; counts = n }) (state_of bs)
unfolding state_of
state-made bs a b c d e f = λ i. record { ended = a i; held = b i; rest_len = c i; rest = d i; len = e i; counts = f i }

-- The test of the words, from the last one down.
pub small-on : (bs : List ℕ) (k : ℕ) → 0 < k → word_at (k - 1) bs ≤ text_limit → small_to k bs ≡ small_to (k - 1) bs
unfolding small_to
small-on bs zero h l = absurd (omega arith)
small-on bs (suc k) h l = let e : suc k - 1 ≡ k = omega arith in go k e (ap (λ (j : ℕ). word_at j bs) e) l
  where
    go : (j : ℕ) → suc k - 1 ≡ k → word_at (suc k - 1) bs ≡ word_at k bs → word_at (suc k - 1) bs ≤ text_limit
        → leb (word_at k bs) text_limit && small_to k bs ≡ small_to (suc k - 1) bs
    go j e w l = ap (λ (t : Bool). t && small_to k bs) (le-leb (word_at k bs) text_limit (omega arith))
        ∙ ap (λ (i : ℕ). small_to i bs) (sym e)

pub small_not : (bs : List ℕ) (k : ℕ) → 0 < k → text_limit < word_at (k - 1) bs → small_to k bs ≡ false
unfolding small_to
small_not bs zero h l = absurd (omega arith)
small_not bs (suc k) h l =
    let e : suc k - 1 ≡ k = omega arith in
    let w : word_at (suc k - 1) bs ≡ word_at k bs = ap (λ (j : ℕ). word_at j bs) e in
    ap (λ (t : Bool). t && small_to k bs) (lt-leb (word_at k bs) text_limit (omega arith))

-- The policy's part of a feed, as it is lent to a function.
pub policy-lent : (bs : List ℕ) → take (length bs - 120) (drop 120 bs) ≡ drop 120 bs
policy-lent bs = ap (λ (n : ℕ). take n (drop 120 bs)) (sym (length-drop 120 bs)) ∙ take-length (drop 120 bs)
