-- A piece for a feed whose policy has changed since its held base was fed: selectors at its front, the character that settles the held
-- base, and the characters from there on.
use Rattle.std.specs.Prelude.{Some, None, Option}
use mathlib.Core.Path.{◌≡◌, refl, ap, ap₂, sym, ◌∙◌, subst}
use mathlib.Core.Bool.{Bool, true, false, not, ◌&&◌, true≢false}
use mathlib.Core.List.{List, [], ◌∷◌, ◌++◌, append_assoc, append-nil, map}
use Prim.Native.Nat.{ℕ, ◌+◌, ◌/◌, ◌≤◌, ◌<◌}
use native.Mathlib.Omega.{arith}
use lib.ListN.{drop, length, length-append, length-map}
use lib.Seq.{length-sets, sets}
use Rattle.base.proofs.Tests.{and_both, both_true}
use Rattle.base.proofs.Writer.{put_as, put_then}
use Rattle.utf8.specs.Rfc3629.{chars, encode, encode_all, is_scalar, packed, read_char, valid_up_to_of}
use Rattle.utf8.proofs.Texts.{encode_all_append, length_encode_all_chars}
use Rattle.utf8.proofs.Scalars.{is_scalar_low}
use Rattle.emoji.specs.Presentation.{as_selector, from_selector, is_selector}
use Rattle.emoji.specs.Unicode.{has_variation_sequence}
use Rattle.emoji.specs.declared.presentation.Presentation.{Presentation}
use Rattle.policy.specs.declared.Policy.{Policy}
use Rattle.scanner.specs.Classes.{class_of}
use Rattle.scanner.specs.declared.char_class.Class.{Class}
use Rattle.scanner.specs.SelectorRun.{first_selector}
use Rattle.scanner.proofs.SelectorChars.{
  CharIs,
  a_selector,
  char_is,
  from_selector_lem,
  no_selector,
  other_value,
  selector_is,
  selector_value,
}
use Rattle.analysis.specs.Counts.{◌⊕◌, empty, total}
use Rattle.analysis.specs.declared.types.NonCanonicality.{NonCanonicality}
use Rattle.analysis.proofs.Counts.{empty-plus, plus_assoc, plus-empty}
use Rattle.feed.specs.Bytes.{pending_of}
use Rattle.feed.specs.Feed.{
  Effect,
  Fed,
  Pending,
  base,
  fed_as,
  held_after_of,
  join_effects,
  nothing,
  settle,
  take_char,
  take_chars,
  take_selector,
  written_alone,
}
use Rattle.feed.specs.declared.Held.{Held}
use Rattle.feed.proofs.Calls.{R, take_append}
use Rattle.policy_change.specs.Bytes.{only_selectors}
use Rattle.policy_change.proofs.Selectors.{selectors_same}
use Rattle.feeding.specs.Helpers.{TakenBy}
use Rattle.feeding.specs.Later.{HeldSettled, TakenLater}
use Rattle.feeding.specs.Parts.{SelectorsTaken, char_of, scanned_chars}
use Rattle.feeding.specs.declared.Taken.{Taken}
use Rattle.feeding.specs.declared.later.Later.{Later}
use Rattle.feeding.specs.declared.scan.PieceScan.{PieceScan}
use Rattle.feeding.proofs.Cuts.{fed_append}
use Rattle.feeding.proofs.Fronting.{char-few, fed_length}
use Rattle.feeding.proofs.Scanning.{char-none, char-some}
use Rattle.feeding.proofs.Settling.{settle-few}
use Rattle.feeding.proofs.Tails.{first_read, packed_value}
use Rattle.feeding.proofs.Taking.{and_then, next-room, taken_none}

-- ---- characters that are selectors

only_map : (qs : List Presentation) → only_selectors (map as_selector qs) ≡ true
unfolding only_selectors
only_map [] = refl
only_map (q ∷ qs) = and_both (is_selector (as_selector q)) (only_selectors (map as_selector qs)) (selector_is q) (only_map qs)

only_append : (a b : List ℕ) → only_selectors a ≡ true → only_selectors (a ++ b) ≡ only_selectors b
unfolding only_selectors
only_append [] b e = refl
only_append (c ∷ a) b e =
    let t = both_true (is_selector c) (only_selectors a) e in
    ap (λ (x : Bool). x && only_selectors (a ++ b)) t.0 ∙ only_append a b t.1

only-other : (d : ℕ) (ds : List ℕ) → from_selector d ≡ None → only_selectors (d ∷ ds) ≡ false
unfolding only_selectors
only-other d ds e = ap (λ (x : Bool). x && only_selectors ds) (other_value d e)

-- The completed character, by the test of it.
pub first-none : (n : ℕ) → n ≡ 0 → only_selectors (char_of n) ≡ true
unfolding only_selectors
first-none n z = ap only_selectors (char-none n z)

pub first_selector_lem : (n : ℕ) (q : Presentation) → (n ≡ 0 → ⊥) → from_selector (n / 8) ≡ Some q → only_selectors (char_of n) ≡ true
unfolding only_selectors
first_selector_lem n q z e =
    ap only_selectors (char-some n z) ∙ ap (λ (c : ℕ). is_selector c && true) (selector_value (n / 8) q e)
    ∙ ap (λ (b : Bool). b && true) (selector_is q)

-- Selectors write nothing.
selector_text : (s : Pending) (q : Presentation) → (take_selector s q).1.text ≡ []
unfolding take_selector
selector_text nothing q = refl
selector_text (base p c f n) q = refl

selectors_text : (s : Pending) (p : Policy) (cs : List ℕ) → only_selectors cs ≡ true → (take_chars s (fed_as p cs)).1.text ≡ []
unfolding take_chars only_selectors take_char
selectors_text s p [] e = refl
selectors_text s p (c ∷ cs) e =
    let b = both_true (is_selector c) (only_selectors cs) e in
    let r = take_char p s c (from_selector c) in
    ap₂ (λ (x y : List ℕ). x ++ y) (one (char_is c) b.0) (selectors_text r.0 p cs b.1)
  where
    one : CharIs c → is_selector c ≡ true → (take_char p s c (from_selector c)).1.text ≡ []
    one (a_selector q d) i =
        ap (λ (y : Option Presentation). (take_char p s c y).1.text) (ap from_selector d ∙ from_selector_lem q) ∙ selector_text s q
    one (no_selector d) i = absurd (true≢false (sym i ∙ d))

-- There is room for nothing.
pub front_fits : (s : Pending) (p : Policy) (cs : List ℕ) (m : ℕ) → only_selectors cs ≡ true
    → 0 + length (encode_all (take_chars s (fed_as p cs)).1.text) ≤ m
unfolding encode_all
front_fits s p cs m e = omega (arith, ap (λ (l : List ℕ). length (encode_all l)) (selectors_text s p cs e))

-- ---- the character that settles the held base

module _ (p : Policy) (d : ℕ) (ds : List ℕ) (e : from_selector d ≡ None) where
  abbrev H : Pending
  H = held_after_of p d (has_variation_sequence d)

  abbrev W : List ℕ
  W = written_alone d (has_variation_sequence d)

  abbrev N : R
  N = take_chars H (fed_as p ds)

  alone : (s : Pending) → take_chars s (fed_as p (d ∷ ds))
      ≡ (N.0, join_effects (record { text = (settle s (class_of d)).text ++ W; counts = (settle s (class_of d)).counts }) N.1)
  unfolding take_chars take_char
  alone s =
      ap (λ (r : R). ((take_chars r.0 (fed_as p ds)).0, join_effects r.1 (take_chars r.0 (fed_as p ds)).1))
      (ap (λ (y : Option Presentation). take_char p s d y) e)

  -- It settles what is held, and is taken as where nothing is held.
  pub settle-first : (s : Pending) → take_chars s (fed_as p (d ∷ ds))
      ≡ ((take_chars nothing (fed_as p (d ∷ ds))).0, join_effects (settle s (class_of d)) (take_chars nothing (fed_as p (d ∷ ds))).1)
  unfolding settle
  settle-first s =
      let S = settle s (class_of d) in
      alone s
      ∙ (λ i. (
        N.0,
        record {
          text = append_assoc S.text W N.1.text i;
          counts = ap (λ (m : NonCanonicality). S.counts ⊕ m) (sym (empty-plus N.1.counts)) i;
        },
      ))
      ∙ ap (λ (r : R). (r.0, join_effects S r.1)) (sym (alone nothing))

-- ---- one character, and those after it

module _ (p : Policy) (t : Taken) (o : List ℕ) (d : ℕ) (ds : List ℕ) (i : is_scalar t.held.base ≡ true)
    (l : t.end + length (encode_all (take_chars (pending_of p t.held) (fed_as p (d ∷ ds))).1.text) ≤ length o) where
  pub first-room : t.end + length (encode_all (take_chars (pending_of p t.held) (fed_as p (d ∷ []))).1.text) ≤ length o
  first-room = next-room (taken_none p t.held t.counts o t.end i) (fed_as p (d ∷ [])) (fed_as p ds) refl l

  module _ {r : Taken} {o₁ : List ℕ} (w : TakenBy p t.held t.counts (fed_as p (d ∷ [])) o t.end o₁ r) where
    pub more_room : r.end + length (encode_all (take_chars (pending_of p r.held) (fed_as p ds)).1.text) ≤ length o₁
    more_room =
        next-room w (fed_as p ds) [] (ap (λ (xs : List Fed). fed_as p (d ∷ []) ++ xs) (sym (append-nil (fed_as p ds)))) l

    pub few-more : {m : ℕ} → total t.counts + t.held.count ≤ m → total r.counts + r.held.count ≤ m + 3
    few-more k = omega (arith, w.few)

-- ---- the parts together

module _ (q p : Policy) (h : Held) (n : NonCanonicality) where
  -- Selectors at the front were taken.
  pub record Fronted (S : List ℕ) (b : Taken) : Type 0 where
    pub only : only_selectors S ≡ true
    pub more : NonCanonicality
    pub front : take_chars (pending_of q h) (fed_as p S) ≡ (pending_of q b.held, record { text = []; counts = more })
    pub counts : b.counts ≡ n ⊕ more

  pub fronted_none : (e : ℕ) → Fronted [] (record { held = h; end = e; counts = n })
  unfolding take_chars only_selectors
  fronted_none e = record { only = refl; more = empty; front = refl; counts = sym (plus-empty n) }

  pub fronted : (S : List ℕ) {b : Taken} {o o' : List ℕ} {at : ℕ} → only_selectors S ≡ true → TakenBy q h n (fed_as q S) o at o' b
      → Fronted S b
  fronted S {b} e w = record {
    only = e;
    more = (take_chars (pending_of q h) (fed_as q S)).1.counts;
    front = selectors_same p q (pending_of q h) S e
        ∙ (λ i. (
          sym w.held i,
          record { text = selectors_text (pending_of q h) q S e i; counts = (take_chars (pending_of q h) (fed_as q S)).1.counts },
        ));
    counts = w.counts;
  }

  module _ {S : List ℕ} {b : Taken} (f : Fronted S b) where
    -- Only selectors.
    pub unsettled : {cs o o₁ : List ℕ} → o₁ ≡ o → cs ≡ S → b.end ≡ 0 → TakenLater q p h n cs o o₁ (record { settled = false; taken = b })
    unfolding encode_all
    unsettled {cs} {o} {o₁} u c z = record {
      text = put_as (encode_all (take_chars (pending_of q h) (fed_as p cs)).1.text)
          (sym (ap (λ (l : List ℕ). encode_all (take_chars (pending_of q h) (fed_as p l)).1.text) c
          ∙ ap (λ (r : R). encode_all r.1.text) f.front))
          (record { ends = z; bytes = u });
      held = ap (λ (r : R). r.0) (sym f.front) ∙ ap (λ (l : List ℕ). (take_chars (pending_of q h) (fed_as p l)).0) (sym c);
      counts =
          f.counts ∙ ap (λ (r : R). n ⊕ r.1.counts) (sym f.front) ∙ ap
          (λ (l : List ℕ). n ⊕ (take_chars (pending_of q h) (fed_as p l)).1.counts) (sym c);
      settled = sym (ap (λ (l : List ℕ). not (only_selectors l)) c ∙ ap not f.only);
    }

    module _ (d : ℕ) (ds : List ℕ) (e : from_selector d ≡ None) where
      abbrev Z : List Fed
      Z = fed_as p (d ∷ ds)

      abbrev X : R
      X = take_chars nothing Z

      abbrev E : Effect
      E = settle (pending_of q b.held) (class_of d)

      whole : take_chars (pending_of q h) (fed_as p (S ++ (d ∷ ds)))
          ≡ (X.0, record { text = E.text ++ X.1.text; counts = f.more ⊕ (E.counts ⊕ X.1.counts) })
      whole =
          ap (take_chars (pending_of q h)) (fed_append p S (d ∷ ds)) ∙ take_append (pending_of q h) (fed_as p S) Z
          ∙ ap (λ (r : R). ((take_chars r.0 Z).0, join_effects r.1 (take_chars r.0 Z).1)) f.front
          ∙ ap (λ (r : R). (r.0, join_effects (record { text = []; counts = f.more }) r.1))
          (settle-first p d ds e (pending_of q b.held))

      whole_length : length (encode_all (take_chars (pending_of q h) (fed_as p (S ++ (d ∷ ds)))).1.text)
          ≡ length (encode_all E.text) + length (encode_all X.1.text)
      whole_length =
          ap (λ (r : R). length (encode_all r.1.text)) whole ∙ ap length (encode_all_append E.text X.1.text)
          ∙ length-append (encode_all E.text) (encode_all X.1.text)

      module _ {cs : List ℕ} (c : cs ≡ S ++ (d ∷ ds)) where
        same_length : length (encode_all (take_chars (pending_of q h) (fed_as p cs)).1.text)
            ≡ length (encode_all (take_chars (pending_of q h) (fed_as p (S ++ (d ∷ ds)))).1.text)
        same_length = ap (λ (l : List ℕ). length (encode_all (take_chars (pending_of q h) (fed_as p l)).1.text)) c

        pub settle-room : {o o₁ : List ℕ} {K : Class} → o₁ ≡ o → K ≡ class_of d
            → length (encode_all (take_chars (pending_of q h) (fed_as p cs)).1.text) ≤ length o
            → length (encode_all (settle (pending_of q b.held) K).text) ≤ length o₁
        settle-room {o} {o₁} {K} u k l =
            subst (λ (y : Class). length (encode_all (settle (pending_of q b.held) y).text) ≤ length o₁) (sym k)
            (omega (arith, same_length, whole_length, ap length u))

        module _ {t : Taken} {o o₁ o₂ : List ℕ} {K : Class} (u : o₁ ≡ o) (k : K ≡ class_of d)
            (s₀ : HeldSettled (pending_of q b.held) K b.counts o₁ o₂ t) where
          st : HeldSettled (pending_of q b.held) (class_of d) b.counts o o₂ t
          st =
              subst (λ (l : List ℕ). HeldSettled (pending_of q b.held) (class_of d) b.counts l o₂ t) u
              (subst (λ (y : Class). HeldSettled (pending_of q b.held) y b.counts o₁ o₂ t) k s₀)

          pub none-scalar : is_scalar t.held.base ≡ true
          none-scalar = ap (λ (y : Held). is_scalar y.base) st.held ∙ is_scalar_low 0 (omega arith)

          pub few-settled : (m : ℕ) → total b.counts + b.held.count ≤ m → total t.counts + t.held.count ≤ m + 2
          few-settled m l =
              omega (arith, ap total st.counts, settle-few q b.held (class_of d), ap (λ (y : Held). y.count) st.held)

          module _ (l : length (encode_all (take_chars (pending_of q h) (fed_as p cs)).1.text) ≤ length o) where
            pub other-room : {cs' : List ℕ} → cs' ≡ d ∷ ds
                → t.end + length (encode_all (take_chars (pending_of p t.held) (fed_as p cs')).1.text) ≤ length o₂
            other-room {cs'} e' =
                let w = st.text.ends in
                omega (
                  arith,
                  ap (λ (xs : List ℕ). length (encode_all (take_chars (pending_of p t.held) (fed_as p xs)).1.text)) e',
                  same_length,
                  whole_length,
                  ap (λ (y : Held). length (encode_all (take_chars (pending_of p y) Z).1.text)) st.held,
                  ap length st.text.bytes,
                  length-sets o 0 (encode_all E.text),
                )

            pub one-room : t.end + length (encode_all (take_chars (pending_of p t.held) (fed_as p (d ∷ []))).1.text) ≤ length o₂
            one-room = first-room p t o₂ d ds none-scalar (other-room refl)

            module _ {r : Taken} {o₃ : List ℕ} (w : TakenBy p t.held t.counts (fed_as p (d ∷ [])) o₂ t.end o₃ r) where
              pub after_one : r.end + length (encode_all (take_chars (pending_of p r.held) (fed_as p ds)).1.text) ≤ length o₃
              after_one = more_room p t o₂ d ds none-scalar (other-room refl) w

              pub few-one : (m : ℕ) → total b.counts + b.held.count ≤ m → total r.counts + r.held.count ≤ m + 5
              few-one m f = omega (arith, few-settled m f, few-more p t o₂ d ds none-scalar (other-room refl) w (few-settled m f))

          pub settled-then : {r : Taken} {o₃ : List ℕ} → TakenBy p t.held t.counts Z o₂ t.end o₃ r
              → TakenLater q p h n cs o o₃ (record { settled = true; taken = r })
          settled-then {r} {o₃} w = record {
            text = put_as (encode_all (take_chars (pending_of q h) (fed_as p cs)).1.text)
                (ap (λ (y : Held). encode_all E.text ++ encode_all (take_chars (pending_of p y) Z).1.text) st.held
                ∙ sym (encode_all_append E.text X.1.text) ∙ ap (λ (x : R). encode_all x.1.text) (sym whole)
                ∙ ap (λ (l : List ℕ). encode_all (take_chars (pending_of q h) (fed_as p l)).1.text) (sym c))
                (put_then st.text w.text);
            held =
                w.held ∙ ap (λ (y : Held). (take_chars (pending_of p y) Z).0) st.held ∙ ap (λ (x : R). x.0) (sym whole)
                ∙ ap (λ (l : List ℕ). (take_chars (pending_of q h) (fed_as p l)).0) (sym c);
            counts =
                w.counts
                ∙ ap₂ (λ (x y : NonCanonicality). x ⊕ y) (st.counts ∙ ap (λ (x : NonCanonicality). x ⊕ E.counts) f.counts)
                (ap (λ (y : Held). (take_chars (pending_of p y) Z).1.counts) st.held)
                ∙ plus_assoc (n ⊕ f.more) E.counts X.1.counts ∙ plus_assoc n f.more (E.counts ⊕ X.1.counts)
                ∙ ap (λ (x : R). n ⊕ x.1.counts) (sym whole)
                ∙ ap (λ (l : List ℕ). n ⊕ (take_chars (pending_of q h) (fed_as p l)).1.counts) (sym c);
            settled = sym (ap (λ (l : List ℕ). not (only_selectors l)) c
                ∙ ap not (only_append S (d ∷ ds) f.only ∙ only-other d ds e));
          }

-- The output keeps its length.
pub later_length : {q p : Policy} {h : Held} {n : NonCanonicality} {cs o o₁ : List ℕ} {r : Later} → TakenLater q p h n cs o o₁ r
    → length o₁ ≡ length o
later_length {q} {p} {h} {n} {cs} {o} w =
    ap length w.text.bytes ∙ length-sets o 0 (encode_all (take_chars (pending_of q h) (fed_as p cs)).1.text)

-- ---- characters from an offset on

module _ {piece : List ℕ} {from at : ℕ} {t r : Taken} (g : SelectorsTaken piece from t at r) (p : Policy) where
  abbrev Q : List ℕ
  Q = map as_selector g.selectors

  after-parted : fed_as p (chars (drop from piece)) ≡ fed_as p Q ++ fed_as p (chars (drop at piece))
  after-parted = ap (fed_as p) g.chars_are ∙ fed_append p Q (chars (drop at piece))

  pub after_none : (o : List ℕ) → chars (drop at piece) ≡ []
      → TakenBy p t.held t.counts (fed_as p (chars (drop from piece))) o t.end o r
  after_none o e =
      subst (λ (xs : List Fed). TakenBy p t.held t.counts xs o t.end o r)
      (sym (after-parted ∙ ap (λ (cs : List ℕ). fed_as p Q ++ fed_as p cs) e ∙ append-nil (fed_as p Q))) (g.taken p o)

  pub after-rest : {o o₂ : List ℕ} {k : Taken} → TakenBy p r.held r.counts (fed_as p (chars (drop at piece))) o r.end o₂ k
      → TakenBy p t.held t.counts (fed_as p (chars (drop from piece))) o t.end o₂ k
  after-rest {o} {o₂} {k} w =
      subst (λ (xs : List Fed). TakenBy p t.held t.counts xs o t.end o₂ k) (sym after-parted) (and_then (g.taken p o) w)

  pub after-room : (o : List ℕ)
      → t.end + length (encode_all (take_chars (pending_of p t.held) (fed_as p (chars (drop from piece)))).1.text)
      ≤ length o → r.end + length (encode_all (take_chars (pending_of p r.held) (fed_as p (chars (drop at piece)))).1.text) ≤ length o
  after-room o l =
      next-room (g.taken p o) (fed_as p (chars (drop at piece))) []
      (after-parted ∙ ap (λ (xs : List Fed). fed_as p Q ++ xs) (sym (append-nil (fed_as p (chars (drop at piece)))))) l

-- ---- the selectors at the front of a piece

pub record FirstAt (text : List ℕ) (at : ℕ) : Type 0 where
  pub first : ℕ
  pub more : List ℕ
  pub chars_are : chars (drop at text) ≡ first ∷ more
  pub other : from_selector first ≡ None

pub first_at : (text : List ℕ) (at to : ℕ) → at < to → to ≡ at + valid_up_to_of (drop at text)
    → first_selector (chars (drop at text)) ≡ None → FirstAt text at
unfolding encode_all first_selector
first_at text at to l e f = go (chars (drop at text)) refl
  where
    go : (cs : List ℕ) → chars (drop at text) ≡ cs → FirstAt text at
    go [] q = absurd (omega (arith, length_encode_all_chars (drop at text), ap (λ (cs : List ℕ). length (encode_all cs)) q))
    go (x ∷ xs) q = record { first = x; more = xs; chars_are = q; other = sym (ap first_selector q) ∙ f }

pub value_at : {text : List ℕ} {at : ℕ} (f : FirstAt text at) (k : ℕ) → k ≡ packed (read_char (drop at text)) → k / 8 ≡ f.first
value_at {text} {at} f k e =
    packed_value (drop at text) f.first (length (encode f.first)) k (first_read text at f.first f.more f.chars_are) e

module _ (q p : Policy) (piece : List ℕ) (scan : PieceScan) (h : Held) (n : NonCanonicality) {o o₁ : List ℕ} {t : Taken}
    (only : only_selectors (char_of scan.first) ≡ true) (a : TakenBy q h n (fed_as q (char_of scan.first)) o 0 o₁ t)
    {at : ℕ} {r : Taken} (g : SelectorsTaken piece scan.from t at r) where
  abbrev C : List ℕ
  C = char_of scan.first

  abbrev M : List ℕ
  M = map as_selector g.selectors

  abbrev pub front-chars : List ℕ
  front-chars = C ++ M

  two : TakenBy q h n (fed_as q front-chars) o 0 o₁ r
  two = subst (λ (xs : List Fed). TakenBy q h n xs o 0 o₁ r) (sym (fed_append q C M)) (and_then a (g.taken q o₁))

  only-front : only_selectors front-chars ≡ true
  only-front = only_append C M only ∙ only_map g.selectors

  pub front_is : Fronted q p h n front-chars r
  front_is = fronted q p h n front-chars only-front two

  front_text : encode_all (take_chars (pending_of q h) (fed_as q front-chars)).1.text ≡ []
  unfolding encode_all
  front_text = ap encode_all (selectors_text (pending_of q h) q front-chars only-front)

  -- Nothing is written of them.
  pub front_out : o₁ ≡ o
  front_out = two.text.bytes ∙ ap (λ (l : List ℕ). sets o 0 l) front_text

  pub front_end : r.end ≡ 0
  front_end = two.text.ends ∙ ap (λ (l : List ℕ). 0 + length l) front_text

  pub front-parted : scanned_chars piece scan ≡ front-chars ++ chars (drop at piece)
  front-parted = ap (λ (l : List ℕ). C ++ l) g.chars_are ∙ sym (append_assoc C M (chars (drop at piece)))

  pub front-few : total n + h.count ≤ 160000000 → length piece ≤ 16777216 → total r.counts + r.held.count ≤ 190000000
  front-few f l =
      omega (
        arith,
        two.few,
        fed_length q front-chars,
        length-append C M,
        char-few scan.first,
        length-map g.selectors as_selector,
        g.at_is,
        g.inside,
      )
