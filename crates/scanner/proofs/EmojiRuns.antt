-- Emoji-headed items by the runs at the front of a text: the first unit of an item.
use Rattle.std.specs.Prelude.{Some, None, Option}
use mathlib.Core.Path.{◌≡◌, refl, ap, ap₂, sym, ◌∙◌, subst}
use mathlib.Core.Logic.{⊎_elim}
use mathlib.Core.Bool.{Bool, true, false, cond, ◌||◌, true≢false}
use mathlib.Core.List.{List, [], ◌∷◌, ◌++◌, append_assoc, append-nil}
use Prim.Native.Nat.{ℕ}
use native.Mathlib.Omega.{arith}
use lib.ListN.{length, drop}
use lib.Seq.{drop-append_seam}
use borrow.Author.Tests.{eqb-true}
use Rattle.base.proofs.Tests.{either_true}
use Rattle.emoji.specs.Presentation.{is_selector}
use Rattle.emoji.specs.Unicode.{is_emoji, is_ri}
use Rattle.scanner.specs.Classes.{Class, selector, emoji, class_of}
use Rattle.scanner.specs.Grammar.{Stem, flag, single}
use Rattle.scanner.specs.Items.{Item, State, one_ri, unit, transition, start_state, split_from}
use Rattle.scanner.specs.Runs.{
  after_run,
  after_selectors,
  after_stem,
  after_unit,
  in_modifications,
  is_modification,
  modifications_at,
  run,
  second_ri_at,
  selectors_at,
  stem_at,
  unit_at,
}
use Rattle.scanner.proofs.Classes.{
  HasClass,
  is_emoji_lem,
  is_keycap,
  is_link,
  is_modifier,
  is_other,
  is_ri_lem,
  is_selector_lem,
  is_tag_lem,
  class_is,
  class_selector,
  EmojiClass,
  an_emoji,
  an_ri,
  a_modifier,
  emoji_class,
  has_class,
  modifier_no_ri,
  ri_emoji,
}
use Rattle.scanner.proofs.Tiling.{split_from-none, split_from-some}
use Rattle.scanner.proofs.Walk.{Walk, walk_append, split_from_walk}
use Rattle.scanner.proofs.DerivedWalks.{InUnit, in_one_ri, in_unit_lem, via, walk_S}
use Rattle.scanner.proofs.Runs.{passes_S, run-after, run_false, run-passes, Stops, at_char, at_end, after-stops}
use Rattle.scanner.proofs.ItemRuns.{walk_passes}

-- ---- modifications after a stem

modification_on : (c : ℕ) → is_modification c ≡ true → transition unit (class_of c) ≡ Some unit
unfolding transition is_modification
modification_on c e =
    ⊎_elim (λ m. ap (transition unit) (class_is (is_modifier m)))
    (λ o. ⊎_elim (λ k. ap (transition unit) (class_is (is_keycap (eqb-true c 0x20E3 k))))
    (λ t. ap (transition unit) (class_is (is_tag_lem t)))
    (either_true _ _ o))
    (either_true _ _ e)

modifications_on : (c : ℕ) → in_modifications c ≡ true → transition unit (class_of c) ≡ Some unit
unfolding transition
modifications_on c e = ⊎_elim (modification_on c) (λ s. ap (transition unit) (class_selector c s))
    (either_true (is_modification c) (is_selector c) e)

-- If no selector stands at the front, all modifications are one run.
pub modifications_run : {r : List ℕ} → Stops is_selector r → modifications_at r ≡ run in_modifications r
unfolding modifications_at run
modifications_run at_end = refl
modifications_run (at_char {c = c} {s = t} e) = go (is_modification c) refl
  where
    go : (b : Bool) → is_modification c ≡ b → cond b (run in_modifications (c ∷ t)) [] ≡ run in_modifications (c ∷ t)
    go true f = refl
    go false f = sym (run_false in_modifications c t (ap₂ (λ (x y : Bool). x || y) f e))

-- ---- a stem

pub record StemRead (c : ℕ) (t : List ℕ) : Type 0 where
  pub tail : List ℕ
  pub rest : List ℕ
  pub stem_is : stem_at (c ∷ t) ≡ c ∷ tail
  pub whole : tail ++ rest ≡ t
  pub end : State
  pub inside : InUnit end
  pub walked : Walk (start_state (class_of c)) tail end
  pub stops : Stops is_selector rest
  pub no_ri : end ≡ one_ri → Stops is_ri rest
  pub derived : Stem (c ∷ tail)

unit_not_one_ri : unit ≡ one_ri → ⊥
unit_not_one_ri e = let z : ◌≡◌ {A = ℕ} 0 1 = cc in omega arith

stem_single : {c : ℕ} {t : List ℕ} {p : State} → is_emoji c ≡ true → stem_at (c ∷ t) ≡ c ∷ (selectors_at t ++ []) → InUnit p
    → transition p selector ≡ Some p → start_state (class_of c) ≡ p
    → (p ≡ one_ri → Stops is_ri (after_selectors t)) → StemRead c t
stem_single {c} {t} {p} d e i s b n = record {
  tail = selectors_at t;
  rest = after_selectors t;
  stem_is = e ∙ ap (λ (l : List ℕ). c ∷ l) (append-nil (selectors_at t));
  whole = run-after is_selector t;
  end = p;
  inside = i;
  walked = subst (λ (q : State). Walk q (selectors_at t) p) (sym b) (walk_S p s (passes_S (run-passes is_selector t)));
  stops = after-stops is_selector t;
  no_ri = n;
  derived = single d (passes_S (run-passes is_selector t));
}

stem_second : (c : ℕ) (t : List ℕ) (b : ℕ) (u : List ℕ) → is_ri c ≡ true → after_selectors t ≡ b ∷ u → is_ri b ≡ true → stem_at (c ∷ t)
    ≡ c ∷ (selectors_at t ++ b ∷ selectors_at u) → StemRead c t
unfolding transition start_state
stem_second c t b u e f g h = record {
  tail = selectors_at t ++ b ∷ selectors_at u;
  rest = after_selectors u;
  stem_is = h;
  whole = append_assoc (selectors_at t) (b ∷ selectors_at u) (after_selectors u)
      ∙ ap (λ (l : List ℕ). selectors_at t ++ b ∷ l) (run-after is_selector u) ∙ ap (λ (l : List ℕ). selectors_at t ++ l) (sym f)
      ∙ run-after is_selector t;
  end = unit;
  inside = in_unit_lem;
  walked = subst (λ (k : Class). Walk (start_state k) (selectors_at t ++ b ∷ selectors_at u) unit) (sym (class_is (is_ri_lem e)))
      (walk_append (walk_S one_ri refl (passes_S (run-passes is_selector t)))
      (via (is_ri_lem g) refl (walk_S unit refl (passes_S (run-passes is_selector u)))));
  stops = after-stops is_selector u;
  no_ri = λ z. absurd (unit_not_one_ri z);
  derived = flag c b e (passes_S (run-passes is_selector t)) g (passes_S (run-passes is_selector u));
}

pub stem_emoji : (c : ℕ) (t : List ℕ) → is_emoji c ≡ true → stem_at (c ∷ t)
    ≡ c ∷ (selectors_at t ++ cond (is_ri c) (second_ri_at (after_selectors t)) [])
unfolding stem_at
stem_emoji c t e = ap (λ (b : Bool). cond b (c ∷ (selectors_at t ++ cond (is_ri c) (second_ri_at (after_selectors t)) [])) []) e

stem_ri : (c : ℕ) (t : List ℕ) → is_ri c ≡ true → StemRead c t
unfolding transition start_state second_ri_at
stem_ri c t e = go (after_selectors t) refl
  where
    s : stem_at (c ∷ t) ≡ c ∷ (selectors_at t ++ second_ri_at (after_selectors t))
    s = stem_emoji c t (ri_emoji c e) ∙ ap (λ (b : Bool). c ∷ (selectors_at t ++ cond b (second_ri_at (after_selectors t)) [])) e

    with_second : (b : ℕ) (u : List ℕ) (o : Bool) → is_ri b ≡ o → after_selectors t ≡ b ∷ u → StemRead c t
    with_second b u true g f = stem_second c t b u e f g
        (s ∙ ap (λ (l : List ℕ). c ∷ (selectors_at t ++ second_ri_at l)) f
        ∙ ap (λ (o : Bool). c ∷ (selectors_at t ++ cond o (b ∷ selectors_at u) [])) g)
    with_second b u false g f =
        stem_single (ri_emoji c e) (s ∙ ap (λ (l : List ℕ). c ∷ (selectors_at t ++ second_ri_at l)) f
        ∙ ap (λ (o : Bool). c ∷ (selectors_at t ++ cond o (b ∷ selectors_at u) [])) g)
        in_one_ri refl (ap start_state (class_is (is_ri_lem e))) (λ _. subst (Stops is_ri) (sym f) (at_char g))

    go : (r : List ℕ) → after_selectors t ≡ r → StemRead c t
    go [] f = stem_single (ri_emoji c e) (s ∙ ap (λ (l : List ℕ). c ∷ (selectors_at t ++ second_ri_at l)) f) in_one_ri refl
        (ap start_state (class_is (is_ri_lem e))) (λ _. subst (Stops is_ri) (sym f) at_end)
    go (b ∷ u) f = with_second b u (is_ri b) refl f

emoji_not_ri : {c : ℕ} → HasClass c emoji → is_ri c ≡ false
emoji_not_ri (is_emoji_lem e r m) = r

pub stem_read_lem : (c : ℕ) (t : List ℕ) → is_emoji c ≡ true → StemRead c t
unfolding transition start_state
stem_read_lem c t e = go (emoji_class c e)
  where
    not-ri : is_ri c ≡ false → stem_at (c ∷ t) ≡ c ∷ (selectors_at t ++ [])
    not-ri f = stem_emoji c t e ∙ ap (λ (b : Bool). c ∷ (selectors_at t ++ cond b (second_ri_at (after_selectors t)) [])) f

    go : EmojiClass c → StemRead c t
    go (an_ri r) = stem_ri c t r
    go (a_modifier m) = stem_single e (not-ri (modifier_no_ri c m)) in_unit_lem refl (ap start_state (class_is (is_modifier m)))
        (λ z. absurd (unit_not_one_ri z))
    go (an_emoji h) = stem_single e (not-ri (emoji_not_ri h)) in_unit_lem refl (ap start_state (class_is h))
        (λ z. absurd (unit_not_one_ri z))

pub after_stem_lem : {c : ℕ} {t : List ℕ} (r : StemRead c t) → after_stem (c ∷ t) ≡ r.rest
unfolding after_stem
after_stem_lem {c} {t} r =
    ap₂ (λ (a b : List ℕ). drop (length a) (c ∷ b)) r.stem_is (sym r.whole) ∙ drop-append_seam (c ∷ r.tail) r.rest

-- ---- after a stem, the state after one RI leads to the same results as the state after a complete stem

split_from-transition : (p q : State) (c : ℕ) (t : List ℕ) → transition p (class_of c) ≡ transition q (class_of c) → split_from p (c ∷ t)
    ≡ split_from q (c ∷ t)
split_from-transition p q c t e = go (transition q (class_of c)) refl
  where
    go : (o : Option State) → transition q (class_of c) ≡ o → split_from p (c ∷ t) ≡ split_from q (c ∷ t)
    go (Some r) f = split_from-some p r c t (e ∙ f) ∙ sym (split_from-some q r c t f)
    go None f = split_from-none p c t (e ∙ f) ∙ sym (split_from-none q c t f)

same-transition : {c : ℕ} {k : Class} → HasClass c k → is_selector c ≡ false → is_ri c ≡ false → transition one_ri k ≡ transition unit k
unfolding transition
same-transition (is_selector_lem s) e f = absurd (true≢false (sym s ∙ e))
same-transition (is_link s) e f = refl
same-transition (is_keycap s) e f = refl
same-transition (is_tag_lem s) e f = refl
same-transition (is_ri_lem s) e f = absurd (true≢false (sym s ∙ f))
same-transition (is_modifier s) e f = refl
same-transition (is_emoji_lem s r m) e f = refl
same-transition (is_other s k t) e f = refl

split_from_one_ri : {r : List ℕ} → Stops is_selector r → Stops is_ri r → split_from one_ri r ≡ split_from unit r
unfolding split_from
split_from_one_ri at_end i = refl
split_from_one_ri (at_char {c = c} {s = t} e) (at_char f) = split_from-transition one_ri unit c t (same-transition (has_class c) e f)

split_from_stem : {p : State} {r : List ℕ} → InUnit p → Stops is_selector r → (p ≡ one_ri → Stops is_ri r)
    → split_from p r ≡ split_from unit r
split_from_stem in_one_ri s n = split_from_one_ri s (n refl)
split_from_stem in_unit_lem s n = refl

-- ---- the unit at the front of an item

-- The item at an emoji: its unit, and the rest from the state `unit` on. The character after the unit is neither a selector nor the
-- beginning of a modification.
pub record UnitItem (c : ℕ) (t : List ℕ) : Type 0 where
  pub whole : unit_at (c ∷ t) ++ after_unit (c ∷ t) ≡ c ∷ t
  pub item : c ∷ (split_from (start_state (class_of c)) t).0 ≡ unit_at (c ∷ t) ++ (split_from unit (after_unit (c ∷ t))).0
  pub later : (split_from (start_state (class_of c)) t).1 ≡ (split_from unit (after_unit (c ∷ t))).1
  pub stops : Stops in_modifications (after_unit (c ∷ t))

pub unit_item : (c : ℕ) (t : List ℕ) → is_emoji c ≡ true → UnitItem c t
unfolding unit_at after_unit
unit_item c t e =
    let r = stem_read_lem c t e in
    let m = run in_modifications r.rest in
    let b = after_run in_modifications r.rest in
    let u : unit_at (c ∷ t) ≡ c ∷ (r.tail ++ m) = ap₂ (λ (x y : List ℕ). x ++ y) r.stem_is
    (ap modifications_at (after_stem_lem r) ∙ modifications_run r.stops) in
    let w : (c ∷ (r.tail ++ m)) ++ b ≡ c ∷ t =
    ap (λ (l : List ℕ). c ∷ l) (append_assoc r.tail m b ∙ ap (λ (l : List ℕ). r.tail ++ l) (run-after in_modifications r.rest)
    ∙ r.whole) in
    let d : after_unit (c ∷ t) ≡ b = ap (λ (x : List ℕ). drop (length x) (c ∷ t)) u ∙ ap (drop (length (c ∷ (r.tail ++ m)))) (sym w)
    ∙ drop-append_seam (c ∷ (r.tail ++ m)) b in
    let k : split_from (start_state (class_of c)) t ≡ (r.tail ++ (m ++ (split_from unit b).0), (split_from unit b).1) =
    ap (split_from (start_state (class_of c))) (sym r.whole) ∙ split_from_walk r.walked r.rest
    ∙ ap (λ (a : List ℕ × List Item). (r.tail ++ a.0, a.1)) (split_from_stem r.inside r.stops r.no_ri
    ∙ ap (split_from unit) (sym (run-after in_modifications r.rest))
    ∙ split_from_walk (walk_passes unit in_modifications modifications_on (run-passes in_modifications r.rest)) b) in
    record {
      whole = ap₂ (λ (x y : List ℕ). x ++ y) u d ∙ w;
      item = ap (λ (a : List ℕ × List Item). c ∷ a.0) k
          ∙ ap (λ (l : List ℕ). c ∷ l) (sym (append_assoc r.tail m (split_from unit b).0))
          ∙ ap₂ (λ (x y : List ℕ). x ++ (split_from unit y).0) (sym u) (sym d);
      later = ap (λ (a : List ℕ × List Item). a.1) k ∙ ap (λ (y : List ℕ). (split_from unit y).1) (sym d);
      stops = subst (Stops in_modifications) (sym d) (after-stops in_modifications r.rest);
    }
