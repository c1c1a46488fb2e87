-- Items by the runs at the front of a text: selectors, links and passthrough.
use Rattle.std.specs.Prelude.{Some, None}
use mathlib.Core.Path.{◌≡◌, refl, ap, sym, ◌∙◌, subst}
use mathlib.Core.Bool.{Bool, true, false, cond, ◌||◌, true≢false}
use mathlib.Core.List.{List, [], ◌∷◌, ◌++◌, append-nil}
use Prim.Native.Nat.{ℕ}
use lib.Dec.{eqb}
use borrow.Author.Tests.{eq-eqb, not-true}
use Rattle.base.proofs.Tests.{either_left, either-right}
use Rattle.emoji.specs.Presentation.{is_selector}
use Rattle.emoji.specs.Unicode.{is_emoji}
use Rattle.scanner.specs.Classes.{Class, selector, link, class_of}
use Rattle.scanner.specs.Grammar.{Plain}
use Rattle.scanner.specs.Items.{Item, State, plain, selectors, links, left_over, transition, start_state, split_from}
use Rattle.scanner.specs.Runs.{after_run, in_links, is_passthrough, links_at, passthrough_at, run, selectors_at}
use Rattle.scanner.proofs.Classes.{
  HasClass,
  is_emoji_lem,
  is_keycap,
  is_link,
  is_modifier,
  is_other,
  is_ri_lem,
  is_selector_lem,
  is_tag_lem,
  class_selector,
  class_link,
  has_class,
  keycap_plain,
  modifier_emoji,
  ri_emoji,
  tag_plain,
}
use Rattle.scanner.proofs.States.{plain_transition}
use Rattle.scanner.proofs.Tiling.{split_from-none}
use Rattle.scanner.proofs.Walk.{Walk, stay, pass, split_from_walk}
use Rattle.scanner.proofs.Runs.{Passes, all_pass, pass-and, run-after, run-passes, run_true, Stops, at_char, at_end, after-stops}

-- ---- a state to which every character of a run leads back

module _ (p : State) (f : ℕ → Bool) (on : (c : ℕ) → f c ≡ true → transition p (class_of c) ≡ Some p) where
  pub walk_passes : {s : List ℕ} → Passes f s → Walk p s p
  walk_passes all_pass = stay
  walk_passes (pass-and {c = c} e h) = pass (on c e) (walk_passes h)

  module _ (off : (c : ℕ) → f c ≡ false → transition p (class_of c) ≡ None) where
    split_from-stops : {t : List ℕ} → Stops f t → (split_from p t).0 ≡ []
    unfolding split_from
    split_from-stops at_end = refl
    split_from-stops (at_char {c = c} {s = t} e) = ap (λ (a : List ℕ × List Item). a.0) (split_from-none p c t (off c e))

    pub split_from-run : (t : List ℕ) → (split_from p t).0 ≡ run f t
    split_from-run t =
        ap (λ (l : List ℕ). (split_from p l).0) (sym (run-after f t))
        ∙ ap (λ (a : List ℕ × List Item). a.0) (split_from_walk (walk_passes (run-passes f t)) (after_run f t))
        ∙ ap (λ (l : List ℕ). run f t ++ l) (split_from-stops (after-stops f t)) ∙ append-nil (run f t)

-- ---- selectors, links, passthrough

selectors_on : (c : ℕ) → is_selector c ≡ true → transition selectors (class_of c) ≡ Some selectors
unfolding transition
selectors_on c e = ap (transition selectors) (class_selector c e)

selectors_off : {c : ℕ} {k : Class} → HasClass c k → is_selector c ≡ false → transition selectors k ≡ None
unfolding transition
selectors_off (is_selector_lem s) e = absurd (true≢false (sym s ∙ e))
selectors_off (is_link s) e = refl
selectors_off (is_keycap s) e = refl
selectors_off (is_tag_lem s) e = refl
selectors_off (is_ri_lem s) e = refl
selectors_off (is_modifier s) e = refl
selectors_off (is_emoji_lem s r m) e = refl
selectors_off (is_other s k t) e = refl

pub links-on : (p : State) → transition p selector ≡ Some p → transition p link ≡ Some p → (c : ℕ) → in_links c ≡ true
    → transition p (class_of c) ≡ Some p
links-on p s l c e = go (eqb c 0x200D) refl
  where
    go : (b : Bool) → eqb c 0x200D ≡ b → transition p (class_of c) ≡ Some p
    go true f = ap (transition p) (class_link c f) ∙ l
    go false f = ap (transition p) (class_selector c (sym (ap (λ (b : Bool). b || is_selector c) f) ∙ e)) ∙ s

pub links_off : {c : ℕ} {k : Class} → HasClass c k → in_links c ≡ false → (transition links k ≡ None) × (transition left_over k ≡ None)
unfolding transition
links_off {c} (is_selector_lem s) e = absurd (true≢false (sym (either-right (eqb c 0x200D) (is_selector c) s) ∙ e))
links_off {c} (is_link s) e = absurd (true≢false (sym (either_left (eqb c 0x200D) (is_selector c) (eq-eqb c 0x200D s)) ∙ e))
links_off (is_keycap s) e = (refl, refl)
links_off (is_tag_lem s) e = (refl, refl)
links_off (is_ri_lem s) e = (refl, refl)
links_off (is_modifier s) e = (refl, refl)
links_off (is_emoji_lem s r m) e = (refl, refl)
links_off (is_other s k t) e = (refl, refl)

is_passthrough_lem : {c : ℕ} → Plain c → is_passthrough c ≡ true
is_passthrough_lem p = simp (p.no_selector, p.no_link, p.no_emoji)

passthrough_off : {c : ℕ} {k : Class} → HasClass c k → is_passthrough c ≡ false → transition plain k ≡ None
unfolding transition
passthrough_off (is_selector_lem s) e = refl
passthrough_off (is_link s) e = refl
passthrough_off {c} (is_keycap s) e = absurd (true≢false (sym (is_passthrough_lem (subst Plain (sym s) keycap_plain)) ∙ e))
passthrough_off {c} (is_tag_lem s) e = absurd (true≢false (sym (is_passthrough_lem (tag_plain c s)) ∙ e))
passthrough_off (is_ri_lem s) e = refl
passthrough_off (is_modifier s) e = refl
passthrough_off (is_emoji_lem s r m) e = refl
passthrough_off (is_other s k t) e = absurd (true≢false (sym (is_passthrough_lem s) ∙ e))

passthrough_on : {c : ℕ} {k : Class} → HasClass c k → is_passthrough c ≡ true → transition plain k ≡ Some plain
unfolding transition is_selector
passthrough_on {c} (is_selector_lem s) e = absurd (true≢false
    (sym (either_left (is_selector c) (eqb c 0x200D || is_emoji c) s) ∙ not-true _ e))
passthrough_on {c} (is_link s) e = absurd
    (true≢false (sym (either-right (is_selector c) (eqb c 0x200D || is_emoji c)
    (either_left (eqb c 0x200D) (is_emoji c) (eq-eqb c 0x200D s)))
    ∙ not-true _ e))
passthrough_on (is_keycap s) e = refl
passthrough_on (is_tag_lem s) e = refl
passthrough_on {c} (is_ri_lem s) e = absurd
    (true≢false (sym (either-right (is_selector c) (eqb c 0x200D || is_emoji c) (either-right (eqb c 0x200D) (is_emoji c) (ri_emoji c s)))
    ∙ not-true _ e))
passthrough_on {c} (is_modifier s) e = absurd
    (true≢false (sym (either-right (is_selector c) (eqb c 0x200D || is_emoji c)
    (either-right (eqb c 0x200D) (is_emoji c) (modifier_emoji c s))) ∙ not-true _ e))
passthrough_on {c} (is_emoji_lem s r m) e = absurd
    (true≢false (sym (either-right (is_selector c) (eqb c 0x200D || is_emoji c) (either-right (eqb c 0x200D) (is_emoji c) s))
    ∙ not-true _ e))
passthrough_on (is_other s k t) e = refl

-- The item at a selector, at 200D, and at a plain character.
pub item_selectors : (c : ℕ) (t : List ℕ) → is_selector c ≡ true → c ∷ (split_from (start_state (class_of c)) t).0 ≡ selectors_at (c ∷ t)
unfolding start_state
item_selectors c t e =
    ap (λ (k : Class). c ∷ (split_from (start_state k) t).0) (class_selector c e)
    ∙ ap (λ (l : List ℕ). c ∷ l) (split_from-run selectors is_selector selectors_on (λ d f. selectors_off (has_class d) f) t)
    ∙ sym (run_true is_selector c t e)

pub item-links : (c : ℕ) (t : List ℕ) → eqb c 0x200D ≡ true → c ∷ (split_from (start_state (class_of c)) t).0 ≡ links_at (c ∷ t)
unfolding start_state transition links_at
item-links c t e =
    ap (λ (k : Class). c ∷ (split_from (start_state k) t).0) (class_link c e)
    ∙ ap (λ (l : List ℕ). c ∷ l) (split_from-run links in_links (links-on links refl refl) (λ d f. (links_off (has_class d) f).0) t)
    ∙ sym (run_true in_links c t (either_left (eqb c 0x200D) (is_selector c) e))
    ∙ ap (λ (b : Bool). cond b (run in_links (c ∷ t)) []) (sym e)

pub item_passthrough : (c : ℕ) (t : List ℕ) → is_passthrough c ≡ true
    → c ∷ (split_from (start_state (class_of c)) t).0 ≡ passthrough_at (c ∷ t)
unfolding passthrough_at
item_passthrough c t e =
    ap (λ (p : State). c ∷ (split_from p t).0) (go (class_of c) (passthrough_on (has_class c) e))
    ∙ ap (λ (l : List ℕ). c ∷ l) (split_from-run plain is_passthrough (λ d f. passthrough_on (has_class d) f)
    (λ d f. passthrough_off (has_class d) f) t)
    ∙ sym (run_true is_passthrough c t e)
  where
    go : (k : Class) → transition plain k ≡ Some plain → start_state k ≡ plain
    go k f = (plain_transition k plain f).1
