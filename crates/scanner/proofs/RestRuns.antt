-- The rest of an emoji-headed item after a unit, by the runs at its front: it is empty, or a link and a unit, or the links left
-- over.
use Rattle.std.specs.Prelude.{Some, None}
use mathlib.Core.Path.{◌≡◌, refl, ap, ap₂, sym, ◌∙◌}
use mathlib.Core.Bool.{Bool, true, false, ◌||◌, true≢false}
use mathlib.Core.List.{List, [], ◌∷◌, ◌++◌}
use Prim.Native.Nat.{ℕ}
use lib.Dec.{eqb}
use borrow.Author.Tests.{eq-eqb}
use Rattle.base.proofs.Tests.{either_left, either-right}
use Rattle.emoji.specs.Presentation.{is_selector}
use Rattle.emoji.specs.Unicode.{is_emoji, is_emoji_modifier, is_tag}
use Rattle.scanner.specs.Classes.{Class, class_of}
use Rattle.scanner.specs.Items.{Item, unit, joined, left_over, transition, start_state, split_from}
use Rattle.scanner.specs.Runs.{after_selectors, in_links, in_modifications, is_modification, links_at, run, selectors_at}
use Rattle.scanner.proofs.Classes.{
  HasClass,
  is_emoji_lem,
  is_keycap,
  is_link,
  is_modifier,
  is_other,
  is_ri_lem,
  is_selector_lem,
  is_tag_lem,
  class_is,
  class_link,
  EmojiClass,
  an_emoji,
  an_ri,
  a_modifier,
  emoji_class,
  has_class,
  modifier_emoji,
  ri_emoji,
}
use Rattle.scanner.proofs.Tiling.{split_from-none, split_from-some}
use Rattle.scanner.proofs.Walk.{split_from_walk}
use Rattle.scanner.proofs.DerivedWalks.{walk_S}
use Rattle.scanner.proofs.Runs.{
  Passes,
  all_pass,
  pass-and,
  passes_S,
  run-after,
  run_false,
  run-passes,
  run_true,
  Stops,
  at_char,
  at_end,
  after-stops,
}
use Rattle.scanner.proofs.ItemRuns.{split_from-run, links_off, links-on}

unit_off : {c : ℕ} {k : Class} → HasClass c k → in_modifications c ≡ false → eqb c 0x200D ≡ false → transition unit k ≡ None
unfolding transition is_modification
unit_off {c} (is_selector_lem s) e f = absurd (true≢false (sym (either-right (is_modification c) (is_selector c) s) ∙ e))
unit_off {c} (is_link s) e f = absurd (true≢false (sym (eq-eqb c 0x200D s) ∙ f))
unit_off {c} (is_keycap s) e f = absurd
    (true≢false (sym (either_left (is_modification c) (is_selector c)
    (either-right (is_emoji_modifier c) (eqb c 0x20E3 || is_tag c) (either_left (eqb c 0x20E3) (is_tag c) (eq-eqb c 0x20E3 s)))) ∙ e))
unit_off {c} (is_tag_lem s) e f = absurd
    (true≢false (sym (either_left (is_modification c) (is_selector c)
    (either-right (is_emoji_modifier c) (eqb c 0x20E3 || is_tag c) (either-right (eqb c 0x20E3) (is_tag c) s))) ∙ e))
unit_off (is_ri_lem s) e f = refl
unit_off {c} (is_modifier s) e f = absurd
    (true≢false (sym (either_left (is_modification c) (is_selector c) (either_left (is_emoji_modifier c) (eqb c 0x20E3 || is_tag c) s))
    ∙ e))
unit_off (is_emoji_lem s r m) e f = refl
unit_off (is_other s k t) e f = refl

-- Without a link after the unit, the item ends.
pub unit_ends : {r : List ℕ} → Stops in_modifications r → Stops (λ c. eqb c 0x200D) r → (split_from unit r).0 ≡ []
unfolding split_from
unit_ends at_end i = refl
unit_ends (at_char {c = c} {s = t} e) (at_char f) =
    ap (λ (a : List ℕ × List Item). a.0) (split_from-none unit c t (unit_off (has_class c) e f))

-- The text from 200D on, split after this link and its S.
split_from_link : (t : List ℕ) → split_from unit (0x200D ∷ t)
    ≡ (0x200D ∷ (selectors_at t ++ (split_from joined (after_selectors t)).0), (split_from joined (after_selectors t)).1)
unfolding transition
split_from_link t =
    split_from-some unit joined 0x200D t (ap (transition unit) (class_is {c = 0x200D} (is_link refl)))
    ∙ ap (λ (a : List ℕ × List Item). (0x200D ∷ a.0, a.1))
    (ap (split_from joined) (sym (run-after is_selector t)) ∙ split_from_walk (walk_S joined refl (passes_S (run-passes is_selector t)))
    (after_selectors t))

joined-on : {c : ℕ} → EmojiClass c → transition joined (class_of c) ≡ Some (start_state (class_of c))
unfolding transition start_state
joined-on (an_ri r) = rw (class_is (is_ri_lem r))
joined-on (a_modifier m) = rw (class_is (is_modifier m))
joined-on (an_emoji h) = rw (class_is h)

-- With an emoji after one link and its S, the item goes on with the unit there.
pub unit_joins : (t : List ℕ) (c : ℕ) (u : List ℕ) → after_selectors t ≡ c ∷ u → is_emoji c ≡ true
    → split_from unit (0x200D ∷ t) ≡ (
      0x200D ∷ (selectors_at t ++ c ∷ (split_from (start_state (class_of c)) u).0),
      (split_from (start_state (class_of c)) u).1,
    )
unit_joins t c u e f =
    split_from_link t ∙ ap (λ (a : List ℕ × List Item). (0x200D ∷ (selectors_at t ++ a.0), a.1))
    (ap (split_from joined) e ∙ split_from-some joined (start_state (class_of c)) c u (joined-on (emoji_class c f)))

-- After one link and its S, the item ends at a character that is no selector, no link and no emoji.
joined_off : {c : ℕ} {k : Class} → HasClass c k → is_selector c ≡ false → eqb c 0x200D ≡ false → is_emoji c ≡ false → transition joined k
    ≡ None
unfolding transition
joined_off (is_selector_lem s) e f g = absurd (true≢false (sym s ∙ e))
joined_off {c} (is_link s) e f g = absurd (true≢false (sym (eq-eqb c 0x200D s) ∙ f))
joined_off (is_keycap s) e f g = refl
joined_off (is_tag_lem s) e f g = refl
joined_off {c} (is_ri_lem s) e f g = absurd (true≢false (sym (ri_emoji c s) ∙ g))
joined_off {c} (is_modifier s) e f g = absurd (true≢false (sym (modifier_emoji c s) ∙ g))
joined_off (is_emoji_lem s r m) e f g = absurd (true≢false (sym s ∙ g))
joined_off (is_other s k t) e f g = refl

joined-links : {r : List ℕ} → Stops is_selector r → Stops is_emoji r → (split_from joined r).0 ≡ run in_links r
unfolding split_from run transition
joined-links at_end i = refl
joined-links (at_char {c = c} {s = t} e) (at_char g) = go (eqb c 0x200D) refl
  where
    go : (b : Bool) → eqb c 0x200D ≡ b → (split_from joined (c ∷ t)).0 ≡ run in_links (c ∷ t)
    go true f =
        ap (λ (a : List ℕ × List Item). a.0) (split_from-some joined left_over c t (ap (transition joined) (class_link c f)))
        ∙ ap (λ (l : List ℕ). c ∷ l) (split_from-run left_over in_links (links-on left_over refl refl)
        (λ d h. (links_off (has_class d) h).1)
        t)
        ∙ sym (run_true in_links c t (either_left (eqb c 0x200D) (is_selector c) f))
    go false f =
        ap (λ (a : List ℕ × List Item). a.0) (split_from-none joined c t (joined_off (has_class c) e f g))
        ∙ sym (run_false in_links c t (ap₂ (λ (x y : Bool). x || y) f e))

run_selectors : {s : List ℕ} (t : List ℕ) → Passes is_selector s → run in_links (s ++ t) ≡ s ++ run in_links t
run_selectors t all_pass = refl
run_selectors t (pass-and {c = c} {s = s} e h) = run_true in_links c (s ++ t) (either-right (eqb c 0x200D) (is_selector c) e)
    ∙ ap (λ (l : List ℕ). c ∷ l) (run_selectors t h)

pub unit_left_over : (t : List ℕ) → Stops is_emoji (after_selectors t) → (split_from unit (0x200D ∷ t)).0 ≡ links_at (0x200D ∷ t)
unfolding links_at
unit_left_over t n =
    ap (λ (a : List ℕ × List Item). a.0) (split_from_link t)
    ∙ ap (λ (l : List ℕ). 0x200D ∷ l) (ap (λ (l : List ℕ). selectors_at t ++ l) (joined-links (after-stops is_selector t) n)
    ∙ sym (run_selectors (after_selectors t) (run-passes is_selector t)) ∙ ap (run in_links) (run-after is_selector t))
    ∙ sym (run_true in_links 0x200D t refl)
