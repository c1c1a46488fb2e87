-- The parts of an item at an offset, by the character there and its class: the laws that the consume functions use.
use Rattle.std.specs.Prelude.{Some, None, Option}
use mathlib.Core.Path.{◌≡◌, refl, ap, ap₂, sym, ◌∙◌, subst}
use mathlib.Core.Bool.{Bool, true, false, cond}
use mathlib.Core.List.{List, [], ◌∷◌}
use Prim.Native.Nat.{ℕ, ◌+◌}
use native.Mathlib.Omega.{arith}
use borrow.Author.Tests.{eqb-true}
use lib.Dec.{eqb}
use lib.ListN.{drop}
use Rattle.utf8.specs.Rfc3629.{chars}
use Rattle.emoji.specs.Presentation.{is_selector}
use Rattle.emoji.specs.Unicode.{is_emoji, is_ri}
use Rattle.scanner.specs.Classes.{class_of}
use Rattle.scanner.specs.declared.char_class.Class.{Class}
use Rattle.scanner.specs.declared.char_class.Class.TheVariants.{Keycap as keycap, Link as link, Modifier as modifier, Ri as ri, Tag as tag}
use Rattle.item_parts.specs.Parts.{first_from, link_from, link_read, modification_from, modification_read, stem_after, stem_read}
use Rattle.scanner.specs.RunKinds.{is_emoji_class, is_link_class, is_modification_class, is_tag_class, run_of}
use Rattle.scanner.specs.Runs.{
  after_selectors,
  in_modifications,
  is_modification,
  modification_at,
  modifications_at,
  run,
  selectors_at,
  tag_modification_at,
}
use Rattle.scanner.specs.SelectorRun.{selector_run, selectors_from}
use Rattle.scanner.specs.Spans.{size, width}
use Rattle.scanner.specs.Structure as Structure
use Rattle.scanner.specs.Structure.{emoji_like, link_of, modifications_of, ri_stem, to_modifications}
use Rattle.scanner.specs.declared.char_runs.RunKind.TheVariants.{Modifications}
use Rattle.item_parts.specs.declared.EmojiModification.TheVariants.{EmojiModifier, EnclosingKeycap, TagModifier}
use Rattle.item_parts.specs.declared.EmojiStem.{EmojiStem}
use Rattle.item_parts.specs.declared.EmojiStem.TheVariants.{Flag, SingletonBase}
use Rattle.item_parts.specs.declared.ZwjLink.{ZwjLink}
use Rattle.scanner.specs.declared.selectors.PresentationSelectors.{PresentationSelectors}
use Rattle.scanner.proofs.Bytes.{chars-from}
use Rattle.scanner.proofs.Classes.{HasClass, has_class, is_keycap}
use Rattle.scanner.proofs.ClassTests.{emoji_test, is_ri_class, link_test, modification_test, ri_test, run_modifications, tag_test}
use Rattle.scanner.proofs.Modifications.{of_class}
use Rattle.scanner.proofs.Peek.{Seen, Unseen}
use Rattle.scanner.proofs.RunLaws.{modification_other, modification_tag}
use Rattle.scanner.proofs.Runs.{run-after, run-passes}
use Rattle.item_parts.proofs.TagRuns.{of_selectors, of_tags}

-- The link with these selectors.
abbrev pub a_link : PresentationSelectors → Option ZwjLink
a_link s = Some (record { selectors = s })

-- ---- where no character begins

module _ {text : List ℕ} {at : ℕ} (h : Unseen text at) where
  pub modifications_none : at ≡ at + size width (modifications_at (chars (drop at text)))
  unfolding modifications_at
  modifications_none = omega (arith, ap (λ (t : List ℕ). size width (modifications_at t)) h.chars_none)

  pub link_none : None ≡ link_read at (chars (drop at text))
  unfolding link_read
  link_none = ap (link_read at) (sym h.chars_none)

  pub modification_none : None ≡ modification_read at (chars (drop at text))
  unfolding modification_read modification_at modifications_of first_from
  modification_none = ap (modification_read at) (sym h.chars_none)

  pub stem_none : None ≡ stem_read at (chars (drop at text))
  unfolding stem_read
  stem_none = ap (stem_read at) (sym h.chars_none)

-- ---- at a character v of the class k

keycap_is : {c : ℕ} → HasClass c keycap → c ≡ 0x20E3
keycap_is (is_keycap e) = e

module _ {text : List ℕ} {at v : ℕ} {k : Class} {next : ℕ} (h : Seen text at v k next) where
  -- A test of the class has the same result as the test of the character.
  tested : {b : Bool} (f : ℕ → Bool) (g : Class → Bool) → ((c : ℕ) → f c ≡ g (class_of c)) → g k ≡ b → f v ≡ b
  tested f g t e = t v ∙ ap g (sym h.class) ∙ e

  -- The selectors after the character.
  selectors_after : {r : PresentationSelectors} → r ≡ selector_run text next → r
      ≡ selectors_from (at + width v) (selectors_at (chars (drop next text)))
  unfolding selector_run
  selectors_after e = e ∙ ap (λ (n : ℕ). selectors_from n (selectors_at (chars (drop next text)))) h.after

  -- ---- all modifications

  modifications_by : (b : Bool) → is_modification_class k ≡ b → modifications_at (chars (drop at text))
      ≡ cond b (run in_modifications (chars (drop at text))) []
  unfolding modifications_at
  modifications_by b e =
      ap modifications_at h.chars_on ∙ ap (λ (x : Bool). cond x (run in_modifications (v ∷ chars (drop next text))) [])
      (tested is_modification is_modification_class modification_test e)
      ∙ ap (λ (t : List ℕ). cond b (run in_modifications t) []) (sym h.chars_on)

  pub modifications_on : {end : ℕ} → is_modification_class k ≡ true → end ≡ at + size width (run_of Modifications (chars (drop at text)))
      → end ≡ at + size width (modifications_at (chars (drop at text)))
  modifications_on e r = r ∙ ap (λ (s : List ℕ). at + size width s)
      (run_modifications (chars (drop at text)) ∙ sym (modifications_by true e))

  pub modifications_off : is_modification_class k ≡ false → at ≡ at + size width (modifications_at (chars (drop at text)))
  modifications_off e = omega (arith, ap (size width) (modifications_by false e))

  -- ---- a link

  link_by : (b : Bool) → is_link_class k ≡ b → link_read at (chars (drop at text))
      ≡ cond b (a_link (link_from at (link_of (chars (drop next text))))) None
  unfolding link_read
  link_by b e =
      ap (link_read at) h.chars_on
      ∙ ap (λ (x : Bool). cond x (a_link (link_from at (link_of (chars (drop next text))))) None)
      (tested (λ c. eqb c 0x200D) is_link_class link_test e)

  pub link_on : {r : PresentationSelectors} → k ≡ link → r ≡ selector_run text next → a_link r ≡ link_read at (chars (drop at text))
  unfolding link_from
  link_on e r =
      let f : is_link_class k ≡ true = ap is_link_class e in
      let i : v ≡ 0x200D = eqb-true v 0x200D (tested (λ c. eqb c 0x200D) is_link_class link_test f) in
      ap a_link (selectors_after r ∙ ap (λ (c : ℕ). selectors_from (at + width c) (selectors_at (chars (drop next text)))) i)
      ∙ sym (link_by true f)

  pub link_off : is_link_class k ≡ false → None ≡ link_read at (chars (drop at text))
  link_off e = sym (link_by false e)

  -- ---- a modification

  -- The modification at the offset, by its characters.
  modification_is : {s : List ℕ} {ms : List Structure.EmojiModification} → modification_at (v ∷ chars (drop next text)) ≡ s
      → (modifications_of s).1 ≡ ms → first_from at ms ≡ modification_read at (chars (drop at text))
  unfolding modification_read
  modification_is p q = sym (ap (modification_read at) h.chars_on ∙ ap (λ (l : List ℕ). first_from at (modifications_of l).1) p
      ∙ ap (first_from at) q)

  -- The modification at the offset, if the character is a modifier or 20E3.
  one_modification : is_tag_class k ≡ false → is_modification_class k ≡ true → (ms : List Structure.EmojiModification)
      → (to_modifications k v (selectors_at (chars (drop next text)), [])).1 ≡ ms → first_from at ms
      ≡ modification_read at (chars (drop at text))
  one_modification e f ms q =
      let s = selectors_at (chars (drop next text)) in
      modification_is (modification_other v (chars (drop next text)) true (tested _ is_tag_class tag_test e)
      (tested is_modification is_modification_class modification_test f))
      (ap (λ (r : List ℕ × List Structure.EmojiModification). r.1)
      (of_class s (subst (HasClass v) (sym h.class) (has_class v))
      ∙ ap (to_modifications k v) (of_selectors (run-passes is_selector (chars (drop next text))))) ∙ q)

  pub modifier_on : {r : PresentationSelectors} → k ≡ modifier → r ≡ selector_run text next → Some (EmojiModifier v r)
      ≡ modification_read at (chars (drop at text))
  unfolding to_modifications first_from modification_from
  modifier_on e r =
      let s = selectors_at (chars (drop next text)) in
      ap (λ (s : PresentationSelectors). Some (EmojiModifier v s)) (selectors_after r)
      ∙ one_modification (ap is_tag_class e) (ap is_modification_class e) (Structure.EmojiModifier v s ∷ [])
      (ap (λ (x : Class). (to_modifications x v (s, [])).1) e)

  pub keycap-on : {r : PresentationSelectors} → k ≡ keycap → r ≡ selector_run text next → Some (EnclosingKeycap r)
      ≡ modification_read at (chars (drop at text))
  unfolding to_modifications first_from modification_from
  keycap-on e r =
      let s = selectors_at (chars (drop next text)) in
      let i : v ≡ 0x20E3 = keycap_is (subst (HasClass v) (sym h.class ∙ e) (has_class v)) in
      ap (λ (s : PresentationSelectors). Some (EnclosingKeycap s)) (selectors_after r ∙ ap (λ (c : ℕ). selectors_from (at + width c) s) i)
      ∙ one_modification (ap is_tag_class e) (ap is_modification_class e) (Structure.EnclosingKeycap s ∷ [])
      (ap (λ (x : Class). (to_modifications x v (s, [])).1) e)

  pub tags_on : {end : ℕ} → k ≡ tag → end ≡ at + size width (tag_modification_at (chars (drop at text))) → Some (TagModifier end)
      ≡ modification_read at (chars (drop at text))
  unfolding first_from modification_from
  tags_on e r =
      let p = tested _ is_tag_class tag_test (ap is_tag_class e) in
      let m = of_tags v (chars (drop next text)) p in
      ap (λ (n : ℕ). Some (TagModifier n)) (r ∙ ap (λ (l : List ℕ). at + size width l) (ap tag_modification_at h.chars_on ∙ sym m.flat))
      ∙ modification_is (modification_tag v (chars (drop next text)) p) m.is

  pub modification_off : is_modification_class k ≡ false → is_tag_class k ≡ false
      → None ≡ modification_read at (chars (drop at text))
  unfolding modifications_of first_from
  modification_off e f =
      modification_is (modification_other v (chars (drop next text)) false (tested _ is_tag_class tag_test f)
      (tested is_modification is_modification_class modification_test e)) refl

  -- ---- a stem

  stem_by_lem : (a b : Bool) → is_emoji_class k ≡ a → is_ri_class k ≡ b
      → stem_read at (chars (drop at text))
      ≡ cond a (Some (stem_after next (cond b (ri_stem v (selectors_at (chars (drop next text))) (after_selectors (chars (drop next text))))
      (Structure.SingletonBase v (selectors_at (chars (drop next text))))))) None
  unfolding stem_read emoji_like
  stem_by_lem a b e f =
      let t = chars (drop next text) in
      ap (stem_read at) h.chars_on
      ∙ ap₂ (λ (x y : Bool). cond x (Some (stem_after (at + width v)
      (cond y (ri_stem v (selectors_at t) (after_selectors t)) (Structure.SingletonBase v (selectors_at t))))) None)
      (tested is_emoji is_emoji_class emoji_test e) (tested is_ri is_ri_class ri_test f)
      ∙ ap (λ (n : ℕ). cond a (Some (stem_after n
      (cond b (ri_stem v (selectors_at t) (after_selectors t)) (Structure.SingletonBase v (selectors_at t))))) None) (sym h.after)

  pub stem_ri : {r : EmojiStem} → k ≡ ri → r
      ≡ stem_after next (ri_stem v (selectors_at (chars (drop next text))) (after_selectors (chars (drop next text))))
      → Some r ≡ stem_read at (chars (drop at text))
  stem_ri e r = ap Some r ∙ sym (stem_by_lem true true (ap is_emoji_class e) (ap is_ri_class e))

  pub stem_on : {r : PresentationSelectors} → is_emoji_class k ≡ true → is_ri_class k ≡ false → r ≡ selector_run text next
      → Some (SingletonBase v r)
      ≡ stem_read at (chars (drop at text))
  unfolding stem_after selector_run
  stem_on e f r = ap (λ (s : PresentationSelectors). Some (SingletonBase v s)) r ∙ sym (stem_by_lem true false e f)

  pub stem_off : is_emoji_class k ≡ false → None ≡ stem_read at (chars (drop at text))
  stem_off e = sym (stem_by_lem false (is_ri_class k) e refl)

-- ---- the stem whose first character is an RI

module _ (text : List ℕ) (at : ℕ) {r : PresentationSelectors} (e : r ≡ selector_run text at) where
  -- The characters after the selectors.
  mid_is : chars (drop r.end text) ≡ after_selectors (chars (drop at text))
  unfolding selector_run
  mid_is =
      let t = chars (drop at text) in
      ap (λ (x : PresentationSelectors). chars (drop x.end text)) e
      ∙ chars-from text at (selectors_at t) (after_selectors t) (sym (run-after is_selector t))

  pub ri_alone : Unseen text r.end → (a : ℕ) → SingletonBase a r
      ≡ stem_after at (ri_stem a (selectors_at (chars (drop at text))) (after_selectors (chars (drop at text))))
  unfolding selector_run stem_after ri_stem
  ri_alone h a = ap (SingletonBase a) e ∙ ap (λ (l : List ℕ). stem_after at (ri_stem a (selectors_at (chars (drop at text))) l))
      (sym h.chars_none ∙ mid_is)

  module _ {v : ℕ} {k : Class} {next : ℕ} (h : Seen text r.end v k next) (a : ℕ) where
    second-by : (b : Bool) → is_ri_class k ≡ b
        → stem_after at (ri_stem a (selectors_at (chars (drop at text))) (after_selectors (chars (drop at text))))
        ≡ stem_after at (cond b (Structure.Flag a (selectors_at (chars (drop at text))) v (selectors_at (chars (drop next text))))
        (Structure.SingletonBase a (selectors_at (chars (drop at text)))))
    unfolding ri_stem
    second-by b f =
        let s = selectors_at (chars (drop at text)) in
        ap (λ (l : List ℕ). stem_after at (ri_stem a s l)) (sym mid_is ∙ h.chars_on)
        ∙ ap (λ (x : Bool). stem_after at
        (cond x (Structure.Flag a s v (selectors_at (chars (drop next text)))) (Structure.SingletonBase a s)))
        (tested h is_ri is_ri_class ri_test f)

    pub ri-single : is_ri_class k ≡ false → SingletonBase a r
        ≡ stem_after at (ri_stem a (selectors_at (chars (drop at text))) (after_selectors (chars (drop at text))))
    unfolding selector_run stem_after
    ri-single f = ap (SingletonBase a) e ∙ sym (second-by false f)

    pub ri-flag : {q : PresentationSelectors} → k ≡ ri → q ≡ selector_run text next → Flag a r v q
        ≡ stem_after at (ri_stem a (selectors_at (chars (drop at text))) (after_selectors (chars (drop at text))))
    unfolding selector_run stem_after
    ri-flag f g =
        let n : r.end + width v ≡ at + size width (selectors_at (chars (drop at text))) + width v =
        ap (λ (x : PresentationSelectors). x.end + width v) e in
        ap₂ (λ (x y : PresentationSelectors). Flag a x v y) e
        (selectors_after h g ∙ ap (λ (m : ℕ). selectors_from m (selectors_at (chars (drop next text)))) n)
        ∙ sym (second-by true (ap is_ri_class f))
