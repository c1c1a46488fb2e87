-- A tag run, a unit and the links after it at an offset, by the ends of their parts: the laws that the consume functions use.
use Rattle.std.specs.Prelude.{Some, None, Option}
use mathlib.Core.Path.{◌≡◌, refl, ap, ap₂, sym, ◌∙◌}
use mathlib.Core.Bool.{Bool, true, false, cond, true≢false}
use mathlib.Core.List.{List, [], ◌∷◌, ◌++◌, append-nil}
use Prim.Native.Nat.{ℕ, ◌+◌, ◌≤◌, ◌<◌}
use native.Mathlib.Omega.{arith}
use borrow.Author.Tests.{le-leb, lt-leb}
use lib.ListN.{drop, length}
use Rattle.utf8.specs.Rfc3629.{chars}
use Rattle.emoji.specs.Unicode.{is_emoji, is_ri, is_tag}
use Rattle.scanner.specs.declared.char_class.Class.{Class}
use Rattle.item_parts.specs.Parts.{
  joins,
  link_part,
  link_read,
  no_unit,
  part_read,
  stem_after,
  stem_end,
  stem_read,
  tag_run_from,
  tag_run_read,
  unit_read,
}
use Rattle.scanner.specs.RunKinds.{is_emoji_class, run_of}
use Rattle.scanner.specs.Runs.{after_run, after_selectors, after_stem, modifications_at, run, second_ri_at, selectors_at, stem_at, unit_at}
use Rattle.scanner.specs.SelectorRun.{selector_run, selectors_from}
use Rattle.scanner.specs.Spans.{size, width}
use Rattle.scanner.specs.Structure as Structure
use Rattle.scanner.specs.Structure.{emoji_like, ri_stem}
use Rattle.scanner.specs.declared.char_runs.RunKind.TheVariants.{Tags}
use Rattle.item_parts.specs.declared.EmojiStem.{EmojiStem}
use Rattle.item_parts.specs.declared.EmojiTagRun.{EmojiTagRun}
use Rattle.item_parts.specs.declared.SequencePart.TheVariants.{JoiningLink, LeftOverLink}
use Rattle.item_parts.specs.declared.ZwjLink.{ZwjLink}
use Rattle.item_parts.proofs.PartsAt.{a_link}
use Rattle.scanner.specs.declared.selectors.PresentationSelectors.{PresentationSelectors}
use Rattle.scanner.proofs.Bytes.{chars-from, width_some}
use Rattle.scanner.proofs.ClassTests.{emoji_test, run_tags}
use Rattle.scanner.proofs.EmojiRuns.{after_stem_lem, stem_read_lem}
use Rattle.scanner.proofs.Peek.{Seen, Unseen}
use Rattle.scanner.proofs.Rescan.{size_append}
use Rattle.scanner.proofs.Runs.{run-after, run_false, run_true}

-- The run of tags with this end and these selectors.
abbrev pub a_run : ℕ → PresentationSelectors → Option EmojiTagRun
a_run n s = Some (record { tags_end = n; selectors = s })

-- ---- a run of tags

pub tag_run_by : (at c : ℕ) (t : List ℕ) (b : Bool) → is_tag c ≡ b
    → tag_run_read at (c ∷ t) ≡ cond b (Some (tag_run_from at
    (record { tags = run is_tag (c ∷ t); after = selectors_at (after_run is_tag (c ∷ t)) })))
    None
unfolding tag_run_read
tag_run_by at c t b f = ap (λ (x : Bool). cond x
    (Some (tag_run_from at (record { tags = run is_tag (c ∷ t); after = selectors_at (after_run is_tag (c ∷ t)) }))) None) f

module _ (text : List ℕ) (at : ℕ) {end : ℕ} (e : end ≡ at + size width (run_of Tags (chars (drop at text)))) where
  tags_end : end ≡ at + size width (run is_tag (chars (drop at text)))
  tags_end = e ∙ ap (λ (s : List ℕ). at + size width s) (run_tags (chars (drop at text)))

  pub no_tags : end ≡ at → None ≡ tag_run_read at (chars (drop at text))
  unfolding tag_run_read
  no_tags p = go (chars (drop at text)) tags_end
    where
      go : (t : List ℕ) → end ≡ at + size width (run is_tag t) → None ≡ tag_run_read at t
      go [] q = refl
      go (c ∷ t) q = by (is_tag c) refl
        where
          by : (b : Bool) → is_tag c ≡ b → None ≡ tag_run_read at (c ∷ t)
          by true f = absurd (omega (arith, ap (size width) (run_true is_tag c t f), width_some c))
          by false f = sym (tag_run_by at c t false f)

  pub some_tags : (end ≡ at → ⊥) → {r : PresentationSelectors} → r ≡ selector_run text end
      → a_run end r ≡ tag_run_read at (chars (drop at text))
  unfolding selector_run tag_run_from run
  some_tags n {r} g = go (chars (drop at text)) refl tags_end
    where
      go : (t : List ℕ) → chars (drop at text) ≡ t → end ≡ at + size width (run is_tag t) → a_run end r ≡ tag_run_read at t
      go [] p q = absurd (n (omega arith))
      go (c ∷ t) p q = by (is_tag c) refl
        where
          after : chars (drop end text) ≡ after_run is_tag (c ∷ t)
          after = ap (λ (m : ℕ). chars (drop m text)) q ∙ chars-from text at (run is_tag (c ∷ t)) (after_run is_tag (c ∷ t))
              (p ∙ sym (run-after is_tag (c ∷ t)))

          by : (b : Bool) → is_tag c ≡ b → a_run end r ≡ tag_run_read at (c ∷ t)
          by true f =
              ap (a_run end) (g ∙ ap (λ (l : List ℕ). selectors_from end (selectors_at l)) after)
              ∙ ap (λ (m : ℕ). a_run m (selectors_from m (selectors_at (after_run is_tag (c ∷ t))))) q ∙ sym (tag_run_by at c t true f)
          by false f = absurd (n (omega (arith, ap (size width) (run_false is_tag c t f))))

-- ---- the end of a stem

abbrev pub stem_end_lem : ℕ → Option EmojiStem → ℕ
stem_end_lem at (Some s) = stem_end s
stem_end_lem at None = at

-- The stem and its characters. It depends on whether the first character is emoji (a) and an RI (b), the selectors after it (s) and
-- the characters after these (m).
abbrev stem_by : ℕ → ℕ → Bool → Bool → List ℕ → List ℕ → Option EmojiStem
stem_by at c a b s m = cond a (Some (stem_after (at + width c) (cond b (ri_stem c s m) (Structure.SingletonBase c s)))) None

abbrev chars_by : ℕ → Bool → Bool → List ℕ → List ℕ → List ℕ
chars_by c a b s m = cond a (c ∷ (s ++ cond b (second_ri_at m) [])) []

ends_by : (at c : ℕ) (a b : Bool) (s m : List ℕ) → stem_end_lem at (stem_by at c a b s m) ≡ at + size width (chars_by c a b s m)
unfolding stem_after ri_stem second_ri_at
ends_by at c false b s m = omega arith
ends_by at c true false s m = omega (arith, ap (size width) (append-nil s))
ends_by at c true true s [] = omega (arith, ap (size width) (append-nil s))
ends_by at c true true s (d ∷ u) = go (is_ri d)
  where
    go : (x : Bool) → stem_end_lem at (Some (stem_after (at + width c)
        (cond x (Structure.Flag c s d (selectors_at u)) (Structure.SingletonBase c s))))
        ≡ at + size width (c ∷ (s ++ cond x (d ∷ selectors_at u) []))
    go true = omega (arith, size_append width s (d ∷ selectors_at u))
    go false = omega (arith, ap (size width) (append-nil s))

pub stem_end_is : (at : ℕ) (t : List ℕ) → stem_end_lem at (stem_read at t) ≡ at + size width (stem_at t)
unfolding stem_read stem_at emoji_like
stem_end_is at [] = omega arith
stem_end_is at (c ∷ t) = ends_by at c (is_emoji c) (is_ri c) (selectors_at t) (after_selectors t)

-- ---- a unit

stem_empty : (c : ℕ) (t : List ℕ) → is_emoji c ≡ false → stem_at (c ∷ t) ≡ []
unfolding stem_at
stem_empty c t e = ap (λ (b : Bool). chars_by c b (is_ri c) (selectors_at t) (after_selectors t)) e

stem_whole : (t : List ℕ) → stem_at t ++ after_stem t ≡ t
unfolding stem_at after_stem
stem_whole [] = refl
stem_whole (c ∷ t) = go (is_emoji c) refl
  where
    go : (b : Bool) → is_emoji c ≡ b → stem_at (c ∷ t) ++ after_stem (c ∷ t) ≡ c ∷ t
    go true e = let r = stem_read_lem c t e in ap₂ (λ (x y : List ℕ). x ++ y) r.stem_is (after_stem_lem r)
        ∙ ap (λ (l : List ℕ). c ∷ l) r.whole
    go false e = ap (λ (l : List ℕ). l ++ drop (length l) (c ∷ t)) (stem_empty c t e)

-- The end of a unit, from the end of its stem and the end of its modifications.
unit_end : (text : List ℕ) (at mid end : ℕ) → mid ≡ at + size width (stem_at (chars (drop at text))) → end
    ≡ mid + size width (modifications_at (chars (drop mid text)))
    → end ≡ at + size width (unit_at (chars (drop at text)))
unfolding unit_at
unit_end text at mid end e f =
    let t = chars (drop at text) in
    let d : chars (drop mid text) ≡ after_stem t = ap (λ (n : ℕ). chars (drop n text)) e
    ∙ chars-from text at (stem_at t) (after_stem t) (sym (stem_whole t)) in
    omega (arith, size_append width (stem_at t) (modifications_at (after_stem t)), ap (λ (l : List ℕ). size width (modifications_at l)) d)

pub some_stem : {s : EmojiStem} → Some s ≡ None → ⊥
some_stem e = true≢false (cc)

-- A stem begins at a character exactly if it is an emoji.
pub stem_emoji : (at c : ℕ) (t : List ℕ) (b : Bool) → is_emoji c ≡ b → stem_read at (c ∷ t)
    ≡ cond b (Some (stem_after (at + width c) (emoji_like c t).stem)) None
unfolding stem_read
stem_emoji at c t b e = ap (λ (x : Bool). cond x (Some (stem_after (at + width c) (emoji_like c t).stem)) None) e

unit_by : (at c : ℕ) (t : List ℕ) (b : Bool) → is_emoji c ≡ b
    → unit_read at (c ∷ t) ≡ cond b (record {
      stem = stem_read at (c ∷ t);
      modifiers_start = at + size width (stem_at (c ∷ t));
      end =
          at + size width (unit_at (c ∷ t));
    }) (no_unit at)
unfolding unit_read
unit_by at c t b e =
    ap (λ (x : Bool). cond x (record {
      stem = stem_read at (c ∷ t);
      modifiers_start = at + size width (stem_at (c ∷ t));
      end =
          at + size width (unit_at (c ∷ t));
    }) (no_unit at)) e

module _ (text : List ℕ) (at : ℕ) {m : Option EmojiStem} (e : m ≡ stem_read at (chars (drop at text))) where
  -- Where a stem begins, a unit begins.
  pub unit_on : (m ≡ None → ⊥) → {start end : ℕ} → start ≡ stem_end_lem at m → end
      ≡ start + size width (modifications_at (chars (drop start text)))
      → record { stem = m; modifiers_start = start; end = end } ≡ unit_read at (chars (drop at text))
  unfolding stem_read
  unit_on n {start} {end} f g = go (chars (drop at text)) e mid (unit_end text at start end mid g)
    where
      mid : start ≡ at + size width (stem_at (chars (drop at text)))
      mid = f ∙ ap (stem_end_lem at) e ∙ stem_end_is at (chars (drop at text))

      go : (t : List ℕ) → m ≡ stem_read at t → start ≡ at + size width (stem_at t) → end ≡ at + size width (unit_at t)
          → record { stem = m; modifiers_start = start; end = end } ≡ unit_read at t
      go [] p q r = absurd (n p)
      go (c ∷ t) p q r = by (is_emoji c) refl
        where
          by : (b : Bool) → is_emoji c ≡ b → record { stem = m; modifiers_start = start; end = end } ≡ unit_read at (c ∷ t)
          by true i =
              ap (λ (x : Option EmojiStem). record { stem = x; modifiers_start = start; end = end }) p
              ∙ ap₂ (λ (x y : ℕ). record { stem = stem_read at (c ∷ t); modifiers_start = x; end = y }) q r ∙ sym (unit_by at c t true i)
          by false i = absurd (n (p ∙ stem_emoji at c t false i))

  pub unit_off : m ≡ None → no_unit at ≡ unit_read at (chars (drop at text))
  unfolding unit_read
  unit_off n = go (chars (drop at text)) e
    where
      go : (t : List ℕ) → m ≡ stem_read at t → no_unit at ≡ unit_read at t
      go [] p = refl
      go (c ∷ t) p = by (is_emoji c) refl
        where
          by : (b : Bool) → is_emoji c ≡ b → no_unit at ≡ unit_read at (c ∷ t)
          by true i = absurd (some_stem (sym (stem_emoji at c t true i) ∙ sym p ∙ n))
          by false i = sym (unit_by at c t false i)

-- ---- the links after a unit

module _ (text : List ℕ) (end at : ℕ) where
  pub part-past : end ≤ at → None ≡ part_read text end at
  unfolding part_read
  part-past h = ap (λ (b : Bool). cond b None (link_part text end (link_read at (chars (drop at text))))) (sym (le-leb end at h))

  module _ (h : at < end) where
    part_by : {l : Option ZwjLink} → l ≡ link_read at (chars (drop at text)) → link_part text end l ≡ part_read text end at
    unfolding part_read
    part_by e = ap (link_part text end) e ∙ ap (λ (b : Bool). cond b None (link_part text end (link_read at (chars (drop at text)))))
        (sym (lt-leb end at h))

    pub part_none : None ≡ link_read at (chars (drop at text)) → None ≡ part_read text end at
    unfolding link_part
    part_none e = part_by e

    module _ {s : PresentationSelectors} (e : a_link s ≡ link_read at (chars (drop at text))) where
      pub part-last : end ≤ s.end → Some (LeftOverLink s) ≡ part_read text end at
      unfolding link_part
      part-last k = ap (λ (b : Bool). Some (cond b (LeftOverLink s) (joins s (chars (drop s.end text))))) (sym (le-leb end s.end k))
          ∙ part_by e

      module _ (k : s.end < end) where
        pub joins-is : Some (joins s (chars (drop s.end text))) ≡ part_read text end at
        unfolding link_part
        joins-is = ap (λ (b : Bool). Some (cond b (LeftOverLink s) (joins s (chars (drop s.end text))))) (sym (lt-leb end s.end k))
            ∙ part_by e

        pub part-before-none : Unseen text s.end → Some (LeftOverLink s) ≡ part_read text end at
        unfolding joins
        part-before-none u = ap (λ (l : List ℕ). Some (joins s l)) (sym u.chars_none) ∙ joins-is

        module _ {v : ℕ} {c : Class} {next : ℕ} (u : Seen text s.end v c next) where
          joins-by : (b : Bool) → is_emoji_class c ≡ b → Some (cond b (JoiningLink s) (LeftOverLink s)) ≡ part_read text end at
          unfolding joins
          joins-by b f =
              ap (λ (x : Bool). Some (cond x (JoiningLink s) (LeftOverLink s))) (sym (emoji_test v ∙ ap is_emoji_class (sym u.class) ∙ f))
              ∙ ap (λ (l : List ℕ). Some (joins s l)) (sym u.chars_on) ∙ joins-is

          pub part-joins : is_emoji_class c ≡ true → Some (JoiningLink s) ≡ part_read text end at
          part-joins f = joins-by true f

          pub part-left-over : is_emoji_class c ≡ false → Some (LeftOverLink s) ≡ part_read text end at
          part-left-over f = joins-by false f
