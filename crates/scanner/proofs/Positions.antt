-- Items in characters and UTF-16 units (document 02, v): what an item counts, that each number is the position of its offset, and that the
-- items tile the text in all three.
use mathlib.Core.Path.{◌≡◌, refl, ap, sym, ◌∙◌, subst}
use mathlib.Core.List.{List, [], ◌∷◌, ◌++◌, Memᴰ}
use Prim.Native.Nat.{ℕ, ◌+◌, ◌-◌, ◌*◌, ◌^◌, ◌≤◌, ◌<◌}
use native.Mathlib.Omega.{arith}
use lib.ListN.{length, take, drop, length-append, length-drop, length-take}
use lib.Seq.{take-add}
use Rattle.base.specs.Sums.{capped, most}
use Rattle.base.proofs.Sums.{capped-held}
use Rattle.utf8.specs.Rfc3629.{WellFormed, all_scalar, chars, encode_all, valid_up_to_of}
use Rattle.utf8.proofs.Grammar.{encode_all_well_formed, longest_well_formed}
use Rattle.utf8.proofs.Texts.{chars-all_scalar, chars-encode_all-alone, encode_all-chars_take, valid_up_to_le}
use Rattle.positions.specs.Positions.{
  AtPosition,
  Boundary,
  capped_plus,
  count_between,
  counted,
  no_count,
  position_at,
  stretch,
  text_count,
  units,
}
use Rattle.positions.specs.declared.TextCount.{TextCount}
use Rattle.positions.proofs.Counting.{
  at_position_on,
  at_start,
  both_well_formed,
  counted-encode_all,
  position_bounded,
  units_append,
  units-positive,
}
use Rattle.scanner.specs.Items.{Item, items, join}
use Rattle.scanner.specs.Spans.{count_after, scan, scan_from, size, spans, width}
use Rattle.scanner.specs.Theorems.{Positioned, TilesBy, TilesThrice}
use Rattle.scanner.specs.declared.ScanItem.{ScanItem}
use Rattle.scanner.proofs.Bytes.{chars-from, scalar-front, size-width, take_chars_lem}
use Rattle.scanner.proofs.Spans.{scan_tiles_all}
use Rattle.scanner.proofs.Tiling.{Filled, and_item, filled, no_item, tiling}

-- ---- the first characters from an offset on

module _ (text : List ℕ) (at : ℕ) (vs us : List ℕ) (e : chars (drop at text) ≡ vs ++ us) where
  -- The count of their bytes is the count of the characters.
  pub count-chars : count_between text at (at + size width vs) ≡ text_count vs
  unfolding count_between stretch
  count-chars =
      let d : at + size width vs - at ≡ length (encode_all vs) = omega (arith, size-width vs) in
      ap (λ (n : ℕ). counted (take n (drop at text))) d ∙ ap counted (take_chars_lem (drop at text) vs us e) ∙ counted-encode_all vs

  -- If they begin at a character boundary, they end at one.
  pub boundary_on : Boundary text at → Boundary text (at + size width vs)
  boundary_on b =
      let t = take_chars_lem (drop at text) vs us e in
      let w = encode_all_well_formed vs (scalar-front vs us (ap all_scalar (sym e) ∙ chars-all_scalar (drop at text))) in
      let d : take (at + size width vs) text ≡ take at text ++ encode_all vs =
      ap (λ (n : ℕ). take (at + n) text) (size-width vs) ∙ take-add at (length (encode_all vs)) text
      ∙ ap (λ (l : List ℕ). take at text ++ l) t in
      let n = length-take (length (encode_all vs)) (drop at text) in
      record {
        within_text = omega (arith, size-width vs, b.within_text, ap length t, n, length-drop at text);
        well_formed = subst WellFormed (sym d) (both_well_formed b.well_formed w);
      }

  -- The position after them, as the code holds it.
  pub chars-positioned : {before : TextCount} → AtPosition text at before
      → AtPosition text (at + size width vs) (capped_plus before (text_count vs))
  chars-positioned {before} a =
      subst (λ (c : TextCount). AtPosition text (at + size width vs) (capped_plus before c)) count-chars
      (at_position_on a (boundary_on a.boundary) (omega arith))

-- ---- each number is the position of its offset

data EachPositioned (text : List ℕ) : List ScanItem → Type 0 where
  none_left : EachPositioned text []
  item_and : {x : ScanItem} {xs : List ScanItem} → Positioned text x → EachPositioned text xs → EachPositioned text (x ∷ xs)

each_member : {text : List ℕ} {x : ScanItem} {xs : List ScanItem} → EachPositioned text xs → Memᴰ x xs → Positioned text x
each_member {text} (item_and c h) (Memᴰ.head p) = subst (Positioned text) (sym p) c
each_member (item_and c h) (Memᴰ.tail m) = each_member h m
each_member {text = text} none_left x4 = elim x4 [ ]

spans-positioned : (text : List ℕ) (at : ℕ) (before : TextCount) (xs : List Item) → AtPosition text at before
    → chars (drop at text) ≡ join xs → EachPositioned text (spans at before xs)
unfolding spans
spans-positioned text at before [] a e = none_left
spans-positioned text at before (x ∷ xs) a e =
    let end = at + size width x.chars in
    let on = chars-positioned text at x.chars (join xs) e a in
    item_and
    record { start_is = a.position; end_is = on.position; starts = a.boundary; ends = on.boundary }
    (spans-positioned text end (count_after before x) xs on (chars-from text at x.chars (join xs) e))

pub positioned-from : (text : List ℕ) (at : ℕ) (before : TextCount) → AtPosition text at before
    → (x : ScanItem) → Memᴰ x (scan_from text at before) → Positioned text x
unfolding scan_from
positioned-from text at before a x m =
    let t = chars (drop at text) in
    each_member (spans-positioned text at before (items t) a (sym (tiling t))) m

pub positioned : (text : List ℕ) → length text < 2 ^ 63 → (x : ScanItem) → Memᴰ x (scan text) → Positioned text x
unfolding scan
positioned text few = positioned-from text 0 no_count (at_start text few)

-- ---- the items tile the text in characters and in units

module _ (of : TextCount → ℕ) (count : List ℕ → ℕ)
    (adds : (before : TextCount) (x : Item) → of (count_after before x) ≡ capped (of before + count x.chars))
    (empty : count [] ≡ 0) (append : (s t : List ℕ) → count (s ++ t) ≡ count s + count t) (some : (c : ℕ) (s : List ℕ) → 1 ≤ count (c ∷ s))
  where
    tiles-by : {xs : List Item} (at : ℕ) (before : TextCount) → Filled xs → of before + count (join xs) ≤ most
        → TilesBy of (of before) (spans at before xs) (of before + count (join xs))
    unfolding spans
    tiles-by at before no_item l = omega (arith, empty)
    tiles-by at before (and_item {x = x} {xs = xs} c s f h) l =
        let end = at + size width x.chars in
        let on = count_after before x in
        let a = append x.chars (join xs) in
        let n : of on ≡ of before + count x.chars = adds before x ∙ capped-held (of before + count x.chars) (omega (arith, a)) in
        let e : of on + count (join xs) ≡ of before + count (x.chars ++ join xs) = omega (arith, a, n) in
        let more : 1 ≤ count x.chars = omega (arith, some c s, ap count f) in
        (refl, omega (arith, n, more), subst (TilesBy of (of on) (spans end on xs)) e (tiles-by end on h (omega (arith, e))))

some-units : (c : ℕ) (s : List ℕ) → 1 ≤ units (c ∷ s)
unfolding units
some-units c s = let h = units-positive c in omega arith

-- The characters of a text, and their units, are few.
few_counts : (text : List ℕ) → (length (chars text) ≤ length text) × (units (chars text) ≤ 2 * length text)
unfolding position_at text_count
few_counts text =
    let t = chars text in
    let e : chars (take (valid_up_to_of text) text) ≡ t =
    ap chars (sym (encode_all-chars_take text)) ∙ chars-encode_all-alone t (chars-all_scalar text) in
    let b : Boundary text (valid_up_to_of text) = record { within_text = valid_up_to_le text; well_formed = longest_well_formed text } in
    let p = position_bounded text (valid_up_to_of text) b in
    (omega (arith, p.0, ap length e), omega (arith, p.1, ap units e))

pub tiles_thrice : (text : List ℕ) → length text < 2 ^ 63 → TilesThrice text
unfolding scan scan_from capped_plus text_count units
tiles_thrice text few =
    let t = chars text in
    let h = few_counts text in
    let l = ap length (tiling t) in
    let u = ap units (tiling t) in
    record {
      in_bytes = scan_tiles_all text;
      in_chars =
          subst (TilesBy (λ (c : TextCount). c.chars) 0 (spans 0 no_count (items t))) (omega (arith, l))
          (tiles-by (λ (c : TextCount). c.chars) length (λ before x. refl) refl length-append (λ c s. omega arith) 0 no_count (filled t)
          (omega (arith, l, h)));
      in_units =
          subst (TilesBy (λ (c : TextCount). c.units) 0 (spans 0 no_count (items t))) (omega (arith, u))
          (tiles-by (λ (c : TextCount). c.units) units (λ before x. refl) refl units_append some-units 0 no_count (filled t)
          (omega (arith, u, h)));
    }
