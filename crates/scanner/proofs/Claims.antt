-- The proof of each statement of specs/Theorems.antt.
use Rattle.std.specs.Prelude.{None}
use mathlib.Core.Path.{◌≡◌, refl, ap, sym, ◌∙◌, subst}
use mathlib.Core.Logic.{◌↔◌, inr}
use mathlib.Core.Bool.{true}
use mathlib.Core.List.{List, [], ◌∷◌, ◌++◌, head-eq_of_cons-eq, Memᴰ}
use Prim.Native.Nat.{ℕ, ◌+◌}
use lib.ListN.{drop, drop_of_length-le}
use Rattle.utf8.specs.Rfc3629.{encode, encode_all, read_char, read_four, fold_chars, fold_step, chars, utf8_1, utf8_2, utf8_3, utf8_4}
use Rattle.base.specs.Sums.{capped}
use Rattle.utf8.proofs.Folds.{chars_end}
use Rattle.utf8.proofs.Fronts.{read_char_nil}
use Rattle.utf8.proofs.Grammar.{well_formed_whole}
use Rattle.emoji.specs.Presentation.{is_selector}
use Rattle.emoji.specs.Tables.{in_ranges, member}
use Rattle.emoji.specs.Unicode.{is_emoji, is_emoji_modifier, is_ri, is_tag}
use Rattle.emoji.specs.UnicodeData.{emoji_modifiers, emoji_ranges, ri_ranges}
use Rattle.scanner.specs.Classes.{class_of}
use Rattle.scanner.specs.Items.{Item, start_state, split_from, items, kind_of, transition}
use Rattle.scanner.specs.Runs.{after_run, link_at, run, selectors_at}
use Rattle.scanner.specs.Structure.{
  after_second_ri,
  split_at_links,
  emoji_like,
  join_one,
  joined_of,
  modifications_of,
  ri_stem,
  sequence_of,
  structure,
  tag_to_modifications,
  tag_to_runs,
  to_modifications,
}
use Rattle.positions.specs.Positions.{capped_plus, no_count, text_count, units, utf16_units}
use Rattle.scanner.specs.Spans.{first_of, scan, scan_at, scan_from, spans, width}
use Rattle.scanner.specs.Tags.{all_complete, complete, ends_in_cancel, tag_modifications, tag_runs, tags_complete_of, with_tags}
use Rattle.scanner.specs.Theorems.{
  CursorAtItemEnd,
  CursorAtStart,
  CursorEnds,
  CursorInsideCharacter,
  CursorPastEnd,
  FirstItemByRuns,
  ItemAlone,
  ItemsAfresh,
  ItemsAreAReading,
  ItemsTile,
  NoItemIsEmpty,
  OnlyReading,
  PositionsAreCounts,
  PositionsFrom,
  RestByRuns,
  RunsAreDerived,
  RunsAreLongest,
  RunsByClass,
  SelectorsKeepItems,
  SpansAfresh,
  SpansCover,
  SpansAreItems,
  SpansTile,
  SpansTileFrom,
  StructureFlattens,
  StructureIsDerived,
  TagsAreInStructure,
  TagSequence,
  TagsCompleteMeans,
  Tiles,
  TilesInAll,
  ItemExamples,
  StructureExample,
  TagExamples,
}
use Rattle.scanner.specs.declared.ScanKind.{ScanKind}
use Rattle.scanner.proofs.Bytes.{chars_inside}
use Rattle.scanner.proofs.ClassTests.{run-links, run_modifications, run_passthrough, run_selectors, run_tags}
use Rattle.scanner.proofs.Complete.{all_complete_means}
use Rattle.scanner.proofs.EmojiRuns.{unit_item}
use Rattle.scanner.proofs.RestRuns.{unit_ends, unit_joins, unit_left_over}
use Rattle.scanner.proofs.ItemRuns.{item-links, item_passthrough, item_selectors}
use Rattle.scanner.proofs.LongestRuns.{
  longest_groups,
  longest_link,
  longest-links,
  longest_modification,
  longest_modifications,
  longest_selectors,
  longest_stem,
  longest_tags,
  longest_unit,
}
use Rattle.scanner.proofs.RunLaws.{
  groups_derived,
  link_derived,
  links_derived,
  modification_derived,
  modifications_derived,
  selectors_derived,
  stem_derived,
  tags_derived,
  unit_derived,
}
use Rattle.scanner.proofs.Runs.{Stops, at_char, at_end}
use Rattle.scanner.proofs.Positions.{positioned, positioned-from, tiles_thrice}
use Rattle.scanner.proofs.Spans.{scan-after, scan-spans_of_items, scan_tiles, scan_tiles_all}
use Rattle.scanner.proofs.Tiling.{afresh, never_empty, tiling}
use Rattle.scanner.proofs.Reading.{derive_inner, derives_alike, item-alone, only-reading, reading}
use Rattle.scanner.proofs.Structure.{item-structure}

pub items_tile : ItemsTile
unfolding ItemsTile
items_tile = tiling

pub no_item_is_empty : NoItemIsEmpty
unfolding NoItemIsEmpty
no_item_is_empty = never_empty

pub items_are_a_reading : ItemsAreAReading
unfolding ItemsAreAReading
items_are_a_reading = reading

pub no_other_reading : OnlyReading
unfolding OnlyReading
no_other_reading = only-reading

pub items_afresh : ItemsAfresh
unfolding ItemsAfresh
items_afresh = afresh

pub item_is_alone : ItemAlone
unfolding ItemAlone
item_is_alone = item-alone

pub selectors_keep_items : SelectorsKeepItems
unfolding SelectorsKeepItems
selectors_keep_items k c s t o e d = derives_alike c s t (derive_inner c s o d) e d

pub runs_are_derived : RunsAreDerived
unfolding RunsAreDerived
runs_are_derived = (
  selectors_derived,
  tags_derived,
  groups_derived,
  modification_derived,
  modifications_derived,
  stem_derived,
  unit_derived,
  link_derived,
  links_derived,
)

pub runs_are_longest : RunsAreLongest
unfolding RunsAreLongest
runs_are_longest = (
  longest_selectors,
  longest_tags,
  longest_groups,
  longest_modification,
  longest_modifications,
  longest_stem,
  longest_unit,
  longest_link,
  longest-links,
)

pub first_item_by_runs : FirstItemByRuns
unfolding FirstItemByRuns items
first_item_by_runs c t x xs e =
    let f : x.chars ≡ c ∷ (split_from (start_state (class_of c)) t).0 = ap (λ (i : Item). i.chars) (sym (head-eq_of_cons-eq e)) in
    (λ s. f ∙ item_selectors c t s, λ l. f ∙ item-links c t l, λ m. f ∙ (unit_item c t m).item, λ p. f ∙ item_passthrough c t p)

pub rest_by_runs : RestByRuns
unfolding RestByRuns link_at
rest_by_runs = (
  λ c t e f. unit_ends (at_char e) (at_char f),
  λ t c u e f. ap (λ (a : List ℕ × List Item). a.0) (unit_joins t c u e f)
      ∙ ap (λ (l : List ℕ). 0x200D ∷ (selectors_at t ++ l)) (unit_item c u f).item,
  λ t e. unit_left_over t (subst (Stops is_emoji) (sym e) at_end),
  λ t c u e f. unit_left_over t (subst (Stops is_emoji) (sym e) (at_char f)),
)

pub spans_tile_from : SpansTileFrom
unfolding SpansTileFrom
spans_tile_from = scan_tiles

pub spans_tile : SpansTile
unfolding SpansTile scan
spans_tile = scan_tiles_all

pub spans_cover : SpansCover
unfolding SpansCover SpansTile
spans_cover text w = subst (Tiles 0 (scan text)) (well_formed_whole w) (spans_tile text)

pub spans_are_items : SpansAreItems
unfolding SpansAreItems scan
spans_are_items text = scan-spans_of_items text 0 no_count

pub spans_afresh : SpansAfresh
unfolding SpansAfresh scan
spans_afresh text before after x e = scan-after text 0 no_count before x after e

pub cursor_at_start : CursorAtStart
unfolding CursorAtStart scan_at scan
cursor_at_start text = refl

pub cursor_at_item_end : CursorAtItemEnd
unfolding CursorAtItemEnd scan_at scan
cursor_at_item_end text before after x e = ap first_of (scan-after text 0 no_count before x after e)

pub cursor_ends : CursorEnds
unfolding CursorEnds scan_at scan_from spans items first_of
cursor_ends text at before = (go (chars (drop at text)), λ e. ap (λ (t : List ℕ). first_of (spans at before (items t))) e)
  where
    go : (t : List ℕ) → first_of (spans at before (items t)) ≡ None → t ≡ []
    go [] e = refl
    go (c ∷ t) e = cc

pub cursor_past_end : CursorPastEnd
unfolding CursorPastEnd CursorEnds
cursor_past_end text at before h = (cursor_ends text at before).1 (ap chars (drop_of_length-le text h) ∙ chars_end [] read_char_nil)

pub cursor_inside_character : CursorInsideCharacter
unfolding CursorInsideCharacter CursorEnds
cursor_inside_character text at v w k before e p q = (cursor_ends text (at + k) before).1 (chars_inside text at v w k e p q)

pub positions_are_counts : PositionsAreCounts
unfolding PositionsAreCounts
positions_are_counts = positioned

pub positions_from : PositionsFrom
unfolding PositionsFrom
positions_from = positioned-from

pub tiles_in_all : TilesInAll
unfolding TilesInAll
tiles_in_all = tiles_thrice

pub structure_flattens : StructureFlattens
unfolding StructureFlattens
structure_flattens t x m k = (item-structure t x m k).flat

pub structure_is_derived : StructureIsDerived
unfolding StructureIsDerived
structure_is_derived t x m k = (item-structure t x m k).derives

pub tags_are_in_structure : TagsAreInStructure
unfolding TagsAreInStructure
tags_are_in_structure t x m k = (item-structure t x m k).tags

pub tags_complete_means : TagsCompleteMeans
unfolding TagsCompleteMeans tags_complete_of
tags_complete_means t x m k =
    subst (λ (l : List (List ℕ)). (tags_complete_of x.kind x.chars ≡ true) ↔ ((ts : List ℕ) → Memᴰ ts l → TagSequence ts))
    (item-structure t x m (inr k)).tags
    (subst (λ (i : ScanKind). (tags_complete_of i x.chars ≡ true)
    ↔ ((ts : List ℕ) → Memᴰ ts (tag_modifications x.chars) → TagSequence ts))
    (sym k)
    (all_complete_means (tag_modifications x.chars)))

pub item_examples : ItemExamples
unfolding ItemExamples class_of is_selector is_tag is_ri is_emoji_modifier is_emoji in_ranges member emoji_modifiers emoji_ranges ri_ranges
    transition
    start_state kind_of split_from items
item_examples = (refl, refl, refl, refl, refl)

pub tag_examples : TagExamples
unfolding TagExamples class_of is_selector is_tag is_ri is_emoji_modifier is_emoji in_ranges member emoji_modifiers emoji_ranges ri_ranges
    transition
    start_state kind_of split_from items utf8_1 utf8_2 utf8_3 utf8_4 read_four read_char fold_step fold_chars chars encode encode_all width
    spans
    scan_from scan capped_plus capped text_count units utf16_units tags_complete_of tag_modifications tag_runs with_tags all_complete
    complete
    ends_in_cancel
tag_examples = (refl, refl, refl, refl, refl, refl, refl, refl, refl, refl, refl, refl, refl, refl, refl)

pub structure_example : StructureExample
unfolding StructureExample class_of is_selector is_tag is_ri is_emoji_modifier is_emoji in_ranges member emoji_modifiers emoji_ranges
    ri_ranges run
    after_run tag_to_runs tag_to_modifications to_modifications modifications_of ri_stem after_second_ri emoji_like split_at_links join_one
    joined_of
    sequence_of structure
structure_example = refl

pub runs_by_class : RunsByClass
unfolding RunsByClass
runs_by_class t = (run_selectors t, run-links t, run_modifications t, run_tags t, run_passthrough t)
