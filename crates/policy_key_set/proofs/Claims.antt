-- The proof of each statement of specs/Theorems.antt.
use mathlib.Core.Path.{◌≡◌, refl, sym, ap, ◌∙◌}
use mathlib.Core.Bool.{Bool, true, false, beq, not-not, not, ◌&&◌, ◌||◌}
use Prim.Native.Nat.{ℕ, ◌*◌}
use native.Mathlib.Omega.{arith}
use Rattle.base.proofs.Tests.{beq_so, so_beq}
use Rattle.base.specs.Texts.{parted}
use Rattle.emoji.specs.Unicode.{has_variation_sequence, is_emoji_default, is_emoji_presentation, is_text_default}
use Rattle.emoji.specs.UnicodeData.{variation_entries}
use Rattle.emoji.proofs.Between.{every, every-member}
use Rattle.base.specs.Bits.{one}
use Rattle.policy_key_set.specs.Sets.{word_count, count_below, entry_count, member, same_entries, size_of}
use Rattle.policy_key_set.specs.KeySets.{is_ascii, is_keycap_rgi, keycap, ordinary}
use Rattle.policy_key_set.specs.Display.{
  display,
  hex_digit,
  hex_digits,
  hex_width,
  key_list,
  key_text,
  key_texts,
  opening,
}
use Rattle.policy_key_set.specs.Theorems.{
  ComplementOfUnion,
  ComplementTwice,
  ContainsByComplement,
  ContainsByOperation,
  DisplayExample,
  EntriesAndWords,
  MembersDetermineWords,
  NamedSetsCompare,
  NamedSetsContain,
  OnesAreMembers,
  SameEntriesMeans,
  SameTestSameWords,
  SizeOfAll,
  SizeOfNone,
  SizeOfUnion,
  TestedWordsHold,
}
use Rattle.policy_key_set.proofs.Below.{
  all_below_lem,
  all_counted,
  below_all,
  count_all,
  count_le,
  count_none,
  count_same,
  count_union,
  none-counted,
}
use Rattle.policy_key_set.proofs.Members.{held, holds_same, members_determine}
use Rattle.policy_key_set.proofs.Sizes.{count_held, sum-count}
use Rattle.policy_key_set.proofs.Entries.{entry_count_lem, matching_words_hold}
use Rattle.policy_key_set.proofs.Contains.{contains-chars, contains_complement, contains-made}

pub entries_and_words : EntriesAndWords
unfolding EntriesAndWords word_count
entries_and_words = (entry_count_lem, omega (arith, entry_count_lem))

pub members_determine_words : MembersDetermineWords
unfolding MembersDetermineWords
members_determine_words = members_determine

pub same_test_same_words : SameTestSameWords
unfolding SameTestSameWords
same_test_same_words n p q ws vs l h g a b e = members_determine ws vs l h g (λ i. holds_same n p q ws a e i ∙ sym (b i))

pub ones_are_members : OnesAreMembers
unfolding OnesAreMembers
ones_are_members n m p ws l h a = sum-count ws h m ∙ count_held n (m * 64) p ws l a

pub tested_words_hold : TestedWordsHold
unfolding TestedWordsHold
tested_words_hold = matching_words_hold

pub named_sets_contain : NamedSetsContain
unfolding NamedSetsContain
named_sets_contain = contains-chars

pub named_sets_compare : NamedSetsCompare
unfolding NamedSetsCompare is_text_default is_emoji_default has_variation_sequence every variation_entries
named_sets_compare c h = (
  ap (λ (b : Bool). b && not (is_emoji_presentation c)) h ∙ ap (λ (b : Bool). not (b && is_emoji_presentation c)) (sym h),
  beq_so (is_ascii c) (is_keycap_rgi c) (every-member (λ (x : ℕ). beq (is_ascii x) (is_keycap_rgi x)) variation_entries refl c h),
)

pub contains_by_operation : ContainsByOperation
unfolding ContainsByOperation
contains_by_operation = contains-made

pub contains_by_complement : ContainsByComplement
unfolding ContainsByComplement
contains_by_complement = contains_complement

pub complement_twice : ComplementTwice
unfolding ComplementTwice
complement_twice n x y z h g =
    holds_same n (λ (i : ℕ). not (member i y)) (λ (i : ℕ). member i x) z g
    (λ i l. ap not (held n (λ (i : ℕ). not (member i x)) y h i l) ∙ not-not (member i x))

pub complement_of_union : ComplementOfUnion
unfolding ComplementOfUnion
complement_of_union n x y u v h g =
    holds_same n (λ (i : ℕ). not (member i u)) (λ (i : ℕ). not (member i x) && not (member i y)) v g
    (λ i l. ap not (held n (λ (i : ℕ). member i x || member i y) u h i l) ∙ neither (member i x) (member i y))
  where
    neither : (a b : Bool) → not (a || b) ≡ (not a && not b)
    neither true b = refl
    neither false b = refl

pub size_of_union : SizeOfUnion
unfolding SizeOfUnion size_of
size_of_union x y u v h g =
    let e = count_same entry_count (λ (i : ℕ). member i u) (λ (i : ℕ). member i x || member i y)
    (held entry_count (λ (i : ℕ). member i x || member i y) u h) in
    let f = count_same entry_count (λ (i : ℕ). member i v) (λ (i : ℕ). member i x && member i y)
    (held entry_count (λ (i : ℕ). member i x && member i y) v g) in
    omega (arith, count_union entry_count (λ (i : ℕ). member i x) (λ (i : ℕ). member i y))

pub same_entries_means : SameEntriesMeans
unfolding SameEntriesMeans same_entries
same_entries_means ws vs = (
  λ e i l. beq_so (member i ws) (member i vs) (all_below_lem entry_count (λ (i : ℕ). beq (member i ws) (member i vs)) e i l),
  λ h. below_all entry_count (λ (i : ℕ). beq (member i ws) (member i vs)) (λ i l. so_beq (member i ws) (member i vs) (h i l)),
)

pub size_of_none : SizeOfNone
unfolding SizeOfNone size_of
size_of_none s = (
  λ e i l. (count_none entry_count (ordinary s) (omega arith) i l, count_none entry_count (keycap s) (omega arith) i l),
  λ h.
      let a = count_same entry_count (ordinary s) (λ (i : ℕ). false) (λ i l. (h i l).0) ∙ none-counted entry_count in
      let b = count_same entry_count (keycap s) (λ (i : ℕ). false) (λ i l. (h i l).1) ∙ none-counted entry_count in
      omega arith,
)

pub size_of_all : SizeOfAll
unfolding SizeOfAll size_of
size_of_all s =
    let c = count_le entry_count (ordinary s) in
    let d = count_le entry_count (keycap s) in (
      λ e i l. (count_all entry_count (ordinary s) (omega arith) i l, count_all entry_count (keycap s) (omega arith) i l),
      λ h.
          let a = count_same entry_count (ordinary s) (λ (i : ℕ). true) (λ i l. (h i l).0) ∙ all_counted entry_count in
          let b = count_same entry_count (keycap s) (λ (i : ℕ). true) (λ i l. (h i l).1) ∙ all_counted entry_count in
          omega arith,
    )

pub display_example : DisplayExample
unfolding DisplayExample display key_list parted key_texts key_text opening hex_width hex_digits hex_digit size_of count_below member one
    entry_count
    variation_entries
display_example = refl
