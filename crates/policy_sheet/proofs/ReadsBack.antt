-- A written sheet reads back to its policy.
use mathlib.Core.Path.{◌≡◌, refl, ap, sym, ◌∙◌, subst}
use mathlib.Core.Logic.{⊎_elim}
use mathlib.Core.Bool.{Bool, true, false, not, ◌&&◌, ◌||◌, true≢false}
use mathlib.Core.List.{List, [], ◌∷◌, ◌++◌, map}
use Prim.Native.Nat.{ℕ, ◌+◌, ◌*◌, ◌≤◌, ◌<◌}
use native.Mathlib.Omega.{arith}
use lib.Dec.{eqb, ltb}
use lib.ListN.{get_or, length}
use borrow.Author.Tests.{le-ltb, lt-ltb, not-true}
use Rattle.base.specs.Ranges.{within}
use Rattle.base.specs.Texts.{parted}
use Rattle.base.proofs.Tests.{both_true, either_true, le_or_lt, or_false}
use Rattle.emoji.specs.Unicode.{has_variation_sequence}
use Rattle.emoji.specs.UnicodeData.{variation_entries}
use Rattle.emoji.proofs.Ascent.{ascending_le, ascending_lt, is_at}
use Rattle.emoji.proofs.InOrder.{variation_entries_ascend}
use Rattle.policy_key_set.specs.Sets.{Holds, entry_count, member, word_count}
use Rattle.policy_key_set.proofs.Below.{all_below_lem}
use Rattle.policy_key_set.proofs.Contains.{has_index}
use Rattle.policy_key_set.proofs.Entries.{place-has_index}
use Rattle.policy_key_set.proofs.Members.{member-past}
use Rattle.policy.specs.PolicyBytes.{PolicyValue, SetValue, no_unused_bit, no_unused_bits}
use Rattle.policy.specs.declared.Policy.{Policy}
use Rattle.policy_sheet.specs.Grammar.{Line, Piece, Point, Sheet, lines_and, no_lines}
use Rattle.policy_sheet.specs.Meaning.{AllEntries, Each, IsEntry, Means, Rising, covered, each_and, each_none, has, in_set, points}
use Rattle.policy_sheet.specs.Writer.{Run, line_text, run_text, runs_of, write_sheet}
use Rattle.policy_sheet.proofs.RunCovers.{Among, Up, covers, runs-among, runs_cover}
use Rattle.policy_sheet.proofs.Written.{Short, entry_small, line-written, piece_of, pieces_at}

-- ---- the runs of a set

entries_up : Up variation_entries
entries_up i j h l = ascending_lt variation_entries variation_entries_ascend i j h l

pub record Proper (r : Run) : Type 0 where
  pub first : has_variation_sequence r.first ≡ true
  pub last : has_variation_sequence r.last ≡ true
  pub up : r.first ≤ r.last

count_is : length variation_entries ≡ entry_count
unfolding entry_count
count_is = refl

place_entry : (i : ℕ) → i < length variation_entries → has_variation_sequence (get_or variation_entries i 0) ≡ true
unfolding is_at
place_entry i h = has_index (get_or variation_entries i 0) ∙ ap is_at (place-has_index i (subst (λ (n : ℕ). i < n) count_is h))

proper : {r : Run} → Among variation_entries r → Proper r
proper a = record {
  first = ap has_variation_sequence a.first_is ∙ place_entry a.from (omega (arith, a.in_order, a.in_list));
  last = ap has_variation_sequence a.last_is ∙ place_entry a.to a.in_list;
  up = omega (
    arith,
    a.first_is,
    a.last_is,
    ascending_le variation_entries variation_entries_ascend a.from a.to a.in_order
        a.in_list,
  );
}

each_of : {A : Type 0} {P Q : A → Type 0} {xs : List A} → ((x : A) → P x → Q x) → Each P xs → Each Q xs
each_of f each_none = each_none
each_of f (each_and h hs) = each_and (f _ h) (each_of f hs)

runs-proper : (ws : List ℕ) → Each Proper (runs_of ws)
runs-proper ws = each_of (λ r a. proper a) (runs-among (λ (i : ℕ). member i ws) 0 variation_entries)

short : (r : Run) → Proper r → Short r
short r p = record { first = entry_small r.first p.first; last = entry_small r.last p.last }

-- ---- their pieces

each_append : {A : Type 0} {P : A → Type 0} {xs ys : List A} → Each P xs → Each P ys → Each P (xs ++ ys)
each_append each_none g = g
each_append (each_and h hs) g = each_and h (each_append hs g)

points_append : (xs ys : List Piece) → points (xs ++ ys) ≡ points xs ++ points ys
unfolding points
points_append [] ys = refl
points_append (x ∷ xs) ys = ap (λ (l : List Point). x.first ∷ (x.last ∷ l)) (points_append xs ys)

pub covered_append : (xs ys : List Piece) (k c : ℕ) → covered (xs ++ ys) k c ≡ (covered xs k c || covered ys k c)
unfolding covered
covered_append [] ys k c = refl
covered_append (x ∷ xs) ys k c = go (has k c x) (covered_append xs ys k c)
  where
    go : (b : Bool) → covered (xs ++ ys) k c ≡ (covered xs k c || covered ys k c)
        → (b || covered (xs ++ ys) k c) ≡ ((b || covered xs k c) || covered ys k c)
    go true e = refl
    go false e = e

pieces_rise : (k at : ℕ) (rs : List Run) → Each Proper rs → Rising (pieces_at k at rs)
unfolding pieces_at piece_of
pieces_rise k at [] each_none = each_none
pieces_rise k at (r ∷ rs) (each_and p ps) = each_and p.up (pieces_rise k (at + length (run_text r) + 1) rs ps)

pieces_entries : (k at : ℕ) (rs : List Run) → Each Proper rs → AllEntries (pieces_at k at rs)
unfolding pieces_at piece_of points
pieces_entries k at [] each_none = each_none
pieces_entries k at (r ∷ rs) (each_and p ps) = each_and p.first (each_and p.last (pieces_entries k (at + length (run_text r) + 1) rs
    ps))

pieces_cover : (k at : ℕ) (rs : List Run) (j c : ℕ) → covered (pieces_at k at rs) j c ≡ (eqb k j && covers rs c)
unfolding pieces_at piece_of covered covers
pieces_cover k at [] j c = go (eqb k j)
  where
    go : (b : Bool) → false ≡ (b && false)
    go true = refl
    go false = refl
pieces_cover k at (r ∷ rs) j c = go (eqb k j) (pieces_cover k (at + length (run_text r) + 1) rs j c)
  where
    go : (b : Bool) → covered (pieces_at k (at + length (run_text r) + 1) rs) j c ≡ (b && covers rs c)
        → ((b && within r.first r.last c) || covered (pieces_at k (at + length (run_text r) + 1) rs) j c) ≡ (b &&
        (within r.first r.last c || covers rs c))
    go true e = ap (λ (x : Bool). within r.first r.last c || x) e
    go false e = e

-- ---- the sheet of four sets

module _ (a b c d : List ℕ) where
  abbrev text : List ℕ → List ℕ
  text ws = parted 0x2C (map run_text (runs_of ws))

  abbrev at₁ : ℕ
  at₁ = length (text a ++ (0x0A ∷ []))

  abbrev at₂ : ℕ
  at₂ = length ((text a ++ (0x0A ∷ [])) ++ (text b ++ (0x0A ∷ [])))

  abbrev at₃ : ℕ
  at₃ = length (((text a ++ (0x0A ∷ [])) ++ (text b ++ (0x0A ∷ []))) ++ (text c ++ (0x0A ∷ [])))

  abbrev sheet_pieces : List Piece
  sheet_pieces = ((pieces_at 0 0 (runs_of a) ++ pieces_at 1 at₁ (runs_of b)) ++ pieces_at 2 at₂ (runs_of c)) ++ pieces_at 3 at₃ (runs_of d)

  line_of : (k at : ℕ) (ws : List ℕ) → Line k at (text ws) (pieces_at k at (runs_of ws))
  line_of k at ws = line-written k at (runs_of ws) (each_of short (runs-proper ws))

  sheet_of : Sheet ((((text a ++ (0x0A ∷ [])) ++ (text b ++ (0x0A ∷ []))) ++ (text c ++ (0x0A ∷ []))) ++ (text d ++ (0x0A ∷ [])))
      sheet_pieces
  sheet_of = lines_and (lines_and (lines_and (lines_and no_lines (line_of 0 0 a)) (line_of 1 at₁ b)) (line_of 2 at₂ c)) (line_of 3 at₃ d)

  sheet_rises : Rising sheet_pieces
  sheet_rises =
      each_append
      (each_append (each_append (pieces_rise 0 0 (runs_of a) (runs-proper a)) (pieces_rise 1 at₁ (runs_of b) (runs-proper b)))
      (pieces_rise 2 at₂ (runs_of c) (runs-proper c)))
      (pieces_rise 3 at₃ (runs_of d) (runs-proper d))

  both_entries : (xs ys : List Piece) → AllEntries xs → AllEntries ys → AllEntries (xs ++ ys)
  both_entries xs ys h g = subst (Each IsEntry) (sym (points_append xs ys)) (each_append h g)

  sheet_entries : AllEntries sheet_pieces
  sheet_entries =
      both_entries ((pieces_at 0 0 (runs_of a) ++ pieces_at 1 at₁ (runs_of b)) ++ pieces_at 2 at₂ (runs_of c)) (pieces_at 3 at₃ (runs_of d))
      (both_entries (pieces_at 0 0 (runs_of a) ++ pieces_at 1 at₁ (runs_of b)) (pieces_at 2 at₂ (runs_of c))
      (both_entries (pieces_at 0 0 (runs_of a)) (pieces_at 1 at₁ (runs_of b)) (pieces_entries 0 0 (runs_of a) (runs-proper a))
      (pieces_entries 1 at₁ (runs_of b) (runs-proper b)))
      (pieces_entries 2 at₂ (runs_of c) (runs-proper c)))
      (pieces_entries 3 at₃ (runs_of d) (runs-proper d))

  sheet_covers : (k x : ℕ)
      → covered sheet_pieces k x
      ≡ ((((eqb 0 k && covers (runs_of a) x) || (eqb 1 k && covers (runs_of b) x)) || (eqb 2 k && covers (runs_of c) x)) ||
      (eqb 3 k && covers (runs_of d) x))
  sheet_covers k x =
      simp (covered_append, pieces_cover)

-- ---- what the lines mean

unused : (ws : List ℕ) → length ws ≡ word_count → no_unused_bit ws ≡ true → (i : ℕ) → entry_count ≤ i → member i ws ≡ false
unfolding no_unused_bit
unused ws n u i h = ⊎_elim (λ l. member-past ws i (omega (arith, n))) in_words (le_or_lt (word_count * 64) i)
  where
    in_words : i < word_count * 64 → member i ws ≡ false
    in_words l =
        let e = all_below_lem (word_count * 64) (λ (i : ℕ). ltb i entry_count || not (member i ws)) u i l in
        ⊎_elim (λ p. absurd (true≢false (sym p ∙ le-ltb i entry_count h))) (λ p. not-true (member i ws) p) (either_true (ltb i entry_count)
        (not (member i ws)) e)

-- A set holds what its runs cover.
set_means : (ws : List ℕ) (xs : List Piece) (k : ℕ) → SetValue ws → no_unused_bit ws ≡ true
    → ((x : ℕ) → covered xs k x ≡ covers (runs_of ws) x) → Holds (in_set xs k) ws
set_means ws xs k v u f i = ⊎_elim past entry (le_or_lt entry_count i)
  where
    past : entry_count ≤ i → member i ws ≡ (ltb i entry_count && in_set xs k i)
    past h = unused ws v.has_word_count u i h ∙ sym (ap (λ (b : Bool). b && in_set xs k i) (le-ltb i entry_count h))

    entry : i < entry_count → member i ws ≡ (ltb i entry_count && in_set xs k i)
    entry h =
        sym (f (get_or variation_entries i 0) ∙ runs_cover (λ (i : ℕ). member i ws) 0 variation_entries entries_up i
        (subst (λ (n : ℕ). i < n) (sym count_is) h) ∙ ap (λ (n : ℕ). member n ws) (omega arith))
        ∙ sym (ap (λ (b : Bool). b && in_set xs k i) (lt-ltb i entry_count h))

pub record Back (p : Policy) : Type 0 where
  pub xs : List Piece
  pub sheet : Sheet (write_sheet p) xs
  pub rises : Rising xs
  pub entries : AllEntries xs
  pub means : Means xs p

pub back : (p : Policy) → PolicyValue p → no_unused_bits p ≡ true → Back p
unfolding write_sheet line_text no_unused_bits
back p v u =
    let a = p.prefer_bare.chars.bits in
    let b = p.prefer_bare.keycap_chars.bits in
    let c = p.bare_as_text.chars.bits in
    let d = p.bare_as_text.keycap_chars.bits in
    let halves = both_true (no_unused_bit a && no_unused_bit b) (no_unused_bit c && no_unused_bit d) u in
    let ab = both_true (no_unused_bit a) (no_unused_bit b) halves.0 in
    let cd = both_true (no_unused_bit c) (no_unused_bit d) halves.1 in
    record {
      xs = sheet_pieces a b c d;
      sheet = sheet_of a b c d;
      rises = sheet_rises a b c d;
      entries = sheet_entries a b c d;
      means = record {
        value = v;
        prefer_bare_set = set_means a (sheet_pieces a b c d) 0 v.prefer_bare_set ab.0 (λ x. sheet_covers a b c d 0 x ∙ simp or_false);
        prefer_bare_keycap_set = set_means b (sheet_pieces a b c d) 1 v.prefer_bare_keycap_set ab.1 (λ x. sheet_covers a b c d 1 x
            ∙ simp or_false);
        bare_as_text_set = set_means c (sheet_pieces a b c d) 2 v.bare_as_text_set cd.0 (λ x. sheet_covers a b c d 2 x ∙ simp or_false);
        bare_as_text_keycap_set = set_means d (sheet_pieces a b c d) 3 v.bare_as_text_keycap_set cd.1 (λ x. sheet_covers a b c d 3 x);
      };
    }
