-- Links and units one after the other: the counts, the replacement and the choices of their characters are those of the structure.
use mathlib.Core.Path.{◌≡◌, refl, ap, ap₂, sym, ◌∙◌, subst}
use mathlib.Core.Bool.{true, false, true≢false}
use mathlib.Core.Logic.{⊎_elim}
use mathlib.Core.List.{List, [], ◌∷◌, ◌++◌, append_assoc, map, Memᴰ}
use Prim.Native.Nat.{ℕ}
use native.Mathlib.Omega.{arith}
use lib.ListN.{length}
use Rattle.emoji.specs.Presentation.{as_selector, is_selector}
use Rattle.emoji.specs.Unicode.{has_variation_sequence, is_ri}
use Rattle.emoji.specs.declared.presentation.Presentation.{Presentation}
use Rattle.emoji.specs.declared.presentation.Presentation.TheVariants.{Emoji, Text}
use Rattle.policy.specs.declared.Policy.{Policy}
use Rattle.scanner.specs.Classes.{strip}
use Rattle.scanner.specs.declared.char_class.Class.{Class}
use Rattle.scanner.specs.Grammar.{Derives, Link, Modification, Modifications, S, Stem, a_link, flag, modified, single, unmodified}
use Rattle.scanner.specs.Structure.{
  EmojiLike,
  EmojiModification,
  EmojiSequence,
  EmojiStem,
  Flag,
  SingletonBase,
  ZwjJoinedEmoji,
  ZwjLink,
  emoji_headed,
  flatten,
  flatten_joined,
  flatten_link,
  flatten_links,
  flatten_modification,
  flatten_modifications,
  flatten_stem,
  flatten_unit,
  links_only,
  structure,
}
use Rattle.scanner.specs.Theorems.{StructureDerives, Structured, UnitDerives}
use Rattle.scanner.specs.declared.ScanKind.{ScanKind}
use Rattle.scanner.specs.declared.ScanKind.TheVariants.{EmojiHeaded, LinksOnly}
use Rattle.scanner.proofs.Classes.{emoji_no_selector, is_link, is_ri_lem, ri_emoji}
use Rattle.scanner.proofs.Modifications.{modifications_front, modifications_run}
use Rattle.scanner.proofs.Runs.{Stops, at_char}
use Rattle.scanner.proofs.Structure.{StructureRead, emoji_headed_read, links-only-read}
use Rattle.scanner.proofs.Units.{front-stops}
use Rattle.analysis.specs.Analysis.{
  add_choice,
  choices_of_cells,
  chosen,
  count_cells,
  decide,
  following,
  later_decisions,
  remaining,
  outcome_at,
  render,
  renew,
}
use Rattle.analysis.specs.Cells.{Cell, cells, leading, selector_count, split}
use Rattle.analysis.specs.Components.{
  Element,
  always,
  assemble,
  base_element,
  choices_in,
  elements,
  first_modification,
  joined_counts,
  joined_elements,
  link_counts,
  link_elements,
  option_of,
  sequence_counts,
  stem_counts,
  stem_element,
  unit_counts,
  unit_element,
}
use Rattle.analysis.specs.Counts.{◌⊕◌, empty, unsanctioned}
use Rattle.analysis.specs.Rules.{Slot, bare, decided, fixed, outcome}
use Rattle.analysis.specs.declared.types.NonCanonicality.{NonCanonicality}
use Rattle.analysis.proofs.Counts.{empty-plus, plus_assoc}
use Rattle.analysis.proofs.Cells.{chars_of, count-split, held_in, split_append, split-char, strip-split}
use Rattle.analysis.proofs.Structure.{AllMade, Made, StemRuns, all_made}
use Rattle.analysis.proofs.Units.{
  Ends,
  Entryless,
  cell_choices,
  cell-count,
  cell_render,
  ends_link,
  ends_none,
  leading-stops,
  modification_cells,
  no_entry,
  run_choices,
  run-count,
  run_render,
  split_S,
  split_base,
  unit_alone,
  unit_choices,
  unit_count,
  unit_render,
}

-- ---- the modifications of a unit

modifications_of_lem : (ms : List EmojiModification) → ((m : EmojiModification) → Memᴰ m ms → Modification (flatten_modification m))
    → Modifications (flatten_modifications ms)
unfolding flatten_modifications
modifications_of_lem [] h = unmodified
modifications_of_lem (m ∷ ms) h = modified (h m (Memᴰ.head refl)) (modifications_of_lem ms (λ n i. h n (Memᴰ.tail i)))

-- The characters m of modifications: no selector leads, and the character of no cell has a variation entry.
record Modifies (m : List ℕ) : Type 0 where
  leads : leading m ≡ []
  entryless : Entryless (cells m)

modifies : {m : List ℕ} → Modifications m → Modifies m
modifies d = record { leads = leading-stops (front-stops (modifications_front d)); entryless = modification_cells (modifications_run d) }

held-count : {m : List ℕ} → Modifies m → held_in (cells m) ≡ selector_count m
held-count {m} h = let a = count-split m in let b = ap length h.leads in omega arith

stem_no_selector : {v : List ℕ} → Stem v → Stops is_selector v
stem_no_selector (flag a b e s f t) = at_char (emoji_no_selector a (ri_emoji a e))
stem_no_selector (single {c = c} e s) = at_char (emoji_no_selector c e)

first_no_selector : {c : ℕ} {s : List ℕ} → Stops is_selector (c ∷ s) → is_selector c ≡ false
first_no_selector (at_char e) = e

-- What can stand after a unit: nothing, or a link.
data EndsText : List ℕ → Type 0 where
  text_end : EndsText []
  text_link : {t : List ℕ} → EndsText (0x200D ∷ t)

ends-cells : {r : List ℕ} → EndsText r → Ends (cells r)
unfolding split is_selector
ends-cells text_end = ends_none
ends-cells (text_link {t = t}) =
    subst (λ (a : List Presentation × List Cell). Ends a.1) (sym (split-char 0x200D t refl)) (ends_link refl)

-- A value that is the same for both links-only and emoji-headed items.
pub of_structured : {A : Type 0} {k : ScanKind} (f : ScanKind → A) (a : A) → Structured k → f LinksOnly ≡ a → f EmojiHeaded ≡ a → f k ≡ a
of_structured f a o l e = ⊎_elim (λ z. ap f z ∙ l) (λ z. ap f z ∙ e) o

module _ (p : Policy) where
  -- The characters t have the counts n, and es are the pieces of their replacement.
  pub record Says (t : List ℕ) (n : NonCanonicality) (es : List Element) : Type 0 where
    pub leads : leading t ≡ []
    pub counted : count_cells p (cells t) ≡ n
    pub written : (ds : List Presentation) → render p (cells t) ds ≡ assemble es ds
    pub chooses : choices_of_cells p (cells t) ≡ choices_in es

  says_end : Says [] empty []
  unfolding split count_cells render renew assemble choices_of_cells choices_in
  says_end = record { leads = refl; counted = refl; written = λ ds. refl; chooses = refl }

  -- ---- a link

  says_link : {s r : List ℕ} {n : NonCanonicality} {es : List Element} → S s → Says r n es
      → Says (0x200D ∷ (s ++ r)) (unsanctioned (length s) ⊕ n) (always (0x200D ∷ []) ∷ es)
  unfolding assemble choices_in is_selector
  says_link {s} {r} {n} {es} h i =
      let x : Cell = record { char = 0x200D; after = leading s } in
      let e : split (0x200D ∷ (s ++ r)) ≡ ([], x ∷ cells r) = split_base 0x200D r refl h i.leads in
      let f : has_variation_sequence 0x200D ≡ false = no_entry {c = 0x200D} (is_link refl) (λ z. true≢false (cc)) in
      record {
        leads = ap (λ (a : List Presentation × List Cell). a.0) e;
        counted = ap (λ (a : List Presentation × List Cell). count_cells p a.1) e ∙ cell-count p x (cells r) f
            ∙ ap₂ (λ (k : ℕ) (m : NonCanonicality). unsanctioned k ⊕ m) (split_S h).1 i.counted;
        written = λ ds. ap (λ (a : List Presentation × List Cell). render p a.1 ds) e ∙ cell_render p x (cells r) ds f
            ∙ ap (λ (l : List ℕ). 0x200D ∷ l) (i.written ds);
        chooses = ap (λ (a : List Presentation × List Cell). choices_of_cells p a.1) e ∙ cell_choices p x (cells r) f ∙ i.chooses;
      }

  -- ---- a single base

  base_written : (o : Slot) (c : ℕ) (m : List ℕ) (es : List Element) (ds : List Presentation)
      → c ∷ (map as_selector (chosen o ds) ++ (m ++ assemble es (remaining o ds))) ≡ assemble (base_element o c m ∷ es) ds
  unfolding assemble base_element
  base_written bare c m es ds = refl
  base_written (fixed q) c m es ds = refl
  base_written (decided d) c m es ds = by (decide d ds)
    where
      by : (q : Presentation) → c ∷ (as_selector q ∷ (m ++ assemble es (later_decisions ds)))
          ≡ option_of (record { default = d; text = c ∷ as_selector Text ∷ m; emoji = c ∷ as_selector Emoji ∷ m }) q
          ++ assemble es (later_decisions ds)
      by Text = refl
      by Emoji = refl

  base_chooses : (x : Cell) (ms : List Cell) (es : List Element) → Entryless ms → (o : Slot) → (outcome_at p x ms).slot ≡ o
      → add_choice p o (x ∷ ms) (choices_in es) ≡ choices_in (base_element o x.char (chars_of ms) ∷ es)
  unfolding choices_in base_element
  base_chooses x ms es h bare e = refl
  base_chooses x ms es h (fixed q) e = refl
  base_chooses x ms es h (decided d) e =
      let f : (q : Presentation) → render p (x ∷ ms) (q ∷ []) ≡ x.char ∷ as_selector q ∷ chars_of ms =
      λ q. unit_alone p x (q ∷ []) h ∙ ap (λ (o : Slot). x.char ∷ (map as_selector (chosen o (q ∷ [])) ++ chars_of ms)) e in
      λ i. record { default = d; text = f Text i; emoji = f Emoji i } ∷ choices_in es

  says_base : {s m r : List ℕ} {n : NonCanonicality} {es : List Element} (c : ℕ) → is_selector c ≡ false → S s → Modifies m → EndsText r
      → Says r n es
      → let o = outcome p c (following (cells m)) (leading s) in
      Says (c ∷ (s ++ (m ++ r))) (o.counts ⊕ unsanctioned (selector_count m) ⊕ n) (base_element o.slot c (strip m) ∷ es)
  says_base {s} {m} {r} {n} {es} c e h d w i =
      let x : Cell = record { char = c; after = leading s } in
      let a = split_append m r i.leads in
      let f : split (c ∷ (s ++ (m ++ r))) ≡ ([], x ∷ (cells m ++ cells r)) =
      split_base c (m ++ r) e h (ap (λ (b : List Presentation × List Cell). b.0) a ∙ d.leads)
      ∙ ap (λ (b : List Presentation × List Cell). ([], x ∷ b.1)) a in
      let o = outcome_at p x (cells m) in
      let g = ends-cells w in
      record {
        leads = ap (λ (b : List Presentation × List Cell). b.0) f;
        counted = ap (λ (b : List Presentation × List Cell). count_cells p b.1) f ∙ unit_count p x d.entryless g
            ∙ ap₂ (λ (k : ℕ) (l : NonCanonicality). o.counts ⊕ unsanctioned k ⊕ l) (held-count d) i.counted;
        written = λ ds. ap (λ (b : List Presentation × List Cell). render p b.1 ds) f ∙ unit_render p x ds d.entryless g
            ∙ ap₂ (λ (k l : List ℕ). c ∷ (map as_selector (chosen o.slot ds) ++ (k ++ l))) (sym (strip-split m))
            (i.written (remaining o.slot ds))
            ∙ base_written o.slot c (strip m) es ds;
        chooses = ap (λ (b : List Presentation × List Cell). choices_of_cells p b.1) f ∙ unit_choices p x d.entryless g
            ∙ ap (add_choice p o.slot (x ∷ cells m)) i.chooses ∙ base_chooses x (cells m) es d.entryless o.slot refl
            ∙ ap (λ (l : List ℕ). choices_in (base_element o.slot c l ∷ es)) (sym (strip-split m));
      }

  -- ---- a flag

  says_flag : {s t m r : List ℕ} {n : NonCanonicality} {es : List Element} (a b : ℕ) → is_ri a ≡ true → S s → is_ri b ≡ true → S t
      → Modifies m → Says r n es
      → Says (a ∷ (s ++ (b ∷ (t ++ (m ++ r))))) (unsanctioned (length s) ⊕
      (unsanctioned (length t) ⊕ (unsanctioned (selector_count m) ⊕ n)))
      (always (a ∷ b ∷ strip m) ∷ es)
  unfolding assemble choices_in
  says_flag {s} {t} {m} {r} {n} {es} a b e h f k d i =
      let x : Cell = record { char = a; after = leading s } in
      let y : Cell = record { char = b; after = leading t } in
      let c = split_append m r i.leads in
      let g : split (b ∷ (t ++ (m ++ r))) ≡ ([], y ∷ (cells m ++ cells r)) =
      split_base b (m ++ r) (emoji_no_selector b (ri_emoji b f)) k (ap (λ (w : List Presentation × List Cell). w.0) c ∙ d.leads)
      ∙ ap (λ (w : List Presentation × List Cell). ([], y ∷ w.1)) c in
      let j : split (a ∷ (s ++ (b ∷ (t ++ (m ++ r))))) ≡ ([], x ∷ y ∷ (cells m ++ cells r)) =
      split_base a (b ∷ (t ++ (m ++ r))) (emoji_no_selector a (ri_emoji a e)) h (ap (λ (w : List Presentation × List Cell). w.0) g)
      ∙ ap (λ (w : List Presentation × List Cell). ([], x ∷ w.1)) g in
      let u : has_variation_sequence a ≡ false = no_entry (is_ri_lem e) (λ z. true≢false (cc)) in
      let v : has_variation_sequence b ≡ false = no_entry (is_ri_lem f) (λ z. true≢false (cc)) in
      record {
        leads = ap (λ (w : List Presentation × List Cell). w.0) j;
        counted = ap (λ (w : List Presentation × List Cell). count_cells p w.1) j
            ∙ cell-count p x (y ∷ (cells m ++ cells r)) u
            ∙ ap₂ (λ (q : ℕ) (l : NonCanonicality). unsanctioned q ⊕ l) (split_S h).1
            (cell-count p y (cells m ++ cells r) v
            ∙ ap₂ (λ (q : ℕ) (l : NonCanonicality). unsanctioned q ⊕ l) (split_S k).1
            (run-count p (cells r) d.entryless ∙ ap₂ (λ (q : ℕ) (l : NonCanonicality). unsanctioned q ⊕ l) (held-count d) i.counted));
        written = λ ds. ap (λ (w : List Presentation × List Cell). render p w.1 ds) j
            ∙ cell_render p x (y ∷ (cells m ++ cells r)) ds u
            ∙ ap (λ (l : List ℕ). a ∷ l) (cell_render p y (cells m ++ cells r) ds v
            ∙ ap (λ (l : List ℕ). b ∷ l) (run_render p (cells r) ds d.entryless
            ∙ ap₂ (λ (l w : List ℕ). l ++ w) (sym (strip-split m)) (i.written ds)));
        chooses = ap (λ (w : List Presentation × List Cell). choices_of_cells p w.1) j
            ∙ cell_choices p x (y ∷ (cells m ++ cells r)) u ∙ cell_choices p y (cells m ++ cells r) v
            ∙ run_choices p (cells r) d.entryless ∙ i.chooses;
      }

  -- ---- units

  says_stem : {r : List ℕ} {n : NonCanonicality} {es : List Element} (st : EmojiStem) (ms : List EmojiModification)
      → Stem (flatten_stem st) → StemRuns st → Modifications (flatten_modifications ms) → following (cells (flatten_modifications ms))
      ≡ first_modification ms
      → EndsText r → Says r n es → Says ((flatten_stem st ++ flatten_modifications ms) ++ r) (stem_counts p st ms ⊕ n)
      (stem_element p st ms ∷ es)
  unfolding flatten_stem stem_counts stem_element
  says_stem {r} {n} {es} (SingletonBase c s) ms d runs k f w i =
      let m = flatten_modifications ms in
      let a : (c ∷ (s ++ (m ++ r))) ≡ ((c ∷ s) ++ m) ++ r = ap (λ (l : List ℕ). c ∷ l) (sym (append_assoc s m r)) in
      let b = says_base c (first_no_selector (stem_no_selector d)) runs (modifies k) w i in
      subst (λ (t : List ℕ). Says t (stem_counts p (SingletonBase c s) ms ⊕ n) (stem_element p (SingletonBase c s) ms ∷ es)) a
      (subst (λ (k : Class). let o = outcome p c k (leading s) in Says (c ∷ (s ++ (m ++ r)))
      (o.counts ⊕ unsanctioned (selector_count m) ⊕ n) (base_element o.slot c (strip m) ∷ es)) f b)
  says_stem {r} {n} {es} (Flag a s b t) ms d runs k f w i =
      let m = flatten_modifications ms in
      let c : (a ∷ (s ++ (b ∷ (t ++ (m ++ r))))) ≡ ((a ∷ (s ++ b ∷ t)) ++ m) ++ r =
      ap (λ (l : List ℕ). a ∷ l) (sym (append_assoc (s ++ b ∷ t) m r ∙ append_assoc s (b ∷ t) (m ++ r))) in
      let g = says_flag a b runs.0 runs.1 runs.2 runs.3 (modifies k) i in
      let q : unsanctioned (length s) ⊕ (unsanctioned (length t) ⊕ (unsanctioned (selector_count m) ⊕ n))
      ≡ unsanctioned (length s) ⊕ (unsanctioned (length t) ⊕ unsanctioned (selector_count m)) ⊕ n =
      ap (λ (l : NonCanonicality). unsanctioned (length s) ⊕ l)
      (sym (plus_assoc (unsanctioned (length t)) (unsanctioned (selector_count m)) n))
      ∙ sym (plus_assoc (unsanctioned (length s)) (unsanctioned (length t) ⊕ unsanctioned (selector_count m)) n) in
      subst (λ (v : List ℕ). Says v (unsanctioned (length s) ⊕ (unsanctioned (length t) ⊕ unsanctioned (selector_count m)) ⊕ n)
      (always (a ∷ b ∷ strip m) ∷ es)) c
      (subst (λ (l : NonCanonicality). Says (a ∷ (s ++ (b ∷ (t ++ (m ++ r))))) l (always (a ∷ b ∷ strip m) ∷ es)) q g)

  says_unit : {r : List ℕ} {n : NonCanonicality} {es : List Element} (u : EmojiLike) → UnitDerives u → Made u → EndsText r → Says r n es
      → Says (flatten_unit u ++ r) (unit_counts p u ⊕ n) (unit_element p u ∷ es)
  unfolding flatten_unit
  says_unit u d m w i = says_stem u.stem u.modifiers d.stem_derives m.runs
      (modifications_of_lem u.modifiers d.modifications_derive) m.first w i

  -- ---- links and further units

  link_S : {s : List ℕ} → Link (0x200D ∷ s) → S s
  link_S (a_link h) = h

  says_links : (ls : List ZwjLink) → ((l : ZwjLink) → Memᴰ l ls → Link (flatten_link l))
      → Says (flatten_links ls) (link_counts ls) (link_elements ls) × EndsText (flatten_links ls)
  unfolding flatten_links flatten_link link_counts link_elements
  says_links [] h = (says_end, text_end)
  says_links (l ∷ ls) h = (says_link (link_S (h l (Memᴰ.head refl))) (says_links ls (λ k i. h k (Memᴰ.tail i))).0, text_link)

  says_joined : (js : List ZwjJoinedEmoji) (ls : List ZwjLink)
      → ((j : ZwjJoinedEmoji) → Memᴰ j js → Link (flatten_link j.link) × UnitDerives j.emoji)
      → ((j : ZwjJoinedEmoji) → Memᴰ j js → Made j.emoji)
      → ((l : ZwjLink) → Memᴰ l ls → Link (flatten_link l))
      → Says (flatten_joined js ++ flatten_links ls) (joined_counts p js ⊕ link_counts ls) (joined_elements p js ++ link_elements ls)
      × EndsText (flatten_joined js ++ flatten_links ls)
  unfolding flatten_joined flatten_link joined_counts joined_elements
  says_joined [] ls d m h = let z = says_links ls
      h in (subst (λ (n : NonCanonicality). Says (flatten_links ls) n (link_elements ls)) (sym (empty-plus (link_counts ls))) z.0, z.1)
  says_joined (j ∷ js) ls d m h =
      let z = says_joined js ls (λ k i. d k (Memᴰ.tail i)) (λ k i. m k (Memᴰ.tail i)) h in
      let e = d j (Memᴰ.head refl) in
      let s = j.link.after in
      let v = flatten_unit j.emoji in
      let r = flatten_joined js in
      let l = flatten_links ls in
      let a : s ++ (v ++ (r ++ l)) ≡ (s ++ (v ++ r)) ++ l = ap (λ (t : List ℕ). s ++ t) (sym (append_assoc v r l))
      ∙ sym (append_assoc s (v ++ r) l) in
      let b = unsanctioned (length s) in
      let c = unit_counts p j.emoji in
      let n = joined_counts p js in
      let k = link_counts ls in
      let q : b ⊕ (c ⊕ (n ⊕ k)) ≡ b ⊕ (c ⊕ n) ⊕ k = ap (λ (t : NonCanonicality). b ⊕ t) (sym (plus_assoc c n k))
      ∙ sym (plus_assoc b (c ⊕ n) k) in
      let y = says_link (link_S e.0) (says_unit j.emoji e.1 (m j (Memᴰ.head refl)) z.1 z.0) in (
        subst (λ (t : List ℕ). Says (0x200D ∷ t) (b ⊕ (c ⊕ n) ⊕ k) (joined_elements p (j ∷ js) ++ link_elements ls)) a
            (subst (λ (t : NonCanonicality). Says (0x200D ∷ (s ++ (v ++ (r ++ l)))) t (joined_elements p (j ∷ js) ++ link_elements ls)) q
            y),
        text_link,
      )

  -- ---- structures

  pub says_sequence : (sq : EmojiSequence) → StructureDerives sq → AllMade sq → Says (flatten sq) (sequence_counts p sq) (elements p sq)
  unfolding StructureDerives flatten sequence_counts elements
  says_sequence (links_only ls) d m = (says_links ls d).0
  says_sequence (emoji_headed u js ls) d m = let z = says_joined js ls d.1 m.1 d.2 in says_unit u d.0 m.0 z.1 z.0

  -- ---- items

  -- The cells of a links-only or emoji-headed item.
  pub item_says : {k : ScanKind} {t : List ℕ} → Structured k → Derives k t
      → Says t (sequence_counts p (structure t)) (elements p (structure t))
  item_says {k} {t} o d =
      let r : StructureRead t = ⊎_elim (λ e. links-only-read (subst (λ (i : ScanKind). Derives i t) e d))
      (λ e. emoji_headed_read (subst (λ (i : ScanKind). Derives i t) e d)) o in
      subst (λ (s : List ℕ). Says s (sequence_counts p (structure t)) (elements p (structure t))) r.flat
      (says_sequence (structure t) r.derives (all_made t))
