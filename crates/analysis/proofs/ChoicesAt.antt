-- The cells, the unit and the first choice at an offset of a slice, as the code reads them. A unit ends where the next link begins.
use Rattle.std.specs.Prelude.{Some, None}
use mathlib.Core.Path.{◌≡◌, refl, ap, ap₂, sym, ◌∙◌}
use mathlib.Core.Bool.{Bool, true, false, cond, not, true≢false}
use mathlib.Core.List.{List, [], ◌∷◌, ◌++◌, map}
use Prim.Native.Nat.{ℕ, ◌+◌, ◌*◌}
use native.Mathlib.Omega.{arith}
use types.Run.{OneOf, miss}
use denote.Enum.Declared.{tag_of}
use lib.Dec.{eqb}
use lib.ListN.{drop, length}
use Rattle.utf8.specs.Rfc3629.{chars}
use Rattle.emoji.specs.Presentation.{as_selector, is_selector}
use Rattle.emoji.specs.declared.presentation.Presentation.{Presentation}
use Rattle.emoji.specs.declared.presentation.Presentation.TheVariants.{Emoji, Text}
use Rattle.policy.specs.declared.Policy.{Policy}
use Rattle.scanner.specs.RunKinds.{run_of}
use Rattle.scanner.specs.Runs.{run}
use Rattle.scanner.specs.Spans.{size, width}
use Rattle.scanner.specs.declared.char_class.Class.{Class}
use Rattle.scanner.specs.declared.char_runs.RunKind.TheVariants.{Selectors}
use Rattle.scanner.proofs.ClassTests.{run_selectors}
use Rattle.scanner.proofs.Peek.{Seen, Unseen}
use Rattle.scanner.proofs.Runs.{run_true}
use Rattle.scanner.proofs.SelectorChars.{CharIs, a_selector, char_is, no_selector, width_selector}
use Rattle.analysis.specs.Analysis.{following, up_to_link}
use Rattle.analysis.specs.Cells.{Cell, cells, leading, split, unsplit}
use Rattle.analysis.specs.ChoicesAt.{
  add_choice_at,
  cells_length,
  cells_from,
  cells_start,
  choice_at,
  choices_from,
  first_choice,
  front_unit,
}
use Rattle.analysis.specs.Rules.{Outcome, Slot, bare, decided, fixed, outcome}
use Rattle.analysis.specs.declared.types.ReplacementChoice.{ReplacementChoice}
use Rattle.analysis.proofs.Cells.{by-chars, split-char, split_selector}
use Rattle.analysis.proofs.CellsAt.{selectors_end, split_at}
use Rattle.analysis.specs.contracts.singleton.Slot.{the_type as the-slot}

-- The bytes of selectors and of the characters after them.
pub selectors_bytes : (qs : List Presentation) (t : List ℕ) → size width (map as_selector qs ++ t) ≡ 3 * length qs + size width t
selectors_bytes [] t = omega arith
selectors_bytes (q ∷ qs) t = omega (arith, width_selector q, selectors_bytes qs t)

-- ---- the characters up to a link

abbrev pub off_link : ℕ → Bool
off_link c = not (eqb c 0x200D)

selector_off : (q : Presentation) → off_link (as_selector q) ≡ true
unfolding as_selector
selector_off Text = refl
selector_off Emoji = refl

-- The leading selectors, and the cells up to the next link, are the characters up to that link.
pub up_to_link_lem : (t : List ℕ) → map as_selector (leading t) ++ unsplit (up_to_link (cells t)) ≡ run off_link t
unfolding split up_to_link run
up_to_link_lem = by-chars P refl sel char
  where
    P : List ℕ → Type 0
    P t = map as_selector (leading t) ++ unsplit (up_to_link (cells t)) ≡ run off_link t

    sel : (q : Presentation) (t : List ℕ) → P t → P (as_selector q ∷ t)
    sel q t h =
        ap (λ (a : List Presentation × List Cell). map as_selector a.0 ++ unsplit (up_to_link a.1)) (split_selector q t)
        ∙ ap (λ (l : List ℕ). as_selector q ∷ l) h ∙ sym (run_true off_link (as_selector q) t (selector_off q))

    char : (c : ℕ) (t : List ℕ) → is_selector c ≡ false → P t → P (c ∷ t)
    char c t e h =
        ap (λ (a : List Presentation × List Cell). map as_selector a.0 ++ unsplit (up_to_link a.1)) (split-char c t e)
        ∙ go (eqb c 0x200D)
      where
        go : (b : Bool) → unsplit (cond b [] (record { char = c; after = leading t } ∷ up_to_link (cells t)))
            ≡ cond (not b) (c ∷ run off_link t) []
        go true = refl
        go false = ap (λ (l : List ℕ). c ∷ l) h

-- The end of the cells at an offset up to the next link.
pub link_end : (raw : List ℕ) (at : ℕ) → at + size width (run off_link (chars (drop at raw)))
    ≡ cells_start raw at + cells_length (up_to_link (cells_from raw at))
link_end raw at =
    let t = chars (drop at raw) in
    omega (arith, ap (size width) (up_to_link_lem t), selectors_bytes (leading t) (unsplit (up_to_link (cells t))))

-- ---- the cells at an offset

module _ (raw : List ℕ) (at : ℕ) where
  -- After the leading selectors the cells are the same, and no selector leads them.
  pub cells-after : split (chars (drop (cells_start raw at) raw)) ≡ ([], cells_from raw at)
  cells-after = split_at raw at refl

  cells-none : Unseen raw at → split (chars (drop at raw)) ≡ ([], [])
  unfolding split
  cells-none h = ap split h.chars_none

  module _ {v : ℕ} {k : Class} {next : ℕ} (h : Seen raw at v k next) where
    cells-char : is_selector v ≡ false → split (chars (drop at raw))
        ≡ ([], record { char = v; after = leading (chars (drop next raw)) } ∷ cells_from raw next)
    cells-char e = ap split h.chars_on ∙ split-char v (chars (drop next raw)) e

    -- At a selector, the cells are those from the offset after it on.
    cells_selector : is_selector v ≡ true → (cells_start raw at ≡ cells_start raw next) × (cells_from raw at ≡ cells_from raw next)
    cells_selector e = go (char_is v)
      where
        go : CharIs v → (cells_start raw at ≡ cells_start raw next) × (cells_from raw at ≡ cells_from raw next)
        go (no_selector f) = absurd (true≢false (sym e ∙ f))
        go (a_selector q f) =
            let u = chars (drop next raw) in
            let r : split (chars (drop at raw)) ≡ (q ∷ leading u, cells u) = ap split (h.chars_on ∙ ap (λ (x : ℕ). x ∷ u) f)
            ∙ split_selector q u in (
              omega (arith, h.after, ap (λ (a : List Presentation × List Cell). length a.0) r, ap width f, width_selector q),
              ap
                  (λ (a : List Presentation × List Cell). a.1) r,
            )

-- ---- the unit at an offset

-- The run of selectors at an offset ends where the first cell starts.
pub first_cell : (raw : List ℕ) (at : ℕ) → at + size width (run_of Selectors (chars (drop at raw))) ≡ cells_start raw at
first_cell raw at = ap (λ (l : List ℕ). at + size width l) (run_selectors (chars (drop at raw))) ∙ selectors_end raw at

-- The unit begins after the leading selectors. If no character begins there, there is no unit.
module _ (raw : List ℕ) (at start : ℕ) (s : start ≡ cells_start raw at) where
  starts : split (chars (drop start raw)) ≡ ([], cells_from raw at)
  starts = ap (λ (n : ℕ). split (chars (drop n raw))) s ∙ cells-after raw at

  pub unit_none : Unseen raw start → start ≡ cells_start raw at + cells_length (front_unit (cells_from raw at))
  unfolding front_unit
  unit_none h =
      let e : cells_from raw at ≡ [] = ap (λ (a : List Presentation × List Cell). a.1) (sym starts ∙ cells-none raw start h) in
      omega (arith, ap (λ (l : List Cell). cells_length (front_unit l)) e)

  -- Otherwise the unit ends where the next link begins.
  pub unit_on : {v : ℕ} {k : Class} {next : ℕ} (end : ℕ) → Seen raw start v k next → end
      ≡ cells_start raw next + cells_length (up_to_link (cells_from raw next))
      → end ≡ cells_start raw at + cells_length (front_unit (cells_from raw at))
  unfolding front_unit
  unit_on {v} {next = next} end h e = go (char_is v)
    where
      go : CharIs v → end ≡ cells_start raw at + cells_length (front_unit (cells_from raw at))
      go (no_selector f) =
          let u = chars (drop next raw) in
          let r : cells_from raw at ≡ record { char = v; after = leading u } ∷ cells u = ap (λ (a : List Presentation × List Cell). a.1)
          (sym starts ∙ cells-char raw start h f) in
          omega (
            arith,
            h.after,
            ap (λ (l : List Cell). cells_length (front_unit l)) r,
            selectors_bytes (leading u)
                (unsplit (up_to_link (cells u))),
          )
      go (a_selector q f) =
          let u = chars (drop next raw) in
          absurd (omega (
            arith,
            ap (λ (a : List Presentation × List Cell). length a.0)
                (sym starts ∙ ap split (h.chars_on ∙ ap (λ (x : ℕ). x ∷ u) f) ∙ split_selector q u),
          ))

-- ---- the first choice at an offset

-- A slot that takes no decision.
abbrev pub Undecided : Slot → Type 0
Undecided s = (c : Presentation → ReplacementChoice) (l : List ReplacementChoice) → add_choice_at s c l ≡ l

-- A slot that is bare or fixed takes no decision.
pub undecided : (s : Slot) → OneOf (0 ∷ 1 ∷ []) (tag_of the-slot s) → Undecided s
undecided bare o c l = refl
undecided (fixed q) o c l = refl
undecided (decided d) o c l = absurd (miss (0 ∷ 1 ∷ []) 2 tt o)

module _ (p : Policy) (raw : List ℕ) (at : ℕ) where
  pub choice_none : Unseen raw at → None ≡ choice_at p raw at
  unfolding choice_at choices_from first_choice
  choice_none h = sym (ap (λ (a : List Presentation × List Cell). first_choice (choices_from p (at + 3 * length a.0) a.1))
      (cells-none raw at h))

  module _ {v : ℕ} {k : Class} {next : ℕ} (h : Seen raw at v k next) where
    pub choice-selector : is_selector v ≡ true → choice_at p raw at ≡ choice_at p raw next
    unfolding choice_at
    choice-selector e = let r = cells_selector raw at h e in ap₂ (λ (n : ℕ) (l : List Cell). first_choice (choices_from p n l)) r.0 r.1

    -- A cell as the code reads it: the result of the rules for it, and its end.
    module _ (e : is_selector v ≡ false) (o : Outcome) (end : ℕ)
        (ho : o ≡ outcome p v (following (cells_from raw next)) (leading (chars (drop next raw)))) (he : end ≡ cells_start raw next) where
      after : (cells_start raw end ≡ end) × (cells_from raw end ≡ cells_from raw next)
      after =
          let r : split (chars (drop end raw)) ≡ ([], cells_from raw next) = ap (λ (n : ℕ). split (chars (drop n raw))) he
          ∙ cells-after raw next in
          (omega (arith, ap (λ (a : List Presentation × List Cell). length a.0) r), ap (λ (a : List Presentation × List Cell). a.1) r)

      -- The cell's own choice.
      abbrev own : Presentation → ReplacementChoice
      own d = record { start = at; end = end + cells_length (up_to_link (cells_from raw next)); next = end; default = d }

      -- The choices from the cell on: its own, if its slot takes a decision, and those from its end on.
      from_cell : choice_at p raw at ≡ first_choice (add_choice_at o.slot own (choices_from p (cells_start raw end) (cells_from raw end)))
      unfolding choice_at choices_from front_unit
      from_cell =
          let u = chars (drop next raw) in
          let x : Cell = record { char = v; after = leading u } in
          let b : at + 3 * 0 ≡ at = omega arith in
          let n : at + 3 * 0 + cells_length (x ∷ []) ≡ end = omega (arith, h.after, he, selectors_bytes (leading u) []) in
          let m : at + 3 * 0 + cells_length (x ∷ up_to_link (cells u)) ≡ end + cells_length (up_to_link (cells u)) =
          omega (arith, h.after, he, selectors_bytes (leading u) (unsplit (up_to_link (cells u)))) in
          let z : at + 3 * 0 + cells_length (x ∷ []) ≡ cells_start raw end = omega (arith, n, after.0) in
          let g : outcome p v (following (cells u)) (leading u) ≡ o = sym ho in
          let y : cells u ≡ cells_from raw end = sym after.1 in
          ap (λ (a : List Presentation × List Cell). first_choice (choices_from p (at + 3 * length a.0) a.1)) (cells-char raw at h e)
          ∙ (λ i. first_choice (add_choice_at (g i).slot (λ (d : Presentation). record { start = b i; end = m i; next = n i; default = d })
          (choices_from p (z i) (y i))))

      -- If the cell's slot takes no decision, the first choice is the first one from the cell's end on.
      pub choice-passed : Undecided o.slot → choice_at p raw at ≡ choice_at p raw end
      unfolding choice_at
      choice-passed q = from_cell ∙ ap first_choice (q own (choices_from p (cells_start raw end) (cells_from raw end)))

      -- If the cell's slot takes a decision, the cell is the first choice, and its unit ends where the next link begins.
      pub choice-found : (d : Presentation) (last : ℕ) → o.slot ≡ decided d → last
          ≡ cells_start raw end + cells_length (up_to_link (cells_from raw end))
          → Some (record { start = at; end = last; next = end; default = d }) ≡ choice_at p raw at
      unfolding first_choice
      choice-found d last q f =
          let m : last ≡ end + cells_length (up_to_link (cells_from raw next)) =
          omega (arith, after.0, ap (λ (l : List Cell). cells_length (up_to_link l)) after.1) in
          ap (λ (n : ℕ). Some (record { start = at; end = n; next = end; default = d })) m
          ∙ sym (from_cell ∙ ap (λ (s : Slot). first_choice
          (add_choice_at s own (choices_from p (cells_start raw end) (cells_from raw end)))) q)
