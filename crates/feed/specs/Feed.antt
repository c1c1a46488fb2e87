-- What a feed does with characters (document 02, iii). A feed takes one character after the other. It holds the last base that has a
-- variation entry, with its selectors, until the next character that is no selector. Then the rules settle which selector the base gets.
-- The characters that were taken are formatted as a whole: specs/Theorems.antt, EveryFeed.
use Rattle.std.specs.Prelude.{Bool, true, false, cond, List, [], ◌∷◌, ◌++◌, map, ℕ, suc, ◌+◌, ◌*◌, length, Some, None, Option}
use Rattle.emoji.specs.Presentation.{as_selector, from_selector, is_selector}
use Rattle.emoji.specs.Unicode.{has_variation_sequence}
use Rattle.emoji.specs.declared.presentation.Presentation.{Presentation}
use Rattle.policy.specs.declared.Policy.{Policy}
use Rattle.scanner.specs.Classes.{class_of}
use Rattle.scanner.specs.declared.char_class.Class.{Class}
use Rattle.analysis.specs.Analysis.{chosen, following}
use Rattle.analysis.specs.Cells.{cells, leading}
use Rattle.analysis.specs.Counts.{◌⊕◌, empty, unsanctioned}
use Rattle.analysis.specs.Rules.{outcome, run_with}
use Rattle.analysis.specs.declared.singleton.Outcome.{Outcome}
use Rattle.analysis.specs.declared.types.NonCanonicality.{NonCanonicality}

-- "A piece of n bytes that no other test refuses is taken if the output holds 4n + 16 bytes"
abbrev pub piece_room : ℕ → ℕ
piece_room n = 4 * n + 16

-- ---- formatting in which each base has its policy

-- A character, and the policy that judges it: the one in force when its last byte was fed.
pub record Fed : Type 0 where
  pub char : ℕ
  pub policy : Policy

abbrev pub chars_of : List Fed → List ℕ
chars_of xs = map (λ (x : Fed). x.char) xs

-- Characters under one policy.
abbrev pub fed_as : Policy → List ℕ → List Fed
fed_as p cs = map (λ (c : ℕ). record { char = c; policy = p }) cs

-- What the rules give for a character, under its own policy, where the characters xs follow it.
abbrev pub judged : Fed → List Fed → Outcome
judged x xs = outcome x.policy x.char (following (cells (chars_of xs))) (leading (chars_of xs))

-- A character, the selector that the rules give it, and the text after it.
abbrev pub cell_before : Fed → List Fed → List ℕ → List ℕ
cell_before x xs later = x.char ∷ (map as_selector (chosen (judged x xs).slot []) ++ later)

-- The formatted text of characters. Under one policy this is `format_cells` of crate analysis (proofs/OneCall.antt).
unfoldable pub format_fed : List Fed → List ℕ
format_fed [] = []
format_fed (x ∷ xs) = cond (is_selector x.char) (format_fed xs) (cell_before x xs (format_fed xs))

unfoldable pub count_fed : List Fed → NonCanonicality
count_fed [] = empty
count_fed (x ∷ xs) = cond (is_selector x.char) (count_fed xs) ((judged x xs).counts ⊕ count_fed xs)

-- The eight totals of characters. Selectors before any other character are unsanctioned.
unfoldable pub total_fed : List Fed → NonCanonicality
total_fed xs = unsanctioned (length (leading (chars_of xs))) ⊕ count_fed xs

-- ---- one character after the other

-- The held base: "a last base that has a variation entry, with its selectors". "Of the text it remembers only these: the base, its first
-- selector, how many followed". The number is that of all its selectors. The policy is the one that judges the base.
pub data Pending : Type 0 where
  nothing : Pending
  base : Policy → ℕ → Option Presentation → ℕ → Pending

-- What is written and counted.
pub record Effect : Type 0 where
  pub text : List ℕ
  pub counts : NonCanonicality

abbrev pub no_effect : Effect
no_effect = record { text = []; counts = empty }

abbrev pub join_effects : Effect → Effect → Effect
join_effects a b = record { text = a.text ++ b.text; counts = a.counts ⊕ b.counts }

-- The held base is settled before a character of the given class: it is written with the selector that the rules give it.
unfoldable pub settle : Pending → Class → Effect
settle nothing k = no_effect
settle (base p c f n) k =
    let o = outcome p c k (run_with f n) in
    record { text = c ∷ map as_selector (chosen o.slot []); counts = o.counts }

-- What is held after a character that is no selector. The Boolean says whether it has a variation entry.
abbrev pub held_after_of : Policy → ℕ → Bool → Pending
held_after_of p c true = base p c None 0
held_after_of p c false = nothing

-- What is written of this character at once.
abbrev pub written_alone : ℕ → Bool → List ℕ
written_alone c true = []
written_alone c false = c ∷ []

-- The first selector of a base when one more follows.
abbrev pub first_of : Option Presentation → Presentation → Option Presentation
first_of None q = Some q
first_of (Some r) q = Some r

-- A selector belongs to the held base. If nothing is held, it is unsanctioned and not written.
unfoldable pub take_selector : Pending → Presentation → Pending × Effect
take_selector nothing q = (nothing, record { text = []; counts = unsanctioned 1 })
take_selector (base p c f n) q = (base p c (first_of f q) (suc n), no_effect)

-- Any other character settles the held base. Then it is held or written.
unfoldable pub take_char : Policy → Pending → ℕ → Option Presentation → Pending × Effect
take_char p s c (Some q) = take_selector s q
take_char p s c None = (
  held_after_of p c (has_variation_sequence c),
  record {
    text = (settle s (class_of c)).text ++ written_alone c (has_variation_sequence c);
    counts = (settle s (class_of c)).counts;
  },
)

unfoldable pub take_chars : Pending → List Fed → Pending × Effect
take_chars s [] = (s, no_effect)
take_chars s (x ∷ xs) =
    let r = take_char x.policy s x.char (from_selector x.char) in
    let q = take_chars r.0 xs in
    (q.0, join_effects r.1 q.1)
