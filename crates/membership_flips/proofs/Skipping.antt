-- Characters without a variation entry are skipped: what occurs in the text does not depend on them.
use Rattle.std.specs.Prelude.{Some, None, Option}
use mathlib.Core.Path.{◌≡◌, refl, ap, sym, ◌∙◌}
use mathlib.Core.Bool.{true≢false}
use mathlib.Core.List.{List}
use Prim.Native.Nat.{ℕ, ◌+◌, ◌<◌, ◌≤◌}
use lib.ListN.{drop, get_or, length}
use Rattle.utf8.specs.Rfc3629.{chars}
use Rattle.ascii_runs.proofs.AsciiRuns.{read_char_ascii_at}
use Rattle.utf8.proofs.Places.{Step, step}
use Rattle.emoji.specs.UnicodeData.{variation_entries}
use Rattle.emoji.specs.Unicode.{variation_sequence_index}
use Rattle.emoji.proofs.Ascent.{is_at}
use Rattle.policy_key_set.proofs.Contains.{has_index}
use Rattle.scanner.specs.Classes.{class_of}
use Rattle.scanner.specs.declared.char_class.Class.TheVariants.{Other as other}
use Rattle.analysis.specs.Cells.{cells}
use Rattle.text_pass.proofs.PlainText.{other_plain}
use Rattle.text_pass.proofs.Staying.{advances_here, advances_on, step_advances}
use Rattle.membership_flips.specs.Pass.{NoEntryBetween}
use Rattle.membership_flips.specs.Uses.{occurs}
use Rattle.membership_flips.proofs.Flagging.{occurs_plain}

module _ {text : List ℕ} where
  pub none_here : (i : ℕ) → NoEntryBetween text i i
  none_here i = record { advances = advances_here i; same = λ j h k f. refl }

  pub none-on : {i j k : ℕ} → NoEntryBetween text i j → NoEntryBetween text j k → NoEntryBetween text i k
  none-on a b = record {
    advances = advances_on a.advances b.advances;
    same = λ j h k f. a.same j h k f ∙ b.same j h k f;
  }

  none-char : {at v w : ℕ} → Step text at v w → variation_sequence_index v ≡ None → NoEntryBetween text at (at + w)
  none-char {at} {v} {w} s e = record {
    advances = step_advances s;
    same = λ j h k f.
        ap (λ (t : List ℕ). occurs (get_or variation_entries j 0) k (cells t) f) s.chars_on
        ∙ occurs_plain v (chars (drop (at + w) text)) e j h k f;
  }

  -- A character of the class other has no variation entry.
  pub none_other : {at v w : ℕ} → Step text at v w → class_of v ≡ other → NoEntryBetween text at (at + w)
  unfolding is_at
  none_other {at} {v} {w} s e = go (variation_sequence_index v) refl
    where
      go : (r : Option ℕ) → variation_sequence_index v ≡ r → NoEntryBetween text at (at + w)
      go (Some i) f = absurd (true≢false (sym (has_index v ∙ ap is_at f) ∙ (other_plain v e).no_entry))
      go None f = none-char s f

  pub none_ascii : (at : ℕ) → at < length text → get_or text at 0 ≤ 0x7F → class_of (get_or text at 0) ≡ other
      → NoEntryBetween text at (at + 1)
  none_ascii at l h e = none_other (step text at (get_or text at 0) 1 (read_char_ascii_at text at l h)) e
