-- The refusal of a text, by the results of its two tests.
use Rattle.std.specs.Prelude.{Some, None, Option}
use mathlib.Core.Path.{◌≡◌, ap, ◌∙◌}
use mathlib.Core.Bool.{Bool, cond, not}
use mathlib.Core.List.{List}
use Prim.Native.Nat.{ℕ}
use lib.Dec.{eqb, leb}
use lib.ListN.{length}
use Rattle.base.specs.Refusals.{text_limit}
use Rattle.base.specs.declared.Refusal.{Refusal}
use Rattle.base.specs.declared.Refusal.TheVariants.{NotWellFormed, TextTooLong}
use Rattle.utf8.specs.Rfc3629.{valid_up_to_of}
use Rattle.scanner.specs.TextCheck.{text_refusal}

-- The refusal, by the results of the two tests.
abbrev pub by_text_tests : Bool → Bool → List ℕ → Option Refusal
by_text_tests short formed text = cond (not short) (Some TextTooLong) (cond (not formed) (Some (NotWellFormed (valid_up_to_of text))) None)

pub text_is : (text : List ℕ) {a f : Bool} → leb (length text) text_limit ≡ a → eqb (valid_up_to_of text) (length text) ≡ f
    → text_refusal text
    ≡ by_text_tests a f text
unfolding text_refusal
text_is text {a} {f} p r =
    ap (λ (t : Bool). by_text_tests t (eqb (valid_up_to_of text) (length text)) text) p ∙ ap (λ (t : Bool). by_text_tests a t text) r
