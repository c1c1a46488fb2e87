-- Formatting: the formatted text, and the whole outcome of the call, `format` (document 01, "Replacement and text", `format_text`).
use Rattle.std.specs.Prelude.{Bool, true, false, cond, ◌&&◌, List, [], ◌∷◌, ◌++◌, ℕ, eqb, leb, length, Ok, Err, Some, None, Result, Option}
use Rattle.utf8.specs.Rfc3629.{chars, encode_all}
use Rattle.policy.specs.declared.Policy.{Policy}
use Rattle.policy.specs.PolicyBytes.{policy_of}
use Rattle.scanner.specs.Items.{Item, items}
use Rattle.analysis.specs.Analysis.{default_replacement, is_finding}
use Rattle.base.specs.Refusals.{After, unwritten, or_else, written}
use Rattle.formatter.specs.Intake.{intake_refusal}
use Rattle.base.specs.declared.Refusal.{Refusal}
use Rattle.base.specs.declared.Refusal.TheVariants.{OutputTooShort}

-- The characters of the formatted items: each finding is written as its replacement under default decisions, any other item as it is.
unfoldable pub format_items : Policy → List Item → List ℕ
format_items p [] = []
format_items p (x ∷ xs) = cond (is_finding p x) (default_replacement p x) x.chars ++ format_items p xs

-- The formatted text, by the bytes of a text and of a policy.
unfoldable pub formatted : List ℕ → List ℕ → List ℕ
formatted text policy = encode_all (format_items (policy_of policy) (items (chars text)))

-- Whether two texts have the same bytes.
unfoldable pub same_bytes : List ℕ → List ℕ → Bool
same_bytes [] [] = true
same_bytes [] (b ∷ t) = false
same_bytes (a ∷ s) [] = false
same_bytes (a ∷ s) (b ∷ t) = eqb a b && same_bytes s t

-- The outcome of the call, with refusals 1, 2, 3 and 8 in this order. "Formatting a text that needs no change says so, writes nothing and
-- never gives 8."
unfoldable pub format : List ℕ → List ℕ → List ℕ → After (Result (Option ℕ) Refusal) ℕ
format text policy out =
    let result = formatted text policy in
    or_else (intake_refusal text policy) (λ (r : Refusal). unwritten (Err r) out)
    (cond (same_bytes result text) (unwritten (Ok None) out)
    (cond (leb (length result) (length out)) (written (Ok (Some (length result))) result out)
    (unwritten (Err (OutputTooShort (length result))) out)))
