-- A list of parts: the later parts joined begin as a second part does, so one cut after the other joins the results.
use mathlib.Core.Path.{◌≡◌, ap, sym, ◌∙◌}
use mathlib.Core.List.{List, ◌∷◌, ◌++◌, append-nil}
use Prim.Native.Nat.{ℕ}
use Rattle.utf8.specs.Rfc3629.{WellFormed, chars}
use Rattle.analysis.specs.Counts.{◌⊕◌}
use Rattle.analysis.specs.declared.types.NonCanonicality.{NonCanonicality}
use Rattle.analysis.proofs.Counts.{plus-empty}
use Rattle.formatter.specs.Findings.{text_totals}
use Rattle.formatter.specs.Format.{formatted}
use Rattle.cutting.specs.Theorems.{
  BeginsPart,
  LaterParts,
  and_part,
  begins,
  is_empty_lem,
  joined,
  joined_formatted,
  no_more,
  summed_totals,
}
use Rattle.cutting.proofs.Cutting.{chars_append, joins}

joined_begins : {bs : List (List ℕ)} → LaterParts bs → BeginsPart (joined bs)
unfolding joined
joined_begins no_more = is_empty_lem
joined_begins (and_part {bs = bs} w is_empty_lem h) = joined_begins h
joined_begins (and_part {b = b} {bs = bs} w (begins {c} {t} e k) h) =
    begins {c = c} {t = t ++ chars (joined bs)} (chars_append b (joined bs) w ∙ ap (λ (l : List ℕ). l ++ chars (joined bs)) e) k

pub join-list : (policy a : List ℕ) {bs : List (List ℕ)} → WellFormed a → LaterParts bs
    → (formatted (joined (a ∷ bs)) policy ≡ joined_formatted policy (a ∷ bs))
    × (text_totals (joined (a ∷ bs)) policy ≡ summed_totals policy (a ∷ bs))
unfolding joined joined_formatted summed_totals
join-list policy a w no_more = (
  ap (λ (s : List ℕ). formatted s policy) (append-nil a) ∙ sym (append-nil (formatted a policy)),
  ap (λ (s : List ℕ). text_totals s policy) (append-nil a) ∙ sym (plus-empty (text_totals a policy)),
)
join-list policy a w (and_part {b = b} {bs = bs} v k h) =
    let j = joins policy a (joined (b ∷ bs)) w (joined_begins (and_part v k h)) in
    let r = join-list policy b v h in (
      j.text ∙ ap (λ (s : List ℕ). formatted a policy ++ s) r.0,
      j.totals ∙ ap (λ (n : NonCanonicality). text_totals a policy ⊕ n) r.1,
    )
