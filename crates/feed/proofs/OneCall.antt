-- Under one policy a feed does what formatting the whole thread in one call does.
use mathlib.Core.Path.{◌≡◌, refl, ap, ap₂, sym, ◌∙◌, subst}
use mathlib.Core.Bool.{Bool, true, false, cond}
use mathlib.Core.List.{List, [], ◌∷◌, ◌++◌, append-nil, map}
use Prim.Native.Nat.{ℕ}
use lib.ListN.{length}
use Rattle.utf8.specs.Rfc3629.{chars, encode_all}
use Rattle.utf8.proofs.Texts.{chars-all_scalar, chars-encode_all}
use Rattle.utf8.proofs.Fronts.{read_char_nil}
use Rattle.utf8.proofs.Folds.{chars_end}
use Rattle.emoji.specs.Presentation.{as_selector}
use Rattle.emoji.specs.declared.presentation.Presentation.{Presentation}
use Rattle.policy.specs.PolicyBytes.{policy_of}
use Rattle.policy.specs.declared.Policy.{Policy}
use Rattle.scanner.specs.declared.char_class.Class.TheVariants.{Other as other}
use Rattle.scanner.proofs.SelectorChars.{selector_is}
use Rattle.analysis.specs.Analysis.{chosen, count_cells, following, render, renew}
use Rattle.analysis.specs.CellView.{format_cells, total_cells}
use Rattle.analysis.specs.Cells.{Cell, cells, leading, split}
use Rattle.analysis.specs.Counts.{◌⊕◌, unsanctioned}
use Rattle.analysis.specs.Rules.{outcome}
use Rattle.analysis.specs.declared.singleton.Outcome.{Outcome}
use Rattle.analysis.specs.declared.types.NonCanonicality.{NonCanonicality}
use Rattle.analysis.proofs.Cells.{by-chars, split-char, split_selector}
use Rattle.analysis.proofs.Replacement.{remaining-none, render_cons, renewed}
use Rattle.formatter.specs.Findings.{text_totals}
use Rattle.formatter.specs.Format.{formatted}
use Rattle.formatter.proofs.CellView.{cell_view}
use Rattle.feed.specs.Feed.{
  Fed,
  Pending,
  cell_before,
  chars_of,
  count_fed,
  fed_as,
  format_fed,
  judged,
  nothing,
  settle,
  take_chars,
  total_fed,
}
use Rattle.feed.specs.Calls.{
  Answer,
  Call,
  Feed,
  after,
  all_fed,
  answer,
  chars_taken,
  end,
  new_feed,
  next,
  outputs,
  piece,
  refused,
  totals_now,
  wrote,
}
use Rattle.feed.specs.Theorems.{HeldLast}
use Rattle.feed.proofs.Calls.{F, T, chars_of_append, chars_tagged, claimed}
use Rattle.feed.proofs.LastBase.{all_last}

abbrev P : Type 0
P = List Presentation × List Cell

module _ (p : Policy) where
  abbrev one : ℕ → Fed
  one c = record { char = c; policy = p }

  judged_tag : (c : ℕ) (t : List ℕ) → judged (one c) (fed_as p t) ≡ outcome p c (following (cells t)) (leading t)
  judged_tag c t = ap (λ (l : List ℕ). outcome p c (following (cells l)) (leading l)) (chars_tagged p t)

  pub format_tag : (t : List ℕ) → format_fed (fed_as p t) ≡ format_cells p t
  unfolding format_fed format_cells renewed render renew split
  format_tag =
      by-chars (λ t. format_fed (fed_as p t) ≡ render p (cells t) []) refl
      (λ q t h. ap (λ (b : Bool). cond b (format_fed (fed_as p t))
      (cell_before (one (as_selector q)) (fed_as p t) (format_fed (fed_as p t))))
      (selector_is q) ∙ h
      ∙ sym (ap (λ (a : P). render p a.1 []) (split_selector q t)))
      (λ c t e h. ap (λ (b : Bool). cond b (format_fed (fed_as p t)) (cell_before (one c) (fed_as p t) (format_fed (fed_as p t)))) e
      ∙ ap₂ (λ (o : Outcome) (l : List ℕ). c ∷ (map as_selector (chosen o.slot []) ++ l)) (judged_tag c t) h
      ∙ ap (λ (ds : List Presentation). c ∷
      (map as_selector (chosen (outcome p c (following (cells t)) (leading t)).slot []) ++ render p (cells t) ds))
      (sym (remaining-none (outcome p c (following (cells t)) (leading t)).slot))
      ∙ sym (render_cons p c t [] e))

  count_tag : (t : List ℕ) → count_fed (fed_as p t) ≡ count_cells p (cells t)
  unfolding count_fed count_cells split
  count_tag =
      by-chars (λ t. count_fed (fed_as p t) ≡ count_cells p (cells t)) refl
      (λ q t h. ap (λ (b : Bool). cond b (count_fed (fed_as p t))
      ((judged (one (as_selector q)) (fed_as p t)).counts ⊕ count_fed (fed_as p t)))
      (selector_is q) ∙ h
      ∙ sym (ap (λ (a : P). count_cells p a.1) (split_selector q t)))
      (λ c t e h. ap (λ (b : Bool). cond b (count_fed (fed_as p t)) ((judged (one c) (fed_as p t)).counts ⊕ count_fed (fed_as p t))) e
      ∙ ap₂ (λ (o : Outcome) (m : NonCanonicality). o.counts ⊕ m) (judged_tag c t) h
      ∙ sym (ap (λ (a : P). count_cells p a.1) (split-char c t e)))

  pub total_tag : (t : List ℕ) → total_fed (fed_as p t) ≡ total_cells p t
  unfolding total_fed total_cells
  total_tag t = ap₂ (λ (l : List ℕ) (n : NonCanonicality). unsanctioned (length (leading l)) ⊕ n) (chars_tagged p t) (count_tag t)

  -- All characters of the thread have one policy.
  tag_append : (a b : List ℕ) → fed_as p a ++ fed_as p b ≡ fed_as p (a ++ b)
  tag_append [] b = refl
  tag_append (c ∷ a) b = ap (λ (l : List Fed). one c ∷ l) (tag_append a b)

  two : (xs ys : List Fed) → xs ≡ fed_as p (chars_of xs) → ys ≡ fed_as p (chars_of ys) → xs ++ ys ≡ fed_as p (chars_of (xs ++ ys))
  two xs ys e g = ap₂ (λ (k l : List Fed). k ++ l) e g ∙ tag_append (chars_of xs) (chars_of ys)
      ∙ ap (fed_as p) (sym (chars_of_append xs ys))

  fed_tag : (f : Feed) → f.policy ≡ p → (c : Call) (a : Answer) → chars_taken f c a ≡ fed_as p (chars_of (chars_taken f c a))
  fed_tag f e (piece b out) (wrote o) =
      ap (λ (q : Policy). fed_as q (chars (f.rest ++ b))) e ∙ ap (fed_as p) (sym (chars_tagged f.policy (chars (f.rest ++ b))))
  fed_tag f e (piece b out) (refused r) = refl
  fed_tag f e (end out) a = refl

  pub keeps-policy : (f : Feed) → f.policy ≡ p → (c : Call) (a : Answer) → (after f c a).policy ≡ p
  keeps-policy f e (piece b out) (wrote o) = e
  keeps-policy f e (end out) (wrote o) = e
  keeps-policy f e c (refused r) = e

  all_tag : (cs : List Call) (f : Feed) → f.policy ≡ p → all_fed f cs ≡ fed_as p (chars_of (all_fed f cs))
  unfolding all_fed
  all_tag [] f e = refl
  all_tag (c ∷ cs) f e =
      let a = answer f c in
      two (chars_taken f c a) (all_fed (next f c) cs) (fed_tag f e c a) (all_tag cs (next f c) (keeps-policy f e c a))

-- The characters of whole characters as bytes.
chars-whole : (t : List ℕ) → chars (encode_all (chars t)) ≡ chars t
chars-whole t =
    ap chars (sym (append-nil (encode_all (chars t)))) ∙ chars-encode_all (chars t) [] (chars-all_scalar t)
    ∙ ap (λ (l : List ℕ). chars t ++ l) (chars_end [] read_char_nil) ∙ append-nil (chars t)

-- The thread's whole characters formatted in one call.
pub record WholeThread (policy : List ℕ) (cs : List Call) : Type 0 where
  pub ended_text : (F (policy_of policy) cs).ended ≡ true
      → outputs (new_feed (policy_of policy)) cs ≡ formatted (T (policy_of policy) cs) policy
  pub open_text : (F (policy_of policy) cs).ended ≡ false
      → outputs (new_feed (policy_of policy)) cs ++ encode_all (settle (F (policy_of policy) cs).pending other).text
      ≡ formatted (T (policy_of policy) cs) policy
  pub totals : totals_now (F (policy_of policy) cs) ≡ text_totals (T (policy_of policy) cs) policy
  pub held : (F (policy_of policy) cs).ended ≡ false
      → HeldLast (policy_of policy) (chars (T (policy_of policy) cs)) (F (policy_of policy) cs).pending

pub whole-thread : (policy : List ℕ) (cs : List Call) → WholeThread policy cs
whole-thread policy cs =
    let p = policy_of policy in
    let k = claimed p cs in
    let x = all_tag p cs (new_feed p) refl ∙ ap (fed_as p) k.characters in
    let t = T p cs in
    let w : encode_all (format_fed (all_fed (new_feed p) cs)) ≡ formatted t policy =
    ap (λ (l : List Fed). encode_all (format_fed l)) x ∙ ap encode_all (format_tag p (chars t)) ∙ sym (cell_view t policy).0 in
    record {
      ended_text = λ e. k.ended_text e ∙ w;
      open_text = λ e. k.open_text e ∙ w;
      totals = k.totals ∙ ap total_fed x ∙ total_tag p (chars t) ∙ sym (cell_view t policy).1;
      held = λ e. subst (λ (s : Pending). HeldLast p (chars t) s)
          (ap (λ (l : List Fed). (take_chars nothing l).0) (sym x) ∙ k.pending_is e) (all_last p (chars t));
    }

-- Only the whole characters count.
pub whole-formatted : (t policy : List ℕ) → formatted t policy ≡ formatted (encode_all (chars t)) policy
whole-formatted t policy =
    (cell_view t policy).0 ∙ ap (λ (l : List ℕ). encode_all (format_cells (policy_of policy) l)) (sym (chars-whole t))
    ∙ sym (cell_view (encode_all (chars t)) policy).0

pub whole-totals : (t policy : List ℕ) → text_totals t policy ≡ text_totals (encode_all (chars t)) policy
whole-totals t policy =
    (cell_view t policy).1 ∙ ap (total_cells (policy_of policy)) (sym (chars-whole t)) ∙ sym (cell_view (encode_all (chars t)) policy).1
