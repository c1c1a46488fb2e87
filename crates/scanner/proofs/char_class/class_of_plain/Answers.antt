-- `scanner::char_class::class_of_plain` meets its contract: each test determines the class of a character that is no emoji.
use mathlib.Core.Path.{◌≡◌, ap, sym, ◌∙◌}
use mathlib.Core.Bool.{true}
use mathlib.Core.Logic.{⊎_elim}
use Prim.Native.Nat.{ℕ, ◌≤◌, ◌<◌}
use native.Mathlib.Omega.{arith}
use Rattle.base.proofs.Tests.{le_or_lt}
use Rattle.emoji.specs.Presentation.{is_selector}
use Rattle.scanner.proofs.Classes.{class_is, class_low, class_other, class_selector, is_keycap, is_link, is_tag_lem}
use Rattle.scanner.proofs.char_class.class_of_plain.Goals.{
  in_default-via-then-ch-lt65038,
  in_default-via-else-ch-lt65038+else-ch-lt65040,
}
use Rattle.scanner.proofs.char_class.class_of_plain.Goals as goal

pub returns-in-0-to-8204 : goal.returns-in-0-to-8204
returns-in-0-to-8204 c e = sym (class_low _ e (omega arith))

pub returns-in-8205 : goal.returns-in-8205
returns-in-8205 c e = sym (class_is (is_link c.in-8205.is))

pub returns-in-8419 : goal.returns-in-8419
returns-in-8419 c e = sym (class_is (is_keycap c.in-8419.is))

-- The two selectors follow one another.
selectors_between : (v : ℕ) → 0xFE0E ≤ v → v < 0xFE10 → is_selector v ≡ true
unfolding is_selector
selectors_between v l m =
    ⊎_elim (λ k. let q : v ≡ 0xFE0F = omega arith in ap is_selector q) (λ k. let q : v ≡ 0xFE0E = omega arith in ap is_selector q)
    (le_or_lt 0xFE0F v)

pub returns-in-65038 : goal.returns-in-65038
returns-in-65038 c e = sym (class_selector _ (selectors_between c.args.ch (omega arith) (omega arith)))

pub returns-in_default : goal.returns-in_default
returns-in_default c e = sym (class_is (is_tag_lem (sym c.is_tag.ensures ∙ c.if-is_tag.true)))

pub returns-in_default-2 : goal.returns-in_default-2
returns-in_default-2 c e =
    let t = sym c.is_tag.ensures ∙ c.if-is_tag.false in
    elim c.in_default.branch [
      | in_default-via-then-ch-lt65038 w ↦ sym (class_other _ e (λ q. omega arith) (λ q. omega arith) (λ q. omega arith)
          (λ q. omega arith) t)
      | in_default-via-else-ch-lt65038+else-ch-lt65040 w ↦ sym (class_other _ e (λ q. omega arith) (λ q. omega arith) (λ q. omega arith)
          (λ q. omega arith) t)
    ]
