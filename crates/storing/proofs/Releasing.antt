-- Releasing: the outcome by the two tests.
use Rattle.base.specs.declared.Refusal.{Refusal}
use Rattle.std.specs.Prelude.{Ok, Err, Result}
use mathlib.Core.Path.{◌≡◌, refl, ap, ap₂, sym, ◌∙◌}
use mathlib.Core.Bool.{Bool, true, false, cond, not, ◌&&◌}
use mathlib.Core.List.{List}
use Prim.Native.Nat.{ℕ, ◌-◌}
use Rattle.base.specs.Words.{word_at}
use Rattle.base.proofs.Answering.{ends_as}
use Rattle.base.specs.Answers.{EndsAs, answer_row}
use Rattle.base.specs.Refusals.{After}
use Rattle.base.specs.declared.Refusal.TheVariants.{BadClientOrNumber}
use Rattle.store.specs.Bytes.{give_back, has_place, is_taken, place_word, release_answer_of, release_bytes, release_call}

module _ (bs : List ℕ) (c n : ℕ) where
  abbrev outcome : Result ℕ Refusal → After (Result ℕ Refusal) ℕ
  outcome a = record { answer = a; buffer = release_bytes c n bs a }

  -- The outcome by the two tests: is there such a place, and is the number in use?
  abbrev by_tests_lem : Bool → Bool → After (Result ℕ Refusal) ℕ
  by_tests_lem x y = outcome (cond (not (x && y)) (Err BadClientOrNumber) (Ok (word_at (place_word c n) bs - 1)))

  release_is : release_call bs c n ≡ by_tests_lem (has_place bs c n) (is_taken bs c n)
  unfolding release_call release_answer_of
  release_is = refl

  pub no_place_released : has_place bs c n ≡ false → EndsAs answer_row (release_call bs c n) (Err BadClientOrNumber) bs
  no_place_released e = ends_as (sym (release_is ∙ ap (λ (t : Bool). by_tests_lem t (is_taken bs c n)) e))

  pub unused_released : is_taken bs c n ≡ false → EndsAs answer_row (release_call bs c n) (Err BadClientOrNumber) bs
  unused_released e = ends_as (sym (release_is ∙ ap (λ (t : Bool). by_tests_lem (has_place bs c n) t) e ∙ go (has_place bs c n)))
    where
      go : (t : Bool) → by_tests_lem t false ≡ outcome (Err BadClientOrNumber)
      go true = refl
      go false = refl

  pub is_released : has_place bs c n ≡ true → is_taken bs c n ≡ true → (k : ℕ) → k ≡ word_at (place_word c n) bs - 1 → (bs' : List ℕ)
      → bs' ≡ give_back c n k bs → EndsAs answer_row (release_call bs c n) (Ok k) bs'
  is_released p q k e bs' h =
      ends_as (ap (λ (x : List ℕ). made x) h ∙ ap (λ (j : ℕ). outcome (Ok j)) e ∙ sym (release_is ∙ ap₂ by_tests_lem p q))
    where
      made : List ℕ → After (Result ℕ Refusal) ℕ
      made x = record { answer = Ok k; buffer = x }
