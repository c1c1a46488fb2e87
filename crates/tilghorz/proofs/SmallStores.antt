-- The values of the answers of a store's calls: that of a filing is small for any bytes, the others are small in a store begun new.
use Rattle.base.specs.Answers.{answer_row, optional_row}
use Rattle.std.specs.Prelude.{Ok, Err, Some, None, Result, Option}
use mathlib.Core.Path.{◌≡◌, refl, ap, sym}
use mathlib.Core.Bool.{Bool, true, false, cond, ◌&&◌}
use mathlib.Core.List.{List}
use Prim.Native.Nat.{ℕ, ◌*◌, ◌^◌, ◌≤◌, ◌<◌}
use native.Mathlib.Omega.{arith}
use lib.Dec.{eqb, leb, ltb}
use lib.ListN.{length, take}
use borrow.Author.Tests.{leb-false, ltb-true}
use Rattle.base.specs.Words.{word_at}
use Rattle.base.specs.Refusals.{refusal_row, text_limit}
use Rattle.base.specs.declared.Refusal.{Refusal}
use Rattle.base.specs.declared.Refusal.TheVariants.{BadClientOrNumber}
use Rattle.policy.specs.PolicyBytes.{numbers_of}
use Rattle.formatter.specs.Format.{format}
use Rattle.store.specs.Bytes.{begin_call, bytes_after, file_answer_of, file_call, release_call, store_bytes, used_call, used_word}
use Rattle.store.specs.Calls.{Call, after_format, bad_release, changes, charge_of, is_refusal, release, release_answer, store_after}
use Rattle.store.specs.Store.{Store, charge_at, clients, new_store}
use Rattle.store.specs.Theorems.{EveryStoreInBytes, InBytes, StoreClaim}
use Rattle.store.proofs.Beginning.{Fit, Whole, by_tests_lem}
use Rattle.store.proofs.Claims.{every_store_in_bytes}
use Rattle.store.proofs.Formats.{format_small as charge-small}
use Rattle.tilghorz.proofs.SmallAnswers.{format_small, most}

-- ---- filing

-- After tests 13 and 14, the value is formatting's own, or what is left, which is less than the charge.
after_small : (fa : Result (Option ℕ) Refusal) (bad fits : Bool) (l k : ℕ) → (optional_row fa).value ≤ most
    → (is_refusal fa ≡ false → k ≤ 4 * text_limit)
    → (fits ≡ false → l < k) → (optional_row (after_format bad fits l fa)).value ≤ most
unfolding optional_row
after_small (Ok None) true fits l k h s f = omega arith
after_small (Ok None) false true l k h s f = h
after_small (Ok None) false false l k h s f = omega (arith, s refl, f refl)
after_small (Ok (Some n)) true fits l k h s f = omega arith
after_small (Ok (Some n)) false true l k h s f = h
after_small (Ok (Some n)) false false l k h s f = omega (arith, s refl, f refl)
after_small (Err r) bad fits l k h s f = h

pub file_small : (bs text policy : List ℕ) (c n : ℕ) (out : List ℕ) → (optional_row (file_call bs text policy c n out).answer).value ≤ most
unfolding file_call file_answer_of
file_small bs text policy c n out =
    after_small (format text policy out).answer _ _ _ (charge_of text policy) (format_small text policy out)
    (charge-small text policy out) (λ e. leb-false _ _ e)

-- ---- the other calls

pub begin_small : (C : ℕ) (rb st : List ℕ) → C < 2 ^ 56 → (answer_row (begin_call C rb st).answer).value < 2 ^ 56
unfolding begin_call answer_row
begin_small C rb st h = go (leb store_bytes (length st)) (Whole C rb st) (Fit C rb st)
  where
    go : (a w f : Bool) → (answer_row (by_tests_lem C rb st a w f).answer).value < 2 ^ 56
    go false w f = omega arith
    go true false f = omega arith
    go true true false = h
    go true true true = omega arith

module _ (C : ℕ) (rb st : List ℕ) (w : C < 2 ^ 64) (e : (begin_call C rb st).answer ≡ Ok store_bytes) (xs : List Call) where
  abbrev B : List ℕ
  B = bytes_after (take store_bytes (begin_call C rb st).buffer) xs

  abbrev s : Store
  s = store_after (new_store C (numbers_of rb)) xs

  -- The claim on lists of calls.
  in_bytes : InBytes B s
  unfolding EveryStoreInBytes
  in_bytes = (every_store_in_bytes C rb st w e xs).0

  claim : StoreClaim C (numbers_of rb) (changes (new_store C (numbers_of rb)) xs) s
  unfolding EveryStoreInBytes
  claim = (every_store_in_bytes C rb st w e xs).1

  pub used-small : (c : ℕ) → (answer_row (used_call B c)).value < 2 ^ 56
  unfolding answer_row used_call
  used-small c = go (ltb c clients) refl
    where
      go : (t : Bool) → ltb c clients ≡ t → (answer_row (used_call B c)).value < 2 ^ 56
      go true l = omega (
        arith,
        ap (λ (a : Result ℕ Refusal). (answer_row a).value) (in_bytes.uses c (ltb-true c clients l)),
        claim.small_use c,
      )
      go false l = omega (arith, no-client (eqb (length B) store_bytes))
        where
          no-client : (t : Bool)
              → (answer_row (cond (t && ltb c clients) (Ok (word_at (used_word c) B)) (Err BadClientOrNumber))).value
              ≡ 0
          no-client true =
              ap (λ (u : Bool). (answer_row (cond u (Ok (word_at (used_word c) B)) (Err BadClientOrNumber))).value) l
          no-client false = refl

  pub release_small : (c n : ℕ) → (answer_row (release_call B c n).answer).value < 2 ^ 56
  unfolding answer_row release_answer
  release_small c n = omega (arith, ap (λ (a : Result ℕ Refusal). (answer_row a).value) same, go (release_answer s c n) refl)
    where
      same : (release_call B c n).answer ≡ release_answer s c n
      same = let q = in_bytes.answers (release c n) in cc

      refused-value : (t : Bool) (k : ℕ) (r : Refusal)
          → cond t (Err BadClientOrNumber) (Ok k) ≡ Err r → (refusal_row r).value ≡ 0
      refused-value true k r q = let z : BadClientOrNumber ≡ r = cc in ap (λ (x : Refusal). (refusal_row x).value) (sym z)
      refused-value false k r q = let z : ◌≡◌ {A = ℕ} 0 1 = cc in absurd (omega arith)

      go : (a : Result ℕ Refusal) → release_answer s c n ≡ a → (answer_row a).value < 2 ^ 56
      go (Ok k) q = omega (arith, (claim.releases c n k q).bytes, claim.small_use c)
      go (Err r) q = omega (arith, refused-value (bad_release s c n) (charge_at c n s.filed) r q)
