-- A call on the bytes of a store answers and leaves what the call on the store does.
use Rattle.base.specs.declared.Refusal.{Refusal}
use Rattle.std.specs.Prelude.{Ok, Err, Some, None, Result, Option}
use mathlib.Core.Path.{◌≡◌, refl, ap, ap₂, sym, ◌∙◌, subst}
use mathlib.Core.Bool.{Bool, true, false, cond, not, ◌&&◌, ◌||◌, true≢false}
use mathlib.Core.List.{List, [], ◌∷◌, ◌++◌}
use Prim.Native.Nat.{ℕ, zero, suc, ◌+◌, ◌*◌, ◌-◌, ◌^◌, ◌≤◌, ◌<◌}
use native.Mathlib.Omega.{arith}
use lib.Dec.{eqb, leb, ltb}
use lib.ListN.{get_or-eq_default, get_or, length, length-append, length-replicate, replicate}
use borrow.Author.Tests.{eq-eqb, eqb-false, eqb-true, lt-ltb, ltb-false, ltb-true}
use Rattle.base.specs.Sums.{sum_below}
use Rattle.base.specs.Words.{word_at}
use Rattle.base.specs.Refusals.{text_limit}
use Rattle.base.specs.declared.Refusal.TheVariants.{BadClientOrNumber}
use Rattle.base.proofs.Numbers.{length_bytes_of_lem}
use Rattle.formatter.specs.Format.{format}
use Rattle.store.specs.Store.{
  Filed,
  Sound,
  Store,
  charge_at,
  charged,
  clients,
  in_use,
  is_place,
  left,
  new_store,
  numbers,
  overflow,
  reserve,
  used,
  without,
}
use Rattle.store.specs.Calls.{
  Call,
  after_format,
  answer,
  bad_file,
  bad_release,
  changed_filed,
  charge_of,
  file,
  file_answer,
  file_change,
  file_output,
  is_refusal,
  next,
  of_file,
  of_release,
  output_after,
  output_by,
  release,
  release_answer,
  release_change,
  store_after,
  with_filed,
}
use Rattle.store.specs.Bytes.{
  Represents,
  answer_of,
  bytes_after,
  file_answer_of,
  file_bytes,
  file_call,
  has_place,
  is_taken,
  left_of,
  new_bytes,
  next_bytes,
  out_after,
  overflow_of,
  place_word,
  put_word,
  release_answer_of,
  release_bytes,
  release_call,
  reserve_word,
  slot,
  store_bytes,
  used_call,
  used_word,
}
use Rattle.store.proofs.Formats.{format_small}
use Rattle.store.proofs.Sums.{sum-has, sum_same}
use Rattle.store.proofs.Messages.{charged-other, charged-without}
use Rattle.store.proofs.Steps.{charged_beside, charged-more, file_claim, free, place_means, released, released_or, sound_next}
use Rattle.store.proofs.Runs.{within_capacity}
use Rattle.store.proofs.Words.{padded, size_same, word_of, word-other, word_same}
use Rattle.store.proofs.Slots.{slot_beside, slot-charge, slot-here, slot-left, slot-taken, slot-used}

-- ---- two words change

module _ (bs : List ℕ) (s : Store) (R : Represents bs s) (c n v w : ℕ) (lc : c < clients) (ln : n < numbers) (fv : v < 2 ^ 64)
    (fw : w < 2 ^ 64) where
  abbrev B₁ : List ℕ
  B₁ = put_word (used_word c) v bs

  abbrev B : List ℕ
  B = put_word (place_word c n) w B₁

  room₁ : 8 * (17 + c) + 8 ≤ length bs
  room₁ = omega (arith, R.size)

  size₁ : length B₁ ≡ store_bytes
  size₁ = size_same bs (used_word c) v room₁ ∙ R.size

  room : 8 * (33 + 256 * c + n) + 8 ≤ length B₁
  room = omega (arith, size₁)

  size : length B ≡ store_bytes
  size = size_same B₁ (place_word c n) w room ∙ size₁

  elsewhere : (j : ℕ) → (j ≡ used_word c → ⊥) → (j ≡ place_word c n → ⊥) → word_at j B ≡ word_at j bs
  elsewhere j p q = word-other B₁ (place_word c n) w room j q ∙ word-other bs (used_word c) v room₁ j p

  at_used : word_at (used_word c) B ≡ v
  at_used = word-other B₁ (place_word c n) w room (used_word c) (λ e. omega arith) ∙ word_same bs (used_word c) v room₁ fv

  at_place : word_at (place_word c n) B ≡ w
  at_place = word_same B₁ (place_word c n) w room fw

  -- The store with other messages of this client.
  pub represented : (ms : List Filed) → v ≡ charged c ms → w ≡ slot c n ms
      → ((d : ℕ) → (d ≡ c → ⊥) → charged d ms ≡ used s d)
      → ((d j : ℕ) → (c ≡ d → n ≡ j → ⊥) → slot d j ms ≡ slot d j s.filed)
      → Represents B (with_filed s ms)
  represented ms ev ew os op = record {
    size = size;
    wide = R.wide;
    capacity = elsewhere 0 (λ e. omega arith) (λ e. omega arith) ∙ R.capacity;
    reserves = λ d l. elsewhere (reserve_word d) (λ e. omega arith) (λ e. omega arith) ∙ R.reserves d l;
    sums = λ d l. sum-word d l (eqb d c) refl;
    places = λ d j l m. place-word d j l m (eqb d c) refl (eqb j n) refl;
  }
    where
      sum-word : (d : ℕ) → d < clients → (t : Bool) → eqb d c ≡ t → word_at (used_word d) B ≡ charged d ms
      sum-word d l true e =
          let q : d ≡ c = eqb-true d c e in
          ap (λ (x : ℕ). word_at (used_word x) B) q ∙ at_used ∙ ev ∙ ap (λ (x : ℕ). charged x ms) (sym q)
      sum-word d l false e =
          let q : d ≡ c → ⊥ = eqb-false d c e in
          elsewhere (used_word d) (λ p. q (omega arith)) (λ p. omega arith) ∙ R.sums d l ∙ sym (os d q)

      other_place : (d j : ℕ) → d < clients → j < numbers → (c ≡ d → n ≡ j → ⊥) → word_at (place_word d j) B ≡ slot d j ms
      other_place d j l m q =
          elsewhere (place_word d j) (λ p. omega arith) (λ p. q (omega arith) (omega arith)) ∙ R.places d j l m ∙ sym (op d j q)

      place-word : (d j : ℕ) → d < clients → j < numbers → (t : Bool) → eqb d c ≡ t → (u : Bool) → eqb j n ≡ u
          → word_at (place_word d j) B ≡ slot d j ms
      place-word d j l m true e true f =
          let p : d ≡ c = eqb-true d c e in
          let q : j ≡ n = eqb-true j n f in
          ap₂ (λ (x y : ℕ). word_at (place_word x y) B) p q ∙ at_place ∙ ew ∙ ap₂ (λ (x y : ℕ). slot x y ms) (sym p) (sym q)
      place-word d j l m true e false f = other_place d j l m (λ p q. eqb-false j n f (sym q))
      place-word d j l m false e u f = other_place d j l m (λ p q. eqb-false d c e (sym p))

-- ---- answers

module _ (bs : List ℕ) (s : Store) (R : Represents bs s) where
  reserves_same : sum_below clients (λ (d : ℕ). word_at (reserve_word d) bs) ≡ sum_below clients (reserve s)
  reserves_same = sum_same clients (λ (d : ℕ). word_at (reserve_word d) bs) (reserve s) R.reserves

  overflow-same : sum_below clients (overflow_of bs) ≡ sum_below clients (overflow s)
  overflow-same = sum_same clients (overflow_of bs) (overflow s) (λ d l. ap₂ (λ (x y : ℕ). x - y) (R.sums d l) (R.reserves d l))

  left-same : (c : ℕ) → c < clients → left_of bs c ≡ left s c
  left-same c l =
      let a = reserves_same in
      let b = overflow-same in
      let x = R.reserves c l in
      let y = R.sums c l in
      let z = R.capacity in
      ap₂ (λ (p q : ℕ). p + q) (ap₂ (λ (p q : ℕ). p - q) x y) (ap₂ (λ (p q : ℕ). p - q) (ap₂ (λ (p q : ℕ). p - q) z a) b)

  taken-same : (c n : ℕ) → is_place c n ≡ true → is_taken bs c n ≡ in_use c n s.filed
  taken-same c n e =
      let p = place_means c n e in
      ap (λ (w : ℕ). not (eqb w 0)) (R.places c n p.0 p.1) ∙ slot-used c n s.filed

  has-place : (c n : ℕ) → has_place bs c n ≡ is_place c n
  has-place c n = ap (λ (t : Bool). t && is_place c n) (eq-eqb (length bs) store_bytes R.size)

  bad_file_lem : (c n : ℕ) → (not (has_place bs c n) || is_taken bs c n) ≡ bad_file s c n
  bad_file_lem c n = ap (λ (t : Bool). not t || is_taken bs c n) (has-place c n) ∙ go (is_place c n) refl
    where
      go : (t : Bool) → is_place c n ≡ t → (not t || is_taken bs c n) ≡ (not t || in_use c n s.filed)
      go true e = taken-same c n e
      go false e = refl

  bad_release_lem : (c n : ℕ) → not (has_place bs c n && is_taken bs c n) ≡ bad_release s c n
  bad_release_lem c n = ap (λ (t : Bool). not (t && is_taken bs c n)) (has-place c n) ∙ go (is_place c n) refl
    where
      go : (t : Bool) → is_place c n ≡ t → not (t && is_taken bs c n) ≡ not (t && in_use c n s.filed)
      go true e = ap not (taken-same c n e)
      go false e = refl

  -- Where 13 is not the answer, what is left is the same.
  same_answer : (fa : Result (Option ℕ) Refusal) (k l m : ℕ) → (t : Bool) → (t ≡ false → l ≡ m)
      → after_format t (leb k l) l fa ≡ after_format t (leb k m) m fa
  same_answer (Ok None) k l m true h = refl
  same_answer (Ok None) k l m false h = ap (λ (x : ℕ). after_format false (leb k x) x (Ok None)) (h refl)
  same_answer (Ok (Some j)) k l m true h = refl
  same_answer (Ok (Some j)) k l m false h = ap (λ (x : ℕ). after_format false (leb k x) x (Ok (Some j))) (h refl)
  same_answer (Err r) k l m t h = refl

  not_bad : (c n : ℕ) → bad_file s c n ≡ false → is_place c n ≡ true
  not_bad c n e = go (is_place c n) refl
    where
      go : (t : Bool) → is_place c n ≡ t → t ≡ true
      go true q = refl
      go false q = absurd (true≢false (ap (λ (t : Bool). not t || in_use c n s.filed) (sym q) ∙ e))

  pub file_same : (text policy : List ℕ) (c n : ℕ) (out : List ℕ)
      → file_answer_of bs text policy c n out ≡ file_answer s text policy c n out
  unfolding file_answer_of file_answer
  file_same text policy c n out =
      let fa = (format text policy out).answer in
      let k = charge_of text policy in
      ap (λ (t : Bool). after_format t (leb k (left_of bs c)) (left_of bs c) fa) (bad_file_lem c n)
      ∙ same_answer fa k (left_of bs c) (left s c) (bad_file s c n) (λ e. left-same c (place_means c n (not_bad c n e)).0)

  slot-back : (c n : ℕ) → bad_release s c n ≡ false → word_at (place_word c n) bs - 1 ≡ charge_at c n s.filed
  slot-back c n e = go (is_place c n) refl (in_use c n s.filed) refl
    where
      go : (t : Bool) → is_place c n ≡ t → (u : Bool) → in_use c n s.filed ≡ u → word_at (place_word c n) bs - 1 ≡ charge_at c n s.filed
      go true p true q =
          let l = place_means c n p in
          omega (arith, R.places c n l.0 l.1, slot-charge c n s.filed q)
      go true p false q = absurd (true≢false (ap₂ (λ (x y : Bool). not (x && y)) (sym p) (sym q) ∙ e))
      go false p u q = absurd (true≢false (ap (λ (x : Bool). not (x && in_use c n s.filed)) (sym p) ∙ e))

  same_release : (t : Bool) (k m : ℕ) → (t ≡ false → k ≡ m) → released_or t k ≡ released_or t m
  same_release true k m h = refl
  same_release false k m h = ap Ok (h refl)

  pub release_same : (c n : ℕ) → release_answer_of bs c n ≡ release_answer s c n
  unfolding release_answer_of release_answer
  release_same c n =
      ap (λ (t : Bool). released_or t (word_at (place_word c n) bs - 1)) (bad_release_lem c n)
      ∙ same_release (bad_release s c n) (word_at (place_word c n) bs - 1) (charge_at c n s.filed) (slot-back c n)

  -- ---- what is left in the bytes

  pub answer-same : (x : Call) → answer_of bs x ≡ answer s x
  unfolding file_call release_call
  answer-same (file text policy c n out) = ap of_file (file_same text policy c n out)
  answer-same (release c n) = ap of_release (release_same c n)

  pub output_same : (x : Call) → out_after bs x ≡ output_after s x
  unfolding file_call file_output
  output_same (file text policy c n out) = ap (output_by (format text policy out).buffer out) (file_same text policy c n out)
  output_same (release c n) = refl

  pub used-same : (c : ℕ) → c < clients → used_call bs c ≡ Ok (used s c)
  unfolding used_call
  used-same c l =
      ap₂ (λ (x y : Bool). cond (x && y) (Ok (word_at (used_word c) bs)) (Err BadClientOrNumber))
      (eq-eqb (length bs) store_bytes R.size) (lt-ltb c clients l)
      ∙ ap Ok (R.sums c l)

  -- What a client uses is a number of 64 bits.
  used_wide : (t : Store) → Sound t → t.capacity < 2 ^ 64 → (c : ℕ) → c < clients → used t c < 2 ^ 64
  used_wide t h l c lc = omega (arith, within_capacity t h, sum-has clients (used t) c lc)

  -- An accepted message is short.
  charge-small : (text policy : List ℕ) (c n : ℕ) (out : List ℕ) → is_refusal (file_answer s text policy c n out) ≡ false
      → charge_of text policy ≤ 4 * text_limit
  charge-small text policy c n out e =
      let a = ((file_claim s text policy c n out).as_format_lem e).0 in
      format_small text policy out (ap is_refusal (sym a) ∙ e)

  module _ (h : Sound s) where
    pub next-represented : (x : Call) → Represents (next_bytes bs x) (next s x)
    unfolding file_call release_call
    next-represented (file text policy c n out) =
        subst (λ (a : Result (Option ℕ) Refusal). Represents (file_bytes c n k bs a) (next s x)) (sym (file_same text policy c n out))
        (go (file_answer s text policy c n out) refl)
      where
        k : ℕ
        k = charge_of text policy

        x : Call
        x = file text policy c n out

        m : Filed
        m = record { client = c; number = n; charge = k }

        more : is_refusal (file_answer s text policy c n out) ≡ false → used (next s x) c ≡ charged c (m ∷ s.filed)
            → Represents (file_bytes c n k bs (Ok None)) (with_filed s (m ∷ s.filed))
        more e q =
            let f = free s text policy c n out e in
            let p = place_means c n f.place in
            let v : word_at (used_word c) bs + k ≡ charged c (m ∷ s.filed) =
            ap (λ (y : ℕ). y + k) (R.sums c p.0) ∙ sym (charged-more c n k s.filed) in
            let wide : charged c (m ∷ s.filed) < 2 ^ 64 = omega (arith, used_wide (next s x) (sound_next s h x) R.wide c p.0) in
            represented bs s R c n (word_at (used_word c) bs + k) (k + 1) p.0 p.1 (omega arith)
            (omega (arith, charge-small text policy c n out e)) (m ∷ s.filed)
            v (sym (slot-here c n k s.filed))
            (λ d q. charged_beside c n k s.filed d (λ z. q (sym z)))
            (λ d j q. slot_beside c n k s.filed d j q)

        go : (a : Result (Option ℕ) Refusal) → file_answer s text policy c n out ≡ a
            → Represents (file_bytes c n k bs a) (with_filed s (changed_filed s.filed (file_change m a)))
        go (Ok None) e = more (ap is_refusal e) (ap (λ (a : Result (Option ℕ) Refusal). charged c (changed_filed s.filed (file_change m a)))
            e)
        go (Ok (Some l)) e = more (ap is_refusal e)
            (ap (λ (a : Result (Option ℕ) Refusal). charged c (changed_filed s.filed (file_change m a))) e)
        go (Err r) e = R
    next-represented (release c n) =
        subst (λ (a : Result ℕ Refusal). Represents (release_bytes c n bs a) (next s x)) (sym (release_same c n))
        (go (release_answer s c n) refl)
      where
        x : Call
        x = release c n

        go : (a : Result ℕ Refusal) → release_answer s c n ≡ a
            → Represents (release_bytes c n bs a) (with_filed s (changed_filed s.filed (release_change c n a)))
        go (Ok k) e =
            let r = released s c n k e in
            let p = place_means c n r.0 in
            let o = charged-without c n s.filed h.placed in
            let v : word_at (used_word c) bs - k ≡ charged c (without c n s.filed) = omega (arith, R.sums c p.0, r.2) in
            let wide = used_wide s h R.wide c p.0 in
            represented bs s R c n (word_at (used_word c) bs - k) 0 p.0 p.1 (omega arith) (omega arith) (without c n s.filed)
            v (sym (slot-taken c n s.filed))
            (λ d q. charged-other c n d q s.filed)
            (λ d j q. slot-left c n s.filed d j q)
        go (Err r) e = R

-- ---- a new store, and lists of calls

module _ (C : ℕ) (rs : List ℕ) (w : C < 2 ^ 64) (f : length rs ≤ clients) (r : sum_below clients (reserve (new_store C rs)) ≤ C) where
  abbrev zs : List ℕ
  zs = replicate (4128 - length rs) 0

  abbrev ws : List ℕ
  ws = C ∷ (rs ++ zs)

  many : length ws ≡ 4129
  many = omega (arith, length-append rs zs, length-replicate {A = ℕ} (4128 - length rs) 0)

  past : (i : ℕ) → clients ≤ i → get_or rs i 0 ≡ 0
  past i l = get_or-eq_default rs 0 (omega arith)

  later : (j i : ℕ) → j ≡ suc i → get_or ws j 0 ≡ get_or rs i 0
  later j i e = ap (λ (x : ℕ). get_or ws x 0) e ∙ padded rs (4128 - length rs) i

  small : (k : ℕ) → get_or ws k 0 < 2 ^ 64
  small zero = w
  small (suc i) = go (ltb i clients) refl
    where
      go : (t : Bool) → ltb i clients ≡ t → get_or ws (suc i) 0 < 2 ^ 64
      go true e = omega (arith, later (suc i) i refl, sum-has clients (reserve (new_store C rs)) i (ltb-true i clients e))
      go false e = omega (arith, later (suc i) i refl, past i (ltb-false i clients e))

  pub new_represented : Represents (new_bytes C rs) (new_store C rs)
  unfolding new_bytes charged slot
  new_represented = record {
    size = omega (arith, length_bytes_of_lem ws, many);
    wide = w;
    capacity = word_of ws small 0 (omega (arith, many));
    reserves = λ c l. word_of ws small (1 + c) (omega (arith, many)) ∙ later (1 + c) c (omega arith);
    sums = λ c l. word_of ws small (17 + c) (omega (arith, many)) ∙ later (17 + c) (16 + c) (omega arith) ∙ past (16 + c) (omega arith);
    places = λ c n l m.
        word_of ws small (33 + 256 * c + n) (omega (arith, many)) ∙ later (33 + 256 * c + n) (32 + 256 * c + n) (omega arith)
        ∙ past (32 + 256 * c + n) (omega arith);
  }

pub represents_after : (bs : List ℕ) (s : Store) → Sound s → Represents bs s → (xs : List Call)
    → Represents (bytes_after bs xs) (store_after s xs)
unfolding bytes_after store_after
represents_after bs s h R [] = R
represents_after bs s h R (x ∷ xs) = represents_after (next_bytes bs x) (next s x) (sound_next s h x) (next-represented bs s R h x) xs
