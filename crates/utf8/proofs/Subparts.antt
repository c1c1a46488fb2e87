-- The width of a bad place is the length of the maximal subpart.
use mathlib.Core.Path.{◌≡◌, refl, sym, ap, ◌∙◌, subst}
use mathlib.Core.Logic.{⊎_elim}
use mathlib.Core.Bool.{Bool, true, false, cond, true≢false}
use mathlib.Core.List.{List, [], ◌∷◌, append-nil}
use Prim.Native.Nat.{ℕ, zero, suc, ◌≤◌, ◌<◌}
use native.Mathlib.Omega.{arith}
use lib.ListN.{drop, get_or, length, take, take-append-drop}
use lib.Seq.{take_at}
use Rattle.utf8.specs.Rfc3629.{more, none, begun_2, begun_3, encode, read_char, subpart, subpart_of, utf8_char, valid_up_to_of}
use Rattle.utf8.specs.declared.ReadChar.{ReadChar}
use Rattle.utf8.specs.declared.ReadChar.TheVariants.{Char, IllFormed, End}
use Rattle.utf8.proofs.Decoding.{utf8_char_encode}
use Rattle.utf8.proofs.Encoding.{char_begins, end_empty, ill_formed_width}
use Rattle.utf8.proofs.Folds.{valid_up_to_ill_formed}
use Rattle.utf8.proofs.Fronts.{read_char_nil}
use Rattle.utf8.proofs.Grammar.{well_formed_whole}
use Rattle.utf8.proofs.Texts.{valid_up_to_append}
use Rattle.utf8.specs.Subparts.{Begins, MaximalSubpart, unfinished}
use Rattle.utf8.proofs.Completions.{begins_cases, goes_on, no_second, no_third}

-- ---- no character begins at a bad place

pub char-some : (u : List ℕ) → utf8_char u ≡ true → 1 ≤ length u
unfolding utf8_char
char-some [] e = absurd (true≢false (sym e))
char-some (a ∷ u) e = omega arith

pub char-whole : (u : List ℕ) → utf8_char u ≡ true → valid_up_to_of u ≡ length u
char-whole u e = subst (λ (l : List ℕ). valid_up_to_of l ≡ length l) (append-nil u) (well_formed_whole (more u [] e none))

pub no_char_at : (s : List ℕ) {n : ℕ} → read_char s ≡ IllFormed n → (m : ℕ) → utf8_char (take m s) ≡ true → ⊥
no_char_at s e m h =
    let p = valid_up_to_append (take m s) (drop m s) (char-whole (take m s) h) in
    let q = ap valid_up_to_of (take-append-drop m s) in
    omega (arith, valid_up_to_ill_formed s e, char-some (take m s) h)

-- ---- the width

subpart-some : (a b c : ℕ) → 1 ≤ subpart a b c
unfolding subpart
subpart-some a b c = go (begun_3 a b c) (begun_2 a b)
  where
    go : (x y : Bool) → 1 ≤ cond x 3 (cond y 2 1)
    go true y = omega arith
    go false true = omega arith
    go false false = omega arith

subpart-two : (a b c : ℕ) → begun_2 a b ≡ true → 2 ≤ subpart a b c
unfolding subpart
subpart-two a b c e = go (begun_3 a b c) (begun_2 a b) e
  where
    go : (x y : Bool) → y ≡ true → 2 ≤ cond x 3 (cond y 2 1)
    go true y h = omega arith
    go false true h = omega arith
    go false false h = absurd (true≢false (sym h))

subpart-three : (a b c : ℕ) → begun_3 a b c ≡ true → 3 ≤ subpart a b c
unfolding subpart
subpart-three a b c e = rw e (omega arith)

-- The width n of a bad place: n is 1, or the first n bytes begin a character.
data Width (a b c : ℕ) : ℕ → Type 0 where
  one_byte : Width a b c 1
  two_bytes : begun_2 a b ≡ true → Width a b c 2
  three_bytes : begun_3 a b c ≡ true → Width a b c 3

width : (a b c : ℕ) → Width a b c (subpart a b c)
unfolding subpart
width a b c = go (begun_3 a b c) (begun_2 a b) refl refl
  where
    go : (x y : Bool) → begun_3 a b c ≡ x → begun_2 a b ≡ y → Width a b c (cond x 3 (cond y 2 1))
    go true y p q = three_bytes p
    go false true p q = two_bytes q
    go false false p q = one_byte

-- The text has the bytes of the subpart. If they are more than one, they begin a character.
record There (s : List ℕ) (n : ℕ) : Type 0 where
  inside : n ≤ length s
  begins : 1 < n → Begins (take n s)

begun : (u : List ℕ) → 1 ≤ length u → unfinished u ≡ true → Begins u
begun u h e =
    ⊎_elim (λ z. let k = ap length z in absurd (omega arith)) (λ g. record { after = g.0 ∷ g.1; makes = g.2 }) (goes_on u e)

there : (a : ℕ) (s : List ℕ) {n : ℕ} → Width a (get_or s 0 0) (get_or s 1 0) n → There (a ∷ s) n
unfolding unfinished
there a s one_byte = record { inside = omega arith; begins = λ h. absurd (omega arith) }
there a [] (two_bytes e) = absurd (true≢false (sym e ∙ no_second a))
there a (b ∷ s) (two_bytes e) = record { inside = omega arith; begins = λ h. begun (a ∷ b ∷ []) (omega arith) e }
there a [] (three_bytes e) = absurd (true≢false (sym e ∙ no_third a 0))
there a (b ∷ []) (three_bytes e) = absurd (true≢false (sym e ∙ no_third a b))
there a (b ∷ c ∷ s) (three_bytes e) = record { inside = omega arith; begins = λ h. begun (a ∷ b ∷ c ∷ []) (omega arith) e }

-- No longer beginning of the text is unfinished.
unfinished-within : (a : ℕ) (s : List ℕ) (m : ℕ) → m ≤ length (a ∷ s) → unfinished (take m (a ∷ s)) ≡ true → m ≤ subpart_of (a ∷ s)
unfolding unfinished subpart_of
unfinished-within a s zero h e = omega arith
unfinished-within a s (suc zero) h e = subpart-some a (get_or s 0 0) (get_or s 1 0)
unfinished-within a [] (suc (suc m)) h e = absurd (omega arith)
unfinished-within a (b ∷ s) (suc (suc zero)) h e = subpart-two a b (get_or s 0 0) e
unfinished-within a (b ∷ []) (suc (suc (suc m))) h e = absurd (omega arith)
unfinished-within a (b ∷ c ∷ s) (suc (suc (suc zero))) h e = subpart-three a b c e
unfinished-within a (b ∷ c ∷ []) (suc (suc (suc (suc m)))) h e = absurd (omega arith)
unfinished-within a (b ∷ c ∷ d ∷ s) (suc (suc (suc (suc m)))) h e = absurd (true≢false (sym e))

maximal_at : (s : List ℕ) {n : ℕ} → read_char s ≡ IllFormed n → MaximalSubpart s (subpart_of s)
unfolding subpart_of
maximal_at [] e = let z : ◌≡◌ {A = ℕ} 0 1 = cc read_char_nil in absurd (omega arith)
maximal_at (a ∷ s) e =
    let t = there a s (width a (get_or s 0 0) (get_or s 1 0)) in
    record {
      no_char = no_char_at (a ∷ s) e;
      some = subpart-some a (get_or s 0 0) (get_or s 1 0);
      inside = t.inside;
      begins = t.begins;
      longest = λ m h b. ⊎_elim (λ c. absurd (no_char_at (a ∷ s) e m c)) (λ c. unfinished-within a s m h c)
          (begins_cases (take m (a ∷ s)) b);
    }

pub bad-maximal : (s : List ℕ) (n : ℕ) → read_char s ≡ IllFormed n → MaximalSubpart s n
bad-maximal s n e = subst (MaximalSubpart s) (sym (ill_formed_width s n e)) (maximal_at s e)

-- ---- there is no other maximal subpart

pub same-subpart : (s : List ℕ) (m n : ℕ) → MaximalSubpart s m → MaximalSubpart s n → m ≤ n
same-subpart s m n p q = go m p.some p.begins p.inside
  where
    go : (k : ℕ) → 1 ≤ k → (1 < k → Begins (take k s)) → k ≤ length s → k ≤ n
    go zero a b h = omega arith
    go (suc zero) a b h = q.some
    go (suc (suc k)) a b h = q.longest (suc (suc k)) h (b (omega arith))

pub maximal-reads : (s : List ℕ) (n : ℕ) → MaximalSubpart s n → read_char s ≡ IllFormed n
maximal-reads s n m = go (read_char s) refl
  where
    go : (r : ReadChar) → read_char s ≡ r → read_char s ≡ IllFormed n
    go (Char v w) e =
        let b = char_begins s v w e in
        let t : take w s ≡ encode v = ap (take w) (sym b.bytes) ∙ take_at (encode v) (drop w s) w b.width in
        absurd (m.no_char w (ap utf8_char t ∙ utf8_char_encode v b.is_scalar_lem))
    go (IllFormed k) e =
        let q = bad-maximal s k e in
        let x = same-subpart s k n q m in
        let y = same-subpart s n k m q in
        let z : k ≡ n = omega arith in
        e ∙ ap IllFormed z
    go End e = let z = ap length (end_empty s e) in let o = m.some in let i = m.inside in absurd (omega arith)
