-- The bytes after the longest well-formed beginning, and whether bytes appended to the text make it well-formed.
use mathlib.Core.Path.{◌≡◌, refl, sym, ap, ◌∙◌, subst}
use mathlib.Core.Logic.{⊎_elim}
use mathlib.Core.Bool.{true, true≢false}
use mathlib.Core.List.{List, [], ◌∷◌, ◌++◌, append_assoc, append-nil}
use Prim.Native.Nat.{ℕ, ◌≤◌, ◌<◌}
use native.Mathlib.Omega.{arith}
use lib.ListN.{drop, length, length-append, length-drop, take, take-append-drop}
use lib.Seq.{drop-drop, take-append-le, take-append_seam}
use Rattle.utf8.specs.Rfc3629.{WellFormed, more, none, encode, read_char, subpart_of, utf8_char, valid_up_to_of}
use Rattle.utf8.specs.declared.ReadChar.TheVariants.{Char, IllFormed}
use Rattle.base.proofs.Tests.{le_or_lt}
use Rattle.utf8.proofs.Decoding.{read_char-encode}
use Rattle.utf8.proofs.Encoding.{end_empty, ill_formed_width}
use Rattle.utf8.proofs.Folds.{Reading, read_end, read_ill_formed, read_more, reading, valid_up_to-char, valid_up_to_ill_formed}
use Rattle.utf8.proofs.Grammar.{longest_well_formed, utf8_char_encodes, well_formed_whole, whole_well_formed}
use Rattle.utf8.proofs.Texts.{valid_up_to_append, valid_up_to_le}
use Rattle.utf8.specs.Subparts.{unfinished}
use Rattle.utf8.proofs.Completions.{goes_on, more_bytes}
use Rattle.utf8.proofs.Subparts.{char-some, no_char_at}

-- ---- after the longest well-formed beginning there is a bad place, or the text ends

stops : {s : List ℕ} → Reading s → valid_up_to_of s < length s
    → read_char (drop (valid_up_to_of s) s) ≡ IllFormed (subpart_of (drop (valid_up_to_of s) s))
stops {s} (read_end e) h = absurd (omega (arith, ap length (end_empty s e)))
stops {s} (read_ill_formed {n = n} e) h =
    let p : s ≡ drop (valid_up_to_of s) s = ap (λ (k : ℕ). drop k s) (sym (valid_up_to_ill_formed s e)) in
    subst (λ (t : List ℕ). read_char t ≡ IllFormed (subpart_of t)) p (e ∙ ap IllFormed (ill_formed_width s n e))
stops {s} (read_more v w e r) h =
    let t = drop w s in
    let p : drop (valid_up_to_of t) t ≡ drop (valid_up_to_of s) s = drop-drop (valid_up_to_of t) w s
    ∙ ap (λ (k : ℕ). drop k s) (sym (valid_up_to-char s v w e)) in
    subst (λ (t : List ℕ). read_char t ≡ IllFormed (subpart_of t)) p (stops r (omega (arith, valid_up_to-char s v w e, length-drop w s)))

pub bad-after : (s : List ℕ) → valid_up_to_of s < length s
    → read_char (drop (valid_up_to_of s) s) ≡ IllFormed (subpart_of (drop (valid_up_to_of s) s))
bad-after s h = stops (reading s) h

-- `read_char` reads a character of the grammar.
pub record ReadBy (bs s : List ℕ) : Type 0 where
  pub value : ℕ
  pub bytes : encode value ≡ bs
  pub read : read_char (bs ++ s) ≡ Char value (length bs)

pub grammar_read : (bs s : List ℕ) → utf8_char bs ≡ true → ReadBy bs s
grammar_read bs s e =
    let f = utf8_char_encodes bs e in
    record {
      value = f.value;
      bytes = f.bytes;
      read = subst (λ (l : List ℕ). read_char (l ++ s) ≡ Char f.value (length l)) f.bytes
          (read_char-encode f.value s f.is_scalar_lem);
    }

well_formed_append : {a b : List ℕ} → WellFormed a → WellFormed b → WellFormed (a ++ b)
well_formed_append none w = w
well_formed_append {b = b} (more bs s e v) w = subst WellFormed (sym (append_assoc bs s b)) (more bs (s ++ b) e (well_formed_append v w))

char_well_formed : (u : List ℕ) → utf8_char u ≡ true → WellFormed u
char_well_formed u e = subst WellFormed (append-nil u) (more u [] e none)

-- ---- unfinished bytes become a character

pub can_go_on : (s : List ℕ) → unfinished (drop (valid_up_to_of s) s) ≡ true → (t : List ℕ) × WellFormed (s ++ t)
can_go_on s e =
    let v = valid_up_to_of s in
    ⊎_elim
    (λ z. ([], subst WellFormed (sym (append-nil s)) (whole_well_formed s (omega (arith, ap length z, length-drop v s, valid_up_to_le s)))))
    (λ g.
    let x = g.0 ∷ g.1 in (
      x,
      subst WellFormed (sym (append_assoc (take v s) (drop v s) x) ∙ ap (λ (l : List ℕ). l ++ x) (take-append-drop v s))
          (well_formed_append (longest_well_formed s) (char_well_formed (drop v s ++ x) g.2)),
    ))
    (goes_on (drop v s) e)

-- ---- only unfinished bytes become a character

-- r does not begin with a character, and r with more bytes after it begins with the character bs.
goes-past : (r t bs s : List ℕ) → ((m : ℕ) → utf8_char (take m r) ≡ true → ⊥) → utf8_char bs ≡ true → bs ++ s ≡ r ++ t → unfinished r ≡ true
goes-past r t bs s f e p =
    ⊎_elim
    (λ h. absurd (f (length bs)
    (ap utf8_char (sym (take-append-le (length bs) r t h) ∙ ap (take (length bs)) (sym p) ∙ take-append_seam bs s) ∙ e)))
    (λ h.
    let q : take (length r) bs ≡ r = sym (take-append-le (length r) bs s (omega arith)) ∙ ap (take (length r)) p ∙ take-append_seam r t in
    go (drop (length r) bs) (ap (λ (l : List ℕ). l ++ drop (length r) bs) (sym q) ∙ take-append-drop (length r) bs) h)
    (le_or_lt (length bs) (length r))
  where
    go : (d : List ℕ) → r ++ d ≡ bs → length r < length bs → unfinished r ≡ true
    go [] q h = absurd (omega (arith, ap length (sym (append-nil r) ∙ q)))
    go (x ∷ d) q h = more_bytes r x d (ap utf8_char q ∙ e)

rest-unfinished : (r t : List ℕ) → (0 < length r → (m : ℕ) → utf8_char (take m r) ≡ true → ⊥) → {x : List ℕ} → WellFormed x → x ≡ r ++ t
    → unfinished r ≡ true
unfolding unfinished
rest-unfinished [] t f w p = refl
rest-unfinished (a ∷ r) t f none p = let z = ap length p in absurd (omega arith)
rest-unfinished (a ∷ r) t f (more bs s e w) p = goes-past (a ∷ r) t bs s (f (omega arith)) e p

pub is_unfinished : (s t : List ℕ) → WellFormed (s ++ t) → unfinished (drop (valid_up_to_of s) s) ≡ true
is_unfinished s t w =
    let v = valid_up_to_of s in
    let b = take v s in
    let r = drop v s in
    let j : b ++ (r ++ t) ≡ s ++ t = sym (append_assoc b r t) ∙ ap (λ (l : List ℕ). l ++ t) (take-append-drop v s) in
    let p = ap valid_up_to_of j ∙ well_formed_whole w in
    let q = valid_up_to_append b (r ++ t) (well_formed_whole (longest_well_formed s)) in
    let n = ap length j in
    let l = length-append b (r ++ t) in
    let x : valid_up_to_of (r ++ t) ≡ length (r ++ t) = omega arith in
    rest-unfinished r t (λ h. no_char_at r (bad-after s (omega (arith, length-drop v s)))) (whole_well_formed (r ++ t) x) refl

-- ---- unfinished bytes begin with no character, and are few

pub unfinished_no_char : (u : List ℕ) → unfinished u ≡ true → (m : ℕ) → utf8_char (take m u) ≡ true → ⊥
unfinished_no_char u e m c =
    ⊎_elim
    (λ z. let k = char-some (take m u) c in
    omega (arith, ap length z, ap length (take-append-drop m u), length-append (take m u) (drop m u)))
    (λ g.
    let x = g.0 ∷ g.1 in
    let p = grammar_read (u ++ x) [] g.2 in
    let q = grammar_read (take m u) (drop m u ++ x) c in
    let j : take m u ++ (drop m u ++ x) ≡ (u ++ x) ++ [] =
    sym (append_assoc (take m u) (drop m u) x) ∙ ap (λ (l : List ℕ). l ++ x) (take-append-drop m u) ∙ sym (append-nil (u ++ x)) in
    let r = sym q.read ∙ ap read_char j ∙ p.read in
    let w : length (take m u) ≡ length (u ++ x) = same_width r in
    omega (arith, length-append u x, ap length (take-append-drop m u), length-append (take m u) (drop m u)))
    (goes_on u e)
  where
    same_width : {a b v w : ℕ} → Char a v ≡ Char b w → v ≡ w
    same_width r = cc

pub unfinished-few : (u : List ℕ) → unfinished u ≡ true → length u ≤ 3
unfolding unfinished
unfinished-few [] e = omega arith
unfinished-few (a ∷ []) e = omega arith
unfinished-few (a ∷ b ∷ []) e = omega arith
unfinished-few (a ∷ b ∷ c ∷ []) e = omega arith
unfinished-few (a ∷ b ∷ c ∷ d ∷ u) e = absurd (true≢false (sym e))
