-- The characters of a thread with their policies, when a piece is added: the characters that the piece completes end in it, so each of them
-- has the policy in force.
use mathlib.Core.Path.{◌≡◌, refl, ap, ap₂, sym, ◌∙◌}
use mathlib.Core.Logic.{⊎_elim}
use mathlib.Core.Bool.{true}
use mathlib.Core.List.{List, [], ◌∷◌, ◌++◌}
use Prim.Native.Nat.{ℕ, zero, suc, ◌+◌, ◌-◌, ◌≤◌, ◌<◌}
use native.Mathlib.Omega.{arith}
use lib.ListN.{get_or-append, drop, get_or, get_or-replicate, length, length-append, length-drop, replicate, take}
use lib.Seq.{drop-append-add, drop-append-le, drop-drop, get_or-append-add, take-append-le, take_at}
use Rattle.base.proofs.Tests.{le_or_lt}
use Rattle.utf8.specs.Rfc3629.{chars, encode, encode_all, read_char, utf8_char, valid_up_to_of}
use Rattle.utf8.specs.Subparts.{unfinished}
use Rattle.utf8.specs.declared.ReadChar.{ReadChar}
use Rattle.utf8.specs.declared.ReadChar.TheVariants.{Char, End, IllFormed}
use Rattle.utf8.proofs.Decoding.{utf8_char_encode}
use Rattle.utf8.proofs.Encoding.{char_begins, encode-few}
use Rattle.utf8.proofs.Folds.{chars-char, chars_end, chars_ill_formed}
use Rattle.utf8.proofs.Texts.{length_encode_all_chars, valid_up_to_le}
use Rattle.utf8.proofs.Unfinished.{unfinished_no_char}
use Rattle.policy.specs.declared.Policy.{Policy}
use Rattle.feed.specs.Feed.{Fed, fed_as}
use Rattle.feed.proofs.Calls.{chars-parted}
use Rattle.policy_change.specs.Calls.{fed_with}

-- ---- two parts

with_append : (xs bs : List ℕ) (ps : List Policy) (q : Policy)
    → fed_with (xs ++ bs) ps q ≡ fed_with xs ps q ++ fed_with bs (drop (length (encode_all xs)) ps) q
unfolding fed_with encode_all
with_append [] bs ps q = refl
with_append (c ∷ xs) bs ps q =
    let w = length (encode c) in
    ap (λ (l : List Fed). record { char = c; policy = get_or ps (w - 1) q } ∷ l)
    (with_append xs bs (drop w ps) q
    ∙ ap (λ (l : List Policy). fed_with xs (drop w ps) q ++ fed_with bs l q)
    (drop-drop (length (encode_all xs)) w ps ∙ ap (λ (n : ℕ). drop n ps) (sym (length-append (encode c) (encode_all xs)))))

-- Only the policies of the characters' own bytes count.
with_front : (xs : List ℕ) (ps rs : List Policy) (q : Policy) → length (encode_all xs) ≤ length ps → fed_with xs (ps ++ rs) q ≡ fed_with xs
    ps q
unfolding fed_with encode_all
with_front [] ps rs q h = refl
with_front (c ∷ xs) ps rs q h =
    let w = length (encode c) in
    let f = encode-few c in
    let m = length-append (encode c) (encode_all xs) in
    ap₂ (λ (p : Policy) (l : List Fed). record { char = c; policy = p } ∷ l)
    (get_or-append ps rs q (w - 1) (omega arith))
    (ap (λ (l : List Policy). fed_with xs l q) (drop-append-le w ps rs (omega arith))
    ∙ with_front xs (drop w ps) rs q (omega (arith, length-drop w ps)))

-- ---- under one policy

drop_replicate : (n k : ℕ) (p : Policy) → drop k (replicate n p) ≡ replicate (n - k) p
drop_replicate n zero p = let e : n ≡ n - 0 = omega arith in ap (λ (m : ℕ). replicate m p) e
drop_replicate zero (suc k) p = let e : 0 ≡ 0 - suc k = omega arith in ap (λ (m : ℕ). replicate m p) e
drop_replicate (suc n) (suc k) p =
    let e : n - k ≡ suc n - suc k = omega arith in
    drop_replicate n k p ∙ ap (λ (m : ℕ). replicate m p) e

pub with_one : (xs : List ℕ) (n : ℕ) (p q : Policy) → length (encode_all xs) ≤ n → fed_with xs (replicate n p) q ≡ fed_as p xs
unfolding fed_with encode_all
with_one [] n p q h = refl
with_one (c ∷ xs) n p q h =
    let w = length (encode c) in
    let f = encode-few c in
    let m = length-append (encode c) (encode_all xs) in
    ap₂ (λ (r : Policy) (l : List Fed). record { char = c; policy = r } ∷ l)
    (get_or-replicate n (w - 1) p q (omega arith))
    (ap (λ (l : List Policy). fed_with xs l q) (drop_replicate n w p) ∙ with_one xs (n - w) p q (omega arith))

-- The first character ends after the bytes whose policies come first.
first-late : (c : ℕ) (xs : List ℕ) (ds : List Policy) (n : ℕ) (p q : Policy) → length ds < length (encode c)
    → length (encode_all (c ∷ xs)) ≤ length ds + n → fed_with (c ∷ xs) (ds ++ replicate n p) q ≡ fed_as p (c ∷ xs)
unfolding fed_with encode_all
first-late c xs ds n p q l h =
    let w = length (encode c) in
    let m = length-append (encode c) (encode_all xs) in
    let i = w - 1 - length ds in
    let e : w - 1 ≡ length ds + i = omega arith in
    let k = w - length ds in
    let d : w ≡ length ds + k = omega arith in
    ap₂ (λ (r : Policy) (l : List Fed). record { char = c; policy = r } ∷ l)
    (ap (λ (j : ℕ). get_or (ds ++ replicate n p) j q) e ∙ get_or-append-add ds (replicate n p) i q ∙ get_or-replicate n i p q (omega arith))
    (ap (λ (l : List Policy). fed_with xs l q)
    (ap (λ (j : ℕ). drop j (ds ++ replicate n p)) d ∙ drop-append-add ds (replicate n p) k ∙ drop_replicate n k p)
    ∙ with_one xs (n - k) p q (omega arith))

-- The characters that a piece completes after unfinished bytes.
completed-late : (r b : List ℕ) (ds : List Policy) (p q : Policy) → unfinished r ≡ true → length ds ≡ length r
    → fed_with (chars (r ++ b)) (ds ++ replicate (length b) p) q ≡ fed_as p (chars (r ++ b))
unfolding fed_with
completed-late r b ds p q e h = go (read_char (r ++ b)) refl
  where
    none : chars (r ++ b) ≡ [] → fed_with (chars (r ++ b)) (ds ++ replicate (length b) p) q ≡ fed_as p (chars (r ++ b))
    none c = ap (λ (l : List ℕ). fed_with l (ds ++ replicate (length b) p) q) c ∙ ap (fed_as p) (sym c)

    go : (x : ReadChar) → read_char (r ++ b) ≡ x
        → fed_with (chars (r ++ b)) (ds ++ replicate (length b) p) q ≡ fed_as p (chars (r ++ b))
    go End x = none (chars_end (r ++ b) x)
    go (IllFormed k) x = none (chars_ill_formed (r ++ b) x)
    go (Char v w) x =
        let c = char_begins (r ++ b) v w x in
        let d = drop w (r ++ b) in
        let C = chars-char (r ++ b) v w x in
        ⊎_elim
        (λ m.
        let t : take w r ≡ encode v = sym (take-append-le w r b m) ∙ ap (take w) (sym c.bytes) ∙ take_at (encode v) d w c.width in
        absurd (unfinished_no_char r e w (ap utf8_char t ∙ utf8_char_encode v c.is_scalar_lem)))
        (λ m.
        ap (λ (l : List ℕ). fed_with l (ds ++ replicate (length b) p) q) C
        ∙ first-late v (chars d) ds (length b) p q (omega (arith, c.width))
        (omega (
          arith,
          ap (λ (l : List ℕ). length (encode_all l)) (sym C),
          length_encode_all_chars (r ++ b),
          valid_up_to_le (r ++ b),
          length-append r b,
        ))
        ∙ ap (fed_as p) (sym C))
        (le_or_lt w (length r))

-- A piece after a thread.
pub with_piece : (T b : List ℕ) (ps : List Policy) (p q : Policy) → length ps ≡ length T → unfinished (drop (valid_up_to_of T) T) ≡ true
    → fed_with (chars (T ++ b)) (ps ++ replicate (length b) p) q ≡ fed_with (chars T) ps q
    ++ fed_as p (chars (drop (valid_up_to_of T) T ++ b))
with_piece T b ps p q h u =
    let D = drop (valid_up_to_of T) T in
    let rs = replicate (length b) p in
    let E = length (encode_all (chars T)) in
    let e : E ≡ valid_up_to_of T = length_encode_all_chars T in
    let l : E ≤ length ps = omega (arith, valid_up_to_le T) in
    ap (λ (cs : List ℕ). fed_with cs (ps ++ rs) q) (chars-parted T b)
    ∙ with_append (chars T) (chars (D ++ b)) (ps ++ rs) q
    ∙ ap₂ (λ (x y : List Fed). x ++ y) (with_front (chars T) ps rs q l)
    (ap (λ (xs : List Policy). fed_with (chars (D ++ b)) xs q) (drop-append-le E ps rs l)
    ∙ completed-late D b (drop E ps) p q u (omega (arith, length-drop E ps, length-drop (valid_up_to_of T) T)))
