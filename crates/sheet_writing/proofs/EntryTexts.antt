-- The bytes that an entry adds to a line, in a buffer.
use mathlib.Core.Path.{◌≡◌, refl, ap, ap₂, sym, ◌∙◌}
use mathlib.Core.Bool.{Bool, true, false, ◌||◌}
use mathlib.Core.List.{List, [], ◌∷◌, ◌++◌}
use Prim.Native.Nat.{ℕ, ◌+◌, ◌≤◌, ◌<◌}
use native.Mathlib.Numerals.{add-one}
use lib.ListN.{drop, drop_of_length-le, get_or, length, length-append, length-set, set}
use lib.Seq.{drop-cons, length-sets}
use native.Mathlib.Omega.{arith}
use Rattle.base.specs.Output.{PutAt}
use Rattle.base.proofs.Writer.{put_as, put_then}
use Rattle.policy_key_set.specs.Display.{hex_digits}
use Rattle.policy_key_set.proofs.Texts.{hex_length}
use Rattle.policy_sheet.specs.Writer.{fewest_digits, first_in, point_text}
use Rattle.sheet_writing.specs.OnePass.{entry_text, with_comma, line_from}

pub point_put : {o o' : List ℕ} {s r : ℕ} (width c : ℕ) → width ≡ fewest_digits c → PutAt o s (hex_digits width c) o' r
    → PutAt o s (point_text c) o' r
point_put width c e p = put_as (point_text c) (ap (λ (w : ℕ). hex_digits w c) e) p

pub marked_put : {o o' : List ℕ} {s r : ℕ} (b c : ℕ) → PutAt (set o s b) (s + 1) (point_text c) o' r → PutAt o s (b ∷ point_text c) o' r
marked_put {o} {s = s} b c p = put_then {xs = b ∷ []} (record { ends = refl; bytes = refl }) p

pub put_length : {o' xs : List ℕ} {s r : ℕ} (o : List ℕ) → PutAt o s xs o' r → length o' ≡ length o
put_length {o'} {xs} {s} o p = ap length p.bytes ∙ length-sets o s xs

pub marked-room : (o : List ℕ) (s b c : ℕ) → s + length (b ∷ point_text c) ≤ length o → s + 1 + length (point_text c) ≤ length (set o s b)
marked-room o s b c h = omega (arith, length-set o s b)

-- The bytes that an entry adds, by the tests of the code.
pub entry_out : {h : Bool} (b a n : Bool) (c : ℕ) → h ≡ false → [] ≡ entry_text b a h n c
unfolding entry_text
entry_out b a n c e = sym (ap (λ (h : Bool). entry_text b a h n c) e)

pub entry_inside : {b h n : Bool} (a : Bool) (c : ℕ) → h ≡ true → b ≡ true → n ≡ true → [] ≡ entry_text b a h n c
unfolding entry_text
entry_inside {b} {h} {n} a c e f g = sym (ap (λ (h : Bool). entry_text b a h n c) e ∙ ap (λ (b : Bool). entry_text b a true n c) f
    ∙ ap (λ (n : Bool). entry_text true a true n c) g)

pub entry_last : {b h n : Bool} (a : Bool) (c : ℕ) → h ≡ true → b ≡ true → n ≡ false → 0x2D ∷ point_text c ≡ entry_text b a h n c
unfolding entry_text
entry_last {b} {h} {n} a c e f g = sym (ap (λ (h : Bool). entry_text b a h n c) e ∙ ap (λ (b : Bool). entry_text b a true n c) f
    ∙ ap (λ (n : Bool). entry_text true a true n c) g)

pub entry_more : {b a h : Bool} (n : Bool) (c : ℕ) → h ≡ true → b ≡ false → a ≡ true → 0x2C ∷ point_text c ≡ entry_text b a h n c
unfolding entry_text with_comma
entry_more {b} {a} {h} n c e f g = sym (ap (λ (h : Bool). entry_text b a h n c) e ∙ ap (λ (b : Bool). entry_text b a true n c) f
    ∙ ap (λ (a : Bool). entry_text false a true n c) g)

pub entry_first : {b a h : Bool} (n : Bool) (c : ℕ) → h ≡ true → b ≡ false → a ≡ false → point_text c ≡ entry_text b a h n c
unfolding entry_text with_comma
entry_first {b} {a} {h} n c e f g = sym (ap (λ (h : Bool). entry_text b a h n c) e ∙ ap (λ (b : Bool). entry_text b a true n c) f
    ∙ ap (λ (a : Bool). entry_text false a true n c) g)

pub put_none : (o : List ℕ) (s : ℕ) → PutAt o s [] o s
put_none o s = record { ends = omega arith; bytes = refl }

pub entry_room : {xs ys : List ℕ} {n : ℕ} (s : ℕ) → xs ≡ ys → s + length ys ≤ n → s + length xs ≤ n
entry_room s e h = omega (arith, ap length e)

-- ---- a line, entry by entry

pub head-here : (p : ℕ → Bool) (cs : List ℕ) (i : ℕ) → i < length cs → first_in p i (drop i cs) ≡ p i
unfolding first_in
head-here p cs i l = ap (first_in p i) (drop-cons cs i 0 l)

pub head-past : (p : ℕ → Bool) (cs : List ℕ) (i : ℕ) → length cs ≤ i → first_in p i (drop i cs) ≡ false
unfolding first_in
head-past p cs i l = ap (first_in p i) (drop_of_length-le cs l)

pub line_step : {here next : Bool} {c : ℕ} (p : ℕ → Bool) (cs : List ℕ) (i : ℕ) (before any : Bool) → i < length cs
    → here ≡ first_in p i (drop i cs)
    → next ≡ first_in p (i + 1) (drop (i + 1) cs) → c ≡ get_or cs i 0
    → line_from p i before any (drop i cs) ≡ entry_text before any here next c ++ line_from p (i + 1) here (any || here) (drop (i + 1) cs)
unfolding line_from
line_step {here} {next} {c} p cs i before any l e f g =
    let h : here ≡ p i = e ∙ head-here p cs i l in
    ap (line_from p i before any) (drop-cons cs i 0 l)
    ∙ ap (λ (m : ℕ). entry_text before any (p i) (first_in p m (drop m cs)) (get_or cs i 0) ++ line_from p m (p i) (any || p i) (drop m cs))
    (sym (add-one i))
    ∙ ap (λ (b : Bool). entry_text before any b (first_in p (i + 1) (drop (i + 1) cs)) (get_or cs i 0) ++ line_from p (i + 1) b (any || b)
    (drop (i + 1) cs)) (sym h)
    ∙ ap₂ (λ (n : Bool) (x : ℕ). entry_text before any here n x ++ line_from p (i + 1) here (any || here) (drop (i + 1) cs)) (sym f) (sym g)

pub line-done : (p : ℕ → Bool) (cs : List ℕ) (i : ℕ) (before any : Bool) → length cs ≤ i → line_from p i before any (drop i cs) ≡ []
unfolding line_from
line-done p cs i before any l = ap (line_from p i before any) (drop_of_length-le cs l)

-- ---- lengths

pub point_length : (w c : ℕ) → w ≡ fewest_digits c → w ≡ length (point_text c)
point_length w c e = e ∙ sym (hex_length (fewest_digits c) c)

pub one_longer : (w b c : ℕ) → w ≡ fewest_digits c → w + 1 ≡ length (b ∷ point_text c)
one_longer w b c e = let n = point_length w c e in omega arith

pub measured : {r w : ℕ} (n : ℕ) (t x u v : List ℕ) → n + length t ≡ w → t ≡ x ++ u → r ≡ length x → v ≡ u → n + r + length v ≡ w
measured n t x u v h e f g = omega (arith, h, f, ap length e, length-append x u, ap length g)
