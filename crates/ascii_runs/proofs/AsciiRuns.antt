-- Runs of ASCII bytes: a run can be extended, a run that cannot be extended is the longest, and each byte of a run is a character.
use mathlib.Core.Path.{◌≡◌, refl, sym, ap, ◌∙◌, subst}
use mathlib.Core.Logic.{⊎_elim}
use mathlib.Core.Bool.{Bool, true, false, cond, true≢false}
use mathlib.Core.List.{List, [], ◌∷◌}
use Prim.Native.Nat.{ℕ, zero, suc, ◌+◌, ◌-◌, ◌≤◌, ◌<◌}
use native.Mathlib.Omega.{arith}
use Rattle.std.proofs.Common.{nat_lt}
use Rattle.std.proofs.lemmas.Grind.{common_steps}
use Rattle.std.specs.List.{take_while}
use lib.ListN.{get_or, length, length-drop, drop}
use lib.Seq.{get_or-drop}
use Rattle.utf8.specs.Rfc3629.{utf8_1, read_char, valid_up_to_of}
use Rattle.utf8.specs.declared.ReadChar.TheVariants.{Char}
use Rattle.ascii_runs.specs.Ascii.{AllUpTo, AsciiRun, NoAsciiAt, ascii_bytes, ascii_end}
use Rattle.base.proofs.Tests.{le_or_lt, within_in, within_true}
use Rattle.utf8.proofs.Fronts.{read_four_1, read_four_at}
use Rattle.utf8.proofs.Places.{Step, step}

-- ---- a run and its extensions

pub run_none : (s : List ℕ) (from : ℕ) → AsciiRun s from from
run_none s from = record { from_le = omega arith; inside = λ h. h; after = λ h. refl; ascii = λ k l h. absurd (omega arith) }

-- A run, and a run that starts where it ends.
pub run_then : {s : List ℕ} {from at end : ℕ} → AsciiRun s from at → AsciiRun s at end → AsciiRun s from end
run_then {s} {from} {at} p q = record {
  from_le = omega (arith, p.from_le, q.from_le);
  inside = λ l. q.inside (p.inside l);
  after = λ b. omega (arith, p.after b, q.after (omega (arith, p.after b)));
  ascii = λ k l j. ⊎_elim (λ b. q.ascii k b j) (λ b. p.ascii k l b) (le_or_lt at k);
}

pub run_on : {s : List ℕ} {from at : ℕ} (top n : ℕ) → AsciiRun s from at → AllUpTo top s at n → top ≤ 0x7F → at + n ≤ length s
    → AsciiRun s from (at + n)
run_on {s} {from} {at} top n r u t h = record {
  from_le = let l = r.from_le in omega arith;
  inside = λ l. h;
  after = λ b. let l = r.from_le in omega arith;
  ascii = λ k l j. ⊎_elim (λ b. omega (arith, u.each k b j)) (λ b. r.ascii k l b) (le_or_lt at k);
}

-- ---- the longest run

ascii_1 : (a : ℕ) → a ≤ 0x7F → utf8_1 a ≡ true
unfolding utf8_1
ascii_1 a h = within_true 0x00 0x7F a (omega arith) h

ascii_up_to : (a : ℕ) → utf8_1 a ≡ true → a ≤ 0x7F
unfolding utf8_1
ascii_up_to a h = (within_in 0x00 0x7F a h).high

ascii_above : (a : ℕ) → utf8_1 a ≡ false → 0x7F < a
ascii_above a h = ⊎_elim (λ l. absurd (true≢false (sym (ascii_1 a l) ∙ h))) (λ l. l) (le_or_lt a 0x7F)

-- The first n bytes of s are ASCII, and the byte after them, if there is one, is not.
record Front (s : List ℕ) (n : ℕ) : Type 0 where
  room : n ≤ length s
  ascii : (k : ℕ) → k < n → get_or s k 0 ≤ 0x7F
  ends : NoAsciiAt s n

front : (s : List ℕ) → Front s (ascii_bytes s)
unfolding ascii_bytes
front [] = record { room = omega arith; ascii = λ k h. omega arith; ends = λ h. absurd (omega arith) }
front (b ∷ s) = go (utf8_1 b) refl (front s)
  where
    go : (x : Bool) → utf8_1 b ≡ x → Front s (ascii_bytes s) → Front (b ∷ s) (cond x (suc (ascii_bytes s)) 0)
    go false e f = record { room = omega arith; ascii = λ k h. absurd (omega arith); ends = λ h. ascii_above b e }
    go true e f = record { room = let r = f.room in omega arith; ascii = each; ends = λ h. f.ends (omega arith) }
      where
        each : (k : ℕ) → k < suc (ascii_bytes s) → get_or (b ∷ s) k 0 ≤ 0x7F
        each zero h = ascii_up_to b e
        each (suc k) h = f.ascii k (omega arith)

-- The run up to `ascii_end`, from any offset.
run-longest : (s : List ℕ) (from : ℕ) → AsciiRun s from (ascii_end s from)
unfolding ascii_end
run-longest s from =
    let f = front (drop from s) in
    let d = length-drop from s in
    record {
      from_le = omega arith;
      inside = λ h. omega (arith, f.room);
      after = λ h. omega (arith, f.room);
      ascii = λ k l h.
          let e : from + (k - from) ≡ k = omega arith in
          omega (arith, f.ascii (k - from) (omega arith), get_or-drop from s (k - from) 0, ap (λ (n : ℕ). get_or s n 0) e);
    }

longest-ends : (s : List ℕ) (from : ℕ) → NoAsciiAt s (ascii_end s from)
unfolding ascii_end
longest-ends s from h =
    let n = ascii_bytes (drop from s) in
    omega (arith, (front (drop from s)).ends (omega (arith, length-drop from s)), get_or-drop from s n 0)

pub longest_at : {s : List ℕ} {from end : ℕ} → end ≡ ascii_end s from → AsciiRun s from end × NoAsciiAt s end
longest_at {s} {from} e =
    subst (λ (n : ℕ). AsciiRun s from n × NoAsciiAt s n) (sym e) (run-longest s from, longest-ends s from)

-- A run that cannot be extended is the longest: neither of the two ends lies inside the other run.
pub at_longest : {s : List ℕ} {from end : ℕ} → AsciiRun s from end → NoAsciiAt s end → end ≡ ascii_end s from
at_longest {s} {from} {end} r stop = ⊎_elim within-bytes past (le_or_lt from (length s))
  where
    last : ℕ
    last = ascii_end s from

    q : AsciiRun s from last
    q = run-longest s from

    within-bytes : from ≤ length s → end ≡ last
    within-bytes h =
        let not-before : end < last → ⊥ = λ l. omega (arith, q.ascii end r.from_le l, stop (omega (arith, q.inside h))) in
        let not_after : last < end → ⊥ =
        λ l. omega (arith, r.ascii last q.from_le l, longest-ends s from (omega (arith, r.inside h))) in
        omega (arith, not-before, not_after)

    past : length s < from → end ≡ last
    past h = omega (arith, r.after (omega arith), q.after (omega arith))

-- The ASCII bytes at the front are the bytes below 80 that std takes.
pub bytes_while : (s : List ℕ) → ascii_bytes s ≡ length (take_while (λ b. nat_lt b 128) s)
unfolding ascii_bytes utf8_1
bytes_while [] = refl
bytes_while (b ∷ s) = grind (arith, common_steps, bytes_while s)

-- From the end of a run on, the longest run is the ASCII bytes there.
pub longest_on : {s : List ℕ} {from : ℕ} (at : ℕ) → AsciiRun s from at → at + ascii_bytes (drop at s) ≡ ascii_end s from
unfolding ascii_end
longest_on {s} at r = at_longest (run_then r (run-longest s at)) (longest-ends s at)

-- ---- an ASCII byte is a character of one byte

pub read_char_ascii_at : (s : List ℕ) (at : ℕ) → at < length s → get_or s at 0 ≤ 0x7F → read_char (drop at s) ≡ Char (get_or s at 0) 1
read_char_ascii_at s at l h =
    sym (read_four_at s at l)
    ∙ read_four_1 (get_or s at 0) (get_or s (at + 1) 0) (get_or s (at + 2) 0) (get_or s (at + 3) 0) (ascii_1 (get_or s at 0) h)

-- A property that passes from each byte of a run to the next holds at the end of the run if it holds at the start.
module _ {s : List ℕ} {from end : ℕ} (run : AsciiRun s from end) (h : from ≤ length s)
    (P : ℕ → Type 0) (on : (k : ℕ) → Step s k (get_or s k 0) 1 → P k → P (k + 1)) (begin : P from) where
  up_to : (n : ℕ) → from + n ≤ end → P (from + n)
  up_to zero l = subst P (omega arith) begin
  up_to (suc n) l =
      let e : from + n + 1 ≡ from + suc n = omega arith in
      let i : from + n < length s = omega (arith, run.inside h) in
      let a = run.ascii (from + n) (omega arith) (omega arith) in
      subst P e (on (from + n) (step s (from + n) (get_or s (from + n) 0) 1 (read_char_ascii_at s (from + n) i a)) (up_to n (omega arith)))

  pub through_run : P end
  through_run = let e : from + (end - from)
      ≡ end = omega (arith, run.from_le) in subst P e (up_to (end - from) (omega (arith, run.from_le)))

-- The longest well-formed prefix contains a run of ASCII bytes that starts in it.
pub valid_up_to-past : {s : List ℕ} {from end total : ℕ} → AsciiRun s from end → from ≤ length s
    → from + valid_up_to_of (drop from s) ≡ total → end + valid_up_to_of (drop end s) ≡ total
valid_up_to-past {s} {from} {end} {total} run h e =
    through_run run h (λ k. k + valid_up_to_of (drop k s) ≡ total) (λ k f p. omega (arith, f.valid_up_to_on)) e
