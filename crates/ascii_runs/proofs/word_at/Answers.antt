-- `ascii_runs::word_at` meets its contract: eight bytes are one word, and std's number of it is that of the bytes (`le_number`).
use Rattle.std.specs.Prelude.{◌≡◌, List, [], ℕ, ◌+◌, ◌-◌, ◌/◌, drop, get_or, length, take}
use Rattle.std.specs.Int.{from_le_bytes, w64}
use Rattle.std.specs.Simd.{first_chunks}
use mathlib.Core.Path.{ap, ◌∙◌}
use native.Mathlib.Omega.{arith}
use lib.ListN.{length-drop, length-take}
use lib.Seq.{take_all}
use Rattle.base.specs.Words.{number}
use Rattle.base.proofs.Words.{le_number}
use Rattle.ascii_runs.proofs.word_at.Goals as goal

one_word : (part : List ℕ) → length part ≡ 8 → from_le_bytes w64 (get_or (first_chunks 8 (length part / 8) part) 0 []) ≡ number part
one_word part l =
    let whole = take_all 8 part (omega (arith, l)) in
    ap (λ (n : ℕ). from_le_bytes w64 (get_or (first_chunks 8 (n / 8) part) 0 [])) l ∙ le_number (take 8 part)
    ∙ ap (λ (xs : List ℕ). number (take 8 xs)) whole ∙ ap number whole

pub returns : goal.returns
returns c =
    let at = c.args.at in
    let rest = drop at c.args.s.now in
    let e : at + 8 - at ≡ 8 = omega arith in
    let l : length (take (at + 8 - at) rest) ≡ 8 =
    omega (arith, length-take (at + 8 - at) rest, length-drop at c.args.s.now, c.requires) in
    c.from_le_bytes.ensures ∙ ap (λ (ws : List (List ℕ)). from_le_bytes w64 (get_or ws 0 [])) c.as_chunks.ensures.front
    ∙ one_word (take (at + 8 - at) rest) l ∙ ap (λ (n : ℕ). number (take n rest)) e
