-- `char_set::zip_words` meets its contract. The loop's invariant: each word before word `i` is combined from the two arguments' words, and
-- the others are the words of all entries. By the law `word_wise` the same holds for the entries.
use Rattle.std.proofs.Common.{◌≡◌, ◌^◌, ℕ, ◌<◌, ◌≤◌, length, get_or}
use mathlib.Core.Bool.{Bool}
use Rattle.base.specs.Bits.{one}
use Rattle.policy_key_set.proofs.Entries.{all_words_lem}
use Rattle.policy_key_set.proofs.Members.{Combined}
use Rattle.policy_key_set.proofs.char_set.zip_words.Given as goal

abbrev pub invariant-loop-i : goal.invariant-loop-i
invariant-loop-i g l =
    (length l.bits ≡ 6)
    × ((h : Bool → Bool → Bool)
    → ((x y w : ℕ) → x < 2 ^ 64 → y < 2 ^ 64 → g.F.Fn.post l.f (x, (y, tt)) w → (k : ℕ) → k < 64 → one k w ≡ h (one k x) (one k y))
    → (k : ℕ) → k < l.i → Combined h (get_or all_words_lem k 0) (get_or l.a.bits k 0) (get_or l.b.bits k 0) (get_or l.bits k 0))
    × ((k : ℕ) → l.i ≤ k → get_or l.bits k 0 ≡ get_or all_words_lem k 0)
