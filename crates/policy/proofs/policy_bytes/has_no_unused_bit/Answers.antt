-- `policy_bytes::has_no_unused_bit` meets its contract: all unused bits are in the last word.
use mathlib.Core.Path.{ap, sym, ◌∙◌}
use mathlib.Core.Bool.{◌||◌, not}
use Prim.Native.Nat.{ℕ, ◌+◌}
use native.Mathlib.Omega.{arith}
use lib.Dec.{ltb}
use Rattle.emoji.specs.UnicodeData.{variation_entries}
use Rattle.base.specs.Bits.{one}
use Rattle.policy_key_set.specs.Sets.{all_below, entry_count, word_count}
use Rattle.policy.specs.PolicyBytes.{no_unused_bit, words_from}
use Rattle.policy.proofs.Bytes.{get_or-words_from}
use Rattle.policy.proofs.Unused.{unused_in_last}
use Rattle.policy.proofs.policy_bytes.has_no_unused_bit.Goals as goal

pub returns : goal.returns
unfolding no_unused_bit word_count entry_count variation_entries
returns c =
    let x = c.args in
    c.last_is_used.ensures
    ∙ ap (λ (w : ℕ). all_below 64 (λ (k : ℕ). ltb (320 + k) 354 || not (one k w)))
    (c.read_word.ensures ∙ sym (get_or-words_from 6 x.at x.bytes.now 5 (omega arith)))
    ∙ sym (unused_in_last 354 5 (words_from 6 x.at x.bytes.now) (omega arith))
