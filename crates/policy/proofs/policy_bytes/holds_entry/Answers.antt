-- `policy_bytes::holds_entry` meets its contract: entry i is bit i mod 8 of byte i / 8 of the set.
use mathlib.Core.Path.{◌≡◌, ap, sym, ◌∙◌}
use Prim.Native.Nat.{ℕ, ◌+◌, ◌/◌, ◌%◌}
use native.Mathlib.Omega.{arith}
use lib.ListN.{get_or}
use lib.Seq.{get_or-drop}
use Rattle.emoji.specs.UnicodeData.{variation_entries}
use Rattle.base.specs.Bits.{one}
use Rattle.policy_key_set.specs.Sets.{entry_count, word_count}
use Rattle.policy_key_set.proofs.Members.{member-past}
use Rattle.policy.specs.PolicyBytes.{words_from}
use Rattle.policy.proofs.Bytes.{length_words_from}
use Rattle.policy.proofs.ByteBits.{member_of_bytes}
use Rattle.policy.proofs.policy_bytes.holds_entry.Goals as goal

pub returns-then-index-ge-SET_BITS : goal.returns-then-index-ge-SET_BITS
unfolding word_count entry_count variation_entries
returns-then-index-ge-SET_BITS c =
    let x = c.args in
    let ws = words_from 6 x.at x.bytes.now in
    sym (member-past ws x.index (omega (arith, length_words_from 6 x.at x.bytes.now)))

pub returns : goal.returns
unfolding word_count entry_count variation_entries
returns c =
    let x = c.args in
    let k : x.index % 8 % 64 ≡ x.index % 8 = omega arith in
    let j : x.at + x.index / 8 + 0 ≡ x.at + x.index / 8 = omega arith in
    let b = c.byte_at.ensures ∙ get_or-drop (x.at + x.index / 8) x.bytes.now 0 0
    ∙ ap (λ (i : ℕ). get_or x.bytes.now i 0) j ∙ sym (get_or-drop x.at x.bytes.now (x.index / 8) 0) in
    c.has_bit.ensures ∙ ap (λ (i : ℕ). one i c.byte_at.result) k ∙ ap (one (x.index % 8)) b
    ∙ sym
    (member_of_bytes 6 x.at x.index x.bytes.now
    (λ j. (c.type_inv.bytes j).fits) (omega arith))
