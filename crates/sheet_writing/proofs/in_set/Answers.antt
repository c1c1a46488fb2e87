-- `sheet_writing::in_set` meets its contract.
use mathlib.Core.Path.{◌∙◌, sym}
use Prim.Native.Nat.{ℕ}
use native.Mathlib.Omega.{arith}
use borrow.Author.Tests.{le-ltb}
use Rattle.emoji.specs.UnicodeData.{variation_entries}
use Rattle.policy_key_set.specs.Sets.{member}
use Rattle.policy_key_set.proofs.Entries.{entries_length}
use Rattle.sheet_writing.proofs.EntryTexts.{head-here, head-past}
use Rattle.sheet_writing.proofs.in_set.Goals as goal

pub returns-then-i-lt-VARIATION_ENTRY_COUNT : goal.returns-then-i-lt-VARIATION_ENTRY_COUNT
unfolding member
returns-then-i-lt-VARIATION_ENTRY_COUNT c =
    let a = c.args in
    c.has_bit.ensures ∙ sym (head-here (λ (j : ℕ). member j a.set.bits) variation_entries a.i (omega (arith, entries_length)))

pub returns-else-i-lt-VARIATION_ENTRY_COUNT : goal.returns-else-i-lt-VARIATION_ENTRY_COUNT
returns-else-i-lt-VARIATION_ENTRY_COUNT c =
    let a = c.args in
    le-ltb a.i 354 (omega arith)
    ∙ sym (head-past (λ (j : ℕ). member j a.set.bits) variation_entries a.i (omega (arith, entries_length)))
