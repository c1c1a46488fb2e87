-- `policy::policy_bytes::policy_refusal` meets its contract, by the length and the version.
use mathlib.Core.Path.{ap, sym, ◌∙◌}
use Prim.Native.Nat.{ℕ}
use lib.Dec.{eqb}
use lib.ListN.{length}
use borrow.Author.Tests.{eq-eqb, ne_eqb}
use Rattle.emoji.specs.UnicodeData.{unicode_version, variation_entries}
use Rattle.policy_key_set.specs.Sets.{entry_count, word_count}
use Rattle.policy.specs.PolicyBytes.{policy_fault}
use Rattle.policy.proofs.policy_bytes.policy_refusal.Goals as goal

pub returns-then-bytes-ne-POLICY_BYTES : goal.returns-then-bytes-ne-POLICY_BYTES
unfolding policy_fault word_count entry_count variation_entries
returns-then-bytes-ne-POLICY_BYTES c = simp (ne_eqb (length c.args.bytes.now) 200 c.if-bytes-ne-POLICY_BYTES.true)

pub returns-then-read_word-ne-UNICODE_VERSION : goal.returns-then-read_word-ne-UNICODE_VERSION
unfolding policy_fault unicode_version word_count entry_count variation_entries
returns-then-read_word-ne-UNICODE_VERSION c =
    let w = c.read_word in
    simp (
      eq-eqb (length c.args.bytes.now) 200 c.if-bytes-ne-POLICY_BYTES.false,
      ap (λ (n : ℕ). eqb n 3840) (sym w.ensures) ∙ ne_eqb w.result 3840 c.if-read_word-ne-UNICODE_VERSION.true,
    )

pub returns : goal.returns
unfolding policy_fault unicode_version word_count entry_count variation_entries
returns c =
    let w = c.read_word in
    simp (
      eq-eqb (length c.args.bytes.now) 200 c.if-bytes-ne-POLICY_BYTES.false,
      ap (λ (n : ℕ). eqb n 3840) (sym w.ensures) ∙ eq-eqb w.result 3840 c.if-read_word-ne-UNICODE_VERSION.false,
    )
