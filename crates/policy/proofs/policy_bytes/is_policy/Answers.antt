-- `policy_bytes::is_policy` meets its contract, by the length, the version and the results for the four sets.
use mathlib.Core.Path.{ap, sym, ◌∙◌}
use Prim.Native.Nat.{ℕ}
use lib.Dec.{eqb}
use lib.ListN.{length}
use borrow.Author.Tests.{eq-eqb, ne_eqb}
use Rattle.emoji.specs.UnicodeData.{unicode_version, variation_entries}
use Rattle.policy_key_set.specs.Sets.{entry_count, word_count}
use Rattle.policy.specs.PolicyBytes.{is_policy, no_unused_bits, policy_of}
use Rattle.policy.proofs.policy_bytes.is_policy.Goals as goal

pub returns-then-bytes-ne-POLICY_BYTES : goal.returns-then-bytes-ne-POLICY_BYTES
unfolding is_policy no_unused_bits policy_of word_count entry_count variation_entries
returns-then-bytes-ne-POLICY_BYTES c = simp (ne_eqb (length c.args.bytes.now) 200 c.if-bytes-ne-POLICY_BYTES.true)

pub returns-then-read_word-ne-UNICODE_VERSION : goal.returns-then-read_word-ne-UNICODE_VERSION
unfolding is_policy no_unused_bits policy_of unicode_version word_count entry_count variation_entries
returns-then-read_word-ne-UNICODE_VERSION c =
    let w = c.read_word in
    simp (
      eq-eqb (length c.args.bytes.now) 200 c.if-bytes-ne-POLICY_BYTES.false,
      ap (λ (n : ℕ). eqb n 3840) (sym w.ensures) ∙ ne_eqb w.result 3840 c.if-read_word-ne-UNICODE_VERSION.true,
    )

pub returns-then-not-has_no_unused_bit : goal.returns-then-not-has_no_unused_bit
unfolding is_policy no_unused_bits policy_of unicode_version word_count entry_count variation_entries
returns-then-not-has_no_unused_bit c =
    let w = c.read_word in
    simp (
      eq-eqb (length c.args.bytes.now) 200 c.if-bytes-ne-POLICY_BYTES.false,
      ap (λ (n : ℕ). eqb n 3840) (sym w.ensures) ∙ eq-eqb w.result 3840 c.if-read_word-ne-UNICODE_VERSION.false,
      sym c.has_no_unused_bit.ensures ∙ c.if-not-has_no_unused_bit.true,
    )

pub returns-then-not-has_no_unused_bit-2 : goal.returns-then-not-has_no_unused_bit-2
unfolding is_policy no_unused_bits policy_of unicode_version word_count entry_count variation_entries
returns-then-not-has_no_unused_bit-2 c =
    let w = c.read_word in
    simp (
      eq-eqb (length c.args.bytes.now) 200 c.if-bytes-ne-POLICY_BYTES.false,
      ap (λ (n : ℕ). eqb n 3840) (sym w.ensures) ∙ eq-eqb w.result 3840 c.if-read_word-ne-UNICODE_VERSION.false,
      sym c.has_no_unused_bit.ensures ∙ c.if-not-has_no_unused_bit.false,
      sym c.has_no_unused_bit-2.ensures ∙ c.if-not-has_no_unused_bit-2.true,
    )

pub returns-then-not-has_no_unused_bit-3 : goal.returns-then-not-has_no_unused_bit-3
unfolding is_policy no_unused_bits policy_of unicode_version word_count entry_count variation_entries
returns-then-not-has_no_unused_bit-3 c =
    let w = c.read_word in
    simp (
      eq-eqb (length c.args.bytes.now) 200 c.if-bytes-ne-POLICY_BYTES.false,
      ap (λ (n : ℕ). eqb n 3840) (sym w.ensures) ∙ eq-eqb w.result 3840 c.if-read_word-ne-UNICODE_VERSION.false,
      sym c.has_no_unused_bit.ensures ∙ c.if-not-has_no_unused_bit.false,
      sym c.has_no_unused_bit-2.ensures ∙ c.if-not-has_no_unused_bit-2.false,
      sym c.has_no_unused_bit-3.ensures ∙ c.if-not-has_no_unused_bit-3.true,
    )

pub returns : goal.returns
unfolding is_policy no_unused_bits policy_of unicode_version word_count entry_count variation_entries
returns c =
    let w = c.read_word in
    simp (
      eq-eqb (length c.args.bytes.now) 200 c.if-bytes-ne-POLICY_BYTES.false,
      ap (λ (n : ℕ). eqb n 3840) (sym w.ensures) ∙ eq-eqb w.result 3840 c.if-read_word-ne-UNICODE_VERSION.false,
      sym c.has_no_unused_bit.ensures ∙ c.if-not-has_no_unused_bit.false,
      sym c.has_no_unused_bit-2.ensures ∙ c.if-not-has_no_unused_bit-2.false,
      sym c.has_no_unused_bit-3.ensures ∙ c.if-not-has_no_unused_bit-3.false,
      sym c.has_no_unused_bit-4.ensures,
    )
