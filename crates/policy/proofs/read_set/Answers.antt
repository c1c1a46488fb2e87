use mathlib.Core.Path.{◌≡◌, refl, sym, ◌∙◌}
use Prim.Native.Nat.{ℕ, ◌+◌, ◌*◌}
use native.Mathlib.Nat.{not-suc-le-zero}
use native.Mathlib.Omega.{arith}
use lib.ListN.{drop, length-set, take}
use lib.Seq.{ext_get_or}
use Rattle.base.specs.Words.{number}
use Rattle.emoji.specs.UnicodeData.{variation_entries}
use Rattle.policy_key_set.specs.Sets.{entry_count, word_count}
use Rattle.policy_key_set.proofs.Members.{set_more}
use Rattle.policy.specs.PolicyBytes.{words_from}
use Rattle.policy.proofs.Bytes.{get_or-words_from, length_words_from}
use Rattle.policy.proofs.read_set.Goals as goal

pub loop-i-init : goal.loop-i-init
loop-i-init c = (refl, (λ k l. absurd (not-suc-le-zero l)))

pub loop-i-preserved : goal.loop-i-preserved
loop-i-preserved c =
    let l = c.loop-i in
    let x = c.args in (
      simp length-set l.invariant.0,
      set_more (λ (k v : ℕ). v ≡ number (take 8 (drop (x.at + k * 8) x.bytes.now))) l.bits l.i c.read_word.result
          (omega arith) l.invariant.1 c.read_word.ensures,
    )

pub returns : goal.returns
unfolding word_count entry_count variation_entries
returns c =
    let l = c.loop-i in
    let x = c.args in
    ext_get_or 0 l.bits (words_from 6 x.at x.bytes.now) (l.invariant.0 ∙ sym (length_words_from 6 x.at x.bytes.now))
    (λ k h. l.invariant.1 k (omega arith) ∙ sym (get_or-words_from 6 x.at x.bytes.now k (omega arith)))
