use mathlib.Core.Path.{ap, ap₂, ◌∙◌}
use mathlib.Core.Bool.{Bool, ◌&&◌}
use Prim.Native.Nat.{ℕ}
use native.Mathlib.Omega.{arith}
use lib.ListN.{get_or, length-set}
use lib.Seq.{get_or-set_other}
use Rattle.base.specs.Bits.{one}
use Rattle.policy_key_set.specs.Sets.{entry_count}
use Rattle.policy_key_set.proofs.Bits.{and_one}
use Rattle.policy_key_set.proofs.Entries.{all_words, all_words_lem, entry_count_lem}
use Rattle.policy_key_set.proofs.Members.{Combined, set_more, word_wise}
use Rattle.policy_key_set.proofs.char_set.zip_words.Goals as goal

pub loop-i-preserved : goal.loop-i-preserved
loop-i-preserved g c =
    let l = c.loop-i in
    let a = c.args in (
      simp length-set (omega (arith, l.invariant.0)),
      (λ h p. set_more (λ (k w : ℕ). Combined h (get_or all_words_lem k 0) (get_or a.a.bits k 0) (get_or a.b.bits k 0) w) l.bits l.i _
          (omega (arith, l.invariant.0)) (l.invariant.1 h p)
          (λ k q. and_one k (get_or l.bits l.i 0) c.f.result
          ∙ ap₂ (λ (x y : Bool). x && y) (ap (one k) (l.invariant.2 l.i (omega arith)))
          (p (get_or a.a.bits l.i 0) (get_or a.b.bits l.i 0) c.f.result (omega arith) (omega arith) c.f.ensures k q))),
      (λ k q. get_or-set_other l.bits l.i k _ 0 (λ e. omega arith) ∙ l.invariant.2 k (omega arith)),
    )

pub returns : goal.returns
returns g c h p =
    let l = c.loop-i in
    word_wise h entry_count all_words_lem c.args.a.bits c.args.b.bits l.bits all_words (omega (arith, l.invariant.0, entry_count_lem))
    (λ k q. l.invariant.1 h p k (omega (arith, l.invariant.0)))
