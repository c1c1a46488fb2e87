-- `utf8::decode_long` meets its contract: after the end of the text a byte counts as 0, which is no UTF8-tail (Values).
use mathlib.Core.Path.{refl, ◌∙◌}
use Prim.Native.Nat.{◌+◌}
use native.Mathlib.Omega.{arith}
use lib.ListN.{get_or, get_or-eq_default}
use Rattle.utf8.proofs.Values.{packed_3, packed_4, packed_at, refused_at}
use Rattle.utf8.proofs.decode_long.Goals as goal

pub returns-then-s-at-lt3 : goal.returns-then-s-at-lt3
returns-then-s-at-lt3 c =
    let x = c.args in
    let z = get_or-eq_default x.s.now 0 {n = x.at + 2} (omega arith) in
    refused_at x.s.now x.at (omega arith)
    (λ p. omega arith) (λ p q. omega arith) (λ p q r l n. omega arith) (λ p q r t v. omega arith)

pub returns-then-c-lt128 : goal.returns-then-c-lt128
returns-then-c-lt128 c =
    let x = c.args in
    refused_at x.s.now x.at (omega arith)
    (λ p. omega arith) (λ p q. omega arith) (λ p q r l n. omega arith) (λ p q r t v. omega arith)

pub returns-then-c-gt191 : goal.returns-then-c-gt191
returns-then-c-gt191 c =
    let x = c.args in
    refused_at x.s.now x.at (omega arith)
    (λ p. omega arith) (λ p q. omega arith) (λ p q r l n. omega arith) (λ p q r t v. omega arith)

pub returns-then-a-le239 : goal.returns-then-a-le239
returns-then-a-le239 c =
    let x = c.args in
    let s = x.s.now in
    packed_at s x.at (omega arith) (c.pack_3.ensures ∙ packed_3 x.a x.b _ (get_or s (x.at + 3) 0) (omega arith) (omega arith))
    (omega arith) (omega arith) (omega arith) refl

pub returns-then-s-at-lt4 : goal.returns-then-s-at-lt4
returns-then-s-at-lt4 c =
    let x = c.args in
    let z = get_or-eq_default x.s.now 0 {n = x.at + 3} (omega arith) in
    refused_at x.s.now x.at (omega arith)
    (λ p. omega arith) (λ p q. omega arith) (λ p q r l n. omega arith) (λ p q r t v. omega arith)

pub returns : goal.returns
returns c =
    let x = c.args in
    packed_at x.s.now x.at (omega arith) (c.pack_4.ensures ∙ packed_4 x.a x.b _ _ (omega arith))
    (omega arith) (omega arith) (omega arith) (omega arith)
