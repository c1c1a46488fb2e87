-- `utf8::decode` meets its contract: each returned number is the packed number of the bytes at the offset (Values).
use Prim.Native.Nat.{◌+◌}
use native.Mathlib.Omega.{arith}
use lib.ListN.{get_or-eq_default}
use Rattle.utf8.proofs.Values.{packed-past_end, reads_1_at, reads_2_at, refused_at}
use Rattle.utf8.proofs.decode.Goals as goal

pub returns-then-s-at : goal.returns-then-s-at
returns-then-s-at c =
    let x = c.args in
    packed-past_end x.s.now x.at (omega arith)

pub returns-then-a-le127 : goal.returns-then-a-le127
returns-then-a-le127 c =
    let x = c.args in
    omega (arith, reads_1_at x.s.now x.at (omega arith) (omega arith))

pub returns-then-a-lt194 : goal.returns-then-a-lt194
returns-then-a-lt194 c =
    let x = c.args in
    refused_at x.s.now x.at (omega arith)
    (λ p. omega arith) (λ p q. omega arith) (λ p q r l n. omega arith) (λ p q r t v. omega arith)

pub returns-then-s-at-lt2 : goal.returns-then-s-at-lt2
returns-then-s-at-lt2 c =
    let x = c.args in
    let z = get_or-eq_default x.s.now 0 {n = x.at + 1} (omega arith) in
    refused_at x.s.now x.at (omega arith)
    (λ p. omega arith) (λ p q. omega arith) (λ p q r l n. omega arith) (λ p q r t v. omega arith)

pub returns-then-b-lt128 : goal.returns-then-b-lt128
returns-then-b-lt128 c =
    let x = c.args in
    refused_at x.s.now x.at (omega arith)
    (λ p. omega arith) (λ p q. omega arith) (λ p q r l n. omega arith) (λ p q r t v. omega arith)

pub returns-then-b-gt191 : goal.returns-then-b-gt191
returns-then-b-gt191 c =
    let x = c.args in
    refused_at x.s.now x.at (omega arith)
    (λ p. omega arith) (λ p q. omega arith) (λ p q r l n. omega arith) (λ p q r t v. omega arith)

pub returns-then-a-le223 : goal.returns-then-a-le223
returns-then-a-le223 c =
    let x = c.args in
    omega (arith, reads_2_at x.s.now x.at (omega arith) (omega arith) (omega arith))

pub decode_long-requires : goal.decode_long-requires
decode_long-requires c = let k = (c.type_inv.s c.args.at).fits in
    record { bytes = (omega arith, omega arith, omega arith); ranges = (omega arith, omega (arith, k), omega arith, omega arith) }
