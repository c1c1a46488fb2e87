-- The bytes of the default policy fill a buffer of 200 bytes.
use Rattle.base.specs.declared.Refusal.{Refusal}
use Rattle.std.specs.Prelude.{Result}
use mathlib.Core.Path.{◌≡◌, refl, ap, ◌∙◌, subst}
use mathlib.Core.Bool.{Bool, cond}
use mathlib.Core.List.{List, ◌++◌, append-nil}
use Prim.Native.Nat.{ℕ}
use native.Mathlib.Omega.{arith}
use lib.ListN.{drop, length}
use lib.Seq.{drop-length}
use borrow.Author.Tests.{le-leb}
use Rattle.base.specs.Output.{Wrote, buffer_of}
use Rattle.base.specs.Words.{bytes_of, little_endian, word_bytes}
use Rattle.policy.specs.DefaultPolicy.{
  bare_as_text_words,
  bare_as_text_keycap_words,
  default_policy,
  prefer_bare_words,
  prefer_bare_keycap_words,
}
use Rattle.policy.specs.PolicyBytes.{key_words, policy_bytes, policy_words}
use Rattle.policy.specs.declared.Policy.{Policy}

-- A result as long as the buffer is the whole buffer after the call.
filled : {o o' r : List ℕ} {a : Result ℕ Refusal} → length r ≡ length o → Wrote r o o' a → o' ≡ r
unfolding buffer_of
filled {o} {o'} {r} e w =
    w.buffer ∙ ap (λ (t : Bool). cond t (r ++ drop (length r) o) o) (le-leb (length r) (length o) (omega arith))
    ∙ ap (λ (k : ℕ). r ++ drop k o) e ∙ ap (λ (xs : List ℕ). r ++ xs) (drop-length o) ∙ append-nil r

pub default_length : length (policy_bytes default_policy) ≡ 200
unfolding policy_bytes bytes_of policy_words key_words default_policy prefer_bare_words prefer_bare_keycap_words bare_as_text_words
    bare_as_text_keycap_words
    word_bytes
    little_endian
default_length = refl

pub default_written : {o o' : List ℕ} {p : Policy} {a : Result ℕ Refusal} → length o ≡ 200 → p ≡ default_policy
    → Wrote (policy_bytes p) o o' a
    → o' ≡ policy_bytes default_policy
default_written {o} {o'} {a = a} l e w = filled (omega (arith, l, default_length))
    (subst (λ (q : Policy). Wrote (policy_bytes q) o o' a) e w)
