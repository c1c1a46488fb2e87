-- The laws that the loops of `measure` and `write_repaired` use: the well-formed bytes from an offset on, and the bad place after them.
use mathlib.Core.Path.{◌≡◌, sym, ap, ap₂, ◌∙◌, subst}
use mathlib.Core.List.{List, [], ◌++◌, append_assoc}
use Prim.Native.Nat.{ℕ, suc, ◌+◌, ◌-◌, ◌≤◌, ◌<◌}
use native.Mathlib.Omega.{arith}
use lib.ListN.{drop, length, length-append, length-drop, take}
use lib.Seq.{drop-drop, length-take-le}
use Rattle.utf8.specs.Rfc3629.{chars, encode, encode_all, read_char, subpart_of, valid_up_to_of}
use Rattle.utf8.proofs.Folds.{
  Reading,
  chars-char,
  chars_end,
  chars_ill_formed,
  read_end,
  read_ill_formed,
  read_more,
  reading,
  valid_up_to-char,
  valid_up_to_end,
  valid_up_to_ill_formed,
}
use Rattle.utf8.proofs.Fronts.{read_char-past_end}
use Rattle.utf8.proofs.Texts.{encode_all-chars_take, valid_up_to_le}
use Rattle.repair.specs.Repaired.{repaired, replacement_bytes, replacements}
use Rattle.utf8.specs.declared.ReadChar.TheVariants.{IllFormed}
use Rattle.repair.proofs.Places.{repaired-bad, repaired-char, repaired_end, replacements-bad, replacements-char, replacements_end}
use Rattle.utf8.proofs.Subparts.{bad-maximal}
use Rattle.utf8.proofs.Unfinished.{bad-after}

-- The repaired text begins with the longest well-formed beginning of the text.
pub record Front (s : List ℕ) : Type 0 where
  pub text : repaired s ≡ encode_all (chars s) ++ repaired (drop (valid_up_to_of s) s)
  pub number : replacements s ≡ replacements (drop (valid_up_to_of s) s)

-- If no character is read at the front, the longest well-formed beginning is empty.
stopped : (s : List ℕ) → chars s ≡ [] → valid_up_to_of s ≡ 0 → Front s
unfolding encode_all
stopped s c v = record {
  text = sym (ap₂ (λ (vs : List ℕ) (n : ℕ). encode_all vs ++ repaired (drop n s)) c v);
  number = sym (ap (λ (n : ℕ). replacements (drop n s)) v);
}

front_of : {s : List ℕ} → Reading s → Front s
unfolding encode_all
front_of {s} (read_end e) = stopped s (chars_end s e) (valid_up_to_end s e)
front_of {s} (read_ill_formed e) = stopped s (chars_ill_formed s e) (valid_up_to_ill_formed s e)
front_of {s} (read_more v w e r) =
    let t = drop w s in
    let ih = front_of r in
    let d : drop (valid_up_to_of t) t ≡ drop (valid_up_to_of s) s = drop-drop (valid_up_to_of t) w s
    ∙ ap (λ (n : ℕ). drop n s) (sym (valid_up_to-char s v w e)) in
    record {
      text =
          repaired-char s v w e ∙ ap (λ (l : List ℕ). encode v ++ l) ih.text
          ∙ sym (append_assoc (encode v) (encode_all (chars t)) (repaired (drop (valid_up_to_of t) t)))
          ∙ ap₂ (λ (vs l : List ℕ). encode_all vs ++ repaired l) (sym (chars-char s v w e)) d;
      number = replacements-char s v w e ∙ ih.number ∙ ap replacements d;
    }

pub front : (s : List ℕ) → Front s
front s = front_of (reading s)

-- ---- at an offset of a text

-- The bytes from `at` to `end` are well-formed, and repairing keeps them. At `end` there is a bad place, or the text ends.
pub record Kept (text : List ℕ) (at end : ℕ) : Type 0 where
  pub forward : at ≤ end
  pub room : end ≤ length text
  pub size : length (take (end - at) (drop at text)) ≡ end - at
  pub bytes : repaired (drop at text) ≡ take (end - at) (drop at text) ++ repaired (drop end text)
  pub longer : length (repaired (drop at text)) ≡ (end - at) + length (repaired (drop end text))
  pub number : replacements (drop at text) ≡ replacements (drop end text)
  pub stops : end < length text → read_char (drop end text) ≡ IllFormed (subpart_of (drop end text))

pub kept : (text : List ℕ) (at end : ℕ) → at ≤ length text → end ≡ at + valid_up_to_of (drop at text) → Kept text at end
kept text at end h e =
    let s = drop at text in
    let f = front s in
    let v = valid_up_to_le s in
    let l = length-drop at text in
    let k : valid_up_to_of s ≡ end - at = omega arith in
    let d : drop (valid_up_to_of s) s ≡ drop end text = drop-drop (valid_up_to_of s) at text ∙ ap (λ (n : ℕ). drop n text) (sym e) in
    let b : repaired s ≡ take (end - at) s ++ repaired (drop end text) =
    f.text ∙ ap₂ (λ (x y : List ℕ). x ++ repaired y) (encode_all-chars_take s ∙ ap (λ (n : ℕ). take n s) k) d in
    let z = length-take-le (end - at) s (omega arith) in
    record {
      forward = omega arith;
      room = omega arith;
      size = z;
      bytes = b;
      longer = ap length b ∙ length-append (take (end - at) s) (repaired (drop end text))
          ∙ ap (λ (n : ℕ). n + length (repaired (drop end text))) z;
      number = f.number ∙ ap replacements d;
      stops = λ r. subst (λ (t : List ℕ). read_char t ≡ IllFormed (subpart_of t)) d (bad-after s (omega arith));
    }

-- A bad place of n bytes at the offset `at`: it is replaced.
pub record Replaced (text : List ℕ) (at n : ℕ) : Type 0 where
  pub some : 1 ≤ n
  pub room : at + n ≤ length text
  pub bytes : repaired (drop at text) ≡ replacement_bytes ++ repaired (drop (at + n) text)
  pub longer : length (repaired (drop at text)) ≡ 3 + length (repaired (drop (at + n) text))
  pub number : replacements (drop at text) ≡ suc (replacements (drop (at + n) text))

pub replaced : (text : List ℕ) (at n : ℕ) → at ≤ length text → read_char (drop at text) ≡ IllFormed (subpart_of (drop at text))
    → n ≡ subpart_of (drop at text) → Replaced text at n
replaced text at n h e q =
    let s = drop at text in
    let p = e ∙ ap IllFormed (sym q) in
    let m = bad-maximal s n p in
    let d = drop-drop n at text in
    let b = repaired-bad s n p ∙ ap (λ (l : List ℕ). replacement_bytes ++ repaired l) d in
    record {
      some = m.some;
      room = let i = m.inside in omega (arith, length-drop at text);
      bytes = b;
      longer = omega (arith, ap length b);
      number = replacements-bad s n p ∙ ap (λ (l : List ℕ). suc (replacements l)) d;
    }

-- At the end of the text there is nothing to repair.
pub record Ended (text : List ℕ) (at : ℕ) : Type 0 where
  pub bytes : repaired (drop at text) ≡ []
  pub number : replacements (drop at text) ≡ 0

pub ended : (text : List ℕ) (at : ℕ) → length text ≤ at → Ended text at
ended text at h =
    let p = read_char-past_end text at h in
    record { bytes = repaired_end (drop at text) p; number = replacements_end (drop at text) p }
