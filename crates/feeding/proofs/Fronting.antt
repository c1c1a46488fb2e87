-- The parts of a piece one after the other: the completed character, selectors, and the rest.
use Rattle.std.specs.Prelude.{Some}
use mathlib.Core.Path.{◌≡◌, refl, ap, sym, ◌∙◌, subst}
use mathlib.Core.Bool.{Bool, true, false, cond}
use mathlib.Core.List.{List, [], ◌∷◌, ◌++◌, append_assoc, append-nil, map}
use Prim.Native.Nat.{ℕ, ◌+◌, ◌/◌, ◌≤◌}
use native.Mathlib.Omega.{arith}
use lib.Dec.{eqb}
use lib.ListN.{drop, length, length-append, length-map}
use Rattle.utf8.specs.Rfc3629.{chars, encode_all, is_scalar, valid_up_to_of}
use Rattle.utf8.proofs.Texts.{encode_all_append, length_encode_all_chars}
use Rattle.emoji.specs.Presentation.{as_selector}
use Rattle.emoji.specs.declared.presentation.Presentation.{Presentation}
use Rattle.policy.specs.PolicyBytes.{policy_of}
use Rattle.policy.specs.declared.Policy.{Policy}
use Rattle.scanner.specs.SelectorRun.{first_selector}
use Rattle.scanner.proofs.SelectorBytes.{selector_here}
use Rattle.analysis.specs.CellView.{total_cells}
use Rattle.analysis.specs.Counts.{total}
use Rattle.analysis.specs.declared.types.NonCanonicality.{NonCanonicality}
use Rattle.feed.specs.Bytes.{pending_of}
use Rattle.feed.specs.Feed.{Fed, fed_as, take_chars}
use Rattle.feed.specs.declared.Held.{Held}
use Rattle.feed.proofs.PieceRoom.{count_le, selectors_bytes}
use Rattle.feeding.specs.Helpers.{TakenBy}
use Rattle.feeding.specs.Parts.{SelectorsTaken, char_of, scanned_chars}
use Rattle.feeding.specs.declared.Taken.{Taken}
use Rattle.feeding.specs.declared.scan.PieceScan.{PieceScan}
use Rattle.feeding.proofs.Cuts.{fed_append, uncounted_after}
use Rattle.feeding.proofs.Taking.{and_then, next-room, taken_none}

-- ---- the completed character

pub char-few : (n : ℕ) → length (char_of n) ≤ 1
char-few n = go (eqb n 0)
  where
    go : (b : Bool) → length (cond b [] (n / 8 ∷ [])) ≤ 1
    go true = omega arith
    go false = omega arith

-- ---- selectors

map_append : (a b : List Presentation) → map as_selector (a ++ b) ≡ map as_selector a ++ map as_selector b
map_append [] b = refl
map_append (q ∷ a) b = ap (λ (l : List ℕ). as_selector q ∷ l) (map_append a b)

pub fed_length : (p : Policy) (cs : List ℕ) → length (fed_as p cs) ≡ length cs
fed_length p [] = refl
fed_length p (c ∷ cs) = omega (arith, fed_length p cs)

pub selectors_begin : (piece : List ℕ) (from : ℕ) (t : Taken) → is_scalar t.held.base ≡ true → from ≤ length piece
    → SelectorsTaken piece from t from t
selectors_begin piece from t i l = record {
  selectors = [];
  chars_are = refl;
  at_is = omega arith;
  inside = l;
  taken = λ p o. taken_none p t.held t.counts o t.end i;
}

module _ {piece : List ℕ} {from at : ℕ} {t r : Taken} (g : SelectorsTaken piece from t at r) where
  any : TakenBy (policy_of []) t.held t.counts (fed_as (policy_of []) (map as_selector g.selectors)) [] t.end [] r
  any = g.taken (policy_of []) []

  pub selectors_scalar : is_scalar r.held.base ≡ true
  selectors_scalar = any.scalar

  pub selectors_few : length piece ≤ 16777216 → total t.counts + t.held.count ≤ 300000000
      → total r.counts + r.held.count ≤ 1000000000000
  selectors_few l f =
      omega (
        arith,
        any.few,
        fed_length (policy_of []) (map as_selector g.selectors),
        length-map g.selectors as_selector,
        g.at_is,
        g.inside,
      )

  -- One more.
  module _ {q : Presentation} (e : first_selector (chars (drop at piece)) ≡ Some q) where
    pub selectors_room : at + 3 ≤ length piece
    selectors_room = (selector_here piece at q e).read.room

    pub selectors_on : {r' : Taken}
        → ((p : Policy) (o : List ℕ) → TakenBy p r.held r.counts (fed_as p (as_selector q ∷ [])) o r.end o r')
        → SelectorsTaken piece from t (at + 3) r'
    selectors_on {r'} h =
        let ss = g.selectors in
        let s = (selector_here piece at q e).read in
        let m = map_append ss (q ∷ []) in
        record {
          selectors = ss ++ (q ∷ []);
          chars_are =
              g.chars_are ∙ ap (λ (l : List ℕ). map as_selector ss ++ l) s.chars_on
              ∙ sym (append_assoc (map as_selector ss) (as_selector q ∷ []) (chars (drop (at + 3) piece)))
              ∙ ap (λ (l : List ℕ). l ++ chars (drop (at + 3) piece)) (sym m);
          at_is = omega (arith, g.at_is, length-append ss (q ∷ []));
          inside = s.room;
          taken = λ p o.
              subst (λ (xs : List Fed). TakenBy p t.held t.counts xs o t.end o r')
              (sym (ap (fed_as p) m ∙ fed_append p (map as_selector ss) (as_selector q ∷ []))) (and_then (g.taken p o) (h p o));
        }

  -- ---- where the well-formed bytes end

  pub selectors_end : {end : ℕ} → end ≡ from + valid_up_to_of (drop from piece) → end ≡ at + valid_up_to_of (drop at piece)
  selectors_end {end} e =
      let ss = map as_selector g.selectors in
      let a = ap (λ (l : List ℕ). length (encode_all l)) g.chars_are in
      let b = ap length (encode_all_append ss (chars (drop at piece))) in
      omega (
        arith,
        a,
        b,
        length-append (encode_all ss) (encode_all (chars (drop at piece))),
        selectors_bytes g.selectors,
        length_encode_all_chars (drop from piece),
        length_encode_all_chars (drop at piece),
        g.at_is,
      )

  -- Nothing is left at the end.
  pub selectors_last : {end : ℕ} → end ≡ from + valid_up_to_of (drop from piece) → end ≤ at → chars (drop at piece) ≡ []
  selectors_last e l =
      let s = drop at piece in
      none (chars s) (omega (arith, selectors_end e, length_encode_all_chars s, count_le (chars s)))
    where
      none : (cs : List ℕ) → length cs ≤ 0 → cs ≡ []
      none [] h = refl
      none (c ∷ cs) h = absurd (omega arith)

  pub selectors_uncounted : (p : Policy) → total (total_cells p (chars (drop from piece))) ≡ 0
      → total (total_cells p (chars (drop at piece))) ≡ 0
  selectors_uncounted p z =
      uncounted_after p g.selectors (chars (drop at piece)) (ap (λ (cs : List ℕ). total (total_cells p cs)) (sym g.chars_are) ∙ z)

-- ---- all parts

module _ (p : Policy) (piece : List ℕ) (scan : PieceScan) (h : Held) (n : NonCanonicality) where
  abbrev X : List Fed
  X = fed_as p (scanned_chars piece scan)

  abbrev F : List Fed
  F = fed_as p (char_of scan.first)

  parted : X ≡ F ++ fed_as p (chars (drop scan.from piece))
  parted = fed_append p (char_of scan.first) (chars (drop scan.from piece))

  module _ (o : List ℕ) (i : is_scalar h.base ≡ true)
      (room : length (encode_all (take_chars (pending_of p h) X).1.text) ≤ length o) where
    pub first-room : 0 + length (encode_all (take_chars (pending_of p h) F).1.text) ≤ length o
    first-room = next-room (taken_none p h n o 0 i) F (fed_as p (chars (drop scan.from piece))) parted (omega arith)

  module _ {o o₁ : List ℕ} {t : Taken} (a : TakenBy p h n F o 0 o₁ t) where
    pub first-few : total n + h.count ≤ 200000000 → total t.counts + t.held.count ≤ 300000000
    first-few f = omega (arith, a.few, fed_length p (char_of scan.first), char-few scan.first)

    module _ {at : ℕ} {r : Taken} (g : SelectorsTaken piece scan.from t at r) where
      abbrev S : List Fed
      S = fed_as p (map as_selector g.selectors)

      abbrev L : List Fed
      L = fed_as p (chars (drop at piece))

      all-parted : X ≡ F ++ (S ++ L)
      all-parted =
          parted
          ∙ ap (λ (l : List Fed). F ++ l)
          (ap (fed_as p) g.chars_are ∙ fed_append p (map as_selector g.selectors) (chars (drop at piece)))

      two : TakenBy p h n (F ++ S) o 0 o₁ r
      two = and_then a (g.taken p o₁)

      pub rest-room : length (encode_all (take_chars (pending_of p h) X).1.text) ≤ length o
          → r.end + length (encode_all (take_chars (pending_of p r.held) L).1.text) ≤ length o₁
      rest-room l =
          next-room two L [] (all-parted ∙ sym (append_assoc F S L) ∙ ap (λ (l : List Fed). (F ++ S) ++ l) (sym (append-nil L)))
          (omega arith)

      pub no_rest : chars (drop at piece) ≡ [] → TakenBy p h n X o 0 o₁ r
      no_rest e =
          subst (λ (xs : List Fed). TakenBy p h n xs o 0 o₁ r)
          (sym (all-parted ∙ sym (append_assoc F S L) ∙ ap (λ (cs : List ℕ). (F ++ S) ++ fed_as p cs) e ∙ append-nil (F ++ S))) two

      pub with_rest : {o₂ : List ℕ} {q : Taken} → TakenBy p r.held r.counts L o₁ r.end o₂ q → TakenBy p h n X o 0 o₂ q
      with_rest {o₂} {q} b =
          subst (λ (xs : List Fed). TakenBy p h n xs o 0 o₂ q) (sym (all-parted ∙ sym (append_assoc F S L))) (and_then two b)
