-- Tags are complete if each list of tags is one or more other tags and then one E007F; and how a loop over an item computes that from
-- left to right.
use mathlib.Core.Path.{◌≡◌, refl, ap, ap₂, sym, ◌∙◌, subst}
use mathlib.Core.Logic.{◌≢◌, ◌↔◌, ⊎_elim}
use mathlib.Core.Bool.{Bool, true, false, not, cond, ◌&&◌, and-true, false≢true}
use mathlib.Core.List.Memᴰ
use mathlib.Core.List.{
  List,
  [],
  ◌∷◌,
  ◌++◌,
  append_assoc,
  append-nil,
  cons-ne-nil,
  Memᴰ,
}
use Prim.Native.Nat.{ℕ}
use borrow.Author.Tests.{eqb-false, eqb-true, ne_eqb, not-true}
use Rattle.base.proofs.Tests.{both_true, and_both}
use Rattle.emoji.specs.Presentation.{is_selector}
use Rattle.emoji.specs.Unicode.{is_tag}
use Rattle.scanner.specs.Tags.{all_complete, complete, ends_in_cancel, is_cancel, is_empty, tag_modifications, tag_runs, with_tags}
use Rattle.scanner.specs.Theorems.{TagSequence}
use Rattle.scanner.proofs.Tags.{tag_runs-other, tag_runs_selector, tag_runs_tag}

-- E007F last, after the tags `before`, and nowhere earlier.
abbrev EndsAfter : List ℕ → List ℕ → Type 0
EndsAfter before tags = (tags ≡ before ++ (0xE007F ∷ [])) × (Memᴰ 0xE007F before → ⊥)

abbrev Ends : List ℕ → Type 0
Ends tags = (before : List ℕ) × EndsAfter before tags

one_more : (c : ℕ) {before ts : List ℕ} → is_cancel c ≡ false → EndsAfter before ts → EndsAfter (c ∷ before) (c ∷ ts)
one_more c e h =
    (ap (λ (l : List ℕ). c ∷ l) h.0, λ m. ⊎_elim (λ q. eqb-false c 0xE007F e (sym q)) h.1 (Memᴰ.cases_cons m))

empty_so : (ts : List ℕ) → is_empty ts ≡ true → ts ≡ []
empty_so [] e = refl
empty_so (c ∷ ts) e = absurd (false≢true e)

by_first_lem : (c : ℕ) (ts : List ℕ) → (ends_in_cancel ts ≡ true → Ends ts) → (b : Bool) → is_cancel c ≡ b
    → cond b (is_empty ts) (ends_in_cancel ts) ≡ true → Ends (c ∷ ts)
by_first_lem c ts f true p e = ([], (ap₂ (λ (x : ℕ) (l : List ℕ). x ∷ l) (eqb-true c 0xE007F p) (empty_so ts e), Memᴰ.not-nil))
by_first_lem c ts f false p e = let h = f e in (c ∷ h.0, one_more c p h.1)

ends : (ts : List ℕ) → ends_in_cancel ts ≡ true → Ends ts
unfolding ends_in_cancel
ends [] e = absurd (false≢true e)
ends (c ∷ ts) e = by_first_lem c ts (ends ts) (is_cancel c) refl e

complete_sequence : (ts : List ℕ) → complete ts ≡ true → TagSequence ts
unfolding complete
complete_sequence [] e = absurd (false≢true e)
complete_sequence (c ∷ ts) e =
    let p = both_true (not (is_cancel c)) (ends_in_cancel ts) e in
    let h = ends ts p.1 in
    let g = one_more c (not-true (is_cancel c) p.0) h.1 in
    record { before = c ∷ h.0; last = g.0; some_before = cons-ne-nil c h.0; nowhere_earlier = g.1 }

other-first : (c : ℕ) (ts : List ℕ) → (Memᴰ 0xE007F (c ∷ ts) → ⊥) → is_cancel c ≡ false
other-first c ts n = ne_eqb c 0xE007F (λ q. n (Memᴰ.head (sym q)))

ends_so : (before : List ℕ) → (Memᴰ 0xE007F before → ⊥) → ends_in_cancel (before ++ (0xE007F ∷ [])) ≡ true
unfolding ends_in_cancel
ends_so [] n = refl
ends_so (c ∷ before) n = rw (other-first c before n) (ends_so before (λ m. n (Memᴰ.tail m)))

complete_so : (before : List ℕ) → before ≢ [] → (Memᴰ 0xE007F before → ⊥) → complete (before ++ (0xE007F ∷ [])) ≡ true
unfolding complete
complete_so [] n m = absurd (n refl)
complete_so (c ∷ before) n m = rw (other-first c before m) (ends_so before (λ k. m (Memᴰ.tail k)))

sequence_complete : (ts : List ℕ) → TagSequence ts → complete ts ≡ true
sequence_complete ts h = ap complete h.last ∙ complete_so h.before h.some_before h.nowhere_earlier

all_complete_sequences : (tss : List (List ℕ)) → all_complete tss ≡ true → (ts : List ℕ) → Memᴰ ts tss → TagSequence ts
unfolding all_complete
all_complete_sequences [] e ts m = absurd (Memᴰ.not-nil m)
all_complete_sequences (us ∷ tss) e ts m =
    let p = both_true (complete us) (all_complete tss) e in
    ⊎_elim (λ q. subst TagSequence (sym q) (complete_sequence us p.0)) (λ n. all_complete_sequences tss p.1 ts n)
    (Memᴰ.cases_cons m)

sequences_all_complete : (tss : List (List ℕ)) → ((ts : List ℕ) → Memᴰ ts tss → TagSequence ts) → all_complete tss ≡ true
unfolding all_complete
sequences_all_complete [] h = refl
sequences_all_complete (us ∷ tss) h =
    and_both (complete us) (all_complete tss) (sequence_complete us (h us (Memᴰ.head refl)))
    (sequences_all_complete tss (λ ts m. h ts (Memᴰ.tail m)))

pub all_complete_means : (tss : List (List ℕ)) → (all_complete tss ≡ true) ↔ ((ts : List ℕ) → Memᴰ ts tss → TagSequence ts)
all_complete_means tss = (all_complete_sequences tss, sequences_all_complete tss)

-- ---- from left to right, as a loop over an item computes it

-- Whether the tags of the rest of an item are complete. The tags `ts` of the first tag modification have been read before.
unfoldable pub complete_from : List ℕ → List ℕ → Bool
complete_from ts t = all_complete (with_tags (ts ++ (tag_runs t).0) (tag_runs t).1)

pub complete-start : (t : List ℕ) → all_complete (tag_modifications t) ≡ complete_from [] t
unfolding tag_modifications complete_from
complete-start t = refl

pub complete_end : (ts : List ℕ) → complete_from ts [] ≡ all_complete (with_tags ts [])
unfolding complete_from tag_runs
complete_end ts = ap (λ (l : List ℕ). all_complete (with_tags l [])) (append-nil ts)

pub complete_tag : (ts : List ℕ) (c : ℕ) (t : List ℕ) → is_tag c ≡ true → complete_from ts (c ∷ t) ≡ complete_from (ts ++ (c ∷ [])) t
unfolding complete_from
complete_tag ts c t e =
    ap (λ (r : List ℕ × List (List ℕ)). all_complete (with_tags (ts ++ r.0) r.1)) (tag_runs_tag c t e)
    ∙ ap (λ (l : List ℕ). all_complete (with_tags l (tag_runs t).1)) (sym (append_assoc ts (c ∷ []) (tag_runs t).0))

pub complete_selector : (ts : List ℕ) (c : ℕ) (t : List ℕ) → is_selector c ≡ true → complete_from ts (c ∷ t) ≡ complete_from ts t
unfolding complete_from
complete_selector ts c t e = ap (λ (r : List ℕ × List (List ℕ)). all_complete (with_tags (ts ++ r.0) r.1)) (tag_runs_selector c t e)

with_and : (ts : List ℕ) (l : List (List ℕ)) → all_complete (with_tags ts l) ≡ (all_complete (with_tags ts []) && all_complete l)
unfolding with_tags all_complete
with_and [] l = refl
with_and (c ∷ ts) l = ap (λ (b : Bool). b && all_complete l) (sym (and-true (complete (c ∷ ts))))

pub complete-other : (ts : List ℕ) (c : ℕ) (t : List ℕ) → is_tag c ≡ false → is_selector c ≡ false
    → complete_from ts (c ∷ t) ≡ (all_complete (with_tags ts []) && complete_from [] t)
unfolding complete_from tag_modifications
complete-other ts c t e f =
    ap (λ (r : List ℕ × List (List ℕ)). all_complete (with_tags (ts ++ r.0) r.1)) (tag_runs-other c t e f)
    ∙ ap (λ (l : List ℕ). all_complete (with_tags l (tag_modifications t))) (append-nil ts) ∙ with_and ts (tag_modifications t)
