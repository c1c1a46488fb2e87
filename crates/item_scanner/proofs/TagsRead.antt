-- Whether tags are complete, from left to right: in a tag modification, by the state that its tags led to; in the rest of an item, by
-- its tag modifications one after the other.
use Rattle.std.specs.Prelude.{Some}
use mathlib.Core.Path.{◌≡◌, refl, ap, ap₂, sym, ◌∙◌}
use mathlib.Core.Logic.{⊎_elim}
use mathlib.Core.Bool.{Bool, true, false, not, cond, ◌&&◌, and-true, true≢false}
use mathlib.Core.List.{List, [], ◌∷◌, ◌++◌, append_assoc, append-nil}
use Prim.Native.Nat.{ℕ}
use lib.ListN.{drop}
use Rattle.base.proofs.Tests.{both_false, either_left, either-right, either_true}
use Rattle.utf8.specs.Rfc3629.{chars}
use Rattle.emoji.specs.Presentation.{is_selector}
use Rattle.emoji.specs.Unicode.{is_tag}
use Rattle.scanner.specs.Classes.{class_of}
use Rattle.scanner.specs.declared.char_class.Class.{Class}
use Rattle.scanner.specs.declared.char_class.Class.TheVariants.{
  Selector as selector,
  Link as link,
  Ri as ri,
  Modifier as modifier,
  Emoji as emoji,
  Keycap as keycap,
  Tag as tag,
  Other as other,
}
use Rattle.scanner.specs.Items.{start_state, begins_tags, kind_of, transition}
use Rattle.scanner.specs.declared.state.State.{State}
use Rattle.scanner.specs.declared.state.State.TheVariants.{
  Plain as plain,
  Selectors as selectors,
  Links as links,
  OneRi as one_ri,
  Unit as unit,
  Joined as joined,
  LeftOver as left_over,
}
use Rattle.scanner.specs.Runs.{in_tags, run}
use Rattle.scanner.specs.Tags.{
  all_complete,
  complete,
  ends_in_cancel,
  is_cancel,
  is_empty,
  tag_modifications,
  tag_runs,
  tags_complete_of,
  with_tags,
}
use Rattle.item_scanner.specs.TagStates.{after_tag, is_complete}
use Rattle.item_scanner.specs.declared.consume.TagState.{TagState}
use Rattle.item_scanner.specs.declared.consume.TagState.TheVariants.{Broken, Complete, NoTag, Open}
use Rattle.scanner.specs.declared.ScanKind.{ScanKind}
use Rattle.scanner.specs.declared.ScanKind.TheVariants.{EmojiHeaded, LinksOnly, Passthrough, UnsanctionedPresentationSelectors}
use Rattle.scanner.specs.RunKinds.{is_selector_class, is_tag_class}
use Rattle.scanner.proofs.ClassTests.{selector_test, tag_test}
use Rattle.scanner.proofs.Complete.{complete_end, complete-other, complete_selector, complete-start, complete_tag, complete_from}
use Rattle.scanner.proofs.Peek.{Seen, Unseen}
use Rattle.scanner.proofs.States.{headed, headed-transition, tag_transition}
use Rattle.scanner.proofs.Runs.{Passes, all_pass, pass-and, Stops, at_char, at_end, run_false, run_true}
use Rattle.scanner.proofs.Tags.{tag_runs-other, tag_runs_selector}

-- ---- a tag modification

-- Whether the tags of a tag modification are complete, where the tags read so far led to a state and these tags follow.
abbrev complete_after : TagState → List ℕ → Bool
complete_after NoTag ts = all_complete (with_tags ts [])
complete_after Open ts = ends_in_cancel ts
complete_after Complete ts = is_empty ts
complete_after Broken ts = false

after_last : (p : TagState) → complete_after p [] ≡ is_complete p
unfolding all_complete with_tags ends_in_cancel
after_last NoTag = refl
after_last Open = refl
after_last Complete = refl
after_last Broken = refl

after_next : (p : TagState) (c : ℕ) (ts : List ℕ) → complete_after p (c ∷ ts) ≡ complete_after (after_tag p c) ts
unfolding all_complete with_tags complete ends_in_cancel
after_next NoTag c ts = go (is_cancel c)
  where
    go : (b : Bool) → ((not b && ends_in_cancel ts) && true) ≡ complete_after (cond b Broken Open) ts
    go true = refl
    go false = and-true (ends_in_cancel ts)
after_next Open c ts = go (is_cancel c)
  where
    go : (b : Bool) → cond b (is_empty ts) (ends_in_cancel ts) ≡ complete_after (cond b Complete Open) ts
    go true = refl
    go false = refl
after_next Complete c ts = refl
after_next Broken c ts = refl

-- Of the characters `whole`, the characters `rest` are still to be read, and the tags read led to the state p.
pub record TagsRead (whole rest : List ℕ) (p : TagState) : Type 0 where
  tags : List ℕ
  so_far : (ts : List ℕ) → all_complete (with_tags (tags ++ ts) []) ≡ complete_after p ts
  same : all_complete (tag_modifications whole) ≡ complete_from tags rest

pub tags_begin : (t : List ℕ) → TagsRead t t NoTag
tags_begin t = record { tags = []; so_far = λ ts. refl; same = complete-start t }

tags_done : {w t : List ℕ} {p : TagState} → TagsRead w t p → t ≡ [] → is_complete p ≡ all_complete (tag_modifications w)
tags_done {p = p} h e =
    sym (h.same ∙ ap (complete_from h.tags) e ∙ complete_end h.tags
    ∙ ap (λ (l : List ℕ). all_complete (with_tags l [])) (sym (append-nil h.tags)) ∙ h.so_far [] ∙ after_last p)

module _ {text : List ℕ} {at v : ℕ} {k : Class} {next : ℕ} (s : Seen text at v k next) {w : List ℕ} {p : TagState}
    (h : TagsRead w (run in_tags (chars (drop at text))) p) where
  abbrev rest : List ℕ
  rest = run in_tags (chars (drop next text))

  on : in_tags v ≡ true → run in_tags (chars (drop at text)) ≡ v ∷ rest
  on e = ap (run in_tags) s.chars_on ∙ run_true in_tags v (chars (drop next text)) e

  pub tags_tag : k ≡ tag → TagsRead w rest (after_tag p v)
  tags_tag e =
      let t : is_tag v ≡ true = tag_test v ∙ ap is_tag_class (sym s.class ∙ e) in
      record {
        tags = h.tags ++ (v ∷ []);
        so_far =
            λ ts. ap (λ (l : List ℕ). all_complete (with_tags l [])) (append_assoc h.tags (v ∷ []) ts) ∙ h.so_far (v ∷ ts)
            ∙ after_next p v ts;
        same = h.same ∙ ap (complete_from h.tags) (on (either_left (is_tag v) (is_selector v) t)) ∙ complete_tag h.tags v rest t;
      }

  pub tags_selector : k ≡ selector → TagsRead w rest p
  tags_selector e =
      let t : is_selector v ≡ true = selector_test v ∙ ap is_selector_class (sym s.class ∙ e) in
      record {
        tags = h.tags;
        so_far = h.so_far;
        same = h.same ∙ ap (complete_from h.tags) (on (either-right (is_tag v) (is_selector v) t)) ∙ complete_selector h.tags v rest t;
      }

  pub tags_over : in_tags v ≡ false → is_complete p ≡ all_complete (tag_modifications w)
  tags_over e = tags_done h (ap (run in_tags) s.chars_on ∙ run_false in_tags v (chars (drop next text)) e)

pub tags_none : {text : List ℕ} {at : ℕ} {w : List ℕ} {p : TagState} → Unseen text at → TagsRead w (run in_tags (chars (drop at text))) p
    → is_complete p ≡ all_complete (tag_modifications w)
unfolding run
tags_none u h = tags_done h (ap (run in_tags) u.chars_none)

-- ---- the tag modifications of an item, one after the other

both_parts : {s t : List ℕ} (ts : List ℕ) → Passes in_tags s → Stops in_tags t
    → complete_from ts (s ++ t) ≡ (complete_from ts s && complete_from [] t)
unfolding all_complete with_tags
both_parts ts all_pass at_end = sym (ap (λ (b : Bool). complete_from ts [] && b) (complete_end []) ∙ and-true (complete_from ts []))
both_parts ts all_pass (at_char {c = c} {s = t} e) =
    let n = both_false (is_tag c) (is_selector c) e in
    complete-other ts c t n.0 n.1 ∙ ap (λ (b : Bool). b && complete_from [] t) (sym (complete_end ts))
    ∙ ap (λ (b : Bool). complete_from ts [] && b) (sym (complete-other [] c t n.0 n.1))
both_parts {t = t} ts (pass-and {c = c} {s = s} e h) f =
    ⊎_elim (λ g. complete_tag ts c (s ++ t) g ∙ both_parts (ts ++ (c ∷ [])) h f
    ∙ ap (λ (b : Bool). b && complete_from [] t) (sym (complete_tag ts c s g)))
    (λ g. complete_selector ts c (s ++ t) g ∙ both_parts ts h f
    ∙ ap (λ (b : Bool). b && complete_from [] t) (sym (complete_selector ts c s g)))
    (either_true (is_tag c) (is_selector c) e)

-- A tag modification, before a character that is neither tag nor selector.
pub tags_then : {s t : List ℕ} → Passes in_tags s → Stops in_tags t
    → all_complete (tag_modifications (s ++ t)) ≡ (all_complete (tag_modifications s) && all_complete (tag_modifications t))
tags_then {s} {t} h f = complete-start (s ++ t) ∙ both_parts [] h f
    ∙ sym (ap₂ (λ (a b : Bool). a && b) (complete-start s) (complete-start t))

-- A character that is no tag changes nothing.
other_tags : (c : ℕ) (t : List ℕ) → is_tag c ≡ false → tag_modifications (c ∷ t) ≡ tag_modifications t
unfolding tag_modifications with_tags
other_tags c t e = go (is_selector c) refl
  where
    go : (b : Bool) → is_selector c ≡ b → with_tags (tag_runs (c ∷ t)).0 (tag_runs (c ∷ t)).1 ≡ with_tags (tag_runs t).0 (tag_runs t).1
    go true s = ap (λ (r : List ℕ × List (List ℕ)). with_tags r.0 r.1) (tag_runs_selector c t s)
    go false s = ap (λ (r : List ℕ × List (List ℕ)). with_tags r.0 r.1) (tag_runs-other c t e s)

-- ---- by the state

abbrev tags_in : Bool → List ℕ → Bool
tags_in b s = cond b (all_complete (tag_modifications s)) true

tags_by : (p : State) (s : List ℕ) → tags_complete_of (kind_of p) s ≡ tags_in (headed p) s
unfolding tags_complete_of kind_of
tags_by plain s = refl
tags_by selectors s = refl
tags_by links s = refl
tags_by one_ri s = refl
tags_by unit s = refl
tags_by joined s = refl
tags_by left_over s = refl

pub tags_headed : (p : State) (s : List ℕ) → headed p ≡ true → tags_complete_of (kind_of p) s ≡ all_complete (tag_modifications s)
tags_headed p s h = tags_by p s ∙ ap (λ (b : Bool). tags_in b s) h

pub tags_nil : (k : ScanKind) → tags_complete_of k [] ≡ true
unfolding tags_complete_of all_complete tag_modifications with_tags tag_runs
tags_nil Passthrough = refl
tags_nil UnsanctionedPresentationSelectors = refl
tags_nil LinksOnly = refl
tags_nil EmojiHeaded = refl

-- In an emoji-headed item, a tag always belongs to a tag modification.
no_tag : (p q : State) (k : Class) → transition p k ≡ Some q → headed p ≡ true → begins_tags q k ≡ false → is_tag_class k ≡ false
unfolding begins_tags
no_tag p q selector e h b = refl
no_tag p q link e h b = refl
no_tag p q ri e h b = refl
no_tag p q modifier e h b = refl
no_tag p q emoji e h b = refl
no_tag p q keycap e h b = refl
no_tag p q tag e h b = absurd (true≢false (sym (ap (λ (r : State). begins_tags r tag) (tag_transition p q e h)) ∙ b))
no_tag p q other e h b = refl

pub tags_on : (p q : State) {k : Class} (c : ℕ) (s : List ℕ) → k ≡ class_of c → transition p k ≡ Some q → begins_tags q k ≡ false
    → tags_complete_of (kind_of p) (c ∷ s) ≡ tags_complete_of (kind_of q) s
tags_on p q {k} c s i e b =
    tags_by p (c ∷ s) ∙ go (headed p) refl ∙ ap (λ (h : Bool). tags_in h s) (headed-transition p q k e) ∙ sym (tags_by q s)
  where
    go : (h : Bool) → headed p ≡ h → tags_in h (c ∷ s) ≡ tags_in h s
    go true f = ap all_complete (other_tags c s (tag_test c ∙ ap is_tag_class (sym i) ∙ no_tag p q k e f b))
    go false f = refl

-- The first character of an emoji-headed item is no tag.
pub first_tags : (c : ℕ) (s : List ℕ) → tags_complete_of (kind_of (start_state (class_of c))) (c ∷ s)
    ≡ tags_complete_of (kind_of (start_state (class_of c))) s
unfolding tags_complete_of kind_of start_state
first_tags c s = go (class_of c) refl
  where
    headed-first : is_tag_class (class_of c) ≡ false → all_complete (tag_modifications (c ∷ s)) ≡ all_complete (tag_modifications s)
    headed-first e = ap all_complete (other_tags c s (tag_test c ∙ e))

    go : (k : Class) → class_of c ≡ k → tags_complete_of (kind_of (start_state k)) (c ∷ s) ≡ tags_complete_of (kind_of (start_state k)) s
    go selector e = refl
    go link e = refl
    go ri e = headed-first (ap is_tag_class e)
    go modifier e = headed-first (ap is_tag_class e)
    go emoji e = headed-first (ap is_tag_class e)
    go keycap e = refl
    go tag e = refl
    go other e = refl
