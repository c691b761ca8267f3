-- The head of the work memory: the view reads its words, the words of the view are the head, and a word set in the head is a word set in
-- one list of the state.
use mathlib.Core.Path.{◌≡◌, refl, sym, ap, subst, ◌∙◌}
use mathlib.Core.List.{List, [], ◌∷◌, map, flatten}
use mathlib.Core.Bool.{Bool, true, false, not}
use Prim.Native.Nat.{ℕ, ◌+◌, ◌≤◌}
use native.Mathlib.Omega.{arith}
use lib.Dec.{eqb}
use lib.ListN.{length, get_or, take, drop, replicate}
use lib.Seq.{drop-cons}
use borrow.Author.Tests.{eqb-true, not-true}
use Rattle.model.specs.declared.Core.{Core}
use Rattle.model.specs.declared.Carried.{Carried}
use Rattle.model.specs.Word.{part}
use Rattle.model.specs.Memory.{work_words}
use Rattle.model.specs.Causes.{when_shut}
use Rattle.model.specs.View.{head_page, head_words, core_in, own_work, core_of, carried_of, head_lists, head_of}
use Rattle.model.proofs.Booleans.{both}
use Rattle.model.proofs.Parts.{length_part}
use Rattle.model.proofs.View.Laid.{sum, cut_from, length_flat, cut_flat}

-- the lists' lengths, in their order
abbrev pub head_lengths : List ℕ
head_lengths = 64 ∷ 64 ∷ 64 ∷ 8 ∷ 8 ∷ 8 ∷ 1 ∷ 16 ∷ 16 ∷ 16 ∷ 16 ∷ []

-- The lists of a state that lie in the head have their lengths.
unfoldable pub HeadSized : Core → Type 0
HeadSized c = map length (head_lists c) ≡ head_lengths

-- A work memory that is the state's own: it is not shut, and the length is right.
pub record Own (h : Carried) (work : List ℕ) : Type 0 where
  pub serving : when_shut h.stage ≡ false
  pub long : length work ≡ head_words + work_words (core_in h work).sizes h.total

pub own_work_lem : (h : Carried) (work : List ℕ) → own_work h work ≡ true → Own h work
unfolding own_work
own_work_lem h work e =
    let t = both (not (when_shut h.stage)) (eqb (length work) (head_words + work_words (core_in h work).sizes h.total)) e in
    record { serving = not-true (when_shut h.stage) t.0; long = eqb-true _ _ t.1 }

pub own_long : (h : Carried) (work : List ℕ) → own_work h work ≡ true → head_words ≤ length work
own_long h work e = omega (arith, (own_work_lem h work e).long)

-- the view of it, and of any other
pub own_view : (h : Carried) (work : List ℕ) → own_work h work ≡ true → core_of h work ≡ core_in h work
unfolding core_of
own_view h work e = rw e refl

pub other_view : (h : Carried) (work : List ℕ) → own_work h work ≡ false → core_of h work ≡ core_in h (replicate head_words 0)
unfolding core_of
other_view h work e = rw e refl

-- A shut state does not depend on the work memory at all.
pub shut_view : (h : Carried) (work other : List ℕ) → when_shut h.stage ≡ true → core_of h work ≡ core_of h other
unfolding core_of own_work
shut_view h work other e = rw e refl

-- What is carried is as it was.
pub carried_back : (h : Carried) (work : List ℕ) → carried_of (core_of h work) ≡ h
unfolding core_of
carried_back h work = refl

-- The lists of the view are the head cut at their lengths.
pub lists_cut : (h : Carried) (head : List ℕ) → head_words ≤ length head → head_lists (core_in h head) ≡ cut_from 0 head_lengths head
unfolding cut_from part
lists_cut h head long =
    let page : take 1 (drop head_page head) ≡ get_or head head_page 0 ∷ [] = ap (λ (r : List ℕ). take 1 r) (drop-cons head head_page 0 (omega arith)) in
    rw page refl

lengths_cut : (at : ℕ) (ns l : List ℕ) → at + sum ns ≤ length l → map length (cut_from at ns l) ≡ ns
unfolding cut_from
lengths_cut at [] l h = refl
lengths_cut at (n ∷ ns) l h = rw (length_part at n l (omega arith), lengths_cut (at + n) ns l (omega arith)) refl

in_sized : (h : Carried) (head : List ℕ) → head_words ≤ length head → HeadSized (core_in h head)
unfolding HeadSized
in_sized h head long = ap (map length) (lists_cut h head long) ∙ lengths_cut 0 head_lengths head long

pub view_sized : (h : Carried) (work : List ℕ) → HeadSized (core_of h work)
view_sized h work = go (own_work h work) refl
  where
    go : (b : Bool) → own_work h work ≡ b → HeadSized (core_of h work)
    go true e = subst HeadSized (sym (own_view h work e)) (in_sized h work (own_long h work e))
    go false e = subst HeadSized (sym (other_view h work e)) (in_sized h (replicate head_words 0) (omega arith))

-- The view loses nothing: its lists, laid one after the other, are the head.
pub head_whole : (h : Carried) (work : List ℕ) → own_work h work ≡ true → head_of (core_of h work) ≡ take head_words work
unfolding head_of part
head_whole h work e =
    ap head_of (own_view h work e) ∙ ap flatten (lists_cut h work (own_long h work e)) ∙ cut_flat 0 head_lengths work

pub length_head : (c : Core) → HeadSized c → length (head_of c) ≡ head_words
unfolding HeadSized head_of
length_head c sized = length_flat (head_lists c) ∙ ap sum sized
