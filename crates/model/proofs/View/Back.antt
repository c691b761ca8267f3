-- The view of a state's own head, with what is carried of it, is the state.
use mathlib.Core.Path.{◌≡◌, refl, sym, ap, ◌∙◌}
use mathlib.Core.List.{List, [], ◌++◌}
use mathlib.Core.Bool.{true, false}
use Prim.Native.Nat.{ℕ, ◌+◌}
use native.Mathlib.Omega.{arith}
use lib.ListN.{length, get_or, drop, length-append}
use lib.Seq.{drop_at}
use borrow.Author.Tests.{eq-eqb}
use Rattle.model.specs.declared.Core.{Core}
use Rattle.model.specs.declared.Carried.{Carried}
use Rattle.model.specs.Word.{part}
use Rattle.model.specs.Memory.{buffer_at, copy_at, owner_at, work_words}
use Rattle.model.specs.State.{new_core}
use Rattle.model.specs.Causes.{when_shut}
use Rattle.model.specs.View.{head_words, core_in, own_work, core_of, carried_of, head_lists, head_of}
use Rattle.model.proofs.View.Laid.{cut_from, flat_cut}
use Rattle.model.proofs.View.Head.{HeadSized, own_view, lists_cut, length_head}

-- a state is what is carried of it and the lists of its head
unfoldable core_from : Carried → List (List ℕ) → Core
core_from h ls =
    record {
      stage = h.stage;
      sizes = record { pages = h.pages; disks = h.disks; ring = h.ring; slots = get_or ls 0 []; widths = get_or ls 1 [] };
      bases = record { pages = get_or ls 2 []; total = h.total };
      epoch = h.epoch;
      logs = record { starts = h.starts; tails = h.tails; fills = get_or ls 3 [] };
      table =
          record { sums = get_or ls 4 []; numbers = get_or ls 7 []; disks = get_or ls 8 []; firsts = get_or ls 9 []; reserved = get_or ls 10 [] };
      next = h.next;
      checkpoint = record { ends = h.ends; copied = h.copied };
      replay = record { positions = get_or ls 5 []; page = get_or (get_or ls 6 []) 0 0 };
      classes = h.classes;
    }

from_own : (c : Core) → core_from (carried_of c) (head_lists c) ≡ c
unfolding core_from
from_own c = refl

module _ (c : Core) (body : List ℕ) (sized : HeadSized c) where
  pub length_behind : length (head_of c ++ body) ≡ head_words + length body
  length_behind = length-append (head_of c) body ∙ ap (λ (n : ℕ). n + length body) (length_head c sized)

  pub body_back : drop head_words (head_of c ++ body) ≡ body
  body_back = drop_at (head_of c) body head_words (length_head c sized)

  lists_back : head_lists (core_in (carried_of c) (head_of c ++ body)) ≡ head_lists c
  unfolding HeadSized head_of
  lists_back =
      lists_cut (carried_of c) (head_of c ++ body) (omega (arith, length_behind))
      ∙ ap (λ (ns : List ℕ). cut_from 0 ns (head_of c ++ body)) (sym sized) ∙ flat_cut 0 (head_lists c) (head_of c ++ body) body refl

  own_back : when_shut c.stage ≡ false → length body ≡ work_words c.sizes c.bases.total
      → own_work (carried_of c) (head_of c ++ body) ≡ true
  unfolding own_work work_words owner_at copy_at buffer_at
  own_back serving long =
      rw (serving, eq-eqb (length (head_of c ++ body)) _ (length_behind ∙ ap (λ (n : ℕ). head_words + n) long)) refl

  pub view_back : when_shut c.stage ≡ false → length body ≡ work_words c.sizes c.bases.total
      → core_of (carried_of c) (head_of c ++ body) ≡ c
  unfolding core_from
  view_back serving long =
      own_view (carried_of c) (head_of c ++ body) (own_back serving long)
      ∙ ap (core_from (carried_of c)) lists_back ∙ from_own c

-- A new state is a new state, whatever is lent.
pub view_new : (work : List ℕ) → core_of (carried_of new_core) work ≡ new_core
unfolding core_of own_work new_core part
view_new work = refl
