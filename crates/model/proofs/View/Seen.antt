-- After a call the view goes on: of what it handed back and left, the view and the body are the state and the world of its result.
use mathlib.Core.Path.{◌≡◌, refl, sym, ap, ◌∙◌}
use mathlib.Core.List.{List, ◌++◌}
use mathlib.Core.Bool.{Bool, true, false}
use Prim.Native.Nat.{ℕ, ◌≤◌}
use native.Mathlib.Omega.{arith}
use lib.Dec.{leb}
use lib.ListN.{length, take, drop, take-append-drop, length-append, length-take, length-drop, drop_of_length-le}
use lib.Seq.{length-take-le, drop_at}
use borrow.Author.Tests.{leb-true, leb-false}
use Rattle.model.specs.declared.Core.{Core}
use Rattle.model.specs.declared.Carried.{Carried}
use Rattle.model.specs.World.{World, world_of, run}
use Rattle.model.specs.Memory.{work_words}
use Rattle.model.specs.Causes.{when_shut}
use Rattle.model.specs.Refusal.{Task, Result}
use Rattle.model.specs.View.{head_words, core_of, carried_of, body_of, behind, given_by}
use Rattle.model.proofs.Run.{run_lengths}
use Rattle.model.proofs.Store.Cases.{refused_by, finished_by, cut_by}
use Rattle.model.proofs.View.Head.{HeadSized, carried_back}
use Rattle.model.proofs.View.Back.{body_back, view_back, view_new}

-- what a call with this result gives on this work memory is seen as the result
pub record Seen (r : Result) (work : List ℕ) : Type 0 where
  pub core : core_of (carried_of r.core) (given_by r work).world.work ≡ r.core
  pub world : body_of (given_by r work).world ≡ r.world

-- the body behind a head that was left as it was, in a work memory of any length
pub behind_left : (work body : List ℕ) → length body ≡ length (drop head_words work) → drop head_words (take head_words work ++ body) ≡ body
behind_left work body same = go (leb head_words (length work)) refl
  where
    go : (b : Bool) → leb head_words (length work) ≡ b → drop head_words (take head_words work ++ body) ≡ body
    go true e = drop_at (take head_words work) body head_words (length-take-le head_words work (leb-true head_words (length work) e))
    go false e =
        let none : length body ≤ 0 = omega (arith, same, length-drop head_words work, leb-false head_words (length work) e) in
        let all : length (take head_words work ++ body) ≤ head_words =
        omega (arith, length-append (take head_words work) body, length-take head_words work, none) in
        drop_of_length-le (take head_words work ++ body) all ∙ sym (drop_of_length-le body {i = 0} none)

-- a world is its body behind its own first words, be they a whole head or not
pub whole_again : (w : World) → behind (take head_words w.work) (body_of w) ≡ w
unfolding body_of
whole_again w = ap (world_of w.anchor w.pages w.backups w.logs) (take-append-drop head_words w.work)

-- A refusal: all is as it was.
pub refused_seen : (h : Carried) (w : World) (budget number first second : ℕ)
    → Seen (refused_by budget number first second (core_of h w.work) (body_of w)) w.work
refused_seen h w budget number first second =
    record {
      core =
          ap (λ (v : World). core_of (carried_of (core_of h w.work)) v.work) (whole_again w)
          ∙ ap (λ (x : Carried). core_of x w.work) (carried_back h w.work);
      world = ap body_of (whole_again w);
    }

-- A cut: the state is a new one, and the head is as it was.
pub cut_seen : (budget : ℕ) (t : Task) (w : World) → Seen (cut_by budget t (body_of w)) w.work
unfolding body_of
cut_seen budget t w =
    let v : World = run budget t.actions (body_of w) in
    record {
      core = view_new (take head_words w.work ++ v.work);
      world =
          ap (world_of v.anchor v.pages v.backups v.logs)
          (behind_left w.work v.work (run_lengths budget t.actions (body_of w)).work);
    }

-- A state that is not shut, with the lengths of its lists, and a work memory of the length that its sizes give.
pub record Fits (c : Core) (work : List ℕ) : Type 0 where
  pub sized : HeadSized c
  pub serving : when_shut c.stage ≡ false
  pub long : length work ≡ work_words c.sizes c.bases.total

-- A finished call that hands back such a state.
pub finished_seen : (budget : ℕ) (t : Task) (w : World) → Fits t.core (body_of w).work → Seen (finished_by budget t (body_of w)) w.work
unfolding body_of
finished_seen budget t w fits =
    let v : World = run budget t.actions (body_of w) in
    let long : length v.work ≡ work_words t.core.sizes t.core.bases.total = (run_lengths budget t.actions (body_of w)).work ∙ fits.long in
    record {
      core = rw fits.serving (view_back t.core v.work fits.sized fits.serving long);
      world = rw fits.serving (ap (world_of v.anchor v.pages v.backups v.logs) (body_back t.core v.work fits.sized));
    }
