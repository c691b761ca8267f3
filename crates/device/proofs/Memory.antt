-- Actions that store nothing are whole under any budget.
use mathlib.Core.Path.{◌≡◌, refl, sym, ◌∙◌}
use mathlib.Core.List.{List, []}
use mathlib.Core.Bool.{true}
use Prim.Native.Nat.{ℕ}
use native.Mathlib.Omega.{arith}
use lib.ListN.{replicate}
use lib.Seq.{sets}
use borrow.Author.Tests.{le-leb}
use Rattle.model.specs.World.{World, Action, write, pages, work, each, perform, stores, made, finishes}
use Rattle.model.specs.declared.Sizes.{Sizes}
use Rattle.model.specs.Sizes.{total}
use Rattle.model.specs.Memory.{copy_at, owner_at}
use Rattle.model.specs.Format.{fresh_memory, fresh_work}
use Rattle.model.proofs.Run.{finished_run, stores_written, perform_pages, perform_work}
use Rattle.model.proofs.Restart.Words.{with_pages}
use Rattle.model.proofs.Store.Puts.{fresh_is}
use Rattle.device.specs.Ran.{Ran, with_work}
use Rattle.device.proofs.Ran.{ran_then}

ran_free : {l : List Action} {w v : World} (budget : ℕ) → stores l ≡ 0 → perform l w ≡ v → Ran budget budget l w v true
unfolding made finishes
ran_free {l} {w} budget none same =
    let whole = le-leb (stores l) budget (omega arith) in
    record { world = sym (finished_run budget l w whole ∙ same); left = omega arith; finished = sym whole }

pub ran_none : (budget : ℕ) (w : World) → Ran budget budget [] w w true
unfolding stores perform
ran_none budget w = ran_free budget refl refl

-- words written in memory
pub pages_written : (budget at : ℕ) (words : List ℕ) (w : World)
    → Ran budget budget (each (write pages) at words) w (with_pages w (sets w.pages at words)) true
pages_written budget at words w = ran_free budget (stores_written pages at words) (perform_pages at words w)

pub work_written : (budget at : ℕ) (words : List ℕ) (w : World)
    → Ran budget budget (each (write work) at words) w (with_work w (sets w.work at words)) true
work_written budget at words w = ran_free budget (stores_written work at words) (perform_work at words w)

-- work memory made fresh
pub fresh_written : (budget : ℕ) (s : Sizes) (copy : ℕ) (w : World)
    → Ran budget budget (fresh_memory s copy) w (with_work w (fresh_work s copy w.work)) true
unfolding fresh_memory
fresh_written budget s copy w =
    let owners : List ℕ = replicate (total s) 0 in
    rw (fresh_is s copy w.work)
    (ran_then (work_written budget (owner_at s 0) owners w) _ refl
    (work_written budget (copy_at s 0) (replicate 64 copy) (with_work w (sets w.work (owner_at s 0) owners))))
