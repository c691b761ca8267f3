-- The calls that store nothing, and so need no budget and are never interrupted.
use mathlib.Core.Path.{◌≡◌, refl, ◌∙◌}
use mathlib.Core.List.{List, []}
use mathlib.Core.Bool.{Bool, true, false, false≢true, cond}
use Prim.Native.Nat.{ℕ, zero, suc, ◌+◌}
use native.Mathlib.Omega.{arith}
use lib.Dec.{ltb, leb-zero}
use Rattle.model.specs.declared.Core.{Core}
use Rattle.model.specs.declared.Decoded.{Decoded}
use Rattle.model.specs.declared.Decoded.TheVariants.{Change, Close, Malformed}
use Rattle.model.specs.declared.Answer.TheVariants.{Interrupted}
use Rattle.model.specs.Sizes.{page_base, slot_base}
use Rattle.model.specs.Decode.{span}
use Rattle.model.specs.World.{World, Action, pages, perform, stores, finishes}
use Rattle.model.specs.Refusal.{Task, Verdict, accepted, rejected, verdict, conclude}
use Rattle.model.specs.Transaction.{begin_task}
use Rattle.model.specs.Abort.{xor_in}
use Rattle.model.specs.SetClasses.{set_classes_task}
use Rattle.model.specs.Checkpoint.{checkpoint_begin_task}
use Rattle.model.specs.Restart.{replays, position_of, read_disk, fate_from, backup_step, record_step, next_record, restart_begin_task, restart_step_rows, restart_step_task, step_then, restart_run_task}
use Rattle.model.specs.Call.{Call, format, begin, update, look, commit, abort, set_classes, checkpoint_begin, checkpoint_step, checkpoint_end, restart_begin, restart_step, restart_run, restart_end, new_state, rows_of, task_of, budget_of, result_of, look_task}
use Rattle.model.proofs.Run.{stores_append, stores_written}

abbrev pub stores_nothing : Call → Bool
stores_nothing (format s budget) = false
stores_nothing (begin class) = true
stores_nothing (update number page slot value budget) = false
stores_nothing (look q) = true
stores_nothing (commit number budget) = false
stores_nothing (abort number budget) = false
stores_nothing (set_classes lines) = true
stores_nothing checkpoint_begin = true
stores_nothing (checkpoint_step budget) = false
stores_nothing (checkpoint_end budget) = false
stores_nothing restart_begin = true
stores_nothing (restart_step source) = true
stores_nothing (restart_run source most) = true
stores_nothing (restart_end budget) = false
stores_nothing new_state = true

-- words XORed into the page memory are no stores
xor_stores : (at : ℕ) (diff memory : List ℕ) → stores (xor_in at diff memory) ≡ 0
unfolding xor_in
xor_stores at diff memory = stores_written pages at _

record_stores : (c : Core) (w : World) (disk : ℕ) (d : Decoded) → stores (record_step c w disk d).actions ≡ 0
unfolding stores
record_stores c w disk (Change kind page slot number copy width next) =
    go (replays c.epoch (fate_from c w disk number next) copy)
  where
    back : List Action
    back = xor_in (slot_base c.sizes page slot) (span (read_disk c w disk) (position_of c disk + 3) width) w.pages

    go : (b : Bool) → stores (cond b back []) ≡ 0
    go true = xor_stores (slot_base c.sizes page slot) _ w.pages
    go false = refl
record_stores c w disk (Close kind number next) = refl
record_stores c w disk Malformed = refl

step_stores : (c : Core) (w : World) (source : ℕ) → stores (restart_step_task c w source).actions ≡ 0
unfolding restart_step_task backup_step
step_stores c w source = go (ltb source c.sizes.disks)
  where
    go : (b : Bool) → stores (cond b (record_step c w source (next_record c w source)) (backup_step c w)).actions ≡ 0
    go true = record_stores c w source (next_record c w source)
    go false = xor_stores (page_base c.sizes c.replay.page) _ w.pages

run_stores : (most : ℕ) (c : Core) (w : World) (source : ℕ) → stores (restart_run_task most c w source).actions ≡ 0
unfolding restart_run_task stores
run_stores zero c w source = refl
run_stores (suc n) c w source = go (verdict (restart_step_rows c w source)) (run_stores n _ _ source)
  where
    step : Task
    step = restart_step_task c w source

    go : (v : Verdict) → stores (restart_run_task n step.core (perform step.actions w) source).actions ≡ 0
        → stores (step_then v step (λ c' w'. restart_run_task n c' w' source) c w).actions ≡ 0
    go (rejected number first second) more = refl
    go accepted more = stores_append step.actions _ ∙ omega (arith, step_stores c w source, more)

pub nothing_stored : (k : Call) (c : Core) (w : World) → stores_nothing k ≡ true → stores (task_of k c w).actions ≡ 0
unfolding stores begin_task look_task set_classes_task checkpoint_begin_task restart_begin_task
nothing_stored (format s budget) c w h = absurd (false≢true h)
nothing_stored (begin class) c w h = refl
nothing_stored (update number page slot value budget) c w h = absurd (false≢true h)
nothing_stored (look q) c w h = refl
nothing_stored (commit number budget) c w h = absurd (false≢true h)
nothing_stored (abort number budget) c w h = absurd (false≢true h)
nothing_stored (set_classes lines) c w h = refl
nothing_stored checkpoint_begin c w h = refl
nothing_stored (checkpoint_step budget) c w h = absurd (false≢true h)
nothing_stored (checkpoint_end budget) c w h = absurd (false≢true h)
nothing_stored restart_begin c w h = stores_written pages 0 _
nothing_stored (restart_step source) c w h = step_stores c w source
nothing_stored (restart_run source most) c w h = run_stores most c w source
nothing_stored (restart_end budget) c w h = absurd (false≢true h)
nothing_stored new_state c w h = refl

-- so no budget is too small
pub storeless_finishes : (k : Call) (c : Core) (w : World) → stores_nothing k ≡ true → finishes (budget_of k) (task_of k c w).actions ≡ true
unfolding finishes
storeless_finishes k c w h = rw (nothing_stored k c w h) (leb-zero (budget_of k))

not_interrupted : (v : Verdict) (budget : ℕ) (t : Task) (c : Core) (w : World) → finishes budget t.actions ≡ true
    → (n : ℕ) → (conclude v budget t c w).answer ≡ Interrupted n → ⊥
not_interrupted accepted budget t c w h n a =
    let b = rw h at a in
    let z : ◌≡◌ {A = ℕ} 0 1 = cc in
    omega arith
not_interrupted (rejected number first second) budget t c w h n a = let z : ◌≡◌ {A = ℕ} 0 1 = cc in omega arith

pub never_interrupted : (k : Call) (c : Core) (w : World) → stores_nothing k ≡ true
    → (n : ℕ) → (result_of k c w).answer ≡ Interrupted n → ⊥
unfolding result_of
never_interrupted k c w h = not_interrupted (verdict (rows_of k c w)) (budget_of k) (task_of k c w) c w (storeless_finishes k c w h)
