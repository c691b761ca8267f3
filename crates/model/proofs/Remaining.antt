-- What a restart step leaves of each source, and a run of them.
use mathlib.Core.Path.{◌≡◌, refl, ap, ◌∙◌}
use mathlib.Core.Bool.{cond}
use Prim.Native.Nat.{ℕ, ◌+◌, ◌-◌, ◌≤◌, ◌<◌}
use native.Mathlib.Omega.{arith}
use native.Mathlib.Decide.{dec_lt}
use lib.Dec.{ltb}
use lib.ListN.{length}
use lib.Seq.{get_or-set_same, get_or-set_other}
use borrow.Author.Tests.{lt-ltb, le-ltb, ne_eqb}
use Rattle.model.specs.declared.Core.{Core}
use Rattle.model.specs.declared.Decoded.{Decoded}
use Rattle.model.specs.declared.Decoded.TheVariants.{Change, Close, Malformed}
use Rattle.model.specs.World.{World, perform}
use Rattle.model.specs.State.{with_replay, tail_of}
use Rattle.model.specs.Refusal.{Task}
use Rattle.model.specs.Restart.{position_of, remaining, read_disk, next_record, moved_to, record_step, backup_step, restart_step_task, restart_run_task}
use Rattle.model.specs.Call.{restart_step}
use Rattle.model.specs.Reference.{taken}
use Rattle.model.specs.Machine.{Machine, outcome}
use Rattle.model.proofs.Decode.{found_change, found_close}
use Rattle.model.proofs.Restart.Progress.{Progress}
use Rattle.model.proofs.Restart.Steps.{remaining_log, remaining_backup, step_source, task_progress}
use Rattle.model.proofs.Restart.Run.{run_keeps, did, task_makes}
use Rattle.model.proofs.Store.Checks.{record_well}

-- where something is left there is a source
remaining_source : (c : Core) (source : ℕ) → c.sizes.disks < source → remaining c source ≡ 0
unfolding remaining
remaining_source c source h =
    rw (le-ltb source c.sizes.disks (omega arith), ne_eqb source c.sizes.disks (λ e. omega arith))

-- what a step to another position leaves: of its own disk the words behind that, of the other sources what there was
module _ (c : Core) (d next : ℕ) (h : d < c.sizes.disks) (room : c.sizes.disks ≤ length c.replay.positions) where
  moved_own : remaining (moved_to c d next) d ≡ tail_of c.logs d - next
  unfolding remaining moved_to with_replay position_of
  moved_own = rw (lt-ltb d c.sizes.disks h, get_or-set_same c.replay.positions d next 0 (omega arith))

moved_other : (c : Core) (d next other : ℕ) → (other ≡ d → ⊥) → remaining (moved_to c d next) other ≡ remaining c other
unfolding remaining moved_to with_replay position_of
moved_other c d next other ne = rw (get_or-set_other c.replay.positions d other next 0 ne)

pub at_source : (c : Core) (source : ℕ) → 0 < remaining c source → source ≤ c.sizes.disks
at_source c source some = go (dec_lt c.sizes.disks source)
  where
    go : Dec (c.sizes.disks < source) → source ≤ c.sizes.disks
    go (yes h) = absurd (omega (arith, remaining_source c source h))
    go (no h) = omega arith

module _ (c : Core) (w : World) (m : Progress c w) where
  -- a record taken leaves the words behind it
  record_less : (d : ℕ) → d < c.sizes.disks → 0 < remaining c d → (r : Decoded) → next_record c w d ≡ r
      → remaining (record_step c w d r).core d < remaining c d
  unfolding next_record
  record_less d h some (Change kind page slot number copy width next) e =
      let at = found_change c.sizes (read_disk c w d) (tail_of c.logs d) e in
      rw (moved_own c d next h m.room) (omega (arith, remaining_log c d h, at.next_eq, at.next_le))
  record_less d h some (Close kind number next) e =
      let at = found_close c.sizes (read_disk c w d) (tail_of c.logs d) e in
      rw (moved_own c d next h m.room) (omega (arith, remaining_log c d h, at.next_eq, at.next_le))
  record_less d h some Malformed e =
      let f = record_well c w m d h (omega (arith, remaining_log c d h)) Malformed e in
      let z : ◌≡◌ {A = ℕ} 0 1 = cc in
      absurd (omega arith)

  page_less : remaining (backup_step c w).core c.sizes.disks ≡ c.sizes.pages - (c.replay.page + 1)
  unfolding backup_step with_replay
  page_less = remaining_backup (backup_step c w).core

  pub task_less : (source : ℕ) → 0 < remaining c source → remaining (restart_step_task c w source).core source < remaining c source
  unfolding restart_step_task
  task_less source some = go (dec_lt source c.sizes.disks)
    where
      go : Dec (source < c.sizes.disks)
          → remaining (cond (ltb source c.sizes.disks) (record_step c w source (next_record c w source)) (backup_step c w)).core source < remaining c source
      go (yes h) = rw (lt-ltb source c.sizes.disks h) (record_less source h some (next_record c w source) refl)
      go (no h) =
          let last : source ≡ c.sizes.disks = omega (arith, at_source c source some) in
          let some' : 0 < remaining c c.sizes.disks = rw last at some in
          rw (last, le-ltb c.sizes.disks c.sizes.disks (omega arith)) (omega (arith, page_less, remaining_backup c))

module _ (c : Core) (w : World) where
  -- whichever record or page a step takes, the other sources stay
  record_others : (d other : ℕ) → (other ≡ d → ⊥) → (r : Decoded) → remaining (record_step c w d r).core other ≡ remaining c other
  record_others d other ne (Change kind page slot number copy width next) = moved_other c d next other ne
  record_others d other ne (Close kind number next) = moved_other c d next other ne
  record_others d other ne Malformed = refl

  backup_others : (other : ℕ) → (other ≡ c.sizes.disks → ⊥) → remaining (backup_step c w).core other ≡ remaining c other
  unfolding remaining backup_step with_replay position_of
  backup_others other ne = rw (ne_eqb other c.sizes.disks ne)

  pub task_others : (source other : ℕ) → source ≤ c.sizes.disks → (other ≡ source → ⊥)
      → remaining (restart_step_task c w source).core other ≡ remaining c other
  unfolding restart_step_task
  task_others source other at ne = go (dec_lt source c.sizes.disks)
    where
      go : Dec (source < c.sizes.disks)
          → remaining (cond (ltb source c.sizes.disks) (record_step c w source (next_record c w source)) (backup_step c w)).core other ≡ remaining c other
      go (yes h) = rw (lt-ltb source c.sizes.disks h) (record_others source other ne (next_record c w source))
      go (no h) =
          rw (le-ltb source c.sizes.disks (omega arith)) (backup_others other (λ e. ne (omega arith)))

-- So a run leaves less by as many steps as it makes, and as much of the others.
pub run_left : (c : Core) (w : World) → Progress c w → (source most : ℕ) → let t : Task = restart_run_task most c w source in
    Progress t.core (perform t.actions w) × (remaining t.core source + t.value ≤ remaining c source)
run_left c w m source most =
    run_keeps most (λ k n v. Progress n v × (remaining n source + k ≤ remaining c source)) source
    (λ k n v ok now.
    let found = step_source n v source ok in (
      task_progress n v source now.0 found.0 found.1,
      omega (arith, now.1, task_less n v now.0 source (omega (arith, found.1))),
    )) c w (m, omega arith)

pub run_others : (c : Core) (w : World) (source most other : ℕ) → (other ≡ source → ⊥)
    → remaining (restart_run_task most c w source).core other ≡ remaining c other
run_others c w source most other ne =
    run_keeps most (λ k n v. remaining n other ≡ remaining c other) source
    (λ k n v ok now. task_others n v source other (step_source n v source ok).0 ne ∙ now) c w refl

-- A run of as many steps as remain leaves nothing: it ends where a step is refused, or each of its steps left less.
pub run_empties : (m : Machine) (source most : ℕ) → Progress m.core m.world → remaining m.core source ≤ most
    → let t : Task = restart_run_task most m.core m.world source in
    (0 < remaining t.core source → outcome (did m t) (restart_step source) ≡ taken) → remaining t.core source ≡ 0
run_empties m source most p enough on = go (dec_lt t.value most) (dec_lt 0 (remaining t.core source))
  where
    t : Task
    t = restart_run_task most m.core m.world source

    go : Dec (t.value < most) → Dec (0 < remaining t.core source) → remaining t.core source ≡ 0
    go (yes fewer) (yes some) =
        let makes = task_makes most m source in
        let stop = ap (λ (x : Machine). outcome x (restart_step source)) makes.leaves ∙ makes.stops fewer in
        let more = on some in
        let z : ◌≡◌ {A = ℕ} 0 1 = cc in
        absurd (omega arith)
    go (yes fewer) (no none) = omega arith
    go (no last) x = omega (arith, (run_left m.core m.world p source most).1)
