-- Restart step: its rows 7, 8 and 15, and what a step does when none applies.
use Rattle.std.specs.Prelude.{None}
use mathlib.Core.Path.{◌≡◌, refl, ap, ◌∙◌}
use mathlib.Core.Bool.{Bool, true, false, cond}
use mathlib.Core.Logic.{◌⊎◌, inl, inr}
use mathlib.Core.List.{List, []}
use Prim.Native.Nat.{ℕ, ◌+◌, ◌≤◌, ◌<◌}
use native.Mathlib.Omega.{arith}
use borrow.Author.Tests.{lt-ltb, le-ltb, eq-eqb, ne_eqb}
use Rattle.model.specs.declared.Core.{Core}
use Rattle.model.specs.declared.Decoded.{Decoded}
use Rattle.model.specs.declared.Decoded.TheVariants.{Change, Close, Malformed}
use Rattle.model.specs.declared.Fate.{Fate}
use Rattle.model.specs.declared.Fate.TheVariants.{Closed, Unclosed, Unreadable}
use Rattle.model.specs.Record.{bad_record}
use Rattle.model.specs.Word.{part}
use Rattle.model.specs.Sizes.{page_base, page_words, slot_base}
use Rattle.model.specs.Anchor.{backup_at}
use Rattle.model.specs.Decode.{span}
use Rattle.model.specs.Image.{xor_at}
use Rattle.model.specs.World.{World, Action, perform}
use Rattle.model.specs.State.{with_replay, tail_of}
use Rattle.model.specs.Refusal.{rejected, verdict}
use Rattle.model.specs.Causes.{source_missing}
use Rattle.model.specs.Abort.{xor_in}
use Rattle.model.specs.Restart.{position_of, remaining, replays, read_disk, fate_from, next_record, fate_fault, record_fault, step_fault, backup_step, moved_to, record_step, restart_step_task}
use Rattle.model.specs.Call.{restart_step}
use Rattle.model.proofs.Storeless.{storeless_finishes}
use Rattle.model.proofs.Restart.Words.{with_pages, perform_xor}
use Rattle.model.proofs.Restart.Steps.{remaining_log, remaining_backup}
use Rattle.frame.specs.Settle.{refused_with}
use Rattle.replay.specs.Step.{finished, step_rest, StepsOn}
use Rattle.replay.proofs.Storeless.{nothing_spent}

module _ (c : Core) (w : World) (source : ℕ) where
  -- A refusal by one of these rows.
  steps_refused : (number first second : ℕ) → verdict (step_rest c w source) ≡ rejected number first second
      → StepsOn c w source (refused_with c number first second) w
  unfolding StepsOn
  steps_refused number first second e = rw e

  pub fault_refused : (disk p : ℕ) → step_fault c w source ≡ bad_record disk p → StepsOn c w source (refused_with c 7 disk p) w
  unfolding step_rest verdict
  fault_refused disk p e = steps_refused 7 disk p (rw e)

  none_refused : step_fault c w source ≡ None → source ≤ c.sizes.disks → remaining c source ≡ 0
      → StepsOn c w source (refused_with c 15 0 0) w
  unfolding step_rest verdict source_missing
  none_refused e h z = steps_refused 15 0 0 (rw (e, le-ltb c.sizes.disks source h, eq-eqb (remaining c source) 0 z))

  pub step_missing : c.sizes.disks < source → StepsOn c w source (refused_with c 8 0 0) w
  unfolding step_rest verdict source_missing step_fault
  step_missing h = steps_refused 8 0 0 (rw (le-ltb source c.sizes.disks (omega arith), lt-ltb c.sizes.disks source h))

  -- A step that none refuses.
  steps_taken : {actions : List Action} {k : Core} {v : World} → step_fault c w source ≡ None → source ≤ c.sizes.disks
      → 0 < remaining c source → restart_step_task c w source ≡ record { actions = actions; core = k; value = 0 }
      → perform actions w ≡ v → StepsOn c w source (finished k) v
  unfolding StepsOn step_rest verdict source_missing
  steps_taken {actions} {k} {v} e h left same did =
      rw (e, le-ltb c.sizes.disks source h, ne_eqb (remaining c source) 0 (λ z. omega arith), same)
      (nothing_spent actions k 0 w v (rw same at (storeless_finishes (restart_step source) c w refl)) did)

-- A search ahead that meets no malformed record is no fault.
pub not_told : {m : ℕ} → (m ≡ 0) ⊎ (m ≡ 1) → m ≡ 2 → ⊥
not_told (inl e) z = omega arith
not_told (inr e) z = omega arith

pub fate_sound : (disk : ℕ) (f : Fate) → ((p : ℕ) → f ≡ Unreadable p → ⊥) → fate_fault disk f ≡ None
fate_sound disk Closed unmet = refl
fate_sound disk Unclosed unmet = refl
fate_sound disk (Unreadable p) unmet = absurd (unmet p refl)

-- A log.
module _ (c : Core) (w : World) (disk : ℕ) (h : disk < c.sizes.disks) where
  pub step_none : tail_of c.logs disk ≤ position_of c disk → StepsOn c w disk (refused_with c 15 0 0) w
  unfolding step_fault
  step_none l =
      let none : remaining c disk ≡ 0 = omega (arith, remaining_log c disk h) in
      none_refused c w disk (rw (lt-ltb disk c.sizes.disks h, none)) (omega arith) none

  module _ (l : position_of c disk < tail_of c.logs disk) where
    some : 0 < remaining c disk
    some = omega (arith, remaining_log c disk h)

    pub fault_here : {d : Decoded} → next_record c w disk ≡ d → step_fault c w disk ≡ record_fault c w disk d
    unfolding step_fault
    fault_here e = rw (lt-ltb disk c.sizes.disks h, lt-ltb 0 (remaining c disk) some, e)

    task_here : {d : Decoded} → next_record c w disk ≡ d → restart_step_task c w disk ≡ record_step c w disk d
    unfolding restart_step_task
    task_here e = rw (lt-ltb disk c.sizes.disks h, e)

    pub step_malformed : next_record c w disk ≡ Malformed → StepsOn c w disk (refused_with c 7 disk (position_of c disk)) w
    step_malformed e = fault_refused c w disk disk (position_of c disk) (fault_here e)

    pub step_close : {kind number next : ℕ} → next_record c w disk ≡ Close kind number next
        → StepsOn c w disk (finished (moved_to c disk next)) w
    unfolding perform
    step_close e = steps_taken c w disk (fault_here e) (omega arith) some (task_here e) refl

    module _ {kind page slot number copy width next : ℕ} (e : next_record c w disk ≡ Change kind page slot number copy width next) where
      pub step_unreadable : {p : ℕ} → fate_from c w disk number next ≡ Unreadable p → StepsOn c w disk (refused_with c 7 disk p) w
      step_unreadable {p} f = fault_refused c w disk disk p (fault_here e ∙ ap (fate_fault disk) f)

      pub step_change : {f : Fate} {b : Bool} {after : List ℕ} → fate_from c w disk number next ≡ f → ((p : ℕ) → f ≡ Unreadable p → ⊥)
          → b ≡ replays c.epoch f copy
          → after ≡ cond b (xor_at (slot_base c.sizes page slot) (span (read_disk c w disk) (position_of c disk + 3) width) w.pages) w.pages
          → StepsOn c w disk (finished (moved_to c disk next)) (with_pages w after)
      unfolding perform
      step_change {f} {b} {after} fate unmet is did =
          steps_taken c w disk (fault_here e ∙ ap (fate_fault disk) fate ∙ fate_sound disk f unmet) (omega arith) some (task_here e)
          (rw (fate, ← is, did) (go b))
        where
          diff : List ℕ
          diff = span (read_disk c w disk) (position_of c disk + 3) width

          at : ℕ
          at = slot_base c.sizes page slot

          go : (b : Bool) → perform (cond b (xor_in at diff w.pages) []) w ≡ with_pages w (cond b (xor_at at diff w.pages) w.pages)
          go true = perform_xor at diff w
          go false = refl

-- The backup.
module _ (c : Core) (w : World) where
  pub no_fault : step_fault c w c.sizes.disks ≡ None
  unfolding step_fault
  no_fault = rw (le-ltb c.sizes.disks c.sizes.disks (omega arith))

  pub backup_none : c.sizes.pages ≤ c.replay.page → StepsOn c w c.sizes.disks (refused_with c 15 0 0) w
  backup_none l = none_refused c w c.sizes.disks no_fault (omega arith) (omega (arith, remaining_backup c))

  pub backup_taken : {after : List ℕ} → c.replay.page < c.sizes.pages
      → after ≡ xor_at (page_base c.sizes c.replay.page) (part (backup_at c.sizes c.epoch + page_base c.sizes c.replay.page) (page_words c.sizes c.replay.page) w.backups) w.pages
      → StepsOn c w c.sizes.disks (finished (with_replay c (record { positions = c.replay.positions; page = c.replay.page + 1 }))) (with_pages w after)
  unfolding restart_step_task backup_step
  backup_taken l did =
      let at : ℕ = page_base c.sizes c.replay.page in
      let diff : List ℕ = part (backup_at c.sizes c.epoch + at) (page_words c.sizes c.replay.page) w.backups in
      steps_taken c w c.sizes.disks {actions = xor_in at diff w.pages} no_fault (omega arith) (omega (arith, remaining_backup c))
      (rw (le-ltb c.sizes.disks c.sizes.disks (omega arith)))
      (rw did (perform_xor at diff w))
