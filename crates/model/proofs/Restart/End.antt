-- A restart makes the pages of the image that it began on, and so the order of its steps does not matter.
use mathlib.Core.Path.{◌≡◌, refl, sym, ap, ◌∙◌}
use mathlib.Core.List.{List, [], ◌∷◌, ◌++◌}
use Prim.Native.Nat.{ℕ, zero, suc, ◌+◌, ◌≤◌, ◌<◌}
use native.Mathlib.Omega.{arith}
use lib.Dec.{eqb}
use lib.ListN.{length, get_or}
use lib.Seq.{ext_get_or}
use borrow.Author.Tests.{lt-leb, eqb-true, not-false}
use Rattle.model.specs.declared.Core.{Core}
use Rattle.model.specs.Below.{join_below, list_below}
use Rattle.model.specs.Sizes.{page_base, page_words, total}
use Rattle.model.specs.Anchor.{epoch_word, start_word, backup_at}
use Rattle.model.specs.World.{World, Action, store, write, anchor, backups, work, act, perform, each}
use Rattle.model.specs.State.{tail_of}
use Rattle.model.specs.Format.{fresh_memory}
use Rattle.model.specs.Restart.{position_of, remaining, read_disk, restart_end_rows, restart_end_task}
use Rattle.model.specs.Reference.{taken, outcome_of}
use Rattle.model.specs.Call.{restart_begin, restart_step, restart_end, result_of}
use Rattle.model.specs.Machine.{Machine, result, outcome, after, call, after_steps}
use Rattle.model.specs.Image.{image_of, restarted, image_from}
use Rattle.model.specs.Promise.{ReplayOrder}
use Rattle.model.proofs.Xor.{⊕-zero-r}
use Rattle.model.proofs.Below.{sum_mono, all_each}
use Rattle.model.proofs.Scan.{scan_end}
use Rattle.model.proofs.Run.{perform_append}
use Rattle.model.proofs.Restart.Words.{xor_below_none}
use Rattle.model.proofs.Restart.Gain.{gain, length_restarted}
use Rattle.model.proofs.Restart.Image.{SameDevices, devices_trans, image_devices}
use Rattle.model.proofs.Restart.Taken.{Taken, taken_call, taken_or_left}
use Rattle.model.proofs.Restart.Progress.{log_left, backup_left, logs_left, Progress, begin_progress}
use Rattle.model.proofs.Restart.Steps.{remaining_log, remaining_backup, step_progress}
use Rattle.model.proofs.Verdict.{row_passed}

-- At the end nothing is left: the pages are the image's.
module _ (c : Core) (w : World) (m : Progress c w) (none : (i : ℕ) → i < c.sizes.disks + 1 → remaining c i ≡ 0) where
  log_done : (d : ℕ) → d < c.sizes.disks → (x : ℕ) → gain c.sizes c.epoch (log_left c w d) x ≡ 0
  unfolding log_left gain
  log_done d h x =
      let r = remaining_log c d h in
      let z = none d (omega arith) in
      rw (scan_end c.sizes (read_disk c w d) (tail_of c.logs d) (position_of c d) (omega arith))

  logs_done : (x : ℕ) → logs_left c w x ≡ 0
  unfolding logs_left
  logs_done x = xor_below_none _ c.sizes.disks (λ d h. log_done d h x)

  whole : total c.sizes ≤ page_base c.sizes c.replay.page
  unfolding total page_base
  whole =
      let r = remaining_backup c in
      let z = none c.sizes.disks (omega arith) in
      sum_mono (page_words c.sizes) c.sizes.pages c.replay.page (omega arith)

  backup_done : (x : ℕ) → x < total c.sizes → backup_left c w x ≡ 0
  unfolding backup_left
  backup_done x h = rw (lt-leb (page_base c.sizes c.replay.page) x (omega (arith, whole)))

  done_word : (x : ℕ) → x < length w.pages → get_or w.pages x 0 ≡ get_or (restarted (image_of w)) x 0
  done_word x h =
      let k : x < total c.sizes = omega (arith, m.lengths.pages) in
      rw (backup_done x k, logs_done x, ⊕-zero-r 0, ⊕-zero-r (get_or w.pages x 0)) at (m.words x k)

  done_pages : w.pages ≡ restarted (image_of w)
  unfolding image_of image_from
  done_pages =
      ext_get_or 0 w.pages (restarted (image_of w))
      (m.lengths.pages ∙ ap total m.sizes ∙ sym (length_restarted (image_of w) (m.backup ∙ ap total m.sizes))) done_word

-- lists of actions that keep the pages
KeepsPages : List Action → Type 0
KeepsPages l = (w : World) → (perform l w).pages ≡ w.pages

keeps_append : (l k : List Action) → KeepsPages l → KeepsPages k → KeepsPages (l ++ k)
unfolding KeepsPages
keeps_append l k p q w = rw (perform_append l k w) (q (perform l w) ∙ p w)

keeps_each : (put : ℕ → ℕ → Action) → ((i x : ℕ) (w : World) → (act (put i x) w).pages ≡ w.pages) → (i : ℕ) (xs : List ℕ)
    → KeepsPages (each put i xs)
unfolding KeepsPages perform each
keeps_each put one i [] w = refl
keeps_each put one i (x ∷ xs) w = keeps_each put one (i + 1) xs (act (put i x) w) ∙ one i x w

keeps_list : (f : ℕ → Action) → ((i : ℕ) (w : World) → (act (f i) w).pages ≡ w.pages) → (n : ℕ) → KeepsPages (list_below f n)
unfolding KeepsPages perform list_below join_below
keeps_list f one zero = λ w. refl
keeps_list f one (suc n) =
    keeps_append (list_below f n) (f n ∷ []) (keeps_list f one n) (one n)

keeps_cons : (a : Action) (l : List Action) → ((w : World) → (act a w).pages ≡ w.pages) → KeepsPages l → KeepsPages (a ∷ l)
unfolding KeepsPages perform
keeps_cons a l one p w = p (act a w) ∙ one w

keeps_none : KeepsPages []
unfolding KeepsPages perform
keeps_none w = refl

end_keeps : (c : Core) (w : World) → KeepsPages (restart_end_task c w).actions
unfolding restart_end_task fresh_memory act
end_keeps c w =
    let pages = keeps_each (store backups) (λ i x v. refl) (backup_at c.sizes (c.epoch + 1)) w.pages in
    let rows = keeps_list (λ d. store anchor (start_word (c.epoch + 1) d) (tail_of c.logs d)) (λ d v. refl) c.sizes.disks in
    let epoch = keeps_cons (store anchor epoch_word (c.epoch + 1)) [] (λ v. refl) keeps_none in
    keeps_append _ _ (keeps_append _ _ (keeps_append _ _ pages rows) epoch) (keeps_append _ _ (keeps_each (write work) (λ i x v. refl) _ _) (keeps_each (write work) (λ i x v. refl) _ _))

-- the end is taken only when nothing remains
end_none : (c : Core) (w : World) (budget : ℕ) → Taken (restart_end budget) c w → (i : ℕ) → i < c.sizes.disks + 1 → remaining c i ≡ 0
unfolding restart_end_rows
end_none c w budget t i h =
    let a = (row_passed _ _ t.accepted).1 in
    let b = (row_passed _ _ a).1 in
    let d = (row_passed _ _ b).1 in
    let f = (row_passed _ _ d).0 in
    eqb-true _ _ (all_each (λ i. eqb (remaining c i) 0) (c.sizes.disks + 1) (not-false _ f) i h)

-- A restart end that is taken leaves the pages, and they are those that the image makes.
pub end_gives : (c : Core) (w : World) (budget : ℕ) → Progress c w
    → outcome_of (result_of (restart_end budget) c w).answer ≡ taken
    → ((result_of (restart_end budget) c w).world.pages ≡ restarted (image_of w))
    × ((result_of (restart_end budget) c w).world.pages ≡ w.pages)
unfolding KeepsPages
end_gives c w budget m e =
    let t = taken_call (restart_end budget) c w e in
    let kept = end_keeps c w w in
    rw t.world (kept ∙ done_pages c w m (end_none c w budget t), kept)

-- a machine in a restart that began on devices `w`
pub record Restarting (w : World) (m : Machine) : Type 0 where
  pub progress : Progress m.core m.world
  pub devices : SameDevices m.world w

-- steps, taken or refused, in any order
pub steps_restarting : (w : World) (sources : List ℕ) (m : Machine) → Restarting w m → Restarting w (after_steps sources m)
unfolding after_steps result
steps_restarting w [] m r = r
steps_restarting w (source ∷ sources) m r =
    steps_restarting w sources (after m (call (restart_step source)))
    (taken_or_left (λ (c : Core) (v : World). Restarting w (record { core = c; world = v })) (restart_step source) m.core m.world refl r
    (λ e.
    let p = step_progress m.core m.world source r.progress e in
    record { progress = p.0; devices = devices_trans p.1 r.devices }))

-- A restart from its begin to its end makes the pages of the image that it began on.
pub restart_gives : (m : Machine) (sources : List ℕ) (budget : ℕ) → outcome m restart_begin ≡ taken
    → outcome (after_steps sources (after m (call restart_begin))) (restart_end budget) ≡ taken
    → (after (after_steps sources (after m (call restart_begin))) (call (restart_end budget))).world.pages ≡ restarted (image_of m.world)
unfolding outcome result
restart_gives m sources budget begun ended =
    let b = begin_progress m.core m.world begun in
    let begin : Machine = after m (call restart_begin) in
    let r = steps_restarting m.world sources begin (record { progress = b.0; devices = b.1 }) in
    let last : Machine = after_steps sources begin in
    (end_gives last.core last.world budget r.progress ended).0 ∙ ap restarted (image_devices r.devices)

-- So the order of the steps does not matter (000's theorem 3: see specs/Promise.antt).
pub replay_order : ReplayOrder
unfolding ReplayOrder
replay_order m some other n k begun one two =
    (restart_gives m some n begun one, restart_gives m some n begun one ∙ sym (restart_gives m other k begun two))
