-- Restart step: from what its parts give to `Serves`.
use mathlib.Core.Path.{◌≡◌, refl, sym, ap, subst, ◌∙◌}
use mathlib.Core.List.{List, [], ◌∷◌, ◌++◌}
use mathlib.Core.Bool.{Bool, true, false, cond, not, ◌&&◌}
use Prim.Native.Nat.{ℕ, ◌+◌, ◌-◌, ◌*◌, ◌%◌, ◌<◌}
use native.Mathlib.Nat.{zero-mul, one-mul}
use native.Mathlib.Omega.{arith}
use lib.ListN.{length, set, take, drop, take-append-drop}
use lib.Dec.{leb, eqb}
use borrow.Author.Tests.{eqb-true, eq-eqb, ne_eqb}
use Rattle.model.specs.declared.Stage.{Stage}
use Rattle.model.specs.declared.Stage.TheVariants.{Shut, Replaying, Open, Copying}
use Rattle.model.specs.declared.Core.{Core}
use Rattle.model.specs.declared.Carried.{Carried}
use Rattle.model.specs.declared.Handed.{Handed}
use Rattle.model.specs.declared.Sizes.{Sizes}
use Rattle.model.specs.Sizes.{total, counts_in_bounds, log_words, disk_at}
use Rattle.model.specs.Memory.{work_words}
use Rattle.model.specs.Anchor.{anchor_words, backup_at}
use Rattle.model.specs.World.{World, world_of}
use Rattle.model.specs.State.{sound_in, sound, replay_sound, with_replay}
use Rattle.model.specs.Refusal.{row, verdict, rejected}
use Rattle.model.specs.Causes.{when_shut, when_replaying, anchor_wrong}
use Rattle.model.specs.Restart.{moved_to, restart_step_rows}
use Rattle.model.specs.Call.{restart_step, result_of}
use Rattle.model.specs.View.{head_words, head_positions, head_page, own_work, core_of, carried_of, head_of, body_of, given, Serves}
use Rattle.model.specs.Fields.{positions, page, put, put_words}
use Rattle.model.proofs.Booleans.{true_false, both, all_four}
use Rattle.model.proofs.Store.Rows.{not_shut}
use Rattle.model.proofs.View.Laid.{set_in}
use Rattle.model.proofs.View.Head.{carried_back}
use Rattle.model.proofs.View.Fields.{put_lists, Within, head_put}
use Rattle.frame.specs.Settle.{refused_with}
use Rattle.frame.specs.Handed.{refused_to, finished_to}
use Rattle.layout.specs.Raw.{counts_of, lengths_are}
use Rattle.frame.specs.Fits.{counts_within}
use Rattle.frame.specs.Lent.{lent_refusal}
use Rattle.frame.proofs.LentChecks.{LentReady, first_refused, first_passed, first_ready, first_own}
use Rattle.replay.specs.Step.{Replays, finished, step_rest, StepsOn}
use Rattle.replay.proofs.Facts.{words_kept}
use Rattle.replay.proofs.Stepping.{step_missing}
use Rattle.restart.specs.Step.{OnDisk, OnBackup, StepsTo}

-- The head after a step: one word is another.
module _ (h : Carried) (work : List ℕ) (own : own_work h work ≡ true) where
  pub moved_words : (disk next : ℕ) → disk < 8
      → set work (head_positions + disk) next ≡ head_of (moved_to (core_of h work) disk next) ++ drop head_words work
  unfolding put_words put_lists set_in Within moved_to with_replay
  moved_words disk next low =
      ap (λ (l : List ℕ). set l (head_positions + disk) next) (sym (take-append-drop head_words work))
      ∙ head_put h work (drop head_words work) own (put positions disk next ∷ []) (low, tt) (moved_to (core_of h work) disk next) refl

  pub paged_words : (next : ℕ)
      → set work head_page next
      ≡ head_of (with_replay (core_of h work) (record { positions = (core_of h work).replay.positions; page = next })) ++ drop head_words work
  unfolding put_words put_lists set_in Within with_replay
  paged_words next =
      ap (λ (l : List ℕ). set l head_page next) (sym (take-append-drop head_words work))
      ∙ head_put h work (drop head_words work) own (put page 0 next ∷ []) (omega arith, tt)
      (with_replay (core_of h work) (record { positions = (core_of h work).replay.positions; page = next })) refl

-- What a step gives, from what it gives on the view.
module _ (h : Carried) (w : World) (source : ℕ) where
  abbrev c : Core
  c = core_of h w.work

  pub to_refused : {number first second : ℕ} (v : World) → StepsOn c (body_of w) source (refused_with c number first second) v
      → {work : List ℕ} → work ≡ take head_words w.work ++ v.work → {r : Handed} → r ≡ refused_to h number first second
      → StepsTo h w source r (world_of v.anchor v.pages v.backups v.logs work)
  unfolding StepsOn StepsTo
  to_refused v did head e = rw (e, head, ← did, carried_back h w.work) refl

  pub to_finished : (k : Core) (v : World) → StepsOn c (body_of w) source (finished k) v → when_shut k.stage ≡ false → carried_of k ≡ h
      → {work : List ℕ} → work ≡ head_of k ++ v.work → {r : Handed} → r ≡ finished_to h 0 0
      → StepsTo h w source r (world_of v.anchor v.pages v.backups v.logs work)
  unfolding StepsOn StepsTo
  to_finished k v did shown same head e = rw (e, head, ← did, shown, same) refl

-- The first rows.
module _ (h : Carried) (w : World) (source : ℕ) {r : ℕ}
    (answer : r ≡ lent_refusal (when_replaying h.stage) h.pages h.disks h.ring h.total (length w.anchor) (length w.pages) (length w.backups) (length w.logs) (length w.work))
  where
    pub step_lent : (r ≡ 0 → ⊥) → verdict (restart_step_rows (core_of h w.work) (body_of w) source) ≡ rejected r 0 0
    unfolding restart_step_rows step_rest
    step_lent some = first_refused when_replaying h w answer some (sound (core_of h w.work)) (step_rest (core_of h w.work) (body_of w) source)

    module _ (none : r ≡ 0) where
      passed : verdict (restart_step_rows (core_of h w.work) (body_of w) source)
          ≡ verdict (row 1 (not (sound (core_of h w.work))) ∷ row 2 (anchor_wrong w.anchor) ∷ step_rest (core_of h w.work) (body_of w) source)
      unfolding restart_step_rows step_rest
      passed = first_passed when_replaying h w answer none (sound (core_of h w.work)) (step_rest (core_of h w.work) (body_of w) source)

      pub step_unsound : sound (core_of h w.work) ≡ false → verdict (restart_step_rows (core_of h w.work) (body_of w) source) ≡ rejected 1 0 0
      unfolding verdict
      step_unsound e = passed ∙ rw e refl

      module _ (ok : sound (core_of h w.work) ≡ true) where
        pub step_anchor : (length w.anchor ≡ anchor_words → ⊥) → verdict (restart_step_rows (core_of h w.work) (body_of w) source) ≡ rejected 2 0 0
        unfolding verdict anchor_wrong
        step_anchor other = passed ∙ rw (ok, ne_eqb (length w.anchor) anchor_words other) refl

        pub step_serves : length w.anchor ≡ anchor_words → (reply : Handed) (v : World) → StepsTo h w source reply v
            → Serves (restart_step source) h w reply 0 v
        unfolding StepsTo Serves given result_of verdict anchor_wrong
        step_serves right reply v did =
            let rest : verdict (restart_step_rows (core_of h w.work) (body_of w) source) ≡ verdict (step_rest (core_of h w.work) (body_of w) source) =
            passed ∙ rw (ok, eq-eqb (length w.anchor) anchor_words right) refl in
            rw rest did

-- the test that the code makes is the whole one
replay_test : (c : Core) → when_replaying c.stage ≡ true → sound c ≡ replay_sound c
unfolding sound
replay_test c = go c.stage
  where
    go : (s : Stage) → when_replaying s ≡ true → sound_in s c ≡ replay_sound c
    go Shut e = true_false refl (sym e)
    go Replaying e = refl
    go Open e = true_false refl (sym e)
    go Copying e = true_false refl (sym e)

-- what the first checks leave beside
refused_by_lem : (allowed counts lengths anchor : Bool) → ◌≡◌ {A = ℕ} (cond (allowed && counts) (cond lengths 0 (cond anchor 5 2)) 1) 0 → (counts ≡ true) × (lengths ≡ true)
refused_by_lem false counts lengths anchor e = absurd (omega (arith, e))
refused_by_lem true false lengths anchor e = absurd (omega (arith, e))
refused_by_lem true true false true e = absurd (omega (arith, e))
refused_by_lem true true false false e = absurd (omega (arith, e))
refused_by_lem true true true anchor e = (refl, refl)

module _ (h : Carried) (w : World) {r : ℕ}
    (answer : r ≡ lent_refusal (when_replaying h.stage) h.pages h.disks h.ring h.total (length w.anchor) (length w.pages) (length w.backups) (length w.logs) (length w.work))
    (none : r ≡ 0)
  where
    tests : (counts_within h.pages h.disks h.ring h.total ≡ true)
        × (lengths_are h.disks h.ring h.total (length w.pages) (length w.backups) (length w.logs) (length w.work - head_words) ≡ true)
    unfolding lent_refusal
    tests =
        refused_by_lem (when_replaying h.stage) (counts_within h.pages h.disks h.ring h.total)
        (lengths_are h.disks h.ring h.total (length w.pages) (length w.backups) (length w.logs) (length w.work - head_words))
        (eqb (length w.anchor) anchor_words) (sym answer ∙ none)

    pub counts_in : counts_in_bounds (core_of h w.work).sizes ≡ true
    unfolding counts_within counts_in_bounds core_of
    counts_in = (both (counts_in_bounds (counts_of h.pages h.disks h.ring)) (leb h.total 8192) tests.0).0

    backups_long : length w.backups ≡ 2 * h.total
    unfolding lengths_are
    backups_long =
        eqb-true _ _
        (all_four (eqb (length w.pages) h.total) (eqb (length w.backups) (2 * h.total)) (eqb (length w.logs) (log_words (counts_of 0 h.disks h.ring)))
        (eqb (length w.work - head_words) (work_words (counts_of 0 h.disks h.ring) h.total)) tests.1).1

    -- the whole test of the state is that of the replaying state that the words show
    pub tested : {right : Bool}
        → ((h' : Carried) → own_work h' w.work ≡ true → h'.pages ≡ h.pages → h'.disks ≡ h.disks → h'.total ≡ h.total → h'.epoch ≡ h.epoch
        → h'.tails ≡ h.tails → counts_in_bounds (core_of h' w.work).sizes ≡ true → right ≡ replay_sound (core_of h' w.work))
        → sound (core_of h w.work) ≡ right
    unfolding core_of
    tested told =
        let ready = first_ready when_replaying h w answer none in
        replay_test (core_of h w.work) ready.stage ∙ sym (told h (first_own when_replaying refl h w ready) refl refl refl refl refl counts_in)

    -- where the whole test passes, a step may be made
    module _ (ok : sound (core_of h w.work) ≡ true) where
      abbrev ready : LentReady when_replaying h w
      ready = first_ready when_replaying h w answer none

      pub step_replays : Replays (core_of h w.work)
      unfolding core_of
      step_replays = record { stage = ready.stage; state = ok }

      words : h.total ≡ total (core_of h w.work).sizes
      words = sym (ap (λ (x : Carried). x.total) (carried_back h w.work)) ∙ words_kept (core_of h w.work) step_replays

      pub on_disk_lem : {disk : ℕ} → disk < h.disks → OnDisk h disk w.pages w.logs w.work
      unfolding core_of log_words disk_at
      on_disk_lem low =
          record {
            own = first_own when_replaying refl h w ready;
            on = record { replays = step_replays; disk_in = low; page_words_lem = ready.pages ∙ words; log_words_lem = ready.logs };
          }

      pub on_backup : OnBackup h w.pages w.backups w.work
      on_backup =
          record {
            own = first_own when_replaying refl h w ready;
            replays = step_replays;
            page_words_lem = ready.pages ∙ words;
            backup_words = backups_long ∙ ap (λ (n : ℕ). 2 * n) words;
          }

-- the source of the backup
pub to_source : (h : Carried) (w : World) {source at : ℕ} → source ≡ at → (r : Handed) (v : World) → StepsTo h w at r v → StepsTo h w source r v
to_source h w same r v did = subst (λ (n : ℕ). StepsTo h w n r v) (sym same) did

-- a source that there is not
pub missing_to : (h : Carried) (w : World) (source : ℕ) → h.disks < source → {r : Handed} → r ≡ refused_to h 8 0 0 → StepsTo h w source r w
unfolding body_of
missing_to h w source high e =
    to_refused h w source (body_of w) (step_missing (core_of h w.work) (body_of w) source (omega (arith, high, ap (λ (x : Carried). x.disks) (carried_back h w.work))))
    (sym (take-append-drop head_words w.work)) e

-- where a backup begins
module _ (s : Sizes) (epoch : ℕ) where
  pub backup_even : epoch % 2 ≡ 0 → 0 ≡ backup_at s epoch
  unfolding backup_at
  backup_even e = rw e (sym (zero-mul (total s)))

  pub backup_odd : (epoch % 2 ≡ 0 → ⊥) → {words : ℕ} → total s ≡ words → words ≡ backup_at s epoch
  unfolding backup_at
  backup_odd odd same =
      let one : epoch % 2 ≡ 1 = omega (arith, odd) in
      rw (one, ← same) (sym (one-mul (total s)))

-- A step leaves the stage, and what is carried.
module _ (h : Carried) (work : List ℕ) (r : Replays (core_of h work)) where
  pub replaying_shown : when_shut h.stage ≡ false
  unfolding core_of
  replaying_shown = not_shut when_replaying refl h.stage r.stage

  pub replaying_open : (disk next : ℕ) → (when_shut (moved_to (core_of h work) disk next).stage ≡ false) × (carried_of (moved_to (core_of h work) disk next) ≡ h)
  unfolding moved_to with_replay core_of
  replaying_open disk next = (replaying_shown, refl)

  pub paging_open : (next : ℕ)
      → (when_shut (with_replay (core_of h work) (record { positions = (core_of h work).replay.positions; page = next })).stage ≡ false)
      × (carried_of (with_replay (core_of h work) (record { positions = (core_of h work).replay.positions; page = next })) ≡ h)
  unfolding with_replay core_of
  paging_open next = (replaying_shown, refl)
