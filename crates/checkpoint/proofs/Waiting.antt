-- The pages that wait to be copied: row 15 of a step and of an end, and what an accepted one may rely on.
use mathlib.Core.Path.{◌≡◌, refl, ◌∙◌}
use mathlib.Core.Bool.{Bool, true, false}
use Prim.Native.Nat.{ℕ, ◌+◌, ◌≤◌, ◌<◌}
use native.Mathlib.Omega.{arith}
use lib.Dec.{leb, ltb}
use borrow.Author.Tests.{le-leb, lt-leb, lt-ltb, le-ltb, ltb-true, ltb-false}
use Rattle.model.specs.declared.Core.{Core}
use Rattle.model.specs.declared.Reply.{Reply}
use Rattle.model.specs.World.{World}
use Rattle.model.specs.Refusal.{verdict}
use Rattle.model.specs.Causes.{when_copying}
use Rattle.model.specs.Checkpoint.{to_copy, lowest_to_copy, copy_page, checkpoint_step_rows, checkpoint_step_task, checkpoint_end_rows, checkpoint_end_task}
use Rattle.model.specs.Call.{checkpoint_step, checkpoint_end, Gives}
use Rattle.model.proofs.Below.{first_unique, first_none}
use Rattle.model.proofs.Lengths.{lengths_right_lem}
use Rattle.model.proofs.KeptBases.{total_kept}
use Rattle.model.proofs.Store.Rows.{copying_serving, serving_sound_lem, sizes_sound, bases_sound, checkpoint_sound_lem}
use Rattle.device.specs.Ran.{Ran}
use Rattle.frame.specs.Checks.{CommonRefusal}
use Rattle.frame.specs.Settle.{refused_with, settled, Concludes}
use Rattle.frame.proofs.Verdicts.{Passed, task_settled}
use Rattle.frame.proofs.Given.{common_passed, given_refused, given_task}
use Rattle.checkpoint.specs.Lent.{page_copied, Steppable, Endable}

-- pages are copied in order, so the lowest that waits is the number of those copied
pub lowest_waits : (c : Core) → c.checkpoint.copied ≤ c.sizes.pages → lowest_to_copy c ≡ c.checkpoint.copied
unfolding lowest_to_copy to_copy
lowest_waits c most = go (ltb c.checkpoint.copied c.sizes.pages) refl
  where
    before : (i : ℕ) → i < c.checkpoint.copied → leb c.checkpoint.copied i ≡ false
    before i h = lt-leb c.checkpoint.copied i h

    go : (b : Bool) → ltb c.checkpoint.copied c.sizes.pages ≡ b → lowest_to_copy c ≡ c.checkpoint.copied
    go true e =
        first_unique (to_copy c) c.sizes.pages c.checkpoint.copied (ltb-true _ _ e)
        (le-leb c.checkpoint.copied c.checkpoint.copied (omega arith)) before
    go false e =
        let same : c.sizes.pages ≡ c.checkpoint.copied = omega (arith, ltb-false c.checkpoint.copied c.sizes.pages e) in
        first_none (to_copy c) c.sizes.pages (λ i h. before i (omega arith)) ∙ same

-- the page's copy, of the numbers that the code has
copy_same : (c : Core) (w : World) → c.checkpoint.copied ≤ c.sizes.pages
    → page_copied c.sizes (c.epoch + 1) c.checkpoint.copied w.pages ≡ copy_page c w (lowest_to_copy c)
unfolding copy_page page_copied
copy_same c w most = rw (lowest_waits c most) refl

pub step_settled : (c : Core) (w : World) {budget rest : ℕ} {v : World} {whole : Bool} {r : Reply} → c.checkpoint.copied ≤ c.sizes.pages
    → Ran budget rest (page_copied c.sizes (c.epoch + 1) c.checkpoint.copied w.pages) w v whole
    → r ≡ settled whole budget rest 0 (checkpoint_step_task c w).core → Concludes budget rest (checkpoint_step_task c w) w v r
unfolding checkpoint_step_task
step_settled c w {whole} most ran e =
    task_settled {whole = whole} (checkpoint_step_task c w) (rw (← copy_same c w most) ran) e (λ _. refl)

-- What a step and an end give after the common checks, and what an accepted one may rely on.
module _ {c : Core} {w : World} {r : ℕ} (checks : CommonRefusal when_copying c w r) (none : r ≡ 0) where
  passed : Passed when_copying c w
  passed = common_passed checks none

  lowest : lowest_to_copy c ≡ c.checkpoint.copied
  lowest = lowest_waits c (checkpoint_sound_lem c passed.stage passed.state).copied

  pub step_none : (budget : ℕ) → c.sizes.pages ≤ c.checkpoint.copied → {reply : Reply} → reply ≡ refused_with c 15 0 0
      → Gives (checkpoint_step budget) c w reply budget w
  unfolding checkpoint_step_rows verdict
  step_none budget h e = given_refused checks (checkpoint_step budget) refl none (rw (lowest, le-leb _ _ h) refl) e

  pub step_given : (budget : ℕ) → c.checkpoint.copied < c.sizes.pages → (v : World) (rest : ℕ) (reply : Reply)
      → Concludes budget rest (checkpoint_step_task c w) w v reply → Gives (checkpoint_step budget) c w reply rest v
  unfolding checkpoint_step_rows verdict
  step_given budget h = given_task checks (checkpoint_step budget) refl none (rw (lowest, lt-leb _ _ h) refl)

  pub end_early : (budget : ℕ) → c.checkpoint.copied < c.sizes.pages → {reply : Reply} → reply ≡ refused_with c 15 0 0
      → Gives (checkpoint_end budget) c w reply budget w
  unfolding checkpoint_end_rows verdict
  end_early budget h e = given_refused checks (checkpoint_end budget) refl none (rw (lowest, lt-ltb _ _ h) refl) e

  pub end_given : (budget : ℕ) → c.sizes.pages ≤ c.checkpoint.copied → (v : World) (rest : ℕ) (reply : Reply)
      → Concludes budget rest (checkpoint_end_task c w) w v reply → Gives (checkpoint_end budget) c w reply rest v
  unfolding checkpoint_end_rows verdict
  end_given budget h = given_task checks (checkpoint_end budget) refl none (rw (lowest, le-ltb _ _ h) refl)

  pub steppable : c.checkpoint.copied < c.sizes.pages → Steppable c w.pages w.backups w.work
  steppable h =
      let serving = serving_sound_lem c (copying_serving c passed.stage) passed.state in
      let long = rw (total_kept c (bases_sound c serving)) at (lengths_right_lem c.sizes c.bases.total w passed.lengths) in
      record {
        bounded = (checkpoint_sound_lem c passed.stage passed.state).epoch;
        next =
            record {
              sizes = sizes_sound c serving;
              page_below = h;
              page_words_lem = long.pages;
              backup_words = long.backups;
              work_words_lem = long.work;
            };
      }

  pub endable : Endable c w.anchor w.logs w.work
  endable =
      let long = lengths_right_lem c.sizes c.bases.total w passed.lengths in
      record {
        bounded = (checkpoint_sound_lem c passed.stage passed.state).epoch;
        anchor_words_lem = passed.anchor;
        serves =
            record {
              state = serving_sound_lem c (copying_serving c passed.stage) passed.state;
              log_words_lem = long.logs;
              work_words_lem = long.work;
            };
      }
