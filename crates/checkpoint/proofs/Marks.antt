-- Begin: what it gives, by the test of the code after the common ones.
use mathlib.Core.Path.{◌≡◌, refl}
use mathlib.Core.Bool.{true}
use Prim.Native.Nat.{ℕ, ◌≤◌, ◌<◌}
use borrow.Author.Tests.{le-leb, lt-leb}
use Rattle.model.specs.declared.Core.{Core}
use Rattle.model.specs.declared.Reply.{Reply}
use Rattle.model.specs.World.{World}
use Rattle.model.specs.State.{limit, serving_sound}
use Rattle.model.specs.Refusal.{verdict}
use Rattle.model.specs.Causes.{when_open, spent}
use Rattle.model.specs.Checkpoint.{checkpoint_begin_rows, checkpoint_begin_task}
use Rattle.model.specs.Call.{checkpoint_begin, Gives}
use Rattle.model.proofs.Store.Rows.{open_serving, serving_sound_lem}
use Rattle.frame.specs.Checks.{CommonRefusal}
use Rattle.frame.specs.Settle.{refused_with, finished_with}
use Rattle.frame.proofs.Given.{common_passed, given_refused, given_finished}

module _ {c : Core} {w : World} {r : ℕ} (checks : CommonRefusal when_open c w r) (none : r ≡ 0) where
  pub begin_serving : serving_sound c ≡ true
  begin_serving = let passed = common_passed checks none in serving_sound_lem c (open_serving c passed.stage) passed.state

  pub begin_spent : limit ≤ c.epoch → {reply : Reply} → reply ≡ refused_with c 13 0 0 → Gives checkpoint_begin c w reply 0 w
  unfolding checkpoint_begin_rows verdict spent
  begin_spent high e = given_refused checks checkpoint_begin refl none (rw (le-leb limit c.epoch high) refl) e

  pub begin_given : c.epoch < limit → {core : Core} → core ≡ (checkpoint_begin_task c w).core → {reply : Reply}
      → reply ≡ finished_with core 0 → Gives checkpoint_begin c w reply 0 w
  unfolding checkpoint_begin_rows verdict spent checkpoint_begin_task
  begin_given low same e = given_finished checks checkpoint_begin refl none (rw (lt-leb limit c.epoch low) refl) refl refl same e
