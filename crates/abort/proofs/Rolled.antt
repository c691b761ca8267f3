-- The work of an abort: its updates taken back, then its closing record.
use Rattle.std.specs.Prelude.{Option, None, Some}
use mathlib.Core.Path.{refl, ◌∙◌}
use mathlib.Core.List.{List}
use Prim.Native.Nat.{ℕ, ◌≤◌}
use native.Mathlib.Omega.{arith}
use lib.ListN.{length}
use Rattle.model.specs.declared.Sizes.{Sizes}
use Rattle.model.specs.declared.Logs.{Logs}
use Rattle.model.specs.Record.{close, encode, abort_kind}
use Rattle.model.specs.Scan.{scan, Update, updates_in, update_words}
use Rattle.disk_log.specs.Reading.{positions_in}
use Rattle.model.specs.World.{World}
use Rattle.model.specs.State.{end_of}
use Rattle.model.specs.Append.{append}
use Rattle.model.specs.Abort.{undo_all}
use Rattle.model.proofs.Members.{Every}
use Rattle.model.proofs.Growth.{SizedLogs, Longer}
use Rattle.model.proofs.Sound.Abort.{undo_grown}
use Rattle.device.proofs.Ran.{ran_whole, ran_then, ran_cut}
use Rattle.disk_log.specs.declared.write.Tip.{Tip}
use Rattle.abort.specs.Undo.{only_log, Serving, Did, reader, log_from, update_read, Undoable}
use Rattle.abort.specs.Scope.{rolling_back}
use Rattle.abort.proofs.Disks.{small, slim}
use Rattle.abort.proofs.Standing.{last_first_every, length_read, listed}
use Rattle.abort.proofs.Undone.{did_lengths}

-- after the updates are taken back there is room for the closing record
module _ (s : Sizes) (l : Logs) (w : World) (number disk from : ℕ) (ok : Undoable s l disk number from w.pages w.logs w.work) (sized : SizedLogs l) where
  abbrev us : List Update
  us = updates_in number (log_from s l disk w.logs w.work from)

  short : Every (λ u. length u.diff ≤ 32) us
  unfolding log_from
  short =
      let read : ℕ → ℕ = reader s l disk w.logs w.work in
      let found = listed s read (end_of l disk) number from in
      rw found.updates
      (last_first_every (update_read read) (λ (u : Update). length u.diff ≤ 32) (positions_in number (scan s read (end_of l disk) from))
      (λ p m. omega (arith, length_read read p, slim ok.serving (found.stand p m).1.slotted)))

  pub undone_serves : {budget rest : ℕ} {v : World} {tip : Tip} → Did disk budget rest (undo_all s l w number disk us) w v (Some tip)
      → Serving s (only_log disk tip) disk v.logs v.work
  undone_serves {tip = tip} did =
      let grown : Longer s disk (update_words us) l (only_log disk tip) =
      rw did.state (undo_grown s l w number disk us sized ok.serving.fills_small (small ok.serving).below short) in
      record {
        sizes = ok.serving.sizes;
        disk_below = ok.serving.disk_below;
        log_words_lem = (did_lengths did).logs ∙ ok.serving.log_words_lem;
        work_words_lem = (did_lengths did).work ∙ ok.serving.work_words_lem;
        fills_small = grown.small;
        end_small = omega (arith, grown.end_longer, ok.in_limit);
      }

module _ (s : Sizes) (l : Logs) (w : World) (number disk : ℕ) (us : List Update) {budget rest : ℕ} {v : World} where
  pub rolled_cut : Did disk budget rest (undo_all s l w number disk us) w v None → Did disk budget rest (rolling_back s l w number disk us) w v None
  unfolding rolling_back
  rolled_cut did = record { ran = ran_cut did.ran _ refl; state = tt }

  pub rolled_then : {tip : Tip} → Did disk budget rest (undo_all s l w number disk us) w v (Some tip) → {last : ℕ} {x : World} {r : Option Tip}
      → Did disk rest last (append s (only_log disk tip) v.work disk (encode (close abort_kind number))) v x r
      → Did disk budget last (rolling_back s l w number disk us) w x r
  unfolding rolling_back
  rolled_then did next =
      rw (ran_whole did.ran refl, ← did.state)
      (record { ran = ran_then did.ran _ refl next.ran; state = next.state })
