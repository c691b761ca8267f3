-- Restart begin: its rows, and what it does when none applies.
use mathlib.Core.Path.{◌≡◌, refl, sym, ap, ◌∙◌}
use mathlib.Core.Bool.{true, false, cond}
use mathlib.Core.List.{List, [], ◌∷◌}
use Prim.Native.Nat.{ℕ, ◌≤◌, ◌<◌}
use lib.Dec.{eqb}
use lib.ListN.{get_or, replicate}
use lib.Seq.{sets}
use borrow.Author.Tests.{le-leb, lt-leb, eq-eqb, ne_eqb}
use Rattle.model.specs.declared.Sizes.{Sizes}
use Rattle.model.specs.declared.Core.{Core}
use Rattle.model.specs.declared.Reply.{Reply}
use Rattle.model.specs.Sizes.{total}
use Rattle.model.specs.Anchor.{epoch_on, sizes_on, start_on}
use Rattle.model.specs.World.{World, pages, write, each}
use Rattle.model.specs.Memory.{lengths_right}
use Rattle.model.specs.State.{limit, replaying_core}
use Rattle.model.specs.Refusal.{Verdict, row, accepted, rejected, verdict}
use Rattle.model.specs.Causes.{when_shut, stage_forbids, lengths_wrong, tail_in, log_rows, spent}
use Rattle.model.specs.Checkpoint.{per_disk}
use Rattle.model.specs.Restart.{restart_begin_rows, restart_begin_task}
use Rattle.model.specs.Call.{Gives, result_of, restart_begin}
use Rattle.model.proofs.Verdict.{verdict_append, refused_append}
use Rattle.model.proofs.Run.{perform_pages}
use Rattle.model.proofs.Storeless.{storeless_finishes}
use Rattle.model.proofs.Restart.Words.{with_pages}
use Rattle.frame.specs.Settle.{refused_with}
use Rattle.frame.proofs.Verdicts.{refusal_given}
use Rattle.replay.specs.Parts.{anchor_refusal}
use Rattle.replay.specs.Step.{finished}
use Rattle.restart.specs.Begin.{begin_rest, BeginsOn}
use Rattle.replay.proofs.Storeless.{nothing_spent}
use Rattle.replay.proofs.Checks.{image_verdict, rows_read}

module _ (c : Core) (w : World) where
  pub begin_stage : when_shut c.stage ≡ false → Gives restart_begin c w (refused_with c 1 0 0) 0 w
  unfolding restart_begin_rows verdict stage_forbids
  begin_stage e = refusal_given restart_begin c w 1 0 0 (rw e)

  module _ (shut : when_shut c.stage ≡ true) {n : ℕ} (refusal : n ≡ anchor_refusal w.anchor) where
    -- rows 1 to 4, and then the others
    begin_verdict : verdict (restart_begin_rows c w)
        ≡ cond (eqb n 0) (verdict (row 5 (lengths_wrong (sizes_on w.anchor) (total (sizes_on w.anchor)) w) ∷ begin_rest w)) (rejected n 0 0)
    unfolding restart_begin_rows begin_rest verdict stage_forbids
    begin_verdict =
        rw shut
        (image_verdict (λ s. lengths_wrong s (total s) w) w.anchor w.logs (row 13 (spent (epoch_on w.anchor)) ∷ []) refusal)

    pub begin_anchor : (n ≡ 0 → ⊥) → Gives restart_begin c w (refused_with c n 0 0) 0 w
    begin_anchor ne = refusal_given restart_begin c w n 0 0 (begin_verdict ∙ rw (ne_eqb n 0 ne))

    pub begin_lengths : n ≡ 0 → lengths_right (sizes_on w.anchor) (total (sizes_on w.anchor)) w ≡ false → Gives restart_begin c w (refused_with c 5 0 0) 0 w
    unfolding verdict lengths_wrong
    begin_lengths z e = refusal_given restart_begin c w 5 0 0 (begin_verdict ∙ rw (eq-eqb n 0 z, e))

    pub begin_given : n ≡ 0 → lengths_right (sizes_on w.anchor) (total (sizes_on w.anchor)) w ≡ true → (r : Reply) (v : World) → BeginsOn c w r v
        → Gives restart_begin c w r 0 v
    unfolding Gives result_of BeginsOn verdict lengths_wrong
    begin_given z e r v did = rw (begin_verdict, eq-eqb n 0 z, e) did

-- Rows 6, 7 and 13, of what the code has read and found.
module _ (c : Core) (w : World) (s : Sizes) (same : s ≡ sizes_on w.anchor) (few : s.disks ≤ 8) {starts : List ℕ}
    (from : starts ≡ per_disk s (start_on w.anchor)) {told : Verdict}
    (checked : verdict (log_rows s (λ d. get_or starts d 0) w.logs) ≡ told) where
  rows_verdict : verdict (log_rows s (start_on w.anchor) w.logs) ≡ told
  rows_verdict = ap verdict (sym (rows_read s w.anchor w.logs few from)) ∙ checked

  pub begin_refused : {number first second : ℕ} → told ≡ rejected number first second → BeginsOn c w (refused_with c number first second) w
  unfolding BeginsOn begin_rest
  begin_refused {number} {first} {second} some =
      rw (
        ← same,
        refused_append (log_rows s (start_on w.anchor) w.logs) (row 13 (spent (epoch_on w.anchor)) ∷ []) number first second (rows_verdict ∙ some),
      )

  -- no row applies to the logs
  module _ (none : told ≡ accepted) where
    rest_verdict : verdict (begin_rest w) ≡ verdict (row 13 (spent (epoch_on w.anchor)) ∷ [])
    unfolding begin_rest
    rest_verdict =
        rw (← same) (verdict_append (log_rows s (start_on w.anchor) w.logs) (row 13 (spent (epoch_on w.anchor)) ∷ []) (rows_verdict ∙ none))

    pub begin_spent : limit ≤ epoch_on w.anchor → BeginsOn c w (refused_with c 13 0 0) w
    unfolding BeginsOn verdict spent
    begin_spent l = rw (rest_verdict, le-leb limit (epoch_on w.anchor) l)

    module _ {tails : List ℕ} (to : tails ≡ per_disk s (tail_in s w.logs)) where
      task_is : restart_begin_task w
          ≡ record { actions = each (write pages) 0 (replicate (total s) 0); core = replaying_core s (epoch_on w.anchor) starts tails; value = 0 }
      unfolding restart_begin_task
      task_is = rw (from, to, same)

      pub begin_taken : epoch_on w.anchor < limit → {after : List ℕ} → after ≡ sets w.pages 0 (replicate (total s) 0)
          → {k : Core} → k ≡ replaying_core s (epoch_on w.anchor) starts tails → BeginsOn c w (finished k) (with_pages w after)
      unfolding BeginsOn verdict spent
      begin_taken l did is =
          rw (rest_verdict, lt-leb limit (epoch_on w.anchor) l, did, is, task_is)
          (nothing_spent (each (write pages) 0 (replicate (total s) 0)) (replaying_core s (epoch_on w.anchor) starts tails) 0 w _
          (rw task_is at (storeless_finishes restart_begin c w refl)) (perform_pages 0 (replicate (total s) 0) w))
