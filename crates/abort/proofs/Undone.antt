-- A list of updates taken back: some of them and then the others.
use Rattle.std.specs.Prelude.{Option, None, Some}
use mathlib.Core.Path.{◌≡◌, refl}
use mathlib.Core.List.{List, [], ◌∷◌, ◌++◌, append_assoc, append-nil}
use Prim.Native.Nat.{ℕ}
use Rattle.model.specs.declared.Sizes.{Sizes}
use Rattle.model.specs.declared.Logs.{Logs}
use Rattle.model.specs.Scan.{Update}
use Rattle.model.specs.World.{World, perform}
use Rattle.model.specs.Append.{Appended}
use Rattle.model.specs.Abort.{compensate, undo_all}
use Rattle.model.proofs.Run.{SameLengths, perform_append, run_lengths}
use Rattle.device.proofs.Memory.{ran_none}
use Rattle.device.proofs.Ran.{ran_whole, ran_then, ran_cut}
use Rattle.disk_log.specs.declared.write.Tip.{Tip}
use Rattle.abort.specs.Undo.{only_log, Did}

-- every list keeps its length
pub did_lengths : {disk budget rest : ℕ} {added : Appended} {w v : World} {r : Option Tip} → Did disk budget rest added w v r → SameLengths v w
did_lengths {budget} {added = added} {w = w} did = rw did.ran.world (run_lengths budget added.actions w)

module _ (s : Sizes) (number disk : ℕ) where
  -- the others, with what the first left
  abbrev after : Appended → World → List Update → Appended
  after one w us = undo_all s one.logs (perform one.actions w) number disk us

  pub undo_append : (l : Logs) (w : World) (us vs : List Update)
      → undo_all s l w number disk (us ++ vs)
      ≡ record {
        actions = (undo_all s l w number disk us).actions ++ (after (undo_all s l w number disk us) w vs).actions;
        logs = (after (undo_all s l w number disk us) w vs).logs;
      }
  unfolding undo_all perform
  undo_append l w [] vs = refl
  undo_append l w (u ∷ us) vs =
      let one : Appended = compensate s l w number disk u in
      let some : Appended = after one w us in
      let e = undo_append one.logs (perform one.actions w) us vs in
      rw (e, perform_append one.actions some.actions w, append_assoc one.actions some.actions (after some (perform one.actions w) vs).actions) refl

  -- none is left
  pub undone_none : (tip : Tip) (w : World) (budget : ℕ)
      → Did disk budget budget (undo_all s (only_log disk tip) w number disk []) w w (Some tip)
  unfolding undo_all
  undone_none tip w budget = record { ran = ran_none budget w; state = refl }

  module _ (l : Logs) (w : World) where
    -- one
    pub undone_one : (u : Update) {budget rest : ℕ} {v : World} {r : Option Tip} → Did disk budget rest (compensate s l w number disk u) w v r
        → Did disk budget rest (undo_all s l w number disk (u ∷ [])) w v r
    unfolding undo_all
    undone_one u did = rw append-nil (record { ran = did.ran; state = did.state })

    module _ (us vs : List Update) {budget rest : ℕ} {v : World} where
      -- some are taken back, and the others follow
      pub undone_then : {tip : Tip} → Did disk budget rest (undo_all s l w number disk us) w v (Some tip)
          → {last : ℕ} {x : World} {r : Option Tip} → Did disk rest last (undo_all s (only_log disk tip) v number disk vs) v x r
          → Did disk budget last (undo_all s l w number disk (us ++ vs)) w x r
      undone_then did next =
          rw (undo_append l w us vs, ran_whole did.ran refl, ← did.state)
          (record { ran = ran_then did.ran _ refl next.ran; state = next.state })

      -- they are cut
      pub undone_cut : Did disk budget rest (undo_all s l w number disk us) w v None
          → Did disk budget rest (undo_all s l w number disk (us ++ vs)) w v None
      undone_cut did = rw (undo_append l w us vs) (record { ran = ran_cut did.ran _ refl; state = tt })
