-- From how a call ends that takes its state in two parts to what `Serves` says of it: refused, finished with nothing stored, or with its
-- actions run as far as the budget lasted.
use mathlib.Core.Path.{◌≡◌, refl, sym}
use mathlib.Core.List.{List, [], ◌++◌}
use mathlib.Core.Bool.{true, false}
use Prim.Native.Nat.{ℕ, ◌-◌}
use native.Mathlib.Omega.{arith}
use lib.ListN.{take}
use Rattle.model.specs.declared.Carried.{Carried}
use Rattle.model.specs.declared.Handed.{Handed}
use Rattle.model.specs.World.{World, world_of, run, covered, perform, stores, made, finishes}
use Rattle.model.specs.Causes.{when_shut}
use Rattle.model.specs.Refusal.{Task, verdict, accepted, rejected}
use Rattle.model.specs.Call.{Call, rows_of, task_of, budget_of}
use Rattle.model.specs.View.{head_words, core_of, carried_of, head_of, body_of, Serves}
use Rattle.model.proofs.Run.{made_le}
use Rattle.model.proofs.View.Shown.{refusal_serves, finished_serves, cut_serves}
use Rattle.device.specs.Ran.{Ran}
use Rattle.frame.specs.Handed.{refused_to, finished_to, cut_to}

module _ (k : Call) (h : Carried) (w : World) where
  abbrev task : Task
  task = task_of k (core_of h w.work) (body_of w)

  -- a row applies
  pub shown_refused : {number first second : ℕ} → verdict (rows_of k (core_of h w.work) (body_of w)) ≡ rejected number first second
      → {reply : Handed} → reply ≡ refused_to h number first second → Serves k h w reply (budget_of k) w
  shown_refused {number} {first} {second} e reply = rw reply (refusal_serves k h w number first second e)

  -- none does
  module _ (ok : verdict (rows_of k (core_of h w.work) (body_of w)) ≡ accepted) where
    -- all stores are made, `v` is the world of the definitions after them, and the head is that of the new state
    pub shown_whole : {rest : ℕ} {v : World} → Ran (budget_of k) rest task.actions (body_of w) v true → when_shut task.core.stage ≡ false
        → {work : List ℕ} → work ≡ head_of task.core ++ v.work → {carried : Carried} → carried ≡ carried_of task.core
        → {reply : Handed} → reply ≡ finished_to carried (budget_of k - rest) task.value
        → Serves k h w reply rest (world_of v.anchor v.pages v.backups v.logs work)
    shown_whole {rest} ran serving head same reply =
        let count : budget_of k - rest ≡ made (budget_of k) task.actions = omega (arith, ran.left, made_le (budget_of k) task.actions) in
        rw (reply, head, same, count, ran.left, ran.world) (finished_serves k h w ok (sym ran.finished) serving)

    -- a call that stores nothing
    pub shown_finished : budget_of k ≡ 0 → task.actions ≡ [] → when_shut task.core.stage ≡ false
        → {work : List ℕ} → work ≡ head_of task.core ++ (body_of w).work → {carried : Carried} → carried ≡ carried_of task.core
        → {reply : Handed} → reply ≡ finished_to carried 0 task.value
        → Serves k h w reply 0 (world_of w.anchor w.pages w.backups w.logs work)
    unfolding run covered perform stores made finishes body_of
    shown_finished free idle serving head same reply =
        shown_whole (rw (free, idle) (record { world = refl; left = refl; finished = refl })) serving head same (rw free reply)

    -- a store is not covered: the head stays
    pub shown_cut : {rest : ℕ} {v : World} → Ran (budget_of k) rest task.actions (body_of w) v false
        → {work : List ℕ} → work ≡ take head_words w.work ++ v.work → {reply : Handed} → reply ≡ cut_to (budget_of k - rest)
        → Serves k h w reply rest (world_of v.anchor v.pages v.backups v.logs work)
    shown_cut {rest} ran head reply =
        let count : budget_of k - rest ≡ made (budget_of k) task.actions = omega (arith, ran.left, made_le (budget_of k) task.actions) in
        rw (reply, head, count, ran.left, ran.world) (cut_serves k h w ok (sym ran.finished))
