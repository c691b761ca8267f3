-- The commit point, as it is seen on the devices after a commit of the code.
use mathlib.Core.Path.{◌≡◌, refl, sym, subst}
use mathlib.Core.List.Memᴰ
use mathlib.Core.List.{List, [], ◌∷◌}
use mathlib.Core.Bool.{Bool, true, false, ◌&&◌}
use Prim.Native.Nat.{ℕ, ◌+◌, ◌-◌, ◌≤◌, ◌<◌}
use native.Mathlib.Omega.{arith}
use native.Mathlib.Decide.{dec_lt}
use lib.Dec.{leb, ltb, eqb}
use lib.ListN.{length, get_or, set}
use lib.Seq.{set_out, get_or-set_same, get_or-set_other}
use borrow.Author.Tests.{eqb-true, eqb-false, ltb-false, not-false}
use Rattle.model.specs.declared.Sizes.{Sizes}
use Rattle.model.specs.declared.Core.{Core}
use Rattle.model.specs.Sizes.{tail_word}
use Rattle.model.specs.World.{World, Action, store, write, anchor, backups, logs, pages, work, cost, act, perform, covered, run, finishes}
use Rattle.model.specs.State.{end_of, sound}
use Rattle.model.specs.Refusal.{Result, verdict, accepted}
use Rattle.model.specs.Causes.{when_serving, lengths_wrong, tail_on, tail_in}
use Rattle.model.specs.Transaction.{disk_of, commit_rows, commit_task}
use Rattle.model.specs.Call.{commit}
use Rattle.model.specs.View.{body_of}
use Rattle.model.specs.Reference.{taken, interrupted, outcome_of}
use Rattle.model.specs.Machine.{Machine, result}
use Rattle.model.specs.Promise.{covers_commit, CommitPoint, CommitPoints}
use Rattle.model.specs.LogPromise.{Truth, StateTrue}
use Rattle.model.specs.Answers.{StatesMade}
use Rattle.model.specs.Trace.{view_of, follow_in_code, formatted_in_code, AlwaysInCode}
use Rattle.model.specs.LogPromiseInCode.{CommitPointsInCode}
use Rattle.model.proofs.Members.{Every}
use Rattle.model.proofs.Booleans.{cond_all}
use Rattle.model.proofs.Verdict.{row_passed}
use Rattle.model.proofs.Lengths.{lengths_right_lem}
use Rattle.model.proofs.Run.{perform_append, perform_lengths, finished_run}
use Rattle.model.proofs.Ring.{disk_within, tail_here}
use Rattle.model.proofs.Store.Rows.{serving_sound_lem}
use Rattle.model.proofs.Store.Accepted.{open_below, commit_accepted}
use Rattle.model.proofs.Store.Cases.{call_cases}
use Rattle.model.proofs.Sound.Made.{made_passes, states_made}
use Rattle.model.proofs.PowerLoss.{state_true}
use Rattle.model.proofs.CommitPoint.{commit_point, commit_cut_before}
use Rattle.model.proofs.Trace.Events.{in_code}
use Rattle.model.proofs.Trace.Promises.{gave}

-- Actions that store no tail of disk d above position p keep it at p or below.
module _ (s : Sizes) (d p : ℕ) where
  abbrev Low : World → Type 0
  Low w = tail_on s w d ≤ p

  abbrev Uncovered : Action → Type 0
  Uncovered a = covers_commit s d p a ≡ false

  set_low : (l : List ℕ) (i x : ℕ) → (eqb i (tail_word s d) && ltb p x) ≡ false → get_or l (tail_word s d) 0 ≤ p
      → get_or (set l i x) (tail_word s d) 0 ≤ p
  set_low l i x u low = go (eqb i (tail_word s d)) refl
    where
      go : (b : Bool) → eqb i (tail_word s d) ≡ b → get_or (set l i x) (tail_word s d) 0 ≤ p
      go false e = rw (get_or-set_other l i (tail_word s d) x 0 (λ same. eqb-false i (tail_word s d) e (sym same))) low
      go true e = within (dec_lt i (length l))
        where
          here : i ≡ tail_word s d
          here = eqb-true i (tail_word s d) e

          small : x ≤ p
          small = ltb-false p x (rw e at u)

          within : Dec (i < length l) → get_or (set l i x) (tail_word s d) 0 ≤ p
          within (yes h) = rw (← here, get_or-set_same l i x 0 h) small
          within (no h) = rw (set_out l i x (omega arith)) low

  act_low : (a : Action) (w : World) → Uncovered a → Low w → Low (act a w)
  unfolding act tail_in
  act_low (store logs i x) w u low = set_low w.logs i x u low
  act_low (store anchor i x) w u low = low
  act_low (store backups i x) w u low = low
  act_low (write pages i x) w u low = low
  act_low (write work i x) w u low = low

  run_low : (budget : ℕ) (l : List Action) (w : World) → Every Uncovered l → Low w → Low (run budget l w)
  unfolding run perform covered
  run_low budget [] w u low = low
  run_low budget (a ∷ l) w u low =
      cond_all (λ (x : List Action). Low (perform x w)) (leb (cost a) budget)
      (λ e. run_low (budget - cost a) l (act a w) (λ b m. u b (Memᴰ.tail m)) (act_low a w (u a (Memᴰ.head refl)) low))
      (λ e. low)

-- A commit by its list of actions: whole, and cut.
module _ (c : Core) (w : World) (t : ℕ) (k : CommitPoint c w t) where
  abbrev here : World → ℕ
  here v = tail_on c.sizes v (disk_of c t)

  whole_tail : tail_word c.sizes (disk_of c t) < length w.logs
      → here (perform (commit_task c w t).actions w) ≡ end_of c.logs (disk_of c t) + 2
  unfolding tail_in perform
  whole_tail fits =
      rw (k.last, perform_append) (tail_here c.sizes (disk_of c t) _ (perform k.before w) (omega (arith, (perform_lengths k.before w).logs)))

  cut_tail : (budget : ℕ) → finishes budget (commit_task c w t).actions ≡ false → here w ≤ end_of c.logs (disk_of c t)
      → here (run budget (commit_task c w t).actions w) ≤ end_of c.logs (disk_of c t)
  cut_tail budget f low = rw (commit_cut_before k budget f) (run_low c.sizes (disk_of c t) _ budget k.before w k.uncovered low)

-- what an accepted commit finds: a disk whose tail word is there, at the log's end or below
module _ (m : Machine) (t : ℕ) (s : sound m.core ≡ true) (ok : verdict (commit_rows m.core m.world t) ≡ accepted) where
  abbrev disk : ℕ
  disk = disk_of m.core t

  disk_below : disk < m.core.sizes.disks
  disk_below =
      let a = commit_accepted m.core m.world t ok in
      open_below m.core t (serving_sound_lem m.core a.serving s) a.opened

  tail_there : tail_word m.core.sizes disk < length m.world.logs
  unfolding commit_rows lengths_wrong tail_word
  tail_there =
      let r1 = row_passed _ _ ok in
      let r2 = row_passed _ _ r1.1 in
      let r5 = row_passed _ _ r2.1 in
      let right = lengths_right_lem m.core.sizes m.core.bases.total m.world (not-false _ r5.0) in
      omega (arith, right.logs, disk_within m.core.sizes disk disk_below)

  tail_low : (when_serving m.core.stage ≡ true → Truth m) → tail_on m.core.sizes m.world disk ≤ end_of m.core.logs disk
  unfolding end_of
  tail_low truth = omega (arith, (truth (commit_accepted m.core m.world t ok).serving).tails disk disk_below)

-- What a commit leaves of its disk's tail.
module _ (m : Machine) (t : ℕ) where
  abbrev Leaves : Result → Type 0
  Leaves r =
      (outcome_of r.answer ≡ taken → tail_on m.core.sizes r.world (disk_of m.core t) ≡ end_of m.core.logs (disk_of m.core t) + 2)
      × (outcome_of r.answer ≡ interrupted → tail_on m.core.sizes r.world (disk_of m.core t) ≤ end_of m.core.logs (disk_of m.core t))

  commit_leaves : (budget : ℕ) → sound m.core ≡ true → (verdict (commit_rows m.core m.world t) ≡ accepted → CommitPoint m.core m.world t)
      → (when_serving m.core.stage ≡ true → Truth m) → Leaves (result m (commit t budget))
  unfolding result
  commit_leaves budget s point truth =
      call_cases Leaves (commit t budget) m.core m.world
      (λ number first second v.
      (λ e. let z : ◌≡◌ {A = ℕ} 0 1 = cc in absurd (omega arith), λ e. let z : ◌≡◌ {A = ℕ} 0 1 = cc in absurd (omega arith)))
      (λ v f. (
        λ e. rw (finished_run budget _ m.world f) (whole_tail m.core m.world t (point v) (tail_there m t s v)),
        λ e. let z : ◌≡◌ {A = ℕ} 0 1 = cc in absurd (omega arith),
      ))
      (λ v f. (
        λ e. let z : ◌≡◌ {A = ℕ} 0 1 = cc in absurd (omega arith),
        λ e. cut_tail m.core m.world t (point v) budget f (tail_low m t s v truth),
      ))

-- The commit point, seen after a commit of the code: see specs/LogPromiseInCode.antt.
pub commit_points_in_code : CommitPointsInCode
unfolding CommitPointsInCode AlwaysInCode CommitPoints StateTrue StatesMade view_of body_of
commit_points_in_code o s f steps l c t budget is on =
    let m = view_of (follow_in_code steps (formatted_in_code o s)).machine in
    let points = in_code _ commit_point o s f steps l in
    let truth = in_code _ state_true o s f steps l in
    let passes = (made_passes (in_code _ states_made o s f steps l)).1 in
    subst (Leaves m t) (sym (gave _ c (commit t budget) is on)) (commit_leaves m t budget passes (points t) truth)
