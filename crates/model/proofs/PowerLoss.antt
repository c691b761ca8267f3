-- The power_loss theorem.
use mathlib.Core.Path.{◌≡◌, refl, sym, ap, ◌∙◌}
use mathlib.Core.List.{List, [], ◌∷◌}
use mathlib.Core.Bool.{true, ◌&&◌, and-eq-true_iff}
use Prim.Native.Nat.{ℕ, ◌<◌}
use lib.ListN.{length}
use lib.Dec.{eqb}
use borrow.Author.Tests.{eqb-true}
use Rattle.model.specs.declared.Sizes.{Sizes}
use Rattle.model.specs.declared.Core.{Core}
use Rattle.model.specs.declared.Answer.{Answer}
use Rattle.model.specs.declared.Answer.TheVariants.{Finished, Refused, Interrupted}
use Rattle.model.specs.World.{World}
use Rattle.model.specs.State.{sound}
use Rattle.model.specs.Anchor.{sizes_on, start_on}
use Rattle.model.specs.Causes.{when_shut, when_replaying, when_serving}
use Rattle.model.specs.Restart.{position_of, restart_begin_task, restart_end_rows}
use Rattle.model.specs.Call.{Call, format, restart_begin, restart_end, result_of}
use Rattle.model.specs.Reference.{Reference, taken, outcome_of, hear, heard_of, words_in}
use Rattle.model.specs.Machine.{Machine, Event, call, lent, scramble, result, outcome, is_refused, allowed, after, referred, Run, follow, allowed_all, formatted}
use Rattle.model.specs.Promise.{Always, PowerLoss, RestartAccepted, Table}
use Rattle.model.specs.LogPromise.{LogOf, LogKept, StateTrue, NeverMalformed, BackupSteps}
use Rattle.model.specs.History.{Told, nothing_told, told, history}
use Rattle.model.proofs.Booleans.{true_false}
use Rattle.model.proofs.Restart.Taken.{taken_call}
use Rattle.model.proofs.Restart.Progress.{begin_progress}
use Rattle.model.proofs.Restart.Records.{begun_positions}
use Rattle.model.proofs.Restart.BackupStep.{backup_step_lem}
use Rattle.model.proofs.Restart.End.{end_gives}
use Rattle.model.proofs.Store.Format.{format_serves}
use Rattle.model.proofs.Store.Holding.{Holding, shut, replaying, serving, holding_kept, served, stopped, replayed}
use Rattle.model.proofs.Store.Step.{step_call, row_one}
use Rattle.model.proofs.Store.Steady.{kept_devices}
use Rattle.model.proofs.Store.Checks.{shut_stage, restart_begin_answers, never_seven}
use Rattle.model.proofs.Store.PlainTable.{plain}
use Rattle.model.proofs.Store.Crash.{stored}
use Rattle.model.proofs.Store.Buffered.{buffered}
use Rattle.model.proofs.Store.Truth.{truth}
use Rattle.model.proofs.Store.AbortRows.{abort_never_bad}
use Rattle.model.proofs.Sound.Test.{Passing}
use Rattle.model.proofs.Sound.Lists.{event_passes, formatted_passes}

-- what the reference hears of a refused call changes nothing
pub heard_refused : (k : Call) (c : Core) (w : World) (a : Answer) (r : Reference) → is_refused (outcome_of a) ≡ true
    → hear (heard_of k c w a) r ≡ r
unfolding hear
heard_refused k c w (Finished n v) r e = true_false e refl
heard_refused k c w (Refused n x y) r e = refl
heard_refused k c w (Interrupted n) r e = true_false e refl

-- every allowed event keeps what holds
pub step_event : (e : Event) (puts : Told) (m : Machine) (r : Reference) → Holding puts m r → sound m.core ≡ true → allowed m e ≡ true
    → Holding (told (record { machine = m; reference = r }) e puts) (after m e) (referred m e r)
step_event (call k) puts m r h s a = step_call k puts m r h s a
step_event (lent k w) puts m r h s a = rw (heard_refused k m.core w (result_of k m.core w).answer r a) h
step_event (scramble pages work) puts m r h s a =
    let one = eqb (length pages) (length m.world.pages) in
    let two = eqb (length work) (length m.world.work) in
    let both = (and-eq-true_iff (when_shut m.core.stage && one) two).0 a in
    let stage = (and-eq-true_iff (when_shut m.core.stage) one).0 both.0 in
    let k = stopped h stage.0 in
    shut (shut_stage m.core.stage stage.0)
    (kept_devices (record { anchor = refl; backups = refl; logs = refl })
    (record { anchor = refl; pages = eqb-true _ _ stage.1; backups = refl; logs = refl; work = eqb-true _ _ both.1 })
    k.0)
    k.1

-- and so does every list of them
pub follow_holds : (events : List Event) (puts : Told) (x : Run) → Holding puts x.machine x.reference
    → Passing x.machine.core → allowed_all events x.machine ≡ true
    → Holding (history events x puts) (follow events x).machine (follow events x).reference
unfolding follow allowed_all history
follow_holds [] puts x h p a = h
follow_holds (e ∷ es) puts x h p a =
    let both = (and-eq-true_iff (allowed x.machine e) (allowed_all es (after x.machine e))).0 a in
    follow_holds es (told x e puts) (record { machine = after x.machine e; reference = referred x.machine e x.reference })
    (step_event e puts x.machine x.reference h p.1 both.0) (event_passes x.machine e p) both.1

-- it holds after a format
pub format_holds : (m : Machine) (s : Sizes) (budget : ℕ) → outcome m (format s budget) ≡ taken
    → Holding nothing_told (formatted m s budget).machine (formatted m s budget).reference
unfolding formatted result outcome
format_holds m s budget e =
    let t = taken_call (format s budget) m.core m.world e in
    rw (t.core, t.world) (serving (format_serves m.core m.world s t.accepted))

-- so it holds of every machine and reference that a list of allowed events reaches
pub holds_after : (m : Machine) (s : Sizes) (budget : ℕ) → outcome m (format s budget) ≡ taken → (es : List Event)
    → allowed_all es (formatted m s budget).machine ≡ true
    → Holding (history es (formatted m s budget) nothing_told) (follow es (formatted m s budget)).machine (follow es (formatted m s budget)).reference
holds_after m s budget formats es a =
    follow_holds es nothing_told (formatted m s budget) (format_holds m s budget formats) (formatted_passes m s budget formats) a

pub always : (P : Machine → Reference → Type 0) → ((puts : Told) (m : Machine) (r : Reference) → Holding puts m r → P m r) → Always P
unfolding Always
always P f m s budget formats events a = f _ _ _ (holds_after m s budget formats events a)

-- a restart end that is taken leaves the committed contents
pub end_leaves : (puts : Told) (m : Machine) (r : Reference) → Holding puts m r → (budget : ℕ) → outcome m (restart_end budget) ≡ taken
    → (result m (restart_end budget)).world.pages ≡ words_in r.committed
unfolding result outcome restart_end_rows
end_leaves puts m r h budget o =
    let t = taken_call (restart_end budget) m.core m.world o in
    let k = replayed h (row_one when_replaying _ m.core _ t.accepted) in
    (end_gives m.core m.world budget k.progress o).0 ∙ k.kept.image

-- The power_loss theorem: see specs/Promise.antt.
pub power_loss : PowerLoss
unfolding PowerLoss
power_loss = always _ end_leaves

-- A restart begin of a shut store is refused for its number only.
pub restart_accepted : RestartAccepted
unfolding RestartAccepted result
restart_accepted = always _ (λ puts m r h e. restart_begin_answers m.core m.world e (holding_kept h).restartable)

-- The page memory is a plain table of slots.
pub table : Table
unfolding Table
table = always _ (λ puts m r h e. plain m r (served h e))

-- a restart begins at the starts
begins : (m : Machine) (d : ℕ) → d < (sizes_on m.world.anchor).disks → outcome m restart_begin ≡ taken
    → position_of (result m restart_begin).core d ≡ start_on m.world.anchor d
unfolding outcome result
begins m d below o =
    let t = taken_call restart_begin m.core m.world o in
    let p = rw (t.core, t.world) at (begin_progress m.core m.world o) in
    rw t.core
    (begun_positions m.world d ∙ p.0.starts d (rw (p.0.sizes, p.1.anchor) below) ∙ ap (λ (a : List ℕ). start_on a d) p.1.anchor)

-- Each disk's words are the records that the calls put there, and the readers find these and no others.
log_holds : {puts : Told} {m : Machine} {r : Reference} → Holding puts m r → (d : ℕ) → d < (sizes_on m.world.anchor).disks → LogOf m puts d
unfolding stored
log_holds {m = m} (shut s k n) d below =
    record {
      stored = k.logs d below;
      serving = λ e. true_false (sym (ap when_serving s) ∙ e) refl;
      begins = begins m d below;
      replaying = λ e. true_false (sym (ap when_shut e) ∙ ap when_shut s) refl;
    }
log_holds {m = m} (replaying p k l n) d below =
    record {
      stored = (l d below).stored;
      serving = λ e. true_false (sym (ap when_serving p.stage) ∙ e) refl;
      begins = begins m d below;
      replaying = λ e. (l d below).steps;
    }
log_holds {puts} {m} {r} (serving g) d below =
    let inside = rw g.serving.safe.devices.sizes at below in
    record {
      stored = stored g.serving.safe d inside puts (g.serving.told d inside);
      serving = λ e. buffered g.serving d inside;
      begins = begins m d below;
      replaying = λ e. true_false (sym (ap when_serving e) ∙ g.serving.stage) refl;
    }

pub log_kept : LogKept
unfolding LogKept
log_kept m s budget formats events a = log_holds (holds_after m s budget formats events a)

-- A backup step takes the next page.
pub backup_steps : BackupSteps
unfolding BackupSteps outcome result restart_begin_task
backup_steps =
    always _ (λ puts m r h. (
      λ o. rw (taken_call restart_begin m.core m.world o).core,
      λ e left. backup_step_lem m.core m.world (replayed h (ap when_replaying e)).progress left,
    ))

-- What the state says is true.
pub state_true : StateTrue
unfolding StateTrue
state_true = always _ (λ puts m r h e. truth m r (served h e))

-- No call finds a malformed record.
pub never_malformed : NeverMalformed
unfolding NeverMalformed result
never_malformed =
    always _ (λ puts m r h k.
    never_seven k m.core m.world (λ e. (holding_kept h).restartable) (λ e. (replayed h (ap when_replaying e)).progress)
    (λ e. abort_never_bad (served h e)))
