-- The promises on the logs, on what the state says of them and on what updates and aborts answer (specs/LogPromise.antt), and the commit
-- point (specs/Promise.antt), for traces of the code's own calls (specs/Trace.antt).
use Rattle.std.specs.Prelude.{◌≡◌, ℕ, ◌+◌, ◌≤◌, ◌<◌, List, [], ◌∷◌, true}
use Rattle.model.specs.declared.Stage.TheVariants.{Replaying}
use Rattle.model.specs.declared.Sizes.{Sizes}
use Rattle.model.specs.declared.Core.{Core}
use Rattle.model.specs.Anchor.{sizes_on}
use Rattle.model.specs.State.{end_of, is_open}
use Rattle.model.specs.Refusal.{number_of}
use Rattle.model.specs.Causes.{when_serving, tail_on}
use Rattle.model.specs.Transaction.{disk_of}
use Rattle.model.specs.Call.{commit, restart_begin}
use Rattle.model.specs.Reference.{taken, interrupted}
use Rattle.model.specs.Machine.{Machine}
use Rattle.model.specs.History.{Told, nothing_told, told_by}
use Rattle.model.specs.LogPromise.{LogOf, Truth, Closable, BackupStep, TellsOnes}
use Rattle.model.specs.Trace.{view_of, Observed, machine_after, seen, EventInCode, call_in_code, lent_in_code, scramble_in_code, On, RunInCode, view_run, after_in_code, follow_in_code, AllowedAllInCode, Formats, formatted_in_code, AlwaysInCode}

-- what the observed calls put into the logs (specs/History.antt), told by what each of them answered and by the view of the run before
-- it; a call that was lent other slices is refused and puts nothing
abbrev pub told_in_code : EventInCode → RunInCode → Told → Told
told_in_code (call_in_code o) x t = told_by (seen o) o.call (view_run x) t
told_in_code (lent_in_code o) x t = t
told_in_code (scramble_in_code pages work) x t = t

unfoldable pub history_in_code : List EventInCode → RunInCode → Told → Told
history_in_code [] x t = t
history_in_code (e ∷ es) x t = history_in_code es (after_in_code e x) (told_in_code e x t)

-- The log: as LogKept, for the words that the code's calls left and the records that they put.
unfoldable pub LogKeptInCode : Type 0
LogKeptInCode =
    (o : Observed) (s : Sizes) → Formats o s
    → (events : List EventInCode) → AllowedAllInCode events (formatted_in_code o s)
    → let n : Machine = view_of (follow_in_code events (formatted_in_code o s)).machine in
    let t : Told = history_in_code events (formatted_in_code o s) nothing_told in
    (disk : ℕ) → disk < (sizes_on n.world.anchor).disks → LogOf n t disk

-- A restart begin of the code hands back the backup's first page as the next; a backup step, on the state and the words that the code's
-- calls left.
unfoldable pub BackupStepsInCode : Type 0
BackupStepsInCode =
    AlwaysInCode λ m r.
    let v : Machine = view_of m in
    ((o : Observed) → o.call ≡ restart_begin → On m o → seen o ≡ taken → (view_of (machine_after o)).core.replay.page ≡ 0)
    × (m.carried.stage ≡ Replaying → v.core.replay.page < m.carried.pages → BackupStep v.core v.world v.core.replay.page)

-- The state that the code hands back says what is true of the words that it left.
unfoldable pub StateTrueInCode : Type 0
StateTrueInCode = AlwaysInCode λ m r. when_serving m.carried.stage ≡ true → Truth (view_of m)

-- No call of the code on the slices as they were left answers 7.
unfoldable pub NeverMalformedInCode : Type 0
NeverMalformedInCode = AlwaysInCode λ m r. (o : Observed) → On m o → number_of o.reply.answer ≡ 7 → ⊥

-- Commit and abort always fit, by the state that the code hands back.
unfoldable pub ClosingFitsInCode : Type 0
ClosingFitsInCode =
    AlwaysInCode λ m r. when_serving m.carried.stage ≡ true
    → (t : ℕ) → is_open (view_of m).core.table t ≡ true → Closable (view_of m).core t

-- The commit point. The commit record goes to position p, the end of the log of the transaction's disk. A commit of the code that is
-- taken leaves that disk's tail word at p + 2, behind the record; one that is cut, at whichever store, leaves it at p or below.
unfoldable pub CommitPointsInCode : Type 0
CommitPointsInCode =
    AlwaysInCode λ m r. (o : Observed) (t budget : ℕ) → o.call ≡ commit t budget → On m o
    → let c : Core = (view_of m).core in
    let p : ℕ = end_of c.logs (disk_of c t) in
    let tail : ℕ = tail_on c.sizes o.exit (disk_of c t) in
    (seen o ≡ taken → tail ≡ p + 2) × (seen o ≡ interrupted → tail ≤ p)

-- An update or an abort of the code on the slices as they were left, if it is taken, answers how many bits are 1 over the differences of
-- the records that it puts; for an update that is in how many places (word, bit) the slot's value in the plain table and the new value
-- differ, for every number k of bits that all words of both keep to, as the code's do to 64.
unfoldable pub OnesToldInCode : Type 0
OnesToldInCode =
    (o : Observed) (s : Sizes) → Formats o s
    → (events : List EventInCode) → AllowedAllInCode events (formatted_in_code o s)
    → let x : RunInCode = follow_in_code events (formatted_in_code o s) in
    (p : Observed) → On x.machine p
    → TellsOnes (view_run x) (history_in_code events (formatted_in_code o s) nothing_told) p.call p.reply.answer
