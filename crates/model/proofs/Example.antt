-- A run that meets the premises of the power_loss theorem: a commit, an abort and a checkpoint are cut, each followed by a restart.
use mathlib.Core.Path.{◌≡◌, refl}
use Prim.Native.Nat.{ℕ}
use mathlib.Core.List.{List, [], ◌∷◌, ◌++◌, map}
use mathlib.Core.Bool.{true}
use lib.ListN.{replicate}
use Rattle.model.specs.declared.Sizes.{Sizes}
use Rattle.model.specs.Call.{format, begin, update, commit, abort, checkpoint_begin, checkpoint_step, checkpoint_end, restart_begin, restart_step, restart_run, restart_end, new_state}
use Rattle.model.specs.Reference.{taken}
use Rattle.model.specs.Machine.{Machine, Event, call, scramble, outcome, result, follow, allowed_all, formatted}
use Rattle.model.specs.Record.{change, close, update_kind, compensation_kind, commit_kind, abort_kind}
use Rattle.model.specs.History.{nothing_told, end_put, start_put, history}
use Rattle.model.proofs.Everything.{everything}
use Rattle.model.proofs.Play.{unformatted}
use Rattle.model.proofs.Positions.{plenty, small}

-- lost power leaves anything in the memories; the backup is replayed before the log, by a run that may make a step more than there is,
-- and a step too many is refused
pub restart : ℕ → List Event
restart steps = scramble (9 ∷ 9 ∷ []) (replicate 130 9) ∷ map call (restart_begin ∷ restart_run 1 2 ∷ replicate steps (restart_step 0))

-- a transaction of n updates of slot 0
writing : ℕ → ℕ → List Event
writing number n = call (begin 0) ∷ replicate n (call (update number 0 0 (12 ∷ []) plenty))

-- slot 0 is committed as 2; a commit of 12 is cut before its tail word, an abort inside its flush, a checkpoint before its
-- last store
pub events : List Event
events =
    map call (begin 0 ∷ update 1 0 0 (2 ∷ []) plenty ∷ commit 1 plenty ∷ [])
    ++ writing 2 1 ++ call (commit 2 6) ∷ [] ++ restart 4 ++ call (restart_end plenty) ∷ []
    ++ writing 1 15 ++ call (abort 1 40) ∷ [] ++ restart 1 ++ call (restart_end plenty) ∷ []
    ++ writing 1 1 ++ map call (checkpoint_begin ∷ checkpoint_step plenty ∷ checkpoint_end 6 ∷ []) ++ restart 2

pub start : Machine
start = unformatted (small 1)

-- a committed update and one that is taken back
pub few : List Event
few = map call (begin 0 ∷ update 1 0 0 (2 ∷ []) plenty ∷ commit 1 plenty ∷ begin 0 ∷ update 2 0 0 (12 ∷ []) plenty ∷ abort 2 plenty ∷ [])

-- a checkpoint during which one transaction commits and another makes its first update, and the whole of a next one
pub during : List Event
during =
    map call (begin 0 ∷ update 1 0 0 (2 ∷ []) plenty ∷ checkpoint_begin ∷ checkpoint_step plenty ∷ commit 1 plenty
    ∷ begin 0 ∷ update 2 0 0 (12 ∷ []) plenty ∷ checkpoint_end plenty ∷ [])

pub next : List Event
next = map call (checkpoint_begin ∷ checkpoint_step plenty ∷ checkpoint_end plenty ∷ [])

opens : ℕ
unfolding everything unformatted small restart writing events start few during next end_put start_put
opens = 0

-- the format finishes, the events are allowed, and the last restart end is taken
pub record Reaches (m : Machine) (s : Sizes) (budget : ℕ) (es : List Event) (last : ℕ) (slot : ℕ) : Type 0 where
  pub formats : outcome m (format s budget) ≡ taken
  pub allows : allowed_all es (formatted m s budget).machine ≡ true
  pub ends : outcome (follow es (formatted m s budget)).machine (restart_end last) ≡ taken
  pub gives : (result (follow es (formatted m s budget)).machine (restart_end last)).world.pages ≡ slot ∷ 0 ∷ []

pub example_reaches : Reaches start (small 1) plenty events plenty 2
unfolding opens
example_reaches = record { formats = refl; allows = refl; ends = refl; gives = refl }

-- what is told of the few: an update and its commit, an update, its compensation and its abort record
pub example_puts : (history few (formatted start (small 1) plenty) nothing_told).puts
    ≡ map (λ r. record { disk = 0; content = r })
    (change update_kind 0 0 1 1 (2 ∷ []) ∷ close commit_kind 1 ∷ change update_kind 0 0 2 1 (14 ∷ [])
    ∷ change compensation_kind 0 0 2 1 (14 ∷ []) ∷ close abort_kind 2 ∷ [])
unfolding opens
example_puts = refl

-- after the next restart end nothing, and the log begins behind the six words that the commit stored
pub example_base : (history (few ++ call new_state ∷ [] ++ restart 2 ++ call (restart_end plenty) ∷ []) (formatted start (small 1) plenty) nothing_told).base 0 ≡ 6
unfolding opens
example_base = refl

-- the first checkpoint moves the start behind the one record that it found when it began; the second to the first record of the
-- transaction that is still open
pub example_starts : ((history during (formatted start (small 1) plenty) nothing_told).starts 0 ≡ 4)
    × ((history (during ++ next) (formatted start (small 1) plenty) nothing_told).starts 0 ≡ 6)
unfolding opens
example_starts = (refl, refl)
