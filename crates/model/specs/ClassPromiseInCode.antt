-- The promises of specs/ClassPromise.antt about the code's own calls.
use Rattle.std.specs.Prelude.{◌≡◌, ◌⊎◌, ℕ, List, [], ◌∷◌, map, true}
use Rattle.model.specs.Call.{Call, restart_end, new_state}
use Rattle.model.specs.Image.{image_of, restarted}
use Rattle.model.specs.Reference.{Reference, taken, interrupted}
use Rattle.model.specs.Trace.{MachineInCode, view_of, Observed, machine_after, KeepsContract, seen, On, EventInCode, call_in_code, lent_in_code, scramble_in_code, AllowedInCode, RunInCode, follow_in_code, AllowedAllInCode, AlwaysInCode}
use Rattle.model.specs.ClassPromise.{table_after, KnownTable, AllAlike, of_restart}

-- The table in force after a call of the code, on any state and slices, by what it answered.
unfoldable pub TableInForceInCode : Type 0
TableInForceInCode = (o : Observed) → KeepsContract o → o.reply.carried.classes ≡ table_after (seen o) o.call o.carried.classes

abbrev pub calls_of : List Observed → List Call
calls_of os = map (λ o. o.call) os

-- all of them taken
unfoldable pub AllSeenTaken : List Observed → Type 0
AllSeenTaken [] = Unit {0}
AllSeenTaken (o ∷ os) = (seen o ≡ taken) × AllSeenTaken os

-- Calls of the code that were all taken, each on what the one before it left; then the power fails, between two calls or inside one.
pub record FailedInCode (x : RunInCode) (calls : List Call) : Type 0 where
  pub observed : List Observed
  pub made : calls_of observed ≡ calls
  pub linked : AllowedAllInCode (map call_in_code observed) x
  pub taken : AllSeenTaken observed
  pub failing : Observed
  pub may : AllowedInCode (follow_in_code (map call_in_code observed) x).machine (call_in_code failing)
  pub fails : (failing.call ≡ new_state) ⊎ (seen failing ≡ interrupted)

unfoldable pub RestartsOnlyInCode : List EventInCode → Type 0
RestartsOnlyInCode [] = Unit {0}
RestartsOnlyInCode (call_in_code o ∷ es) = (of_restart o.call ≡ true) × RestartsOnlyInCode es
RestartsOnlyInCode (lent_in_code o ∷ es) = RestartsOnlyInCode es
RestartsOnlyInCode (scramble_in_code pages work ∷ es) = RestartsOnlyInCode es

-- The pages that the code's restart calls find from a machine on. The reference plays no part in what is allowed.
pub record FoundInCode (m : MachineInCode) (r : Reference) (pages : List ℕ) : Type 0 where
  pub restarts : List EventInCode
  pub only : RestartsOnlyInCode restarts
  pub linked : AllowedAllInCode restarts (record { machine = m; reference = r })
  pub last : Observed
  pub budget : ℕ
  pub call : last.call ≡ restart_end budget
  pub on : On (follow_in_code restarts (record { machine = m; reference = r })).machine last
  pub finished : seen last ≡ taken
  pub leaves : last.exit.pages ≡ pages

-- Along every trace the table in force is none, or one that was accepted.
unfoldable pub TableKnownInCode : Type 0
TableKnownInCode = AlwaysInCode λ m r. KnownTable (view_of m).core

-- "What a class decides is the disk", as TwoTables, for traces of the code.
unfoldable pub TwoTablesInCode : Type 0
TwoTablesInCode =
    AlwaysInCode λ m r. (one other : List Call) → AllAlike one other
    → (f : FailedInCode (record { machine = m; reference = r }) one) (g : FailedInCode (record { machine = m; reference = r }) other)
    → (restarted (image_of f.failing.exit) ≡ restarted (image_of g.failing.exit))
    × ((p q : List ℕ) → FoundInCode (machine_after f.failing) r p → FoundInCode (machine_after g.failing) r q → p ≡ q)
