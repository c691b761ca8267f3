-- The part of an update's task that a function does, where it is lent a part of the state.
use Rattle.std.specs.Prelude.{◌≡◌, List, [], ◌∷◌, ◌++◌, ℕ, length, Option, None, Some, is_some}
use Rattle.model.specs.declared.Sizes.{Sizes}
use Rattle.model.specs.declared.Logs.{Logs}
use Rattle.model.specs.Word.{xors, ones_over, part}
use Rattle.model.specs.Record.{encode}
use Rattle.model.specs.World.{World, write, pages, work, each}
use Rattle.model.specs.Memory.{owner_at}
use Rattle.model.specs.Append.{Appended, append}
use Rattle.device.specs.Ran.{Ran}
use Rattle.disk_log.specs.declared.write.Head.{Head}
use Rattle.disk_log.specs.declared.write.Tip.{Tip}
use Rattle.disk_log.specs.Write.{change_of, LogsAfter}
use Rattle.access.specs.declared.change.Changed.{Changed}

-- the world with other pages, logs and work memory
abbrev pub with_memory : World → List ℕ → List ℕ → List ℕ → World
with_memory w p l k = record { anchor = w.anchor; pages = p; backups = w.backups; logs = l; work = k }

-- An update's actions on the logs and the memories: the record appended, the slot set, its owner set; and the logs' part of the state.
unfoldable pub replacing : Sizes → Logs → World → ℕ → Head → ℕ → List ℕ → Appended
replacing s l w disk head at value =
    let added : Appended = append s l w.work disk (encode (change_of head (xors (part at (length value) w.pages) value))) in
    record { actions = added.actions ++ each (write pages) at value ++ write work (owner_at s at) head.number ∷ []; logs = added.logs }

abbrev pub tip_in : Option Changed → Option Tip
tip_in None = None
tip_in (Some changed) = Some changed.tip

-- How many bits of a difference are 1, where its change was not cut.
abbrev pub Counts : (diff : List ℕ) → Option Changed → Type 0
Counts diff None = Unit {0}
Counts diff (Some changed) = changed.ones ≡ ones_over diff

-- These actions run as far as a budget goes; where they were not cut, where the disk's log ends, and how many bits of the difference are 1.
pub record Replaced (budget rest : ℕ) (s : Sizes) (l : Logs) (disk : ℕ) (head : Head) (at : ℕ) (value : List ℕ) (before after : World) (r : Option Changed) : Type 0 where
  pub ran : Ran budget rest (replacing s l before disk head at value).actions before after (is_some r)
  pub state : LogsAfter disk l (replacing s l before disk head at value).logs (tip_in r)
  pub ones : Counts (xors (part at (length value) before.pages) value) r
