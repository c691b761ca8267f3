-- What the functions that write a log are lent, and what they do with it.
use Rattle.std.specs.Prelude.{◌≡◌, List, ℕ, ◌+◌, ◌≤◌, ◌<◌, ◌^◌, length, set, Option, None, Some, is_some}
use Rattle.model.specs.declared.Sizes.{Sizes}
use Rattle.model.specs.declared.Logs.{Logs}
use Rattle.model.specs.Record.{Record, change}
use Rattle.model.specs.World.{World}
use Rattle.model.specs.Memory.{buffer_at}
use Rattle.model.specs.State.{tail_of, fill_of}
use Rattle.model.specs.Append.{append}
use Rattle.device.specs.Ran.{Ran}
use Rattle.disk_log.specs.declared.write.Home.{Home}
use Rattle.disk_log.specs.declared.write.Head.{Head}
use Rattle.disk_log.specs.declared.write.Tip.{Tip}
use Rattle.disk_log.specs.Reading.{LiesAt}

-- The numbers lay every index within its slice, and the end of the log within the bound of positions.
pub record Within (h : Home) (logs work : List ℕ) : Type 0 where
  pub some_ring : 64 ≤ h.ring
  pub ring_within : h.place + 1 + h.ring ≤ length logs
  pub buffer_within : h.buffer + 64 ≤ length work
  pub fill_small : h.fill ≤ 64
  pub end_small : h.tail + h.fill ≤ 2 ^ 62

-- The fields of a change fit its first word.
pub record Encodable (h : Head) (width : ℕ) : Type 0 where
  pub kind_small : h.kind ≤ 1
  pub page_small : h.page < 64
  pub slot_small : h.slot < 128
  pub width_small : width ≤ 32

abbrev pub change_of : Head → List ℕ → Record
change_of h difference = change h.kind h.page h.slot h.number h.copy difference

-- The numbers and the two slices are those of a disk, in a state and a world.
pub record Lent (s : Sizes) (l : Logs) (w : World) (h : Home) (logs work : List ℕ) : Type 0 where
  pub lies : LiesAt s h.disk h.place h.ring
  pub same_buffer : buffer_at h.disk ≡ h.buffer
  pub same_tail : tail_of l h.disk ≡ h.tail
  pub same_fill : fill_of l h.disk ≡ h.fill
  pub same_logs : w.logs ≡ logs
  pub same_work : w.work ≡ work

-- The answer of an append; None: it was cut. Where it was not, the log ends n words further on.
abbrev pub Ends : (tail fill n : ℕ) → Option Tip → Type 0
Ends tail fill n None = Unit {0}
Ends tail fill n (Some t) = (t.fill ≤ 64) × (t.tail + t.fill ≡ tail + fill + n)

-- and the logs' part of the state after it
abbrev pub LogsAfter : (disk : ℕ) → (before after : Logs) → Option Tip → Type 0
LogsAfter disk l after None = Unit {0}
LogsAfter disk l after (Some t) = after ≡ record { starts = l.starts; tails = set l.tails disk t.tail; fills = set l.fills disk t.fill }

-- What an append does to the world, and the logs' part of the state after it.
pub record Appends (budget rest : ℕ) (s : Sizes) (l : Logs) (disk : ℕ) (words : List ℕ) (before after : World) (r : Option Tip) : Type 0 where
  pub ran : Ran budget rest (append s l before.work disk words).actions before after (is_some r)
  pub state : LogsAfter disk l (append s l before.work disk words).logs r
