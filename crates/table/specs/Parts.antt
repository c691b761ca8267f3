-- A function is lent the parts of a state that it reads. These are states with those parts, so that its contract can cite model's definitions.
use Rattle.std.specs.Prelude.{ℕ, ◌+◌, ◌-◌, ◌^◌, List, [], Bool, not, ◌&&◌, ◌||◌, get_or, leb, ltb, eqb}
use Rattle.model.specs.declared.Logs.{Logs}
use Rattle.model.specs.declared.Table.{Table}
use Rattle.model.specs.declared.Core.{Core}
use Rattle.model.specs.Below.{within}
use Rattle.model.specs.Classes.{in_set}
use Rattle.model.specs.Room.{has_room, load_of, idlest_below}
use Rattle.model.specs.State.{limit, replaying_core, serving_with, start_of, tail_of, fill_of, end_of}

abbrev pub logs_of : List ℕ → List ℕ → List ℕ → Logs
logs_of starts tails fills = record { starts = starts; tails = tails; fills = fills }

-- what is kept of the reserved words does not count for the entries, nor the first positions for what they reserve
abbrev pub entries_of : List ℕ → List ℕ → List ℕ → List ℕ → Table
entries_of numbers disks firsts reserved = record { numbers = numbers; disks = disks; firsts = firsts; reserved = reserved; sums = [] }

abbrev pub table_of : List ℕ → List ℕ → List ℕ → Table
table_of numbers disks reserved = entries_of numbers disks [] reserved

-- the room rule reads what is kept alone
abbrev pub sums_of : List ℕ → Table
sums_of sums = record { numbers = []; disks = []; firsts = []; reserved = []; sums = sums }

-- the other parts do not count here
abbrev pub core_of : ℕ → ℕ → Logs → Table → Core
core_of disks ring logs table =
    serving_with (replaying_core (record { pages = 0; disks = disks; ring = ring; slots = []; widths = [] }) 0 [] []) logs table 0

-- where a sum of reserved words stops: it is above the limit, so that nothing more fits
abbrev pub cap : ℕ
cap = 2 ^ 63

-- the room rule of the numbers of one disk
unfoldable pub room_for : ℕ → ℕ → ℕ → ℕ → ℕ → Bool
room_for start end reserved ring need = leb (end - start + reserved + need) ring && leb (end + reserved + need) limit

-- the disk of a begin whose class these disks serve
unfoldable pub idlest_in : (set : ℕ) → Core → ℕ
idlest_in set c = idlest_below (λ d. in_set set d && has_room c 2 d) (load_of c.logs) c.sizes.disks

-- the bounds of one disk's log, where these words are kept as reserved on each disk, and the places reserve those
unfoldable pub log_sound : ℕ → Logs → (kept sums : List ℕ) → ℕ → Bool
log_sound ring logs kept sums d =
    eqb (get_or kept d 0) (get_or sums d 0) && leb (fill_of logs d) 64 && leb (start_of logs d) (tail_of logs d)
    && room_for (start_of logs d) (end_of logs d) (get_or kept d 0) ring 0

-- the test of one entry of the table
unfoldable pub entry_sound : ℕ → Logs → ℕ → ℕ → ℕ → ℕ → Bool
entry_sound disks logs number disk first reserved =
    eqb number 0
    || ltb disk disks && leb 2 reserved && (not (ltb 2 reserved) || within (start_of logs disk) (end_of logs disk) first)

-- a remembered end lies in its disk's log
unfoldable pub end_within : Logs → List ℕ → ℕ → Bool
end_within logs ends d = within (start_of logs d) (end_of logs d) (get_or ends d 0)

-- the next position to replay is at or below its disk's tail
unfoldable pub position_within : List ℕ → List ℕ → ℕ → Bool
position_within tails positions d = leb (get_or tails d 0) limit && leb (get_or positions d 0) (get_or tails d 0)
