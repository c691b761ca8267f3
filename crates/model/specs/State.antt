-- The state: a new one, an open one, its table of transactions, and the test that a state made by the calls passes.
-- In these files `c` is a state, and its `epoch` is 01's c; where no state is at hand, `c` is 01's c.
use Rattle.std.specs.Prelude.{ℕ, ◌+◌, ◌*◌, ◌-◌, ◌^◌, List, Bool, true, cond, not, ◌&&◌, ◌||◌, get_or, set, replicate, leb, ltb, eqb}
use Rattle.model.specs.declared.Stage.{Stage}
use Rattle.model.specs.declared.Stage.TheVariants.{Shut, Replaying, Open, Copying}
use Rattle.model.specs.declared.Sizes.{Sizes}
use Rattle.model.specs.declared.Bases.{Bases}
use Rattle.model.specs.declared.Logs.{Logs}
use Rattle.model.specs.declared.Table.{Table}
use Rattle.model.specs.declared.Checkpoint.{Checkpoint}
use Rattle.model.specs.declared.Replay.{Replay}
use Rattle.model.specs.declared.Classes.{Classes}
use Rattle.model.specs.declared.Core.{Core}
use Rattle.model.specs.Below.{within, sum_below, all_below, first_below, list_below}
use Rattle.model.specs.Classes.{no_classes}
use Rattle.model.specs.Sizes.{width_in, page_words, page_base, total, ring_of, sizes_in_bounds}

-- "sixteen transactions may be open"; the bound of positions, checkpoint numbers and transaction numbers
abbrev pub places : ℕ
places = 16

abbrev pub limit : ℕ
limit = 2 ^ 62

-- A new state; also what an interrupted call hands back: "buffers are lost. A new state is a cut with no store."
abbrev pub no_sizes : Sizes
no_sizes = record { pages = 0; disks = 0; ring = 0; slots = replicate 64 0; widths = replicate 64 0 }

-- The first word of each page, and T: kept in the state, so that no call sums the sizes up.
abbrev pub no_bases : Bases
no_bases = record { pages = replicate 64 0; total = 0 }

unfoldable pub bases_of : Sizes → Bases
bases_of s = record { pages = list_below (page_base s) 64; total = total s }

abbrev pub no_table : Table
no_table = record { numbers = replicate 16 0; disks = replicate 16 0; firsts = replicate 16 0; reserved = replicate 16 0; sums = replicate 8 0 }

abbrev pub no_checkpoint : Checkpoint
no_checkpoint = record { ends = replicate 8 0; copied = 0 }

abbrev pub no_replay : Replay
no_replay = record { positions = replicate 8 0; page = 0 }

-- logs that start at their tails, with nothing buffered
abbrev pub empty_logs : List ℕ → Logs
empty_logs tails = record { starts = tails; tails = tails; fills = replicate 8 0 }

unfoldable pub new_core : Core
new_core =
    record { stage = Shut; sizes = no_sizes; bases = no_bases; epoch = 0; logs = empty_logs (replicate 8 0); table = no_table; next = 0; checkpoint = no_checkpoint; replay = no_replay; classes = no_classes }

-- An open state with no transaction, as format and restart end leave it: "next number, from 1 after a format or restart".
unfoldable pub open_core : Sizes → ℕ → List ℕ → Core
open_core sizes epoch tails =
    record { stage = Open; sizes = sizes; bases = bases_of sizes; epoch = epoch; logs = empty_logs tails; table = no_table; next = 1; checkpoint = no_checkpoint; replay = no_replay; classes = no_classes }

-- The state that a restart begin leaves: its steps go on from the starts and from page 0.
abbrev pub replaying_core : Sizes → ℕ → List ℕ → List ℕ → Core
replaying_core sizes epoch starts tails =
    record {
      stage = Replaying;
      sizes = sizes;
      bases = bases_of sizes;
      epoch = epoch;
      logs = record { starts = starts; tails = tails; fills = replicate 8 0 };
      table = no_table;
      next = 0;
      checkpoint = no_checkpoint;
      replay = record { positions = starts; page = 0 };
      classes = no_classes;
    }

-- States with some parts changed. Only in this file is a state written out field by field.
-- other logs, another table and another next number
abbrev pub serving_with : Core → Logs → Table → ℕ → Core
serving_with c logs table next =
    record { stage = c.stage; sizes = c.sizes; bases = c.bases; epoch = c.epoch; logs = logs; table = table; next = next; checkpoint = c.checkpoint; replay = c.replay; classes = c.classes }

-- after a begin: another table, and the next number
abbrev pub begun_with : Core → Table → Core
begun_with c table = serving_with c c.logs table (c.next + 1)

-- a checkpoint under way
abbrev pub with_checkpoint : Core → Stage → Checkpoint → Core
with_checkpoint c stage checkpoint =
    record { stage = stage; sizes = c.sizes; bases = c.bases; epoch = c.epoch; logs = c.logs; table = c.table; next = c.next; checkpoint = checkpoint; replay = c.replay; classes = c.classes }

-- the checkpoint under way ended: it is the current one, with these logs
abbrev pub switched_to : Core → Logs → Core
switched_to c logs =
    record { stage = Open; sizes = c.sizes; bases = c.bases; epoch = c.epoch + 1; logs = logs; table = c.table; next = c.next; checkpoint = no_checkpoint; replay = c.replay; classes = c.classes }

unfoldable pub with_replay : Core → Replay → Core
with_replay c r =
    record { stage = c.stage; sizes = c.sizes; bases = c.bases; epoch = c.epoch; logs = c.logs; table = c.table; next = c.next; checkpoint = c.checkpoint; replay = r; classes = c.classes }

-- another table of classes
abbrev pub with_classes : Core → Classes → Core
with_classes c classes =
    record { stage = c.stage; sizes = c.sizes; bases = c.bases; epoch = c.epoch; logs = c.logs; table = c.table; next = c.next; checkpoint = c.checkpoint; replay = c.replay; classes = classes }

-- the state with other logs and another table
unfoldable pub with_log : Core → Logs → Table → Core
with_log c logs table = serving_with c logs table c.next

-- A disk's log: where it starts, its tail, how many words are buffered, and its end, "tail plus buffered".
unfoldable pub start_of : Logs → ℕ → ℕ
start_of l disk = get_or l.starts disk 0

-- where a disk's ring is kept from: room is counted from here, and no word from here to the end is overwritten; today the log's start
unfoldable pub kept_of : Logs → ℕ → ℕ
kept_of l disk = start_of l disk

unfoldable pub tail_of : Logs → ℕ → ℕ
tail_of l disk = get_or l.tails disk 0

unfoldable pub fill_of : Logs → ℕ → ℕ
fill_of l disk = get_or l.fills disk 0

unfoldable pub end_of : Logs → ℕ → ℕ
end_of l disk = tail_of l disk + fill_of l disk

unfoldable pub with_fill : Logs → ℕ → ℕ → Logs
with_fill l disk n = record { starts = l.starts; tails = l.tails; fills = set l.fills disk n }

unfoldable pub after_flush : Logs → ℕ → Logs
after_flush l disk = record { starts = l.starts; tails = set l.tails disk (end_of l disk); fills = set l.fills disk 0 }

-- The table, by place.
unfoldable pub number_at : Table → ℕ → ℕ
number_at t place = get_or t.numbers place 0

unfoldable pub disk_at_place : Table → ℕ → ℕ
disk_at_place t place = get_or t.disks place 0

unfoldable pub first_at : Table → ℕ → ℕ
first_at t place = get_or t.firsts place 0

unfoldable pub reserved_at : Table → ℕ → ℕ
reserved_at t place = get_or t.reserved place 0

-- the place of a transaction; for 0, of the lowest free place; 16 where there is none
unfoldable pub place_of : Table → ℕ → ℕ
place_of t number = first_below (λ i. eqb (number_at t i) number) places

-- number 0 is never in the table
unfoldable pub in_table : Table → ℕ → Bool
in_table t number = not (eqb number 0) && ltb (place_of t number) places

-- every transaction in the table is open; a lock asks for the first, a call for the second
unfoldable pub is_open : Table → ℕ → Bool
is_open t number = in_table t number

unfoldable pub with_place : Table → ℕ → ℕ → ℕ → ℕ → ℕ → Table
with_place t place number disk first reserved =
    record {
      numbers = set t.numbers place number;
      disks = set t.disks place disk;
      firsts = set t.firsts place first;
      reserved = set t.reserved place reserved;
      sums = t.sums;
    }

-- The transaction has an update: each takes four words or more beyond the two reserved at its begin.
unfoldable pub has_update : Table → ℕ → Bool
has_update t place = ltb 2 (reserved_at t place)

-- a place of the table that holds a transaction of the disk
unfoldable pub served_by : Table → ℕ → ℕ → Bool
served_by t disk place = not (eqb (number_at t place) 0) && eqb (disk_at_place t place) disk

-- "owed is, over a disk's open transactions, 2 words each plus the words of their update records": the sum, and the table's own count
-- of it, which the calls keep
unfoldable pub reserved_for : Table → ℕ → ℕ
reserved_for t disk = sum_below (λ i. cond (served_by t disk i) (reserved_at t i) 0) places

unfoldable pub reserved_on : Table → ℕ → ℕ
reserved_on t disk = get_or t.sums disk 0

unfoldable pub with_reserved : Table → ℕ → ℕ → Table
with_reserved t disk n =
    record { numbers = t.numbers; disks = t.disks; firsts = t.firsts; reserved = t.reserved; sums = set t.sums disk n }

-- the table without the transaction
unfoldable pub without : Table → ℕ → Table
without t number =
    with_reserved (with_place t place 0 0 0 0) (disk_at_place t place) (reserved_on t (disk_at_place t place) - reserved_at t place)
  where
    place : ℕ
    place = place_of t number

-- where a page begins in the page memory, and a slot, by the kept bases
unfoldable pub base_of : Core → ℕ → ℕ
base_of c page = get_or c.bases.pages page 0

unfoldable pub slot_place : Core → ℕ → ℕ → ℕ
slot_place c page slot = base_of c page + slot * width_in c.sizes page

-- What is kept is right, and the bounds that keep indices, sums and the room rule safe. Every state that a call hands back passes this.
-- The first page begins at 0, and each other where the one before it ends (base_kept in proofs/KeptBases.antt).
unfoldable pub bases_right : Core → Bool
bases_right c =
    eqb c.bases.total (total c.sizes) && eqb (base_of c 0) 0
    && all_below (λ page. eqb (base_of c (page + 1)) (base_of c page + page_words c.sizes page)) 63

unfoldable pub disk_sound : Core → ℕ → Bool
disk_sound c disk =
    eqb (reserved_on c.table disk) (reserved_for c.table disk) && leb (fill_of c.logs disk) 64 && leb (start_of c.logs disk) (tail_of c.logs disk)
    && leb (end_of c.logs disk - kept_of c.logs disk + reserved_on c.table disk) (ring_of c.sizes disk)
    && leb (end_of c.logs disk + reserved_on c.table disk) limit

unfoldable pub place_sound : Core → ℕ → Bool
place_sound c i =
    eqb (number_at c.table i) 0
    || ltb (disk_at_place c.table i) c.sizes.disks && leb 2 (reserved_at c.table i)
    && (not (has_update c.table i)
    || within (start_of c.logs (disk_at_place c.table i)) (end_of c.logs (disk_at_place c.table i)) (first_at c.table i))

-- The next number is not 0, which is a free place's: a begin puts it into the table.
unfoldable pub serving_sound : Core → Bool
serving_sound c =
    sizes_in_bounds c.sizes && bases_right c && ltb 0 c.next && all_below (disk_sound c) c.sizes.disks && all_below (place_sound c) places

unfoldable pub checkpoint_sound : Core → Bool
checkpoint_sound c =
    ltb c.epoch limit && leb c.checkpoint.copied c.sizes.pages
    && all_below (λ d. within (start_of c.logs d) (end_of c.logs d) (get_or c.checkpoint.ends d 0)) c.sizes.disks

unfoldable pub replay_sound : Core → Bool
replay_sound c =
    sizes_in_bounds c.sizes && bases_right c && ltb c.epoch limit && leb c.replay.page c.sizes.pages
    && all_below (λ d. leb (tail_of c.logs d) limit && leb (get_or c.replay.positions d 0) (tail_of c.logs d)) c.sizes.disks

abbrev pub sound_in : Stage → Core → Bool
sound_in Shut c = true
sound_in Replaying c = replay_sound c
sound_in Open c = serving_sound c
sound_in Copying c = serving_sound c && checkpoint_sound c

unfoldable pub sound : Core → Bool
sound c = sound_in c.stage c
