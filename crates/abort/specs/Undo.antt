-- What the functions that take updates back are lent, and what they do with it.
use Rattle.std.specs.Prelude.{◌≡◌, List, true, ℕ, ◌+◌, ◌≤◌, ◌<◌, length, replicate, Option, None, Some, is_some}
use Rattle.model.specs.declared.Sizes.{Sizes}
use Rattle.model.specs.declared.Logs.{Logs}
use Rattle.model.specs.Sizes.{slots_in, width_in, ring_of, total, log_words, sizes_in_bounds}
use Rattle.model.specs.Decode.{read_log, span, page_field, slot_field, width_field}
use Rattle.model.specs.Scan.{Scan, scan, ring_then_buffer, Update, updates_in, update_words}
use Rattle.model.specs.World.{World}
use Rattle.model.specs.Memory.{work_words, buffer_of}
use Rattle.model.specs.State.{limit, empty_logs, tail_of, fill_of, end_of}
use Rattle.model.specs.Append.{Appended}
use Rattle.model.specs.Abort.{ones_undone}
use Rattle.device.specs.Ran.{Ran}
use Rattle.frame.specs.Home.{with_disk}
use Rattle.abort.specs.declared.difference.Site.{Site}
use Rattle.disk_log.specs.declared.write.Tip.{Tip}
use Rattle.abort.specs.declared.undo.Undone.{Undone}

-- An abort reads and writes the log of one disk, of which it has the numbers; for the others stand empty ones.
unfoldable pub only_log : (disk : ℕ) → Tip → Logs
only_log disk t = with_disk (empty_logs (replicate 8 0)) disk t.tail t.fill

-- A disk of a state, and slices of the lengths that its sizes give.
pub record Serving (s : Sizes) (l : Logs) (disk : ℕ) (logs work : List ℕ) : Type 0 where
  pub sizes : sizes_in_bounds s ≡ true
  pub disk_below : disk < s.disks
  pub log_words_lem : length logs ≡ log_words s
  pub work_words_lem : length work ≡ work_words s (total s)
  pub fills_small : (e : ℕ) → e < s.disks → fill_of l e ≤ 64
  pub end_small : end_of l disk ≤ limit

-- A slot of the sizes, and its width.
pub record InSlot (s : Sizes) (page slot width : ℕ) : Type 0 where
  pub page_in : page < s.pages
  pub slot_in : slot < slots_in s page
  pub width_is : width ≡ width_in s page

-- where a disk's log ends, if that is told
abbrev pub EndsAt : ℕ → Logs → Option Tip → Type 0
EndsAt disk l None = Unit {0}
EndsAt disk l (Some tip) = only_log disk tip ≡ l

-- Actions run as far as a budget goes, and where the disk's log ends after them if all were run.
pub record Did (disk budget rest : ℕ) (added : Appended) (before after : World) (r : Option Tip) : Type 0 where
  pub ran : Ran budget rest added.actions before after (is_some r)
  pub state : EndsAt disk added.logs r

abbrev pub tip_in : Option Undone → Option Tip
tip_in None = None
tip_in (Some undone) = Some undone.tip

-- Where updates were all taken back: how many bits are 1 over their differences.
abbrev pub Counts : List Update → Option Undone → Type 0
Counts us None = Unit {0}
Counts us (Some undone) = undone.ones ≡ ones_undone us

-- and at most how many
abbrev pub Few : ℕ → Option Undone → Type 0
Few most None = Unit {0}
Few most (Some undone) = undone.ones ≤ most

-- a disk's log as it is read, ring then buffer
abbrev pub reader : Sizes → Logs → ℕ → List ℕ → List ℕ → ℕ → ℕ
reader s l disk logs work = read_log s logs disk (tail_of l disk) (buffer_of work disk (fill_of l disk))

-- its records from a position on
unfoldable pub log_from : Sizes → Logs → ℕ → List ℕ → List ℕ → ℕ → Scan
log_from s l disk logs work from = scan s (reader s l disk logs work) (end_of l disk) from

-- its records from a position on, up to the tail and then in the buffer
unfoldable pub parts_from : Sizes → Logs → ℕ → List ℕ → List ℕ → ℕ → Scan
parts_from s l disk logs work from = ring_then_buffer s (reader s l disk logs work) (tail_of l disk) (end_of l disk) from

-- where the update at a position stands, by the first word of its record
unfoldable pub site_at : (ℕ → ℕ) → ℕ → Site
site_at read p = record { position = p; page = page_field (read p); slot = slot_field (read p); width = width_field (read p) }

-- the update whose record stands at a position
unfoldable pub update_read : (ℕ → ℕ) → ℕ → Update
update_read read p =
    record { position = p; page = page_field (read p); slot = slot_field (read p); diff = span read (p + 3) (width_field (read p)) }

-- the update whose record stands at a site
unfoldable pub update_at : Sizes → Logs → ℕ → List ℕ → List ℕ → Site → Update
update_at s l disk logs work site =
    record {
      position = site.position;
      page = site.page;
      slot = site.slot;
      diff = span (reader s l disk logs work) (site.position + 3) site.width;
    }

-- A slot of the sizes, and a record that ends within the log.
pub record Compensable (s : Sizes) (l : Logs) (disk : ℕ) (site : Site) (pages logs work : List ℕ) : Type 0 where
  pub serving : Serving s l disk logs work
  pub page_words_lem : length pages ≡ total s
  pub slotted : InSlot s site.page site.slot site.width
  pub inside : site.position + 3 + site.width ≤ end_of l disk

-- There is room for what takes back the updates found in the log from a position on.
pub record Undoable (s : Sizes) (l : Logs) (disk number from : ℕ) (pages logs work : List ℕ) : Type 0 where
  pub serving : Serving s l disk logs work
  pub page_words_lem : length pages ≡ total s
  pub ring : end_of l disk + update_words (updates_in number (log_from s l disk logs work from)) ≤ from + ring_of s disk
  pub in_limit : end_of l disk + update_words (updates_in number (log_from s l disk logs work from)) ≤ limit
