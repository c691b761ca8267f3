-- What the readers of a log need, and what they give beyond model's definitions.
use Rattle.std.specs.Prelude.{◌≡◌, ℕ, ◌+◌, ◌^◌, ◌≤◌, ◌<◌, List, [], ◌∷◌, true, cond, ◌&&◌, length, get_or, eqb}
use Rattle.model.specs.declared.Sizes.{Sizes}
use Rattle.model.specs.Sizes.{ring_of, disk_at, log_words, sizes_in_bounds}
use Rattle.model.specs.Record.{change, close, update_kind}
use Rattle.model.specs.Scan.{Scan, end, bad, item}
use Rattle.disk_log.specs.declared.read.Extent.{Extent}

-- A disk's tail word and its ring size are these.
pub record LiesAt (s : Sizes) (disk place ring : ℕ) : Type 0 where
  pub same_place : disk_at s disk ≡ place
  pub same_ring : ring_of s disk ≡ ring

-- a disk's log with this tail, read up to `stop`
unfoldable pub extent_of : Sizes → (disk tail stop : ℕ) → Extent
extent_of s disk tail stop = record { place = disk_at s disk; ring = ring_of s disk; tail = tail; end = stop }

-- An extent is that of a disk.
pub record OfDisk (s : Sizes) (e : Extent) : Type 0 where
  pub disk : ℕ
  pub lies : LiesAt s disk e.place e.ring

-- P and the pages' two lists are these.
pub record PagesOf (s : Sizes) (pages : ℕ) (slots widths : List ℕ) : Type 0 where
  pub same_pages : s.pages ≡ pages
  pub same_slots : s.slots ≡ slots
  pub same_widths : s.widths ≡ widths

-- An extent is that of a disk of such sizes.
pub record OfLog (pages : ℕ) (slots widths : List ℕ) (e : Extent) : Type 0 where
  pub sizes : Sizes
  pub paged : PagesOf sizes pages slots widths
  pub of_disk_lem : OfDisk sizes e

-- A log that can be read up to its end: tail word and ring lie within the logs, and every position has a word in the ring or the buffer.
pub record Readable (e : Extent) (logs buffer : List ℕ) : Type 0 where
  pub ring_pos : 1 ≤ e.ring
  pub ring_fits : e.place + 1 + e.ring ≤ length logs
  pub end_le : e.end ≤ e.tail + length buffer
  pub end_low : e.end ≤ 2 ^ 63

-- What the checks before No. 7 leave of the sizes, the logs' length and the tails.
pub record Checkable (s : Sizes) (logs : List ℕ) : Type 0 where
  pub bounds : sizes_in_bounds s ≡ true
  pub logs_length : log_words s ≤ length logs
  pub tails_low : (d : ℕ) → d < s.disks → get_or logs (disk_at s d) 0 ≤ 2 ^ 63

-- the positions of a transaction's updates, oldest first
unfoldable pub positions_in : ℕ → Scan → List ℕ
positions_in number end = []
positions_in number (bad p) = []
positions_in number (item p (close kind n) rest) = positions_in number rest
positions_in number (item p (change kind page slot n copy diff) rest) =
    cond (eqb kind update_kind && eqb n number) (p ∷ positions_in number rest) (positions_in number rest)
