-- A transaction's updates in groups of 128, each read from where it begins and taken back from its end.
use Rattle.std.specs.Prelude.{◌≡◌, ℕ, ◌+◌, ◌*◌, ◌≤◌, ◌<◌, length, get_or, drop, Option, None, Some, Result, Ok, Err}
use mathlib.Core.List.{List, [], ◌∷◌, ◌++◌, Memᴰ}
use Rattle.model.specs.declared.Sizes.{Sizes}
use Rattle.model.specs.declared.Logs.{Logs}
use Rattle.model.specs.declared.BadRecord.{BadRecord}
use Rattle.model.specs.Sizes.{ring_of, total}
use Rattle.model.specs.Decode.{page_field, slot_field, width_field}
use Rattle.model.specs.Scan.{Scan, scan, fault_in, Update, updates_in, update_words}
use Rattle.model.specs.State.{limit, end_of}
use Rattle.disk_log.specs.Reading.{positions_in}
use Rattle.abort.specs.declared.notes.Notes.{Notes}
use Rattle.abort.specs.declared.reading.Found.{Found}
use Rattle.abort.specs.Undo.{Serving, InSlot, reader, log_from, parts_from, update_read}

-- Where a transaction's updates are read from, in a log read from a position on: from the k-th position noted all but the first 128 * k.
pub record Noted (number : ℕ) (log : ℕ → Scan) (from : ℕ) (r : Notes) : Type 0 where
  pub starts : r.from ≡ from
  pub all : r.count ≡ length (positions_in number (log from))
  pub behind : (k : ℕ) → 128 * k < r.count → from ≤ get_or r.at k 0
  pub each : (k : ℕ) → 128 * k < r.count → positions_in number (log (get_or r.at k 0)) ≡ drop (128 * k) (positions_in number (log from))

-- the malformed record, if it is that
abbrev pub fault_of : {A : Type 0} → Result A BadRecord → Option BadRecord
fault_of (Ok x) = None
fault_of (Err bad) = Some bad

-- What is found in a disk's log from a position on: the first malformed record; and if there is none, the words of a transaction's
-- updates, and where they are read from.
pub record FoundFrom (s : Sizes) (l : Logs) (disk number from : ℕ) (logs work : List ℕ) (r : Result Found BadRecord) : Type 0 where
  pub fault : fault_of r ≡ fault_in disk (parts_from s l disk logs work from) None
  pub words : (f : Found) → r ≡ Ok f → f.words ≡ update_words (updates_in number (log_from s l disk logs work from))
  pub noted : (f : Found) → r ≡ Ok f → Noted number (scan s (reader s l disk logs work) (end_of l disk)) from f.notes

-- what stands at positions, the last of them first
unfoldable pub last_first : (ℕ → Update) → List ℕ → List Update
last_first at [] = []
last_first at (p ∷ ps) = last_first at ps ++ at p ∷ []

-- At a position stands an update of a slot of the sizes, and its record ends within the log.
pub record Standing (s : Sizes) (read : ℕ → ℕ) (stop p : ℕ) : Type 0 where
  pub slotted : InSlot s (page_field (read p)) (slot_field (read p)) (width_field (read p))
  pub inside : p + 3 + width_field (read p) ≤ stop

-- Updates stand at positions of a log, and there is room for what takes them back: no word that it writes is one of theirs.
pub record Takeable (s : Sizes) (l : Logs) (disk : ℕ) (ps pages logs work : List ℕ) : Type 0 where
  pub serving : Serving s l disk logs work
  pub page_words_lem : length pages ≡ total s
  pub stands : (p : ℕ) → Memᴰ p ps → Standing s (reader s l disk logs work) (end_of l disk) p
  pub ring : (p : ℕ) → Memᴰ p ps
      → end_of l disk + update_words (last_first (update_read (reader s l disk logs work)) ps) ≤ p + ring_of s disk
  pub in_limit : end_of l disk + update_words (last_first (update_read (reader s l disk logs work)) ps) ≤ limit
