-- A disk of a serving state, as the functions of `log` are lent it.
use Rattle.std.specs.Prelude.{◌≡◌, List, true, ℕ, length, set}
use Rattle.model.specs.declared.Sizes.{Sizes}
use Rattle.model.specs.declared.Logs.{Logs}
use Rattle.model.specs.declared.Core.{Core}
use Rattle.model.specs.Sizes.{ring_of, disk_at, log_words}
use Rattle.model.specs.Memory.{buffer_at, work_words}
use Rattle.model.specs.State.{tail_of, fill_of, serving_sound}
use Rattle.disk_log.specs.declared.write.Home.{Home}

-- A serving state that passed the whole test, and slices of the lengths that it gives.
pub record Serves (c : Core) (logs work : List ℕ) : Type 0 where
  pub state : serving_sound c ≡ true
  pub log_words_lem : length logs ≡ log_words c.sizes
  pub work_words_lem : length work ≡ work_words c.sizes c.bases.total

unfoldable pub home_of : Sizes → Logs → ℕ → Home
home_of s l disk =
    record {
      disk = disk;
      place = disk_at s disk;
      ring = ring_of s disk;
      buffer = buffer_at disk;
      tail = tail_of l disk;
      fill = fill_of l disk;
    }

-- the logs with another tail and fill of one disk
abbrev pub with_disk : Logs → ℕ → ℕ → ℕ → Logs
with_disk l disk tail fill = record { starts = l.starts; tails = set l.tails disk tail; fills = set l.fills disk fill }
