-- Sizes by their numbers: raw ones, which are the same numbers in another width; their counts alone; and the lengths that these give.
use Rattle.std.specs.Prelude.{Bool, ◌&&◌, [], ℕ, ◌*◌, eqb}
use Rattle.model.specs.declared.Sizes.{Sizes}
use Rattle.model.specs.Sizes.{log_words}
use Rattle.model.specs.Memory.{work_words}
use Rattle.layout.specs.declared.anchor.RawSizes.{RawSizes}

abbrev pub sizes_of : RawSizes → Sizes
sizes_of r = record { pages = r.pages; disks = r.disks; ring = r.ring; slots = r.slots; widths = r.widths }

-- the arrays do not count here
abbrev pub counts_of : ℕ → ℕ → ℕ → Sizes
counts_of pages disks ring = record { pages = pages; disks = disks; ring = ring; slots = []; widths = [] }

-- the slices other than the anchor have the lengths that D, W and T give (lengths_are_lem)
unfoldable pub lengths_are : (disks ring t pages backups logs work : ℕ) → Bool
lengths_are disks ring t pages backups logs work =
    eqb pages t && eqb backups (2 * t) && eqb logs (log_words (counts_of 0 disks ring)) && eqb work (work_words (counts_of 0 disks ring) t)
