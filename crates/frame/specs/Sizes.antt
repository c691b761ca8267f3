-- The sizes as the head of the work memory has them.
use Rattle.std.specs.Prelude.{List, cond, ◌&&◌, ℕ, eqb, Option, Some, None}
use Rattle.model.specs.declared.Sizes.{Sizes}
use Rattle.model.specs.Word.{part}
use Rattle.model.specs.Sizes.{total, sizes_in_bounds}
use Rattle.model.specs.View.{head_slots, head_widths}

unfoldable pub sizes_at : (pages disks ring : ℕ) → (work : List ℕ) → Sizes
sizes_at pages disks ring work =
    record { pages = pages; disks = disks; ring = ring; slots = part head_slots 64 work; widths = part head_widths 64 work }

-- Sizes tested, T with them; and handed out where they pass.
abbrev pub tested : Sizes → (words : ℕ) → Option Sizes
tested s words = cond (sizes_in_bounds s && eqb words (total s)) (Some s) None
