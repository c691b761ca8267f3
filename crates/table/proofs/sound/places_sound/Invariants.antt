-- `table::sound::places_sound` meets its contract: the places passed are sound, and the sums are over them. Assumes nothing.
use Prim.Native.Nat.{ℕ, ◌<◌, min}
use mathlib.Core.Bool.{true}
use mathlib.Core.Path.{◌≡◌}
use lib.ListN.{get_or}
use Rattle.model.specs.Below.{sum_below, all_below}
use Rattle.model.specs.State.{place_sound}
use Rattle.model.proofs.Reserved.{reserved_by}
use Rattle.table.specs.Parts.{cap, logs_of, entries_of, table_of, core_of}
use Rattle.table.proofs.sound.places_sound.Given as goal

abbrev pub invariant-loop-i : goal.invariant-loop-i
invariant-loop-i l = (all_below (place_sound (core_of l.disks 0 (logs_of l.starts l.tails l.fills) (entries_of l.numbers l.homes l.firsts l.reserved))) l.i ≡ true)
    × ((d : ℕ) → d < 8 → get_or l.sums d 0 ≡ min cap (sum_below (reserved_by (table_of l.numbers l.homes l.reserved) d) l.i))
