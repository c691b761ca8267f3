-- 01, "Turned away": one definition for the cause of each row, shared by all the calls that check it. Row 14, "no log room (begin: on
-- no disk)", is `has_room` and `idlest` (specs/Room.antt), of its class's set by 02; row 15, "an end call while items remain, or a step where none remain",
-- `lowest_to_copy` and `remaining` (specs/Checkpoint.antt, specs/Restart.antt); row 16, "list longer than the allowance", `finishes`.
use Rattle.std.specs.Prelude.{ℕ, zero, suc, ◌+◌, List, [], ◌∷◌, Bool, true, false, not, ◌&&◌, ◌||◌, length, get_or, leb, ltb, eqb, Some, None, Option}
use Rattle.model.specs.declared.Stage.{Stage}
use Rattle.model.specs.declared.Stage.TheVariants.{Shut, Replaying, Open, Copying}
use Rattle.model.specs.declared.Sizes.{Sizes}
use Rattle.model.specs.declared.Core.{Core}
use Rattle.model.specs.declared.BadRecord.{BadRecord}
use Rattle.model.specs.Below.{first_below}
use Rattle.model.specs.Sizes.{slots_in, width_in, ring_of, tail_word, sizes_in_bounds}
use Rattle.model.specs.Anchor.{anchor_words, epoch_on, start_on}
use Rattle.model.specs.Decode.{read_log}
use Rattle.model.specs.Scan.{Scan, scan, fault_in}
use Rattle.model.specs.World.{World}
use Rattle.model.specs.Memory.{owner_of, lengths_right}
use Rattle.model.specs.State.{places, limit, in_table, is_open, place_of, slot_place}
use Rattle.model.specs.Refusal.{Row}

-- the stages that a call is for
abbrev pub when_shut : Stage → Bool
when_shut Shut = true
when_shut Replaying = false
when_shut Open = false
when_shut Copying = false

abbrev pub when_replaying : Stage → Bool
when_replaying Shut = false
when_replaying Replaying = true
when_replaying Open = false
when_replaying Copying = false

abbrev pub when_open : Stage → Bool
when_open Shut = false
when_open Replaying = false
when_open Open = true
when_open Copying = false

abbrev pub when_copying : Stage → Bool
when_copying Shut = false
when_copying Replaying = false
when_copying Open = false
when_copying Copying = true

abbrev pub when_serving : Stage → Bool
when_serving Shut = false
when_serving Replaying = false
when_serving Open = true
when_serving Copying = true

-- 1. "stage does not allow the call". A state that no call made is in no stage: `fits` is what the call tests of it (specs/Reads.antt).
abbrev pub forbids : (Stage → Bool) → (fits : Bool) → Stage → Bool
forbids allowed fits stage = not (allowed stage && fits)

unfoldable pub stage_forbids : (Stage → Bool) → (fits : Bool) → Core → Bool
stage_forbids allowed fits c = forbids allowed fits c.stage

-- 2. "anchor is not 148 words"
unfoldable pub anchor_wrong : (anchor : List ℕ) → Bool
anchor_wrong anchor = not (eqb (length anchor) anchor_words)

-- 3. "c is 0 (restart begin)"
unfoldable pub unformatted : (anchor : List ℕ) → Bool
unformatted anchor = eqb (epoch_on anchor) 0

-- 4. "sizes or arrays out of bounds, or page entries from P on not 0"
unfoldable pub sizes_wrong : Sizes → Bool
sizes_wrong s = not (sizes_in_bounds s)

-- 5. "another lent slice has the wrong length"
unfoldable pub lengths_wrong : Sizes → (t : ℕ) → World → Bool
lengths_wrong s t w = not (lengths_right s t w)

-- 6. "tail below start, more than W above it, or above 2^62"; returned: "lowest such disk". `start` gives each disk's start,
-- the current row's in a restart: a parameter, so that logs can be read from the older row's.
unfoldable pub tail_in : Sizes → (logs : List ℕ) → ℕ → ℕ
tail_in s logs disk = get_or logs (tail_word s disk) 0

unfoldable pub tail_wrong : Sizes → (start : ℕ → ℕ) → (logs : List ℕ) → ℕ → Bool
tail_wrong s start logs disk =
    let tail : ℕ = tail_in s logs disk in
    ltb tail (start disk) || ltb (start disk + ring_of s disk) tail || ltb limit tail

unfoldable pub wrong_tail : Sizes → (start : ℕ → ℕ) → (logs : List ℕ) → ℕ
wrong_tail s start logs = first_below (tail_wrong s start logs) s.disks

abbrev pub tail_row : Sizes → (start : ℕ → ℕ) → (logs : List ℕ) → Row
tail_row s start logs =
    record { number = 6; applies = ltb (wrong_tail s start logs) s.disks; first = wrong_tail s start logs; second = 0 }

-- 7. "retained record malformed": "The words from the current start up to the tail, tail excluded, are the retained log."
unfoldable pub retained_from : Sizes → (start : ℕ → ℕ) → (logs : List ℕ) → ℕ → Scan
retained_from s start logs disk =
    let tail : ℕ = tail_in s logs disk in
    scan s (read_log s logs disk tail []) tail (start disk)

-- of n disks from `disk` on: "lowest disk, first position there" (fault_lowest, fault_none in proofs/Faults.antt)
unfoldable pub fault_from : Sizes → (start : ℕ → ℕ) → (logs : List ℕ) → ℕ → ℕ → Option BadRecord
fault_from s start logs zero disk = None
fault_from s start logs (suc n) disk = fault_in disk (retained_from s start logs disk) (fault_from s start logs n (disk + 1))

-- the tail and the retained log of a world
abbrev pub tail_on : Sizes → World → ℕ → ℕ
tail_on s w = tail_in s w.logs

abbrev pub retained : Sizes → World → ℕ → Scan
retained s w = retained_from s (start_on w.anchor) w.logs

abbrev pub fault_row : Option BadRecord → Row
fault_row None = record { number = 7; applies = false; first = 0; second = 0 }
fault_row (Some bad) = record { number = 7; applies = true; first = bad.disk; second = bad.position }

-- rows 6 and 7 of all disks
abbrev pub log_rows : Sizes → (start : ℕ → ℕ) → (logs : List ℕ) → List Row
log_rows s start logs = tail_row s start logs ∷ fault_row (fault_from s start logs s.disks 0) ∷ []

-- 8. "page, slot or source number too large"
unfoldable pub slot_missing : Sizes → ℕ → ℕ → Bool
slot_missing s page slot = leb s.pages page || leb (slots_in s page) slot

unfoldable pub source_missing : Sizes → ℕ → Bool
source_missing s source = ltb s.disks source

-- 9. "transaction not open (reader 0 excepted)"
unfoldable pub not_open : Core → ℕ → Bool
not_open c number = not (is_open c.table number)

unfoldable pub reader_not_open : Core → ℕ → Bool
reader_not_open c reader = not (eqb reader 0) && not_open c reader

-- 10. "value is not the slot's length"
unfoldable pub value_wrong : Sizes → ℕ → List ℕ → Bool
value_wrong s page value = not (eqb (length value) (width_in s page))

-- 11. "slot held by another transaction": "A held slot answers 11 to all but its holder.". A slot is held while its owner is in
-- the table, so closing a transaction releases its slots.
unfoldable pub locked : Core → World → ℕ → ℕ → ℕ → Bool
locked c w number page slot =
    in_table c.table owner && not (eqb owner number)
  where
    owner : ℕ
    owner = owner_of c.sizes w.work (slot_place c page slot)

-- 12. "sixteen already open"
unfoldable pub table_full : Core → Bool
table_full c = leb places (place_of c.table 0)

-- 13. "c is 2^62 or more (checkpoint begin, restart begin), or the next number is (begin)"
unfoldable pub spent : ℕ → Bool
spent n = leb limit n
