-- The room rule of one disk's numbers, and the disk with the fewest started blocks.
use mathlib.Core.Path.{◌≡◌, refl, sym, ap, ◌∙◌}
use mathlib.Core.Bool.{Bool, true, false, cond, ◌&&◌, ◌||◌, and-true, and-false}
use mathlib.Core.List.{List}
use Prim.Native.Nat.{ℕ, ◌+◌, ◌-◌, ◌≤◌, ◌<◌, min}
use native.Mathlib.Omega.{arith}
use native.Mathlib.Numerals.{add-one}
use native.Mathlib.Decide.{dec_le}
use lib.Dec.{leb, ltb, eqb}
use lib.ListN.{get_or}
use borrow.Author.Tests.{le-leb, lt-leb, ne_eqb}
use Rattle.model.specs.declared.Core.{Core}
use Rattle.model.specs.declared.Logs.{Logs}
use Rattle.model.specs.Sizes.{ring_of}
use Rattle.model.specs.State.{limit, start_of, kept_of, tail_of, fill_of, end_of, reserved_on}
use Rattle.model.specs.Classes.{in_set, set_for}
use Rattle.model.specs.Room.{has_room, started_blocks, load_of, no_disk, better, idlest_below, eligible, idlest}
use Rattle.table.specs.Parts.{cap, sums_of, core_of, room_for, idlest_in}

-- what ends above the limit has no room
pub no_room : (start end reserved ring need : ℕ) → limit < end + reserved + need → false ≡ room_for start end reserved ring need
unfolding room_for
no_room start end reserved ring need h =
    rw (lt-leb (end + reserved + need) limit h) (sym (and-false (leb (end - start + reserved + need) ring)))

-- and what does not, has it where the ring has
pub room_by_ring : (start end reserved ring need : ℕ) → end + reserved + need ≤ limit
    → leb (end - start + reserved + need) ring ≡ room_for start end reserved ring need
unfolding room_for
room_by_ring start end reserved ring need h =
    rw (le-leb (end + reserved + need) limit h) (sym (and-true (leb (end - start + reserved + need) ring)))

-- the room that is left for nothing more
pub room_none : (start end reserved ring : ℕ)
    → (leb (end - start + reserved) ring && leb (end + reserved) limit) ≡ room_for start end reserved ring 0
unfolding room_for
room_none start end reserved ring =
    let near : end - start + reserved + 0 ≡ end - start + reserved = omega arith in
    let far : end + reserved + 0 ≡ end + reserved = omega arith in
    rw (near, far)

-- a sum that is capped above the limit is told from none that has room
pub counted_capped : (a b : Bool) (start end kept sum ring : ℕ)
    → (eqb kept (min cap sum) && a && b && room_for start end kept ring 0) ≡ (eqb kept sum && a && b && room_for start end kept ring 0)
counted_capped a b start end kept sum ring =
    elim (dec_le kept limit) [
      | yes h ↦ ap (λ (t : Bool). t && a && b && room_for start end kept ring 0) (small h)
      | no h ↦
          rw (← no_room start end kept ring 0 (omega arith)) (and-false (eqb kept (min cap sum) && a && b) ∙ sym (and-false (eqb kept sum && a && b)))
    ]
  where
    small : kept ≤ limit → eqb kept (min cap sum) ≡ eqb kept sum
    small h =
        elim (dec_le sum cap) [
          | yes k ↦ (let e : min cap sum ≡ sum = omega arith in rw e)
          | no k ↦ ne_eqb kept (min cap sum) (λ e. omega arith) ∙ sym (ne_eqb kept sum (λ e. omega arith))
        ]

-- The room rule of a disk of a state is that of its numbers.
pub room_here : (c : Core) (need d : ℕ)
    → room_for (start_of c.logs d) (end_of c.logs d) (reserved_on c.table d) (ring_of c.sizes d) need ≡ has_room c need d
unfolding has_room room_for kept_of
room_here c need d = refl

-- what `idlest` computes of one disk
pub choice_computed : (set disks ring : ℕ) (logs : Logs) (sums : List ℕ) (d : ℕ) {r : Bool}
    → r ≡ (in_set set d && room_for (get_or logs.starts d 0) (get_or logs.tails d 0 + get_or logs.fills d 0) (get_or sums d 0) ring 2)
    → r ≡ (in_set set d && has_room (core_of disks ring logs (sums_of sums)) 2 d)
unfolding has_room room_for ring_of kept_of start_of tail_of fill_of end_of reserved_on
choice_computed set disks ring logs sums d h = h

-- the choice reads no more of a state than its disks, ring, logs, the words reserved on each disk, and the set of the class
pub idlest_parts : (c : Core) (class : ℕ)
    → idlest_in (set_for c.classes class) (core_of c.sizes.disks c.sizes.ring c.logs (sums_of c.table.sums)) ≡ idlest c class 2
unfolding idlest_in idlest eligible has_room ring_of reserved_on
idlest_parts c class = refl

-- The better of two disks, where the load is asked before the room. One that may not be chosen is not.
pub barred_left : (room : Bool) (load : ℕ → ℕ) (disk best : ℕ) → room ≡ false → best ≡ better room load disk best
barred_left room load disk best none = rw none refl

module _ (room : Bool) (load : ℕ → ℕ) (disk best : ℕ) {idler : Bool} (asked : idler ≡ (eqb best no_disk || ltb (load disk) (load best))) where
  pub busier_left : idler ≡ false → best ≡ better room load disk best
  busier_left left = rw (← asked, left, and-false room) refl

  pub idler_taken : idler ≡ true → {there : Bool} → there ≡ room → cond there disk best ≡ better room load disk best
  idler_taken taken same = rw (← asked, taken, and-true room, same) refl

-- one disk more
pub idlest_step : (eligible : ℕ → Bool) (logs : Logs) (n best r : ℕ) (room : Bool) → best ≡ idlest_below eligible (load_of logs) n
    → room ≡ eligible n → r ≡ better room (λ d. started_blocks (get_or logs.fills d 0)) n best
    → r ≡ idlest_below eligible (load_of logs) (n + 1)
unfolding idlest_below load_of fill_of
idlest_step eligible logs n best r room e q h = rw (h, q, e, add-one n)
