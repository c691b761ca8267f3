-- Begin, update and commit hand back a state that passes the first test.
use mathlib.Core.Path.{◌≡◌, refl, sym, ◌∙◌}
use mathlib.Core.List.{List}
use mathlib.Core.Bool.{Bool, true, false, cond}
use Prim.Native.Nat.{ℕ, ◌+◌, ◌-◌, ◌*◌, ◌≤◌, ◌<◌}
use native.Mathlib.Omega.{arith}
use lib.ListN.{length}
use Rattle.model.specs.declared.Logs.{Logs}
use Rattle.model.specs.declared.Core.{Core}
use Rattle.model.specs.Sizes.{width_in}
use Rattle.model.specs.Record.{close, encode, words_of, update_kind, commit_kind}
use Rattle.model.specs.World.{World}
use Rattle.model.specs.State.{start_of, end_of, place_of, is_open, first_at, reserved_at, reserved_on, with_log, without, has_update, serving_sound, sound}
use Rattle.model.specs.Room.{idlest}
use Rattle.model.specs.Refusal.{accepted, verdict}
use Rattle.model.specs.Causes.{when_serving}
use Rattle.model.specs.Append.{append}
use Rattle.model.specs.Transaction.{disk_of, begin_rows, begun, begin_task, slot_words, update_record, updated, update_rows, update_task, commit_rows, commit_task}
use Rattle.model.proofs.Xor.{length_xors}
use Rattle.model.proofs.RecordSizes.{words_change}
use Rattle.model.proofs.Bounds.{bounded}
use Rattle.model.proofs.Store.Rows.{serving_sound_lem, sizes_sound, next_sound, disk_sound_lem}
use Rattle.model.proofs.Sound.Test.{Sized, Passing}
use Rattle.model.proofs.SetPlace.{sized_put}
use Rattle.model.proofs.Places.{open_place, place_holds}
use Rattle.model.proofs.Reserved.{reserved_by, free_by, other_by}
use Rattle.model.proofs.Sound.Serving.{entry_sound_lem}
use Rattle.model.proofs.Growth.{tail_end, Longer, longer_none, longer_then, flush_longer, append_longer}
use Rattle.model.proofs.Store.Accepted.{room_found, room_none, small_buffers, disks_max, OpenPlace, open_entry, open_below, Committing, eligible_room, begin_accepted, update_accepted, commit_accepted, Room}

-- Begin: two words more are reserved on the chosen disk, which has room for them.
pub begin_passes : (c : Core) (w : World) (class : ℕ) → Sized c → sound c ≡ true → verdict (begin_rows c w class) ≡ accepted → Passing (begin_task c w class).core
unfolding begin_task begun
begin_passes c w class sized s ok =
    let a = begin_accepted c w class ok in
    let good = serving_sound_lem c a.serving s in
    let disk = a.chosen (disks_max c good) in
    let place : ℕ = place_of c.table 0 in
    let unused : (e : ℕ) → reserved_by c.table e place ≡ 0 = λ e. free_by c.table e place (place_holds c.table 0 a.free) in (
      record {
        logs = sized.logs;
        table = sized_put c.table sized.table (place_of c.table 0) c.next (idlest c class 2) 0 2 (idlest c class 2) (reserved_on c.table (idlest c class 2) + 2) a.free;
        ends = sized.ends;
        positions = sized.positions;
      },
      entry_sound_lem c a.serving s sized (idlest c class 2) 0 c.logs disk.below
          (longer_none c.logs sized.logs (small_buffers c good)) (place_of c.table 0) a.free c.next (idlest c class 2)
          0 2 (reserved_on c.table (idlest c class 2) + 2) (c.next + 1) 2 (room_found c 2 (idlest c class 2) (eligible_room c class 2 (idlest c class 2) disk.passes)) (omega arith)
          (λ e ne. unused e) (λ none. absurd (omega (arith, next_sound c good)))
          (λ some. record { home = refl; closing = omega arith; inside = λ more. absurd (omega arith) })
          (omega (arith, unused (idlest c class 2))) (omega arith),
    )

-- Update: its record goes to the log, and as many words are reserved to take it back.
-- the words of an update record, at most those that its room was found for
update_words_lem : (c : Core) (w : World) (number page slot : ℕ) (value : List ℕ) → length value ≡ width_in c.sizes page
    → length (encode (update_record c w number page slot value)) ≤ words_of update_kind (width_in c.sizes page)
unfolding encode update_record
update_words_lem c w number page slot value long =
    omega (arith, length_xors (slot_words c w page slot) value, words_change update_kind (width_in c.sizes page) (omega arith))

short_words : (c : Core) (page : ℕ) → serving_sound c ≡ true → page < c.sizes.pages → words_of update_kind (width_in c.sizes page) ≤ 35
short_words c page ok h =
    omega (arith, words_change update_kind (width_in c.sizes page) (omega arith), ((bounded c.sizes (sizes_sound c ok)).used page h).width_max)

module _ (c : Core) (serving : when_serving c.stage ≡ true) (s : sound c ≡ true) (sized : Sized c) (number : ℕ)
    (o : is_open c.table number ≡ true) (r : ℕ) (l : Logs) (g : Longer c.sizes (disk_of c number) r c.logs l) where
  good : serving_sound c ≡ true
  good = serving_sound_lem c serving s

  abbrev place : ℕ
  place = place_of c.table number

  abbrev disk : ℕ
  disk = disk_of c number

  mine : OpenPlace c number
  mine = open_entry c number good o

  below : disk < c.sizes.disks
  below = open_below c number good o

  -- the first position is the old one, or the log's end where there was none
  abbrev first : ℕ
  first = cond (has_update c.table place) (first_at c.table place) (end_of c.logs disk)

  first_inside : (start_of c.logs disk ≤ first) × (first ≤ end_of c.logs disk + r)
  unfolding disk_of
  first_inside = go (has_update c.table place) refl
    where
      go : (b : Bool) → has_update c.table place ≡ b
          → (start_of c.logs disk ≤ cond b (first_at c.table place) (end_of c.logs disk))
          × (cond b (first_at c.table place) (end_of c.logs disk) ≤ end_of c.logs disk + r)
      go true e = let near = mine.sound.first e in (near.0, omega (arith, near.1))
      go false e = (omega (arith, (disk_sound_lem c disk good below).ordered, tail_end c.logs disk), omega arith)

  -- it has words reserved on its disk alone
  alone : (e : ℕ) → (e ≡ disk → ⊥) → reserved_by c.table e place ≡ 0
  unfolding disk_of
  alone e ne =
      let here = open_place c.table number o in
      other_by c.table e place (λ z. here.0 (sym (place_holds c.table number here.1) ∙ z)) (λ x. ne (sym x))

  update_entry_lem : (k : ℕ) → 2 * r ≤ k → Room c disk k → Passing (with_log c l (updated c number r))
  unfolding with_log updated
  update_entry_lem k enough room = (
    record {
      logs = g.sized;
      table = sized_put c.table sized.table place number disk first (reserved_at c.table place + r) disk (reserved_on c.table disk + r) mine.at;
      ends = sized.ends;
      positions = sized.positions;
    },
    entry_sound_lem c serving s sized disk r l below g place mine.at number disk first (reserved_at c.table place + r)
        (reserved_on c.table disk + r) c.next k room (omega (arith, mine.by)) alone (λ none. absurd ((open_place c.table number o).0 none))
        (λ some. record { home = refl; closing = omega (arith, mine.sound.reserved); inside = λ more. first_inside })
        (omega (arith, mine.by)) (next_sound c good),
  )

  -- Commit and abort: no more words are written than were reserved, and these are given back.
  pub close_passes : r ≤ reserved_at c.table (place_of c.table number) → Passing (with_log c l (without c.table number))
  unfolding with_log without disk_of
  close_passes fits = (
    record {
      logs = g.sized;
      table = sized_put c.table sized.table place 0 0 0 0 disk (reserved_on c.table disk - reserved_at c.table place) mine.at;
      ends = sized.ends;
      positions = sized.positions;
    },
    entry_sound_lem c serving s sized disk r l below g place mine.at 0 0 0 0 (reserved_on c.table disk - reserved_at c.table place)
        c.next 0 (room_none c disk (disk_sound_lem c disk good below)) (omega (arith, mine.by)) alone (λ none. refl)
        (λ some. absurd (some refl)) (omega (arith, mine.by, mine.on)) (next_sound c good),
  )

pub update_passes : (c : Core) (w : World) (number page slot : ℕ) (value : List ℕ) → Sized c → sound c ≡ true
    → verdict (update_rows c w number page slot value) ≡ accepted → Passing (update_task c w number page slot value).core
unfolding update_task
update_passes c w number page slot value sized s ok =
    let a = update_accepted c w number page slot value ok in
    let good = serving_sound_lem c a.serving s in
    let words : List ℕ = encode (update_record c w number page slot value) in
    let few = update_words_lem c w number page slot value a.width in
    let short = short_words c page good a.page_lt in
    let d : disk_of c number < 8 = omega (arith, open_below c number good a.opened, disks_max c good) in
    update_entry_lem c a.serving s sized number a.opened (length words)
    (append c.sizes c.logs w.work (disk_of c number) words).logs
    (append_longer c.sizes c.logs (disk_of c number) sized.logs (small_buffers c good) d w.work words (omega arith))
    (2 * words_of update_kind (width_in c.sizes page)) (omega arith) a.room

-- The log of its disk grows by the two words of the closing record.
pub commit_grown : (c : Core) (w : World) (number : ℕ) → Sized c → sound c ≡ true → Committing c number
    → Longer c.sizes (disk_of c number) 2 c.logs (commit_task c w number).core.logs
unfolding commit_task with_log encode
commit_grown c w number sized s a =
    let good = serving_sound_lem c a.serving s in
    let words : List ℕ = encode (close commit_kind number) in
    let d : ℕ = disk_of c number in
    let below : d < 8 = omega (arith, open_below c number good a.opened, disks_max c good) in
    let added = append_longer c.sizes c.logs d sized.logs (small_buffers c good) below w.work words (omega arith) in
    longer_then added (flush_longer c.sizes (append c.sizes c.logs w.work d words).logs d added.sized added.small below)

pub commit_passes : (c : Core) (w : World) (number : ℕ) → Sized c → sound c ≡ true → verdict (commit_rows c w number) ≡ accepted
    → Passing (commit_task c w number).core
unfolding commit_task with_log
commit_passes c w number sized s ok =
    let a = commit_accepted c w number ok in
    close_passes c a.serving s sized number a.opened 2 (commit_task c w number).core.logs (commit_grown c w number sized s a)
    (open_entry c number (serving_sound_lem c a.serving s) a.opened).sound.reserved
