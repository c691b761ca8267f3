-- A log's extent, and what the readers answer of it.
use mathlib.Core.Path.{◌≡◌}
use mathlib.Core.List.{List, []}
use Prim.Native.Nat.{ℕ, ◌+◌, ◌≤◌, ◌<◌}
use native.Mathlib.Omega.{arith}
use lib.ListN.{length}
use Rattle.model.specs.declared.Core.{Core}
use Rattle.model.specs.declared.Fate.{Fate}
use Rattle.model.specs.declared.Decoded.{Decoded}
use Rattle.model.specs.declared.Decoded.TheVariants.{Change}
use Rattle.model.specs.Sizes.{slot_base}
use Rattle.model.specs.World.{World}
use Rattle.model.specs.Decode.{read_log, decode_at}
use Rattle.model.specs.Scan.{scan, fate_in}
use Rattle.model.specs.State.{tail_of}
use Rattle.model.specs.Restart.{position_of, read_disk, next_record}
use Rattle.model.proofs.Decode.{ChangeAt, found_change}
use Rattle.model.proofs.Geometry.{slot_end_total}
use Rattle.disk_log.specs.declared.read.Extent.{Extent}
use Rattle.disk_log.specs.Reading.{LiesAt, extent_of, Readable}
use Rattle.disk_log.proofs.Ready.{readable, read_there}
use Rattle.replay.specs.Step.{OnLog}
use Rattle.replay.proofs.Facts.{sizes_bounded, tail_low}

module _ {c : Core} {disk : ℕ} {pages logs : List ℕ} (on : OnLog c disk pages logs) where
  module _ {e : Extent} (is : e ≡ extent_of c.sizes disk (tail_of c.logs disk) (tail_of c.logs disk)) where
    pub log_readable : Readable e logs []
    log_readable =
        rw is
        (readable c.sizes (sizes_bounded c on.replays) logs disk (tail_of c.logs disk) [] (tail_of c.logs disk) on.log_words_lem
        on.disk_in (omega arith) (omega (arith, tail_low)))

    pub decoded_there : (p : ℕ) {r : Decoded}
        → ((d : ℕ) → LiesAt c.sizes d e.place e.ring → r ≡ decode_at c.sizes (read_log c.sizes logs d e.tail []) e.end p)
        → r ≡ decode_at c.sizes (read_log c.sizes logs disk (tail_of c.logs disk) []) (tail_of c.logs disk) p
    decoded_there p = read_there _ _ _ _ is logs [] (λ read stop. decode_at c.sizes read stop p)

    pub fate_there : (p number : ℕ) {r : Fate}
        → ((d : ℕ) → LiesAt c.sizes d e.place e.ring
        → r ≡ fate_in number (scan c.sizes (read_log c.sizes logs d e.tail []) e.end p))
        → r ≡ fate_in number (scan c.sizes (read_log c.sizes logs disk (tail_of c.logs disk) []) (tail_of c.logs disk) p)
    fate_there p number = read_there _ _ _ _ is logs [] (λ read stop. fate_in number (scan c.sizes read stop p))

  -- A change found there: its slot is one of the pages', and its difference ends within the log.
  module _ (w : World) {kind page slot number copy width next : ℕ} (e : next_record c w disk ≡ Change kind page slot number copy width next) where
    pub found : ChangeAt c.sizes (tail_of c.logs disk) (position_of c disk) kind page slot number width next
    unfolding next_record
    found = found_change c.sizes (read_disk c w disk) (tail_of c.logs disk) e

    pub slot_place_lem : (page < 64) × (slot < 65536)
    slot_place_lem = (found.page_lt, omega (arith, found.slot_lt))

    pub slot_fits_lem : {at : ℕ} → at ≡ slot_base c.sizes page slot → at + width ≤ length pages
    slot_fits_lem s = omega (arith, s, slot_end_total c.sizes page slot found.page_in found.slot_in, found.width_eq, on.page_words_lem)

    pub difference_ends : position_of c disk + 3 + width ≤ tail_of c.logs disk
    difference_ends = omega (arith, found.next_eq, found.next_le)
