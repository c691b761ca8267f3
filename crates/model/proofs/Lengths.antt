-- Lengths: what the tests of sizes and lent lists say, and which parts lie within their lists.
use mathlib.Core.Path.{◌≡◌}
use mathlib.Core.List.{List}
use mathlib.Core.Bool.{true}
use Prim.Native.Nat.{ℕ, ◌+◌, ◌*◌, ◌≤◌, ◌<◌}
use native.Mathlib.Omega.{arith}
use lib.Dec.{eqb}
use lib.ListN.{length}
use borrow.Author.Tests.{eqb-true}
use Rattle.model.specs.declared.Sizes.{Sizes}
use Rattle.model.specs.Below.{all_below}
use Rattle.model.specs.Sizes.{log_words, entry_in_bounds, counts_in_bounds, sizes_in_bounds}
use Rattle.model.specs.World.{World}
use Rattle.model.specs.Memory.{buffer_at, copy_at, owner_at, work_words, buffer_of, lengths_right}
use Rattle.model.proofs.Booleans.{all_four}
use Rattle.model.proofs.Parts.{length_part}

-- the numbers of pages, disks and ring words alone
pub counts_right : (s : Sizes) → sizes_in_bounds s ≡ true → counts_in_bounds s ≡ true
unfolding sizes_in_bounds
counts_right s h = (all_four (counts_in_bounds s) (eqb (length s.slots) 64) (eqb (length s.widths) 64) (all_below (entry_in_bounds s) 64) h).0

-- "two parallel arrays of 64"
pub arrays_right : (s : Sizes) → sizes_in_bounds s ≡ true → (length s.slots ≡ 64) × (length s.widths ≡ 64)
unfolding sizes_in_bounds
arrays_right s h =
    let entries = all_below (entry_in_bounds s) 64 in
    let four = all_four (counts_in_bounds s) (eqb (length s.slots) 64) (eqb (length s.widths) 64) entries h in
    (eqb-true _ _ four.1, eqb-true _ _ four.2)

-- the lent lists other than the anchor are as long as the sizes say; t is T
pub record Lengths (s : Sizes) (t : ℕ) (w : World) : Type 0 where
  pub pages : length w.pages ≡ t
  pub backups : length w.backups ≡ 2 * t
  pub logs : length w.logs ≡ log_words s
  pub work : length w.work ≡ work_words s t

pub lengths_right_lem : (s : Sizes) (t : ℕ) (w : World) → lengths_right s t w ≡ true → Lengths s t w
unfolding lengths_right
lengths_right_lem s t w h =
    let pages = eqb (length w.pages) t in
    let backups = eqb (length w.backups) (2 * t) in
    let logs = eqb (length w.logs) (log_words s) in
    let four = all_four pages backups logs (eqb (length w.work) (work_words s t)) h in
    record {
      pages = eqb-true _ _ four.0;
      backups = eqb-true _ _ four.1;
      logs = eqb-true _ _ four.2;
      work = eqb-true _ _ four.3;
    }

-- a disk's buffer lies within the work memory
pub buffer_fits : (s : Sizes) {t : ℕ} (w : World) (disk fill : ℕ) → Lengths s t w → disk < s.disks → fill ≤ 64
    → buffer_at disk + fill ≤ length w.work
unfolding work_words owner_at copy_at buffer_at
buffer_fits s w disk fill r d f = omega (arith, r.work)

pub length_buffer : (memory : List ℕ) (disk fill : ℕ) → buffer_at disk + fill ≤ length memory
    → length (buffer_of memory disk fill) ≡ fill
unfolding buffer_of
length_buffer memory disk fill h = length_part (buffer_at disk) fill memory h
