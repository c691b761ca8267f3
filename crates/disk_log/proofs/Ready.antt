-- What the checks of a call give the readers: logs of the right length, tails within bounds.
use Prim.Native.Nat.{ℕ, ◌+◌, ◌^◌, ◌≤◌, ◌<◌}
use mathlib.Core.Path.{◌≡◌, refl}
use mathlib.Core.List.{List}
use native.Mathlib.Omega.{arith}
use lib.ListN.{length}
use Rattle.model.specs.declared.Sizes.{Sizes}
use Rattle.model.specs.Sizes.{ring_of, disk_at, tail_word, log_words}
use Rattle.model.specs.Decode.{read_log}
use Rattle.model.specs.State.{limit}
use Rattle.model.specs.Causes.{tail_in}
use Rattle.model.proofs.Bounds.{Bounded, in_bounds}
use Rattle.model.proofs.Ring.{disk_within}
use Rattle.disk_log.specs.declared.read.Extent.{Extent}
use Rattle.disk_log.specs.Reading.{LiesAt, extent_of, OfDisk, Readable, Checkable}

-- An extent that a function answered is that of the disk.
module _ (s : Sizes) (disk tail stop : ℕ) {e : Extent} (is : e ≡ extent_of s disk tail stop) where
  pub lies_there : LiesAt s disk e.place e.ring
  unfolding extent_of
  lies_there = rw is (record { same_place = refl; same_ring = refl })

  pub disk_there : OfDisk s e
  disk_there = record { disk = disk; lies = lies_there }

  pub tail_there : e.tail ≡ tail
  unfolding extent_of
  tail_there = rw is refl

  pub end_there : e.end ≡ stop
  unfolding extent_of
  end_there = rw is refl

  -- what a reader answered of the extent, it answered of the disk's log
  pub read_there : (logs buffer : List ℕ) {A : Type 0} {r : A} (f : (ℕ → ℕ) → ℕ → A)
      → ((d : ℕ) → LiesAt s d e.place e.ring → r ≡ f (read_log s logs d e.tail buffer) e.end)
      → r ≡ f (read_log s logs disk tail buffer) stop
  read_there logs buffer f read = rw (tail_there, end_there) at (read disk lies_there)

module _ (s : Sizes) (b : Bounded s) where
  pub readable : (logs : List ℕ) (disk tail : ℕ) (buffer : List ℕ) (stop : ℕ) → length logs ≡ log_words s → disk < s.disks
      → stop ≤ tail + length buffer → stop ≤ 2 ^ 63 → Readable (extent_of s disk tail stop) logs buffer
  unfolding extent_of log_words disk_at ring_of
  readable logs disk tail buffer stop right below le low =
      record {
        ring_pos = omega (arith, b.ring_min);
        ring_fits = omega (arith, disk_within s disk below);
        end_le = le;
        end_low = low;
      }

  pub checkable : (logs : List ℕ) → length logs ≡ log_words s → ((d : ℕ) → d < s.disks → tail_in s logs d ≤ limit) → Checkable s logs
  unfolding tail_word tail_in
  checkable logs right tails =
      record {
        bounds = in_bounds s b;
        logs_length = omega arith;
        tails_low = λ d below. omega (arith, tails d below);
      }
