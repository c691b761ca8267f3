-- A log that is read by ring index: the words of a disk's ring are handed in, not the logs and the disk.
use Rattle.std.specs.Prelude.{ℕ, ◌+◌, ◌%◌, ◌^◌, ◌≤◌, ◌<◌, ◌≡◌, List, true, length, get_or}
use Rattle.model.specs.declared.Sizes.{Sizes}
use Rattle.model.specs.Word.{part}
use Rattle.model.specs.Sizes.{ring_of, disk_at, sizes_in_bounds}

-- the word of position p in a ring; of a disk's ring, below the tail, it is readLog's (ring_read in proofs/Rings.antt)
unfoldable pub read_ring : List ℕ → ℕ → ℕ
read_ring ring p = get_or ring (p % length ring) 0

-- the words of a disk's ring
unfoldable pub ring_at : Sizes → List ℕ → ℕ → List ℕ
ring_at s logs disk = part (disk_at s disk + 1) (ring_of s disk) logs

-- A ring and its log's tail. The longest record has 35 words: a record's words lie at as many places.
pub record Ring (ring : List ℕ) (tail : ℕ) : Type 0 where
  pub ring_min : 35 ≤ length ring
  pub ring_max : length ring ≤ 65536
  pub tail_low : tail ≤ 2 ^ 63

-- p lies below the tail, and `at` is its ring word.
pub record InRing (ring : List ℕ) (tail p at : ℕ) : Type 0 where
  pub before_tail : p < tail
  pub at_is : at ≡ p % length ring

-- the two arrays are those of sizes in bounds
pub record EntriesOf (s : Sizes) (slots widths : List ℕ) : Type 0 where
  pub bounds : sizes_in_bounds s ≡ true
  pub same_slots : s.slots ≡ slots
  pub same_widths : s.widths ≡ widths

-- and there are such sizes
pub record Entries (slots widths : List ℕ) : Type 0 where
  pub sizes : Sizes
  pub are : EntriesOf sizes slots widths
