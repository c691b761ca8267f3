-- What the calls test of a state (model's specs/Reads.antt), by its numbers: each is model's test where the numbers
-- are a state's (proofs/Fitting.antt).
use Rattle.std.specs.Prelude.{Bool, ◌&&◌, ℕ, ◌+◌, ◌*◌, leb, ltb}
use Rattle.model.specs.Below.{within}
use Rattle.model.specs.Sizes.{counts_in_bounds}
use Rattle.model.specs.State.{limit}
use Rattle.layout.specs.Raw.{counts_of}

-- P, D, W and T
unfoldable pub counts_within : (pages disks ring t : ℕ) → Bool
counts_within pages disks ring t = counts_in_bounds (counts_of pages disks ring) && leb t 8192

-- a page of so many slots of this width from word `base` on: it has a slot, and lies within T
unfoldable pub page_within : (slots width base t : ℕ) → Bool
page_within slots width base t =
    within 1 128 slots && within 1 32 width && leb (slots * width) 128 && leb (base + slots * width) t

-- a transaction with these reserved words, on a disk with this tail, fill and sum of reserved words
unfoldable pub place_within : (disks disk tail fill reserved sum : ℕ) → Bool
place_within disks disk tail fill reserved sum =
    ltb disk disks && leb fill 64 && leb 2 reserved && leb reserved sum && leb (tail + fill + sum) limit
