-- 01, "Devices": the sizes, their bounds, and where pages, slots, tails and ring words lie.
use Rattle.std.specs.Prelude.{ℕ, ◌+◌, ◌*◌, ◌%◌, Bool, cond, ◌&&◌, length, get_or, leb, ltb, eqb}
use Rattle.model.specs.declared.Sizes.{Sizes}
use Rattle.model.specs.Below.{within, sum_below, all_below}

-- "slots in each page" and "words in each slot of that page"
unfoldable pub slots_in : Sizes → ℕ → ℕ
slots_in s page = get_or s.slots page 0

unfoldable pub width_in : Sizes → ℕ → ℕ
width_in s page = get_or s.widths page 0

unfoldable pub page_words : Sizes → ℕ → ℕ
page_words s page = slots_in s page * width_in s page

-- "the pages in order, each its slots in order": the first word of a page and of a slot, and T
unfoldable pub page_base : Sizes → ℕ → ℕ
page_base s page = sum_below (page_words s) page

unfoldable pub slot_base : Sizes → ℕ → ℕ → ℕ
slot_base s page slot = page_base s page + slot * width_in s page

unfoldable pub total : Sizes → ℕ
total s = page_base s s.pages

-- "for each disk the tail, then the ring. Position p lies at ring word p mod W". Every disk has W words now; whoever asks for a
-- disk's ring size or place asks here, so that disks may come to differ.
unfoldable pub ring_of : Sizes → ℕ → ℕ
ring_of s disk = s.ring

unfoldable pub disk_at : Sizes → ℕ → ℕ
disk_at s disk = disk * (s.ring + 1)

unfoldable pub tail_word : Sizes → ℕ → ℕ
tail_word s disk = disk_at s disk

unfoldable pub ring_word : Sizes → ℕ → ℕ → ℕ
ring_word s disk p = disk_at s disk + 1 + p % ring_of s disk

-- "D × (W + 1) words"
unfoldable pub log_words : Sizes → ℕ
log_words s = disk_at s s.disks

-- "slots in each page (1 to 128) and words in each slot of that page (1 to 32), their product at most 128; entries from P on are 0"
unfoldable pub used_entry : Sizes → ℕ → Bool
used_entry s page = within 1 128 (slots_in s page) && within 1 32 (width_in s page) && leb (page_words s page) 128

unfoldable pub unused_entry : Sizes → ℕ → Bool
unused_entry s page = eqb (slots_in s page) 0 && eqb (width_in s page) 0

unfoldable pub entry_in_bounds : Sizes → ℕ → Bool
entry_in_bounds s page = cond (ltb page s.pages) (used_entry s page) (unused_entry s page)

-- "the number of pages P (1 to 64)", "the number of log disks D (1 to 8)", "the ring size W (128 to 65,536)"
unfoldable pub counts_in_bounds : Sizes → Bool
counts_in_bounds s = within 1 64 s.pages && within 1 8 s.disks && within 128 65536 s.ring

-- and "two parallel arrays of 64"
unfoldable pub sizes_in_bounds : Sizes → Bool
sizes_in_bounds s =
    counts_in_bounds s && eqb (length s.slots) 64 && eqb (length s.widths) 64
    && all_below (entry_in_bounds s) 64
