-- 01, "Devices": the anchor's 148 words, both rows of starts, and which row and backup are current.
use Rattle.std.specs.Prelude.{ℕ, ◌+◌, ◌*◌, ◌%◌, List, get_or}
use Rattle.model.specs.declared.Sizes.{Sizes}
use Rattle.model.specs.Word.{part}
use Rattle.model.specs.Sizes.{total}

abbrev pub anchor_words : ℕ
anchor_words = 148

-- "word 0 the number of pages P (1 to 64), 1 the number of log disks D (1 to 8), 2 the ring size W (128 to 65,536), 3 the
-- checkpoint number c, 0 for unformatted"
abbrev pub epoch_word : ℕ
epoch_word = 3

unfoldable pub epoch_on : List ℕ → ℕ
epoch_on anchor = get_or anchor epoch_word 0

-- "Then two parallel arrays of 64: slots in each page (1 to 128) and words in each slot of that page (1 to 32)"
abbrev pub slots_at : ℕ
slots_at = 4

abbrev pub widths_at : ℕ
widths_at = 68

unfoldable pub sizes_on : List ℕ → Sizes
sizes_on anchor =
    record { pages = get_or anchor 0 0; disks = get_or anchor 1 0; ring = get_or anchor 2 0; slots = part slots_at 64 anchor; widths = part widths_at 64 anchor }

-- "Then two arrays of 8: row 0 and row 1, the log starts": where checkpoint c keeps the start of a disk
abbrev pub rows_at : ℕ
rows_at = 132

unfoldable pub start_word : ℕ → ℕ → ℕ
start_word c disk = rows_at + 8 * (c % 2) + disk

-- "Row c mod 2 is the current one."
unfoldable pub start_on : List ℕ → ℕ → ℕ
start_on anchor disk = get_or anchor (start_word (epoch_on anchor) disk) 0

-- "The backups have 2 × T words, backup 0 first; backup c mod 2 is current.": where checkpoint c keeps the pages
unfoldable pub backup_at : Sizes → ℕ → ℕ
backup_at s c = c % 2 * total s
