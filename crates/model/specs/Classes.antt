-- 02, S-5: which disks serve which class of transactions. "They edit a table of 1 to 16 lines: lowest class, highest class, and a set of
-- disks as an eight-bit number, disk 0 the lowest bit. Classes run from 0 to 255."
use Rattle.std.specs.Prelude.{ℕ, ◌+◌, ◌*◌, ◌/◌, ◌%◌, ◌^◌, List, Bool, cond, not, ◌||◌, length, get_or, replicate, leb, ltb, eqb}
use Rattle.model.specs.declared.Classes.{Classes}
use Rattle.model.specs.Below.{within, sum_below, list_below, first_below}

abbrev pub max_lines : ℕ
max_lines = 16

abbrev pub class_count : ℕ
class_count = 256

-- a disk belongs to a set
unfoldable pub in_set : (set disk : ℕ) → Bool
in_set set disk = eqb (set / 2 ^ disk % 2) 1

abbrev pub all_disks : ℕ
all_disks = 255

-- A table as it is lent: three words a line.
unfoldable pub low_at : (lines : List ℕ) → ℕ → ℕ
low_at lines i = get_or lines (3 * i) 0

unfoldable pub high_at : (lines : List ℕ) → ℕ → ℕ
high_at lines i = get_or lines (3 * i + 1) 0

unfoldable pub set_at : (lines : List ℕ) → ℕ → ℕ
set_at lines i = get_or lines (3 * i + 2) 0

unfoldable pub line_count : (lines : List ℕ) → ℕ
line_count lines = length lines / 3

-- 5: "no lines or more than 16", or no whole number of lines
unfoldable pub not_a_table : (lines : List ℕ) → Bool
not_a_table lines = not (eqb (length lines % 3) 0) || eqb (length lines) 0 || ltb (3 * max_lines) (length lines)

-- 17: "a line with low above high, high above 255, an empty set or a disk not below D (first such line returned, from 0)"
unfoldable pub line_wrong : (disks low high set : ℕ) → Bool
line_wrong disks low high set = ltb high low || ltb 255 high || eqb set 0 || leb (2 ^ disks) set

unfoldable pub wrong_line : (disks : ℕ) → (lines : List ℕ) → ℕ
wrong_line disks lines = first_below (λ i. line_wrong disks (low_at lines i) (high_at lines i) (set_at lines i)) (line_count lines)

-- how many lines cover a class
unfoldable pub times_covered : (lines : List ℕ) → (class : ℕ) → ℕ
times_covered lines class = sum_below (λ i. cond (within (low_at lines i) (high_at lines i) class) 1 0) (line_count lines)

-- 18: "a class not covered", 19: "one covered twice (lowest returned)"; 256 where there is none
unfoldable pub uncovered_class : (lines : List ℕ) → ℕ
uncovered_class lines = first_below (λ class. eqb (times_covered lines class) 0) class_count

unfoldable pub twice_covered : (lines : List ℕ) → ℕ
twice_covered lines = first_below (λ class. ltb 1 (times_covered lines class)) class_count

-- A table as it is kept: its lines, and zeros after the last one. "A new or restarted store has no table": zeros alone. A table that is
-- set has a first line, whose set is not empty.
abbrev pub no_classes : Classes
no_classes = record { lows = replicate max_lines 0; highs = replicate max_lines 0; sets = replicate max_lines 0 }

unfoldable pub classes_of : (lines : List ℕ) → Classes
classes_of lines = record { lows = list_below (low_at lines) max_lines; highs = list_below (high_at lines) max_lines; sets = list_below (set_at lines) max_lines }

-- the first line that covers a class: in a table that is set the only one (class_line in proofs/ClassLines.antt)
unfoldable pub line_for : Classes → (class : ℕ) → ℕ
line_for t class = first_below (λ i. within (get_or t.lows i 0) (get_or t.highs i 0) class) max_lines

-- The disks that serve a class: "every disk serves every class until one is set".
unfoldable pub set_for : Classes → (class : ℕ) → ℕ
set_for t class = cond (eqb (get_or t.sets 0 0) 0) all_disks (get_or t.sets (line_for t class) 0)
