-- 02, S-5: the call that sets a table of classes. "A refused table leaves the old one in force."
use Rattle.std.specs.Prelude.{ℕ, List, [], ◌∷◌, Bool, not, ◌||◌, length, ltb, eqb}
use Rattle.model.specs.declared.Core.{Core}
use Rattle.model.specs.Classes.{class_count, line_count, not_a_table, wrong_line, uncovered_class, twice_covered, classes_of}
use Rattle.model.specs.World.{World}
use Rattle.model.specs.Memory.{work_words}
use Rattle.model.specs.State.{with_classes}
use Rattle.model.specs.Refusal.{Row, row, Task}
use Rattle.model.specs.Causes.{when_serving, stage_forbids}
use Rattle.model.specs.Reads.{counts_fit}

-- a row that returns the least number below a bound that is amiss, and applies where there is one
abbrev pub least_row : (number found bound : ℕ) → Row
least_row number found bound = record { number = number; applies = ltb found bound; first = found; second = 0 }

-- the work memory goes with the state; the call is lent no other slice but the lines
unfoldable pub work_wrong : Core → World → Bool
work_wrong c w = not (eqb (length w.work) (work_words c.sizes c.bases.total))

-- "Checks: 5 ...; 17 ...; 18 ..., 19 ...; tried in that order after 1 (open and copying pass), when the table is set."
unfoldable pub set_classes_rows : Core → World → (lines : List ℕ) → List Row
set_classes_rows c w lines =
    row 1 (stage_forbids when_serving (counts_fit c) c) ∷ row 5 (work_wrong c w || not_a_table lines)
    ∷ least_row 17 (wrong_line c.sizes.disks lines) (line_count lines)
    ∷ least_row 18 (uncovered_class lines) class_count ∷ least_row 19 (twice_covered lines) class_count ∷ []

unfoldable pub set_classes_task : Core → (lines : List ℕ) → Task
set_classes_task c lines = record { actions = []; core = with_classes c (classes_of lines); value = 0 }
