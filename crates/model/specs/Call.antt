-- The calls with their arguments, and what each gives on any state and any lent slices.
use Rattle.std.specs.Prelude.{◌≡◌, ℕ, List, [], length}
use Rattle.model.specs.declared.Sizes.{Sizes}
use Rattle.model.specs.declared.Core.{Core}
use Rattle.model.specs.declared.Reply.{Reply}
use Rattle.model.specs.World.{World}
use Rattle.model.specs.State.{new_core}
use Rattle.model.specs.Refusal.{Row, Task, Result, verdict, conclude}
use Rattle.model.specs.Transaction.{begin_rows, begin_task, update_rows, update_task, read_rows, commit_rows, commit_task}
use Rattle.model.specs.Abort.{abort_rows, abort_task}
use Rattle.model.specs.Format.{format_rows, format_task}
use Rattle.model.specs.Checkpoint.{checkpoint_begin_rows, checkpoint_begin_task, checkpoint_step_rows, checkpoint_step_task, checkpoint_end_rows, checkpoint_end_task}
use Rattle.model.specs.Restart.{restart_begin_rows, restart_begin_task, restart_step_rows, restart_step_task, restart_run_task, restart_end_rows, restart_end_task}
use Rattle.model.specs.SetClasses.{set_classes_rows, set_classes_task}
use Rattle.model.specs.Listing.{list_rows, not_a_line, not_lines, lines_from}

-- Calls that only look: they hand back the state that they got, change no word and store nothing.
pub data Look : Type 0 where
  read : (reader page slot : ℕ) → Look
  -- a line of the log on paper, or lines from one on (specs/Listing.antt), into so many lent bytes
  list_line : (number bytes : ℕ) → Look
  list_lines : (first bytes : ℕ) → Look

-- "Each storing call takes an allowance": here its budget, the last argument. "Only these calls, and one that hands out a new state, make
-- a state." `restart_run` is not 01's (specs/Restart.antt).
pub data Call : Type 0 where
  format : Sizes → (budget : ℕ) → Call
  begin : (class : ℕ) → Call
  update : (number page slot : ℕ) → List ℕ → (budget : ℕ) → Call
  commit : (number budget : ℕ) → Call
  abort : (number budget : ℕ) → Call
  -- 02's S-5: a table of classes, three words a line
  set_classes : (lines : List ℕ) → Call
  checkpoint_begin : Call
  checkpoint_step : (budget : ℕ) → Call
  checkpoint_end : (budget : ℕ) → Call
  restart_begin : Call
  restart_step : (source : ℕ) → Call
  restart_run : (source most : ℕ) → Call
  restart_end : (budget : ℕ) → Call
  new_state : Call
  look : Look → Call

abbrev pub look_rows : Look → Core → World → List Row
look_rows (read reader page slot) c w = read_rows c w reader page slot
look_rows (list_line number bytes) c w = list_rows c.stage (not_a_line bytes) w.anchor w.logs number
look_rows (list_lines first bytes) c w = list_rows c.stage (not_lines bytes) w.anchor w.logs first

-- the value answered: of several lines, how many were written
abbrev pub look_value : Look → World → ℕ
look_value (read reader page slot) w = 0
look_value (list_line number bytes) w = 0
look_value (list_lines first bytes) w = length (lines_from w.anchor w.logs first bytes)

unfoldable pub look_task : Look → Core → World → Task
look_task q c w = record { actions = []; core = c; value = look_value q w }

-- The rows of "Turned away" that a call checks. "Format checks 1, 2, 4 (of the sizes handed to it), 5 and 16; restart begin 1 to 7 and
-- 13; the rest 1, 2, 5 and, where the cause can arise, 7 to 16, working with the sizes, c, starts and ends their state holds." Row 16 is
-- in `conclude`. A run of restart steps checks what its first step does; a listing 1 to 7 as restart begin, and 8; a table of classes 1, 5 and 17 to 19.
abbrev pub rows_of : Call → Core → World → List Row
rows_of (format s budget) c w = format_rows c w s
rows_of (begin class) c w = begin_rows c w class
rows_of (update number page slot value budget) c w = update_rows c w number page slot value
rows_of (look q) c w = look_rows q c w
rows_of (commit number budget) c w = commit_rows c w number
rows_of (abort number budget) c w = abort_rows c w number
rows_of (set_classes lines) c w = set_classes_rows c w lines
rows_of checkpoint_begin c w = checkpoint_begin_rows c w
rows_of (checkpoint_step budget) c w = checkpoint_step_rows c w
rows_of (checkpoint_end budget) c w = checkpoint_end_rows c w
rows_of restart_begin c w = restart_begin_rows c w
rows_of (restart_step source) c w = restart_step_rows c w source
rows_of (restart_run source most) c w = restart_step_rows c w source
rows_of (restart_end budget) c w = restart_end_rows c w
rows_of new_state c w = []

-- what it does when none of them applies
abbrev pub task_of : Call → Core → World → Task
task_of (format s budget) c w = format_task s
task_of (begin class) c w = begin_task c w class
task_of (update number page slot value budget) c w = update_task c w number page slot value
task_of (look q) c w = look_task q c w
task_of (commit number budget) c w = commit_task c w number
task_of (abort number budget) c w = abort_task c w number
task_of (set_classes lines) c w = set_classes_task c lines
task_of checkpoint_begin c w = checkpoint_begin_task c w
task_of (checkpoint_step budget) c w = checkpoint_step_task c w
task_of (checkpoint_end budget) c w = checkpoint_end_task c w
task_of restart_begin c w = restart_begin_task w
task_of (restart_step source) c w = restart_step_task c w source
task_of (restart_run source most) c w = restart_run_task most c w source
task_of (restart_end budget) c w = restart_end_task c w
task_of new_state c w = record { actions = []; core = new_core; value = 0 }

-- a call that stores nothing needs no budget
abbrev pub budget_of : Call → ℕ
budget_of (format s budget) = budget
budget_of (begin class) = 0
budget_of (update number page slot value budget) = budget
budget_of (look q) = 0
budget_of (commit number budget) = budget
budget_of (abort number budget) = budget
budget_of (set_classes lines) = 0
budget_of checkpoint_begin = 0
budget_of (checkpoint_step budget) = budget
budget_of (checkpoint_end budget) = budget
budget_of restart_begin = 0
budget_of (restart_step source) = 0
budget_of (restart_run source most) = 0
budget_of (restart_end budget) = budget
budget_of new_state = 0

unfoldable pub result_of : Call → Core → World → Result
result_of call c w = conclude (verdict (rows_of call c w)) (budget_of call) (task_of call c w) c w

-- A call of the code, on a state and the words lent to it, gives what the definition says: the answer, the budget that is left, the
-- state handed back and every lent word.
unfoldable pub Gives : Call → Core → World → Reply → ℕ → World → Type 0
Gives call c w reply budget v = record { answer = reply.answer; budget = budget; core = reply.core; world = v } ≡ result_of call c w
