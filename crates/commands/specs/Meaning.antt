-- 01, "Lines of the program": what each command's line comes to.
use Rattle.std.specs.Prelude.{◌≡◌, ℕ, [], ◌∷◌, Option, None, Some}
use Rattle.std.specs.Int.Bits.{bit_xor}
use Rattle.model.specs.declared.Core.{Core}
use Rattle.model.specs.declared.Carried.{Carried}
use Rattle.model.specs.World.{World}
use Rattle.model.specs.Refusal.{Result}
use Rattle.model.specs.Call.{begin, update, read, commit, abort, checkpoint_begin, checkpoint_step, checkpoint_end, look, result_of}
use Rattle.model.specs.View.{core_of, body_of}
use Rattle.lines.specs.declared.command.Command.{Command}
use Rattle.lines.specs.declared.command.Command.TheVariants.{Begin, Set, Commit, Abort, Get, Mark, Copy, Close, Restart}
use Rattle.commands.specs.declared.outcome.Outcome.{Outcome}
use Rattle.commands.specs.declared.outcome.Done.{Done}
use Rattle.commands.specs.Shown.{value_in, shown_of, slot_word}
use Rattle.commands.specs.Restarting.{restarted_all}

-- What a line shows, None for "a line of any other form", and the state and the words that it leaves.
pub record Line : Type 0 where
  pub outcome : Option Outcome
  pub core : Core
  pub world : World

-- the line of a call, with a value; with the value that the call answers
abbrev pub showing : ℕ → Result → Line
showing value r = record { outcome = Some (shown_of r.answer value); core = r.core; world = r.world }

abbrev pub showing_own : Result → Line
showing_own r = showing (value_in r.answer) r

-- "value is the transaction for begin, the difference for set, the slot for get, the new c for restart, else 0": the difference is
-- before, as the transaction reads it, XOR after; get reads for reader 0.
unfoldable pub command_line : Command → Core → World → Line
command_line Begin c w = showing_own (result_of (begin 0) c w)
command_line (Set number page slot value) c w =
    showing (bit_xor (slot_word c w number page slot) value) (result_of (update number page slot (value ∷ []) 18446744073709551615) c w)
command_line (Commit number allowance) c w = showing 0 (result_of (commit number allowance) c w)
command_line (Abort number) c w = showing 0 (result_of (abort number 18446744073709551615) c w)
command_line (Get page slot) c w = showing (slot_word c w 0 page slot) (result_of (look (read 0 page slot)) c w)
command_line Mark c w = showing 0 (result_of checkpoint_begin c w)
command_line Copy c w = showing 0 (result_of (checkpoint_step 18446744073709551615) c w)
command_line Close c w = showing 0 (result_of (checkpoint_end 18446744073709551615) c w)
command_line Restart c w = showing_own (restarted_all c w)

-- "A line of any other form" makes no call.
unfoldable pub line_of : Option Command → Core → World → Line
line_of None c w = record { outcome = None; core = c; world = w }
line_of (Some command) c w = command_line command c w

-- The line of the code, by what it hands back by value and the words that it left.
abbrev pub line_seen : Option Outcome → Carried → World → Line
line_seen outcome h w = record { outcome = outcome; core = core_of h w.work; world = body_of w }

-- A command that the code ran, on what is carried by value and the words lent to it, comes to what the definition says of the state and
-- the words that they stand for.
abbrev pub Runs : Command → Carried → World → Done → World → Type 0
Runs command h w done v = line_seen done.outcome done.state.carried v ≡ command_line command (core_of h w.work) (body_of w)
