-- What the code holds of the program: a console, the lent words, and the output's buffer.
use Rattle.std.specs.Prelude.{◌≡◌, ℕ, List, ◌++◌, not, take}
use Rattle.model.specs.World.{World}
use Rattle.model.specs.View.{core_of, body_of}
use Rattle.lines.specs.Line.{is_empty, command_of}
use Rattle.lines.specs.After.{command_after}
use Rattle.hall.specs.declared.console.Console.{Console}
use Rattle.hall.specs.Running.{Program}

-- The state by value and the lent words stand for the program's store. A line is not kept: what is read of it is known by what the
-- console makes of the bytes to come. Of the program's text the front was handed to write; the rest waits in the buffer.
pub record Holds (c : Console) (w : World) (out handed : List ℕ) (p : Program) : Type 0 where
  pub core : core_of c.state.carried w.work ≡ p.core
  pub world : body_of w ≡ p.world
  pub tally : c.tally ≡ p.tally
  pub line : c.line ≡ p.line
  pub read : (more : List ℕ) → command_after c.partial more ≡ command_of (p.read ++ more)
  pub text : p.text ≡ handed ++ take c.fill out

-- and it knows whether a line has begun
pub record Stands (c : Console) (w : World) (out handed : List ℕ) (p : Program) : Type 0 where
  pub holds : Holds c w out handed p
  pub begun : c.begun ≡ not (is_empty p.read)
