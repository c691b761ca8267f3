-- What the program does with its input, byte by byte, and all that it puts out.
use Rattle.std.specs.Prelude.{ℕ, List, [], ◌∷◌, ◌++◌, cond, replicate, eqb, Option, None, Some}
use Rattle.model.specs.declared.Sizes.{Sizes}
use Rattle.model.specs.declared.Core.{Core}
use Rattle.model.specs.World.{World, world_of}
use Rattle.model.specs.State.{new_core}
use Rattle.model.specs.Refusal.{Result}
use Rattle.model.specs.Call.{format, result_of}
use Rattle.model.specs.View.{body_of}
use Rattle.lines.specs.declared.tally.Tally.{Tally}
use Rattle.lines.specs.Line.{is_empty, command_of}
use Rattle.lines.specs.Output.{line_text, other_text, tally_text}
use Rattle.lines.specs.Counting.{one_more, counted}
use Rattle.commands.specs.declared.outcome.Outcome.{Outcome}
use Rattle.commands.specs.Meaning.{Line, line_of}

-- The program between two bytes: the store, the tally, how many lines there were, the bytes read of the next one, and the whole text
-- that it has put out.
pub record Program : Type 0 where
  pub core : Core
  pub world : World
  pub tally : Tally
  pub line : ℕ
  pub read : List ℕ
  pub text : List ℕ

-- "`hall` formats two pages of four one-word slots, two disks, W = 128"
unfoldable pub sizes : Sizes
sizes = record { pages = 2; disks = 2; ring = 128; slots = 4 ∷ 4 ∷ replicate 62 0; widths = 1 ∷ 1 ∷ replicate 62 0 }

unfoldable pub formatting : World → Result
formatting w = result_of (format sizes 18446744073709551615) new_core w

-- "The heading shown comes first.": line answer stores value
abbrev pub heading : List ℕ
heading =
    108 ∷ 105 ∷ 110 ∷ 101 ∷ 32 ∷ 97 ∷ 110 ∷ 115 ∷ 119 ∷ 101 ∷ 114 ∷ 32 ∷ 115 ∷ 116 ∷ 111 ∷ 114 ∷ 101 ∷ 115 ∷ 32 ∷ 118 ∷ 97 ∷ 108 ∷ 117 ∷ 101 ∷ 10 ∷ []

-- before the first line: a store as the format leaves it
unfoldable pub started : World → Program
started w =
    record {
      core = (formatting w).core;
      world = (formatting w).world;
      tally = record { taken = 0; refused = 0; cut = 0 };
      line = 0;
      read = [];
      text = heading;
    }

-- a line of the output
unfoldable pub text_of : ℕ → Option Outcome → List ℕ
text_of line None = other_text line
text_of line (Some o) = line_text line o.answer o.stores o.value

-- the answer that a line is counted by
abbrev pub answer_of : Option Outcome → Option ℕ
answer_of None = None
answer_of (Some o) = Some o.answer

-- a line that has ended is run, counted and shown under its number
unfoldable pub line_taken : Program → Program
line_taken p =
    let l : Line = line_of (command_of p.read) p.core p.world in
    let number : ℕ = one_more p.line in
    record {
      core = l.core;
      world = l.world;
      tally = counted p.tally (answer_of l.outcome);
      line = number;
      read = [];
      text = p.text ++ text_of number l.outcome;
    }

-- bytes of a line
unfoldable pub with_read : Program → List ℕ → Program
with_read p bytes = record { core = p.core; world = p.world; tally = p.tally; line = p.line; read = p.read ++ bytes; text = p.text }

-- The input, byte by byte: byte 10 ends a line.
unfoldable pub fed : Program → List ℕ → Program
fed p [] = p
fed p (b ∷ bytes) = fed (cond (eqb b 10) (line_taken p) (with_read p (b ∷ []))) bytes

-- At the end of the input: a last line without an end counts.
unfoldable pub ended : Program → Program
ended p = cond (is_empty p.read) p (line_taken p)

-- "printed last"
unfoldable pub with_tally : Program → Program
with_tally p =
    record {
      core = p.core;
      world = p.world;
      tally = p.tally;
      line = p.line;
      read = p.read;
      text = p.text ++ tally_text p.tally.taken p.tally.refused p.tally.cut;
    }

-- the lent words at the start, as the definitions see them
unfoldable pub zeros : World
zeros = body_of (world_of (replicate 148 0) (replicate 8 0) (replicate 16 0) (replicate 258 0) (replicate 481 0))

-- All that the program puts out, by all that it reads.
unfoldable pub output_of : List ℕ → List ℕ
output_of input = (with_tally (ended (fed (started zeros) input))).text
