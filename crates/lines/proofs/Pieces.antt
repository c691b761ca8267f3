-- A line in pieces: what is read of it piece by piece, and the command of the whole line.
use Prim.Native.Nat.{ℕ, ◌+◌, ◌<◌}
use mathlib.Core.Path.{◌≡◌, ◌∙◌}
use mathlib.Core.List.{List, [], ◌∷◌, ◌++◌, append_assoc, append-nil}
use native.Mathlib.Numerals.{add-one}
use lib.ListN.{length, get_or, drop}
use lib.Seq.{drop-cons}
use Rattle.lines.specs.declared.partial.Partial.{Partial}
use Rattle.lines.specs.Line.{command_of}
use Rattle.lines.specs.After.{command_after, Pieces, none, piece}

-- one byte of a piece
pub byte_of : (bytes more : List ℕ) (i : ℕ) → i < length bytes → drop i bytes ++ more ≡ get_or bytes i 0 ∷ (drop (i + 1) bytes ++ more)
byte_of bytes more i h = rw (add-one, drop-cons bytes i 0 h)

-- The command of a line is the same for every way of cutting it: read the pieces one after the other, and ask at the end.
pub line_in_pieces : {line : List ℕ} {last : Partial} → Pieces line last → command_after last [] ≡ command_of line
line_in_pieces p = rw append-nil at (after p [])
  where
    after : {line : List ℕ} {last : Partial} → Pieces line last → (more : List ℕ) → command_after last more ≡ command_of (line ++ more)
    after (none begun) more = begun more
    after (piece {line} before bytes read) more = read more ∙ after before (bytes ++ more) ∙ rw append_assoc
