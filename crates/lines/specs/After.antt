-- A line arrives in pieces, and is not kept. What has been read of it is a `Partial`; what that means is said by the rest of the line,
-- which is still to come.
use Rattle.std.specs.Prelude.{ℕ, ◌^◌, ◌≡◌, List, [], ◌∷◌, ◌++◌, map, Bool, cond, ◌&&◌, take, ltb, Option, None, Some}
use Rattle.lines.specs.declared.command.Command.{Command}
use Rattle.lines.specs.declared.partial.Partial.{Partial}
use Rattle.lines.specs.declared.partial.Partial.TheVariants.{InName, InNumbers, Hopeless}
use Rattle.lines.specs.Line.{Fields, fields, all_digits, value_from, value, is_number, all_numbers, form_of, fields_mean, command_of}

-- read: the front of the first field
unfoldable pub after_name : List ℕ → Fields → Option Command
after_name name s = fields_mean (name ++ s.first) s.rest

-- A number of which v is read: does it go on so to its end, and its value there? None: nothing of it is read yet.
abbrev pub goes_on : Option ℕ → List ℕ → Bool
goes_on None f = is_number f
goes_on (Some v) f = all_digits f && ltb (value_from v f) (2 ^ 64)

abbrev pub value_on : Option ℕ → List ℕ → ℕ
value_on None f = value f
value_on (Some v) f = value_from v f

-- read: the name, the numbers `ended`, and the front of one more
unfoldable pub after_number : List ℕ → List ℕ → Option ℕ → Fields → Option Command
after_number name ended last s =
    cond (goes_on last s.first && all_numbers s.rest) (form_of name (ended ++ value_on last s.first ∷ map value s.rest)) None

-- The command of a line, by what was read of it and the bytes that follow.
unfoldable pub command_after : Partial → List ℕ → Option Command
command_after (InName n) more = after_name (take n.count n.items) (fields more)
command_after (InNumbers n) more = after_number (take n.name.count n.name.items) (take n.ended.count n.ended.items) n.last (fields more)
command_after Hopeless more = None

-- A line read in pieces, by the contracts of `start` and `read_piece`: the bytes so far, and what they left.
pub data Pieces : List ℕ → Partial → Type 0 where
  none : {first : Partial} → ((line : List ℕ) → command_after first line ≡ command_of line) → Pieces [] first
  piece : {line : List ℕ} {p next : Partial} → Pieces line p → (bytes : List ℕ) →
      ((more : List ℕ) → command_after next more ≡ command_after p (bytes ++ more)) → Pieces (line ++ bytes) next
