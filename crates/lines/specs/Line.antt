-- 01, "Lines of the program": what a line means. A line is the list of its bytes, without the byte 10 that ends it.
use Rattle.std.specs.Prelude.{ℕ, ◌+◌, ◌*◌, ◌-◌, ◌^◌, List, [], ◌∷◌, map, Bool, true, false, cond, not, ◌&&◌, length, get_or, leb, ltb, eqb, Option, None, Some}
use Rattle.lines.specs.declared.command.Command.{Command}
use Rattle.lines.specs.declared.command.Command.TheVariants.{Begin, Set, Commit, Abort, Get, Mark, Copy, Close, Restart}

-- A line split at each byte 32: what stands before the first, and the fields after it. So two spaces have an empty field between them.
pub record Fields : Type 0 where
  pub first : List ℕ
  pub rest : List (List ℕ)

-- the first field with a byte more in front; an empty field in front
abbrev pub with_byte : ℕ → Fields → Fields
with_byte b s = record { first = b ∷ s.first; rest = s.rest }

abbrev pub with_field : Fields → Fields
with_field s = record { first = []; rest = s.first ∷ s.rest }

unfoldable pub fields : List ℕ → Fields
fields [] = record { first = []; rest = [] }
fields (b ∷ bs) = cond (eqb b 32) (with_field (fields bs)) (with_byte b (fields bs))

-- "numbers are decimal, below 2^64": one or more digits, as many zeros in front as there are
unfoldable pub all_digits : List ℕ → Bool
all_digits [] = true
all_digits (b ∷ bs) = leb 48 b && leb b 57 && all_digits bs

-- the value of digits that stand behind a number v
unfoldable pub value_from : ℕ → List ℕ → ℕ
value_from v [] = v
value_from v (b ∷ bs) = value_from (v * 10 + (b - 48)) bs

abbrev pub value : List ℕ → ℕ
value f = value_from 0 f

abbrev pub is_empty : List ℕ → Bool
is_empty [] = true
is_empty (b ∷ bs) = false

abbrev pub is_number : List ℕ → Bool
is_number f = not (is_empty f) && (all_digits f && ltb (value f) (2 ^ 64))

unfoldable pub all_numbers : List (List ℕ) → Bool
all_numbers [] = true
all_numbers (f ∷ fs) = is_number f && all_numbers fs

-- "The command's name is compared byte for byte."
unfoldable pub same : List ℕ → List ℕ → Bool
same [] [] = true
same [] (b ∷ bs) = false
same (a ∷ l) [] = false
same (a ∷ l) (b ∷ bs) = eqb a b && same l bs

-- a command that takes no numbers, and those that take some; "Without an allowance it is the largest."
unfoldable pub without_numbers : Command → List ℕ → Option Command
without_numbers command vs = cond (eqb (length vs) 0) (Some command) None

unfoldable pub set_of : List ℕ → Option Command
set_of vs = cond (eqb (length vs) 4) (Some (Set (get_or vs 0 0) (get_or vs 1 0) (get_or vs 2 0) (get_or vs 3 0))) None

unfoldable pub commit_of : List ℕ → Option Command
commit_of vs =
    cond (eqb (length vs) 1) (Some (Commit (get_or vs 0 0) 18446744073709551615))
    (cond (eqb (length vs) 2) (Some (Commit (get_or vs 0 0) (get_or vs 1 0))) None)

unfoldable pub abort_of : List ℕ → Option Command
abort_of vs = cond (eqb (length vs) 1) (Some (Abort (get_or vs 0 0))) None

unfoldable pub get_of : List ℕ → Option Command
get_of vs = cond (eqb (length vs) 2) (Some (Get (get_or vs 0 0) (get_or vs 1 0))) None

-- The command with a name and numbers; the names in ASCII: mark, copy, close, restart.
unfoldable pub form_without_numbers : List ℕ → List ℕ → Option Command
form_without_numbers name vs =
    cond (same name (109 ∷ 97 ∷ 114 ∷ 107 ∷ [])) (without_numbers Mark vs)
    (cond (same name (99 ∷ 111 ∷ 112 ∷ 121 ∷ [])) (without_numbers Copy vs)
    (cond (same name (99 ∷ 108 ∷ 111 ∷ 115 ∷ 101 ∷ [])) (without_numbers Close vs)
    (cond (same name (114 ∷ 101 ∷ 115 ∷ 116 ∷ 97 ∷ 114 ∷ 116 ∷ [])) (without_numbers Restart vs)
    None)))

-- begin, set, commit, abort, get
unfoldable pub form_of : List ℕ → List ℕ → Option Command
form_of name vs =
    cond (same name (98 ∷ 101 ∷ 103 ∷ 105 ∷ 110 ∷ [])) (without_numbers Begin vs)
    (cond (same name (115 ∷ 101 ∷ 116 ∷ [])) (set_of vs)
    (cond (same name (99 ∷ 111 ∷ 109 ∷ 109 ∷ 105 ∷ 116 ∷ [])) (commit_of vs)
    (cond (same name (97 ∷ 98 ∷ 111 ∷ 114 ∷ 116 ∷ [])) (abort_of vs)
    (cond (same name (103 ∷ 101 ∷ 116 ∷ [])) (get_of vs)
    (form_without_numbers name vs)))))

unfoldable pub fields_mean : List ℕ → List (List ℕ) → Option Command
fields_mean name numbers = cond (all_numbers numbers) (form_of name (map value numbers)) None

-- None: "a line of any other form".
unfoldable pub command_of : List ℕ → Option Command
command_of line = fields_mean (fields line).first (fields line).rest

-- the bytes before the first byte 10, which ends a line
unfoldable pub line_length : List ℕ → ℕ
line_length [] = 0
line_length (b ∷ bs) = cond (eqb b 10) 0 (line_length bs + 1)
