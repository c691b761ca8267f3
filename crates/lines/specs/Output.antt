-- The lines that the program writes, as bytes.
use Rattle.std.specs.Prelude.{ℕ, List, [], ◌∷◌, ◌++◌}
use Rattle.model.specs.Text.{decimal}

-- a number, a byte after it, and the rest
abbrev pub field : ℕ → ℕ → List ℕ → List ℕ
field n after rest = decimal n ++ after ∷ rest

-- "Each output line has line number, answer, stores, value"
abbrev pub line_text : ℕ → ℕ → ℕ → ℕ → List ℕ
line_text line answer stores value = field line 32 (field answer 32 (field stores 32 (field value 10 [])))

-- "prints `?` as its answer, then 0 and 0"
abbrev pub other_text : ℕ → List ℕ
other_text line = field line 32 (63 ∷ 32 ∷ 48 ∷ 32 ∷ 48 ∷ 10 ∷ [])

-- the last line: the word tally, and "taken, refused and cut lines"
abbrev pub tally_text : ℕ → ℕ → ℕ → List ℕ
tally_text taken refused cut = (116 ∷ 97 ∷ 108 ∷ 108 ∷ 121 ∷ 32 ∷ []) ++ field taken 32 (field refused 32 (field cut 10 []))
