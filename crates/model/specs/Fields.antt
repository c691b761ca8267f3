-- The lists of the head by name, and words put into them: what a call that works on single words of the head leaves there.
use Rattle.std.specs.Prelude.{ℕ, ◌+◌, List, [], ◌∷◌, set}
use Rattle.model.specs.View.{head_slots, head_widths, head_bases, head_fills, head_sums, head_positions, head_page, head_numbers, head_disks, head_firsts, head_reserved}

pub data Field : Type 0 where
  slots : Field
  widths : Field
  bases : Field
  fills : Field
  sums : Field
  positions : Field
  page : Field
  numbers : Field
  disks : Field
  firsts : Field
  reserved : Field

-- where each begins
abbrev pub field_at : Field → ℕ
field_at slots = head_slots
field_at widths = head_widths
field_at bases = head_bases
field_at fills = head_fills
field_at sums = head_sums
field_at positions = head_positions
field_at page = head_page
field_at numbers = head_numbers
field_at disks = head_disks
field_at firsts = head_firsts
field_at reserved = head_reserved

-- A word put into one of them.
pub record Put : Type 0 where
  pub field : Field
  pub index : ℕ
  pub word : ℕ

abbrev pub put : Field → (index word : ℕ) → Put
put field index word = record { field = field; index = index; word = word }

-- the work memory after such words
unfoldable pub put_words : List Put → (work : List ℕ) → List ℕ
put_words [] work = work
put_words (p ∷ ps) work = put_words ps (set work (field_at p.field + p.index) p.word)

-- A place of the table filled, and the words reserved on its disk; a place freed; the words buffered on a disk.
abbrev pub entering : (place number disk first words sum : ℕ) → List Put
entering place number disk first words sum =
    put numbers place number ∷ put disks place disk ∷ put firsts place first ∷ put reserved place words ∷ put sums disk sum ∷ []

abbrev pub leaving : (place disk sum : ℕ) → List Put
leaving place disk sum =
    put numbers place 0 ∷ put disks place 0 ∷ put firsts place 0 ∷ put reserved place 0 ∷ put sums disk sum ∷ []

abbrev pub filling : (disk fill : ℕ) → List Put
filling disk fill = put fills disk fill ∷ []
