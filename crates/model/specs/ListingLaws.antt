-- What a listing tells (02, S-1), as statements, each with its English. Proofs: proofs/Clear.antt, proofs/Order.antt,
-- proofs/Columns.antt, proofs/Listing.antt.
use Rattle.std.specs.Prelude.{◌≡◌, ◌⊎◌, ℕ, ◌+◌, ◌*◌, ◌-◌, ◌/◌, ◌%◌, ◌^◌, min, ◌≤◌, ◌<◌, Bool, length, get_or, drop}
use mathlib.Core.List.{List, [], ◌∷◌, Memᴰ, map}
use Rattle.model.specs.declared.Sizes.{Sizes}
use Rattle.model.specs.Word.{part, OfBits}
use Rattle.model.specs.Text.{decimal, padded}
use Rattle.model.specs.Anchor.{sizes_on}
use Rattle.model.specs.State.{limit}
use Rattle.model.specs.Refusal.{verdict, accepted}
use Rattle.model.specs.Restart.{image_rows}
use Rattle.model.specs.Listing.{gap, line_bytes, heading, kind_name, Shown, shown_change, shown_close, Listed, line_of, listed_on, on_pages, listing}

-- What the checks of an image leave of a record: a kind of its own, a page and a slot that there can be.
pub record ClearChange (kind page slot width : ℕ) : Type 0 where
  pub kind_lt : kind < 2
  pub page_lt : page < 64
  pub slot_lt : slot < 128
  pub width_le : width ≤ 32

pub record ClearClose (kind : ℕ) : Type 0 where
  pub kind_ge : 2 ≤ kind
  pub kind_lt : kind < 4

abbrev pub ClearShown : Shown → Type 0
ClearShown (shown_change kind number page slot width) = ClearChange kind page slot width
ClearShown (shown_close kind number) = ClearClose kind

pub record Clear (e : Listed) : Type 0 where
  pub disk_lt : e.disk < 8
  pub position_lt : e.position < limit
  pub content_clear : ClearShown e.content

-- An image that a listing is made of: its checks are passed, whatever is lent beside it.
pub record Listable (anchor logs : List ℕ) : Type 0 where
  pub others : Sizes → Bool
  pub passed : verdict (image_rows others anchor logs) ≡ accepted

-- So every record that is listed is clear, and its disk is one of the image's.
unfoldable pub ListedClear : Type 0
ListedClear =
    (anchor logs : List ℕ) → Listable anchor logs → (e : Listed) → Memᴰ e (listed_on anchor logs)
    → Clear e × (e.disk < (sizes_on anchor).disks)

-- A transaction's number is a word of the log: where all words have 64 bits, as the code's have, it has twenty digits at most.
abbrev pub number_shown : Shown → ℕ
number_shown (shown_change kind number page slot width) = number
number_shown (shown_close kind number) = number

unfoldable pub ListedNumbers : Type 0
ListedNumbers =
    (anchor logs : List ℕ) → OfBits 64 logs → (e : Listed) → Memᴰ e (listed_on anchor logs) → number_shown e.content < 2 ^ 64

-- "Records come by disk, then by position.": each record comes before all that follow it in the list.
abbrev pub Before : Listed → Listed → Type 0
Before e f = (e.disk < f.disk) ⊎ ((e.disk ≡ f.disk) × (e.position < f.position))

abbrev pub InOrder : List Listed → Type 0
InOrder [] = Unit {0}
InOrder (e ∷ es) = ((f : Listed) → Memᴰ f es → Before e f) × InOrder es

unfoldable pub ListedInOrder : Type 0
ListedInOrder = (anchor logs : List ℕ) → InOrder (listed_on anchor logs)

-- Seven texts, each right-aligned in its own columns, three gaps, and a byte 10: 73 bytes in all.
pub record Columns (line disk position kind transaction page slot width : List ℕ) : Type 0 where
  pub long : length line ≡ line_bytes
  pub disk_at_lem : part 0 1 line ≡ padded 1 disk
  pub gap_behind_disk : part 1 3 line ≡ gap
  pub position_at : part 4 20 line ≡ padded 20 position
  pub gap_behind_position : part 24 3 line ≡ gap
  pub kind_at : part 27 12 line ≡ padded 12 kind
  pub gap_behind_kind : part 39 3 line ≡ gap
  pub transaction_at : part 42 20 line ≡ padded 20 transaction
  pub page_at_lem : part 62 3 line ≡ padded 3 page
  pub slot_at : part 65 4 line ≡ padded 4 slot
  pub width_at : part 69 3 line ≡ padded 3 width
  pub ends : part 72 1 line ≡ 10 ∷ []

-- what stands in the columns of a record's line; a closing record leaves three of them blank
abbrev pub ColumnsOf : (line : List ℕ) → (disk position : ℕ) → Shown → Type 0
ColumnsOf line disk position (shown_change kind number page slot width) =
    Columns line (decimal disk) (decimal position) (kind_name kind) (decimal number) (decimal page) (decimal slot) (decimal width)
ColumnsOf line disk position (shown_close kind number) =
    Columns line (decimal disk) (decimal position) (kind_name kind) (decimal number) [] [] []

-- "Each line has exactly 72 columns", no text runs into the next, and a byte 10 follows. (A number of more than twenty digits would be cut to
-- its last twenty: ListedNumbers says that there is none.)
unfoldable pub LineColumns : Type 0
LineColumns = (e : Listed) → Clear e → ColumnsOf (line_of e) e.disk e.position e.content

-- "The heading has d, position, kind, transaction, pg, sl and ln, right-aligned in the same columns"
unfoldable pub HeadingColumns : Type 0
HeadingColumns =
    Columns heading (100 ∷ [])
    (112 ∷ 111 ∷ 115 ∷ 105 ∷ 116 ∷ 105 ∷ 111 ∷ 110 ∷ [])
    (107 ∷ 105 ∷ 110 ∷ 100 ∷ [])
    (116 ∷ 114 ∷ 97 ∷ 110 ∷ 115 ∷ 97 ∷ 99 ∷ 116 ∷ 105 ∷ 111 ∷ 110 ∷ [])
    (112 ∷ 103 ∷ [])
    (115 ∷ 108 ∷ [])
    (108 ∷ 110 ∷ [])

-- Every line of a listing is the heading, or the line of a record that is listed, which stands in its columns.
pub record LineOfRecord (anchor logs line : List ℕ) : Type 0 where
  pub listed : Listed
  pub among : Memᴰ listed (listed_on anchor logs)
  pub same : line ≡ line_of listed
  pub stands : ColumnsOf line listed.disk listed.position listed.content

unfoldable pub LinesStand : Type 0
LinesStand =
    (anchor logs : List ℕ) → Listable anchor logs → (line : List ℕ) → Memᴰ line (listing anchor logs)
    → (line ≡ heading) ⊎ LineOfRecord anchor logs line

-- So each has 73 bytes, headings included.
unfoldable pub LinesLong : Type 0
LinesLong = (anchor logs : List ℕ) → Listable anchor logs → (line : List ℕ) → Memᴰ line (listing anchor logs) → length line ≡ line_bytes

-- A line tells its record: disk, position, kind, transaction, page, slot and length.
unfoldable pub LineTells : Type 0
LineTells =
    (e f : Listed) → Clear e → Clear f → number_shown e.content < 2 ^ 64 → number_shown f.content < 2 ^ 64
    → line_of e ≡ line_of f → e ≡ f

-- A listing tells all its records, in their order: images with equal listings have the same.
unfoldable pub ListingTells : Type 0
ListingTells =
    (anchor logs anchor' logs' : List ℕ) → Listable anchor logs → Listable anchor' logs' → OfBits 64 logs → OfBits 64 logs'
    → listing anchor logs ≡ listing anchor' logs' → listed_on anchor logs ≡ listed_on anchor' logs'

-- "Sixty lines make a page, after a heading line.": a line for each record, and a heading for each sixty or fewer.
unfoldable pub LineCount : Type 0
LineCount = (es : List Listed) → length (on_pages 0 es) ≡ length es + (length es + 59) / 60

-- Line n of a listing stands on page n / 61, and there at n % 61. At 0 it is the heading, and else it shows the record at n % 61 - 1 of the
-- page's sixty, which is there. (A number past the last line names no record, and both sides of `below` are empty.)
pub record LineAt (es : List Listed) (n : ℕ) : Type 0 where
  pub top : n < length (on_pages 0 es) → n % 61 ≡ 0 → get_or (on_pages 0 es) n [] ≡ heading
  pub there : n < length (on_pages 0 es) → (n % 61 ≡ 0 → ⊥) → 60 * (n / 61) + n % 61 - 1 < length es
  pub below : (n % 61 ≡ 0 → ⊥) → get_or (on_pages 0 es) n [] ≡ get_or (map line_of es) (60 * (n / 61) + n % 61 - 1) []

unfoldable pub LinesAt : Type 0
LinesAt = (es : List Listed) (n : ℕ) → LineAt es n

-- Lines written from number `first` on, `count` of them, into bytes that held `before`: as many as there are and as there is room for, the
-- i-th of them at byte 73 × i, and the bytes behind them as they were.
pub record Written (lines : List (List ℕ)) (first count : ℕ) (before after : List ℕ) : Type 0 where
  pub many : count ≡ min (length before / line_bytes) (length lines - first)
  pub as_long : length after ≡ length before
  pub each : (i : ℕ) → i < count → part (line_bytes * i) line_bytes after ≡ get_or lines (first + i) []
  pub rest : drop (line_bytes * count) after ≡ drop (line_bytes * count) before
