-- 02, S-1: the log on paper. A listing is a list of lines, a line the list of its 73 bytes.
use Rattle.std.specs.Prelude.{ℕ, zero, suc, ◌/◌, ◌%◌, Bool, true, cond, not, ◌||◌, length, get_or, take, drop, leb, eqb}
use mathlib.Core.List.{List, [], ◌∷◌, ◌++◌, flatten}
use Rattle.model.specs.declared.Stage.{Stage}
use Rattle.model.specs.declared.Sizes.{Sizes}
use Rattle.model.specs.Below.{join_below}
use Rattle.model.specs.Text.{decimal, padded}
use Rattle.model.specs.Sizes.{log_words}
use Rattle.model.specs.Anchor.{sizes_on, start_on}
use Rattle.model.specs.Record.{Record, change, close, update_kind, compensation_kind, commit_kind}
use Rattle.model.specs.Scan.{Scan, end, bad, item}
use Rattle.model.specs.Refusal.{Row, row, verdict}
use Rattle.model.specs.Causes.{when_shut, forbids, retained_from}
use Rattle.model.specs.Transaction.{filled}
use Rattle.model.specs.Restart.{image_rows}

-- "three more spaces between each two of disk, position, kind and transaction"
abbrev pub gap : List ℕ
gap = 32 ∷ 32 ∷ 32 ∷ []

-- "Each line has exactly 72 columns: disk 1, position 20, kind 12, transaction 20, page 3, slot 4, length 3, all right-aligned and padded
-- with spaces", and behind them "a byte 10".
unfoldable pub in_columns : (disk position kind transaction page slot width : List ℕ) → List ℕ
in_columns disk position kind transaction page slot width =
    padded 1 disk ++ (gap ++ (padded 20 position ++ (gap ++ (padded 12 kind ++ (gap
    ++ (padded 20 transaction ++ (padded 3 page ++ (padded 4 slot ++ (padded 3 width ++ (10 ∷ []))))))))))

-- and so many bytes
abbrev pub line_bytes : ℕ
line_bytes = 73

-- "The heading has d, position, kind, transaction, pg, sl and ln, right-aligned in the same columns", in ASCII.
unfoldable pub heading : List ℕ
heading =
    in_columns (100 ∷ [])
    (112 ∷ 111 ∷ 115 ∷ 105 ∷ 116 ∷ 105 ∷ 111 ∷ 110 ∷ [])
    (107 ∷ 105 ∷ 110 ∷ 100 ∷ [])
    (116 ∷ 114 ∷ 97 ∷ 110 ∷ 115 ∷ 97 ∷ 99 ∷ 116 ∷ 105 ∷ 111 ∷ 110 ∷ [])
    (112 ∷ 103 ∷ [])
    (115 ∷ 108 ∷ [])
    (108 ∷ 110 ∷ [])

-- "Kinds are printed as update, compensation, commit, abort."
unfoldable pub kind_name : ℕ → List ℕ
kind_name kind =
    cond (eqb kind update_kind) (117 ∷ 112 ∷ 100 ∷ 97 ∷ 116 ∷ 101 ∷ [])
    (cond (eqb kind compensation_kind) (99 ∷ 111 ∷ 109 ∷ 112 ∷ 101 ∷ 110 ∷ 115 ∷ 97 ∷ 116 ∷ 105 ∷ 111 ∷ 110 ∷ [])
    (cond (eqb kind commit_kind) (99 ∷ 111 ∷ 109 ∷ 109 ∷ 105 ∷ 116 ∷ [])
    (97 ∷ 98 ∷ 111 ∷ 114 ∷ 116 ∷ [])))

-- What a line shows of a record.
pub data Shown : Type 0 where
  shown_change : (kind number page slot width : ℕ) → Shown
  shown_close : (kind number : ℕ) → Shown

abbrev pub shown : Record → Shown
shown (change kind page slot number copy diff) = shown_change kind number page slot (length diff)
shown (close kind number) = shown_close kind number

-- A record of the retained log, as it is listed.
pub record Listed : Type 0 where
  pub disk : ℕ
  pub position : ℕ
  pub content : Shown

-- "Closing records leave page, slot and length blank."
abbrev pub shown_line : (disk position : ℕ) → Shown → List ℕ
shown_line disk position (shown_change kind number page slot width) =
    in_columns (decimal disk) (decimal position) (kind_name kind) (decimal number) (decimal page) (decimal slot) (decimal width)
shown_line disk position (shown_close kind number) = in_columns (decimal disk) (decimal position) (kind_name kind) (decimal number) [] [] []

unfoldable pub line_of : Listed → List ℕ
line_of e = shown_line e.disk e.position e.content

-- the records of a log that is read
unfoldable pub listed_in : (disk : ℕ) → Scan → List Listed
listed_in disk end = []
listed_in disk (bad p) = []
listed_in disk (item p r rest) = record { disk = disk; position = p; content = shown r } ∷ listed_in disk rest

-- "Records come by disk, then by position.": the retained logs, as a restart begin reads them
unfoldable pub listed_on : (anchor logs : List ℕ) → List Listed
listed_on anchor logs =
    let s : Sizes = sizes_on anchor in
    join_below (λ disk. listed_in disk (retained_from s (start_on anchor) logs disk)) s.disks

-- "Sixty lines make a page, after a heading line.": `left` more records go on this page; where none does and a record is left, a new page
-- begins (line_count_lem and line_at in proofs/Listing.antt say it by numbers)
unfoldable pub on_pages : (left : ℕ) → List Listed → List (List ℕ)
on_pages left [] = []
on_pages zero (e ∷ es) = heading ∷ line_of e ∷ on_pages 59 es
on_pages (suc left) (e ∷ es) = line_of e ∷ on_pages left es

-- "an empty log prints nothing"
unfoldable pub listing : (anchor logs : List ℕ) → List (List ℕ)
listing anchor logs = on_pages 0 (listed_on anchor logs)

-- Check 5 of a listing: of the log disks, "also for these bytes". No other slice is lent.
unfoldable pub lent_wrong : (bytes_wrong : Bool) → (logs : List ℕ) → Sizes → Bool
lent_wrong bytes_wrong logs s = not (eqb (length logs) (log_words s)) || bytes_wrong

-- "Checks: 1 to 7 as for restart begin, 5 also for these bytes, then 8 past the last line."
unfoldable pub list_rows : Stage → (bytes_wrong : Bool) → (anchor logs : List ℕ) → (number : ℕ) → List Row
list_rows stage bytes_wrong anchor logs number =
    row 1 (forbids when_shut true stage) ∷ image_rows (lent_wrong bytes_wrong logs) anchor logs ++ row 8 (leb (length (listing anchor logs)) number) ∷ []

-- "A call writes the line of a given number, from 0 and headings included, and a byte 10 into 73 lent bytes."
abbrev pub not_a_line : (bytes : ℕ) → Bool
not_a_line bytes = not (eqb bytes line_bytes)

-- what the lent bytes hold after it
unfoldable pub line_after : Stage → (anchor logs : List ℕ) → (number : ℕ) → (before : List ℕ) → List ℕ
line_after stage anchor logs number before =
    filled (verdict (list_rows stage (not_a_line (length before)) anchor logs number)) (get_or (listing anchor logs) number []) before

-- The lines from a given number on, as many as there are and as the lent bytes have room for; not 02's, so that a whole listing is
-- written in one call (LinesAreLines in specs/ListingPromise.antt). The bytes are a whole number of lines.
abbrev pub not_lines : (bytes : ℕ) → Bool
not_lines bytes = not (eqb (bytes % line_bytes) 0)

unfoldable pub lines_from : (anchor logs : List ℕ) → (first bytes : ℕ) → List (List ℕ)
lines_from anchor logs first bytes = take (bytes / line_bytes) (drop first (listing anchor logs))

-- those bytes, and behind them what was there
abbrev pub over : List (List ℕ) → (before : List ℕ) → List ℕ
over lines before = flatten lines ++ drop (length (flatten lines)) before

unfoldable pub lines_after : Stage → (anchor logs : List ℕ) → (first : ℕ) → (before : List ℕ) → List ℕ
lines_after stage anchor logs first before =
    filled (verdict (list_rows stage (not_lines (length before)) anchor logs first)) (over (lines_from anchor logs first (length before)) before) before
