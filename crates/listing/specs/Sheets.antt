-- What a decoded record is listed as, and what comes of the records that are still to be laid.
use Rattle.std.specs.Prelude.{ℕ, ◌+◌, ◌<◌, ◌≡◌, List, length}
use Rattle.model.specs.declared.Decoded.{Decoded}
use Rattle.model.specs.declared.Decoded.TheVariants.{Change, Close, Malformed}
use Rattle.model.specs.Listing.{Shown, shown_change, shown_close, Listed, on_pages}
use Rattle.listing.specs.declared.pages.Sheet.{Sheet}
use Rattle.listing.specs.Laid.{laid}

-- what a line shows of it; a malformed one is not listed
abbrev pub shown_of : Decoded → Shown
shown_of (Change kind page slot number copy width next) = shown_change kind number page slot width
shown_of (Close kind number next) = shown_close kind number
shown_of Malformed = shown_close 0 0

-- A record that can be listed: its fields have room in their columns.
abbrev pub Fits : Decoded → Type 0
Fits (Change kind page slot number copy width next) = (page < 1000) × (slot < 10000) × (width < 1000)
Fits (Close kind number next) = Unit {0}
Fits Malformed = ⊥

abbrev pub listed_as : (disk position : ℕ) → Decoded → Listed
listed_as disk position here = record { disk = disk; position = position; content = shown_of here }

-- The bytes and the number of lines in the end.
pub record Listing : Type 0 where
  pub bytes : List ℕ
  pub lines : ℕ

-- with these records still to come
unfoldable pub finished : (first : ℕ) → Sheet → List Listed → (out : List ℕ) → Listing
finished first sheet es out =
    record { bytes = laid first sheet.line (on_pages sheet.left es) out; lines = sheet.line + length (on_pages sheet.left es) }

-- The lines of all these records, counted and laid.
pub record LaidAll (first : ℕ) (es : List Listed) (lines : ℕ) (out after : List ℕ) : Type 0 where
  pub count : lines ≡ length (on_pages 0 es)
  pub bytes : after ≡ laid first 0 (on_pages 0 es) out
