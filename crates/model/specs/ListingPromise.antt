-- The promises on the log on paper (02, S-1): there is one listing of the same devices; and along every list of calls it shows the records
-- that LogKept names, and is refused for nothing but a number past its last line.
use Rattle.std.specs.Prelude.{◌≡◌, ℕ, ◌+◌, ◌*◌, ◌<◌, ◌≤◌, List, [], ◌∷◌, true, cond, eqb, length, get_or}
use Rattle.model.specs.declared.Stage.TheVariants.{Shut}
use Rattle.model.specs.declared.Sizes.{Sizes}
use Rattle.model.specs.declared.Core.{Core}
use Rattle.model.specs.declared.Answer.{Answer}
use Rattle.model.specs.Below.{join_below}
use Rattle.model.specs.Word.{part}
use Rattle.model.specs.Anchor.{sizes_on, start_on}
use Rattle.model.specs.Scan.{placed}
use Rattle.model.specs.World.{World}
use Rattle.model.specs.Refusal.{number_of, first_of}
use Rattle.model.specs.Listing.{line_bytes, Listed, listed_in, listed_on, listing, line_after, lines_after}
use Rattle.model.specs.ListingLaws.{Listable, Written}
use Rattle.model.specs.Call.{Call, format, look, list_line, list_lines, result_of}
use Rattle.model.specs.Reference.{taken, outcome_of}
use Rattle.model.specs.Machine.{Machine, Event, outcome, result, follow, allowed_all, formatted}
use Rattle.model.specs.History.{Told, nothing_told, history}
use Rattle.model.specs.LogPromise.{Stored}
use Rattle.model.specs.Trace.{view_of, Observed, KeepsContract, seen, On, EventInCode, follow_in_code, AllowedAllInCode, Formats, formatted_in_code, MachineInCode}
use Rattle.model.specs.LogPromiseInCode.{history_in_code}

-- "No two different listings of the same anchor and log disks may be possible." Of two calls for the line of a number, by any two states
-- in stage shut, in any two worlds with the same anchor and the same log disks, into any bytes of the same length: both answer the same,
-- and where they are taken both leave the same bytes.
unfoldable pub OneListing : Type 0
OneListing =
    (c d : Core) (v w : World) (number : ℕ) (before other : List ℕ)
    → c.stage ≡ Shut → d.stage ≡ Shut → v.anchor ≡ w.anchor → v.logs ≡ w.logs → length before ≡ length other
    → let one : Call = look (list_line number (length before)) in
    let another : Call = look (list_line number (length other)) in
    ((result_of one c v).answer ≡ (result_of another d w).answer)
    × (outcome_of (result_of one c v).answer ≡ taken
    → line_after c.stage v.anchor v.logs number before ≡ line_after d.stage w.anchor w.logs number other)

-- The same of two calls for several lines: both answer the same, and where they are taken each line that both wrote is the same.
unfoldable pub OneListingOfLines : Type 0
OneListingOfLines =
    (c d : Core) (v w : World) (first : ℕ) (before other : List ℕ)
    → c.stage ≡ Shut → d.stage ≡ Shut → v.anchor ≡ w.anchor → v.logs ≡ w.logs → length before ≡ length other
    → let one : Answer = (result_of (look (list_lines first (length before))) c v).answer in
    let another : Answer = (result_of (look (list_lines first (length other))) d w).answer in
    (one ≡ another)
    × (outcome_of one ≡ taken → (i : ℕ) → i < first_of one
    → part (line_bytes * i) line_bytes (lines_after c.stage v.anchor v.logs first before)
    ≡ part (line_bytes * i) line_bytes (lines_after d.stage w.anchor w.logs first other))

-- A call for a line that is taken has an image that can be listed, and the number of one of its lines.
unfoldable pub TakenListable : Type 0
TakenListable =
    (c : Core) (w : World) (number bytes : ℕ) → outcome_of (result_of (look (list_line number bytes)) c w).answer ≡ taken
    → Listable w.anchor w.logs × (number < length (listing w.anchor w.logs))

-- A call for several lines that is taken answers how many it wrote, as many as there are from the first on and as there is room for. At the
-- place of each it leaves that line, as the call for this line does in 73 bytes, whatever they held; the bytes behind them stay.
pub record WritesLines (c : Core) (w : World) (first count : ℕ) (before after : List ℕ) : Type 0 where
  pub written : Written (listing w.anchor w.logs) first count before after
  pub each : (i : ℕ) (line : List ℕ) → i < count → length line ≡ line_bytes
      → part (line_bytes * i) line_bytes after ≡ line_after c.stage w.anchor w.logs (first + i) line

unfoldable pub LinesAreLines : Type 0
LinesAreLines =
    (c : Core) (w : World) (first : ℕ) (before : List ℕ)
    → let answer : Answer = (result_of (look (list_lines first (length before))) c w).answer in
    outcome_of answer ≡ taken → WritesLines c w first (first_of answer) before (lines_after c.stage w.anchor w.logs first before)

-- the listed records of one disk
unfoldable pub of_disk : ℕ → List Listed → List Listed
of_disk disk [] = []
of_disk disk (e ∷ es) = cond (eqb e.disk disk) (e ∷ of_disk disk es) (of_disk disk es)

-- The listed records of a disk are those that LogKept names: of the records that the calls put, the stretch from the start to the tail,
-- each at its position, in their order, and no others.
pub record ShowsDisk (t : Told) (w : World) (disk : ℕ) : Type 0 where
  pub stored : Stored t w disk
  pub lines : of_disk disk (listed_on w.anchor w.logs) ≡ listed_in disk (placed (start_on w.anchor disk) stored.stretch)

-- Nothing else is listed, and one disk after the other.
unfoldable pub DiskByDisk : World → Type 0
DiskByDisk w =
    let es : List Listed = listed_on w.anchor w.logs in
    es ≡ join_below (λ disk. of_disk disk es) (sizes_on w.anchor).disks

-- A line that there is, is written whole; past the last one the answer is 8, and the bytes stay. `bytes` is what the lent bytes hold after
-- the call, by its contract.
pub record AnswersLine (w : World) (number answer : ℕ) : Type 0 where
  pub shown : number < length (listing w.anchor w.logs) → answer ≡ 0
  pub line : number < length (listing w.anchor w.logs) → (before bytes : List ℕ) → length before ≡ line_bytes
      → bytes ≡ line_after Shut w.anchor w.logs number before → bytes ≡ get_or (listing w.anchor w.logs) number []
  pub past : length (listing w.anchor w.logs) ≤ number → answer ≡ 8
  pub left : length (listing w.anchor w.logs) ≤ number → (before bytes : List ℕ) → length before ≡ line_bytes
      → bytes ≡ line_after Shut w.anchor w.logs number before → bytes ≡ before

-- Along every list of calls: in stage shut the listing shows, disk by disk and nothing else, the records that LogKept names; a call for a line, lent 73
-- bytes, is refused for nothing but a number past the last line; nor is a call for several lines, lent a whole number of lines.
unfoldable pub ListingShows : Type 0
ListingShows =
    (m : Machine) (s : Sizes) (budget : ℕ)
    → outcome m (format s budget) ≡ taken
    → (events : List Event)
    → allowed_all events (formatted m s budget).machine ≡ true
    → let n : Machine = (follow events (formatted m s budget)).machine in
    let t : Told = history events (formatted m s budget) nothing_told in
    n.core.stage ≡ Shut
    → ((disk : ℕ) → disk < (sizes_on n.world.anchor).disks → ShowsDisk t n.world disk)
    × DiskByDisk n.world
    × ((number : ℕ) → AnswersLine n.world number (number_of (result n (look (list_line number line_bytes))).answer))
    × ((first lines : ℕ) → number_of (result n (look (list_lines first (line_bytes * lines)))).answer
    ≡ number_of (result n (look (list_line first line_bytes))).answer)

-- Of two calls of the code for the line of a number, with any two states in stage shut, lent the same anchor and the same log disks, and
-- bytes of the same length: both answered the same, and where they were taken both left the same bytes.
unfoldable pub OneListingInCode : Type 0
OneListingInCode =
    (o p : Observed) (number : ℕ) (before other bytes others : List ℕ) → KeepsContract o → KeepsContract p
    → o.call ≡ look (list_line number (length before)) → p.call ≡ look (list_line number (length other))
    → o.carried.stage ≡ Shut → p.carried.stage ≡ Shut
    → o.entry.anchor ≡ p.entry.anchor → o.entry.logs ≡ p.entry.logs → length before ≡ length other
    → bytes ≡ line_after o.carried.stage o.entry.anchor o.entry.logs number before
    → others ≡ line_after p.carried.stage p.entry.anchor p.entry.logs number other
    → (o.reply.answer ≡ p.reply.answer) × (seen o ≡ taken → bytes ≡ others)

-- And of two calls of the code for several lines.
unfoldable pub OneListingOfLinesInCode : Type 0
OneListingOfLinesInCode =
    (o p : Observed) (first : ℕ) (before other bytes others : List ℕ) → KeepsContract o → KeepsContract p
    → o.call ≡ look (list_lines first (length before)) → p.call ≡ look (list_lines first (length other))
    → o.carried.stage ≡ Shut → p.carried.stage ≡ Shut
    → o.entry.anchor ≡ p.entry.anchor → o.entry.logs ≡ p.entry.logs → length before ≡ length other
    → bytes ≡ lines_after o.carried.stage o.entry.anchor o.entry.logs first before
    → others ≡ lines_after p.carried.stage p.entry.anchor p.entry.logs first other
    → (o.reply.answer ≡ p.reply.answer)
    × (seen o ≡ taken → (i : ℕ) → i < first_of o.reply.answer → part (line_bytes * i) line_bytes bytes ≡ part (line_bytes * i) line_bytes others)

-- Along every trace of the code's own calls, as ListingShows.
unfoldable pub ListingShowsInCode : Type 0
ListingShowsInCode =
    (o : Observed) (s : Sizes) → Formats o s
    → (events : List EventInCode) → AllowedAllInCode events (formatted_in_code o s)
    → let x : MachineInCode = (follow_in_code events (formatted_in_code o s)).machine in
    let t : Told = history_in_code events (formatted_in_code o s) nothing_told in
    x.carried.stage ≡ Shut
    → ((disk : ℕ) → disk < (sizes_on x.world.anchor).disks → ShowsDisk t (view_of x).world disk)
    × DiskByDisk (view_of x).world
    × ((p : Observed) (number : ℕ) → p.call ≡ look (list_line number line_bytes) → On x p
    → AnswersLine (view_of x).world number (number_of p.reply.answer))
    × ((p q : Observed) (first lines : ℕ) → p.call ≡ look (list_lines first (line_bytes * lines)) → q.call ≡ look (list_line first line_bytes)
    → On x p → On x q → number_of p.reply.answer ≡ number_of q.reply.answer)
