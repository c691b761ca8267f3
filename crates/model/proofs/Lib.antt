-- The theory of the definitions.
-- Counting, budgets, refusals, and what definitions in a code-like form mean.
pub mod Booleans
pub mod Below
pub mod Members
pub mod Run
pub mod Lengths
pub mod Counts
pub mod Storeless
pub mod Verdict
pub mod Returned
pub mod Meaning
pub mod PerDisk
pub mod Reading
pub mod Faults
pub mod Checked
pub mod Updates
-- Words and logs.
pub mod Parts
pub mod Xor
pub mod Ones
pub mod Differential
pub mod Reader
pub mod RecordSizes
pub mod Decode
pub mod Scan
pub mod RingThenBuffer
pub mod Ring
pub mod RoundTrip
pub mod Flush
pub mod Growth
-- The page memory, the reference, the table of transactions.
pub mod Bounds
pub mod KeptBases
pub mod Geometry
pub mod Slots
pub mod WriteSets
pub mod LaidOver
pub mod SetPlace
pub mod Places
pub mod Reserved
-- The store as records, and the records as words.
pub mod Ledger
pub mod Link
-- Restart as a sum over records.
pub mod Restart
-- The calls, and what they test of a state before they read it.
pub mod Store
pub mod ListRows
pub mod Tested
-- Every call hands back a state that passes the first test.
pub mod Sound
pub mod PowerLoss
pub mod CommitPoint
pub mod Remaining
pub mod Finish
pub mod Answers
pub mod ListingShows
-- Classes of transactions.
pub mod ClassLines
pub mod ClassTables
pub mod TwoTables
-- The state by value and in the lent work memory.
pub mod View
-- Computed tables.
pub mod Everything
pub mod Play
pub mod StageAlone
pub mod Positions
pub mod Blunders
pub mod Idle
pub mod BeginDisk
pub mod ClassDisks
pub mod OnesTold
pub mod OnPaper
pub mod Held
pub mod Example
pub mod AbortReads
-- The promises for traces of the code's own calls.
pub mod Trace
-- The log on paper.
pub mod Text
pub mod Columns
pub mod Clear
pub mod Order
pub mod Listing
