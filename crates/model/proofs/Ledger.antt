-- The store seen as records: the flushed and the buffered log, the pages by word, and the write sets. The proof's own state.
pub mod Entry
pub mod State
pub mod Order
-- Sums over records, and the law of one word.
pub mod Sums
pub mod Picks
pub mod Groups
pub mod Crash
pub mod Word
pub mod WriteSets
-- What holds of a ledger, and the steps that keep it.
pub mod Good
pub mod Update
pub mod Flush
pub mod Close
pub mod Checkpoint
-- The order of the records on the disks.
pub mod Lists
pub mod Positions
pub mod Ordered
pub mod Switch
