-- The calls keep the promise: what holds of the store between two calls, and that every call keeps it.
pub mod Cases
pub mod Rows
pub mod Accepted
pub mod View
pub mod WordsFor
pub mod Same
pub mod Crash
-- The steps that calls share: a flush, room in a buffer, a record appended.
pub mod Flush
pub mod Steady
pub mod Checks
pub mod Ready
pub mod OneMore
pub mod ClosingEntry
pub mod Logged
pub mod Entered
pub mod LogEnd
pub mod Linked
-- Format and restart end.
pub mod Puts
pub mod Anchor
pub mod Fresh
pub mod Format
pub mod End
-- Transactions: the plain table, and what they put.
pub mod PlainTable
pub mod Left
pub mod Told
pub mod BeginTable
pub mod Begin
pub mod SetClasses
pub mod UpdateRoom
pub mod UpdateOwners
pub mod UpdateTable
pub mod Update
pub mod Closed
pub mod Closing
pub mod Commit
pub mod Put
pub mod Compensation
pub mod Compensate
pub mod Undo
pub mod CloseAbort
pub mod Abort
pub mod AbortRows
-- Checkpoints.
pub mod Page
pub mod Copy
pub mod FlushAll
pub mod Starts
pub mod Later
pub mod NewStarts
pub mod ToldStarts
pub mod Switch
pub mod CheckpointEnd
-- All of them.
pub mod Truth
pub mod Buffered
pub mod Holding
pub mod Step
