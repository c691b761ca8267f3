-- A disk of a serving state, as the functions of `log` are lent it; words taken out of its log.
pub mod Tips
pub mod Disks
pub mod Malformed
pub mod Spans
-- One update taken back.
pub mod Compensated
-- All of them.
pub mod Standing
pub mod Unchanged
pub mod Undone
pub mod Pending
pub mod OneLeft
pub mod Noting
-- The call.
pub mod Scopes
pub mod Apart
pub mod Examining
pub mod Rolled
pub mod Aborts
pub mod ReadLog
pub mod Closing
