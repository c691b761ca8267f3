-- The state as a view of what a call takes by value and of the head of the lent work memory: nothing is lost, and each call goes on from
-- what the one before it left.
pub mod Laid
pub mod Head
pub mod Back
pub mod Fields
pub mod Seen
pub mod Shown
pub mod Listed
pub mod Calls
pub mod Restarts
pub mod Served
pub mod Own
