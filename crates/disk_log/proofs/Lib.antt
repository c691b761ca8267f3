-- Reading: laws of the definitions in the form in which the code meets them.
pub mod Decoding
pub mod Scanning
pub mod Rings
pub mod Fronts
pub mod FrontSteps
pub mod Surveying
pub mod Ready
-- Writing: runs of words set in a list, and runs of words stored in a ring.
pub mod Words
pub mod Stores
-- Appends.
pub mod Append
-- For callers: the next call's premises; and the premises can be met.
pub mod Next
