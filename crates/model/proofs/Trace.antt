-- Traces of the code's own calls: each step is an event of the machine, each promise holds of the code, and each run of the machine is a
-- trace.
pub mod Events
pub mod Promises
pub mod Table
pub mod Commit
pub mod Answers
pub mod Listing
pub mod TwoTables
pub mod OtherWork
pub mod Converse
