-- The tests of a state's numbers, and its test by stage; a call's rows and task against `Gives`; its first lines and its end; a disk as
-- it is lent; a checkpoint made current.
pub mod Fitting
pub mod Entries
pub mod KnownSizes
pub mod Passing
pub mod PagesRight
pub mod ReplayRight
pub mod Verdicts
pub mod Given
pub mod Homes
pub mod Switches
-- Calls that take their state in two parts: their first checks and their end against `Serves`.
pub mod Behind
pub mod LentChecks
pub mod FirstChecks
pub mod Shown
pub mod Refusals
