-- Each call: its rows by the tests of the code, and its task by the functions that it calls.
pub mod SlotBounds
pub mod FirstRows
pub mod Readings
pub mod Differences
pub mod PlanRows
pub mod PlanReady
pub mod PlanMade
pub mod Updating
