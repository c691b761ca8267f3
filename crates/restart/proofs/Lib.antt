-- Each call: its rows, and what it does when none applies.
pub mod Remaining
pub mod Beginning
pub mod Extents
pub mod Records
pub mod Backups
pub mod Steps
pub mod Ending
