-- A run: its memory of fates, and its steps.
pub mod Memory
pub mod Searching
pub mod Faults
pub mod Facts
pub mod Onward
pub mod Running
pub mod Taking
pub mod Backups
