-- Laws of the parts of a restart.
pub mod Rows
pub mod Tails
pub mod Taking
pub mod Runs
pub mod Saving
pub mod Storeless
pub mod Facts
pub mod Checks
pub mod Stepping
