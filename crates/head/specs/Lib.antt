pub mod Narrow
pub mod Saves
