pub mod Slots
pub mod Reading
pub mod Plans
pub mod Tasks
