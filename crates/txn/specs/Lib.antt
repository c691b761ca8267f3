pub mod Tasks
pub mod Opened
pub mod ClassChecks
