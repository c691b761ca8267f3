pub mod Undo
pub mod Groups
pub mod Scope
