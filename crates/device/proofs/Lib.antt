-- Lists of actions one after the other under one budget; runs of words, stored or written.
pub mod Below
pub mod Memory
pub mod Ran
pub mod Ring
pub mod Runs
