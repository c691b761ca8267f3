-- Bytes put in front of what is there.
pub mod Putting
