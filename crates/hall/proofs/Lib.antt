-- The format at the start; the input byte by byte and in pieces; text that waits; what the code holds after a line and after a piece of one.
pub mod Starting
pub mod Feeding
pub mod Gathering
pub mod Holding
