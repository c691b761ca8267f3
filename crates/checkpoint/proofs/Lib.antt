-- A page copied; the stores of an end; the rows of the three calls.
pub mod Closing
pub mod Copies
pub mod Least
pub mod Marks
pub mod Waiting
