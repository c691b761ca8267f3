-- What a line of input means, what has been read of one, the lines that the program writes, and its tally.
pub mod Line
pub mod After
pub mod Output
pub mod Counting
