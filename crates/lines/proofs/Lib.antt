-- The names of commands; the rest of a line, one byte more of it, its end; a line in pieces.
pub mod Names
pub mod Rest
pub mod Pieces
