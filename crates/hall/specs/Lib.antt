-- What the program does and puts out, and what the code holds of it.
pub mod Running
pub mod Held
