-- Each call: its rows by the tests of the code, and its task by the functions that it calls.
pub mod Beginning
pub mod Committed
pub mod Committing
pub mod ClassesSet
