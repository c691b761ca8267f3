-- Laws that join the words of the head to model's view.
pub mod ByLength
pub mod InTable
-- The whole state: its lists read from the head, and written into it.
pub mod Capped
pub mod Laying
pub mod Handing
-- Calls that take a state by value.
pub mod Alike
pub mod Wrapped
