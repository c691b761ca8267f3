-- Columns of a line, lines laid into the lent bytes, and the rows of a listing as the code tests them.
pub mod Padding
pub mod Laid
pub mod Sheets
pub mod Disks
pub mod Calling
