-- The lines of a listing as they are laid into the lent bytes.
pub mod Laid
pub mod Sheets
pub mod Call
