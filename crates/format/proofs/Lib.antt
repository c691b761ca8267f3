-- The parts of a format, joined; its rows.
pub mod AnchorParts
pub mod Joined
pub mod Rows
