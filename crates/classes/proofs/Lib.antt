-- Laws of a table as it is lent and as it is kept.
pub mod Tables
